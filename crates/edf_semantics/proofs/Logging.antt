-- In the whole log each release is followed by its end within the deadline.
use Rattle.std.proofs.Common.{◌≡◌, ◌≤◌, ◌<◌, ◌+◌, ◌-◌, ◌⊎◌, ◌++◌, inl, inr, ℕ, zero, suc, List, [], ◌∷◌, Option, Some, append_assoc, arith, refl, ap, sym, subst, ◌∙◌, true, false}
use Rattle.std.specs.Prelude.{slice_get, IsSomeAnd}
use Rattle.std.proofs.lemmas.Bool.{cases_lt}
use Rattle.base.specs.declared.event.Event.{Event}
use Rattle.base.specs.declared.event.Act.TheVariants as act
use Rattle.source_semantics.specs.Source.{first_end}
use Rattle.source_semantics.specs.Source as source
use Rattle.machine_semantics.specs.Image.{Image, Process, Script}
use Rattle.machine_semantics.specs.Starts.{starts}
use Rattle.machine_semantics.specs.Tick.{run_picked}
use Rattle.sched_timing.specs.Views.{is_due}
use Rattle.sched_timing.proofs.Quiet.{is_release}
use Rattle.sched_timing.proofs.Logs.{Each, each_weaker, IsStart, starts_fair, IsLater, picked_later, end_of, first_here, Soon, soon_append, some_weaker}
use Rattle.edf_semantics.specs.Run.{Marked, candidate, chosen_at, tick, state_at, events_from, events}
use Rattle.edf_semantics.specs.InTime.{told_at}

next_state : (image : Image) (script : Script) (t : ℕ) → state_at image script (suc t) ≡ (tick image script t (state_at image script t)).state
unfolding state_at
next_state image script t = refl

-- the events of the process that runs in tick t
abbrev pub acted_at : Image → Script → ℕ → List Event
acted_at image script t = (run_picked image t (starts image script t (state_at image script t).state).state (candidate (chosen_at image script t (state_at image script t)))).events

told_is : (image : Image) (script : Script) (t : ℕ) → told_at image script t ≡ (starts image script t (state_at image script t).state).events ++ acted_at image script t
unfolding tick
told_is image script t = refl

-- an activation that is released at tick t ends at a tick within the bound
abbrev pub EndsSoon : Image → Script → (k bound t : ℕ) → Type 0
EndsSoon image script k bound t = (e : ℕ) × (t ≤ e) × (e < t + bound) × (acted_at image script e ≡ end_of e k ∷ [])

module _ (image : Image) (script : Script) (k bound : ℕ) (p : Process) (process : slice_get image.processes k ≡ Some p)
    (ends : (t : ℕ) → is_due script t p ≡ true → t + bound ≤ script.end_tick → EndsSoon image script k bound t) where
  -- each release of the list is followed by an end within the bound
  abbrev AllEnd : List Event → Type 0
  AllEnd [] = Unit {0}
  AllEnd (x ∷ xs) = (x ≡ record { tick = x.tick; proc = k; act = act.Release } → x.tick + bound ≤ script.end_tick → IsSomeAnd (first_end k xs) (λ u. u < x.tick + bound)) × AllEnd xs

  abbrev rest_of : (n t : ℕ) → List Event
  rest_of n t = events_from image script n t (state_at image script t)

  -- what comes after the events of a tick
  rest_is : (n t : ℕ) → rest_of (suc n) t ≡ (starts image script t (state_at image script t).state).events ++ (acted_at image script t ++ rest_of n (suc t))
  unfolding events_from
  rest_is n t =
      let later : t + 1 ≡ suc t = omega arith in
      let next : events_from image script n (t + 1) (tick image script t (state_at image script t)).state ≡ rest_of n (suc t) =
      ap (λ (u : ℕ). events_from image script n u (tick image script t (state_at image script t)).state) later ∙ ap (λ (s : Marked). events_from image script n (suc t) s) (sym (next_state image script t)) in
      ap (λ (es : List Event). es ++ events_from image script n (t + 1) (tick image script t (state_at image script t)).state) (told_is image script t)
      ∙ (append_assoc (starts image script t (state_at image script t).state).events (acted_at image script t) (events_from image script n (t + 1) (tick image script t (state_at image script t)).state)
      ∙ ap (λ (es : List Event). (starts image script t (state_at image script t).state).events ++ (acted_at image script t ++ es)) next)

  start_ticks : (t e : ℕ) → t ≤ e → Each (λ x. x.tick ≤ e) (starts image script t (state_at image script t).state).events
  start_ticks t e le = each_weaker (IsStart image script t) (λ x. x.tick ≤ e) (starts image script t (state_at image script t).state).events (λ x is. omega (arith, is.tick, le)) (starts_fair image script t (state_at image script t).state)

  later_ticks : (t e : ℕ) → t ≤ e → Each (λ x. x.tick ≤ e) (acted_at image script t)
  later_ticks t e le = each_weaker (IsLater t) (λ x. x.tick ≤ e) (acted_at image script t) (λ x is. omega (arith, is.tick, le)) (picked_later image t (starts image script t (state_at image script t).state).state (candidate (chosen_at image script t (state_at image script t))))

  same_or_later : (t e : ℕ) → t ≤ e → (t ≡ e) ⊎ (suc t ≤ e)
  same_or_later t e le = elim (cases_lt t e) [ inl less ↦ inr (omega (arith, less)) | inr not_less ↦ inl (omega (arith, le, not_less)) ]

  -- the end of tick e is found from any earlier tick on
  end_found : (n t e : ℕ) → t ≤ e → e < t + n → acted_at image script e ≡ end_of e k ∷ [] → Soon k e (acted_at image script t ++ rest_of (n - 1) (suc t))
  end_found zero t e le less ended = absurd (omega (arith, le, less))
  end_found (suc n) t e le less ended = elim (same_or_later t e le) [
    | inl same ↦
        let here : Soon k e (end_of e k ∷ rest_of (suc n - 1) (suc e)) = subst (λ (o : Option ℕ). IsSomeAnd o (λ u. u ≤ e)) (sym (first_here k e (rest_of (suc n - 1) (suc e)))) (omega arith) in
        subst (λ (u : ℕ). Soon k e (acted_at image script u ++ rest_of (suc n - 1) (suc u))) (sym same) (subst (λ (es : List Event). Soon k e (es ++ rest_of (suc n - 1) (suc e))) (sym ended) here)
    | inr later ↦
        soon_append k e (acted_at image script t) (rest_of (suc n - 1) (suc t)) (later_ticks t e le)
        (by n (omega (arith, less)) later (end_found n (suc t) e later (omega (arith, less)) ended))
  ] where
    by : (m : ℕ) → e < suc t + m → suc t ≤ e → Soon k e (acted_at image script (suc t) ++ rest_of (m - 1) (suc (suc t))) → Soon k e (rest_of (suc m - 1) (suc t))
    by zero less' later inner = absurd (omega (arith, less', later))
    by (suc m) less' later inner =
        let steps : suc m ≡ suc (suc m) - 1 = omega arith in
        let fewer : suc m - 1 ≡ m = omega arith in
        subst (λ (x : ℕ). Soon k e (rest_of x (suc t))) steps
        (subst (λ (es : List Event). Soon k e es) (sym (rest_is m (suc t)))
        (soon_append k e (starts image script (suc t) (state_at image script (suc t)).state).events (acted_at image script (suc t) ++ rest_of m (suc (suc t))) (start_ticks (suc t) e later)
        (subst (λ (x : ℕ). Soon k e (acted_at image script (suc t) ++ rest_of x (suc (suc t)))) fewer inner)))

  -- the events of the start of a tick, before others
  starts_end : (t : ℕ) (xs ys : List Event) → Each (IsStart image script t) xs → (is_due script t p ≡ true → t + bound ≤ script.end_tick → (e : ℕ) × (t ≤ e) × (e < t + bound) × Soon k e ys) → AllEnd ys → AllEnd (xs ++ ys)
  starts_end t [] ys fair found all = all
  starts_end t (x ∷ xs) ys fair found all = (
    (λ is within.
        (let own : x.proc ≡ k = ap (λ (y : Event). y.proc) is in
        let due : is_due script t p ≡ true = fair.0.due p (ap (λ (j : ℕ). slice_get image.processes j) own ∙ process) (ap (λ (y : Event). y.act) is) in
        let f : (e : ℕ) × (t ≤ e) × (e < t + bound) × Soon k e ys = found due (omega (arith, within, fair.0.tick)) in
        some_weaker (first_end k (xs ++ ys)) f.0 (x.tick + bound) (omega (arith, f.2, fair.0.tick))
        (soon_append k f.0 xs ys (each_weaker (IsStart image script t) (λ y. y.tick ≤ f.0) xs (λ y of. omega (arith, of.tick, f.1)) fair.1) f.3))),
    starts_end t xs ys fair.1 found all,
  )

  -- those of the process that runs
  acts_end : (t : ℕ) (xs ys : List Event) → Each (IsLater t) xs → AllEnd ys → AllEnd (xs ++ ys)
  acts_end t [] ys later all = all
  acts_end t (x ∷ xs) ys later all = ((λ is within. absurd (let yes : is_release x.act ≡ true = ap (λ (y : Event). is_release y.act) is in let both : true ≡ false = sym yes ∙ later.0.quiet in cc)), acts_end t xs ys later.1 all)

  rest_none : (t : ℕ) → rest_of 0 t ≡ []
  unfolding events_from
  rest_none t = refl

  all_end : (n t : ℕ) → t + n ≡ script.end_tick → AllEnd (rest_of n t)
  all_end zero t is = subst AllEnd (sym (rest_none t)) tt
  all_end (suc n) t is =
      subst AllEnd (sym (rest_is n t))
      (starts_end t (starts image script t (state_at image script t).state).events (acted_at image script t ++ rest_of n (suc t)) (starts_fair image script t (state_at image script t).state)
      (λ due within.
      (let f : EndsSoon image script k bound t = ends t due within in
      let fewer : suc n - 1 ≡ n = omega arith in
      (f.0, f.1, f.2, subst (λ (x : ℕ). Soon k f.0 (acted_at image script t ++ rest_of x (suc t))) fewer (end_found (suc n) t f.0 f.1 (omega (arith, f.2, within, is)) f.3))))
      (acts_end t (acted_at image script t) (rest_of n (suc t)) (picked_later image t (starts image script t (state_at image script t).state).state (candidate (chosen_at image script t (state_at image script t)))) (all_end n (suc t) (omega (arith, is)))))

  ends_in : (earlier later : List Event) (t : ℕ) → AllEnd (earlier ++ record { tick = t; proc = k; act = act.Release } ∷ later) → t + bound ≤ script.end_tick → IsSomeAnd (first_end k later) (λ u. u < t + bound)
  ends_in [] later t all within = all.0 refl within
  ends_in (x ∷ earlier) later t all within = ends_in earlier later t all.1 within

  pub log_ends : source.EndsWithin k bound script.end_tick (events image script)
  unfolding events state_at
  log_ends earlier later t is within = ends_in earlier later t (subst AllEnd is (all_end script.end_tick 0 (omega arith))) within
