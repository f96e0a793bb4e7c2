-- The tick that is told is the least at which a start event is missing.
use Rattle.std.specs.Prelude.{◌≡◌, ◌↔◌, ℕ, suc, ◌+◌, ◌≤◌, ◌<◌, Bool, true, false, cond, ◌&&◌, not, List, [], ◌∷◌, ◌++◌, Option, Some, None, nat_eq, nat_le, slice_get, flat_map, All}
use Rattle.std.proofs.Common.{refl, sym, ◌∙◌, ap, inl, inr, arith, subst}
use Rattle.std.proofs.lemmas.Bool.{cases_lt, ne_eqb}
use Rattle.std.proofs.lemmas.Bool.Decides.{nat_tests}
use Rattle.base.proofs.Numbers.{itself}
use Rattle.base.specs.declared.event.Event.{Event}
use Rattle.base.specs.declared.event.Act.TheVariants as act
use Rattle.syntax_tree.specs.Plain.{Trigger, periodic, at_event, Process, Program, Constant}
use Rattle.source_semantics.specs.Names.{processes, count_value}
use Rattle.source_semantics.specs.Config.{Doing, idle, active, waiting, Job, Config}
use Rattle.source_semantics.specs.Ranks.{by_rank}
use Rattle.source_semantics.specs.Starts.{Line, sets, occurs, Script, was_released_at, release_of, release_missing, releases_by, event_releases, first_of, is_due, periodic_releases, doing_time_out, time_out, time_outs, due, NoneMissing}
use Rattle.replay_due_events.specs.NextDue.{First, IsNextDue, sooner, is_after, is_empty, line_due, lines_due, release_from, release_still, activation_due, periodic_due, doing_due, job_due, waits_due, due_from, next_due, FramePasses, FramesPass}
use Rattle.replay_due_events.proofs.Least.{first_none, first_both, first_later, first_same}
use Rattle.replay_due_events.proofs.Periodic.{falls, from_low, from_falls, none_before, none_between, next_falls}

is_some : (es : List Event) → is_empty es ≡ false → es ≡ [] → ⊥
is_some es h e = let k : is_empty es ≡ true = ap is_empty e in absurd cc

is_none : (es : List Event) → is_empty es ≡ true → es ≡ []
is_none [] h = refl
is_none (e ∷ es) h = absurd cc

-- what there is at one tick alone
at_one : (r : ℕ → List Event) (n from : ℕ) → First (λ t. cond (nat_eq n t) (r t) []) from (cond (nat_le from n && not (is_empty (r n))) (Some n) None)
at_one r n from = by_case (nat_le from n) (is_empty (r n)) refl refl
  where
    elsewhere : (u : ℕ) → (n ≡ u → ⊥) → cond (nat_eq n u) (r u) [] ≡ []
    elsewhere u h = ap (λ b. cond b (r u) []) (ne_eqb n u h)

    here : cond (nat_eq n n) (r n) [] ≡ r n
    here = ap (λ b. cond b (r n) []) (itself n)

    nothing : (u : ℕ) → r n ≡ [] → cond (nat_eq n u) (r u) [] ≡ []
    nothing u h = elim (cases_lt n u) [
      | inl lt ↦ elsewhere u (λ e. absurd (omega (arith, lt, e)))
      | inr ge ↦ elim (cases_lt u n) [
        | inl lt ↦ elsewhere u (λ e. absurd (omega (arith, lt, e)))
        | inr le ↦ let e : n ≡ u = omega (arith, ge, le) in subst (λ k. cond (nat_eq n k) (r k) [] ≡ []) e (here ∙ h)
      ]
    ]

    by_case : (a b : Bool) → nat_le from n ≡ a → is_empty (r n) ≡ b → First (λ t. cond (nat_eq n t) (r t) []) from (cond (nat_le from n && not (is_empty (r n))) (Some n) None)
    by_case false b p q =
        let past : n < from = grind (arith, nat_tests) in
        rw p (λ u low. elsewhere u (λ e. absurd (omega (arith, past, low, e))))
    by_case true true p q = rw (p, q) (λ u low. nothing u (is_none (r n) q))
    by_case true false p q =
        let low : from ≤ n = grind (arith, nat_tests) in
        rw (p, q) (low, (λ e. is_some (r n) q (sym here ∙ e)), (λ u l high. elsewhere u (λ e. absurd (omega (arith, high, e)))))

lines_first : (g : Program) (c : Config) (from : ℕ) (ls : List Line) → First (λ t. event_releases g c t ls) from (lines_due g c from ls)
lines_first g c from [] = first_none from
lines_first g c from (sets u d v ∷ ls) = lines_first g c from ls
lines_first g c from (occurs u e ∷ ls) =
    first_both (λ t. cond (nat_eq u t) (releases_by g c t e 0 (processes g)) []) (λ t. event_releases g c t ls) from
    (line_due g c from (occurs u e)) (lines_due g c from ls) (at_one (λ t. releases_by g c t e 0 (processes g)) u from) (lines_first g c from ls)

released_other : (n u : ℕ) (d : Doing) → was_released_at n d ≡ true → (n ≡ u → ⊥) → was_released_at u d ≡ false
released_other n u idle h apart = refl
released_other n u (active r) h apart = grind (arith, nat_tests)
released_other n u (waiting r x since limit number) h apart = grind (arith, nat_tests)

some_release : (t k : ℕ) → release_of t k ∷ [] ≡ [] → ⊥
some_release t k e = absurd cc

periodic_first : (g : Program) (frame : Constant) (deadline first : Option Constant) (k from : ℕ) (j : Option Job) → 0 < count_value g frame
    → First (λ t. cond (is_due g t (periodic frame deadline first)) (release_missing t k j) []) from (activation_due g from (periodic frame deadline first) j)
periodic_first g frame deadline first k from None pos = λ u low. by_case u (falls (first_of g first) (count_value g frame) u)
  where
    by_case : (u : ℕ) (b : Bool) → cond b (release_missing u k None) [] ≡ []
    by_case u true = refl
    by_case u false = refl
periodic_first g frame deadline first k from (Some j) pos = by_case (was_released_at n j.doing) refl
  where
    f : ℕ
    f = first_of g first

    w : ℕ
    w = count_value g frame

    n : ℕ
    n = release_from f w from

    missing : ℕ → List Event
    missing t = cond (falls f w t) (release_missing t k (Some j)) []

    silent : (u : ℕ) → falls f w u ≡ false → missing u ≡ []
    silent u h = ap (λ b. cond b (release_missing u k (Some j)) []) h

    comes : (u : ℕ) → falls f w u ≡ true → was_released_at u j.doing ≡ false → missing u ≡ [] → ⊥
    comes u h a e = some_release u k (sym (ap (λ b. cond b [] (release_of u k ∷ [])) a) ∙ (sym (ap (λ b. cond b (release_missing u k (Some j)) []) h) ∙ e))

    came : (u : ℕ) → was_released_at u j.doing ≡ true → missing u ≡ []
    came u a = by_fall (falls f w u)
      where
        by_fall : (b : Bool) → cond b (release_missing u k (Some j)) [] ≡ []
        by_fall true = ap (λ b. cond b [] (release_of u k ∷ [])) a
        by_fall false = refl

    by_case : (b : Bool) → was_released_at n j.doing ≡ b → First missing from (Some (release_still w n j.doing))
    by_case false e = rw e (from_low f w from pos, comes n (from_falls f w from) e, (λ u low high. silent u (none_before f w from u pos low high)))
    by_case true e =
        let low : from ≤ n = from_low f w from pos in
        let later : was_released_at (n + w) j.doing ≡ false = released_other n (n + w) j.doing e (λ same. absurd (omega (arith, same, pos))) in
        rw e (
          omega (arith, low),
          comes (n + w) (next_falls f w n (from_falls f w from)) later,
          (λ u l high. elim (cases_lt u n) [
            | inl lt ↦ silent u (none_before f w from u pos l lt)
            | inr ge ↦ elim (cases_lt n u) [
              | inl more ↦ silent u (none_between f w n u (from_falls f w from) more high)
              | inr le ↦ let same : n ≡ u = omega (arith, ge, le) in came u (subst (λ i. was_released_at i j.doing ≡ true) same e)
            ]
          ]),
        )

activation_first : (g : Program) (a : Trigger) (k from : ℕ) (j : Option Job) → FramePasses g a → First (λ t. cond (is_due g t a) (release_missing t k j) []) from (activation_due g from a j)
activation_first g (periodic frame deadline first) k from j pos = periodic_first g frame deadline first k from j pos
activation_first g (at_event e frame deadline) k from j pos = first_none from

periodics_first : (g : Program) (c : Config) (from k : ℕ) (ps : List Process) → All (λ p. FramePasses g p.activation) ps → First (λ t. periodic_releases g c t k ps) from (periodic_due g c from k ps)
periodics_first g c from k [] all = first_none from
periodics_first g c from k (p ∷ ps) all =
    first_both (λ t. cond (is_due g t p.activation) (release_missing t k (slice_get c.jobs k)) []) (λ t. periodic_releases g c t (suc k) ps) from
    (activation_due g from p.activation (slice_get c.jobs k)) (periodic_due g c from (suc k) ps)
    (activation_first g p.activation k from (slice_get c.jobs k) (all 0 p (omega arith))) (periodics_first g c from (suc k) ps (λ i q below. all (suc i) q (omega (arith, below))))

and_true : (b : Bool) → (b && true) ≡ b
and_true true = refl
and_true false = refl

doing_first : (k from : ℕ) (d : Doing) → First (λ t. doing_time_out t k d) from (doing_due from d)
doing_first k from idle = first_none from
doing_first k from (active r) = first_none from
doing_first k from (waiting r x since limit number) =
    subst (λ b. First (λ t. doing_time_out t k (waiting r x since limit number)) from (cond b (Some (since + limit + 1)) None)) (and_true (nat_le from (since + limit + 1)))
    (at_one (λ t. record { tick = t; proc = k; act = act.TimeOut x number } ∷ []) (since + limit + 1) from)

job_first : (k from : ℕ) (j : Option Job) → First (λ t. time_out t k j) from (job_due from j)
job_first k from None = first_none from
job_first k from (Some j) = doing_first k from j.doing

waits_first : (c : Config) (from : ℕ) (ks : List ℕ) → First (λ t. flat_map (λ k. time_out t k (slice_get c.jobs k)) ks) from (waits_due c from ks)
waits_first c from [] = first_none from
waits_first c from (k ∷ ks) =
    first_both (λ t. time_out t k (slice_get c.jobs k)) (λ t. flat_map (λ i. time_out t i (slice_get c.jobs i)) ks) from
    (job_due from (slice_get c.jobs k)) (waits_due c from ks) (job_first k from (slice_get c.jobs k)) (waits_first c from ks)

-- the events of a tick, whoever has acted in it
abbrev all_due : Program → Script → Config → ℕ → List Event
all_due g s c t = event_releases g c t s.lines ++ (periodic_releases g c t 0 (processes g) ++ time_outs g c t)

all_first : (g : Program) (s : Script) (c : Config) → FramesPass g → First (all_due g s c) (due_from c) (next_due g s c)
all_first g s c pass =
    first_both (λ t. event_releases g c t s.lines) (λ t. periodic_releases g c t 0 (processes g) ++ time_outs g c t) (due_from c)
    (lines_due g c (due_from c) s.lines) (sooner (periodic_due g c (due_from c) 0 (processes g)) (waits_due c (due_from c) (by_rank g)))
    (lines_first g c (due_from c) s.lines)
    (first_both (λ t. periodic_releases g c t 0 (processes g)) (λ t. time_outs g c t) (due_from c)
    (periodic_due g c (due_from c) 0 (processes g)) (waits_due c (due_from c) (by_rank g))
    (periodics_first g c (due_from c) 0 (processes g) pass) (waits_first c (due_from c) (by_rank g)))

-- where somebody has acted in the tick reached, nothing is due in it
acted_due : (g : Program) (s : Script) (c : Config) → c.acted ≡ true → due g s c c.tick ≡ []
unfolding due
acted_due g s c h = rw (h, itself c.tick) refl

other_due : (g : Program) (s : Script) (c : Config) (u : ℕ) → (c.tick ≡ u → ⊥) → due g s c u ≡ all_due g s c u
unfolding due
other_due g s c u apart = ap (λ b. cond (c.acted && b) [] (all_due g s c u)) (ne_eqb c.tick u apart) ∙ none c.acted
  where
    none : (b : Bool) → cond (b && false) [] (all_due g s c u) ≡ all_due g s c u
    none true = refl
    none false = refl

idle_due : (g : Program) (s : Script) (c : Config) (u : ℕ) → c.acted ≡ false → due g s c u ≡ all_due g s c u
unfolding due
idle_due g s c u h = ap (λ b. cond (b && nat_eq c.tick u) [] (all_due g s c u)) h

pub next_is : (g : Program) (s : Script) (c : Config) → FramesPass g → IsNextDue g s c (next_due g s c)
next_is g s c pass = by_case c.acted refl
  where
    whole : First (all_due g s c) (due_from c) (next_due g s c)
    whole = all_first g s c pass

    by_case : (b : Bool) → c.acted ≡ b → First (due g s c) c.tick (next_due g s c)
    by_case true e =
        let starts : due_from c ≡ suc c.tick = ap (λ b. cond b (suc c.tick) c.tick) e in
        let later : First (all_due g s c) (suc c.tick) (next_due g s c) = subst (λ n. First (all_due g s c) n (next_due g s c)) starts whole in
        first_later (due g s c) c.tick (suc c.tick) (next_due g s c) (omega arith)
        (λ u low high. let is : c.tick ≡ u = omega (arith, low, high) in subst (λ k. due g s c k ≡ []) is (acted_due g s c e))
        (first_same (all_due g s c) (due g s c) (suc c.tick) (next_due g s c) (λ u low. sym (other_due g s c u (λ same. absurd (omega (arith, same, low))))) later)
    by_case false e =
        let starts : due_from c ≡ c.tick = ap (λ b. cond b (suc c.tick) c.tick) e in
        first_same (all_due g s c) (due g s c) c.tick (next_due g s c) (λ u low. sym (idle_due g s c u e)) (subst (λ n. First (all_due g s c) n (next_due g s c)) starts whole)

-- from the least tick to whether any is missing
pub told_by : (g : Program) (s : Script) (c : Config) (t : ℕ) (o : Option ℕ) → IsNextDue g s c o → NoneMissing g s c t ↔ (is_after t o ≡ true)
told_by g s c t None h = ((λ n. refl), (λ e u low high. h u low))
told_by g s c t (Some n) h = (
  (λ none. elim (cases_lt n t) [ inl lt ↦ absurd (h.1 (none n h.0 lt)) | inr ge ↦ is_low t n ge ]),
  (λ e u low high. h.2 u low (under t n u e high)),
)
  where
    is_low : (t n : ℕ) → t ≤ n → nat_le t n ≡ true
    is_low t n le = grind (arith, nat_tests)

    under : (t n u : ℕ) → nat_le t n ≡ true → u < t → u < n
    under t n u e high = grind (arith, nat_tests)

-- up to a tick, that tick included
pub up_to_tick : (g : Program) (s : Script) (c : Config) (t : ℕ) (o : Option ℕ) → IsNextDue g s c o → c.tick ≤ t → (NoneMissing g s c t × due g s c t ≡ []) ↔ (is_after (suc t) o ≡ true)
up_to_tick g s c t o h reached =
    let told : NoneMissing g s c (suc t) ↔ (is_after (suc t) o ≡ true) = told_by g s c (suc t) o h in (
      (λ both. told.0 (λ u low high. elim (cases_lt u t) [ inl lt ↦ both.0 u low lt | inr ge ↦ let is : t ≡ u = omega (arith, ge, high) in subst (λ k. due g s c k ≡ []) is both.1 ])),
      (λ e. ((λ u low high. told.1 e u low (omega (arith, high))), told.1 e t reached (omega arith))),
    )
