-- An act that changes neither what processes are doing nor who is inside a monitor leaves its process the first.
use Rattle.std.specs.Prelude.{◌≡◌, ◌+◌, IfOk, IfSome, Result, Ok, Err, ℕ, zero, suc, Bool, true, false, cond, ◌&&◌, ◌||◌, not, List, [], ◌∷◌, ◌++◌, Option, Some, None, is_some, map, nat_eq, nat_lt, option_map, position, slice_get, flat_map}
use Rattle.std.proofs.Common.{refl, sym, ◌∙◌, ap, inl, inr, subst}
use Rattle.std.proofs.lemmas.Option.{none-some, same_Some, slice_get-map}
use Rattle.base.specs.declared.event.Event.{Event}
use Rattle.base.specs.declared.event.Act.{Act}
use Rattle.base.specs.declared.event.Act.TheVariants as act
use Rattle.syntax_tree.specs.Plain.{Process, Program}
use Rattle.source_semantics.specs.Names.{processes}
use Rattle.source_semantics.specs.Config.{Config, Doing, Hold, Job, active, at_tick, changed, idle, inside, is_process, is_ready, job_calls, queue, waiting, with_jobs}
use Rattle.base.specs.Words.{of_bool}
use Rattle.source_semantics.specs.Next.{Next, given}
use Rattle.source_semantics.specs.Ranks.{by_rank, comes_before, rank_inside}
use Rattle.source_semantics.specs.Run.{Action, gets, puts, enters, leaves, waits, signals, broadcasts, asks_empty, raises, ends}
use Rattle.source_semantics.specs.Source.{IsFirst, Step, acts, before, effect, is_empty, job_next, ready_from, save_hold, save_job, saved, signalled}
use Rattle.source_semantics.specs.Starts.{Line, Script, device_value, doing_time_out, due, event_releases, is_due, occurs, periodic_releases, release_missing, releases_by, sets, time_out, time_outs, waits_for_event, was_released_at}
use Rattle.replay_state.proofs.Positions.{position_mapped}
use Rattle.replay_due_events.specs.Accepts.{Accepts}
use Rattle.replay_accept.specs.Judged.{IsReady}
use Rattle.replay_accept.specs.Running.{IsFirstOf, keeps_first}

-- ---- start events are releases and time-outs

abbrev starting : Act → Bool
starting act.Release = true
starting (act.TimeOut x n) = true
starting _ = false

abbrev all_start : List Event → Bool
all_start [] = true
all_start (e ∷ es) = starting e.act && all_start es

all_both : (xs ys : List Event) → all_start xs ≡ true → all_start ys ≡ true → all_start (xs ++ ys) ≡ true
all_both [] ys one two = two
all_both (x ∷ xs) ys one two = by_case (starting x.act) one (λ h. all_both xs ys h two)
  where
    by_case : (b : Bool) → b && all_start xs ≡ true → (all_start xs ≡ true → all_start (xs ++ ys) ≡ true) → b && all_start (xs ++ ys) ≡ true
    by_case true h rest = rest h
    by_case false h rest = absurd cc

all_if : (b : Bool) (xs : List Event) → all_start xs ≡ true → all_start (cond b xs []) ≡ true
all_if true xs h = h
all_if false xs h = refl

missing_start : (t k : ℕ) (o : Option Job) → all_start (release_missing t k o) ≡ true
missing_start t k None = refl
missing_start t k (Some j) = by_case (was_released_at t j.doing)
  where
    by_case : (b : Bool) → all_start (cond b [] (record { tick = t; proc = k; act = act.Release } ∷ [])) ≡ true
    by_case true = refl
    by_case false = refl

by_start : (g : Program) (c : Config) (t e k : ℕ) (ps : List Process) → all_start (releases_by g c t e k ps) ≡ true
by_start g c t e k [] = refl
by_start g c t e k (p ∷ ps) =
    all_both (cond (waits_for_event g e p.activation) (release_missing t k (slice_get c.jobs k)) []) (releases_by g c t e (suc k) ps)
    (all_if (waits_for_event g e p.activation) (release_missing t k (slice_get c.jobs k)) (missing_start t k (slice_get c.jobs k))) (by_start g c t e (suc k) ps)

events_start : (g : Program) (c : Config) (t : ℕ) (ls : List Line) → all_start (event_releases g c t ls) ≡ true
events_start g c t [] = refl
events_start g c t (sets u d v ∷ ls) = events_start g c t ls
events_start g c t (occurs u e ∷ ls) =
    all_both (cond (nat_eq u t) (releases_by g c t e 0 (processes g)) []) (event_releases g c t ls)
    (all_if (nat_eq u t) (releases_by g c t e 0 (processes g)) (by_start g c t e 0 (processes g))) (events_start g c t ls)

periodic_start : (g : Program) (c : Config) (t k : ℕ) (ps : List Process) → all_start (periodic_releases g c t k ps) ≡ true
periodic_start g c t k [] = refl
periodic_start g c t k (p ∷ ps) =
    all_both (cond (is_due g t p.activation) (release_missing t k (slice_get c.jobs k)) []) (periodic_releases g c t (suc k) ps)
    (all_if (is_due g t p.activation) (release_missing t k (slice_get c.jobs k)) (missing_start t k (slice_get c.jobs k))) (periodic_start g c t (suc k) ps)

over_start : (t k : ℕ) (o : Option Job) → all_start (time_out t k o) ≡ true
over_start t k None = refl
over_start t k (Some j) = by_case j.doing
  where
    if_over : (b : Bool) (x n : ℕ) → all_start (cond b (record { tick = t; proc = k; act = act.TimeOut x n } ∷ []) []) ≡ true
    if_over true x n = refl
    if_over false x n = refl

    by_case : (d : Doing) → all_start (doing_time_out t k d) ≡ true
    by_case idle = refl
    by_case (active r) = refl
    by_case (waiting r x since limit number) = if_over (nat_eq (since + limit + 1) t) x number

outs_start : (c : Config) (t : ℕ) (ks : List ℕ) → all_start (flat_map (λ k. time_out t k (slice_get c.jobs k)) ks) ≡ true
outs_start c t [] = refl
outs_start c t (k ∷ ks) = all_both (time_out t k (slice_get c.jobs k)) (flat_map (λ i. time_out t i (slice_get c.jobs i)) ks) (over_start t k (slice_get c.jobs k)) (outs_start c t ks)

due_start : (g : Program) (s : Script) (c : Config) (t : ℕ) → all_start (due g s c t) ≡ true
unfolding due
due_start g s c t = by_case (c.acted && nat_eq c.tick t)
  where
    all : List Event
    all = event_releases g c t s.lines ++ (periodic_releases g c t 0 (processes g) ++ time_outs g c t)

    by_case : (b : Bool) → all_start (cond b [] all) ≡ true
    by_case true = refl
    by_case false =
        all_both (event_releases g c t s.lines) (periodic_releases g c t 0 (processes g) ++ time_outs g c t) (events_start g c t s.lines)
        (all_both (periodic_releases g c t 0 (processes g)) (time_outs g c t) (periodic_start g c t 0 (processes g)) (outs_start c t (by_rank g)))

first_starts : (es later : List Event) (e : Event) → all_start es ≡ true → es ≡ e ∷ later → starting e.act ≡ true
first_starts es later e all is = by_case (starting e.act) (sym (ap all_start is) ∙ all)
  where
    by_case : (b : Bool) → b && all_start later ≡ true → b ≡ true
    by_case true h = refl
    by_case false h = h

not_both : (a : Act) → keeps_first a ≡ true → starting a ≡ true → ⊥
not_both act.Release k s = absurd cc
not_both (act.TimeOut x n) k s = absurd cc
not_both (act.Get d v) k s = absurd cc
not_both (act.Put d v) k s = absurd cc
not_both (act.Enter m) k s = absurd cc
not_both (act.Leave m) k s = absurd cc
not_both (act.Wait x) k s = absurd cc
not_both (act.Signal x w) k s = absurd cc
not_both (act.Broadcast x n) k s = absurd cc
not_both (act.Empty x b) k s = absurd cc
not_both (act.Raise n) k s = absurd cc
not_both act.End k s = absurd cc

-- ---- the same processes are ready, and the same are inside

abbrev doings : Config → List Doing
doings c = map (λ (j : Job). j.doing) c.jobs

abbrev occupants : Config → List (Option ℕ)
occupants c = map (λ (h : Hold). h.occupant) c.holds

record Alike (c d : Config) : Type 0 where
  pub doing : doings d ≡ doings c
  pub occupant : occupants d ≡ occupants c

alike_then : (b c d : Config) → Alike b c → Alike c d → Alike b d
alike_then b c d p q = record { doing = q.doing ∙ p.doing; occupant = q.occupant ∙ p.occupant }

map_changed : {A B : Type 0} (h : A → B) (f : A → A) (k : ℕ) (xs : List A) → ((x : A) → h (f x) ≡ h x) → map h (changed f k xs) ≡ map h xs
map_changed h f k [] same = refl
map_changed h f zero (x ∷ xs) same = ap (λ y. y ∷ map h xs) (same x)
map_changed h f (suc k) (x ∷ xs) same = ap (λ l. h x ∷ l) (map_changed h f k xs same)

alike_jobs : (c : Config) (f : Job → Job) (k : ℕ) → ((j : Job) → (f j).doing ≡ j.doing) → Alike c (with_jobs c (changed f k c.jobs))
alike_jobs c f k same = record { doing = map_changed (λ (j : Job). j.doing) f k c.jobs same; occupant = refl }

alike_saved : (c : Config) (t k : ℕ) (n : Next) → Alike c (saved (at_tick c t true) k n)
alike_saved c t k n = by_case (inside c k)
  where
    d : Config
    d = with_jobs (at_tick c t true) (changed (save_job n) k c.jobs)

    jobs : doings d ≡ doings c
    jobs = map_changed (λ (j : Job). j.doing) (save_job n) k c.jobs (λ j. refl)

    by_case : (o : Option ℕ) → Alike c (save_hold o n.monitor d)
    by_case None = record { doing = jobs; occupant = refl }
    by_case (Some m) = record { doing = jobs; occupant = map_changed (λ (h : Hold). h.occupant) (λ h. record { vars = n.monitor; occupant = h.occupant }) m c.holds (λ h. refl) }

signal_changes : (x : ℕ) (q : List ℕ) (c : Config) → keeps_first (signalled x q c).act ≡ true → ⊥
signal_changes x [] c h = absurd cc
signal_changes x (k ∷ ks) c h = absurd cc

alike_effect : (g : Program) (s : Script) (t k : ℕ) (a : Action) (c : Config) → keeps_first (effect g s t k a c).act ≡ true → Alike c (effect g s t k a c).config
alike_effect g s t k (gets d) c h = alike_jobs c (λ (i : Job). job_calls (given (Some (device_value s t d)) i.calls) i) k (λ j. refl)
alike_effect g s t k (puts d v) c h = record { doing = refl; occupant = refl }
alike_effect g s t k (enters m) c h = absurd cc
alike_effect g s t k (leaves m) c h = absurd cc
alike_effect g s t k (waits x limit n) c h = absurd cc
alike_effect g s t k (signals x) c h = absurd (signal_changes x (queue c x) c h)
alike_effect g s t k (broadcasts x) c h = absurd cc
alike_effect g s t k (asks_empty x) c h = alike_jobs c (λ (i : Job). job_calls (given (Some (of_bool (is_empty (queue c x)))) i.calls) i) k (λ j. refl)
alike_effect g s t k (raises n) c h = absurd cc
alike_effect g s t k ends c h = absurd cc

-- ---- so the first is the same

inside_alike : (c d : Config) → Alike c d → (k : ℕ) → inside d k ≡ inside c k
inside_alike c d same k =
    sym (position_mapped (λ (h : Hold). h.occupant) (is_process k) d.holds)
    ∙ (ap (position (is_process k)) same.occupant
    ∙ position_mapped (λ (h : Hold). h.occupant) (is_process k) c.holds)

abbrev ready_of : ℕ → List Doing → List ℕ
ready_of k [] = []
ready_of k (d ∷ ds) = cond (is_ready d) (k ∷ ready_of (suc k) ds) (ready_of (suc k) ds)

ready_by_doing : (k : ℕ) (js : List Job) → ready_from k js ≡ ready_of k (map (λ (j : Job). j.doing) js)
ready_by_doing k [] = refl
ready_by_doing k (j ∷ js) = ap (λ l. cond (is_ready j.doing) (k ∷ l) l) (ready_by_doing (suc k) js)

abbrev taken : Program → (j k : ℕ) → Option ℕ → Option ℕ → Bool
taken g j k a b = nat_lt (rank_inside g j a) (rank_inside g k b) || (nat_eq (rank_inside g j a) (rank_inside g k b) && (is_some a && not (is_some b)))

taken_alike : (g : Program) (c d : Config) → Alike c d → (j k : ℕ) → comes_before g d j k ≡ comes_before g c j k
taken_alike g c d same j k = ap (λ a. taken g j k a (inside d k)) (inside_alike c d same j) ∙ ap (taken g j k (inside c j)) (inside_alike c d same k)

before_alike : (g : Program) (c d : Config) → Alike c d → (k : ℕ) (js : List ℕ) → before g d k js ≡ before g c k js
before_alike g c d same k [] = refl
before_alike g c d same k (j ∷ js) =
    ap (λ b. cond b (j ∷ before g d k js) (before g d k js)) (taken_alike g c d same j k)
    ∙ ap (λ l. cond (comes_before g c j k) (j ∷ l) l) (before_alike g c d same k js)

first_alike : (g : Program) (c d : Config) → Alike c d → (k : ℕ) → IsFirst g c k → IsFirst g d k
first_alike g c d same k first =
    before_alike g c d same k (ready_from 0 d.jobs)
    ∙ (ap (before g c k) (ready_by_doing 0 d.jobs ∙ (ap (ready_of 0) same.doing ∙ sym (ready_by_doing 0 c.jobs)))
    ∙ first)

ready_alike : (c d : Config) → Alike c d → (k : ℕ) → IsReady c k → IsReady d k
ready_alike c d same k ready = by_case (slice_get d.jobs k) refl
  where
    doing : option_map (λ (j : Job). j.doing) (slice_get d.jobs k) ≡ Some ready.job.doing
    doing =
        sym (slice_get-map (λ (j : Job). j.doing) d.jobs k)
        ∙ (ap (λ l. slice_get l k) same.doing
        ∙ (slice_get-map (λ (j : Job). j.doing) c.jobs k ∙ ap (option_map (λ (j : Job). j.doing)) ready.state))

    by_case : (o : Option Job) → slice_get d.jobs k ≡ o → IsReady d k
    by_case None e = absurd (none-some ready.job.doing (sym (ap (option_map (λ (j : Job). j.doing)) e) ∙ doing))
    by_case (Some i) e =
        let is : i.doing ≡ ready.job.doing = same_Some i.doing ready.job.doing (sym (ap (option_map (λ (j : Job). j.doing)) e) ∙ doing) in
        record { job = i; state = e; ready = ap is_ready is ∙ ready.ready }

step_keeps : (g : Program) (s : Script) (c : Config) (e : Event) (new : Config) → Step g s c e new → keeps_first e.act ≡ true → IsFirstOf g new (Some e.proc)
step_keeps g s c e new step keeps = elim step.comes [
  | inl starts ↦ absurd (not_both e.act keeps (first_starts (due g s c e.tick) starts.later e (due_start g s c e.tick) starts.first))
  | inr does ↦
      let n : Next = job_next c e.proc does.process does.job g in
      let d : Config = saved (at_tick c e.tick true) e.proc n in
      let after : Config = (effect g s e.tick e.proc n.action d).config in
      let same : Alike c after = alike_then c d after (alike_saved c e.tick e.proc n) (alike_effect g s e.tick e.proc n.action d (sym (ap keeps_first does.told) ∙ keeps)) in
      let ready : IsReady c e.proc = record { job = does.job; state = does.state; ready = does.ready } in
      subst (λ (x : Config). IsFirstOf g x (Some e.proc)) (sym does.after) (ready_alike c after same e.proc ready, first_alike g c after same e.proc does.first)
]

pub kept_first : {E : Type 0} (g : Program) (s : Script) (c : Config) (e : Event) (r : Result Bool E) (new : Config) (o : Option ℕ) → IfOk r (λ b. Accepts g s c e b new)
    → IfSome o (λ k. (r ≡ Ok true) × (keeps_first e.act ≡ true) × (k ≡ e.proc)) → IsFirstOf g new o
kept_first g s c e r new None accepts is = tt
kept_first g s c e (Ok true) new (Some k) step is = subst (λ (i : ℕ). IsFirstOf g new (Some i)) (sym is.2) (step_keeps g s c e new step is.1)
kept_first g s c e (Ok false) new (Some k) accepts is = let no = is.0 in absurd cc
kept_first g s c e (Err x) new (Some k) accepts is = let no = is.0 in absurd cc
