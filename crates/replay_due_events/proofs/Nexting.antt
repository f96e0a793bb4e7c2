-- When a start event is missing next, by the timings of a program, is when the meaning has it.
use Rattle.std.specs.Prelude.{◌≡◌, ◌↔◌, ℕ, zero, suc, ◌+◌, ◌<◌, All, IsTrue, Bool, true, false, cond, not, ◌&&◌, List, [], ◌∷◌, Option, Some, None, map, min, nat_le, slice_get, length}
use Rattle.std.proofs.Common.{refl, sym, ◌∙◌, ap, subst, arith, get_or}
use Rattle.std.proofs.lemmas.Bool.Decides.{nat_tests}
use Rattle.syntax_tree.specs.Plain.{Trigger, periodic, at_event, Process, Program}
use Rattle.source_semantics.specs.Config.{Config, Job}
use Rattle.source_semantics.specs.Ranks.{numbers_from}
use Rattle.replay_due_events.specs.NextDue.{activation_due, doing_due, is_after, job_due, periodic_due, sooner, waits_due, due_from, lines_due, next_in_order, FramePasses, FramesPass, is_empty, line_due}
use Rattle.base.specs.declared.event.Event.{Event}
use Rattle.source_semantics.specs.Names.{processes}
use Rattle.source_semantics.specs.Starts.{occurs, releases_by}
use Rattle.replay_due_events.specs.declared.timetable.Timing.{Timing}
use Rattle.script.specs.declared.script.ScriptLine.{ScriptLine}
use Rattle.script.specs.Meaning.{line_said, said}
use Rattle.replay_due_events.specs.Timings.{FrameCounts, FramesCount, first_in, released_by, timing_of, timings}
use Rattle.replay_due_events.proofs.Agreeing.{releases_agree}
use Rattle.replay_due_events.specs.Next.{jobs_due, timing_due, timings_due}

timing_agrees : (g : Program) (from : ℕ) (a : Trigger) (j : Option Job) → activation_due g from a j ≡ timing_due from (timing_of g a) j
timing_agrees g from (at_event e frame deadline) j = refl
timing_agrees g from (periodic frame deadline first) None = refl
timing_agrees g from (periodic frame deadline first) (Some j) = refl

pub timings_agree : (g : Program) (c : Config) (from k : ℕ) (ps : List Process) → periodic_due g c from k ps ≡ timings_due c.jobs from k (map (λ p. timing_of g p.activation) ps)
timings_agree g c from k [] = refl
timings_agree g c from k (p ∷ ps) =
    ap (λ o. sooner o (periodic_due g c from (suc k) ps)) (timing_agrees g from p.activation (slice_get c.jobs k))
    ∙ ap (sooner (timing_due from (timing_of g p.activation) (slice_get c.jobs k))) (timings_agree g c from (suc k) ps)

waits_from : (c : Config) (from k : ℕ) (js : List Job) → ((i : ℕ) → slice_get c.jobs (k + i) ≡ slice_get js i) → waits_due c from (numbers_from (length js) k) ≡ jobs_due from js
waits_from c from k [] at = refl
waits_from c from k (j ∷ js) at =
    let same : k + 0 ≡ k = omega arith in
    let here : slice_get c.jobs k ≡ Some j = ap (slice_get c.jobs) (sym same) ∙ at 0 in
    ap (λ o. sooner (job_due from o) (waits_due c from (numbers_from (length js) (suc k)))) here
    ∙ ap (sooner (doing_due from j.doing)) (waits_from c from (suc k) js (λ i. let on : suc k + i ≡ k + suc i = omega arith in ap (slice_get c.jobs) on ∙ at (suc i)))

pub waits_agree : (c : Config) (from n : ℕ) → length c.jobs ≡ n → waits_due c from (numbers_from n 0) ≡ jobs_due from c.jobs
waits_agree c from n many =
    ap (λ m. waits_due c from (numbers_from m 0)) (sym many)
    ∙ waits_from c from 0 c.jobs (λ i. let same : 0 + i ≡ i = omega arith in ap (slice_get c.jobs) same)

and_true : (b : Bool) → b ≡ b && true
and_true true = refl
and_true false = refl

least_after : (t a b : ℕ) → nat_le t (min a b) ≡ nat_le t a && nat_le t b
least_after t a b = by_case (nat_le t a) (nat_le t b) refl refl
  where
    by_case : (x y : Bool) → nat_le t a ≡ x → nat_le t b ≡ y → nat_le t (min a b) ≡ x && y
    by_case true true p q = grind (arith, nat_tests)
    by_case true false p q = grind (arith, nat_tests)
    by_case false y p q = grind (arith, nat_tests)

pub after_sooner : (t : ℕ) (a b : Option ℕ) → is_after t (sooner a b) ≡ is_after t a && is_after t b
after_sooner t None b = refl
after_sooner t (Some a) None = and_true (nat_le t a)
after_sooner t (Some a) (Some b) = least_after t a b

none_empty : (xs : List Event) → None ≡ first_in xs → is_empty xs ≡ true
none_empty [] e = refl
none_empty (x ∷ xs) e = absurd cc

some_full : (xs : List Event) (r : Event) → Some r ≡ first_in xs → is_empty xs ≡ false
some_full [] r e = absurd cc
some_full (x ∷ xs) r e = refl

module _ (g : Program) (c : Config) (from until u e : ℕ) (js : List Job) (xs : List Timing) (jobs : js ≡ c.jobs) (times : xs ≡ timings g) where
  released : released_by js u e 0 xs ≡ releases_by g c u e 0 (processes g)
  released = ap (λ l. released_by l u e 0 xs) jobs ∙ (ap (λ l. released_by c.jobs u e 0 l) times ∙ sym (releases_agree g c u e 0 (processes g)))

  and_false : (b : Bool) → b && false ≡ false
  and_false true = refl
  and_false false = refl

  pub line_none : None ≡ first_in (released_by js u e 0 xs) → true ≡ is_after until (line_due g c from (occurs u e))
  line_none none =
      let empty : is_empty (releases_by g c u e 0 (processes g)) ≡ true = none_empty (releases_by g c u e 0 (processes g)) (none ∙ ap first_in released) in
      sym (ap (λ b. is_after until (cond (nat_le from u && not b) (Some u) None)) empty ∙ ap (λ b. is_after until (cond b (Some u) None)) (and_false (nat_le from u)))

  pub line_some : (r : Event) (b : Bool) → Some r ≡ first_in (released_by js u e 0 xs) → b ≡ is_after until (cond (nat_le from u) (Some u) None) → b ≡ is_after until (line_due g c from (occurs u e))
  line_some r b some is =
      let full : is_empty (releases_by g c u e 0 (processes g)) ≡ false = some_full (releases_by g c u e 0 (processes g)) r (some ∙ ap first_in released) in
      is ∙ (ap (λ x. is_after until (cond x (Some u) None)) (and_true (nat_le from u)) ∙ sym (ap (λ x. is_after until (cond (nat_le from u && not x) (Some u) None)) full))

pub next_after : (g : Program) (c : Config) (ls : List ScriptLine) (end until from : ℕ) (js : List Job) (xs : List Timing) (a b d : Bool)
    → from ≡ due_from c → js ≡ c.jobs → xs ≡ timings g → length c.jobs ≡ length (processes g)
    → a ≡ is_after until (lines_due g c from (map line_said ls)) → b ≡ is_after until (timings_due js from 0 xs) → d ≡ is_after until (jobs_due from js)
    → a && (b && d) ≡ is_after until (next_in_order g (said ls end) c)
next_after g c ls end until from js xs a b d begins jobs times many by_lines by_clock by_waits =
    let la = is_after until (lines_due g c (due_from c) (map line_said ls)) in
    let ca = is_after until (periodic_due g c (due_from c) 0 (processes g)) in
    let wa = is_after until (waits_due c (due_from c) (numbers_from (length (processes g)) 0)) in
    let lines : a ≡ la = by_lines ∙ ap (λ f. is_after until (lines_due g c f (map line_said ls))) begins in
    let clock : b ≡ ca = by_clock ∙ (ap (λ f. is_after until (timings_due js f 0 xs)) begins
    ∙ (ap (λ l. is_after until (timings_due l (due_from c) 0 xs)) jobs
    ∙ (ap (λ l. is_after until (timings_due c.jobs (due_from c) 0 l)) times
    ∙ sym (ap (is_after until) (timings_agree g c (due_from c) 0 (processes g)))))) in
    let waits : d ≡ wa = by_waits ∙ (ap (λ f. is_after until (jobs_due f js)) begins
    ∙ (ap (λ l. is_after until (jobs_due (due_from c) l)) jobs
    ∙ sym (ap (is_after until) (waits_agree c (due_from c) (length (processes g)) many)))) in
    ap (λ x. x && (b && d)) lines
    ∙ (ap (λ x. la && (x && d)) clock
    ∙ (ap (λ x. la && (ca && x)) waits
    ∙ (sym (ap (λ x. la && x) (after_sooner until (periodic_due g c (due_from c) 0 (processes g)) (waits_due c (due_from c) (numbers_from (length (processes g)) 0))))
    ∙ sym (after_sooner until (lines_due g c (due_from c) (map line_said ls)) (sooner (periodic_due g c (due_from c) 0 (processes g)) (waits_due c (due_from c) (numbers_from (length (processes g)) 0)))))))

frame_counts : (g : Program) (a : Trigger) → FramePasses g a → FrameCounts (timing_of g a)
frame_counts g (periodic frame deadline first) passes = passes
frame_counts g (at_event e frame deadline) passes = tt

counts_from : (g : Program) (ps : List Process) → All (λ p. FramePasses g p.activation) ps → FramesCount (map (λ p. timing_of g p.activation) ps)
counts_from g [] all = λ k d lt. absurd (omega (arith, lt))
counts_from g (p ∷ ps) all = at (counts_from g ps (λ k d lt. all (suc k) d (omega (arith, lt))))
  where
    at : FramesCount (map (λ q. timing_of g q.activation) ps) → (k : ℕ) (d : Timing) → k < length (timing_of g p.activation ∷ map (λ q. timing_of g q.activation) ps)
        → FrameCounts (get_or (timing_of g p.activation ∷ map (λ q. timing_of g q.activation) ps) k d)
    at later zero d lt = frame_counts g p.activation (all 0 p (omega arith))
    at later (suc k) d lt = later k d (omega (arith, lt))

pub frames_count : (g : Program) (ts : List Timing) → ts ≡ timings g → FramesPass g → FramesCount ts
frames_count g ts e passes = subst FramesCount (sym e) (counts_from g (processes g) passes)

pub told : (P : Type 0) (r x : Bool) → r ≡ x → P ↔ (x ≡ true) → P ↔ IsTrue r
told P r x e h = ((λ p. e ∙ h.0 p), (λ t. h.1 (sym e ∙ t)))
