-- The start events that are due by the timings of a program are those of the meaning.
use Rattle.std.specs.Prelude.{◌≡◌, ℕ, suc, ◌&&◌, Bool, true, false, cond, List, [], ◌∷◌, ◌++◌, Option, Some, None, map, slice_get, nat_eq}
use Rattle.std.proofs.Common.{refl, sym, ◌∙◌, ap}
use Rattle.base.specs.declared.event.Event.{Event}
use Rattle.syntax_tree.specs.Plain.{Trigger, periodic, at_event, Process, Program}
use Rattle.source_semantics.specs.Names.{processes}
use Rattle.source_semantics.specs.Config.{Config, Job}
use Rattle.source_semantics.specs.Ranks.{by_rank}
use Rattle.source_semantics.specs.Starts.{due, event_releases, is_due, periodic_releases, release_missing, release_of, releases_by, time_outs, waits_for_event}
use Rattle.script.specs.declared.script.ScriptLine.{ScriptLine}
use Rattle.script.specs.declared.script.ScriptLine.TheVariants as line_is
use Rattle.replay_due_events.specs.declared.timetable.Timing.{Timing}
use Rattle.script.specs.Meaning.{line_said, said}
use Rattle.replay_due_events.specs.Timings.{clocked, expired, first_in, is_at, is_clocked, released_by, released_in, timing_of, timings}

pub releases_agree : (g : Program) (c : Config) (t e k : ℕ) (ps : List Process) → releases_by g c t e k ps ≡ released_by c.jobs t e k (map (λ p. timing_of g p.activation) ps)
releases_agree g c t e k [] = refl
releases_agree g c t e k (p ∷ ps) =
    ap (λ xs. xs ++ releases_by g c t e (suc k) ps) (by_case p.activation)
    ∙ ap (λ xs. cond (is_at e (timing_of g p.activation)) (release_missing t k (slice_get c.jobs k)) [] ++ xs) (releases_agree g c t e (suc k) ps)
  where
    by_case : (a : Trigger) → cond (waits_for_event g e a) (release_missing t k (slice_get c.jobs k)) [] ≡ cond (is_at e (timing_of g a)) (release_missing t k (slice_get c.jobs k)) []
    by_case (periodic frame deadline first) = refl
    by_case (at_event name frame deadline) = refl

pub lines_agree : (g : Program) (c : Config) (t : ℕ) (ls : List ScriptLine) → event_releases g c t (map line_said ls) ≡ released_in c.jobs (timings g) t ls
lines_agree g c t [] = refl
lines_agree g c t (line_is.Set u d v ∷ ls) = lines_agree g c t ls
lines_agree g c t (line_is.Occur u e ∷ ls) =
    ap (λ xs. cond (nat_eq u t) xs [] ++ event_releases g c t (map line_said ls)) (releases_agree g c t e 0 (processes g))
    ∙ ap (λ xs. cond (nat_eq u t) (released_by c.jobs t e 0 (timings g)) [] ++ xs) (lines_agree g c t ls)

pub periodic_agree : (g : Program) (c : Config) (t k : ℕ) (ps : List Process) → periodic_releases g c t k ps ≡ clocked c.jobs t k (map (λ p. timing_of g p.activation) ps)
periodic_agree g c t k [] = refl
periodic_agree g c t k (p ∷ ps) =
    ap (λ xs. xs ++ periodic_releases g c t (suc k) ps) (by_case p.activation)
    ∙ ap (λ xs. cond (is_clocked t (timing_of g p.activation)) (release_missing t k (slice_get c.jobs k)) [] ++ xs) (periodic_agree g c t (suc k) ps)
  where
    by_case : (a : Trigger) → cond (is_due g t a) (release_missing t k (slice_get c.jobs k)) [] ≡ cond (is_clocked t (timing_of g a)) (release_missing t k (slice_get c.jobs k)) []
    by_case (periodic frame deadline first) = refl
    by_case (at_event name frame deadline) = refl

-- what is due, once nobody has acted at the tick
pub due_open : (g : Program) (c : Config) (ls : List ScriptLine) (end t : ℕ) → c.acted && nat_eq c.tick t ≡ false
    → due g (said ls end) c t ≡ released_in c.jobs (timings g) t ls ++ (clocked c.jobs t 0 (timings g) ++ expired c.jobs t (by_rank g))
unfolding due
due_open g c ls end t nobody =
    ap (λ b. cond b [] (event_releases g c t (map line_said ls) ++ (periodic_releases g c t 0 (processes g) ++ time_outs g c t))) nobody
    ∙ (ap (λ xs. xs ++ (periodic_releases g c t 0 (processes g) ++ time_outs g c t)) (lines_agree g c t ls)
    ∙ ap (λ xs. released_in c.jobs (timings g) t ls ++ (xs ++ time_outs g c t)) (periodic_agree g c t 0 (processes g)))

pub due_acted : (g : Program) (c : Config) (ls : List ScriptLine) (end t : ℕ) → c.acted && nat_eq c.tick t ≡ true → due g (said ls end) c t ≡ []
unfolding due
due_acted g c ls end t acted = ap (λ b. cond b [] (event_releases g c t (map line_said ls) ++ (periodic_releases g c t 0 (processes g) ++ time_outs g c t))) acted

pub first_later : (xs ys : List Event) → first_in xs ≡ None → first_in (xs ++ ys) ≡ first_in ys
first_later [] ys none = refl
first_later (x ∷ xs) ys none = absurd cc

pub first_here : (xs ys : List Event) (e : Event) → first_in xs ≡ Some e → first_in (xs ++ ys) ≡ Some e
first_here [] ys e some = absurd cc
first_here (x ∷ xs) ys e some = some

-- the first that is due, found in a list for lists that are the same
module _ (g : Program) (c : Config) (ls : List ScriptLine) (end t : ℕ) (js : List Job) (xs : List Timing) (nobody : c.acted && nat_eq c.tick t ≡ false) (jobs : js ≡ c.jobs) (times : xs ≡ timings g) where
  listed : released_in js xs t ls ++ (clocked js t 0 xs ++ expired js t (by_rank g)) ≡ due g (said ls end) c t
  listed =
      ap (λ l. released_in l xs t ls ++ (clocked l t 0 xs ++ expired l t (by_rank g))) jobs
      ∙ (ap (λ l. released_in c.jobs l t ls ++ (clocked c.jobs t 0 l ++ expired c.jobs t (by_rank g))) times
      ∙ sym (due_open g c ls end t nobody))

  pub due_by_line : (e : Event) → Some e ≡ first_in (released_in js xs t ls) → Some e ≡ first_in (due g (said ls end) c t)
  due_by_line e found = sym (first_here (released_in js xs t ls) (clocked js t 0 xs ++ expired js t (by_rank g)) e (sym found)) ∙ ap first_in listed

  pub due_later : (o : Option Event) → None ≡ first_in (released_in js xs t ls) → o ≡ first_in (clocked js t 0 xs ++ expired js t (by_rank g)) → o ≡ first_in (due g (said ls end) c t)
  due_later o none found = found ∙ (sym (first_later (released_in js xs t ls) (clocked js t 0 xs ++ expired js t (by_rank g)) (sym none)) ∙ ap first_in listed)

  pub due_by_clock : (e : Event) → None ≡ first_in (released_in js xs t ls) → Some e ≡ first_in (clocked js t 0 xs) → Some e ≡ first_in (due g (said ls end) c t)
  due_by_clock e none found = due_later (Some e) none (sym (first_here (clocked js t 0 xs) (expired js t (by_rank g)) e (sym found)))

  pub due_by_wait : (o : Option Event) (ks : List ℕ) → ks ≡ by_rank g → None ≡ first_in (released_in js xs t ls) → None ≡ first_in (clocked js t 0 xs) → o ≡ first_in (expired js t ks) → o ≡ first_in (due g (said ls end) c t)
  due_by_wait o ks order none nobody_clocked found =
      due_later o none (found ∙ (ap (λ l. first_in (expired js t l)) order ∙ sym (first_later (clocked js t 0 xs) (expired js t (by_rank g)) (sym nobody_clocked))))
