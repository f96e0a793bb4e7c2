-- The sums that are shown of the processes of a program.
use Rattle.std.proofs.Common.{◌≡◌, ◌<◌, ◌-◌, ◌∙◌, ℕ, List, Option, Some, length, subst, sym, arith}
use Rattle.std.specs.Prelude.{slice_get}
use Rattle.syntax_tree.specs.Plain.{Process, Program}
use Rattle.source_semantics.specs.Names.{processes}
use Rattle.source_semantics.specs.Ranks.{rank}
use Rattle.sched_response.specs.Demand.{deadline_at}
use Rattle.sched_sections.proofs.Adding.{at_bound, capped, past}
use Rattle.sched_table.specs.Table.{IsBoundAt}
use Rattle.sched_sections.specs.declared.levels.Level.{Level}
use Rattle.sched_sections.specs.Levels.{tasks_in}
use Rattle.sched_program.specs.Levels.{AreLevelsOf}
use Rattle.sched_program.specs.WhyLaw.{SumsAreTheBounds, SumsWithoutABoundAreLate}
use Rattle.sched_program.proofs.Within.{level_within}

within : (g : Program) (over k : ℕ) (p : Process) (ls : List Level) → AreLevelsOf g over ls → slice_get (processes g) k ≡ Some p → rank g k - 1 < length (tasks_in ls)
within g over k p ls are there = omega (arith, level_within g k p there, are.tasks.one_each)

pub bound : SumsAreTheBounds
bound g over k b p ls are tasks there runs is =
    let level = rank g k - 1 in
    let below = within g over k p ls are there in
    let least = subst (λ (o : Option ℕ). IsBoundAt (tasks_in ls) level o) is (are.each k p there).bound in
    sym (capped (tasks_in ls) level b below) ∙ at_bound (tasks_in ls) level b tasks below runs least

pub late : SumsWithoutABoundAreLate
late g over k p ls are tasks there none =
    let level = rank g k - 1 in
    let below = within g over k p ls are there in
    let d = deadline_at (tasks_in ls) level in
    let unsolved = subst (λ (o : Option ℕ). IsBoundAt (tasks_in ls) level o) none (are.each k p there).bound in
    let h = past (tasks_in ls) level tasks below unsolved in
    let e = capped (tasks_in ls) level d below in
    omega (arith, h, e)
