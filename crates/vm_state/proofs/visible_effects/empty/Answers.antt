-- Whether the queue is empty is what is given, and told.
use Rattle.std.proofs.Common.{◌≡◌, ◌∙◌, ℕ, List, w32, rules, ap, length}
use Rattle.std.specs.Prelude.{FitsSigned, nat_eq}
use Rattle.std.proofs.lemmas.Int.{to_z-of_z}
use Rattle.machine_semantics.specs.Effect.{is_none_waiting}
use Rattle.vm_state.proofs.Emptying.{empties, no_one}
use Rattle.vm_state.proofs.visible_effects.empty.Goals as goal

pub returns-clause-does : goal.returns-clause-does
returns-clause-does c image s o same =
    let f : FitsSigned w32 c.args.condition = search rules in
    let g : FitsSigned w32 c.from.result = search rules in
    let waiting = simp to_z-of_z at c.waiting.ensures in
    simp to_z-of_z (empties image s o c.args.condition c.args.queues.now c.args.frames.now c.give.new.self c.is_empty-answer.result c.from.result
    c.requires.condition c.requires.there same (c.is_empty-answer.ensures ∙ no_one c.waiting.result.now ∙ ap (λ (q : List ℕ). is_none_waiting q) waiting) c.from.ensures (simp to_z-of_z at c.give.ensures))
