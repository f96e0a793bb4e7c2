-- By the definition, at the element.
use Rattle.std.proofs.Common.{w32, rules}
use Rattle.std.specs.Prelude.{FitsSigned}
use Rattle.std.proofs.lemmas.Int.{to_z-of_z}
use Rattle.vm_instructions.specs.Stack.{stacked}
use Rattle.vm_instructions.proofs.Elements.{first_there, stores_local}
use Rattle.vm_instructions.proofs.words.store_local_at.Goals as goal

pub returns-in-Some-clause-does : goal.returns-in-Some-clause-does
returns-in-Some-clause-does c =
    let f : FitsSigned w32 c.take_two-index.result.0 = search rules in
    let g : FitsSigned w32 c.take_two-index.result.1 = search rules in
    let l : FitsSigned w32 c.args.low = c.ranges.low in
    let n : FitsSigned w32 c.args.len = c.ranges.len in
    let w : FitsSigned w32 c.args.word = c.ranges.word in
    let e = simp to_z-of_z at c.in-Some.ensures in
    let below = first_there (stacked c.args.top.now c.args.stack.now) (stacked c.take_two-index.new.top c.args.stack.now) c.args.locals.now c.args.word c.args.low c.args.len c.take_two-index.result.0 c.take_two-index.result.1 c.in-Some.at c.take_two-index.ensures.taken c.requires.word e.0 e.1 in
    rw to_z-of_z (stores_local (stacked c.args.top.now c.args.stack.now) (stacked c.take_two-index.new.top c.args.stack.now) c.args.locals.now c.args.word c.args.low c.args.len c.take_two-index.result.0 c.take_two-index.result.1 c.in-Some.at c.take_two-index.ensures.taken e.0 e.1 below)
