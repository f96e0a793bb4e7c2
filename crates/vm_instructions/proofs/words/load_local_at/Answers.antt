-- By the definition, at the element.
use Rattle.std.proofs.Common.{w32, rules}
use Rattle.std.specs.Prelude.{FitsSigned}
use Rattle.std.proofs.lemmas.Int.{to_z-of_z}
use Rattle.vm_instructions.specs.Stack.{stacked}
use Rattle.vm_instructions.proofs.Elements.{last_there, loads_local}
use Rattle.vm_instructions.proofs.words.load_local_at.Goals as goal

pub read-requires : goal.read-requires
read-requires c =
    let f : FitsSigned w32 c.take-index.result = search rules in
    let l : FitsSigned w32 c.args.low = c.ranges.low in
    let n : FitsSigned w32 c.args.len = c.ranges.len in
    let w : FitsSigned w32 c.args.word = c.ranges.word in
    let e = simp to_z-of_z at c.in-Some.ensures in
    last_there (stacked c.args.top.now c.args.stack.now) (stacked c.take-index.new.top c.args.stack.now) c.args.locals.now c.args.word c.args.low c.args.len c.take-index.result c.in-Some.at c.take-index.ensures.taken c.requires.word e.0 e.1

pub returns-in-Some-clause-does : goal.returns-in-Some-clause-does
returns-in-Some-clause-does c =
    let f : FitsSigned w32 c.take-index.result = search rules in
    let g : FitsSigned w32 c.read.result = search rules in
    let l : FitsSigned w32 c.args.low = c.ranges.low in
    let n : FitsSigned w32 c.args.len = c.ranges.len in
    let w : FitsSigned w32 c.args.word = c.ranges.word in
    let e = simp to_z-of_z at c.in-Some.ensures in
    let h = simp to_z-of_z at c.give.ensures.given in
    loads_local (stacked c.args.top.now c.args.stack.now) (stacked c.take-index.new.top c.args.stack.now) (stacked c.give.new.top c.give.new.stack) c.args.locals.now c.args.word c.args.low c.args.len c.take-index.result c.read.result c.in-Some.at c.take-index.ensures.taken h e.0 e.1 c.read.ensures
