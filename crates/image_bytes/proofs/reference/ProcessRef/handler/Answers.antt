use Rattle.std.proofs.Common.{◌≡◌, ◌<◌, length, arith, sym}
use Rattle.std.proofs.lemmas.Bool.Decides.{nat_tests}
use Rattle.image_format.specs.Stands.{tree_in}
use Rattle.image_bytes.specs.Standing.{numbers_in}
use Rattle.image_bytes.proofs.Later.{handler_is, handler_there, no_handler}
use Rattle.image_bytes.proofs.ManyNumbers.{many}
use Rattle.image_bytes.proofs.reference.ProcessRef.handler.Goals as goal

pub returns-then-is_empty-clause-tree : goal.returns-then-is_empty-clause-tree
unfolding numbers_in
returns-then-is_empty-clause-tree c =
    let n = c.args.self.now.numbers in
    let long : length (numbers_in n) ≡ n.count = many n.count n.bytes.now n.are_read in
    sym (no_handler n.count c.args.self.now.trees.now (grind (arith, nat_tests, long, c.is_empty.ensures, c.if-is_empty.true)))

pub unreachable-requires-in-Err : goal.unreachable-requires-in-Err
unfolding numbers_in
unreachable-requires-in-Err c =
    let n = c.args.self.now.numbers in
    let long : length (numbers_in n) ≡ n.count = many n.count n.bytes.now n.are_read in
    let some : 0 < n.count = grind (arith, nat_tests, long, c.is_empty.ensures, c.if-is_empty.false) in
    handler_there n.count c.args.self.now.trees.now (tree_in c.in-Ok.field-0-0) c.in-Ok.rest.now some c.in-Ok.ensures c.in-Err.field-0 c.in-Err.ensures c.args.self.now.are_read

pub returns-clause-tree : goal.returns-clause-tree
unfolding numbers_in
returns-clause-tree c =
    let n = c.args.self.now.numbers in
    let long : length (numbers_in n) ≡ n.count = many n.count n.bytes.now n.are_read in
    let some : 0 < n.count = grind (arith, nat_tests, long, c.is_empty.ensures, c.if-is_empty.false) in
    sym (handler_is n.count c.args.self.now.trees.now (tree_in c.in-Ok.field-0-0) c.in-Ok.rest.now some c.in-Ok.ensures (tree_in c.in-Ok-kept_tree_at.tree) c.in-Ok-kept_tree_at.field-0-1.now c.in-Ok-kept_tree_at.ensures)
