use Rattle.std.proofs.Common.{◌≡◌, rules, ap, ◌∙◌, to_z, of_z, w64}
use Rattle.std.proofs.lemmas.Int.{to_z-of_z}
use Rattle.indexmap.specs.IndexSet.{insert_key}
use Rattle.std.specs.Ordering.{int_eq}
use Rattle.syntax_tree.specs.Placed.{placed, placed_constant}
use Rattle.static_declarations.specs.Values.{value}
use Rattle.static_numbers.proofs.Values.{known-more}
use Rattle.static_numbers.proofs.handlers.repeated.Goals as goal

pub returns-then-branch-clause-known : goal.returns-then-branch-clause-known
returns-then-branch-clause-known c before known =
    let key : to_z w64 (of_z w64 c.value.result) ≡ c.value.result = to_z-of_z w64 c.value.result (search rules) in
    known-more (value (placed c.args.declarations.now)) c.args.values.now.keys c.insert.new.self.keys c.value.result (placed_constant c.args.number.now) before (c.in_ok-insert.ensures.keys ∙ ap (insert_key int_eq c.args.values.now.keys) key) c.value.ensures.exact known

pub returns-else-branch-clause-known : goal.returns-else-branch-clause-known
returns-else-branch-clause-known c before known =
    let key : to_z w64 (of_z w64 c.value.result) ≡ c.value.result = to_z-of_z w64 c.value.result (search rules) in
    known-more (value (placed c.args.declarations.now)) c.args.values.now.keys c.insert.new.self.keys c.value.result (placed_constant c.args.number.now) before (c.in_ok-insert.ensures.keys ∙ ap (insert_key int_eq c.args.values.now.keys) key) c.value.ensures.exact known
