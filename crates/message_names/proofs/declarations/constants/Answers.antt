use Rattle.std.proofs.Common.{◌++◌, refl, arith, map}
use Rattle.std.specs.Prelude.{flat_map}
use Rattle.syntax_tree.specs.Placed.{placed_constant}
use Rattle.message_names.specs.Mentions.{constant_mentions}
use Rattle.message_names.proofs.Steps.{step, finish}
use Rattle.message_names.proofs.declarations.constants.Goals as goal

pub loop-number-preserved : goal.loop-number-preserved
loop-number-preserved c =
    step (λ xs. flat_map constant_mentions (map placed_constant xs)) (c.args.mentions.now ++ flat_map constant_mentions (map placed_constant c.args.list.now)) (λ x. constant_mentions (placed_constant x)) (λ x xs. refl)
    c.args.list.now c.loop-number.number-index c.number-item.result c.loop-number.mentions c.constant.new.mentions (omega arith) c.number-item.is c.in-Ok.ensures c.loop-number.invariant

pub returns : goal.returns
returns c =
    finish (λ xs. flat_map constant_mentions (map placed_constant xs)) (c.args.mentions.now ++ flat_map constant_mentions (map placed_constant c.args.list.now)) refl
    c.args.list.now c.loop-number.number-index c.loop-number.mentions (omega arith) c.loop-number.invariant
