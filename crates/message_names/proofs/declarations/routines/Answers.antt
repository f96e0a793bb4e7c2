use Rattle.std.proofs.Common.{◌++◌, refl, arith, map}
use Rattle.std.specs.Prelude.{flat_map}
use Rattle.syntax_tree.specs.Placed.{placed_routine}
use Rattle.message_names.specs.Mentions.{routine_mentions}
use Rattle.message_names.proofs.Steps.{step, finish}
use Rattle.message_names.proofs.declarations.routines.Goals as goal

pub loop-one-preserved : goal.loop-one-preserved
loop-one-preserved c =
    step (λ xs. flat_map (routine_mentions c.args.is_entry c.args.scope) (map placed_routine xs)) (c.args.mentions.now ++ flat_map (routine_mentions c.args.is_entry c.args.scope) (map placed_routine c.args.list.now)) (λ x. routine_mentions c.args.is_entry c.args.scope (placed_routine x)) (λ x xs. refl)
    c.args.list.now c.loop-one.one-index c.one-item.result c.loop-one.mentions c.routine.new.mentions (omega arith) c.one-item.is c.in-Ok.ensures c.loop-one.invariant

pub returns : goal.returns
returns c =
    finish (λ xs. flat_map (routine_mentions c.args.is_entry c.args.scope) (map placed_routine xs)) (c.args.mentions.now ++ flat_map (routine_mentions c.args.is_entry c.args.scope) (map placed_routine c.args.list.now)) refl
    c.args.list.now c.loop-one.one-index c.loop-one.mentions (omega arith) c.loop-one.invariant
