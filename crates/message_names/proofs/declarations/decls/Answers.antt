use Rattle.std.proofs.Common.{◌++◌, refl, arith, map}
use Rattle.std.specs.Prelude.{flat_map}
use Rattle.syntax_tree.specs.Placed.{placed_decl}
use Rattle.message_names.specs.Mentions.{decl_mentions}
use Rattle.message_names.proofs.Steps.{step, finish}
use Rattle.message_names.proofs.declarations.decls.Goals as goal

pub loop-one-preserved : goal.loop-one-preserved
loop-one-preserved c =
    step (λ xs. flat_map (decl_mentions c.args.scope) (map placed_decl xs)) (c.args.mentions.now ++ flat_map (decl_mentions c.args.scope) (map placed_decl c.args.list.now)) (λ x. decl_mentions c.args.scope (placed_decl x)) (λ x xs. refl)
    c.args.list.now c.loop-one.one-index c.one-item.result c.loop-one.mentions c.decl.new.mentions (omega arith) c.one-item.is c.in-Ok.ensures c.loop-one.invariant

pub returns : goal.returns
returns c =
    finish (λ xs. flat_map (decl_mentions c.args.scope) (map placed_decl xs)) (c.args.mentions.now ++ flat_map (decl_mentions c.args.scope) (map placed_decl c.args.list.now)) refl
    c.args.list.now c.loop-one.one-index c.loop-one.mentions (omega arith) c.loop-one.invariant
