use Rattle.std.proofs.Common.{◌++◌, refl, arith}
use Rattle.syntax_tree.specs.Placed.{placed_constant, placed_stmt, placed_stmts}
use Rattle.message_names.specs.Mentions.{bounds_mentions, stmt_mentions, stmts_mentions}
use Rattle.message_names.specs.Seen.{mention_of}
use Rattle.message_names.proofs.Loops.{loop-is}
use Rattle.message_names.proofs.Steps.{step, finish}
use Rattle.message_names.proofs.statements.+stmt.Goals as goal

pub stmts-loop-s-preserved : goal.stmts-loop-s-preserved
stmts-loop-s-preserved t c =
    step (λ xs. stmts_mentions (placed_stmts xs)) (c.args.mentions.now ++ stmts_mentions (placed_stmts c.args.list.now)) (λ x. stmt_mentions (placed_stmt x)) (λ x xs. refl)
    c.args.list.now c.loop-s.s-index c.s-item.result c.loop-s.mentions c.stmt.new.mentions (omega arith) c.s-item.is c.in-Ok.ensures c.loop-s.invariant

pub stmts-returns : goal.stmts-returns
stmts-returns t c =
    finish (λ xs. stmts_mentions (placed_stmts xs)) (c.args.mentions.now ++ stmts_mentions (placed_stmts c.args.list.now)) refl
    c.args.list.now c.loop-s.s-index c.loop-s.mentions (omega arith) c.loop-s.invariant

pub for_loop-returns : goal.for_loop-returns
for_loop-returns t c =
    loop-is c.args.mentions.now c.args.variable.0.now c.args.variable.1 c.args.high.now
    (bounds_mentions (placed_constant c.args.low.now) (placed_constant c.args.high.now)) (stmts_mentions (placed_stmts c.args.body.now))
    c.push.new.self c.bounds.new.mentions c.stmts.new.mentions c.replace.new.self (mention_of c.loop_variable.result) (mention_of c.loop_variable-2.result) c.len-index.result c.last_place-end.result
    c.len-index.ensures c.in-Ok.ensures c.loop_variable.ensures c.in-Ok-bounds.ensures c.in-Ok-stmts.ensures c.last_place-end.ensures c.loop_variable-2.ensures c.replace.ensures
