use Rattle.std.proofs.Common.{sym, arith}
use Rattle.std.proofs.lemmas.List.{length-take-le}
use Rattle.message_table.proofs.put.add_shortened.Goals as goal

pub slice_bounds-first-end : goal.slice_bounds-first-end
slice_bounds-first-end c = sym (length-take-le 37 c.args.word.now (omega (arith, c.if-word-le-LONGEST.false)))
