use Rattle.std.proofs.Common.{sym, arith}
use Rattle.std.proofs.lemmas.List.{length-take-le}
use Rattle.message_text.proofs.show.add_window.Goals as goal

pub slice_bounds-first-end : goal.slice_bounds-first-end
slice_bounds-first-end c = sym (length-take-le 157 c.args.bytes.now (omega (arith, c.if-bytes-gt-SHOWN.true)))
