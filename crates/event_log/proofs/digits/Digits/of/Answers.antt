use Rattle.std.proofs.Common.{arith}
use Rattle.std.proofs.lemmas.Fmt.{length-decimal-le}
use Rattle.event_log.proofs.digits.Digits.of.Goals as goal

pub write_digits-start-requires : goal.write_digits-start-requires
write_digits-start-requires c = let small = c.requires in (length-decimal-le 8 c.args.number (omega arith) (omega (arith, small)) (omega (arith, small)), omega arith)
