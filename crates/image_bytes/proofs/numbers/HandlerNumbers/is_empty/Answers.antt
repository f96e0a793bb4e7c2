use Rattle.std.proofs.Common.{ap, sym}
use Rattle.std.specs.Prelude.{nat_eq}
use Rattle.image_bytes.specs.Standing.{numbers_in}
use Rattle.image_bytes.proofs.ManyNumbers.{many}
use Rattle.image_bytes.proofs.numbers.HandlerNumbers.is_empty.Goals as goal

pub returns : goal.returns
unfolding numbers_in
returns c = ap (λ k. nat_eq k 0) (sym (many c.args.self.now.count c.args.self.now.bytes.now c.args.self.now.are_read))
