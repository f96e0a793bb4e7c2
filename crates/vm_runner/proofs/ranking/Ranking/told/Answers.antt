use Rattle.std.proofs.Common.{arith}
use Rattle.vm_runner.proofs.Foremost.{is_first}
use Rattle.vm_runner.proofs.ranking.Ranking.told.Goals as goal

pub returns-then-self : goal.returns-then-self
returns-then-self c at is = (is_first at.image at.threads c.args.self.now is).none (omega (arith, c.if-self.true))

pub returns : goal.returns
returns c at is = (is_first at.image at.threads c.args.self.now is).some (λ none. absurd (omega (arith, none, c.if-self.false)))
