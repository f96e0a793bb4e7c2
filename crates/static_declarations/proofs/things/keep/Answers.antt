use Rattle.std.proofs.Common.{ap}
use Rattle.static_declarations.specs.Things.{learn}
use Rattle.static_declarations.proofs.Tables.{things-put}
use Rattle.static_declarations.proofs.things.keep.Goals as goal

pub returns : goal.returns
returns c = λ more. ap (λ known. learn known more) (things-put c.args.place c.args.thing c.args.things.now.entries c.insert.new.self.entries c.in_ok-insert.ensures.updates.0)
