use Rattle.static_declarations.proofs.Tables.{kept-put}
use Rattle.static_declarations.proofs.values.keep.Goals as goal

pub returns : goal.returns
returns c = kept-put c.args.name c.args.number c.args.values.now.entries c.insert.new.self.entries c.in_ok-insert.ensures.updates.0
