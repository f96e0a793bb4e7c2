use Rattle.static_names.proofs.Scopes.{put-meaning}
use Rattle.static_names.proofs.scope.set.Goals as goal

pub returns : goal.returns
returns c = λ i n. put-meaning c.args.name c.args.declared c.args.scope.now.entries c.insert.new.self.entries c.in_ok-insert.ensures.updates.0 n i
