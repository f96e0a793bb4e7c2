use Rattle.std.proofs.Common.{◌∙◌}
use Rattle.static_names.proofs.Scopes.{meaning-lookup}
use Rattle.static_names.proofs.scope.find.Goals as goal

pub returns : goal.returns
returns c = c.copied.ensures ∙ c.get.ensures.value ∙ meaning-lookup c.args.name.now c.args.scope.now.entries
