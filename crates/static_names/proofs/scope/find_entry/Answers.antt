use Rattle.std.proofs.Common.{◌∙◌}
use Rattle.static_names.proofs.Scopes.{entry_meaning-lookup}
use Rattle.static_names.proofs.scope.find_entry.Goals as goal

pub returns : goal.returns
returns c = c.copied.ensures ∙ c.get.ensures.value ∙ entry_meaning-lookup (c.args.monitor.line, c.args.monitor.col, c.args.name) c.args.entries.now.entries
