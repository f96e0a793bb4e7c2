use Rattle.std.proofs.Common.{◌+◌, ap, ◌∙◌}
use Rattle.static_numbers.specs.Seen.{held}
use Rattle.static_numbers.proofs.Uses.{use-noted}
use Rattle.static_numbers.proofs.events.note_use.Goals as goal

pub returns : goal.returns
returns c = use-noted c.args.event c.saturating_add-count.result c.args.uses.now.entries c.insert.new.self.entries c.in_ok-insert.ensures.updates.0 (c.saturating_add-count.ensures ∙ ap (λ n. held (n + 1)) c.uses_of.ensures)
