use Rattle.std.proofs.Common.{ap, ◌∙◌}
use Rattle.std.specs.Prelude.{nat_eq}
use Rattle.std.specs.List.{list_any}
use Rattle.table_format.proofs.Stays.{ticks_there, ticks_new}
use Rattle.table_format.proofs.monitors.add_new.Goals as goal

pub returns-then-has_ticks : goal.returns-then-has_ticks
returns-then-has_ticks c = ticks_there c.args.all.now.items c.args.ticks c.has_ticks.result (c.has_ticks.ensures ∙ ap (λ xs. list_any (λ t. nat_eq t c.args.ticks) xs) c.as_slice.ensures.value) c.if-has_ticks.true

pub returns : goal.returns
returns c =
    ticks_new c.args.all.now.items c.push.new.self.items c.args.ticks c.has_ticks.result (c.has_ticks.ensures ∙ ap (λ xs. list_any (λ t. nat_eq t c.args.ticks) xs) c.as_slice.ensures.value) c.if-has_ticks.false c.in_ok-push.ensures.items
