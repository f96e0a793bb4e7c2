use Rattle.std.proofs.Common.{ap, ◌∙◌}
use Rattle.std.specs.List.{list_any}
use Rattle.table_format.specs.Rules.{same_name}
use Rattle.table_format.proofs.Turns.{seen_more}
use Rattle.table_format.proofs.Stays.{name_there, name_new}
use Rattle.table_format.proofs.monitors.add_once.Goals as goal

pub returns-then-is_listed : goal.returns-then-is_listed
returns-then-is_listed c =
    name_there c.args.monitors.now.items c.args.name.now c.is_listed.result (c.is_listed.ensures ∙ ap (λ names. list_any (λ other. same_name other.now c.args.name.now) names) c.as_slice.ensures.value) c.if-is_listed.true

pub returns : goal.returns
returns c =
    name_new c.args.monitors.now.items c.push.new.self.items c.args.name.now c.is_listed.result (c.is_listed.ensures ∙ ap (λ names. list_any (λ other. same_name other.now c.args.name.now) names) c.as_slice.ensures.value)
    c.if-is_listed.false (seen_more _ _ _ c.in_ok-push.ensures.items)
