use Rattle.std.proofs.Common.{ap, sym, ◌∙◌}
use Rattle.std.specs.List.{list_any}
use Rattle.table_format.specs.Rules.{same_name}
use Rattle.table_format.specs.Parts.{seen, made_with}
use Rattle.table_format.proofs.Stays.{any_seen}
use Rattle.table_format.proofs.names.is_in_the_way.Goals as goal

pub returns : goal.returns
returns c =
    c.is_any_made.ensures ∙ ap (λ made. list_any (λ name. list_any (λ it. same_name name.now it) made) c.args.names.now) (c.as_slice.ensures ∙ c.in_ok-made.ensures)
    ∙ sym (any_seen (λ name. list_any (λ it. same_name name it) (made_with c.args.tail.now (seen c.args.stays.now))) c.args.names.now)
