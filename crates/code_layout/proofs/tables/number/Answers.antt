use Rattle.std.proofs.Common.{◌∙◌, ap, length}
use Rattle.std.specs.Prelude.{unwrap_or}
use Rattle.code_names.proofs.NameListTable.{place-index}
use Rattle.code_layout.proofs.tables.number.Goals as goal

pub returns-in-Some : goal.returns-in-Some
returns-in-Some c = ap (λ o. unwrap_or o (length c.args.list.now)) c.in-Some.ensures ∙ place-index c.args.name.now c.args.list.now

pub returns-in-None : goal.returns-in-None
returns-in-None c = c.len.ensures ∙ ap (λ o. unwrap_or o (length c.args.list.now)) c.in-None.ensures ∙ place-index c.args.name.now c.args.list.now
