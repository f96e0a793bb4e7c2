use Rattle.std.proofs.Common.{◌≡◌, Option, IfOk, subst}
use Rattle.std.specs.Prelude.{codes}
use Rattle.message_script.specs.Message.{or_line}
use Rattle.message_script.specs.declared.telling.Told.{Told}
use Rattle.message_script.proofs.messages.no_name.Goals as goal

pub returns : goal.returns
returns c =
    subst (λ (row : Option Told). IfOk c.or_line.result (λ told. told ≡ or_line row c.args.line.now (codes "a name that is not known"))) c.in_ok-row.ensures c.or_line.ensures
