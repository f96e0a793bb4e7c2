use Rattle.std.proofs.Common.{◌∙◌, ap}
use Rattle.image.specs.Named.{NamedImage}
use Rattle.image.specs.Raw.{named_of}
use Rattle.command_due.specs.CommandsDue.{stored}
use Rattle.command_programs.specs.Scripted.{report_on}
use Rattle.command_programs.proofs.Refused.{compiled_text, stored_outcome}
use Rattle.command_programs.proofs.programs.store_built.Goals as goal

pub returns-clause-due : goal.returns-clause-due
returns-clause-due c =
    λ over text image. compiled_text over text c.args.built _ image
    (stored_outcome c.in_ok-text.text (report_on c.args.built) c.in_ok-bytes.bytes.items (stored (named_of c.args.built.image))
    c.in_ok-text.ensures.report (c.in_ok-bytes.ensures.items ∙ (c.bytes.ensures ∙ ap (λ (n : NamedImage). stored n) c.in_ok-text.ensures.image)))
