use Rattle.std.proofs.Common.{List, ap, ◌∙◌}
use Rattle.std.specs.Prelude.{bytes_eq, find}
use Rattle.message_log.specs.Log.{Form}
use Rattle.message_log.proofs.table.event_form.Goals as goal

pub returns : goal.returns
returns c = c.form_among.ensures ∙ ap (λ (forms : List Form). find (λ form. bytes_eq form.word c.args.word.now) forms) c.forms.ensures
