use Rattle.examples_law.proofs.Computed.{forms_are_made}
use Rattle.examples_law.proofs.made_examples.each_other_form_is_made.Goals as goal

pub returns : goal.returns
returns c = forms_are_made
