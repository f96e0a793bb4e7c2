use Rattle.std.proofs.Common.{refl}
use Rattle.std.specs.Fmt.{digits}
use Rattle.sched_sensitivity.specs.Lines.{fits_text, process_line, suspension_text}
use Rattle.sched_sensitivity.proofs.text_law.known_texts.Goals as goal

pub returns : goal.returns
unfolding digits fits_text process_line suspension_text
returns c = record { wait = refl; over = refl }
