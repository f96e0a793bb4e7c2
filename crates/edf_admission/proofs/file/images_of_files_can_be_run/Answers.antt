use Rattle.edf_admission.proofs.Planned.{read_can_be_run, read_scripts_suit}
use Rattle.edf_admission.proofs.file.images_of_files_can_be_run.Goals as goal

pub returns-clause-can : goal.returns-clause-can
returns-clause-can c bytes are = read_can_be_run bytes c.args.image.now are c.is_admitted.ensures.shape c.is_admitted.ensures.admitted

pub returns-clause-scripts : goal.returns-clause-scripts
returns-clause-scripts c bytes text lines last are script = read_scripts_suit c.scripts_suit.ensures.held bytes c.args.image.now text lines last are script
