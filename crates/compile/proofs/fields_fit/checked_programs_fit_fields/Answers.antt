use Rattle.compile.proofs.Fields.{fits-fields}
use Rattle.compile.proofs.fields_fit.checked_programs_fit_fields.Goals as goal

pub returns : goal.returns
returns c = fits-fields c.checked_programs_are_ready.ensures
