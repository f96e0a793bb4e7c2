use Rattle.std.proofs.Common.{ap, ◌∙◌}
use Rattle.table_format.specs.Rules.{IsName, names_of_line}
use Rattle.table_format.specs.Faults.{meant}
use Rattle.table_reader.specs.Reading.{seen, line_seen}
use Rattle.table_reader.proofs.Tests.{all_of}
use Rattle.table_reader.proofs.form.has_names.Goals as goal

pub returns : goal.returns
returns c =
    all_of IsName (seen c.as_slice.result.now) (names_of_line (meant (line_seen c.args.line.now))) c.are_names.result
    (ap seen c.as_slice.ensures.value ∙ c.in_ok-names.ensures) c.are_names.ensures
