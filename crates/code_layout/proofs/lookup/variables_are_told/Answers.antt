use Rattle.code_spec.specs.Layout.{in_frame}
use Rattle.code_layout.specs.LayoutTables.{spot_in, table_of}
use Rattle.codegen_spec.specs.Told.{told_area}
use Rattle.code_layout.specs.LookupTables.{told_before}
use Rattle.code_layout.proofs.Meant.{table-spot, outside-told, loops-told}
use Rattle.code_layout.proofs.lookup.variables_are_told.Goals as goal

pub returns : goal.returns
returns c = λ g d ls x outer e. loops-told g d ls x (told_before d.own x outer) (outside-told g d x (spot_in (table_of (told_area in_frame) d.own) x) outer (table-spot in_frame d.own x) e)
