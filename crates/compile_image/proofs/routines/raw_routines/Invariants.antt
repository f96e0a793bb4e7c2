use Rattle.std.proofs.Common.{◌≡◌, ◌++◌, map, drop}
use Rattle.image.specs.Raw.{routine_of}
use Rattle.code_names.specs.Texts.{texts_of}
use Rattle.compile_image.specs.Rows.{FitRows}
use Rattle.compile_image.specs.Told.{routines_told}
use Rattle.compile_image.proofs.routines.raw_routines.Given as goal

abbrev pub invariant-loop-number : goal.invariant-loop-number
invariant-loop-number l = record {
  list : map routine_of l.list ++ routines_told (texts_of (drop l.number l.texts)) (drop l.number l.parts) (drop l.number l.rows) ≡ routines_told (texts_of l.texts) l.parts l.rows;
  fits : FitRows (texts_of (drop l.number l.texts)) (drop l.number l.parts) (drop l.number l.rows);
}
