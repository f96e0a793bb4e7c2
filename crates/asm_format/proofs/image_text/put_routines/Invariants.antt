use Rattle.std.proofs.Common.{◌≡◌, ◌++◌, map, drop}
use Rattle.std.specs.List.{flat_map}
use Rattle.image.specs.Raw.{routine_of}
use Rattle.asm_format.specs.Text.{routine_lines}
use Rattle.asm_format.proofs.image_text.put_routines.Given as goal

abbrev pub invariant-loop-routine : goal.invariant-loop-routine
invariant-loop-routine l = l.text ++ flat_map routine_lines (map routine_of (drop l.routine-index l.routines)) ≡ l.initial.text ++ flat_map routine_lines (map routine_of l.routines)
