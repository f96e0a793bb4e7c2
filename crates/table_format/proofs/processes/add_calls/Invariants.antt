use Rattle.std.proofs.Common.{map, drop, ◌≡◌, ◌++◌}
use Rattle.table_format.specs.Program.{stay_call}
use Rattle.table_format.specs.Parts.{statements_text}
use Rattle.table_format.proofs.processes.add_calls.Given as goal

abbrev pub invariant-loop-stay : goal.invariant-loop-stay
invariant-loop-stay l = l.text ++ statements_text (map (stay_call l.tail) (drop l.stay-index l.stays)) ≡ l.fn.text ++ statements_text (map (stay_call l.tail) l.stays)
