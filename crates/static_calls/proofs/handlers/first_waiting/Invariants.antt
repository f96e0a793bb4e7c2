use Rattle.std.proofs.Common.{◌≡◌, None, ◌∷◌, [], drop}
use Rattle.syntax_tree.specs.Placed.{placed}
use Rattle.static_rule.specs.Parts.{noted}
use Rattle.static_calls.specs.Tables.{declared_in, seen_processes, handler_rule}
use Rattle.static_calls.proofs.handlers.first_waiting.Given as goal

abbrev pub invariant-loop-process : goal.invariant-loop-process
invariant-loop-process l = noted (handler_rule (declared_in (placed l.declarations)) l.numbers.keys l.marks ∷ []) l.first (seen_processes (drop l.process-index l.processes)) ≡ noted (handler_rule (declared_in (placed l.declarations)) l.numbers.keys l.marks ∷ []) None (seen_processes l.processes)
