use Rattle.std.proofs.Common.{◌≡◌, map, drop}
use Rattle.indexmap.specs.IndexSet.{insert_all}
use Rattle.static_names.specs.Findings.{same_key, key_of}
use Rattle.static_calls.specs.Tables.{seen_routines, places}
use Rattle.static_calls.proofs.numbers.numbers.Given as goal

abbrev pub invariant-loop-routine : goal.invariant-loop-routine
invariant-loop-routine l = insert_all same_key l.numbers.keys (map (λ r. key_of r.place) (seen_routines (drop l.routine-index l.routines))) ≡ places (seen_routines l.routines)
