use Rattle.std.proofs.Common.{◌≡◌, ◌+◌, ◌≤◌, map, drop}
use Rattle.source_semantics.specs.Names.{place_of}
use Rattle.replay_calls.proofs.conditions.place_among.Given as goal

abbrev pub invariant-loop-own : goal.invariant-loop-own
invariant-loop-own l = record {
  few : l.place ≤ l.own-index;
  told : l.place + place_of l.name (map (λ n. n.now) (drop l.own-index l.names)) ≡ place_of l.name (map (λ n. n.now) l.names);
}
