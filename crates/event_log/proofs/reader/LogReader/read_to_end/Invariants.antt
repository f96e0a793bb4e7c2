use Rattle.std.proofs.Common.{◌≡◌, ◌++◌, ℕ, List, length}
use Rattle.base.specs.declared.event.Event.{Event}
use Rattle.event_log.specs.Reader.{HasRead, IsReader}
use Rattle.event_log.proofs.reader.LogReader.read_to_end.Given as goal

abbrev pub invariant-loop : goal.invariant-loop
invariant-loop l = record {
  reader : IsReader l.self;
  index : l.self.index ≡ l.initial.self.index;
  read : (text : List ℕ) (events : List Event) → HasRead text events l.initial.self → (later : List Event) × HasRead text (events ++ later) l.self;
}

abbrev pub decreases-loop : goal.decreases-loop
decreases-loop l = length l.self.rest.now
