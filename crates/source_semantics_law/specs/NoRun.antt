-- Logs that are no run of a worked program.
use Rattle.std.specs.Prelude.{List, None, Some, [], false, pos, true, ℕ, ◌∷◌}
use Rattle.base.specs.declared.event.Event.{Event}
use Rattle.base.specs.declared.event.Act.TheVariants as act
use Rattle.source_semantics.specs.Starts.{Script}
use Rattle.source_semantics_law.specs.Example.{at}

abbrev pub until : ℕ → Script
until n = record { lines = []; end_tick = n }

-- an end in place of the put
abbrev pub ends_early_log : List Event
ends_early_log =
    at 0 0 act.Release
    ∷ at 5 0 act.End
    ∷ []

-- a second release in one tick
abbrev pub released_twice_log : List Event
released_twice_log =
    at 0 0 act.Release
    ∷ at 0 0 act.Release
    ∷ at 10 0 (act.Put 0 (pos 7))
    ∷ at 14 0 act.End
    ∷ []

-- the release of tick 15 is missing
abbrev pub release_missing_log : List Event
release_missing_log =
    at 0 0 act.Release
    ∷ at 10 0 (act.Put 0 (pos 7))
    ∷ at 14 0 act.End
    ∷ []

-- a release finds its process at work
abbrev pub overrun_log : List Event
overrun_log =
    at 0 0 act.Release
    ∷ at 15 0 act.Release
    ∷ at 15 0 (act.Put 0 (pos 7))
    ∷ []

-- a time-out that comes one tick late
abbrev pub time_out_late_log : List Event
time_out_late_log =
    at 0 0 act.Release
    ∷ at 10 0 (act.Enter 0)
    ∷ at 16 0 (act.Wait 0)
    ∷ at 32 1 act.Release
    ∷ at 42 1 (act.Enter 0)
    ∷ at 47 1 (act.Signal 0 None)
    ∷ at 48 0 (act.TimeOut 0 10)
    ∷ at 50 1 (act.Leave 0)
    ∷ at 61 0 (act.Put 0 (pos 1))
    ∷ at 65 0 act.End
    ∷ at 73 1 act.End
    ∷ []

-- a signal to a process whose wait is over
abbrev pub signal_late_log : List Event
signal_late_log =
    at 0 0 act.Release
    ∷ at 10 0 (act.Enter 0)
    ∷ at 16 0 (act.Wait 0)
    ∷ at 32 1 act.Release
    ∷ at 42 1 (act.Enter 0)
    ∷ at 47 1 (act.Signal 0 (Some 0))
    ∷ at 50 1 (act.Leave 0)
    ∷ at 54 0 (act.Enter 0)
    ∷ at 57 0 (act.Leave 0)
    ∷ at 65 0 act.End
    ∷ at 73 1 act.End
    ∷ []

-- a process of the rank of the ceiling acts before the occupant
abbrev pub before_occupant_log : List Event
before_occupant_log =
    at 0 0 act.Release
    ∷ at 10 0 (act.Enter 0)
    ∷ at 16 0 (act.Wait 0)
    ∷ at 32 1 act.Release
    ∷ at 42 1 (act.Enter 0)
    ∷ at 47 0 (act.TimeOut 0 10)
    ∷ at 58 0 (act.Put 0 (pos 1))
    ∷ at 62 0 act.End
    ∷ at 63 1 (act.Signal 0 None)
    ∷ at 66 1 (act.Leave 0)
    ∷ at 73 1 act.End
    ∷ []

-- a process acts before the first of the ready ones
abbrev pub out_of_order_log : List Event
out_of_order_log =
    at 0 0 act.Release
    ∷ at 0 1 act.Release
    ∷ at 10 0 (act.Enter 0)
    ∷ at 14 0 (act.Raise 12)
    ∷ at 15 1 (act.Enter 0)
    ∷ at 18 0 act.End
    ∷ at 32 1 (act.Leave 0)
    ∷ at 40 1 act.End
    ∷ []

-- a signal to the last of the queue
abbrev pub last_signalled_log : List Event
last_signalled_log =
    at 0 0 act.Release
    ∷ at 0 1 act.Release
    ∷ at 10 0 (act.Enter 0)
    ∷ at 16 0 (act.Wait 0)
    ∷ at 20 1 (act.Enter 0)
    ∷ at 30 1 (act.Wait 0)
    ∷ at 100 2 act.Release
    ∷ at 110 2 (act.Put 0 (pos 1))
    ∷ at 120 2 (act.Enter 0)
    ∷ at 125 2 (act.Empty 0 false)
    ∷ at 130 2 (act.Signal 0 (Some 1))
    ∷ at 135 2 (act.Empty 0 false)
    ∷ at 140 2 (act.Leave 0)
    ∷ at 150 1 (act.Enter 0)
    ∷ at 155 1 (act.Leave 0)
    ∷ at 160 1 (act.Put 0 (pos 1))
    ∷ at 165 1 act.End
    ∷ at 170 2 (act.Put 0 (pos 2))
    ∷ at 180 2 (act.Enter 0)
    ∷ at 185 2 (act.Empty 0 false)
    ∷ at 190 2 (act.Signal 0 (Some 1))
    ∷ at 195 2 (act.Empty 0 true)
    ∷ at 200 2 (act.Broadcast 0 0)
    ∷ at 205 2 (act.Leave 0)
    ∷ at 210 1 (act.Enter 0)
    ∷ at 215 1 (act.Leave 0)
    ∷ at 220 1 (act.Put 0 (pos 2))
    ∷ at 225 1 act.End
    ∷ at 230 2 (act.Put 0 (pos 3))
    ∷ at 240 2 act.End
    ∷ []
