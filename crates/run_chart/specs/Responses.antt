-- How long the activations of a process take.
use Rattle.std.specs.Prelude.{◌+◌, ◌-◌, ◌&&◌, ℕ, Bool, true, false, List, [], ◌∷◌, Option, max, nat_eq, nat_le, if◌then◌else◌}
use Rattle.std.specs.List.{reduce}
use Rattle.base.specs.declared.event.Event.{Event}
use Rattle.base.specs.declared.event.Act.{Act}
use Rattle.base.specs.declared.event.Act.TheVariants as act

abbrev pub is_release : Act → Bool
is_release act.Release = true
is_release other = false

abbrev pub is_end : Act → Bool
is_end act.End = true
is_end other = false

-- process k is released
abbrev pub releases : (k : ℕ) → Event → Bool
releases k e = nat_eq e.proc k && is_release e.act

-- an activation of process k ends, at tick `from` or later
abbrev pub ends : (k from : ℕ) → Event → Bool
ends k from e = nat_eq e.proc k && (is_end e.act && nat_le from e.tick)

-- The responses of the activations of process k that end at tick `from` or later: the ticks from
-- the release up to the end, both counted in. It was released last at the tick `released`.
abbrev pub responses : (k from released : ℕ) → List Event → List ℕ
responses k from released [] = []
responses k from released (e ∷ es) =
    if releases k e then responses k from e.tick es
    else if ends k from e then (e.tick + 1 - released) ∷ responses k from released es
    else responses k from released es

-- the greatest of them, if there is any
abbrev pub longest : List ℕ → Option ℕ
longest rs = reduce max rs
