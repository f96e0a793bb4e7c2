-- What is told of queues, and what values are waited for.
use Rattle.std.specs.Prelude.{ℕ, List, [], ◌∷◌, Option, Some, None}
use Rattle.replay_state.specs.declared.call.Item.{Item}
use Rattle.replay_state.specs.declared.call.Item.TheVariants as item_is
use Rattle.replay_state.specs.declared.call.Target.{Target}

-- the first in a queue
abbrev pub first_of : List ℕ → Option ℕ
first_of [] = None
first_of (k ∷ ks) = Some k

-- the variable that a value is waited for
abbrev pub awaited : Item → Option Target
awaited (item_is.Receive t) = Some t
awaited _ = None

abbrev pub first_awaited : List Item → Option Target
first_awaited [] = None
first_awaited (i ∷ is) = awaited i
