-- Queues in code.
use Rattle.std.specs.Prelude.{ℕ, List, [], ◌∷◌, map}
use Rattle.std.specs.Global.{Vec}

abbrev pub queues_of : List (Vec ℕ) → List (List ℕ)
queues_of qs = map (λ q. q.items) qs

abbrev pub tail_of : List ℕ → List ℕ
tail_of [] = []
tail_of (k ∷ ks) = ks
