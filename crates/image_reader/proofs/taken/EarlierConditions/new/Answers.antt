use Rattle.std.proofs.Common.{ℕ, List, map, ap}
use Rattle.image_reader.specs.Taken.{condition_in}
use Rattle.image_reader.proofs.taken.EarlierConditions.new.Goals as goal

pub returns : goal.returns
returns c = ap (λ (pairs : List (ℕ × List ℕ)). map condition_in pairs) c.new.ensures.empty
