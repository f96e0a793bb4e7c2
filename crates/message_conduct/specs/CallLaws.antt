-- Where there is a sentence.
use Rattle.std.specs.Prelude.{◌≡◌, ℕ, ◌↔◌, true, List, Option, is_some}
use Rattle.syntax_tree.specs.Placed.{Prog}
use Rattle.syntax_tree.specs.declared.place.Place.{Place}
use Rattle.static_calls.specs.Reaching.{ReachesItself, HandlerWaits}
use Rattle.message_conduct.specs.Told.{IsCallTold}

-- a routine at a place reaches itself exactly where there is a sentence for it
abbrev pub TellsRounds : Type 0
TellsRounds = (g : Prog Place) (place : Place) (said : Option (List ℕ)) → IsCallTold g 31 place said → (ReachesItself g place ↔ (is_some said ≡ true))

-- where the handler of a process reaches a wait there is a sentence
abbrev pub TellsHandlers : Type 0
TellsHandlers = (g : Prog Place) (place : Place) (said : Option (List ℕ)) → IsCallTold g 35 place said → HandlerWaits g place → is_some said ≡ true
