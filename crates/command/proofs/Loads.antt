-- Words of a load.
use Rattle.std.proofs.Common.{ℕ, List, Bool, subst}
use Rattle.std.specs.Prelude.{String}
use Rattle.std.specs.Global.{Global}
use Rattle.outside.specs.Outside.{Outside}
use Rattle.command_words.specs.Calls.{Load}
use Rattle.command_words.specs.Words.{IsMake}
use Rattle.command_words.specs.WordsLaws.{WordsAreOneLoad}
use Rattle.command.specs.Made.{Made}

-- what is said of the load that was made is said of the one that the words ask for
pub made_as_asked : WordsAreOneLoad → (words : List (String Global)) (load other : Load) (tells : Bool) (before now : Outside) (status : ℕ)
    → IsMake words load → Made tells load before now status → IsMake words other → Made tells other before now status
made_as_asked one words load other tells before now status is made asked =
    subst (λ l. Made tells l before now status) (one words load other is asked) made
