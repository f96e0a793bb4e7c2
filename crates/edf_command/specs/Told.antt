-- What is told of a program that was judged, where the call is refused.
use Rattle.std.specs.Prelude.{◌≡◌, ◌⊎◌, ℕ, List, Option, IsSomeAnd}
use Rattle.command_due.specs.CommandsDue.{Outcome}
use Rattle.message_program.specs.Late.{demand_message}
use Rattle.command_refusals.specs.Told.{IsScriptTold}
use Rattle.edf_command.specs.declared.judged.Judged.{Judged}
use Rattle.edf_command.specs.Judged.{IsMet}

-- that its demand is not met
pub record IsUnfitTold (file : List ℕ) (s : Judged) (outcome : Outcome) (message : List ℕ) : Type 0 where
  pub late : outcome.status ≡ 3
  pub is : message ≡ demand_message file s.answer

-- or the fault of the script
abbrev pub IsSubjectTold : (file : List ℕ) (s : Judged) (held : Option (List ℕ)) (script : List ℕ) (outcome : Outcome) (message : List ℕ) → Type 0
IsSubjectTold file s held script outcome message =
    IsUnfitTold file s outcome message
    ⊎ (IsMet s.answer × IsSomeAnd held (λ text. IsScriptTold s.image.names script text outcome message))
