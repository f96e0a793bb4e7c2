-- Acts that are made.
use Rattle.std.specs.Prelude.{◌≡◌, ◌≢◌, ℕ, List, Option, Some, None, IfSome}
use Rattle.command_answers.specs.declared.status.Status.{Status}
use Rattle.command_answers.specs.declared.act.PreparedCall.{PreparedCall}
use Rattle.command_answers.specs.Acts.{number_of, CanRun}
use Rattle.command_answers.specs.Went.{IsAnswer}

-- the act that puts a text, and stores and runs nothing
abbrev pub puts : Status → List ℕ → PreparedCall
puts status text = record { status = status; text = text; store = None; run = None }

-- the act can be done for a call that writes this file, if any
pub record CanBeDone (target : Option (List ℕ)) (act : PreparedCall) : Type 0 where
  pub at : IfSome act.store (λ s. target ≡ Some s.name.now)
  pub stored : IfSome act.store (λ s. number_of act.status ≡ 0)
  pub runs : IfSome act.run CanRun
  pub answered : IsAnswer (number_of act.status)
  pub is_command : number_of act.status ≢ 1

-- the act stores and runs nothing, so it can be done for each call
abbrev pub IsQuiet : PreparedCall → Type 0
IsQuiet act = (target : Option (List ℕ)) → CanBeDone target act
