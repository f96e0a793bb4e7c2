-- What was put of a message.
use Rattle.std.proofs.Common.{◌≡◌, ◌⊎◌, ℕ, List, [], Result, Ok, Err, OnErr, OnOk, ◌∙◌, inl, inr, refl, subst}
use Rattle.std.specs.Prelude.{String}
use Rattle.std.specs.Global.{Global}
use Rattle.outside.specs.Outside.{SinkState, Rose, Appends, Appends-nothing, AppendsFront}
use Rattle.command_answers.specs.declared.status.Status.{Status}
use Rattle.command_answers.specs.declared.status.Status.TheVariants as status
use Rattle.command.specs.Told.{HasPut, HasTold, message_of, silent, told}

-- nothing of nothing
pub nothing_put : (s : SinkState) → HasPut [] s s
nothing_put s = inl (Appends-nothing s.taken, refl)

-- what a put took, whatever it answers
pub piece_put : {A E : Type 0} (r : Result A E) (before now : SinkState) (piece : List ℕ) → OnOk r (Appends before.taken now.taken piece) → OnOk r (now.faults ≡ before.faults)
    → OnErr r (AppendsFront before.taken now.taken piece) → OnErr r (Rose before.faults now.faults) → HasPut piece before now
piece_put (Ok v) before now piece whole quiet front rose = inl (whole, quiet)
piece_put (Err e) before now piece whole quiet front rose = inr (front, rose)

-- ---- by the status

module _ (words : List (String Global)) (refusal : List ℕ) (before now : SinkState) where
  by_status : (answer : Status) → HasPut (message_of words refusal answer) before now → (message_of words refusal answer ≡ [] → now ≡ before) → HasTold words refusal answer before now
  by_status status.Done put nothing = silent (λ has. has) (nothing refl)
  by_status status.Usage put nothing = told tt put
  by_status status.Text put nothing = told tt put
  by_status status.Late put nothing = told tt put
  by_status status.Image put nothing = told tt put
  by_status status.Script put nothing = told tt put
  by_status (status.Unread name) put nothing = told tt put
  by_status (status.Unwritten name) put nothing = told tt put
  by_status status.Unput put nothing = told tt put
  by_status status.Memory put nothing = told tt put
  by_status status.Log put nothing = told tt put

  pub told_by : (answer : Status) (text : List ℕ) → text ≡ message_of words refusal answer → HasPut text before now → (text ≡ [] → now ≡ before) → HasTold words refusal answer before now
  told_by answer text is put nothing =
      by_status answer (subst (λ (t : List ℕ). HasPut t before now) is put) (λ none. nothing (is ∙ none))
