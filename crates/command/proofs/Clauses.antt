-- The clauses of a call over its buffer, said of the sink below.
use Rattle.std.proofs.Common.{◌≡◌, ◌≢◌, ◌<◌, ◌∙◌, ◌∷◌, ℕ, Bool, List, [], subst}
use Rattle.std.specs.Prelude.{◌↔◌, String}
use Rattle.std.specs.Global.{Global}
use Rattle.std.specs.Bool.{OnTrue}
use Rattle.outside.specs.Outside.{FilesState, SinkState, outside}
use Rattle.command_words.specs.Calls.{Call, Load}
use Rattle.command_answers.specs.Promise.{HasDone, IsRefusedForTime}
use Rattle.command_answers.specs.declared.status.Status.{Status}
use Rattle.command_answers.specs.Acts.{number_of}
use Rattle.command_answers.specs.Causes.{HasCause}
use Rattle.command_answers.specs.Files.{listed, sources_of, target_of}
use Rattle.command_answers.specs.Went.{Went, IsUsage}
use Rattle.command.specs.Made.{Made}
use Rattle.command.specs.Settled.{CauseStands, HasTakenNothing, IsSettled}
use Rattle.command.specs.Tried.{HasEnded}
use Rattle.command.proofs.Settling.{same_state}
use Rattle.command.proofs.Calls.{went_settled, made_settled, usage_settled, zero_settled, low_settled, cause_settled}

-- The buffer begins as the sink below: `a` is its state at the start, `b` that of the sink.
module _ (f f' : FilesState) (a b m w : SinkState) (s n : ℕ) (taken : a.taken ≡ b.taken) (faults : a.faults ≡ b.faults) (none : HasTakenNothing b.taken) (settled : IsSettled m w s n) where
  begins : a ≡ b
  begins = same_state a b taken faults

  pub went_whole : (tells : Bool) (call : Call) → Went tells call (outside f a) (outside f' m) s → Went tells call (outside f b) (outside f' w) n
  went_whole tells call went =
      went_settled tells call f f' b m w s n none (subst (λ (o : SinkState). Went tells call (outside f o) (outside f' m) s) begins went) settled

  pub made_whole : (tells : Bool) (load : Load) → Made tells load (outside f a) (outside f' m) s → Made tells load (outside f b) (outside f' w) n
  made_whole tells load made =
      made_settled tells load f f' b m w s n none (subst (λ (o : SinkState). Made tells load (outside f o) (outside f' m) s) begins made) settled

  pub usage_whole : IsUsage (outside f a) (outside f' m) s → IsUsage (outside f b) (outside f' w) n
  usage_whole usage =
      usage_settled f f' b m w s n none (subst (λ (o : SinkState). IsUsage (outside f o) (outside f' m) s) begins usage) settled

  pub done_whole : (tells : Bool) (call : Call) → Went tells call (outside f a) (outside f' m) s
      → OnTrue tells (s ≡ 0 → HasDone call (outside f a) (outside f' m)) → OnTrue tells (n ≡ 0 → HasDone call (outside f b) (outside f' w))
  done_whole tells call went done =
      zero_settled (λ o. HasDone call (outside f b) (outside f' o)) tells call f f' b m w s n none
      (subst (λ (o : SinkState). Went tells call (outside f o) (outside f' m) s) begins went)
      (subst (λ (o : SinkState). OnTrue tells (s ≡ 0 → HasDone call (outside f o) (outside f' m))) begins done) settled

-- The status, whatever the files hold then.
module _ (f : FilesState) (a b m w : SinkState) (s n : ℕ) (taken : a.taken ≡ b.taken) (faults : a.faults ≡ b.faults) (settled : IsSettled m w s n) where
  pub late_whole : (tells : Bool) (call : Call) → OnTrue tells (s < 6 → (s ≡ 3) ↔ IsRefusedForTime call (outside f a))
      → OnTrue tells (n < 6 → (n ≡ 3) ↔ IsRefusedForTime call (outside f b))
  late_whole tells call late =
      low_settled (λ k. (k ≡ 3) ↔ IsRefusedForTime call (outside f b)) tells m w s n
      (subst (λ (o : SinkState). OnTrue tells (s < 6 → (s ≡ 3) ↔ IsRefusedForTime call (outside f o))) (same_state a b taken faults) late) settled

-- What the status names.
module _ (f f' : FilesState) (a b m w : SinkState) (s n : Status) (taken : a.taken ≡ b.taken) (faults : a.faults ≡ b.faults) (stands : CauseStands m w s n) where
  cause_below : (sources targets : List (List ℕ)) → (number_of s ≢ 7 → m.faults ≡ a.faults) → HasCause sources targets (outside f a) (outside f' m) s
      → HasCause sources targets (outside f b) (outside f' w) n
  cause_below sources targets quiet cause =
      cause_settled sources targets f f' b m w s n (λ other. quiet other ∙ faults)
      (subst (λ (o : SinkState). HasCause sources targets (outside f o) (outside f' m) s) (same_state a b taken faults) cause) stands

  pub cause_whole : (words : List (String Global)) → (number_of s ≢ 7 → m.faults ≡ a.faults) → HasEnded words (outside f a) (outside f' m) s → HasEnded words (outside f b) (outside f' w) n
  cause_whole words quiet ended = record {
    command = λ call is. cause_below (sources_of call) (listed (target_of call)) quiet (ended.command call is);
    load = λ load is. cause_below [] (load.program ∷ load.script ∷ []) quiet (ended.load load is);
    other = λ no no_load. cause_below [] [] quiet (ended.other no no_load);
  }
