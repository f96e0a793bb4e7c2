-- A command that is refused is told right.
use Rattle.std.proofs.Common.{◌≡◌, ◌≢◌, ◌⊎◌, ◌∙◌, ℕ, List, Bool, true, false, inl, inr, sym, subst, arith}
use Rattle.std.specs.Prelude.{String}
use Rattle.std.specs.Bool.{OnTrue}
use Rattle.std.specs.Global.{Global}
use Rattle.outside.specs.Outside.{FilesState, SinkState, Outside, outside}
use Rattle.command_words.specs.Calls.{Call}
use Rattle.command_words.specs.Words.{IsCommand}
use Rattle.command_words.specs.WordsLaws.{WordsAreOneCommand}
use Rattle.command_answers.specs.declared.act.PreparedCall.{PreparedCall}
use Rattle.command_answers.specs.declared.status.Status.{Status}
use Rattle.command_answers.specs.declared.status.Status.TheVariants as status
use Rattle.command_answers.specs.Acts.{number_of, outcome_of}
use Rattle.command_answers.specs.Prepared.{IsPrepared}
use Rattle.command_perform.specs.Performed.{Performed}
use Rattle.command_refusals.specs.Refusals.{IsExplained}
use Rattle.command.specs.Told.{IsRefusal}
use Rattle.command.specs.Explained.{IsToldRight}
use Rattle.command.specs.Settled.{CauseStands, IsSettled, whole, idle, lost}
use Rattle.command.proofs.Settling.{same_state}

-- the number of a refusal is none of 0, 6, 7 and 8
record IsOther (number : ℕ) : Type 0 where
  pub done : number ≢ 0
  pub read : number ≢ 6
  pub written : number ≢ 7
  pub memory : number ≢ 8

other_number : (answer : Status) → IsRefusal answer → IsOther (number_of answer)
other_number status.Text is = record { done = λ e. omega (arith, e); read = λ e. omega (arith, e); written = λ e. omega (arith, e); memory = λ e. omega (arith, e) }
other_number status.Late is = record { done = λ e. omega (arith, e); read = λ e. omega (arith, e); written = λ e. omega (arith, e); memory = λ e. omega (arith, e) }
other_number status.Image is = record { done = λ e. omega (arith, e); read = λ e. omega (arith, e); written = λ e. omega (arith, e); memory = λ e. omega (arith, e) }
other_number status.Script is = record { done = λ e. omega (arith, e); read = λ e. omega (arith, e); written = λ e. omega (arith, e); memory = λ e. omega (arith, e) }
other_number status.Log is = record { done = λ e. omega (arith, e); read = λ e. omega (arith, e); written = λ e. omega (arith, e); memory = λ e. omega (arith, e) }
other_number status.Done is = absurd is
other_number status.Usage is = absurd is
other_number (status.Unread name) is = absurd is
other_number (status.Unwritten name) is = absurd is
other_number status.Unput is = absurd is
other_number status.Memory is = absurd is

-- ---- an act that was performed

pub performed_right : (tells : Bool) (call : Call) (b m n : FilesState) (o o' : SinkState) (act : PreparedCall) (answer : Status) (message : List ℕ)
    → IsPrepared tells call b act → Performed tells act (outside m o) (outside n o') (number_of answer) → IsExplained tells call b.held message act
    → OnTrue tells (IsRefusal answer → IsToldRight call (outside b o) (outside n o') (number_of answer) message)
performed_right true call b m n o o' act answer message p d explained = λ refusal.
    let other = other_number answer refusal in
    let same : number_of answer ≡ number_of act.status = elim d.range [
      | inl is ↦ is
      | inr more ↦ absurd (elim more [ inl seven ↦ other.written seven | inr eight ↦ other.memory eight ])
    ] in
    record {
      outcome = outcome_of act;
      due = p.due;
      is = same;
      put = d.whole other.written other.memory;
      told = explained (λ zero. other.done (same ∙ zero));
    }
performed_right false call b m n o o' act answer message p d explained = tt

-- ---- by the words

pub command_right : WordsAreOneCommand → (tells : Bool) (words : List (String Global)) (call : Call) (before now : Outside) (answer : Status) (message : List ℕ) → IsCommand words call
    → OnTrue tells (IsRefusal answer → IsToldRight call before now (number_of answer) message)
    → (other : Call) → IsCommand words other → OnTrue tells (IsRefusal answer → IsToldRight other before now (number_of answer) message)
command_right one tells words call before now answer message is right other asked =
    subst (λ c. OnTrue tells (IsRefusal answer → IsToldRight c before now (number_of answer) message)) (one words call other is asked) right

-- ---- below the buffer

module _ (f f' : FilesState) (a b m w : SinkState) (s n : Status) (message : List ℕ) (taken : a.taken ≡ b.taken) (faults : a.faults ≡ b.faults)
    (settled : IsSettled m w (number_of s) (number_of n)) (stands : CauseStands m w s n) where
  same_below : IsSettled m w (number_of s) (number_of n) → IsOther (number_of n) → w ≡ m
  same_below (whole is took fault) other = same_state w m took fault
  same_below (idle is which rest below fault) other = absurd (elim which [ inl six ↦ other.read (is ∙ six) | inr eight ↦ other.memory (is ∙ eight) ])
  same_below (lost is six eight rest below rose some) other = absurd (other.written is)

  pub right_whole : (tells : Bool) (call : Call) → OnTrue tells (IsRefusal s → IsToldRight call (outside f a) (outside f' m) (number_of s) message)
      → OnTrue tells (IsRefusal n → IsToldRight call (outside f b) (outside f' w) (number_of n) message)
  right_whole false call right = tt
  right_whole true call right = λ refusal. elim stands [
    | inl same ↦
        subst (λ (o : SinkState). IsToldRight call (outside f b) (outside f' o) (number_of n) message) (sym (same_below settled (other_number n refusal)))
        (subst (λ (o : SinkState). IsToldRight call (outside f o) (outside f' m) (number_of n) message) (same_state a b taken faults)
        (subst (λ (k : Status). IsToldRight call (outside f a) (outside f' m) (number_of k) message) (sym same.0) (right (subst IsRefusal same.0 refusal))))
    | inr fell ↦ absurd (subst IsRefusal fell.0 refusal)
  ]
