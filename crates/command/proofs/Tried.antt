-- Which files a call has tried.
use Rattle.std.proofs.Common.{◌≡◌, ◌≢◌, ◌⊎◌, ◌∙◌, ◌++◌, ◌∷◌, ℕ, List, [], Option, Some, None, inl, inr, sym, subst, ap, arith}
use Rattle.std.specs.Prelude.{IfSome, IsSomeAnd, String}
use Rattle.std.specs.Global.{Global}
use Rattle.outside.specs.Outside.{IsAdded, Outside}
use Rattle.command_words.specs.Calls.{Call, Load}
use Rattle.command_words.specs.Words.{IsCommand, IsMake}
use Rattle.command_words.specs.WordsLaws.{NoCommandIsALoad, WordsAreOneCommand, WordsAreOneLoad}
use Rattle.command_answers.specs.declared.act.Store.{Store}
use Rattle.command_answers.specs.Acts.{IsAtTarget}
use Rattle.command_answers.specs.declared.status.Status.{Status}
use Rattle.command_answers.specs.Causes.{HasCause}
use Rattle.command_answers.specs.Files.{listed, sources_of, target_of}
use Rattle.command_answers.specs.Tried.{HasTried, HasTriedTarget}
use Rattle.command_perform.specs.Performed.{WritesIt}
use Rattle.command.specs.Tried.{HasEnded, HasRead, HasWritten}

-- ---- a command that was performed

-- what was read is what was read of the act, whose status is `of_act`
pub performed_reads : (names before mid now : List (List ℕ)) (of_act status : ℕ) → HasTried names before mid of_act → now ≡ mid → (status ≡ of_act) ⊎ ((status ≡ 7) ⊎ (status ≡ 8)) → of_act ≢ 8
    → HasTried names before now status
performed_reads names before mid now of_act status h same range other = record {
  count = h.count;
  is = same ∙ h.is;
  all = λ zero. same ∙ h.all (elim range [
    | inl is ↦ sym is ∙ zero
    | inr more ↦ absurd (elim more [ inl seven ↦ omega (arith, seven, zero) | inr eight ↦ omega (arith, eight, zero) ])
  ]);
  some = λ _. h.some other;
}

-- its file was written, if it stores something
pub performed_writes : (call : Call) (store : Option Store) (before mid now : List (List ℕ)) (of_act status : ℕ) → IsAtTarget call store → IfSome store (λ s. of_act ≡ 0) → mid ≡ before
    → WritesIt store mid now → (status ≡ of_act) ⊎ ((status ≡ 7) ⊎ (status ≡ 8)) → HasTriedTarget (target_of call) before now status
performed_writes call None before mid now of_act status at zero same written range = inl (written ∙ same)
performed_writes call (Some s) before mid now of_act status at zero same written range = elim written [
  | inl added ↦ inr (
    subst (λ (t : Option (List ℕ)). IsSomeAnd t (IsAdded before now)) (sym at) (added ∙ ap (λ l. l ++ s.name.now ∷ []) same),
    elim range [ inl is ↦ inl (is ∙ zero) | inr more ↦ inr more ],
  )
  | inr none ↦ inl (none ∙ same)
]

-- ---- by the words

pub command_read : WordsAreOneCommand → (words : List (String Global)) (call : Call) (before now : List (List ℕ)) (status : ℕ) → IsCommand words call
    → HasTried (sources_of call) before now status → HasRead words before now status
command_read one words call before now status is h = record {
  command = λ other asked. subst (λ c. HasTried (sources_of c) before now status) (one words call other is asked) h;
  other = λ no. absurd (no call is);
}

pub command_written : WordsAreOneCommand → NoCommandIsALoad → (words : List (String Global)) (call : Call) (before now : List (List ℕ)) (status : ℕ) → IsCommand words call
    → HasTriedTarget (target_of call) before now status → HasWritten words before now status
command_written one none words call before now status is h = record {
  command = λ other asked. subst (λ c. HasTriedTarget (target_of c) before now status) (one words call other is asked) h;
  load = λ load asked. absurd (none words call load is asked);
  other = λ no no_load. absurd (no call is);
}

pub load_read : NoCommandIsALoad → (words : List (String Global)) (load : Load) (before now : List (List ℕ)) (status : ℕ) → IsMake words load → now ≡ before → HasRead words before now status
load_read none words load before now status is same = record { command = λ call asked. absurd (none words call load asked is); other = λ no. same }

pub load_written : WordsAreOneLoad → NoCommandIsALoad → (words : List (String Global)) (load : Load) (before now : List (List ℕ)) (status : ℕ) → IsMake words load
    → HasTried (load.program ∷ load.script ∷ []) before now status → HasWritten words before now status
load_written one none words load before now status is h = record {
  command = λ call asked. absurd (none words call load asked is);
  load = λ other asked. subst (λ (l : Load). HasTried (l.program ∷ l.script ∷ []) before now status) (one words load other is asked) h;
  other = λ no no_load. absurd (no_load load is);
}

-- ---- what ended it, by the words

pub command_ended : WordsAreOneCommand → NoCommandIsALoad → (words : List (String Global)) (call : Call) (before now : Outside) (answer : Status) → IsCommand words call
    → HasCause (sources_of call) (listed (target_of call)) before now answer → HasEnded words before now answer
command_ended one none words call before now answer is cause = record {
  command = λ other asked. subst (λ c. HasCause (sources_of c) (listed (target_of c)) before now answer) (one words call other is asked) cause;
  load = λ load asked. absurd (none words call load is asked);
  other = λ no no_load. absurd (no call is);
}

pub load_ended : WordsAreOneLoad → NoCommandIsALoad → (words : List (String Global)) (load : Load) (before now : Outside) (answer : Status) → IsMake words load
    → HasCause [] (load.program ∷ load.script ∷ []) before now answer → HasEnded words before now answer
load_ended one none words load before now answer is cause = record {
  command = λ call asked. absurd (none words call load asked is);
  load = λ other asked. subst (λ l. HasCause [] (l.program ∷ l.script ∷ []) before now answer) (one words load other is asked) cause;
  other = λ no no_load. absurd (no_load load is);
}
