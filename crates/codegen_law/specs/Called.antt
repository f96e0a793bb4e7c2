-- What a well-formed text calls.
use Rattle.std.specs.Prelude.{◌≡◌, ◌⊎◌, Bool, true, List, [], ◌∷◌, Option, Some, IsSome}
use Rattle.syntax_tree.specs.Plain.{Name, Stmts, Answers, Process, Program}
use Rattle.source_semantics.specs.Run.{Found, routine_named, entry_named}
use Rattle.code_spec.specs.Numbering.{Called, calls_routine, calls_entry, stmts_calls, answers_calls}
use Rattle.static_semantics.specs.Here.{Here}
use Rattle.static_semantics.specs.Statements.{AllFit, may_call}
use Rattle.static_semantics.specs.WellFormed.{AnswersFit}

-- so it is of each call
abbrev pub AllCalled : (Called → Type 0) → List Called → Type 0
AllCalled P [] = Unit {0}
AllCalled P (c ∷ cs) = P c × AllCalled P cs

-- a routine that is found, a function where the text may call nothing else
pub record FindsRoutine (g : Program) (p : Process) (may : Bool) (f : Name) : Type 0 where
  pub found : Found
  pub is : routine_named g p f ≡ Some found
  pub allowed : IsSome found.routine.answers ⊎ (may ≡ true)

-- an entry that is found, where the text may call it
pub record FindsEntry (g : Program) (may : Bool) (m e : Name) : Type 0 where
  pub found : Found
  pub is : entry_named g m e ≡ Some found
  pub allowed : may ≡ true

abbrev pub Finds : Program → Process → Bool → Called → Type 0
Finds g p may (calls_routine f) = FindsRoutine g p may f
Finds g p may (calls_entry m e) = FindsEntry g may m e

-- each call of a text finds what it names; `may` says whether the text may call procedures and
-- entries
pub record TextFinds (h : Here) (body : Stmts) (answers : Option Answers) : Type 0 where
  pub body_finds : AllCalled (Finds h.program h.process (may_call h)) (stmts_calls body)
  pub answers_find : AllCalled (Finds h.program h.process (may_call h)) (answers_calls answers)

-- The law: so it is of texts that fit where they stand.
abbrev pub TextsCallWhatIsFound : Type 0
TextsCallWhatIsFound = (h : Here) (body : Stmts) (answers : Option Answers) → AllFit h body → AnswersFit h.program h answers → TextFinds h body answers
