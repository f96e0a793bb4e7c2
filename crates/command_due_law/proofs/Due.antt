-- What is due of the two texts is one.
use Rattle.std.proofs.Common.{◌≡◌, ◌++◌, ◌∙◌, ℕ, List, Option, Some, sym, ap, subst}
use Rattle.syntax_tree.specs.declared.place.Place.{Place}
use Rattle.syntax_tree.specs.Placed.{Prog, plain}
use Rattle.image.specs.Named.{NamedImage}
use Rattle.script.specs.declared.script.ScriptLine.{ScriptLine}
use Rattle.script.specs.Script.{IsOneScript}
use Rattle.script.specs.OneAnswer.{NoScriptIsFaulty, FaultsAreOne}
use Rattle.command_due.specs.Source.{IsWritten, IsTextFault, fault_line}
use Rattle.command_due.specs.CommandsDue.{Outcome, told}
use Rattle.command_due_law.specs.DueOnce.{WrittenOnce, WrittenOrFaulty, TextsHaveOneFault}
use Rattle.sched_demand.specs.declared.judging.Judgement.{Judgement}
use Rattle.sched_demand.specs.declared.judging.Judgement.TheVariants as judgement
use Rattle.command_due.specs.Image.{IsEdfImage}
use Rattle.command_due.specs.Tasks.{IsAnswer}
use Rattle.command_due.specs.Waits.{IsFirstWait, WaitFails}
use Rattle.command_due.specs.Report.{edf_report}
use Rattle.command_due.specs.EdfDue.{IsJudgedText, IsFeasibleText, IsUnfit, edf_log, IsEdfDue, edf_faulty, edf_waits, edf_unfit, edf_bad_script, edf_ran}
use Rattle.command_due_law.specs.EdfDueOnce.{AnswersAreOne, EdfImagesAreOne, EdfIsOne}
use Rattle.command_due_law.proofs.Texts.{same_line}
use Rattle.command_due_law.proofs.DueOnceFirsts.{one_first}
use Rattle.command_due_law.proofs.DueOnceScripts.{text_once, Played, faulty_script, played, played_once}

-- what comes of a script that is one
abbrev comes : NamedImage → ℕ → List ScriptLine → ℕ → Outcome
comes n points lines end = told 0 (edf_report n (judgement.Feasible points) ++ edf_log n lines end)

-- what is due where no script is asked
data Refused (text : List ℕ) (outcome : Outcome) : Type 0 where
  by_fault : (number : ℕ) (place : Place) → IsTextFault text number place → outcome ≡ told 2 (fault_line number place) → Refused text outcome
  by_wait : (g : Prog Place) (place : Place) → IsWritten text g → IsFirstWait g place → outcome ≡ told 2 (fault_line 48 place) → Refused text outcome
  by_demand : (n : NamedImage) (answer : Judgement) → IsJudgedText text n answer → IsUnfit answer → outcome ≡ told 3 (edf_report n answer) → Refused text outcome

data Split (program script : Option (List ℕ)) (outcome : Outcome) : Type 0 where
  refused : (text : List ℕ) → program ≡ Some text → Refused text outcome → Split program script outcome
  fit : (text : List ℕ) (n : NamedImage) (points : ℕ) → program ≡ Some text → IsFeasibleText text n points → Played n.names script (comes n points) outcome → Split program script outcome

split : (program script : Option (List ℕ)) (outcome : Outcome) → IsEdfDue program script outcome → Split program script outcome
split program script outcome (edf_faulty text number place held fault is) = refused text held (by_fault number place fault is)
split program script outcome (edf_waits text g place held written first is) = refused text held (by_wait g place written first is)
split program script outcome (edf_unfit text n answer held judged unfit is) = refused text held (by_demand n answer judged unfit is)
split program script outcome (edf_bad_script text other n points fault held fits script_held bad is) = fit text n points held fits (faulty_script other fault script_held bad.is is)
split program script outcome (edf_ran text other n points lines end held fits script_held script_is is) = fit text n points held fits (played other lines end script_held script_is is)

feasible_same : (n k : ℕ) → judgement.Feasible n ≡ judgement.Feasible k → n ≡ k
feasible_same n k same = cc

module _ (images : EdfImagesAreOne) (answers : AnswersAreOne) (once : WrittenOnce) (apart : WrittenOrFaulty) (faults : TextsHaveOneFault) where
  judged_once : (text : List ℕ) (m n : NamedImage) (a b : Judgement) → IsJudgedText text m a → IsJudgedText text n b → (m ≡ n) × (a ≡ b)
  judged_once text m n a b one two =
      let trees : one.tree ≡ two.tree = once text one.tree two.tree one.written two.written in
      let same : m ≡ n = images (plain two.tree) m n (subst (λ (g : Prog Place). IsEdfImage (plain g) m) trees one.image) two.image in
      (same, answers n.image a b two.image.shaped.ranks (subst (λ (x : NamedImage). IsAnswer x.image a) same one.answered) two.answered)

  wait_or_none : (text : List ℕ) (g : Prog Place) (place : Place) (n : NamedImage) (answer : Judgement) → IsWritten text g → IsFirstWait g place → IsJudgedText text n answer → ⊥
  wait_or_none text g place n answer written first judged =
      judged.waitless 48 place (subst (λ (x : Prog Place). WaitFails x 48 place) (once text g judged.tree written judged.written) first.broken)

  refusals : (text : List ℕ) (outcome other : Outcome) → Refused text outcome → Refused text other → outcome ≡ other
  refusals text outcome other (by_fault number place fault is) (by_fault n p also was) = is ∙ (ap (told 2) (same_line number n place p (faults text number n place p fault also)) ∙ sym was)
  refusals text outcome other (by_fault number place fault is) (by_wait g p written first was) = absurd (apart text g number place written fault)
  refusals text outcome other (by_fault number place fault is) (by_demand n answer judged unfit was) = absurd (apart text judged.tree number place judged.written fault)
  refusals text outcome other (by_wait g place written first is) (by_fault n p also was) = absurd (apart text g n p written also)
  refusals text outcome other (by_wait g place written first is) (by_wait h p written' first' was) =
      let same = one_first (WaitFails g) 48 48 place p first (subst (λ (x : Prog Place). IsFirstWait x p) (once text h g written' written) first') in
      is ∙ (ap (λ (x : Place). told 2 (fault_line 48 x)) same.1 ∙ sym was)
  refusals text outcome other (by_wait g place written first is) (by_demand n answer judged unfit was) = absurd (wait_or_none text g place n answer written first judged)
  refusals text outcome other (by_demand n answer judged unfit is) (by_fault number p also was) = absurd (apart text judged.tree number p judged.written also)
  refusals text outcome other (by_demand n answer judged unfit is) (by_wait h p written first was) = absurd (wait_or_none text h p n answer written first judged)
  refusals text outcome other (by_demand n answer judged unfit is) (by_demand k b judged' unfit' was) =
      let same = judged_once text n k answer b judged judged' in
      is ∙ (ap (λ (x : NamedImage). told 3 (edf_report x answer)) same.0 ∙ (ap (λ (x : Judgement). told 3 (edf_report k x)) same.1 ∙ sym was))

  refused_or_fit : (text : List ℕ) (outcome : Outcome) (n : NamedImage) (points : ℕ) → Refused text outcome → IsFeasibleText text n points → ⊥
  refused_or_fit text outcome n points (by_fault number place fault is) fits = apart text fits.tree number place fits.written fault
  refused_or_fit text outcome n points (by_wait g place written first is) fits = wait_or_none text g place n (judgement.Feasible points) written first fits
  refused_or_fit text outcome n points (by_demand k answer judged unfit is) fits = unfit points (judged_once text k n answer (judgement.Feasible points) judged fits).1

  module _ (scripts : IsOneScript) (no_fault : NoScriptIsFaulty) (script_faults : FaultsAreOne) where
    by : (program script : Option (List ℕ)) (outcome other : Outcome) → Split program script outcome → Split program script other → outcome ≡ other
    by program script outcome other (refused text held one) (refused text' held' two) = refusals text outcome other one (subst (λ (t : List ℕ). Refused t other) (text_once program text' text held' held) two)
    by program script outcome other (refused text held one) (fit text' n points held' fits two) =
        absurd (refused_or_fit text outcome n points one (subst (λ (t : List ℕ). IsFeasibleText t n points) (text_once program text' text held' held) fits))
    by program script outcome other (fit text n points held fits one) (refused text' held' two) =
        absurd (refused_or_fit text' other n points two (subst (λ (t : List ℕ). IsFeasibleText t n points) (text_once program text text' held held') fits))
    by program script outcome other (fit text n points held fits one) (fit text' k count held' fits' two) =
        let also : IsFeasibleText text k count = subst (λ (t : List ℕ). IsFeasibleText t k count) (text_once program text' text held' held) fits' in
        let same = judged_once text k n (judgement.Feasible count) (judgement.Feasible points) also fits in
        let counts : count ≡ points = feasible_same count points same.1 in
        let second : Played n.names script (comes n points) other =
        subst (λ (x : NamedImage). Played x.names script (comes x points) other) same.0 (subst (λ (c : ℕ). Played k.names script (comes k c) other) counts two) in
        played_once scripts no_fault script_faults n.names script (comes n points) outcome other one second

    pub due_once : EdfIsOne
    due_once program script outcome other one two = by program script outcome other (split program script outcome one) (split program script other two)
