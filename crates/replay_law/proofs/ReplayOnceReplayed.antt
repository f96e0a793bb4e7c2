-- What is due of `replay` is one.
use Rattle.std.proofs.Common.{◌≡◌, ◌∙◌, ℕ, List, Option, Some, ap, sym, subst}
use Rattle.syntax_tree.specs.declared.place.Place.{Place}
use Rattle.syntax_tree.specs.Placed.{Prog, plain}
use Rattle.script.specs.declared.script.ScriptLine.{ScriptLine}
use Rattle.script.specs.declared.fault.ScriptFault.{ScriptFault}
use Rattle.script.specs.Faults.{IsFault}
use Rattle.script.specs.Script.{IsOneScript}
use Rattle.script.specs.Scripts.{IsScript}
use Rattle.script.specs.OneAnswer.{NoScriptIsFaulty, FaultsAreOne}
use Rattle.built_image.specs.Named.{names_of}
use Rattle.command_due.specs.Source.{IsWritten, IsTextFault}
use Rattle.command_due.specs.CommandsDue.{Outcome, bad_script, told}
use Rattle.command_due_law.specs.DueOnce.{WrittenOnce, WrittenOrFaulty, TextsHaveOneFault}
use Rattle.command_due.specs.ReplayDue.{IsJudged, IsReplayDue, replay_faulty, replay_bad_script, replay_judged}
use Rattle.replay_law.specs.Once.{JudgementsAreOne, ReplayIsOne}
use Rattle.command_due_law.proofs.DueOnceScripts.{text_once}
use Rattle.command_due_law.proofs.Texts.{same_line}

module _ (once : WrittenOnce) (apart : WrittenOrFaulty) (faults : TextsHaveOneFault) (scripts : IsOneScript) (never : NoScriptIsFaulty) (script_faults : FaultsAreOne) (judgements : JudgementsAreOne) (program script log : Option (List ℕ)) where
  -- two texts that the file holds are those of one program
  program_once : (text other : List ℕ) (g h : Prog Place) → program ≡ Some text → program ≡ Some other → IsWritten text g → IsWritten other h → g ≡ h
  program_once text other g h held also written twice = once text g h written (subst (λ (t : List ℕ). IsWritten t h) (text_once program other text also held) twice)

  not_faulty : (text other : List ℕ) (g : Prog Place) (number : ℕ) (place : Place) → program ≡ Some text → program ≡ Some other → IsWritten text g → IsTextFault other number place → ⊥
  not_faulty text other g number place held also written fault = apart text g number place written (subst (λ (t : List ℕ). IsTextFault t number place) (text_once program other text also held) fault)

  -- a text that is a script for the names of one program, and has a fault for those of the other, which is the same
  not_bad : (g h : Prog Place) (text other : List ℕ) (lines : List ScriptLine) (end : ℕ) (fault : ScriptFault) → g ≡ h → script ≡ Some text → script ≡ Some other
      → IsScript (names_of (plain g)) text lines end → IsFault (names_of (plain h)) other fault → ⊥
  not_bad g h text other lines end fault same held also is wrong =
      never (names_of (plain g)) text lines end fault is
      (subst (λ (t : List ℕ). IsFault (names_of (plain g)) t fault) (text_once script other text also held) (subst (λ (x : Prog Place). IsFault (names_of (plain x)) other fault) (sym same) wrong))

  pub replay_once : (outcome other : Outcome) → IsReplayDue program script log outcome → IsReplayDue program script log other → outcome ≡ other
  replay_once outcome other (replay_faulty text n p held fault is) (replay_faulty text' m q held' fault' was) =
      let also = subst (λ (t : List ℕ). IsTextFault t m q) (text_once program text' text held' held) fault' in
      is ∙ (ap (told 2) (same_line n m p q (faults text n m p q fault also)) ∙ sym was)
  replay_once outcome other (replay_faulty text n p held fault is) (replay_bad_script text' s h f held' written script_held wrong memory was) = absurd (not_faulty text' text h n p held' held written fault)
  replay_once outcome other (replay_faulty text n p held fault is) (replay_judged h lines end t recorded log_held judged) = absurd (not_faulty recorded.text text h n p recorded.is_held held recorded.written fault)
  replay_once outcome other (replay_bad_script text s g f held written script_held wrong memory is) (replay_faulty text' m q held' fault was) = absurd (not_faulty text text' g m q held held' written fault)
  replay_once outcome other (replay_judged g lines end t recorded log_held judged) (replay_faulty text' m q held' fault was) = absurd (not_faulty recorded.text text' g m q recorded.is_held held' recorded.written fault)
  replay_once outcome other (replay_bad_script text s g f held written script_held wrong memory is) (replay_bad_script text' s' h f' held' written' script_held' wrong' memory' was) =
      let same : g ≡ h = program_once text text' g h held held' written written' in
      let also = subst (λ (t : List ℕ). IsFault (names_of (plain g)) t f') (text_once script s' s script_held' script_held) (subst (λ (x : Prog Place). IsFault (names_of (plain x)) s' f') (sym same) wrong') in
      is ∙ (ap (λ (x : ScriptFault). bad_script x) (script_faults (names_of (plain g)) s f f' wrong also) ∙ sym was)
  replay_once outcome other (replay_bad_script text s g f held written script_held wrong memory is) (replay_judged h lines end t recorded log_held judged) =
      absurd (not_bad h g recorded.other s lines end f (program_once recorded.text text h g recorded.is_held held recorded.written written) recorded.script_held script_held recorded.script_written wrong)
  replay_once outcome other (replay_judged g lines end t recorded log_held judged) (replay_bad_script text' s' h f' held' written' script_held' wrong' memory' was) =
      absurd (not_bad g h recorded.other s' lines end f' (program_once recorded.text text' g h recorded.is_held held' recorded.written written') recorded.script_held script_held' recorded.script_written wrong')
  replay_once outcome other (replay_judged g lines end t recorded log_held judged) (replay_judged h lines' end' t' recorded' log_held' judged') =
      let same : g ≡ h = program_once recorded.text recorded'.text g h recorded.is_held recorded'.is_held recorded.written recorded'.written in
      let also = subst (λ (x : List ℕ). IsScript (names_of (plain g)) x lines' end') (text_once script recorded'.other recorded.other recorded'.script_held recorded.script_held)
      (subst (λ (x : Prog Place). IsScript (names_of (plain x)) recorded'.other lines' end') (sym same) recorded'.script_written) in
      let both = scripts (names_of (plain g)) recorded.other lines lines' end end' recorded.script_written also in
      let one : IsJudged g lines' end' t' other = subst (λ (x : Prog Place). IsJudged x lines' end' t' other) (sym same) judged' in
      let two : IsJudged g lines end' t' other = subst (λ (x : List ScriptLine). IsJudged g x end' t' other) (sym both.0) one in
      let three : IsJudged g lines end t' other = subst (λ (x : ℕ). IsJudged g lines x t' other) (sym both.1) two in
      let four : IsJudged g lines end t other = subst (λ (x : List ℕ). IsJudged g lines end x other) (text_once log t' t log_held' log_held) three in
      judgements recorded.text g lines end t outcome other recorded.written judged four

pub replay_is_one : WrittenOnce → WrittenOrFaulty → TextsHaveOneFault → IsOneScript → NoScriptIsFaulty → FaultsAreOne → JudgementsAreOne → ReplayIsOne
replay_is_one once apart faults scripts never script_faults judgements program script log outcome other first second =
    replay_once once apart faults scripts never script_faults judgements program script log outcome other first second
