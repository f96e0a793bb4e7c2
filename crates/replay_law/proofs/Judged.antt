-- What a log comes to is one.
use Rattle.std.proofs.Common.{◌≡◌, ◌∙◌, ℕ, List, length, ap, sym, subst}
use Rattle.syntax_tree.specs.Placed.{plain}
use Rattle.base.specs.declared.event.Event.{Event}
use Rattle.image.specs.declared.names.ImageNames.{ImageNames}
use Rattle.source_semantics.specs.Config.{start}
use Rattle.source_semantics.specs.Starts.{Script}
use Rattle.source_semantics.specs.Source.{IsSourceRun}
use Rattle.built_image.specs.Named.{names_of}
use Rattle.event_log.specs.declared.fault.LogFault.{LogFault}
use Rattle.event_log.specs.Logs.{IsLog}
use Rattle.event_log.specs.LogReading.{AreUnambiguous, IsOneLog}
use Rattle.script.specs.Meaning.{said}
use Rattle.command_due.specs.CommandsDue.{told}
use Rattle.source_semantics.specs.Verdicts.{IsRefusedAt}
use Rattle.command_due.specs.ReplayDue.{IsJudged, misread, is_refused, is_run, log_fault_line, refused_line, run_line}
use Rattle.replay_law.specs.SoundNames.{NamesOfProgramsAreSound}
use Rattle.replay_law.specs.Once.{JudgementsAreOne}
use Rattle.replay_law.proofs.Logs.{fault_once, log_or_fault}
use Rattle.replay_law.proofs.Verdicts.{Determined, line_once, run_or_refused}

pub judgements_are_one : NamesOfProgramsAreSound → IsOneLog → Determined → JudgementsAreOne
judgements_are_one names_sound one_log determined program g lines end text outcome other written first second = by first second where
  names : ImageNames
  names = names_of (plain g)

  script : Script
  script = said lines end

  sound : AreUnambiguous names
  sound = names_sound program g written.program

  events_once : (es fs : List Event) → IsLog names text es → IsLog names text fs → es ≡ fs
  events_once es fs one two = one_log names es fs sound one.told two.told (sym one.whole ∙ two.whole)

  by : IsJudged g lines end text outcome → IsJudged g lines end text other → outcome ≡ other
  by (misread f wrong is) (misread h also was) = is ∙ (ap (λ (x : LogFault). told 9 (log_fault_line x)) (fault_once names sound.words text f h wrong also) ∙ sym was)
  by (misread f wrong is) (is_refused fs m log refused was) = absurd (log_or_fault names sound.words text fs f log wrong)
  by (misread f wrong is) (is_run fs log run was) = absurd (log_or_fault names sound.words text fs f log wrong)
  by (is_refused es n log refused is) (misread h also was) = absurd (log_or_fault names sound.words text es h log also)
  by (is_run es log run is) (misread h also was) = absurd (log_or_fault names sound.words text es h log also)
  by (is_refused es n log refused is) (is_refused fs m other_log also was) =
      let same : es ≡ fs = events_once es fs log other_log in
      is ∙ (ap (λ (k : ℕ). told 9 (refused_line k))
      (line_once determined (plain g) script (start (plain g)) fs n m (subst (λ (x : List Event). IsRefusedAt (plain g) script (start (plain g)) x n) same refused) also) ∙ sym was)
  by (is_refused es n log refused is) (is_run fs other_log run was) =
      let same : es ≡ fs = events_once es fs log other_log in
      absurd (run_or_refused determined (plain g) script (start (plain g)) fs n run (subst (λ (x : List Event). IsRefusedAt (plain g) script (start (plain g)) x n) same refused))
  by (is_run es log run is) (is_refused fs m other_log also was) =
      let same : es ≡ fs = events_once es fs log other_log in
      absurd (run_or_refused determined (plain g) script (start (plain g)) fs m (subst (λ (x : List Event). IsSourceRun (plain g) script x) same run) also)
  by (is_run es log run is) (is_run fs other_log also was) =
      let same : es ≡ fs = events_once es fs log other_log in
      is ∙ (ap (λ (x : List Event). told 0 (run_line (length x))) same ∙ sym was)
