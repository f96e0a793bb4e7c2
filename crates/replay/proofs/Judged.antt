-- What is due of logs, by what was answered of them.
use Rattle.std.proofs.Common.{◌≡◌, ◌≢◌, ◌<◌, ◌⊎◌, ℕ, Bool, true, false, List, Ok, Err, inl, inr, length, refl, subst}
use Rattle.std.proofs.lemmas.Bool.{lt-ltb}
use Rattle.std.specs.Prelude.{Result, IfOk, nat_lt, if◌then◌else◌}
use Rattle.out_of_memory.specs.Refused.{refused}
use Rattle.base.specs.declared.event.Event.{Event}
use Rattle.syntax_tree.specs.declared.place.Place.{Place}
use Rattle.syntax_tree.specs.Placed.{Prog, plain}
use Rattle.source_semantics.specs.Config.{start}
use Rattle.script.specs.declared.script.ScriptLine.{ScriptLine}
use Rattle.image.specs.declared.names.ImageNames.{ImageNames}
use Rattle.built_image.specs.Named.{names_of}
use Rattle.event_log.specs.declared.fault.LogFault.{LogFault}
use Rattle.event_log.specs.declared.fault.LogFault.TheVariants as log_fault
use Rattle.event_log.specs.Logs.{IsFault, IsLog}
use Rattle.script.specs.Meaning.{said}
use Rattle.source_semantics.specs.declared.verdict.Verdict.{Verdict}
use Rattle.source_semantics.specs.declared.verdict.Verdict.TheVariants as verdict_is
use Rattle.source_semantics.specs.Verdicts.{Judges}
use Rattle.command_due.specs.ReplayDue.{IsJudged, misread, is_refused, is_run, log_fault_line, refused_line, run_line}
use Rattle.command_answers.specs.declared.act.PreparedCall.{PreparedCall}
use Rattle.command_answers.specs.declared.status.Status.TheVariants as status
use Rattle.command_answers.specs.Acts.{outcome_of}
use Rattle.command_answers.specs.Acting.{puts}
use Rattle.command_answers.proofs.Coming.{put_comes_to}
use Rattle.message_log.specs.Log as message
use Rattle.replay_reason_spec.proofs.Judging.{judged}
use Rattle.replay_reason_spec.specs.Findings.{verdict_of}
use Rattle.replay.specs.Judging.{IsFoundOf}
use Rattle.replay.specs.Lines.{line_of, status_of}
use Rattle.replay.specs.declared.logs.JudgedLog.{JudgedLog}

-- what stands in the first branch
first_branch : {A : Type 0} (x y : A) (is : Bool) → is ≡ true → x ≡ (if is then x else y)
first_branch x y true is = refl
first_branch x y false is = absurd cc

-- the message for a log that is too long
pub long_log : (file log : List ℕ) (names : ImageNames) (fault : LogFault) → 67108864 < length log → message.long_message file ≡ message.log_message file log names fault
unfolding message.log_message
long_log file log names fault long = first_branch _ _ (nat_lt 67108864 (length log)) (lt-ltb 67108864 (length log) long)

module _ (g : Prog Place) (names : ImageNames) (same : names ≡ names_of (plain g)) (lines : List ScriptLine) (end : ℕ) (P : List ℕ → Type 0) where
  of_verdict : (log : List ℕ) (events : List Event) (verdict : Verdict) (act : PreparedCall) → IsLog names log events → Judges (plain g) (said lines end) (start (plain g)) events verdict
      → act ≡ puts (status_of verdict) (line_of verdict (length events)) → IsJudged g lines end log (outcome_of act)
  of_verdict log events verdict_is.Run act told run is =
      is_run events (subst (λ (n : ImageNames). IsLog n log events) same told) run (put_comes_to status.Done (run_line (length events)) act is)
  of_verdict log events (verdict_is.Refused line) act told stops is =
      is_refused events line (subst (λ (n : ImageNames). IsLog n log events) same told) stops (put_comes_to status.Log (refused_line line) act is)

  pub judged_run : {E : Type 0} (it : JudgedLog) (made : Result PreparedCall E) → ((log : List ℕ) → P log → IsFoundOf (plain g) (said lines end) (start (plain g)) names log it.finding it.count)
      → IfOk made (λ act. act ≡ puts (status_of (verdict_of it.finding)) (line_of (verdict_of it.finding) it.count)) → IfOk made (λ act. (log : List ℕ) → P log → IsJudged g lines end log (outcome_of act))
  judged_run it (Ok act) finds is = λ log p.
      let verdict = verdict_of it.finding in
      let found = finds log p in
      let events = found.events in
      of_verdict log events verdict act found.log (judged (plain g) (said lines end) (start (plain g)) events it.finding found.finds)
      (subst (λ (count : ℕ). act ≡ puts (status_of verdict) (line_of verdict count)) found.many is)
  judged_run it (Err e) finds is = tt

  pub judged_fault : {E : Type 0} (why : LogFault) (made : Result PreparedCall E) → ((log : List ℕ) → P log → (why ≡ log_fault.Memory refused) ⊎ IsFault names log why)
      → IfOk made (λ act. act ≡ puts status.Log (log_fault_line why)) → IfOk made (λ act. why ≢ log_fault.Memory refused)
      → IfOk made (λ act. (log : List ℕ) → P log → IsJudged g lines end log (outcome_of act))
  judged_fault why (Ok act) fault is other = λ log p. elim (fault log p) [
    | inl memory ↦ absurd (other memory)
    | inr wrong ↦ misread why (subst (λ (n : ImageNames). IsFault n log why) same wrong) (put_comes_to status.Log (log_fault_line why) act is)
  ]
  judged_fault why (Err e) fault is other = tt
