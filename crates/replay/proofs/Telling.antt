-- What is told of `replay`, where the call is refused.
use Rattle.std.proofs.Common.{◌≡◌, ◌∙◌, ◌⊎◌, ℕ, List, Option, Some, None, Bool, true, false, ap, inl, inr, refl, subst, sym}
use Rattle.std.specs.Prelude.{IsSomeAnd}
use Rattle.std.specs.Bool.{OnTrue}
use Rattle.base.specs.declared.event.Event.{Event}
use Rattle.syntax_tree.specs.declared.place.Place.{Place}
use Rattle.syntax_tree.specs.Placed.{Prog, plain}
use Rattle.source_semantics.specs.Config.{start}
use Rattle.script.specs.declared.script.ScriptLine.{ScriptLine}
use Rattle.script.specs.Meaning.{said}
use Rattle.script.specs.Scripts.{IsScript}
use Rattle.outside.specs.Outside.{AllStay}
use Rattle.image.specs.declared.names.ImageNames.{ImageNames}
use Rattle.built_image.specs.Named.{names_of}
use Rattle.event_log.specs.Logs.{IsLog}
use Rattle.command_words.specs.Calls as call
use Rattle.command_due.specs.CommandsDue as due
use Rattle.command_due.specs.CommandsDue.{Outcome}
use Rattle.command_due.specs.ReplayDue.{refused_line}
use Rattle.command_due.specs.Source.{IsWritten}
use Rattle.command_answers.specs.declared.act.PreparedCall.{PreparedCall}
use Rattle.command_answers.specs.Acts.{outcome_of}
use Rattle.command_answers.specs.Files.{Held}
use Rattle.command_refusals.specs.Refusals as refusal
use Rattle.command_refusals.specs.Refusals.{Explains, HasWrittenNames, IsExplained}
use Rattle.command_refusals.specs.Told.{IsLogTold, IsMisreadTold, IsScriptTold, IsTextTold}
use Rattle.message_log.specs.Refused.{refused_message}
use Rattle.replay_reason_spec.specs.Findings.{Finds}
use Rattle.replay_reason_spec.specs.declared.finding.Finding.{Finding}
use Rattle.replay_reason_spec.specs.declared.finding.Finding.TheVariants as found_is
use Rattle.replay_reason_spec.specs.declared.reason.Reason.{Reason}
use Rattle.replay.specs.Explained.{IsFindingTold, IsLaterLogTold, IsScriptOrLogTold}

-- ---- the log

-- a line that is refused
pub refused_told : (names : ImageNames) (file log : List ℕ) (line : ℕ) (why : Reason) (found : Finding) (outcome : Outcome) (message : List ℕ) → found ≡ found_is.Refused line why
    → outcome ≡ due.told 9 (refused_line line) → message ≡ refused_message file log line names why → IsFindingTold names file log found outcome message
refused_told names file log line why found outcome message is put told_is =
    subst (λ (f : Finding). IsFindingTold names file log f outcome message) (sym is) (put, told_is)

module _ (g : Prog Place) (names : ImageNames) (same : names ≡ names_of (plain g)) (lines : List ScriptLine) (end : ℕ) (file log : List ℕ) (outcome : Outcome) (message : List ℕ) where
  -- its text is that of no log
  pub misread_told : IsMisreadTold names file log outcome message → IsLogTold g lines end file log outcome message
  misread_told told = inl (subst (λ (n : ImageNames). IsMisreadTold n file log outcome message) same told)

  -- its events are no run
  pub finding_told : (events : List Event) (found : Finding) → IsLog names log events → Finds (plain g) (said lines end) (start (plain g)) events found → IsFindingTold names file log found outcome message
      → IsLogTold g lines end file log outcome message
  finding_told events found_is.Run is finds told = absurd told
  finding_told events (found_is.Refused line why) is finds told = inr (record {
    line = line;
    put = told.0;
    events = events;
    log = subst (λ (n : ImageNames). IsLog n log events) same is;
    why = why;
    refused = finds;
    is = told.1 ∙ ap (λ (n : ImageNames). refused_message file log line n why) same;
  })

-- ---- the script, and the log where it is one

module _ (g : Prog Place) (names : ImageNames) (same : names ≡ names_of (plain g)) (script log message : List ℕ) (act : PreparedCall) where
  pub script_told : (tells : Bool) (held other : Option (List ℕ)) (P : List ℕ → Type 0) → OnTrue tells (IsSomeAnd held P)
      → ((text : List ℕ) → P text → IsScriptTold names script text (outcome_of act) message) → OnTrue tells (Explains (IsScriptOrLogTold g script log held other (outcome_of act) message) act)
  script_told true (Some text) other P is told = λ refused. inl (subst (λ (n : ImageNames). IsScriptTold n script text (outcome_of act) message) same (told text is))
  script_told true None other P is told = absurd is
  script_told false held other P is told = tt

  -- the log, which stands as it did
  pub log_told : (tells : Bool) (held mid other : Option (List ℕ)) (P : List ℕ → Type 0) (lines : List ScriptLine) (end : ℕ) → OnTrue tells (IsSomeAnd held P)
      → ((text : List ℕ) → P text → IsScript names text lines end) → mid ≡ other → OnTrue tells (IsSomeAnd mid (λ text. Explains (IsLogTold g lines end log text (outcome_of act) message) act))
      → OnTrue tells (Explains (IsScriptOrLogTold g script log held other (outcome_of act) message) act)
  log_told true (Some text) (Some events) other P lines end is script_is stays told = λ refused. inr (
    lines,
    end,
    subst (λ (n : ImageNames). IsScript n text lines end) same (script_is text is),
    subst (λ (o : Option (List ℕ)). IsSomeAnd o (λ t. IsLogTold g lines end log t (outcome_of act) message)) stays (told refused),
  )
  log_told true (Some text) None other P lines end is script_is stays told = absurd told
  log_told true None mid other P lines end is script_is stays told = absurd is
  log_told false held mid other P lines end is script_is stays told = tt

-- ---- the program

module _ (program script log message : List ℕ) (g : Prog Place) (act : PreparedCall) where
  abbrev IsTold : List ℕ → (held other : Option (List ℕ)) → Type 0
  IsTold text held other =
      IsTextTold program text (outcome_of act) message
      ⊎ refusal.IsLaterTold HasWrittenNames (λ n t. IsScriptTold n script t (outcome_of act) message) text held
      ⊎ refusal.IsReplayTold text held other (λ p lines end t. IsLogTold p lines end log t (outcome_of act) message)

  of_text : (text : List ℕ) (a b held other : Option (List ℕ)) → IsWritten text g → IsScriptOrLogTold g script log a b (outcome_of act) message → a ≡ held → b ≡ other → IsTold text held other
  of_text text a b held other written (inl told) one two =
      inr (inl (names_of (plain g), (g, written, refl), subst (λ (o : Option (List ℕ)). IsSomeAnd o (λ t. IsScriptTold (names_of (plain g)) script t (outcome_of act) message)) one told))
  of_text text a b held other written (inr told) one two =
      let later : IsLaterLogTold g log held other (outcome_of act) message =
      subst (λ (o : Option (List ℕ)). IsLaterLogTold g log held o (outcome_of act) message) two (subst (λ (o : Option (List ℕ)). IsLaterLogTold g log o b (outcome_of act) message) one told) in
      inr (inr (g, later.0, later.1, written, later.2, later.3))

  of_source : (tells : Bool) (source a b held other : Option (List ℕ)) (P : List ℕ → Type 0) → OnTrue tells (IsSomeAnd source P) → ((text : List ℕ) → P text → IsWritten text g)
      → OnTrue tells (Explains (IsScriptOrLogTold g script log a b (outcome_of act) message) act) → a ≡ held → b ≡ other
      → OnTrue tells (Explains (IsSomeAnd source (λ text. IsTold text held other)) act)
  of_source true (Some text) a b held other P is written told one two = λ refused. of_text text a b held other (written text is) (told refused) one two
  of_source true None a b held other P is written told one two = absurd is
  of_source false source a b held other P is written told one two = tt

  pub replay_explained : (tells : Bool) (before mid : Held) (P : List ℕ → Type 0) → OnTrue tells (IsSomeAnd (before program) P) → ((text : List ℕ) → P text → IsWritten text g) → AllStay before mid
      → OnTrue tells (Explains (IsScriptOrLogTold g script log (mid script) (mid log) (outcome_of act) message) act) → IsExplained tells (call.replay program script log) before message act
  replay_explained tells before mid P is written stays told =
      of_source tells (before program) (mid script) (mid log) (before script) (before log) P is written told (stays script) (stays log)
