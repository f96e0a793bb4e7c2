-- Calls on what `go` and `compile` have put and stored.
use Rattle.std.proofs.Common.{◌≡◌, ◌≤◌, ◌++◌, ◌∙◌, ℕ, List, [], ◌∷◌, Some, length, refl, sym, subst, ap, arith}
use Rattle.image.specs.Named.{NamedImage}
use Rattle.sched_table.specs.Report.{report_text}
use Rattle.script.specs.declared.script.ScriptLine.{ScriptLine}
use Rattle.script.specs.declared.fault.ScriptFault.{ScriptFault}
use Rattle.script.specs.Scripts.{IsScript}
use Rattle.syntax_tree.specs.Placed.{plain}
use Rattle.event_log.specs.Logs.{IsLog, longest_text}
use Rattle.built_image.specs.Named.{names_of}
use Rattle.replay_law.specs.Stored.{BuiltImagesAreHeld}
use Rattle.built_tasks_law.specs.Judged.{BoundsAreOfTheText, BuiltIsInTime}
use Rattle.command.specs.Due.{lines_in}
use Rattle.command_due.specs.Source.{IsTimelyText, Style, report_of}
use Rattle.command_due.specs.CommandsDue.{IsCompileDue, IsGoDue, IsMigrateDue, IsRefused, IsReportDue, IsRunDue, IsScriptFault, Outcome, bad_script, compile_refused, compiled, done, faulty, go_bad_script, go_refused, late, log, migrated, ran, report_refused, report_timely, run_bad_script, stored, told, went}
use Rattle.command_due.specs.AsmDue.{keeps}
use Rattle.command_due.specs.ReplayDue.{IsReplayDue, run_line}
use Rattle.command_due.specs.Runs.{BuiltImagesAreFaithful, IsAccepted}
use Rattle.command_due_law.specs.DueOnce.{CompileIsOne, MigrateIsOne, RunIsOne, TimelyTextsHaveOneImage}
use Rattle.command_due_law.proofs.DueOnceScripts.{text_once}
use Rattle.replay_law.specs.Once.{ReplayIsOne}
use Rattle.replay_law.specs.ReplayLaws.{LogsOfAcceptedProgramsAreRuns, LogsOfRunsAreLogs, run_events}
use Rattle.calls_law.specs.Due.{Goes, IsOnly, gone}
use Rattle.calls_law.specs.Accepted.{CompileIsGo, CompileThenMigrateKeeps, CompileThenRunPutsTheFault, CompileThenRunPutsTheLog, GoIsCheckAndLog, GoThenMigrateKeeps, GoThenReplayCounts, GoThenRunPutsTheLog, compiles, most_overhead}
use Rattle.calls_law.proofs.Counted.{lines_are_events}
use Rattle.calls_law.proofs.Outcomes.{image_once}

-- ---- refusals

-- no refusal has status 0
refused_zero : (show : Style) (over : ℕ) (text : List ℕ) (o : Outcome) → IsRefused show over text o → o.status ≡ 0 → ⊥
refused_zero show over text o (faulty number place fault same) zero = let two = ap (λ (x : Outcome). x.status) same in absurd (omega (arith, two, zero))
refused_zero show over text o (late report l same) zero = let three = ap (λ (x : Outcome). x.status) same in absurd (omega (arith, three, zero))

-- nor has one status 5
refused_five : (show : Style) (over : ℕ) (text : List ℕ) (fault : ScriptFault) → IsRefused show over text (bad_script fault) → ⊥
refused_five show over text fault (faulty number place is same) = let two : 5 ≡ 2 = ap (λ (x : Outcome). x.status) same in omega (arith, two)
refused_five show over text fault (late report l same) = let three : 5 ≡ 3 = ap (λ (x : Outcome). x.status) same in omega (arith, three)

-- what stands behind the same front is the same
behind : (front one other : List ℕ) → front ++ one ≡ front ++ other → one ≡ other
behind [] one other same = same
behind (b ∷ front) one other same = behind front one other cc

-- ---- what `go` comes to

pub record Ran (over : ℕ) (program script report shown image : List ℕ) : Type 0 where
  n : NamedImage
  timely : IsTimelyText over program n
  lines : List ScriptLine
  end : ℕ
  says : IsScript n.names script lines end
  report_is : report ≡ report_of report_text n
  log_is : shown ≡ log n lines end
  image_is : image ≡ stored n

-- a timely text and a script for its image
pub record Started (over : ℕ) (program script : List ℕ) (outcome : Outcome) : Type 0 where
  n : NamedImage
  timely : IsTimelyText over program n
  lines : List ScriptLine
  end : ℕ
  says : IsScript n.names script lines end
  is : outcome ≡ done n lines end

started : (over : ℕ) (program script : List ℕ) (outcome : Outcome) → IsGoDue over (Some program) (Some script) outcome → outcome.status ≡ 0 → Started over program script outcome
started over program script outcome (go_refused text held refused) zero = absurd (refused_zero report_text over text outcome refused zero)
started over program script outcome (go_bad_script text other n fault held timely there bad same) zero =
    let five = ap (λ (x : Outcome). x.status) same in absurd (omega (arith, five, zero))
started over program script outcome (went text other n lines end held timely there says same) zero = record {
  n = n;
  timely = subst (λ (t : List ℕ). IsTimelyText over t n) (text_once (Some program) text program held refl) timely;
  lines = lines;
  end = end;
  says = subst (λ (t : List ℕ). IsScript n.names t lines end) (text_once (Some script) other script there refl) says;
  is = same;
}

pub go_is : GoIsCheckAndLog
go_is over program script outcome due zero =
    let s = started over program script outcome due zero in
    record {
      report = report_of report_text s.n;
      log = log s.n s.lines s.end;
      image = stored s.n;
      goes = record {
        checks = report_timely s.n s.timely refl;
        goes = subst (λ (x : Outcome). IsGoDue over (Some program) (Some script) x) s.is due;
      };
      is = s.is;
    }

-- the report of a text with status 0 is that of its image
report_is : TimelyTextsHaveOneImage → (over : ℕ) (program report : List ℕ) (n : NamedImage) → IsTimelyText over program n → IsReportDue report_text over program (told 0 report)
    → report ≡ report_of report_text n
report_is once over program report n timely (report_refused refused) = absurd (refused_zero report_text over program (told 0 report) refused refl)
report_is once over program report n timely (report_timely m other same) =
    ap (λ (x : Outcome). x.text) same ∙ ap (λ (x : NamedImage). report_of report_text x) (once over program m n other timely)

pub ran_is : TimelyTextsHaveOneImage → (over : ℕ) (program script report shown image : List ℕ) → Goes over program script report shown image → Ran over program script report shown image
ran_is once over program script report shown image g =
    let s = started over program script (gone report shown image) g.goes refl in
    let same : report ≡ report_of report_text s.n = report_is once over program report s.n s.timely g.checks in
    let texts : report ++ shown ≡ report_of report_text s.n ++ log s.n s.lines s.end = ap (λ (x : Outcome). x.text) s.is in
    record {
      n = s.n;
      timely = s.timely;
      lines = s.lines;
      end = s.end;
      says = s.says;
      report_is = same;
      log_is = behind report shown (log s.n s.lines s.end) (texts ∙ ap (λ (x : List ℕ). x ++ log s.n s.lines s.end) (sym same));
      image_is = image_once (gone report shown image) (done s.n s.lines s.end) image (stored s.n) refl refl s.is;
    }

-- ---- `compile`

pub compile_is : TimelyTextsHaveOneImage → CompileIsOne → CompileIsGo
compile_is once one over program script report shown image g =
    let r = ran_is once over program script report shown image g in
    let of_image : compiles report image ≡ compiles report (stored r.n) = ap (λ (x : List ℕ). compiles report x) r.image_is in
    let same : compiles report image ≡ compiles (report_of report_text r.n) (stored r.n) = of_image ∙ ap (λ (x : List ℕ). compiles x (stored r.n)) r.report_is in
    let due : IsCompileDue over program (compiles report image) = compiled r.n r.timely same in
    record { is = due; only = λ other also. one over program other (compiles report image) also due }

-- what it has stored
pub record Built (over : ℕ) (program image : List ℕ) : Type 0 where
  n : NamedImage
  timely : IsTimelyText over program n
  image_is : image ≡ stored n

built : (over : ℕ) (program report image : List ℕ) → IsCompileDue over program (compiles report image) → Built over program image
built over program report image (compile_refused refused) = absurd (refused_zero report_text over program (compiles report image) refused refl)
built over program report image (compiled n timely same) = record { n = n; timely = timely; image_is = image_once (compiles report image) (compiles (report_of report_text n) (stored n)) image (stored n) refl refl same }

-- ---- `run` and `migrate` of what was stored

module _ (law : BuiltImagesAreHeld) (over : ℕ) (program : List ℕ) (n : NamedImage) (low : over ≤ most_overhead) (timely : IsTimelyText over program n) where
  run_due : (script : List ℕ) (lines : List ScriptLine) (end : ℕ) → IsScript n.names script lines end → IsRunDue (Some (stored n)) (Some script) (told 0 (log n lines end))
  run_due script lines end says =
      let h = law program timely.tree over n low timely.written timely.built in
      ran (stored n) script h.0 lines end refl h.2 refl (subst (λ (x : NamedImage). IsScript x.names script lines end) (sym h.1) says)
      (ap (λ (x : NamedImage). told 0 (log x lines end)) (sym h.1))

  fault_due : (script : List ℕ) (fault : ScriptFault) → IsScriptFault n script fault → IsRunDue (Some (stored n)) (Some script) (bad_script fault)
  fault_due script fault bad =
      let h = law program timely.tree over n low timely.written timely.built in
      run_bad_script (stored n) script h.0 fault refl h.2 refl (subst (λ (x : NamedImage). IsScriptFault x script fault) (sym h.1) bad) refl

  migrate_due : IsMigrateDue (stored n) (keeps (stored n))
  migrate_due =
      let h = law program timely.tree over n low timely.written timely.built in
      migrated h.0 h.2 (ap (λ (x : NamedImage). keeps (stored x)) (sym h.1))

run_is_only : RunIsOne → (image script : List ℕ) (outcome : Outcome) → IsRunDue (Some image) (Some script) outcome → IsOnly (IsRunDue (Some image) (Some script)) outcome
run_is_only one image script outcome due = record { is = due; only = λ other also. one (Some image) (Some script) other outcome also due }

migrate_is_only : MigrateIsOne → (image bytes : List ℕ) → image ≡ bytes → IsMigrateDue bytes (keeps bytes) → IsOnly (IsMigrateDue image) (keeps image)
migrate_is_only one image bytes same due =
    let own : IsMigrateDue image (keeps image) = subst (λ (x : List ℕ). IsMigrateDue x (keeps x)) (sym same) due in
    record { is = own; only = λ other also. one image other (keeps image) also own }

pub go_then_run : TimelyTextsHaveOneImage → BuiltImagesAreHeld → RunIsOne → GoThenRunPutsTheLog
go_then_run once law one over program script report shown image low g =
    let r = ran_is once over program script report shown image g in
    let due : IsRunDue (Some (stored r.n)) (Some script) (told 0 (log r.n r.lines r.end)) = run_due law over program r.n low r.timely script r.lines r.end r.says in
    let of_image : IsRunDue (Some image) (Some script) (told 0 (log r.n r.lines r.end)) = subst (λ (x : List ℕ). IsRunDue (Some x) (Some script) (told 0 (log r.n r.lines r.end))) (sym r.image_is) due in
    run_is_only one image script (told 0 shown) (subst (λ (x : List ℕ). IsRunDue (Some image) (Some script) (told 0 x)) (sym r.log_is) of_image)

pub compile_then_run : TimelyTextsHaveOneImage → GoThenRunPutsTheLog → CompileThenRunPutsTheLog
compile_then_run once law over program script report shown image other told_report low compiling g =
    let b = built over program told_report image compiling in
    let r = ran_is once over program script report shown other g in
    let same : other ≡ image = r.image_is ∙ (ap (λ (x : NamedImage). stored x) (once over program r.n b.n r.timely b.timely) ∙ sym b.image_is) in
    subst (λ (x : List ℕ). IsOnly (IsRunDue (Some x) (Some script)) (told 0 shown)) same (law over program script report shown other low g)

pub compile_then_fault : TimelyTextsHaveOneImage → BuiltImagesAreHeld → RunIsOne → CompileThenRunPutsTheFault
compile_then_fault once law one over program script report image fault low compiling going = by going
  where
    b : Built over program image
    b = built over program report image compiling

    by : IsGoDue over (Some program) (Some script) (bad_script fault) → IsOnly (IsRunDue (Some image) (Some script)) (bad_script fault)
    by (go_refused text held refused) = absurd (refused_five report_text over text fault refused)
    by (go_bad_script text other n bad held timely there is same) =
        let own : IsTimelyText over program n = subst (λ (t : List ℕ). IsTimelyText over t n) (text_once (Some program) text program held refl) timely in
        let images : n ≡ b.n = once over program n b.n own b.timely in
        let of_script : IsScriptFault n script bad = subst (λ (t : List ℕ). IsScriptFault n t bad) (text_once (Some script) other script there refl) is in
        let due : IsRunDue (Some (stored b.n)) (Some script) (bad_script bad) = fault_due law over program b.n low b.timely script bad (subst (λ (x : NamedImage). IsScriptFault x script bad) images of_script) in
        let of_image : IsRunDue (Some image) (Some script) (bad_script bad) = subst (λ (x : List ℕ). IsRunDue (Some x) (Some script) (bad_script bad)) (sym b.image_is) due in
        run_is_only one image script (bad_script fault) (subst (λ (x : Outcome). IsRunDue (Some image) (Some script) x) (sym same) of_image)
    by (went text other n lines end held timely there says same) =
        let five : 5 ≡ 0 = ap (λ (x : Outcome). x.status) same in absurd (omega (arith, five))

pub go_then_migrate : TimelyTextsHaveOneImage → BuiltImagesAreHeld → MigrateIsOne → GoThenMigrateKeeps
go_then_migrate once law one over program script report shown image low g =
    let r = ran_is once over program script report shown image g in
    migrate_is_only one image (stored r.n) r.image_is (migrate_due law over program r.n low r.timely)

pub compile_then_migrate : BuiltImagesAreHeld → MigrateIsOne → CompileThenMigrateKeeps
compile_then_migrate law one over program report image low compiling =
    let b = built over program report image compiling in
    migrate_is_only one image (stored b.n) b.image_is (migrate_due law over program b.n low b.timely)

-- ---- `replay` of the log

-- the laws of what is built
pub record Building : Type 0 where
  pub faithful : BuiltImagesAreFaithful
  pub in_time : BuiltIsInTime
  pub bounds : BoundsAreOfTheText

accepted : Building → (over : ℕ) (program : List ℕ) (n : NamedImage) → (t : IsTimelyText over program n) → IsAccepted over (Some program) t.tree n
accepted laws over program n t = record {
  text = program;
  is_held = refl;
  written = t.written;
  in_time = (laws.in_time t.tree over n t.written.program.checked t.written.fits t.built).is;
  built = t.built;
  bounds = laws.bounds t.tree over n t.written.program.checked t.written.fits t.built;
  faithful = laws.faithful program t.tree over n t.written t.built;
}

pub go_then_replay : TimelyTextsHaveOneImage → Building → LogsOfRunsAreLogs → LogsOfAcceptedProgramsAreRuns → ReplayIsOne → GoThenReplayCounts
go_then_replay once building logs runs one over program script report shown image g short =
    let r = ran_is once over program script report shown image g in
    let a = accepted building over program r.n r.timely in
    let few : length (log r.n r.lines r.end) ≤ longest_text = subst (λ (x : List ℕ). length x ≤ longest_text) r.log_is short in
    let due : IsReplayDue (Some program) (Some script) (Some shown) (told 0 (run_line (length (run_events r.n r.lines r.end)))) =
    runs over (Some program) (Some script) (Some shown) r.timely.tree r.n r.lines r.end (record {
      accepted = a;
      text = script;
      script_held = refl;
      script_written = r.says;
      log_held = ap (λ (x : List ℕ). Some x) r.log_is;
      short = few;
    }) in
    let is : IsLog (names_of (plain r.timely.tree)) (log r.n r.lines r.end) (run_events r.n r.lines r.end) = logs over (Some program) r.timely.tree r.n script r.lines r.end a r.says few in
    let many : length (run_events r.n r.lines r.end) ≡ lines_in shown =
    sym (ap lines_in r.log_is ∙ lines_are_events (names_of (plain r.timely.tree)) (log r.n r.lines r.end) (run_events r.n r.lines r.end) is) in
    let own : IsReplayDue (Some program) (Some script) (Some shown) (told 0 (run_line (lines_in shown))) =
    subst (λ (x : ℕ). IsReplayDue (Some program) (Some script) (Some shown) (told 0 (run_line x))) many due in
    record { is = own; only = λ other also. one (Some program) (Some script) (Some shown) other (told 0 (run_line (lines_in shown))) also own }
