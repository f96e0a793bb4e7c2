-- Status 3 comes exactly where a recurrence of the text has no solution.
use Rattle.std.proofs.Common.{◌≡◌, ◌<◌, ◌∙◌, ℕ, List, Option, Some, None, Bool, true, false, refl, sym, subst, arith}
use Rattle.std.specs.Prelude.{◌↔◌, IsSomeAnd}
use Rattle.std.specs.Bool.{OnTrue}
use Rattle.outside.specs.Outside.{Outside}
use Rattle.syntax_tree.specs.declared.place.Place.{Place}
use Rattle.syntax_tree.specs.Placed.{Prog, plain}
use Rattle.image.specs.Named.{NamedImage}
use Rattle.sched_table.specs.Report.{report_text}
use Rattle.sched_table.specs.Json.{report_json}
use Rattle.built_image.specs.Built.{IsBuilt}
use Rattle.built_tasks_law.specs.Judged.{LateIsNotInTime, BuiltIsInTime}
use Rattle.command_words.specs.Calls.{Call, go, check, compile, json, slack, print, run, migrate, asm, dis, watch, replay, edf, why, fit, chart, table}
use Rattle.command_due.specs.Source.{IsWritten, IsTextFault, IsTimelyText, Style}
use Rattle.command_due.specs.CommandsDue.{Outcome, IsRefused, faulty, late, IsReportDue, report_refused, report_timely, IsPrintDue, print_faulty, printed, IsCompileDue, compile_refused, compiled, IsGoDue, go_refused, go_bad_script, went, IsImageRefused, misread, invalid, IsRunDue, run_refused, run_bad_script, ran, IsMigrateDue, migrate_refused, migrated}
use Rattle.command_due.specs.SpareDue.{IsSlackDue, slack_refused, slack_told}
use Rattle.command_due.specs.AsmDue.{IsAsmDue, asm_faulty, asm_invalid, assembled, IsDisDue, dis_misread, disassembled}
use Rattle.command_due.specs.StopDue.{IsWatchDue, watch_refused, watch_bad_script, watched}
use Rattle.script.specs.declared.script.ScriptLine.{ScriptLine}
use Rattle.sched_demand.specs.declared.judging.Judgement.{Judgement}
use Rattle.sched_demand.specs.declared.judging.Judgement.TheVariants as judgement
use Rattle.command_due.specs.EdfDue.{IsEdfDue, IsJudgedText, IsUnfit, edf_faulty, edf_waits, edf_unfit, edf_bad_script, edf_ran}
use Rattle.sched_program.specs.Tasks.{IsInTime, IsNotInTime}
use Rattle.sched_program.specs.Once.{NeverInTimeAndNot}
use Rattle.command_due.specs.WhyDue.{IsWhyDue, why_faulty, why_late, why_in_time}
use Rattle.command_due.specs.FitDue.{IsFitDue, fit_faulty, fitted}
use Rattle.command_due.specs.ChartDue.{IsChartDue, chart_refused, chart_bad_script, charted}
use Rattle.command_due.specs.TableDue.{IsTableDue, table_faulty, tabled}
use Rattle.command_due.specs.Waits.{WaitFails}
use Rattle.command_due_law.specs.Word.{AnswersOfTextsAreOne}
use Rattle.command_due.specs.ReplayDue.{IsJudged, misread as misread_log, is_refused, is_run, IsReplayDue, replay_faulty, replay_bad_script, replay_judged}
use Rattle.command_words.specs.declared.stop.Breakpoint.{Breakpoint}
use Rattle.command_due.specs.Runs.{IsUnsolved}
use Rattle.command_due_law.specs.DueOnce.{WrittenOrFaulty, WrittenOnce}
use Rattle.command_answers.specs.Files.{IsDue}
use Rattle.command_answers.specs.Went.{IsWhole, Went}
use Rattle.command_answers.specs.Promise.{IsRefusedForTime, IsUnmet}
use Rattle.command.proofs.Done.{status_of}

-- ---- a refusal with 3 is one for time

refused_late : LateIsNotInTime → (show : Style) (over : ℕ) (text : List ℕ) (o : Outcome) → IsRefused show over text o → o.status ≡ 3 → IsUnsolved over (Some text)
refused_late law show over text o (faulty number place fault same) three = absurd (let two = status_of o _ same in omega (arith, two, three))
refused_late law show over text o (late report l same) three = record { text = text; is_held = refl; tree = l.tree; written = l.written; late = law l.tree over l.written.program.checked l.written.fits l.late }

report_late : LateIsNotInTime → (show : Style) (over : ℕ) (text : List ℕ) (o : Outcome) → IsReportDue show over text o → o.status ≡ 3 → IsUnsolved over (Some text)
report_late law show over text o (report_refused r) three = refused_late law show over text o r three
report_late law show over text o (report_timely n t same) three = absurd (let zero = status_of o _ same in omega (arith, zero, three))

slack_late : LateIsNotInTime → (over : ℕ) (text : List ℕ) (o : Outcome) → IsSlackDue over text o → o.status ≡ 3 → IsUnsolved over (Some text)
slack_late law over text o (slack_refused r) three = refused_late law report_text over text o r three
slack_late law over text o (slack_told n lines t told_is same) three = absurd (let zero = status_of o _ same in omega (arith, zero, three))

compile_late : LateIsNotInTime → (over : ℕ) (text : List ℕ) (o : Outcome) → IsCompileDue over text o → o.status ≡ 3 → IsUnsolved over (Some text)
compile_late law over text o (compile_refused r) three = refused_late law report_text over text o r three
compile_late law over text o (compiled n t same) three = absurd (let zero = status_of o _ same in omega (arith, zero, three))

print_late : (text : List ℕ) (o : Outcome) → IsPrintDue text o → o.status ≡ 3 → ⊥
print_late text o (print_faulty number place fault same) three = let two = status_of o _ same in absurd (omega (arith, two, three))
print_late text o (printed tree w same) three = let zero = status_of o _ same in absurd (omega (arith, zero, three))

go_late : LateIsNotInTime → (over : ℕ) (program script : Option (List ℕ)) (o : Outcome) → IsGoDue over program script o → o.status ≡ 3 → IsUnsolved over program
go_late law over program script o (go_refused text is r) three = subst (IsUnsolved over) (sym is) (refused_late law report_text over text o r three)
go_late law over program script o (go_bad_script text other n fault is t that f same) three = absurd (let five = status_of o _ same in omega (arith, five, three))
go_late law over program script o (went text other n lines end is t that s same) three = absurd (let zero = status_of o _ same in omega (arith, zero, three))

image_late : (bytes : List ℕ) (o : Outcome) → IsImageRefused bytes o → o.status ≡ 3 → ⊥
image_late bytes o (misread number offset fault same) three = let four = status_of o _ same in absurd (omega (arith, four, three))
image_late bytes o (invalid raw fault held first same) three = let four = status_of o _ same in absurd (omega (arith, four, three))

run_late : (image script : Option (List ℕ)) (o : Outcome) → IsRunDue image script o → o.status ≡ 3 → ⊥
run_late image script o (run_refused bytes is r) three = image_late bytes o r three
run_late image script o (run_bad_script bytes other raw fault is file that f same) three = let five = status_of o _ same in absurd (omega (arith, five, three))
run_late image script o (ran bytes other raw lines end is file that s same) three = let zero = status_of o _ same in absurd (omega (arith, zero, three))

migrate_late : (bytes : List ℕ) (o : Outcome) → IsMigrateDue bytes o → o.status ≡ 3 → ⊥
migrate_late bytes o (migrate_refused r) three = image_late bytes o r three
migrate_late bytes o (migrated raw file same) three = let zero = status_of o _ same in absurd (omega (arith, zero, three))

asm_late : (text : List ℕ) (o : Outcome) → IsAsmDue text o → o.status ≡ 3 → ⊥
asm_late text o (asm_faulty number line fault same) three = let four = status_of o _ same in absurd (omega (arith, four, three))
asm_late text o (asm_invalid raw fault told_is first same) three = let four = status_of o _ same in absurd (omega (arith, four, three))
asm_late text o (assembled raw told_is valid same) three = let zero = status_of o _ same in absurd (omega (arith, zero, three))

dis_late : (bytes : List ℕ) (o : Outcome) → IsDisDue bytes o → o.status ≡ 3 → ⊥
dis_late bytes o (dis_misread number offset fault same) three = let four = status_of o _ same in absurd (omega (arith, four, three))
dis_late bytes o (disassembled raw held same) three = let zero = status_of o _ same in absurd (omega (arith, zero, three))

watch_late : (stop : Breakpoint) (image script : Option (List ℕ)) (o : Outcome) → IsWatchDue stop image script o → o.status ≡ 3 → ⊥
watch_late stop image script o (watch_refused bytes is r) three = image_late bytes o r three
watch_late stop image script o (watch_bad_script bytes other raw fault is file that f same) three = let five = status_of o _ same in absurd (omega (arith, five, three))
watch_late stop image script o (watched bytes other raw lines end text is file that s tells same) three = let zero = status_of o _ same in absurd (omega (arith, zero, three))

-- what is due of what is held, if anything is
held_late : (over : ℕ) (Due : List ℕ → Outcome → Type 0) (held : Option (List ℕ)) (o : Outcome) → ((text : List ℕ) → Due text o → IsUnsolved over (Some text))
    → IsSomeAnd held (λ text. Due text o) → IsUnsolved over held
held_late over Due None o by due = absurd due
held_late over Due (Some text) o by due = by text due

held_never : (Due : List ℕ → Outcome → Type 0) (held : Option (List ℕ)) (o : Outcome) → ((text : List ℕ) → Due text o → ⊥) → IsSomeAnd held (λ text. Due text o) → ⊥
held_never Due None o by due = due
held_never Due (Some text) o by due = by text due

judged_late : (g : Prog Place) (lines : List ScriptLine) (end : ℕ) (text : List ℕ) (o : Outcome) → IsJudged g lines end text o → o.status ≡ 3 → ⊥
judged_late g lines end text o (misread_log fault wrong same) three = let nine = status_of o _ same in absurd (omega (arith, nine, three))
judged_late g lines end text o (is_refused events line told stops same) three = let nine = status_of o _ same in absurd (omega (arith, nine, three))
judged_late g lines end text o (is_run events told follows same) three = let zero = status_of o _ same in absurd (omega (arith, zero, three))

replay_late : (program script log : Option (List ℕ)) (o : Outcome) → IsReplayDue program script log o → o.status ≡ 3 → ⊥
replay_late program script log o (replay_faulty text number place is fault same) three = let two = status_of o _ same in absurd (omega (arith, two, three))
replay_late program script log o (replay_bad_script text other g fault is w that f named same) three = let five = status_of o _ same in absurd (omega (arith, five, three))
replay_late program script log o (replay_judged g lines end text r is judged) three = judged_late g lines end text o judged three

edf_late : (program script : Option (List ℕ)) (o : Outcome) → IsEdfDue program script o → o.status ≡ 3 → IsUnmet program
edf_late program script o (edf_faulty text number place is fault same) three = let two = status_of o _ same in absurd (omega (arith, two, three))
edf_late program script o (edf_waits text g place is written first same) three = let two = status_of o _ same in absurd (omega (arith, two, three))
edf_late program script o (edf_unfit text n answer is judged unfit same) three = subst IsUnmet (sym is) (n, answer, judged, unfit)
edf_late program script o (edf_bad_script text other n points fault is feasible that wrong same) three = let five = status_of o _ same in absurd (omega (arith, five, three))
edf_late program script o (edf_ran text other n points lines end is feasible that s same) three = let zero = status_of o _ same in absurd (omega (arith, zero, three))

why_text_late : (over : ℕ) (text : List ℕ) (o : Outcome) → IsWhyDue over text o → o.status ≡ 3 → IsUnsolved over (Some text)
why_text_late over text o (why_faulty number place fault same) three = absurd (let two = status_of o _ same in omega (arith, two, three))
why_text_late over text o (why_late tree parts written never told same) three = record { text = text; is_held = refl; tree = tree; written = written; late = never }
why_text_late over text o (why_in_time tree parts written in_time told same) three = absurd (let zero = status_of o _ same in omega (arith, zero, three))

fit_late : (over : ℕ) (text : List ℕ) (o : Outcome) → IsFitDue over text o → o.status ≡ 3 → ⊥
fit_late over text o (fit_faulty number place fault same) three = let two = status_of o _ same in absurd (omega (arith, two, three))
fit_late over text o (fitted tree fits written told same) three = let zero = status_of o _ same in absurd (omega (arith, zero, three))

chart_late : (first end : ℕ) (image script : Option (List ℕ)) (o : Outcome) → IsChartDue first end image script o → o.status ≡ 3 → ⊥
chart_late first end image script o (chart_refused bytes is r) three = image_late bytes o r three
chart_late first end image script o (chart_bad_script bytes other raw fault is file that f same) three = let five = status_of o _ same in absurd (omega (arith, five, three))
chart_late first end image script o (charted bytes other raw lines stop is file that s same) three = let zero = status_of o _ same in absurd (omega (arith, zero, three))

table_late : (lines : List ℕ) (o : Outcome) → IsTableDue lines o → o.status ≡ 3 → ⊥
table_late lines o (table_faulty number line fault same) three = let two = status_of o _ same in absurd (omega (arith, two, three))
table_late lines o (tabled t is same) three = let zero = status_of o _ same in absurd (omega (arith, zero, three))

due_late : LateIsNotInTime → (call : Call) (b : Outside) (o : Outcome) → IsDue call b.files.held o → o.status ≡ 3 → IsRefusedForTime call b
due_late law (go program image script over) b o due three = go_late law over (b.files.held program) (b.files.held script) o due three
due_late law (check program over) b o due three = held_late over (IsReportDue report_text over) (b.files.held program) o (λ text d. report_late law report_text over text o d three) due
due_late law (compile program image over) b o due three = held_late over (IsCompileDue over) (b.files.held program) o (λ text d. compile_late law over text o d three) due
due_late law (json program over) b o due three = held_late over (IsReportDue report_json over) (b.files.held program) o (λ text d. report_late law report_json over text o d three) due
due_late law (slack program over) b o due three = held_late over (IsSlackDue over) (b.files.held program) o (λ text d. slack_late law over text o d three) due
due_late law (print program) b o due three = held_never IsPrintDue (b.files.held program) o (λ text d. print_late text o d three) due
due_late law (run image script) b o due three = run_late (b.files.held image) (b.files.held script) o due three
due_late law (migrate image target) b o due three = held_never IsMigrateDue (b.files.held image) o (λ bytes d. migrate_late bytes o d three) due
due_late law (asm text image) b o due three = held_never IsAsmDue (b.files.held text) o (λ lines d. asm_late lines o d three) due
due_late law (dis image text) b o due three = held_never IsDisDue (b.files.held image) o (λ bytes d. dis_late bytes o d three) due
due_late law (watch image script stop) b o due three = watch_late stop (b.files.held image) (b.files.held script) o due three
due_late law (replay program script log) b o due three = replay_late (b.files.held program) (b.files.held script) (b.files.held log) o due three
due_late law (edf program script) b o due three = edf_late (b.files.held program) (b.files.held script) o due three
due_late law (why program over) b o due three = held_late over (IsWhyDue over) (b.files.held program) o (λ text d. why_text_late over text o d three) due
due_late law (fit program over) b o due three = held_never (IsFitDue over) (b.files.held program) o (λ text d. fit_late over text o d three) due
due_late law (chart image script first end) b o due three = chart_late first end (b.files.held image) (b.files.held script) o due three
due_late law (table tasks program) b o due three = held_never IsTableDue (b.files.held tasks) o (λ lines d. table_late lines o d three) due

-- ---- a program that is late is refused with 3

module _ (faults : WrittenOrFaulty) (one : WrittenOnce) (apart : BuiltIsInTime) (over : ℕ) where
  module _ (text : List ℕ) (u : IsUnsolved over (Some text)) where
    written : IsWritten text u.tree
    written = let same : u.text ≡ text = cc in subst (λ (t : List ℕ). IsWritten t u.tree) same u.written

    no_fault : (number : ℕ) (place : Place) → IsTextFault text number place → ⊥
    no_fault number place fault = faults text u.tree number place written fault

    not_timely : (n : NamedImage) → IsTimelyText over text n → ⊥
    not_timely n t =
        let same : t.tree ≡ u.tree = one text t.tree u.tree t.written written in
        (apart u.tree over n written.program.checked written.fits (subst (λ (g : Prog Place). IsBuilt (plain g) over n) same t.built)).never u.late

    refused_three : (show : Style) (o : Outcome) → IsRefused show over text o → o.status ≡ 3
    refused_three show o (faulty number place fault same) = absurd (no_fault number place fault)
    refused_three show o (late report l same) = status_of o _ same

    report_three : (show : Style) (o : Outcome) → IsReportDue show over text o → o.status ≡ 3
    report_three show o (report_refused r) = refused_three show o r
    report_three show o (report_timely n t same) = absurd (not_timely n t)

    slack_three : (o : Outcome) → IsSlackDue over text o → o.status ≡ 3
    slack_three o (slack_refused r) = refused_three report_text o r
    slack_three o (slack_told n lines t told_is same) = absurd (not_timely n t)

    why_three : NeverInTimeAndNot → (o : Outcome) → IsWhyDue over text o → o.status ≡ 3
    why_three never o (why_faulty number place fault same) = absurd (no_fault number place fault)
    why_three never o (why_late tree parts is_written late_is told same) = status_of o _ same
    why_three never o (why_in_time tree parts is_written in_time told same) =
        let tree_is : tree ≡ u.tree = one text tree u.tree is_written written in
        absurd (never (plain u.tree) over (subst (λ (g : Prog Place). IsInTime (plain g) over) tree_is in_time) u.late)

    compile_three : (o : Outcome) → IsCompileDue over text o → o.status ≡ 3
    compile_three o (compile_refused r) = refused_three report_text o r
    compile_three o (compiled n t same) = absurd (not_timely n t)

  go_three : (program script : Option (List ℕ)) (o : Outcome) → IsUnsolved over program → IsGoDue over program script o → o.status ≡ 3
  go_three program script o u (go_refused text is r) = refused_three text (subst (IsUnsolved over) is u) report_text o r
  go_three program script o u (go_bad_script text other n fault is t that f same) = absurd (not_timely text (subst (IsUnsolved over) is u) n t)
  go_three program script o u (went text other n lines end is t that s same) = absurd (not_timely text (subst (IsUnsolved over) is u) n t)

  held_three : (Due : List ℕ → Outcome → Type 0) (held : Option (List ℕ)) (o : Outcome) → ((text : List ℕ) → IsUnsolved over (Some text) → Due text o → o.status ≡ 3)
      → IsUnsolved over held → IsSomeAnd held (λ text. Due text o) → o.status ≡ 3
  held_three Due None o by u due = absurd due
  held_three Due (Some text) o by u due = by text u due

-- ---- a program whose demand is not met is refused with 3

module _ (faults : WrittenOrFaulty) (one : WrittenOnce) (answers : AnswersOfTextsAreOne) where
  module _ (text : List ℕ) (m : NamedImage) (answer : Judgement) (judged : IsJudgedText text m answer) (unfit : IsUnfit answer) where
    edf_three_of : (script : Option (List ℕ)) (o : Outcome) → IsEdfDue (Some text) script o → o.status ≡ 3
    edf_three_of script o (edf_faulty other number place is fault same) =
        let here : other ≡ text = cc in absurd (faults text judged.tree number place judged.written (subst (λ (t : List ℕ). IsTextFault t number place) here fault))
    edf_three_of script o (edf_waits other g place is written first same) =
        let here : other ≡ text = cc in
        let tree : g ≡ judged.tree = one text g judged.tree (subst (λ (t : List ℕ). IsWritten t g) here written) judged.written in
        absurd (judged.waitless 48 place (subst (λ (h : Prog Place). WaitFails h 48 place) tree first.broken))
    edf_three_of script o (edf_unfit other n found is its is_unfit same) = status_of o _ same
    edf_three_of script o (edf_bad_script other line n points fault is feasible that wrong same) =
        let here : other ≡ text = cc in
        absurd (unfit points (answers text m n answer (judgement.Feasible points) judged (subst (λ (t : List ℕ). IsJudgedText t n (judgement.Feasible points)) here feasible)))
    edf_three_of script o (edf_ran other line n points lines end is feasible that s same) =
        let here : other ≡ text = cc in
        absurd (unfit points (answers text m n answer (judgement.Feasible points) judged (subst (λ (t : List ℕ). IsJudgedText t n (judgement.Feasible points)) here feasible)))

  edf_three : (program script : Option (List ℕ)) (o : Outcome) → IsUnmet program → IsEdfDue program script o → o.status ≡ 3
  edf_three None script o u due = absurd u
  edf_three (Some text) script o (n, answer, judged, unfit) due = edf_three_of text n answer judged unfit script o due

module _ (faults : WrittenOrFaulty) (one : WrittenOnce) (apart : BuiltIsInTime) (law : LateIsNotInTime) (answers : AnswersOfTextsAreOne) (never : NeverInTimeAndNot) where
  due_three : (call : Call) (b : Outside) (o : Outcome) → IsRefusedForTime call b → IsDue call b.files.held o → o.status ≡ 3
  due_three (go program image script over) b o u due = go_three faults one apart over (b.files.held program) (b.files.held script) o u due
  due_three (check program over) b o u due = held_three faults one apart over (IsReportDue report_text over) (b.files.held program) o (λ text v d. report_three faults one apart over text v report_text o d) u due
  due_three (compile program image over) b o u due = held_three faults one apart over (IsCompileDue over) (b.files.held program) o (λ text v d. compile_three faults one apart over text v o d) u due
  due_three (json program over) b o u due = held_three faults one apart over (IsReportDue report_json over) (b.files.held program) o (λ text v d. report_three faults one apart over text v report_json o d) u due
  due_three (slack program over) b o u due = held_three faults one apart over (IsSlackDue over) (b.files.held program) o (λ text v d. slack_three faults one apart over text v o d) u due
  due_three (print program) b o u due = absurd u
  due_three (run image script) b o u due = absurd u
  due_three (migrate image target) b o u due = absurd u
  due_three (asm text image) b o u due = absurd u
  due_three (dis image text) b o u due = absurd u
  due_three (watch image script stop) b o u due = absurd u
  due_three (replay program script log) b o u due = absurd u
  due_three (edf program script) b o u due = edf_three faults one answers (b.files.held program) (b.files.held script) o u due
  due_three (why program over) b o u due = held_three faults one apart over (IsWhyDue over) (b.files.held program) o (λ text v d. why_three faults one apart over text v never o d) u due
  due_three (fit program over) b o u due = absurd u
  due_three (chart image script first end) b o u due = absurd u
  due_three (table tasks program) b o u due = absurd u

  refused : (call : Call) (before now : Outside) (status : ℕ) → IsWhole call before now status → (status ≡ 3) ↔ IsRefusedForTime call before
  refused call before now status w =
      ((λ three. due_late law call before w.outcome w.due (sym w.is ∙ three)), (λ u. w.is ∙ due_three call before w.outcome u w.due))

  pub refused_for_time : (tells : Bool) (call : Call) (before now : Outside) (status : ℕ) → Went tells call before now status
      → OnTrue tells (status < 6 → (status ≡ 3) ↔ IsRefusedForTime call before)
  refused_for_time true call before now status w = λ below.
      refused call before now status
      (w.whole ((λ six. absurd (omega (arith, below, six))), (λ seven. absurd (omega (arith, below, seven))), (λ eight. absurd (omega (arith, below, eight)))))
  refused_for_time false call before now status w = tt
