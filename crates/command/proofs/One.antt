-- What is due of a call is one, so where no image is due no file changes.
use Rattle.std.proofs.Common.{◌≡◌, ◌∙◌, inl, inr, ℕ, List, Option, Some, None, Bool, true, false, refl, subst, ap, arith}
use Rattle.std.specs.Prelude.{IsSomeAnd}
use Rattle.std.specs.Bool.{OnTrue}
use Rattle.std.proofs.lemmas.Bool.{cases_eq}
use Rattle.outside.specs.Outside.{Outside, AllStay}
use Rattle.syntax_tree.specs.declared.place.Place.{Place}
use Rattle.syntax_tree.specs.Placed.{Prog}
use Rattle.script.specs.declared.script.ScriptLine.{ScriptLine}
use Rattle.sched_table.specs.Report.{report_text}
use Rattle.sched_table.specs.Json.{report_json}
use Rattle.command_words.specs.Calls.{Call, go, check, compile, json, slack, print, run, migrate, asm, dis, watch, replay, edf, why, fit, chart, table}
use Rattle.command_due.specs.CommandsDue.{Outcome, IsReportDue, IsPrintDue, IsCompileDue, IsMigrateDue}
use Rattle.command_due.specs.SpareDue.{IsSlackDue}
use Rattle.command_due.specs.AsmDue.{IsAsmDue, IsDisDue}
use Rattle.command_due.specs.ReplayDue.{IsJudged, misread, is_refused, is_run, IsReplayDue, replay_faulty, replay_bad_script, replay_judged}
use Rattle.command_due.specs.EdfDue.{IsEdfDue, edf_faulty, edf_waits, edf_unfit, edf_bad_script, edf_ran}
use Rattle.command_due.specs.WhyDue.{IsWhyDue, why_faulty, why_late, why_in_time}
use Rattle.command_due.specs.FitDue.{IsFitDue, fit_faulty, fitted}
use Rattle.command_due.specs.TableDue.{IsTableDue}
use Rattle.command_due_law.specs.DueOnce.{ReportsAreOne, SlackIsOne, PrintIsOne, CompileIsOne, GoIsOne, RunIsOne, MigrateIsOne, AsmIsOne, DisIsOne, WatchIsOne, ChartIsOne, TableIsOne}
use Rattle.command_answers.specs.Files.{Held, IsDue, target_of}
use Rattle.command_answers.specs.Went.{Stores, IsWhole, IsCut, Went}

-- the laws of the commands
pub record Laws : Type 0 where
  pub reports : ReportsAreOne
  pub slack : SlackIsOne
  pub print : PrintIsOne
  pub compile : CompileIsOne
  pub go : GoIsOne
  pub run : RunIsOne
  pub migrate : MigrateIsOne
  pub asm : AsmIsOne
  pub dis : DisIsOne
  pub watch : WatchIsOne
  pub chart : ChartIsOne
  pub table : TableIsOne

of_held : (Due : List ℕ → Outcome → Type 0) (held : Option (List ℕ)) (o p : Outcome) → ((text : List ℕ) → Due text o → Due text p → o ≡ p)
    → IsSomeAnd held (λ text. Due text o) → IsSomeAnd held (λ text. Due text p) → o ≡ p
of_held Due None o p one d e = absurd d
of_held Due (Some text) o p one d e = one text d e

image_is : (o p : Outcome) → o ≡ p → p.image ≡ None → o.image ≡ None
image_is o p same none = ap (λ (x : Outcome). x.image) same ∙ none

-- `replay` stores nothing
judged_stores : (g : Prog Place) (lines : List ScriptLine) (end : ℕ) (text : List ℕ) (o : Outcome) → IsJudged g lines end text o → o.image ≡ None
judged_stores g lines end text o (misread fault wrong same) = image_is o _ same refl
judged_stores g lines end text o (is_refused events line log stops same) = image_is o _ same refl
judged_stores g lines end text o (is_run events log follows same) = image_is o _ same refl

replay_stores : (program script log : Option (List ℕ)) (o : Outcome) → IsReplayDue program script log o → o.image ≡ None
replay_stores program script log o (replay_faulty text number place is fault same) = image_is o _ same refl
replay_stores program script log o (replay_bad_script text other g fault is w that f named same) = image_is o _ same refl
replay_stores program script log o (replay_judged g lines end text r is judged) = judged_stores g lines end text o judged

-- nor does `edf`
edf_stores : (program script : Option (List ℕ)) (o : Outcome) → IsEdfDue program script o → o.image ≡ None
edf_stores program script o (edf_faulty text number place is fault same) = image_is o _ same refl
edf_stores program script o (edf_waits text g place is written first same) = image_is o _ same refl
edf_stores program script o (edf_unfit text n answer is judged unfit same) = image_is o _ same refl
edf_stores program script o (edf_bad_script text other n points fault is feasible that wrong same) = image_is o _ same refl
edf_stores program script o (edf_ran text other n points lines end is feasible that s same) = image_is o _ same refl

-- nor do `why` and `fit`
why_stores : (over : ℕ) (text : List ℕ) (o : Outcome) → IsWhyDue over text o → o.image ≡ None
why_stores over text o (why_faulty number place fault same) = image_is o _ same refl
why_stores over text o (why_late tree parts written late told same) = image_is o _ same refl
why_stores over text o (why_in_time tree parts written in_time told same) = image_is o _ same refl

fit_stores : (over : ℕ) (text : List ℕ) (o : Outcome) → IsFitDue over text o → o.image ≡ None
fit_stores over text o (fit_faulty number place fault same) = image_is o _ same refl
fit_stores over text o (fitted tree fits written told same) = image_is o _ same refl

held_stores : (Due : List ℕ → Outcome → Type 0) (held : Option (List ℕ)) (o : Outcome) → ((text : List ℕ) → Due text o → o.image ≡ None) → IsSomeAnd held (λ text. Due text o) → o.image ≡ None
held_stores Due None o none d = absurd d
held_stores Due (Some text) o none d = none text d

-- what is due of a call but these is one, and of these nothing is stored
due_is_one : Laws → (call : Call) (held : Held) (o p : Outcome) → IsDue call held o → IsDue call held p → p.image ≡ None → o.image ≡ None
due_is_one laws (go program image script over) held o p d e none = image_is o p (laws.go over (held program) (held script) o p d e) none
due_is_one laws (check program over) held o p d e none = image_is o p (of_held (IsReportDue report_text over) (held program) o p (λ text. laws.reports report_text over text o p) d e) none
due_is_one laws (compile program image over) held o p d e none = image_is o p (of_held (IsCompileDue over) (held program) o p (λ text. laws.compile over text o p) d e) none
due_is_one laws (json program over) held o p d e none = image_is o p (of_held (IsReportDue report_json over) (held program) o p (λ text. laws.reports report_json over text o p) d e) none
due_is_one laws (slack program over) held o p d e none = image_is o p (of_held (IsSlackDue over) (held program) o p (λ text. laws.slack over text o p) d e) none
due_is_one laws (print program) held o p d e none = image_is o p (of_held IsPrintDue (held program) o p (λ text. laws.print text o p) d e) none
due_is_one laws (run image script) held o p d e none = image_is o p (laws.run (held image) (held script) o p d e) none
due_is_one laws (migrate image target) held o p d e none = image_is o p (of_held IsMigrateDue (held image) o p (λ bytes. laws.migrate bytes o p) d e) none
due_is_one laws (asm text image) held o p d e none = image_is o p (of_held IsAsmDue (held text) o p (λ lines. laws.asm lines o p) d e) none
due_is_one laws (dis image text) held o p d e none = image_is o p (of_held IsDisDue (held image) o p (λ bytes. laws.dis bytes o p) d e) none
due_is_one laws (watch image script stop) held o p d e none = image_is o p (laws.watch stop (held image) (held script) o p d e) none
due_is_one laws (replay program script log) held o p d e none = replay_stores (held program) (held script) (held log) o d
due_is_one laws (edf program script) held o p d e none = edf_stores (held program) (held script) o d
due_is_one laws (why program over) held o p d e none = held_stores (IsWhyDue over) (held program) o (λ text. why_stores over text o) d
due_is_one laws (fit program over) held o p d e none = held_stores (IsFitDue over) (held program) o (λ text. fit_stores over text o) d
due_is_one laws (chart image script first end) held o p d e none = image_is o p (laws.chart first end (held image) (held script) o p d e) none
due_is_one laws (table tasks program) held o p d e none = image_is o p (of_held IsTableDue (held tasks) o p (λ lines. laws.table lines o p) d e) none

nothing : (image target : Option (List ℕ)) (held held' : Held) → image ≡ None → Stores image target held held' → AllStay held held'
nothing image target held held' none kept = subst (λ (x : Option (List ℕ)). Stores x target held held') none kept

module _ (laws : Laws) (call : Call) (before now : Outside) (status : ℕ) (w : Went true call before now status) (o : Outcome) (due : IsDue call before.files.held o) (none : o.image ≡ None) where
  same : (p : Outcome) → IsDue call before.files.held p → p.image ≡ None
  same p d = due_is_one laws call before.files.held p o d due none

  whole : IsWhole call before now status → AllStay before.files.held now.files.held
  whole d = nothing d.outcome.image (target_of call) before.files.held now.files.held (same d.outcome d.due) d.stored

  some_none : (bytes : List ℕ) (image : Option (List ℕ)) → image ≡ Some bytes → image ≡ None → ⊥
  some_none bytes image is none = absurd cc

  cut : IsCut call before now → AllStay before.files.held now.files.held
  cut d = elim d.cause [
    | inl failed ↦ absurd (some_none failed.0.0 d.outcome.image failed.0.1 (same d.outcome d.due))
    | inr failed ↦ nothing d.outcome.image (target_of call) before.files.held now.files.held (same d.outcome d.due) failed.1
  ]

  stays : AllStay before.files.held now.files.held
  stays = elim (cases_eq status 0) [
    | inl zero ↦ whole (w.whole ((λ six. absurd (omega (arith, zero, six))), (λ seven. absurd (omega (arith, zero, seven))), (λ eight. absurd (omega (arith, zero, eight)))))
    | inr some ↦ elim (cases_eq status 7) [
      | inl seven ↦ cut (w.cut seven)
      | inr other ↦ w.stays (omega (arith, some)) other
    ]
  ]

pub refused : Laws → (tells : Bool) (call : Call) (before now : Outside) (status : ℕ) → Went tells call before now status
    → OnTrue tells ((outcome : Outcome) → IsDue call before.files.held outcome → outcome.image ≡ None → AllStay before.files.held now.files.held)
refused laws true call before now status w = λ o due none. stays laws call before now status w o due none
refused laws false call before now status w = tt
