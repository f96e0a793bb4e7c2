-- What is due of each command is one.
use Rattle.std.proofs.Common.{◌≡◌, ℕ, List, [], Option, Some, ap, sym, subst, ◌∙◌}
use Rattle.syntax_tree.specs.declared.place.Place.{Place}
use Rattle.syntax_tree.specs.Placed.{Prog}
use Rattle.syntax_tree.specs.Bare.{bare}
use Rattle.syntax_printer.specs.Canonical.{canonical}
use Rattle.image.specs.Named.{NamedImage}
use Rattle.image.specs.Raw.{named_of}
use Rattle.image.specs.declared.raw.RawImage.{RawImage}
use Rattle.sched_table.specs.Report.{report_text}
use Rattle.script.specs.Script.{IsOneScript}
use Rattle.script.specs.OneAnswer.{NoScriptIsFaulty, FaultsAreOne}
use Rattle.command_due.specs.Source.{report_of, Style, IsTimelyText}
use Rattle.command_due.specs.CommandsDue.{Outcome, told, stored, log, done, IsRefused, IsReportDue, report_refused, report_timely, IsPrintDue, print_faulty, printed, IsCompileDue, compile_refused, compiled, IsGoDue, go_refused, go_bad_script, went, IsImageFile, IsImageRefused, IsRunDue, run_refused, run_bad_script, ran, IsMigrateDue, migrate_refused, migrated}
use Rattle.command_due.specs.SpareDue.{IsSlackDue, slack_refused, slack_told}
use Rattle.command_due.specs.Lines.{IsSlackText}
use Rattle.command_due.specs.Script.{run_of}
use Rattle.command_due.specs.ChartDue.{IsChartDue, chart_refused, chart_bad_script, charted}
use Rattle.run_chart.specs.Chart.{chart_text}
use Rattle.command_due_law.specs.DueOnce.{WrittenOnce, WrittenOrFaulty, TextsHaveOneFault, TimelyTextsHaveOneImage, RefusalsAreOne, TimelyTextsAreNotRefused, ImagesHeldAreOne, ImageFilesAreNotRefused, ImageRefusalsAreOne, ReportsAreOne, SlackTextsAreOne, SlackIsOne, PrintIsOne, CompileIsOne, GoIsOne, RunIsOne, MigrateIsOne, ChartIsOne}
use Rattle.command_due_law.proofs.Texts.{same_line}
use Rattle.command_due_law.proofs.DueOnceScripts.{text_once, Played, faulty_script, played, played_once}

-- what comes of an image is one
abbrev ComesOnce : (NamedImage → Outcome → Type 0) → Type 0
ComesOnce Comes = (n : NamedImage) (outcome other : Outcome) → Comes n outcome → Comes n other → outcome ≡ other

-- a report is put
abbrev ReportComes : Style → NamedImage → Outcome → Type 0
ReportComes show n o = o ≡ told 0 (report_of show n)

-- a report is put and the image is stored
abbrev ImageComes : NamedImage → Outcome → Type 0
ImageComes n o = o ≡ record { status = 0; text = report_of report_text n; image = Some (stored n) }

-- what the processes can spare is put
abbrev SlackComes : NamedImage → Outcome → Type 0
SlackComes n o = (lines : List ℕ) × IsSlackText n lines × (o ≡ told 0 lines)

-- nothing is put and the image is stored
abbrev BytesCome : NamedImage → Outcome → Type 0
BytesCome n o = o ≡ record { status = 0; text = []; image = Some (stored n) }

-- the log over a script is put, with a report and the image stored before
abbrev DoneComes : Option (List ℕ) → NamedImage → Outcome → Type 0
DoneComes script n o = Played n.names script (done n) o

-- the log over a script is put
abbrev LogComes : Option (List ℕ) → NamedImage → Outcome → Type 0
LogComes script n o = Played n.names script (λ lines end. told 0 (log n lines end)) o

-- the chart of the run over a script is put
abbrev ChartComes : (first end : ℕ) → Option (List ℕ) → NamedImage → Outcome → Type 0
ChartComes first end script n o = Played n.names script (λ lines stop. told 0 (chart_text n (run_of lines stop) first end)) o

-- ---- a program's text

-- it is refused, or this comes of its image
data Tried (show : Style) (over : ℕ) (text : List ℕ) (Comes : NamedImage → Outcome → Type 0) (outcome : Outcome) : Type 0 where
  refused : IsRefused show over text outcome → Tried show over text Comes outcome
  timely : (n : NamedImage) → IsTimelyText over text n → Comes n outcome → Tried show over text Comes outcome

module _ (refusals : RefusalsAreOne) (apart : TimelyTextsAreNotRefused) (images : TimelyTextsHaveOneImage) where
  tried_once : (show : Style) (over : ℕ) (text : List ℕ) (Comes : NamedImage → Outcome → Type 0) → ComesOnce Comes
      → (outcome other : Outcome) → Tried show over text Comes outcome → Tried show over text Comes other → outcome ≡ other
  tried_once show over text Comes once outcome other (refused one) (refused two) = refusals show over text outcome other one two
  tried_once show over text Comes once outcome other (refused one) (timely n is comes) = absurd (apart show over text n outcome is one)
  tried_once show over text Comes once outcome other (timely n is comes) (refused two) = absurd (apart show over text n other is two)
  tried_once show over text Comes once outcome other (timely m one comes) (timely n two came) =
      once m outcome other comes (subst (λ (i : NamedImage). Comes i other) (images over text n m two one) came)

  pub reports_are_one : ReportsAreOne
  reports_are_one show over text outcome other first second =
      tried_once show over text (ReportComes show) (λ n o p one two. one ∙ sym two) outcome other (tried outcome first) (tried other second)
    where
      tried : (o : Outcome) → IsReportDue show over text o → Tried show over text (ReportComes show) o
      tried o (report_refused is) = refused is
      tried o (report_timely n is was) = timely n is was

  pub slack_is_one : SlackTextsAreOne → SlackIsOne
  slack_is_one texts over text outcome other first second =
      tried_once report_text over text SlackComes (λ n o p one two. one.2 ∙ (ap (told 0) (texts n one.0 two.0 one.1 two.1) ∙ sym two.2)) outcome other (tried outcome first) (tried other second)
    where
      tried : (o : Outcome) → IsSlackDue over text o → Tried report_text over text SlackComes o
      tried o (slack_refused is) = refused is
      tried o (slack_told n lines is told_is was) = timely n is (lines, told_is, was)

  pub compile_is_one : CompileIsOne
  compile_is_one over text outcome other first second =
      tried_once report_text over text ImageComes (λ n o p one two. one ∙ sym two)
      outcome other (tried outcome first) (tried other second)
    where
      tried : (o : Outcome) → IsCompileDue over text o → Tried report_text over text ImageComes o
      tried o (compile_refused is) = refused is
      tried o (compiled n is was) = timely n is was

  pub go_is_one : IsOneScript → NoScriptIsFaulty → FaultsAreOne → GoIsOne
  go_is_one scripts never faults over program script outcome other first second =
      let one = tried outcome first in
      let two = tried other second in
      tried_once report_text over one.0 (DoneComes script) (λ n o p. played_once scripts never faults n.names script (done n) o p) outcome other
      one.2
      (subst (λ t. Tried report_text over t (DoneComes script) other) (text_once program two.0 one.0 two.1 one.1) two.2)
    where
      tried : (o : Outcome) → IsGoDue over program script o → (text : List ℕ) × (program ≡ Some text) × Tried report_text over text (DoneComes script) o
      tried o (go_refused text held is) = (text, held, refused is)
      tried o (go_bad_script text other n fault held is script_held fault_is was) = (text, held, timely n is (faulty_script other fault script_held fault_is.is was))
      tried o (went text other n lines end held is script_held script_is was) = (text, held, timely n is (played other lines end script_held script_is was))

pub print_is_one : WrittenOnce → WrittenOrFaulty → TextsHaveOneFault → PrintIsOne
print_is_one once apart faults text outcome other first second = by first second
  where
    by : IsPrintDue text outcome → IsPrintDue text other → outcome ≡ other
    by (print_faulty m p fault is) (print_faulty n q also was) = is ∙ (ap (told 2) (same_line m n p q (faults text m n p q fault also)) ∙ sym was)
    by (print_faulty m p fault is) (printed h written was) = absurd (apart text h m p written fault)
    by (printed g written is) (print_faulty n q fault was) = absurd (apart text g n q written fault)
    by (printed g written is) (printed h also was) = is ∙ (ap (λ (t : Prog Place). told 0 (canonical (bare t))) (once text g h written also) ∙ sym was)

-- ---- an image's bytes

-- they are refused, or this comes of their image
data Loaded (bytes : List ℕ) (Comes : NamedImage → Outcome → Type 0) (outcome : Outcome) : Type 0 where
  unfit : IsImageRefused bytes outcome → Loaded bytes Comes outcome
  fit : (raw : RawImage) → IsImageFile bytes raw → Comes (named_of raw) outcome → Loaded bytes Comes outcome

module _ (images : ImagesHeldAreOne) (apart : ImageFilesAreNotRefused) (refusals : ImageRefusalsAreOne) where
  loaded_once : (bytes : List ℕ) (Comes : NamedImage → Outcome → Type 0) → ComesOnce Comes
      → (outcome other : Outcome) → Loaded bytes Comes outcome → Loaded bytes Comes other → outcome ≡ other
  loaded_once bytes Comes once outcome other (unfit one) (unfit two) = refusals bytes outcome other one two
  loaded_once bytes Comes once outcome other (unfit one) (fit raw is comes) = absurd (apart bytes raw outcome is one)
  loaded_once bytes Comes once outcome other (fit raw is comes) (unfit two) = absurd (apart bytes raw other is two)
  loaded_once bytes Comes once outcome other (fit raw one comes) (fit raw' two came) =
      once (named_of raw) outcome other comes (subst (λ (i : NamedImage). Comes i other) (images bytes raw' raw two one) came)

  pub migrate_is_one : MigrateIsOne
  migrate_is_one bytes outcome other first second =
      loaded_once bytes BytesCome (λ n o p one two. one ∙ sym two)
      outcome other (loaded outcome first) (loaded other second)
    where
      loaded : (o : Outcome) → IsMigrateDue bytes o → Loaded bytes BytesCome o
      loaded o (migrate_refused is) = unfit is
      loaded o (migrated raw is was) = fit raw is was

  -- what is due by the file of an image is one, where what comes of the image is
  of_image : (image : Option (List ℕ)) (Due : Outcome → Type 0) (Comes : NamedImage → Outcome → Type 0) → ComesOnce Comes
      → ((o : Outcome) → Due o → (bytes : List ℕ) × (image ≡ Some bytes) × Loaded bytes Comes o)
      → (outcome other : Outcome) → Due outcome → Due other → outcome ≡ other
  of_image image Due Comes once loaded outcome other first second =
      let one = loaded outcome first in
      let two = loaded other second in
      loaded_once one.0 Comes once outcome other one.2 (subst (λ bs. Loaded bs Comes other) (text_once image two.0 one.0 two.1 one.1) two.2)

  pub run_is_one : IsOneScript → NoScriptIsFaulty → FaultsAreOne → RunIsOne
  run_is_one scripts never faults image script =
      of_image image (IsRunDue image script) (LogComes script)
      (λ n o p. played_once scripts never faults n.names script (λ lines end. told 0 (log n lines end)) o p) loaded
    where
      loaded : (o : Outcome) → IsRunDue image script o
          → (bytes : List ℕ) × (image ≡ Some bytes) × Loaded bytes (LogComes script) o
      loaded o (run_refused bytes held is) = (bytes, held, unfit is)
      loaded o (run_bad_script bytes other raw fault held is script_held fault_is was) = (bytes, held, fit raw is (faulty_script other fault script_held fault_is.is was))
      loaded o (ran bytes other raw lines end held is script_held script_is was) = (bytes, held, fit raw is (played other lines end script_held script_is was))

  pub chart_is_one : IsOneScript → NoScriptIsFaulty → FaultsAreOne → ChartIsOne
  chart_is_one scripts never faults first end image script =
      of_image image (IsChartDue first end image script) (ChartComes first end script)
      (λ n o p. played_once scripts never faults n.names script (λ lines stop. told 0 (chart_text n (run_of lines stop) first end)) o p) loaded
    where
      loaded : (o : Outcome) → IsChartDue first end image script o
          → (bytes : List ℕ) × (image ≡ Some bytes) × Loaded bytes (ChartComes first end script) o
      loaded o (chart_refused bytes held is) = (bytes, held, unfit is)
      loaded o (chart_bad_script bytes other raw fault held is script_held fault_is was) = (bytes, held, fit raw is (faulty_script other fault script_held fault_is.is was))
      loaded o (charted bytes other raw lines stop held is script_held script_is was) = (bytes, held, fit raw is (played other lines stop script_held script_is was))
