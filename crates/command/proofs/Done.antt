-- What a call that answers 0 has done.
use Rattle.std.proofs.Common.{◌≡◌, ◌∙◌, ◌++◌, ◌≤◌, ℕ, List, [], Option, Some, None, Bool, true, false, refl, sym, subst, ap, arith, length}
use Rattle.std.specs.Prelude.{IsSomeAnd}
use Rattle.std.specs.Bool.{OnTrue}
use Rattle.outside.specs.Outside.{Outside, Appends}
use Rattle.syntax_tree.specs.declared.place.Place.{Place}
use Rattle.syntax_tree.specs.Placed.{Prog}
use Rattle.syntax_tree.specs.Bare.{bare}
use Rattle.syntax.specs.declared.token.Token.{Token}
use Rattle.syntax.specs.Tokens.{tokens}
use Rattle.syntax_printer.specs.Canonical.{canonical}
use Rattle.syntax_printer.specs.ReadBack.{AreSpelled, HasTree, IsPrinted}
use Rattle.printed_law.specs.Printed.{PrintedTreesAreWritten}
use Rattle.table_law.specs.Written.{IsWrittenTable}
use Rattle.image.specs.Named.{NamedImage}
use Rattle.image.specs.Raw.{image_of, named_of}
use Rattle.image.specs.declared.raw.RawImage.{RawImage}
use Rattle.image_reader_law.specs.ValidLimits.{ImagesReadHaveLimits}
use Rattle.valid_image_law.specs.ValidLaw.{EveryValidImageIsSafeAndInTime}
use Rattle.sched_timing.specs.Timed.{RespectsFrames}
use Rattle.script.specs.declared.script.ScriptLine.{ScriptLine}
use Rattle.vm_law.specs.ScriptSuits.{ScriptsForImagesReadSuit, script_with}
use Rattle.sched_table.specs.Report.{report_text}
use Rattle.sched_table.specs.Json.{report_json}
use Rattle.built_tasks_law.specs.Judged.{BoundsAreOfTheText, BuiltIsInTime}
use Rattle.command_words.specs.Calls.{Call, over_of, go, check, compile, json, slack, print, run, migrate, asm, dis, watch, replay, edf, why, fit, chart, table}
use Rattle.command_due.specs.Source.{IsWritten, IsTimelyText, Style, report_of}
use Rattle.command_due.specs.Script.{run_of}
use Rattle.command_due.specs.CommandsDue.{Outcome, stored, log, IsRefused, faulty, late, IsReportDue, report_refused, report_timely, IsPrintDue, print_faulty, printed, IsCompileDue, compile_refused, compiled, IsGoDue, go_refused, go_bad_script, went, IsImageFile, IsImageRefused, misread, invalid, IsRunDue, run_refused, run_bad_script, ran, IsMigrateDue, migrate_refused, migrated}
use Rattle.command_due.specs.SpareDue.{IsSlackDue, slack_refused, slack_told}
use Rattle.command_due.specs.AsmDue.{IsAsmDue, asm_faulty, asm_invalid, assembled, IsDisDue, dis_misread, disassembled}
use Rattle.asm_law.specs.AsmLaws.{ImagesToldAreHeld}
use Rattle.image_reader_law.specs.Stored.{ImagesReadAreHeldAgain}
use Rattle.replay_law.specs.Stored.{BuiltImagesAreHeld}
use Rattle.asm_format.specs.Text.{text_of as lines_told}
use Rattle.command_due.specs.StopDue.{IsWatchDue, watch_refused, watch_bad_script, watched}
use Rattle.command_words.specs.declared.stop.Breakpoint.{Breakpoint}
use Rattle.command_due.specs.ReplayDue.{IsRecorded, IsJudged, misread as misread_log, is_refused, is_run, IsReplayDue, replay_faulty, replay_bad_script, replay_judged, run_line}
use Rattle.sched_demand.specs.declared.judging.Judgement.TheVariants as judgement
use Rattle.command_due.specs.EdfDue.{IsEdfDue, edf_faulty, edf_waits, edf_unfit, edf_bad_script, edf_ran, edf_log}
use Rattle.command_due.specs.WhyDue.{IsWhyDue, why_faulty, why_late, why_in_time}
use Rattle.command_due.specs.FitDue.{IsFitDue, fit_faulty, fitted}
use Rattle.command_due.specs.ChartDue.{IsChartDue, chart_refused, chart_bad_script, charted}
use Rattle.command_due.specs.TableDue.{IsTableDue, table_faulty, tabled}
use Rattle.run_chart.specs.Chart.{chart_text}
use Rattle.table_format.specs.Program.{table_text}
use Rattle.command_due.specs.Report.{edf_report}
use Rattle.edf_correct.specs.FeasibleTexts.{FeasibleTextsKeepTheirWord}
use Rattle.command_due.specs.Runs.{KeepsItsWord, BuiltImagesAreFaithful, IsAccepted}
use Rattle.command_answers.specs.Files.{IsDue, target_of}
use Rattle.command_answers.specs.Went.{IsWhole, Stores, Went}
use Rattle.command_answers.specs.Promise.{IsHeld, HasGone, HasCompiled, HasReported, HasSpared, ReadsBack, HasPrinted, HasRun, HasMigrated, HasAssembled, HasDisassembled, HasWatched, HasReplayed, HasMetDeadlines, HasTakenApart, HasFitted, HasCharted, HasTabled, HasDone}
use Rattle.command_perform.proofs.Scripts.{same_lines}

pub status_of : (o p : Outcome) → o ≡ p → o.status ≡ p.status
status_of o p same = ap (λ (x : Outcome). x.status) same

text_of : (o p : Outcome) → o ≡ p → o.text ≡ p.text
text_of o p same = ap (λ (x : Outcome). x.text) same

image_is : (o p : Outcome) → o ≡ p → o.image ≡ p.image
image_is o p same = ap (λ (x : Outcome). x.image) same

-- ---- programs that are accepted

-- the laws of what is built
pub record Building : Type 0 where
  pub faithful : BuiltImagesAreFaithful
  pub in_time : BuiltIsInTime
  pub bounds : BoundsAreOfTheText

accepted : Building → (over : ℕ) (held : Option (List ℕ)) (text : List ℕ) (n : NamedImage) → held ≡ Some text → (t : IsTimelyText over text n) → IsAccepted over held t.tree n
accepted laws over held text n is t =
    record {
      text = text;
      is_held = is;
      written = t.written;
      in_time = (laws.in_time t.tree over n t.written.program.checked t.written.fits t.built).is;
      built = t.built;
      bounds = laws.bounds t.tree over n t.written.program.checked t.written.fits t.built;
      faithful = laws.faithful text t.tree over n t.written t.built;
    }

-- what is stored of it holds it
held_by : BuiltImagesAreHeld → (over : ℕ) (text : List ℕ) (n : NamedImage) → over ≤ 1000 → IsTimelyText over text n → IsHeld n
held_by law over text n low t = let h = law text t.tree over n low t.written t.built in record { raw = h.0; named = h.1; valid = h.2 }

-- no refusal has status 0
refused_zero : (show : Style) (over : ℕ) (text : List ℕ) (o : Outcome) → IsRefused show over text o → o.status ≡ 0 → ⊥
refused_zero show over text o (faulty number place fault same) zero = let two = status_of o _ same in absurd (omega (arith, two, zero))
refused_zero show over text o (late report l same) zero = let three = status_of o _ same in absurd (omega (arith, three, zero))

image_zero : (bytes : List ℕ) (o : Outcome) → IsImageRefused bytes o → o.status ≡ 0 → ⊥
image_zero bytes o (misread number offset fault same) zero = let four = status_of o _ same in absurd (omega (arith, four, zero))
image_zero bytes o (invalid raw fault held first same) zero = let four = status_of o _ same in absurd (omega (arith, four, zero))

-- ---- the run of a script is one to both

same_run : (lines : List ScriptLine) (end : ℕ) → run_of lines end ≡ script_with lines end
same_run lines end = ap (λ ls. record { lines = ls; end_tick = end }) (same_lines lines)

-- ---- valid images

keeps : ImagesReadHaveLimits → EveryValidImageIsSafeAndInTime → ScriptsForImagesReadSuit → (bytes : List ℕ) (raw : RawImage) → IsImageFile bytes raw → KeepsItsWord raw.names (image_of raw)
keeps limits safe suit bytes raw file text lines end script =
    let both = safe (image_of raw) (limits bytes raw file.held) file.valid in
    let frames : RespectsFrames (image_of raw) (run_of lines end) =
    subst (RespectsFrames (image_of raw)) (sym (same_run lines end)) (suit bytes raw text lines end file.held script).frames in
    record { in_time = both.1 (run_of lines end) frames; safe = both.0 (run_of lines end) }

-- ---- canonical texts

-- the laws of the printer, and of the texts of tables
pub record Printing : Type 0 where
  pub spelled : (text : List ℕ) (toks : List Token) → tokens text toks → AreSpelled text toks
  pub tokens_of : (g : Prog Place) → IsPrinted g → (toks : List Token) × tokens (canonical (bare g)) toks
  pub tree_of : (g : Prog Place) → IsPrinted g → (toks : List Token) → tokens (canonical (bare g)) toks → HasTree (canonical (bare g)) toks g
  pub again : PrintedTreesAreWritten
  pub tables : IsWrittenTable

reads_back : Printing → (text : List ℕ) (g : Prog Place) → IsWritten text g → ReadsBack g
reads_back laws text g w short =
    let is = w.program in
    let printed_is : IsPrinted g = record { text = text; toks = is.tree.toks; spelled = laws.spelled text is.tree.toks is.tree.listed; reads = is.tree.grown; short = short } in
    let found = laws.tokens_of g printed_is in
    (found.0, found.1, laws.tree_of g printed_is found.0 found.1)

-- ---- what was due was done

stored_bytes : (o : Option (List ℕ)) (bytes : List ℕ) (name : List ℕ) (held held' : List ℕ → Option (List ℕ)) → o ≡ Some bytes → Stores o (Some name) held held' → held' name ≡ Some bytes
stored_bytes o bytes name held held' is kept = subst (λ (x : Option (List ℕ)). Stores x (Some name) held held') is kept

put_is : (before now : Outside) (o : Outcome) (text : List ℕ) → o.text ≡ text → Appends before.out.taken now.out.taken o.text → Appends before.out.taken now.out.taken text
put_is before now o text same put = subst (λ (x : List ℕ). Appends before.out.taken now.out.taken x) same put

module _ (laws : Printing) (building : Building) (before now : Outside) (o : Outcome) (zero : o.status ≡ 0) (put : Appends before.out.taken now.out.taken o.text) where
  printed_whole : (program : List ℕ) (text : List ℕ) → before.files.held program ≡ Some text → IsPrintDue text o → HasPrinted program before now
  printed_whole program text is (print_faulty number place fault same) = absurd (let two = status_of o _ same in omega (arith, two, zero))
  printed_whole program text is (printed tree w same) =
      record { text = text; held = is; tree = tree; written = w; put = put_is before now o (canonical (bare tree)) (text_of o _ same) put; back = reads_back laws text tree w; again = laws.again text tree w }

  reported : (show : Style) (over : ℕ) (program : List ℕ) (text : List ℕ) → before.files.held program ≡ Some text → IsReportDue show over text o → HasReported show over program before now
  reported show over program text is (report_refused r) = absurd (refused_zero show over text o r zero)
  reported show over program text is (report_timely n t same) = record {
    tree = t.tree;
    built = n;
    accepted = accepted building over (before.files.held program) text n is t;
    put = put_is before now o (report_of show n) (text_of o _ same) put;
  }

  spared : (over : ℕ) (program : List ℕ) (text : List ℕ) → before.files.held program ≡ Some text → IsSlackDue over text o → HasSpared over program before now
  spared over program text is (slack_refused r) = absurd (refused_zero report_text over text o r zero)
  spared over program text is (slack_told n lines t told_is same) = record {
    tree = t.tree;
    built = n;
    accepted = accepted building over (before.files.held program) text n is t;
    lines = lines;
    told = told_is;
    put = put_is before now o lines (text_of o _ same) put;
  }

  compiled_whole : BuiltImagesAreHeld → (over : ℕ) → over ≤ 1000 → (program image : List ℕ) (text : List ℕ) → before.files.held program ≡ Some text → Stores o.image (Some image) before.files.held now.files.held
      → IsCompileDue over text o → HasCompiled over program image before now
  compiled_whole law over low program image text is kept (compile_refused r) = absurd (refused_zero report_text over text o r zero)
  compiled_whole law over low program image text is kept (compiled n t same) = record {
    tree = t.tree;
    built = n;
    accepted = accepted building over (before.files.held program) text n is t;
    is_stored = stored_bytes o.image (stored n) image before.files.held now.files.held (image_is o _ same) kept;
    holds = held_by law over text n low t;
    put = put_is before now o (report_of report_text n) (text_of o _ same) put;
  }

  gone : BuiltImagesAreHeld → (over : ℕ) → over ≤ 1000 → (program image script : List ℕ) → Stores o.image (Some image) before.files.held now.files.held
      → IsGoDue over (before.files.held program) (before.files.held script) o → HasGone over program image script before now
  gone law over low program image script kept (go_refused text is r) = absurd (refused_zero report_text over text o r zero)
  gone law over low program image script kept (go_bad_script text other n fault is t that f same) = absurd (let five = status_of o _ same in omega (arith, five, zero))
  gone law over low program image script kept (went text other n lines end is t that s same) = record {
    text = report_of report_text n ++ log n lines end;
    put = put_is before now o (report_of report_text n ++ log n lines end) (text_of o _ same) put;
    done = record {
      tree = t.tree;
      built = n;
      accepted = accepted building over (before.files.held program) text n is t;
      text = other;
      script_held = that;
      lines = lines;
      end = end;
      script_written = s;
      is_stored = stored_bytes o.image (stored n) image before.files.held now.files.held (image_is o _ same) kept;
      is_put = refl;
    };
    holds = held_by law over text n low t;
  }

  module _ (limits : ImagesReadHaveLimits) (safe : EveryValidImageIsSafeAndInTime) (suit : ScriptsForImagesReadSuit) where
    run_whole : (image script : List ℕ) → IsRunDue (before.files.held image) (before.files.held script) o → HasRun image script before now
    run_whole image script (run_refused bytes is r) = absurd (image_zero bytes o r zero)
    run_whole image script (run_bad_script bytes other raw fault is file that f same) = absurd (let five = status_of o _ same in omega (arith, five, zero))
    run_whole image script (ran bytes other raw lines end is file that s same) = record {
      bytes = bytes;
      held = is;
      raw = raw;
      valid = file;
      text = other;
      script_held = that;
      lines = lines;
      end = end;
      script_written = s;
      put = put_is before now o (log (named_of raw) lines end) (text_of o _ same) put;
      keeps = keeps limits safe suit bytes raw file;
    }

    asm_whole : ImagesToldAreHeld → (text image : List ℕ) (lines : List ℕ) → before.files.held text ≡ Some lines → Stores o.image (Some image) before.files.held now.files.held
        → IsAsmDue lines o → HasAssembled text image before now
    asm_whole law text image lines is kept (asm_faulty number line fault same) = absurd (let four = status_of o _ same in omega (arith, four, zero))
    asm_whole law text image lines is kept (asm_invalid raw fault tells first same) = absurd (let four = status_of o _ same in omega (arith, four, zero))
    asm_whole law text image lines is kept (assembled raw tells valid same) =
        let file : IsImageFile (stored (named_of raw)) raw = record { held = law lines raw tells; valid = valid } in
        record {
          lines = lines;
          held = is;
          raw = raw;
          told = tells;
          valid = file;
          is_stored = stored_bytes o.image (stored (named_of raw)) image before.files.held now.files.held (image_is o _ same) kept;
          keeps = keeps limits safe suit (stored (named_of raw)) raw file;
        }

  dis_whole : (image text : List ℕ) (bytes : List ℕ) → before.files.held image ≡ Some bytes → Stores o.image (Some text) before.files.held now.files.held
      → IsDisDue bytes o → HasDisassembled image text before now
  dis_whole image text bytes is kept (dis_misread number offset fault same) = absurd (let four = status_of o _ same in omega (arith, four, zero))
  dis_whole image text bytes is kept (disassembled raw held same) = record {
    bytes = bytes;
    held = is;
    raw = raw;
    is_image = held;
    is_stored = stored_bytes o.image (lines_told (named_of raw)) text before.files.held now.files.held (image_is o _ same) kept;
  }

  watch_whole : (stop : Breakpoint) (image script : List ℕ) → IsWatchDue stop (before.files.held image) (before.files.held script) o → HasWatched image script stop before now
  watch_whole stop image script (watch_refused bytes is r) = absurd (image_zero bytes o r zero)
  watch_whole stop image script (watch_bad_script bytes other raw fault is file that f same) = absurd (let five = status_of o _ same in omega (arith, five, zero))
  watch_whole stop image script (watched bytes other raw lines end seen is file that s tells same) = record {
    bytes = bytes;
    held = is;
    raw = raw;
    valid = file;
    text = other;
    script_held = that;
    lines = lines;
    end = end;
    script_written = s;
    seen = seen;
    told = tells;
    put = put_is before now o seen (text_of o _ same) put;
  }

  judged_whole : (program script log : List ℕ) (g : Prog Place) (lines : List ScriptLine) (end : ℕ) (text : List ℕ) → IsRecorded (before.files.held program) (before.files.held script) g lines end
      → before.files.held log ≡ Some text → IsJudged g lines end text o → HasReplayed program script log before now
  judged_whole program script logged g lines end text r is (misread_log fault wrong same) = absurd (let nine = status_of o _ same in omega (arith, nine, zero))
  judged_whole program script logged g lines end text r is (is_refused events line told stops same) = absurd (let nine = status_of o _ same in omega (arith, nine, zero))
  judged_whole program script logged g lines end text r is (is_run events told follows same) = record {
    tree = g;
    lines = lines;
    end = end;
    recorded = r;
    text = text;
    held = is;
    events = events;
    told = told;
    run = follows;
    put = put_is before now o (run_line (length events)) (text_of o _ same) put;
  }

  replay_whole : (program script log : List ℕ) → IsReplayDue (before.files.held program) (before.files.held script) (before.files.held log) o → HasReplayed program script log before now
  replay_whole program script logged (replay_faulty text number place is fault same) = absurd (let two = status_of o _ same in omega (arith, two, zero))
  replay_whole program script logged (replay_bad_script text other g fault is w that f named same) = absurd (let five = status_of o _ same in omega (arith, five, zero))
  replay_whole program script logged (replay_judged g lines end text r is judged) = judged_whole program script logged g lines end text r is judged

  edf_whole : FeasibleTextsKeepTheirWord → (program script : List ℕ) → IsEdfDue (before.files.held program) (before.files.held script) o → HasMetDeadlines program script before now
  edf_whole word program script (edf_faulty text number place is fault same) = absurd (let two = status_of o _ same in omega (arith, two, zero))
  edf_whole word program script (edf_waits text g place is written first same) = absurd (let two = status_of o _ same in omega (arith, two, zero))
  edf_whole word program script (edf_unfit text n answer is judged unfit same) = absurd (let three = status_of o _ same in omega (arith, three, zero))
  edf_whole word program script (edf_bad_script text other n points fault is feasible that wrong same) = absurd (let five = status_of o _ same in omega (arith, five, zero))
  edf_whole word program script (edf_ran text other n points lines end is feasible that s same) = record {
    text = text;
    held = is;
    image = n;
    points = points;
    feasible = feasible;
    other = other;
    script_held = that;
    lines = lines;
    end = end;
    script_written = s;
    put = put_is before now o (edf_report n (judgement.Feasible points) ++ edf_log n lines end) (text_of o _ same) put;
    keeps = word text n points feasible;
  }

  taken_apart : (over : ℕ) (program : List ℕ) (text : List ℕ) → before.files.held program ≡ Some text → IsWhyDue over text o → HasTakenApart over program before now
  taken_apart over program text is (why_faulty number place fault same) = absurd (let two = status_of o _ same in omega (arith, two, zero))
  taken_apart over program text is (why_late tree parts w never told same) = absurd (let three = status_of o _ same in omega (arith, three, zero))
  taken_apart over program text is (why_in_time tree parts w in_time tells same) = record {
    text = text;
    held = is;
    tree = tree;
    written = w;
    in_time = in_time;
    parts = parts;
    told = tells;
    put = put_is before now o parts (text_of o _ same) put;
  }

  fitted_whole : (over : ℕ) (program : List ℕ) (text : List ℕ) → before.files.held program ≡ Some text → IsFitDue over text o → HasFitted over program before now
  fitted_whole over program text is (fit_faulty number place fault same) = absurd (let two = status_of o _ same in omega (arith, two, zero))
  fitted_whole over program text is (fitted tree fits w tells same) = record {
    text = text;
    held = is;
    tree = tree;
    written = w;
    fits = fits;
    told = tells;
    put = put_is before now o fits (text_of o _ same) put;
  }

  chart_whole : (first behind : ℕ) (image script : List ℕ) → IsChartDue first behind (before.files.held image) (before.files.held script) o → HasCharted image script first behind before now
  chart_whole first behind image script (chart_refused bytes is r) = absurd (image_zero bytes o r zero)
  chart_whole first behind image script (chart_bad_script bytes other raw fault is file that f same) = absurd (let five = status_of o _ same in omega (arith, five, zero))
  chart_whole first behind image script (charted bytes other raw lines end is file that s same) = record {
    bytes = bytes;
    held = is;
    raw = raw;
    valid = file;
    text = other;
    script_held = that;
    lines = lines;
    end = end;
    script_written = s;
    put = put_is before now o (chart_text (named_of raw) (run_of lines end) first behind) (text_of o _ same) put;
  }

  tabled_whole : (tasks program : List ℕ) (lines : List ℕ) → before.files.held tasks ≡ Some lines → Stores o.image (Some program) before.files.held now.files.held → IsTableDue lines o → HasTabled tasks program before now
  tabled_whole tasks program lines is kept (table_faulty number line fault same) = absurd (let two = status_of o _ same in omega (arith, two, zero))
  tabled_whole tasks program lines is kept (tabled t is_table same) =
      let full = laws.tables t is_table.begun is_table.some in
      record {
        lines = lines;
        held = is;
        table = t;
        is_table = is_table;
        is_stored = stored_bytes o.image (table_text t) program before.files.held now.files.held (image_is o _ same) kept;
        tree = full.tree;
        written = full.written;
        same = full.same;
        put = put_is before now o [] (text_of o _ same) put;
      }

  migrated_whole : ImagesReadAreHeldAgain → (image target : List ℕ) (bytes : List ℕ) → before.files.held image ≡ Some bytes → Stores o.image (Some target) before.files.held now.files.held
      → IsMigrateDue bytes o → HasMigrated image target before now
  migrated_whole law image target bytes is kept (migrate_refused r) = absurd (image_zero bytes o r zero)
  migrated_whole law image target bytes is kept (migrated raw file same) = record {
    bytes = bytes;
    held = is;
    raw = raw;
    valid = file;
    is_stored = stored_bytes o.image (stored (named_of raw)) target before.files.held now.files.held (image_is o _ same) kept;
    again = λ are. let once : IsImageFile (stored (named_of raw)) raw = record { held = law bytes raw are file.held file.valid; valid = file.valid } in once;
  }

-- what is due of what a file holds
of_held : (Due : List ℕ → Outcome → Type 0) (A : Type 0) (held : Option (List ℕ)) (o : Outcome) → ((text : List ℕ) → held ≡ Some text → Due text o → A) → IsSomeAnd held (λ text. Due text o) → A
of_held Due A None o by due = absurd due
of_held Due A (Some text) o by due = by text refl due

module _ (laws : Printing) (building : Building) (held : ImagesToldAreHeld) (again : ImagesReadAreHeldAgain) (stores : BuiltImagesAreHeld) (limits : ImagesReadHaveLimits) (safe : EveryValidImageIsSafeAndInTime) (suit : ScriptsForImagesReadSuit) (word : FeasibleTextsKeepTheirWord) (before now : Outside) (o : Outcome)
    (zero : o.status ≡ 0) (put : Appends before.out.taken now.out.taken o.text) where
  done : (call : Call) → over_of call ≤ 1000 → IsDue call before.files.held o → Stores o.image (target_of call) before.files.held now.files.held → HasDone call before now
  done (go program image script over) low due kept = gone laws building before now o zero put stores over low program image script kept due
  done (check program over) low due kept =
      of_held (IsReportDue report_text over) (HasReported report_text over program before now) (before.files.held program) o (λ text is d. reported laws building before now o zero put report_text over program text is d) due
  done (compile program image over) low due kept =
      of_held (IsCompileDue over) (HasCompiled over program image before now) (before.files.held program) o (λ text is d. compiled_whole laws building before now o zero put stores over low program image text is kept d) due
  done (json program over) low due kept =
      of_held (IsReportDue report_json over) (HasReported report_json over program before now) (before.files.held program) o (λ text is d. reported laws building before now o zero put report_json over program text is d) due
  done (slack program over) low due kept =
      of_held (IsSlackDue over) (HasSpared over program before now) (before.files.held program) o (λ text is d. spared laws building before now o zero put over program text is d) due
  done (print program) low due kept =
      of_held IsPrintDue (HasPrinted program before now) (before.files.held program) o (λ text is d. printed_whole laws building before now o zero put program text is d) due
  done (run image script) low due kept = run_whole laws building before now o zero put limits safe suit image script due
  done (migrate image target) low due kept =
      of_held IsMigrateDue (HasMigrated image target before now) (before.files.held image) o (λ bytes is d. migrated_whole laws building before now o zero put again image target bytes is kept d) due
  done (asm text image) low due kept =
      of_held IsAsmDue (HasAssembled text image before now) (before.files.held text) o (λ lines is d. asm_whole laws building before now o zero put limits safe suit held text image lines is kept d) due
  done (dis image text) low due kept =
      of_held IsDisDue (HasDisassembled image text before now) (before.files.held image) o (λ bytes is d. dis_whole laws building before now o zero put image text bytes is kept d) due
  done (watch image script stop) low due kept = watch_whole laws building before now o zero put stop image script due
  done (replay program script log) low due kept = replay_whole laws building before now o zero put program script log due
  done (edf program script) low due kept = edf_whole laws building before now o zero put word program script due
  done (why program over) low due kept =
      of_held (IsWhyDue over) (HasTakenApart over program before now) (before.files.held program) o (λ text is d. taken_apart laws building before now o zero put over program text is d) due
  done (fit program over) low due kept =
      of_held (IsFitDue over) (HasFitted over program before now) (before.files.held program) o (λ text is d. fitted_whole laws building before now o zero put over program text is d) due
  done (chart image script first end) low due kept = chart_whole laws building before now o zero put first end image script due
  done (table tasks program) low due kept =
      of_held IsTableDue (HasTabled tasks program before now) (before.files.held tasks) o (λ lines is d. tabled_whole laws building before now o zero put tasks program lines is kept d) due

pub has_done : Printing → Building → ImagesToldAreHeld → ImagesReadAreHeldAgain → BuiltImagesAreHeld → ImagesReadHaveLimits → EveryValidImageIsSafeAndInTime → ScriptsForImagesReadSuit → FeasibleTextsKeepTheirWord → (tells : Bool) (call : Call) (before now : Outside) (status : ℕ) → over_of call ≤ 1000
    → Went tells call before now status → OnTrue tells (status ≡ 0 → HasDone call before now)
has_done laws building held again stores limits safe suit word true call before now status low w = λ zero.
    let whole : IsWhole call before now status =
    w.whole ((λ six. absurd (omega (arith, zero, six))), (λ seven. absurd (omega (arith, zero, seven))), (λ eight. absurd (omega (arith, zero, eight)))) in
    done laws building held again stores limits safe suit word before now whole.outcome (sym whole.is ∙ zero) whole.put call low whole.due whole.stored
has_done laws building held again stores limits safe suit word false call before now status low w = tt
