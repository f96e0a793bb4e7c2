-- `go` on what `make` has stored.
use Rattle.std.proofs.Common.{◌∙◌, ℕ, Some, length, refl, ap}
use Rattle.sched_table.specs.Report.{report_text}
use Rattle.load.specs.Program.{program_text}
use Rattle.load.specs.Script.{script_text}
use Rattle.load.specs.Summary.{mark_of, summary}
use Rattle.command_due.specs.Source.{report_of}
use Rattle.command_due.specs.CommandsDue.{IsGoDue, log, report_timely, stored, went}
use Rattle.command_due_law.specs.DueOnce.{GoIsOne}
use Rattle.command.specs.Due.{lines_in}
use Rattle.calls_law.specs.Due.{gone}
use Rattle.calls_law.specs.Loads.{LoadsGoAsTold, MakeThenGoIsAsTold}

pub loads_go : GoIsOne → LoadsGoAsTold
loads_go one key count line s =
    let program = program_text key count in
    let script = script_text key count in
    let put = log s.made s.lines s.end in
    let report = report_of report_text s.made in
    let due : IsGoDue 0 (Some program) (Some script) (gone report put (stored s.made)) = went program script s.made s.lines s.end refl s.timely refl s.script refl in
    record {
      report = report;
      log = put;
      image = stored s.made;
      goes = record { checks = report_timely s.made s.timely refl; goes = due };
      only = record { is = due; only = λ other also. one 0 (Some program) (Some script) other (gone report put (stored s.made)) also due };
      told = s.is ∙ ap (λ (n : ℕ). summary count n (lines_in put) (length put) (mark_of put)) s.code;
    }

pub make_then_go : LoadsGoAsTold → MakeThenGoIsAsTold
make_then_go law load before now made apart =
    let told = made.line refl in
    let held = made.stored refl in
    record {
      program = program_text load.key load.count;
      script = script_text load.key load.count;
      program_held = held.program apart;
      script_held = held.script;
      line = told.0;
      put = told.2;
      goes = law load.key load.count told.0 told.1;
    }
