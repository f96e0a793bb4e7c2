-- What is due of `replay` of such a log.
use Rattle.std.proofs.Common.{refl, subst}
use Rattle.image.specs.declared.names.ImageNames.{ImageNames}
use Rattle.script.specs.Scripts.{IsScript}
use Rattle.command_due.specs.CommandsDue.{log}
use Rattle.command_due.specs.ReplayDue.{replay_judged, is_run}
use Rattle.replay_law.specs.ReplayLaws.{LogsOfAcceptedProgramsAreRuns, LogsOfGoAreRuns, LogsOfRunsAreLogs, run_events}

pub logs_of_accepted_programs_are_runs : LogsOfRunsAreLogs → LogsOfAcceptedProgramsAreRuns
logs_of_accepted_programs_are_runs logs over program script log_file g n lines end held =
    let accepted = held.accepted in
    replay_judged g lines end (log n lines end)
    (record {
      text = accepted.text;
      is_held = accepted.is_held;
      written = accepted.written;
      other = held.text;
      script_held = held.script_held;
      script_written = subst (λ (names : ImageNames). IsScript names held.text lines end) accepted.built.names held.script_written;
    })
    held.log_held
    (is_run (run_events n lines end) (logs over program g n held.text lines end accepted held.script_written held.short)
    (accepted.faithful.runs held.text lines end held.script_written) refl)

pub logs_of_go_are_runs : LogsOfAcceptedProgramsAreRuns → LogsOfGoAreRuns
logs_of_go_are_runs runs over program script log_file put image done held short =
    runs over program script log_file done.tree done.built done.lines done.end (record {
      accepted = done.accepted;
      text = done.text;
      script_held = done.script_held;
      script_written = done.script_written;
      log_held = held;
      short = short;
    })
