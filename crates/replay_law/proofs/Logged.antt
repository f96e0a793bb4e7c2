-- The events of a run of an accepted program can be told, and what is put of them is their log.
use Rattle.std.proofs.Common.{List, ap, sym, subst}
use Rattle.std.specs.Prelude.{All}
use Rattle.syntax_tree.specs.Placed.{plain}
use Rattle.base.specs.declared.event.Event.{Event}
use Rattle.machine_isa.specs.declared.instr.Instr.{Instr}
use Rattle.machine_isa.specs.Bytes.{HasWords}
use Rattle.image.specs.declared.names.ImageNames.{ImageNames}
use Rattle.event_log.specs.InRange.{AreIn}
use Rattle.event_log.specs.Line.{log_of}
use Rattle.event_log.specs.Logs.{ActFits, AreWordNames, IsTold}
use Rattle.vm_law.specs.Logged.{ValidRunsHaveLines}
use Rattle.built_image.specs.Named.{names_of}
use Rattle.built_valid_law.specs.Ready.{BuiltImagesAreReady, IsReady}
use Rattle.command_due.specs.Script.{run_of}
use Rattle.replay_law.specs.MadeWords.{MadeCodeHasWords}
use Rattle.replay_law.specs.RunWords.{ValidRunsFit}
use Rattle.replay_law.specs.Words.{NamesOfTextsAreWords}
use Rattle.replay_law.specs.ReplayLaws.{LogsOfRunsAreLogs, run_events}
use Rattle.replay_law.proofs.Scripted.{script_fits}

-- the names that can stand in lines, and are words, can tell events whose numbers fit
all_told : (names : ImageNames) (es : List Event) → AreWordNames names → All (AreIn names) es → All (λ event. ActFits event.act) es → All (IsTold names) es
all_told names es words lines fit k d low =
    let one = lines k d low in
    record { words = words; tick = one.tick; process = one.process; act = one.act; fits = fit k d low }

pub logs_of_runs_are_logs : BuiltImagesAreReady → ValidRunsHaveLines → MadeCodeHasWords → ValidRunsFit → NamesOfTextsAreWords → LogsOfRunsAreLogs
logs_of_runs_are_logs built_ready have_lines made_words runs_fit names_words over program g n text lines end accepted script short =
    let ready : IsReady n = built_ready accepted.text g over n accepted.written accepted.built in
    let has : All HasWords n.image.code = subst (λ (code : List Instr). All HasWords code) (sym accepted.built.shaped.code.code) (made_words (plain g)) in
    let fit : All (λ event. ActFits event.act) (run_events n lines end) =
    runs_fit n.image (run_of lines end) ready.limits accepted.faithful.valid has (script_fits n.names text lines end script) in
    let lined : All (AreIn n.names) (run_events n lines end) = have_lines n.names n.image (run_of lines end) ready.limits accepted.faithful.valid ready.names script.form in
    let words : AreWordNames (names_of (plain g)) = names_words accepted.text g accepted.written.program.tree in
    record {
      short = short;
      told = all_told (names_of (plain g)) (run_events n lines end) words (subst (λ (names : ImageNames). All (AreIn names) (run_events n lines end)) accepted.built.names lined) fit;
      whole = ap (λ (names : ImageNames). log_of names (run_events n lines end)) accepted.built.names;
    }
