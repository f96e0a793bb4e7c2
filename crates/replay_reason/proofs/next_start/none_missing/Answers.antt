use Rattle.std.proofs.Common.{◌≡◌, ◌≤◌, ◌∙◌, ap, sym, arith}
use Rattle.std.specs.Prelude.{IsTrue}
use Rattle.std.proofs.lemmas.List.{length-map}
use Rattle.replay_state.specs.View.{config_of, job_of}
use Rattle.script.specs.Meaning.{said}
use Rattle.replay_script.specs.Cursors.{script_in}
use Rattle.replay_reason.proofs.Finding.{clock_at_once, missing_alike, waits_at_once}
use Rattle.replay_reason.proofs.next_start.none_missing.Goals as goal

pub is_none_missing_before-requires : goal.is_none_missing_before-requires
is_none_missing_before-requires g c =
    let k = c.args.config.now in
    (c.requires.0, (c.requires.1.0, (sym (length-map k.jobs.items job_of) ∙ c.requires.1.1.0.jobs, (c.requires.1.1.1.0, (clock_at_once c.args.rules.now.table.timings.items _, waits_at_once (config_of k).jobs)))))

pub returns : goal.returns
returns g c =
    let s = c.args.script.now in
    missing_alike g.program (config_of c.args.config.now) (said c.up_to.result.now s.script.now.end) (script_in s) c.args.until (IsTrue c.is_none_missing_before.result)
    (λ u low high. c.up_to.ensures.due g.program (config_of c.args.config.now) u (omega (arith, low, c.requires.1.1.1.1.reached)) (omega (arith, high)))
    (c.is_none_missing_before.ensures s.script.now.end)
