use Rattle.std.proofs.Common.{List, ℕ, arith, ap, sym, subst, ◌∙◌}
use Rattle.command_answers.proofs.Coming.{put_comes_to}
use Rattle.command_answers.specs.Acts.{CanRunByRanks}
use Rattle.command_answers.specs.declared.status.Status.TheVariants as status
use Rattle.command_due.specs.CommandsDue.{told}
use Rattle.image.specs.Named.{NamedImage}
use Rattle.machine_semantics.specs.Image.{Script}
use Rattle.run_chart.specs.Chart.{chart_text}
use Rattle.vm_releases.specs.Begin.{script_of}
use Rattle.vm_watch.proofs.Running.{is_runnable, same_script}
use Rattle.command_images.proofs.Timely.{runs_are_timely}
use Rattle.command_images.proofs.charting.put_drawn.Goals as goal

pub plan_of-requires : goal.plan_of-requires
plan_of-requires c =
    let can : CanRunByRanks c.image-image.result.now c.args.script.now = subst (λ (n : NamedImage). CanRunByRanks n c.args.script.now) (sym c.image-image.ensures) c.requires in
    can.plan

pub chart-requires : goal.chart-requires
chart-requires c =
    let n = c.image-image.result.now in
    let script = c.args.script.now in
    let can : CanRunByRanks n script = subst (λ (x : NamedImage). CanRunByRanks x script) (sym c.image-image.ensures) c.requires in
    let end = c.requires.script.end in
    record {
      plan = c.in_ok-plan.ensures;
      runnable = is_runnable n script can;
      timely = runs_are_timely n script can;
      short = omega (arith, end);
    }

pub returns-clause-told : goal.returns-clause-told
returns-clause-told c =
    put_comes_to status.Done c.in_ok-text.text c.put.result c.put.ensures
    ∙ ap (λ (text : List ℕ). told 0 text)
    (c.in_ok-text.ensures
    ∙ (ap (λ (n : NamedImage). chart_text n (script_of c.args.script.now) c.args.first c.args.end) c.image-image.ensures
    ∙ ap (λ (run : Script). chart_text c.args.image.now run c.args.first c.args.end) (sym (same_script c.args.script.now))))
