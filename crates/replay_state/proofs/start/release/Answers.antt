use Rattle.std.proofs.Common.{◌≡◌, ◌∙◌, ◌∷◌, [], ap, sym, refl, length, false, List, Some, Bor}
use Rattle.std.specs.Prelude.{option_map, slice_get}
use Rattle.std.proofs.lemmas.Option.{slice_get_read, slice_get-map}
use Rattle.syntax_tree.specs.declared.decl.Process.{Process}
use Rattle.syntax_tree.specs.Placed.{placed, placed_process, placed_stmts, plain, plain_process, plain_stmts}
use Rattle.source_semantics.specs.Config.{Config, Job, active, changed, with_jobs}
use Rattle.source_semantics.specs.Names.{processes}
use Rattle.source_semantics.specs.Run.{Call}
use Rattle.source_semantics.specs.Source.{call_of}
use Rattle.replay_state.specs.View.{config_of, jobs_of}
use Rattle.replay_state.proofs.Starting.{begun}
use Rattle.replay_state.proofs.start.release.Goals as goal

pub returns-in_ok-calls-in-Some-clause-ok : goal.returns-in_ok-calls-in-Some-clause-ok
returns-in_ok-calls-in-Some-clause-ok c =
    let g = plain (placed c.args.text.now.declarations.now) in
    let k = c.args.process in
    let t = c.args.tick in
    let ps = c.deref.result.now in
    let its = c.in-Some.its.now.now in
    let before = config_of c.args.config.now in
    let js = jobs_of c.set_job.new.jobs.items in
    let got : slice_get ps k ≡ Some c.in-Some.its.now = slice_get_read ps (length ps) k c.in-Some.its.now refl c.in-Some.ensures.lookup.3.0 c.in-Some.ensures.lookup.1 in
    let text : slice_get (processes g) k ≡ Some (plain_process (placed_process its)) =
    ap (λ l. slice_get l k) (sym c.requires)
    ∙ (slice_get-map (λ (p : Bor Process). plain_process (placed_process p.now)) c.args.text.now.processes.items k
    ∙ ap (option_map (λ (p : Bor Process). plain_process (placed_process p.now))) (ap (λ l. slice_get l k) (sym c.deref.ensures.value) ∙ got)) in
    let calls = c.in_ok-calls-in-Some.ensures ∙ ap (λ ss. call_of (plain_stmts (placed_stmts ss)) ∷ []) c.as_slice.ensures in
    ap (λ (d : Config). with_jobs d js) c.reach-in-Some.ensures
    ∙ begun g before t k (plain_process (placed_process its)) js text
    (c.set_job.ensures
    ∙ (ap (λ (cs : List Call). changed (λ (j : Job). record { vars = j.vars; doing = active t; calls = cs; handling = false }) k (config_of c.reach-in-Some.new.config).jobs) calls
    ∙ ap (λ (d : Config). changed (λ (j : Job). record { vars = j.vars; doing = active t; calls = call_of (plain_process (placed_process its)).body ∷ []; handling = false }) k d.jobs) c.reach-in-Some.ensures))
