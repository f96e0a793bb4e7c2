use Rattle.std.proofs.Common.{◌≡◌, ◌∙◌, ap, sym, refl, length, Some, None, Bor}
use Rattle.std.specs.Prelude.{option_map, slice_get}
use Rattle.std.proofs.lemmas.Option.{slice_get_past, slice_get_read, slice_get-map}
use Rattle.syntax_tree.specs.declared.decl.Process.{Process}
use Rattle.syntax_tree.specs.Placed.{placed, placed_process, plain, plain_process}
use Rattle.source_semantics.specs.Names.{processes}
use Rattle.replay_state.specs.View.{config_of, job_of, jobs_of}
use Rattle.replay_state.specs.Texts.{after_of}
use Rattle.replay_state.proofs.Exceptions.{prepared_no_job, prepared_some}
use Rattle.replay_state.proofs.raising.prepare.Goals as goal

pub returns-in-None-get : goal.returns-in-None-get
returns-in-None-get c =
    let xs = c.deref-in-Some.result.now in
    let none : slice_get (jobs_of c.args.config.now.jobs.items) c.args.process ≡ None =
    ap (λ l. slice_get (jobs_of l) c.args.process) (sym c.deref-in-Some.ensures.value)
    ∙ (slice_get-map job_of xs c.args.process ∙ ap (option_map job_of) (slice_get_past xs c.args.process c.in-None-get.ensures.lookup.3)) in
    prepared_no_job (plain (placed c.args.text.now.declarations.now)) c.args.process c.args.number (config_of c.args.config.now) none

pub returns-in_ok-after-in-Some-get : goal.returns-in_ok-after-in-Some-get
returns-in_ok-after-in-Some-get c =
    let g = plain (placed c.args.text.now.declarations.now) in
    let k = c.args.process in
    let ps = c.deref.result.now in
    let xs = c.deref-in-Some.result.now in
    let got : slice_get ps k ≡ Some c.in-Some.its.now = slice_get_read ps (length ps) k c.in-Some.its.now refl c.in-Some.ensures.lookup.3.0 c.in-Some.ensures.lookup.1 in
    let text : slice_get (processes g) k ≡ Some (plain_process (placed_process c.in-Some.its.now.now)) =
    ap (λ l. slice_get l k) (sym c.requires)
    ∙ (slice_get-map (λ (p : Bor Process). plain_process (placed_process p.now)) c.args.text.now.processes.items k
    ∙ ap (option_map (λ (p : Bor Process). plain_process (placed_process p.now))) (ap (λ l. slice_get l k) (sym c.deref.ensures.value) ∙ got)) in
    let there : slice_get xs k ≡ Some c.in-Some-get.job.now = slice_get_read xs (length xs) k c.in-Some-get.job.now refl c.in-Some-get.ensures.lookup.3.0 c.in-Some-get.ensures.lookup.1 in
    let state : slice_get (jobs_of c.args.config.now.jobs.items) k ≡ Some (job_of c.in-Some-get.job.now) =
    ap (λ l. slice_get (jobs_of l) k) (sym c.deref-in-Some.ensures.value) ∙ (slice_get-map job_of xs k ∙ ap (option_map job_of) there) in
    prepared_some g k c.args.number (config_of c.args.config.now) (plain_process (placed_process c.in-Some.its.now.now)) (job_of c.in-Some-get.job.now) (after_of c.in_ok-after-in-Some-get.after) text state c.in_ok-after-in-Some-get.ensures
