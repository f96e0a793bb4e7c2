use Rattle.std.proofs.Common.{◌≡◌, ◌∙◌, ap, map}
use Rattle.std.specs.Prelude.{filter_map}
use Rattle.syntax_tree.specs.Placed.{placed, placed_decl, plain, plain_decl}
use Rattle.source_semantics.specs.Names.{monitor_in}
use Rattle.source_semantics.specs.Config.{free_hold, idle_job}
use Rattle.replay_state.specs.View.{holds_of, jobs_of}
use Rattle.replay_state.specs.Queues.{queues_of}
use Rattle.replay.specs.Parts.{monitor_queues, seen_processes}
use Rattle.replay.proofs.Fitting.{config_is}
use Rattle.replay.proofs.configuration.first_config.Goals as goal

pub returns : goal.returns
returns c =
    let tree = c.args.text.now.declarations.now in
    let g = plain (placed tree) in
    let decls : c.as_slice-decls.result.now ≡ tree.decls = c.as_slice-decls.ensures ∙ ap (λ t. t.decls) c.program.ensures in
    config_is g (jobs_of c.in_ok-jobs.jobs.items) (holds_of c.in_ok-holds.holds.items) (queues_of c.in_ok-queues.queues.items)
    (c.in_ok-jobs.ensures ∙ (ap (λ ps. map (idle_job g) (seen_processes ps)) c.as_slice.ensures.value ∙ ap (λ ps. map (idle_job g) ps) c.requires))
    (c.in_ok-holds.ensures ∙ ap (λ ds. map (free_hold g) (filter_map monitor_in (map plain_decl (map placed_decl ds)))) decls)
    (c.in_ok-queues.ensures ∙ ap (λ ds. monitor_queues (filter_map monitor_in (map plain_decl (map placed_decl ds)))) decls)
