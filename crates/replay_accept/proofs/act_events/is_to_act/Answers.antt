use Rattle.std.proofs.Common.{◌≡◌, ◌∙◌, ℕ, Some, ap, refl, sym, subst}
use Rattle.source_semantics.specs.Source.{before, is_empty, ready_from}
use Rattle.replay_state.specs.View.{config_of}
use Rattle.replay_accept.specs.Judged.{IsReady}
use Rattle.replay_accept.specs.Running.{IsFirstOf, program_of}
use Rattle.replay_accept.proofs.Judging.{ready_within, to_act}
use Rattle.replay_accept.proofs.act_events.is_to_act.Goals as goal

pub is_first-requires : goal.is_first-requires
is_first-requires c =
    (c.requires.rules.ranks, (c.requires.fits, ready_within (config_of c.args.config.now) c.from-process.result (c.is_ready.ensures.0 c.if-is_ready.true)))

pub returns-then-is_kept : goal.returns-then-is_kept
returns-then-is_kept c =
    let g = program_of c.args.rules.now in
    let k = config_of c.args.config.now in
    let e = c.args.event.now in
    let is : c.args.first ≡ Some e.proc = c.is_kept.ensures c.if-is_kept.true ∙ ap (λ (p : ℕ). Some p) c.from-process.ensures in
    let known : IsFirstOf g k (Some e.proc) = subst (IsFirstOf g k) is c.requires.first in
    (λ h. record { nobody_acted = sym c.has_acted.ensures ∙ c.if-has_acted.false; ready = known.0; first = known.1 }, λ t. refl)

pub returns-then-is_ready : goal.returns-then-is_ready
returns-then-is_ready c =
    let g = program_of c.args.rules.now in
    let k = config_of c.args.config.now in
    let e = c.args.event.now in
    let ready : IsReady k e.proc = subst (IsReady k) c.from-process.ensures (c.is_ready.ensures.0 c.if-is_ready.true) in
    to_act g k e c.is_first.result (sym c.has_acted.ensures ∙ c.if-has_acted.false) ready
    (c.is_first.ensures ∙ ap (λ (p : ℕ). is_empty (before g k p (ready_from 0 k.jobs))) c.from-process.ensures)
