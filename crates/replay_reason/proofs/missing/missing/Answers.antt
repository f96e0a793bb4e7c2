use Rattle.std.proofs.Common.{◌≡◌, ◌+◌, ◌-◌, ℕ, suc, Bool, false, arith, subst}
use Rattle.replay_state.specs.View.{config_of}
use Rattle.replay_script.specs.Cursors.{script_in}
use Rattle.replay_accept.specs.Running.{program_of}
use Rattle.replay_reason_spec.specs.Events.{events_of}
use Rattle.replay_reason_spec.specs.Reasons.{most}
use Rattle.replay_reason.specs.Starting.{IsListed, Takes}
use Rattle.replay_reason.proofs.Starting.{listed_all, listed_last}
use Rattle.replay_reason.proofs.missing.missing.Goals as goal

pub returns-then-not-branch : goal.returns-then-not-branch
returns-then-not-branch c =
    let g = program_of c.args.rules.now in
    let s = script_in c.args.script.now in
    let first = config_of c.args.config.now in
    let now = config_of c.loop-turn.config in
    let new = config_of c.take_next.new.config in
    let before = events_of c.loop-turn.found.items in
    let after = events_of c.take_next.new.found.items in
    let left = most - (c.loop-turn._turn + 1) in
    let stops : c.in_ok-take_next.field-0 ≡ false = c.if-not-branch.true in
    let takes = subst (λ (goes : Bool). Takes g s c.args.until now goes new before after) stops c.in_ok-take_next.ensures.takes in
    let one : most - c.loop-turn._turn ≡ suc left = omega (arith, c.loop-turn-test.true) in
    listed_last g s c.args.until most left first now new before after takes
    (subst (λ (n : ℕ). IsListed g s c.args.until most first now n before) one c.loop-turn.invariant.listed)

pub returns : goal.returns
returns c =
    let g = program_of c.args.rules.now in
    let s = script_in c.args.script.now in
    let first = config_of c.args.config.now in
    let now = config_of c.loop-turn.config in
    let found = events_of c.loop-turn.found.items in
    let none : most - c.loop-turn._turn ≡ 0 = omega (arith, c.loop-turn-test.false) in
    listed_all g s c.args.until most first now found (subst (λ (n : ℕ). IsListed g s c.args.until most first now n found) none c.loop-turn.invariant.listed)
