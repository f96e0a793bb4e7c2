use Rattle.std.specs.Prelude.{ℤ}
use Rattle.std.proofs.Common.{◌≡◌, ◌∙◌, ap, sym, rules}
use Rattle.std.proofs.lemmas.Int.{to_z-of_z}
use Rattle.source_semantics.specs.Run as run
use Rattle.replay_calls.specs.Reach.{memory_of, site_of}
use Rattle.replay_next.specs.Driving.{callers_run, others_of, rest_of, running_run, then_items}
use Rattle.replay_next.specs.Remains.{stmts_of}
use Rattle.replay_next.specs.declared.remains.Step.{Step}
use Rattle.replay_next.proofs.driving.drive.Goals as goal

turned : (f : ℤ → run.Run) (a b : run.Run) (u v : ℤ) → a ≡ f u → u ≡ v → f v ≡ b → a ≡ b
turned f a b u v first same last = first ∙ (ap f same ∙ last)

pub returns-in_ok-next_turn-in-Turns-clause-run : goal.returns-in_ok-next_turn-in-Turns-clause-run
returns-in_ok-next_turn-in-Turns-clause-run c =
    let s = c.args.scope.now in
    let p = c.args.running.now in
    let m = memory_of c.args.memory.now in
    let site = site_of s p.home p.depth in
    let w = c.in-Turns in
    let ss = stmts_of w.body.now in
    let now = others_of p.kept c.args.memory.now in
    let turns = λ (v : ℤ). callers_run s p.callers.items now (then_items site (rest_of p.rest.items) (run.turns (λ k. run.run_all site k ss) w.name.now ss w.turns.left v m)) in
    let told = ap (callers_run s p.callers.items now) (c.in_ok-next_turn-in-Turns.ensures.run site m) in
    let is = ap (λ (x : Step). running_run s p x c.args.memory.now) w.is in
    turned turns _ _ _ w.turns.value told (search (rules, to_z-of_z)) (sym is)
