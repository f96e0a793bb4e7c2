use Rattle.std.specs.Prelude.{ℤ, List}
use Rattle.std.proofs.Common.{◌≡◌, ◌∙◌, ap, sym, rules, to_z, of_z, w64}
use Rattle.std.proofs.lemmas.Int.{to_z-of_z}
use Rattle.source_semantics.specs.Run as run
use Rattle.replay_state.specs.View.{vars_of}
use Rattle.replay_state.specs.declared.call.Item.{Item}
use Rattle.replay_next.specs.Driving.{rest_of, then_items}
use Rattle.replay_next.specs.Remains.{stmts_of}
use Rattle.replay_next.specs.Weights.{items_weight, stmts_weight}
use Rattle.replay_next.proofs.Stack.{items_pushed}
use Rattle.replay_next.proofs.Stepping.{rest_pushed, turn_goes}
use Rattle.replay_next.proofs.Weighing.{turn_falls}
use Rattle.replay_next.proofs.items.next_turn.Goals as goal

pub returns-clause-run : goal.returns-clause-run
returns-clause-run c = λ s m.
    let ss = stmts_of c.args.body.now in
    let t = c.args.turns in
    let m0 = run.with_own m (vars_of c.args.own.now.items) in
    let m1 = run.with_own m (vars_of c.push_turn.new.own.items) in
    let same : to_z w64 (of_z w64 t.value) ≡ t.value = search (rules, to_z-of_z) in
    let into : run.with_turn c.args.name.now t.value m0 ≡ m1 = ap (λ (v : ℤ). run.with_turn c.args.name.now v m0) (sym same) ∙ c.in_ok-push_turn.ensures m in
    ap (λ (l : List Item). then_items s (rest_of l) (run.run_all s m1 ss)) c.in_ok-push.ensures.items
    ∙ (ap (λ l. then_items s l (run.run_all s m1 ss)) (rest_pushed c.args.rest.now.items _)
    ∙ turn_goes s (rest_of c.args.rest.now.items) c.args.name.now t.value _ t.left ss m0 m1 c.if-turns-eq0.false into (search (rules, to_z-of_z)))

pub returns-clause-falls : goal.returns-clause-falls
returns-clause-falls c = λ k.
    let weight = ap (items_weight k) c.in_ok-push.ensures.items ∙ items_pushed k c.args.rest.now.items _ in
    rw weight (turn_falls (items_weight k c.args.rest.now.items) c.args.turns.left (stmts_weight k (stmts_of c.args.body.now)) c.if-turns-eq0.false)
