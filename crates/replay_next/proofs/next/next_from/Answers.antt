use Rattle.std.specs.Prelude.{◌≡◌, ℤ, ◌∷◌, ◌++◌, List, None, Option, Some}
use Rattle.std.proofs.Common.{◌∙◌, ◌+◌, ◌⊎◌, ap, ap₂, drop, inl, inr, map, of_z, rules, sym, to_z, w64}
use Rattle.std.proofs.lemmas.Int.{to_z-of_z}
use Rattle.std.proofs.lemmas.List.{drop_all, take_rest}
use Rattle.syntax_tree.specs.Placed.{placed, placed_process, plain, plain_process}
use Rattle.source_semantics.specs.Next.{Next, among, given_item, next_from}
use Rattle.source_semantics.specs.Run as run
use Rattle.replay_state.specs.View.{action_of, calls_of, home_of, item_of, next_of, vars_of}
use Rattle.replay_state.specs.declared.call.Call.{Call}
use Rattle.replay_state.specs.declared.call.Item.{Item}
use Rattle.replay_calls.specs.Reach.{area_of, memory_of}
use Rattle.replay_next.specs.Remains.{came_of}
use Rattle.replay_next.specs.Ran.{ran_of}
use Rattle.replay_next.specs.declared.results.RunResult.{RunResult}
use Rattle.replay_next.specs.declared.results.RunResult.TheVariants as ran_is
use Rattle.replay_next.specs.declared.remains.ItemResult.{ItemResult}
use Rattle.replay_next.specs.declared.remains.ItemResult.TheVariants as came_is
use Rattle.replay_next.proofs.NextTurning.{call_as, call_turned, next_as}
use Rattle.replay_next.proofs.Oks.{ok_told}
use Rattle.replay_next.proofs.next.next_from.Goals.{in-Gives, in-Ran+in-Goes}
use Rattle.replay_next.proofs.next.next_from.Goals as goal

-- a call that is over gives no value
gone : (h : run.Home) (cs : List run.Call) (on : Option ℤ → run.Memory → Next) (r : RunResult) (m : run.Memory) → (r ≡ ran_is.Goes) ⊎ (r ≡ ran_is.Exits) → on None m ≡ among h cs on (ran_of r m)
gone h cs on r m (inl e) = sym (ap (λ (k : RunResult). among h cs on (ran_of k m)) e)
gone h cs on r m (inr e) = sym (ap (λ (k : RunResult). among h cs on (ran_of k m)) e)

pub loop-at-init : goal.loop-at-init
loop-at-init c =
    let g = plain (placed c.args.scope.now.declarations.now) in
    let p = plain_process (placed_process c.args.scope.now.process.now) in
    ap₂ (λ a b. next_from g p (calls_of c.args.calls.now) None a b) c.lent.ensures c.lent-2.ensures

pub loop-at-preserved : goal.loop-at-preserved
loop-at-preserved c =
    let g = plain (placed c.args.scope.now.declarations.now) in
    let p = plain_process (placed_process c.args.scope.now.process.now) in
    let l = c.loop-at in
    let xs = c.args.calls.now in
    let x = c.index-calls-at.result in
    let m = memory_of c.run_given.new.memory in
    let h = home_of x.home in
    let rest = calls_of (drop (l.at + 1) xs) in
    let then = λ (r : ItemResult). among h rest (λ w k. next_from g p rest w k.process k.monitor) (came_of r m) in
    let whole = next_from g p (calls_of xs) None (vars_of c.args.process.now) (vars_of c.args.monitor.now) in
    let given = ap (λ (ys : List Item). given_item l.given (map item_of ys)) c.as_slice-items.ensures.value in
    let told = call_turned g p c.args.depth xs l.at x l.given (vars_of c.in_ok-memory.field-0.items) (area_of l.memory.process) (area_of l.memory.monitor)
    (given_item l.given (map item_of c.as_slice-items.result.now)) (came_of c.in_ok-value.field-0 m) whole
    c.requires c.loop-at-test.true c.index-calls-at.is (c.in_ok-memory.ensures ∙ ap vars_of c.as_slice.ensures.value) given c.in_ok-value.ensures l.invariant in
    let on = λ (o : Option ℤ). next_from g p rest o m.process m.monitor in
    elim c.match-branch-3.branch [
      | in-Gives w ↦
          let same : to_z w64 (of_z w64 w.in-Gives.value) ≡ w.in-Gives.value = to_z-of_z w64 w.in-Gives.value (search rules) in
          ap on (w.given-is ∙ ap (λ (v : ℤ). Some v) same) ∙ (sym (ap then w.in-Gives.is) ∙ told)
      | in-Ran+in-Goes w ↦ ap on w.given-is ∙ (gone h rest (λ o k. next_from g p rest o k.process k.monitor) w.in-Ran.ran m w.in-Goes.is ∙ (sym (ap then w.in-Ran.is) ∙ told))
    ]

pub returns-in-Fails : goal.returns-in-Fails
returns-in-Fails c =
    let g = plain (placed c.args.scope.now.declarations.now) in
    let p = plain_process (placed_process c.args.scope.now.process.now) in
    let l = c.loop-at in
    let xs = c.args.calls.now in
    let x = c.index-calls-at.result in
    let m = memory_of c.run_given.new.memory in
    let h = home_of x.home in
    let rest = calls_of (drop (l.at + 1) xs) in
    let then = λ (r : ItemResult). among h rest (λ w k. next_from g p rest w k.process k.monitor) (came_of r m) in
    let whole = next_from g p (calls_of xs) None (vars_of c.args.process.now) (vars_of c.args.monitor.now) in
    let given = ap (λ (ys : List Item). given_item l.given (map item_of ys)) c.as_slice-items.ensures.value in
    let told = call_turned g p c.args.depth xs l.at x l.given (vars_of c.in_ok-memory.field-0.items) (area_of l.memory.process) (area_of l.memory.monitor)
    (given_item l.given (map item_of c.as_slice-items.result.now)) (came_of c.in_ok-value.field-0 m) whole
    c.requires c.loop-at-test.true c.index-calls-at.is (c.in_ok-memory.ensures ∙ ap vars_of c.as_slice.ensures.value) given c.in_ok-value.ensures l.invariant in
    let ends = λ (cs : List Call). next_as (run.raises c.in-Fails.number) (calls_of cs) m.process m.monitor in
    ok_told c.acted.result next_of _ _ (ap ends c.new-none.ensures.items ∙ (sym (ap then (c.in-Ran.is ∙ ap came_is.Ran c.in-Fails.is)) ∙ told)) c.acted.ensures

pub returns-in-Stops : goal.returns-in-Stops
returns-in-Stops c =
    let g = plain (placed c.args.scope.now.declarations.now) in
    let p = plain_process (placed_process c.args.scope.now.process.now) in
    let l = c.loop-at in
    let xs = c.args.calls.now in
    let x = c.index-calls-at.result in
    let m = memory_of c.run_given.new.memory in
    let h = home_of x.home in
    let rest = calls_of (drop (l.at + 1) xs) in
    let then = λ (r : ItemResult). among h rest (λ w k. next_from g p rest w k.process k.monitor) (came_of r m) in
    let whole = next_from g p (calls_of xs) None (vars_of c.args.process.now) (vars_of c.args.monitor.now) in
    let given = ap (λ (ys : List Item). given_item l.given (map item_of ys)) c.as_slice-items.ensures.value in
    let told = call_turned g p c.args.depth xs l.at x l.given (vars_of c.in_ok-memory.field-0.items) (area_of l.memory.process) (area_of l.memory.monitor)
    (given_item l.given (map item_of c.as_slice-items.result.now)) (came_of c.in_ok-value.field-0 m) whole
    c.requires c.loop-at-test.true c.index-calls-at.is (c.in_ok-memory.ensures ∙ ap vars_of c.as_slice.ensures.value) given c.in_ok-value.ensures l.invariant in
    let st = c.in-Stops.stop in
    let around = λ (cs : List Call). next_as (action_of st.action) (calls_of st.inside.items ++ call_as h m.own (map item_of st.rest.items) ∷ calls_of cs) m.process m.monitor in
    ok_told c.stopped.result next_of _ _ (ap around (take_rest xs (l.at + 1)) ∙ (sym (ap then (c.in-Ran.is ∙ ap came_is.Ran c.in-Stops.is)) ∙ told)) c.stopped.ensures

pub returns : goal.returns
returns c =
    let g = plain (placed c.args.scope.now.declarations.now) in
    let p = plain_process (placed_process c.args.scope.now.process.now) in
    let l = c.loop-at in
    let xs = c.args.calls.now in
    let process = area_of l.memory.process in
    let monitor = area_of l.memory.monitor in
    let past = drop_all l.at xs c.loop-at-test.false in
    let ends = λ (cs : List Call). next_as run.ends (calls_of cs) process monitor in
    ok_told c.acted-2.result next_of _ _
    (ap ends c.new-none-2.ensures.items ∙ (sym (ap (λ (cs : List Call). next_from g p (calls_of cs) l.given process monitor) past) ∙ l.invariant)) c.acted-2.ensures
