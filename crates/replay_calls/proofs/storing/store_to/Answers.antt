use Rattle.std.proofs.Common.{rules, ◌≡◌, ◌∙◌, ap, sym, subst, None, to_z, of_z, w64}
use Rattle.std.proofs.lemmas.Int.{to_z-of_z}
use Rattle.source_semantics.specs.Run as run
use Rattle.replay_state.specs.View.{home_of, target_of, vars_of}
use Rattle.replay_calls.specs.Reach.{area_of, memory_of}
use Rattle.replay_calls.specs.Stores.{IsStored, put_named, store_run}
use Rattle.replay_calls.proofs.Puts.{beside_over}
use Rattle.replay_calls.proofs.storing.store_to.Goals as goal

pub returns-in_ok-stored-in-Process : goal.returns-in_ok-stored-in-Process
returns-in_ok-stored-in-Process c =
    let v = c.args.value in
    let m = memory_of c.args.memory.now in
    let t = target_of c.args.target in
    let r = c.in_ok-stored-in-Process.stored in
    let own = vars_of c.store_in.new.slots.items in
    let new = area_of c.store_beside.new.area in
    let value_same : to_z w64 (of_z w64 v) ≡ v = to_z-of_z w64 v (search rules) in
    let none : put_named t.name t.index v m.own ≡ None = subst (λ w. put_named t.name t.index w m.own ≡ None) value_same c.in-Absent.ensures.0 in
    let told : IsStored (put_named t.name t.index v m.process) m.process r new = subst (λ w. IsStored (put_named t.name t.index w m.process) m.process r new) value_same c.in_ok-stored-in-Process.ensures in
    ap (λ b. store_run b (run.with_outer run.of_process (run.with_own m own) new)) c.is_accepted.ensures
    ∙ (beside_over run.of_process m t v r own new none c.in-Absent.ensures.1 told ∙ ap (λ h. run.store_to h m t v) (sym (ap home_of c.in-Process.is)))

pub returns-in_ok-stored-in-Monitor : goal.returns-in_ok-stored-in-Monitor
returns-in_ok-stored-in-Monitor c =
    let v = c.args.value in
    let m = memory_of c.args.memory.now in
    let t = target_of c.args.target in
    let r = c.in_ok-stored-in-Monitor.stored in
    let own = vars_of c.store_in.new.slots.items in
    let new = area_of c.store_beside-in-Monitor.new.area in
    let k = run.of_monitor c.in-Monitor.field-0 in
    let value_same : to_z w64 (of_z w64 v) ≡ v = to_z-of_z w64 v (search rules) in
    let none : put_named t.name t.index v m.own ≡ None = subst (λ w. put_named t.name t.index w m.own ≡ None) value_same c.in-Absent.ensures.0 in
    let told : IsStored (put_named t.name t.index v m.monitor) m.monitor r new = subst (λ w. IsStored (put_named t.name t.index w m.monitor) m.monitor r new) value_same c.in_ok-stored-in-Monitor.ensures in
    ap (λ b. store_run b (run.with_outer k (run.with_own m own) new)) c.is_accepted-in-Monitor.ensures
    ∙ (beside_over k m t v r own new none c.in-Absent.ensures.1 told ∙ ap (λ h. run.store_to h m t v) (sym (ap home_of c.in-Monitor.is)))
