use Rattle.std.proofs.Common.{◌≡◌, ◌∙◌, ap, sym, ◌-◌, suc, ◌++◌, arith}
use Rattle.std.specs.Prelude.{is_some}
use Rattle.std.proofs.lemmas.Result.{on_ok_weaker}
use Rattle.syntax_tree.specs.Placed.{placed, plain}
use Rattle.code_names.specs.Tasks.{after_tasks}
use Rattle.code_names.specs.Texts.{text_of, texts_of}
use Rattle.code_names.proofs.Tasks.{visits, one-visit, goes-on, comes-down}
use Rattle.code_names.proofs.Visiting.{visit-zero, visit-done}
use Rattle.code_names.proofs.order.visit.Goals as goal
use Rattle.code_names.proofs.order.visit.Goals.{then-depth-eq0-via-then-depth-eq0, then-depth-eq0-via-else-depth-eq0+then-is_some}

pub returns-then-depth-eq0-clause-visits : goal.returns-then-depth-eq0-clause-visits
returns-then-depth-eq0-clause-visits c =
    let g = plain (placed c.args.directory.now) in
    let done = texts_of c.args.done.now in
    let t = text_of c.args.text in
    ap (after_tasks g c.args.tasks.now.items) (elim c.then-depth-eq0.branch [
      | then-depth-eq0-via-then-depth-eq0 w ↦ visit-zero c.args.depth g done t w.if-depth-eq0.true
      | then-depth-eq0-via-else-depth-eq0+then-is_some w ↦
          (let deep : c.args.depth ≡ suc (c.args.depth - 1) = omega (arith, w.if-depth-eq0.false) in
          visit-done c.args.depth (c.args.depth - 1) g done t deep (ap is_some (sym w.index.ensures) ∙ sym w.is_some.ensures ∙ w.if-is_some.true))
    ])

pub returns-then-depth-eq0-clause-falls : goal.returns-then-depth-eq0-clause-falls
returns-then-depth-eq0-clause-falls c = let one = one-visit c.args.depth (plain (placed c.args.directory.now)) (text_of c.args.text) in omega (arith, one)

pub returns-clause-visits : goal.returns-clause-visits
returns-clause-visits c =
    let g = plain (placed c.args.directory.now) in
    let m = c.args.depth - 1 in
    let callees = c.as_slice.result.now in
    let deep : c.args.depth ≡ suc (c.args.depth - 1) = omega arith in
    let called = ap texts_of c.as_slice.ensures.value ∙ c.in_ok-callees.ensures in
    on_ok_weaker c.list_visits.result
    (λ listed. goes-on g c.args.depth m c.args.text callees c.args.tasks.now.items c.list_visits.new.tasks.items deep called
    (listed ∙ ap (λ l. l ++ visits m callees) c.in_ok-push.ensures.items)
    (texts_of c.args.done.now) (ap is_some (sym c.index.ensures) ∙ sym c.is_some.ensures ∙ c.if-is_some.false)) c.list_visits.ensures

pub returns-clause-falls : goal.returns-clause-falls
returns-clause-falls c =
    let g = plain (placed c.args.directory.now) in
    let m = c.args.depth - 1 in
    let callees = c.as_slice.result.now in
    let deep : c.args.depth ≡ suc (c.args.depth - 1) = omega arith in
    let called = ap texts_of c.as_slice.ensures.value ∙ c.in_ok-callees.ensures in
    on_ok_weaker c.list_visits.result
    (λ listed. comes-down g c.args.depth m c.args.text callees c.args.tasks.now.items c.list_visits.new.tasks.items deep called
    (listed ∙ ap (λ l. l ++ visits m callees) c.in_ok-push.ensures.items)) c.list_visits.ensures
