use Rattle.std.proofs.Common.{◌≡◌, List, Ok, codes, sym, ◌∙◌, subst}
use Rattle.std.proofs.lemmas.Result.{err_from_is_err_and}
use Rattle.image.specs.declared.names.ConditionName.{ConditionName}
use Rattle.text_fields.specs.Front.{Fails, Front, Read, begins, front}
use Rattle.asm_lines.specs.Names.{condition_read}
use Rattle.assembler.specs.Sections.{conditions_read, no_more}
use Rattle.assembler.proofs.RowLoop.{ends, fails, full, goes_on, overfull}
use Rattle.assembler.proofs.names.conditions_at.Goals as goal

pub returns-then-not-begins_with : goal.returns-then-not-begins_with
returns-then-not-begins_with c =
    let one : List ConditionName → Front → Read ConditionName = condition_read c.args.taken.now c.args.monitors in
    ends (begins (codes "condition ")) one one c.loop.conditions 256 c.loop.counter (front c.loop.place) (conditions_read c.args.taken.now c.args.monitors (front c.args.at)) c.loop-test.true
    (sym c.begins_with.ensures ∙ c.if-not-begins_with.true) c.loop.invariant

pub returns-in_err-condition : goal.returns-in_err-condition
returns-in_err-condition c =
    let one : List ConditionName → Front → Read ConditionName = condition_read c.args.taken.now c.args.monitors in
    let p = err_from_is_err_and c.from_residual.result c.from_residual.ensures.1 in
    let e = c.in_err-condition.field-0.0 in
    let failed : Fails e (one c.loop.conditions (front c.loop.place)) = subst (λ cs. Fails e (one cs (front c.loop.place))) c.as_slice-earlier.ensures c.in_err-condition.ensures in
    rw (p.1, p.2) (fails (begins (codes "condition ")) one one e c.loop.conditions 256 c.loop.counter (front c.loop.place) (conditions_read c.args.taken.now c.args.monitors (front c.args.at)) c.loop-test.true
    (sym c.begins_with.ensures ∙ c.if-not-begins_with.false) failed c.loop.invariant)

pub loop-preserved : goal.loop-preserved
loop-preserved c =
    let one : List ConditionName → Front → Read ConditionName = condition_read c.args.taken.now c.args.monitors in
    let x = c.in_ok-condition.condition in
    let read : one c.loop.conditions (front c.loop.place) ≡ Ok (x, front c.in_ok-condition.after) =
    subst (λ cs. one cs (front c.loop.place) ≡ Ok (x, front c.in_ok-condition.after)) c.as_slice-earlier.ensures c.in_ok-condition.ensures in
    rw c.in_ok-push.ensures.ok (goes_on (begins (codes "condition ")) one one c.loop.conditions 256 c.loop.counter (front c.loop.place) x (front c.in_ok-condition.after) (conditions_read c.args.taken.now c.args.monitors (front c.args.at)) c.loop-test.true
    (sym c.begins_with.ensures ∙ c.if-not-begins_with.false) read c.loop.invariant)

pub returns-in_err-place : goal.returns-in_err-place
returns-in_err-place c =
    let one : List ConditionName → Front → Read ConditionName = condition_read c.args.taken.now c.args.monitors in
    let p = err_from_is_err_and c.from_residual-in_err-place.result c.from_residual-in_err-place.ensures.1 in
    let e = c.in_err-place.field-0.0 in
    let failed : Fails e (no_more (begins (codes "condition ")) (one c.loop.conditions) (front c.loop.place)) =
    subst (λ cs. Fails e (no_more (begins (codes "condition ")) (one cs) (front c.loop.place))) c.as_slice.ensures c.in_err-place.ensures in
    rw (p.1, p.2) (overfull (begins (codes "condition ")) one one e c.loop.conditions 256 c.loop.counter (front c.loop.place) (conditions_read c.args.taken.now c.args.monitors (front c.args.at)) c.loop-test.false failed c.loop.invariant)

pub returns : goal.returns
returns c =
    let one : List ConditionName → Front → Read ConditionName = condition_read c.args.taken.now c.args.monitors in
    let t = front c.in_ok-place.place in
    let none : no_more (begins (codes "condition ")) (one c.loop.conditions) (front c.loop.place) ≡ Ok t =
    subst (λ cs. no_more (begins (codes "condition ")) (one cs) (front c.loop.place) ≡ Ok t) c.as_slice.ensures c.in_ok-place.ensures in
    full (begins (codes "condition ")) one one c.loop.conditions 256 c.loop.counter (front c.loop.place) t (conditions_read c.args.taken.now c.args.monitors (front c.args.at)) c.loop-test.false none c.loop.invariant
