use Rattle.std.proofs.Common.{◌≡◌, sym, ◌∙◌}
use Rattle.std.proofs.lemmas.Result.{err_from_is_err_and}
use Rattle.text_fields.specs.Front.{front}
use Rattle.asm_lines.specs.Processes.{more_read}
use Rattle.asm_lines.proofs.MoreLoop.{ends, fails, goes_on, runs_out}
use Rattle.asm_lines.proofs.process.more_numbers.Goals as goal

pub returns-then-begins_with : goal.returns-then-begins_with
returns-then-begins_with c =
    ends c.loop.numbers c.args.most c.loop.counter c.loop.last (front c.loop.place) (more_read c.args.most 0 (front c.args.at)) c.loop-test.true (sym c.begins_with.ensures ∙ c.if-begins_with.true) c.loop.invariant

pub returns-in_err-number : goal.returns-in_err-number
returns-in_err-number c =
    let p = err_from_is_err_and c.from_residual.result c.from_residual.ensures.1 in
    rw (p.1, p.2) (fails c.in_err-number.field-0.0 c.loop.numbers c.args.most c.loop.counter c.loop.last (front c.loop.place) (more_read c.args.most 0 (front c.args.at)) c.loop-test.true (sym c.begins_with.ensures ∙ c.if-begins_with.false) c.in_err-number.ensures c.loop.invariant)

pub loop-preserved : goal.loop-preserved
loop-preserved c =
    rw c.in_ok-push.ensures.ok (goes_on c.loop.numbers c.args.most c.loop.counter c.loop.last (front c.loop.place) c.in_ok-number.number (front c.in_ok-number.after) (more_read c.args.most 0 (front c.args.at)) c.loop-test.true
    (sym c.begins_with.ensures ∙ c.if-begins_with.false) c.in_ok-number.ensures c.loop.invariant)

pub returns : goal.returns
returns c = runs_out c.loop.numbers c.args.most c.loop.counter c.loop.last (front c.loop.place) (more_read c.args.most 0 (front c.args.at)) c.loop-test.false c.loop.invariant
