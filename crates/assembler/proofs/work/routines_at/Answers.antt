use Rattle.std.proofs.Common.{List, codes, map, sym, ◌∙◌}
use Rattle.std.proofs.lemmas.Result.{err_from_is_err_and}
use Rattle.std.proofs.lemmas.List.{map_push}
use Rattle.machine_semantics.specs.Image.{Routine}
use Rattle.image.specs.Raw.{routine_of}
use Rattle.text_fields.specs.Front.{Front, Read, begins, front}
use Rattle.asm_lines.specs.Routines.{routine_line_read, routine_read}
use Rattle.assembler.specs.Sections.{routines_read}
use Rattle.assembler.proofs.RowLoop.{ends, fails, full, goes_on, overfull}
use Rattle.assembler.proofs.work.routines_at.Goals as goal

pub returns-then-not-begins_with : goal.returns-then-not-begins_with
returns-then-not-begins_with c =
    let one : List Routine → Front → Read Routine = λ earlier. routine_read c.args.owners c.args.monitors in
    ends (begins (codes "routine ")) one (λ earlier. routine_line_read c.args.owners c.args.monitors) (map routine_of c.loop.routines) 512 c.loop.counter (front c.loop.place)
    (routines_read c.args.owners c.args.monitors (front c.args.at)) c.loop-test.true (sym c.begins_with.ensures ∙ c.if-not-begins_with.true) c.loop.invariant

pub returns-in_err-routine : goal.returns-in_err-routine
returns-in_err-routine c =
    let one : List Routine → Front → Read Routine = λ earlier. routine_read c.args.owners c.args.monitors in
    let p = err_from_is_err_and c.from_residual.result c.from_residual.ensures.1 in
    rw (p.1, p.2) (fails (begins (codes "routine ")) one (λ earlier. routine_line_read c.args.owners c.args.monitors) c.in_err-routine.field-0.0 (map routine_of c.loop.routines) 512 c.loop.counter (front c.loop.place)
    (routines_read c.args.owners c.args.monitors (front c.args.at)) c.loop-test.true (sym c.begins_with.ensures ∙ c.if-not-begins_with.false) c.in_err-routine.ensures c.loop.invariant)

pub loop-preserved : goal.loop-preserved
loop-preserved c =
    let one : List Routine → Front → Read Routine = λ earlier. routine_read c.args.owners c.args.monitors in
    let x = c.in_ok-routine.routine in
    rw (c.in_ok-push.ensures.ok, map_push routine_of c.loop.routines x) (goes_on (begins (codes "routine ")) one (λ earlier. routine_line_read c.args.owners c.args.monitors) (map routine_of c.loop.routines) 512 c.loop.counter (front c.loop.place)
    (routine_of x) (front c.in_ok-routine.after) (routines_read c.args.owners c.args.monitors (front c.args.at)) c.loop-test.true (sym c.begins_with.ensures ∙ c.if-not-begins_with.false) c.in_ok-routine.ensures c.loop.invariant)

pub returns-in_err-place : goal.returns-in_err-place
returns-in_err-place c =
    let one : List Routine → Front → Read Routine = λ earlier. routine_read c.args.owners c.args.monitors in
    let p = err_from_is_err_and c.from_residual-in_err-place.result c.from_residual-in_err-place.ensures.1 in
    rw (p.1, p.2) (overfull (begins (codes "routine ")) one (λ earlier. routine_line_read c.args.owners c.args.monitors) c.in_err-place.field-0.0 (map routine_of c.loop.routines) 512 c.loop.counter (front c.loop.place)
    (routines_read c.args.owners c.args.monitors (front c.args.at)) c.loop-test.false c.in_err-place.ensures c.loop.invariant)

pub returns : goal.returns
returns c =
    let one : List Routine → Front → Read Routine = λ earlier. routine_read c.args.owners c.args.monitors in
    full (begins (codes "routine ")) one (λ earlier. routine_line_read c.args.owners c.args.monitors) (map routine_of c.loop.routines) 512 c.loop.counter (front c.loop.place) (front c.in_ok-place.place)
    (routines_read c.args.owners c.args.monitors (front c.args.at)) c.loop-test.false c.in_ok-place.ensures c.loop.invariant
