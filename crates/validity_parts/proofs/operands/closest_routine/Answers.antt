use Rattle.std.proofs.Common.{◌<◌, ◌≤◌, length, arith, sym, ap, ◌∙◌, get_or}
use Rattle.image.specs.declared.raw.RawRoutine.{RawRoutine}
use Rattle.image.specs.Raw.{routine_of}
use Rattle.valid_image.specs.Pieces.{piece_of_routine}
use Rattle.faulty_part.specs.declared.part.FaultyPart.TheVariants as part
use Rattle.validity_parts.proofs.Owners.{ended, passed, routine_there}
use Rattle.validity_parts.proofs.operands.closest_routine.Goals as goal

pub loop-number-preserved : goal.loop-number-preserved
loop-number-preserved c =
    let xs = c.args.raw.now.routines in
    let i = c.loop-number.number in
    let x = c.index-routines-number.result in
    let low : i < length xs = omega (arith, c.loop-number-test.true, ap length c.as_slice-routines.ensures) in
    passed (length xs) routine_of piece_of_routine xs i 0 c.args.address x (part.Routine i) c.loop-number.best c.closer-best.result _ low (c.index-routines-number.is ∙ ap (λ ys. get_or ys i x) c.as_slice-routines.ensures) (routine_there (length xs) i low) _ (ap (λ (y : RawRoutine). y.start) (sym c.index-routines-number.is)) c.closer-best.ensures c.loop-number.invariant

pub returns : goal.returns
returns c =
    let xs = c.args.raw.now.routines in
    let end : length xs ≤ c.loop-number.number = omega (arith, c.loop-number.auto.number-end, ap length c.as_slice-routines.ensures) in
    ended (length xs) routine_of piece_of_routine xs c.loop-number.number _ c.args.address c.loop-number.best _ end c.loop-number.invariant
