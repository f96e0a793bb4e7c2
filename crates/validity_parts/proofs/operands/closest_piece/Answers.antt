use Rattle.std.proofs.Common.{◌≡◌, ◌<◌, ◌≤◌, ◌+◌, List, None, length, arith, sym, ap, ◌∙◌, get_or, map}
use Rattle.std.proofs.lemmas.List.{length-map}
use Rattle.image.specs.declared.raw.RawProcess.{RawProcess}
use Rattle.image.specs.Raw.{process_of, routine_of}
use Rattle.valid_image.specs.Pieces.{Piece, closest, piece_of_process, piece_of_routine}
use Rattle.faulty_part.specs.declared.part.FaultyPart.TheVariants as part
use Rattle.validity_parts.proofs.Owners.{closest_append, ended, passed, process_there}
use Rattle.validity_parts.proofs.operands.closest_piece.Goals as goal

pub loop-number-init : goal.loop-number-init
loop-number-init c =
    let raw = c.args.raw.now in
    let a = c.args.address in
    let ps : List Piece = map piece_of_routine (map routine_of raw.routines) in
    let qs : List Piece = map piece_of_process (map process_of raw.processes) in
    let long : length raw.routines + 0 ≡ length ps + 0 = omega (arith, length-map (map routine_of raw.routines) piece_of_routine, length-map raw.routines routine_of) in
    record {
      owner = closest ps 0 a None;
      is = c.closest_routine-best.ensures;
      left = ap (λ n. closest qs n a (closest ps 0 a None)) long ∙ sym (closest_append ps qs 0 a None);
    }

pub loop-number-preserved : goal.loop-number-preserved
loop-number-preserved c =
    let raw = c.args.raw.now in
    let xs = raw.processes in
    let i = c.loop-number.number in
    let x = c.index-processes-number.result in
    let low : i < length xs = omega (arith, c.loop-number-test.true, ap length c.as_slice-processes.ensures) in
    passed (length raw.routines) process_of piece_of_process xs i (length raw.routines) c.args.address x (part.Process i) c.loop-number.best c.closer-best.result _ low (c.index-processes-number.is ∙ ap (λ ys. get_or ys i x) c.as_slice-processes.ensures)
    (process_there (length raw.routines) i) _ (ap (λ (y : RawProcess). y.start) (sym c.index-processes-number.is)) c.closer-best.ensures c.loop-number.invariant

pub returns : goal.returns
returns c =
    let raw = c.args.raw.now in
    let end : length raw.processes ≤ c.loop-number.number = omega (arith, c.loop-number.auto.number-end, ap length c.as_slice-processes.ensures) in
    ended (length raw.routines) process_of piece_of_process raw.processes c.loop-number.number _ c.args.address c.loop-number.best _ end c.loop-number.invariant
