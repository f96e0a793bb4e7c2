use Rattle.std.proofs.Common.{◌≡◌, List, length, ap, subst, sym, arith}
use Rattle.image.specs.declared.raw.RawProcess.{RawProcess}
use Rattle.compile_schedule.specs.Bounding.{AreBounded}
use Rattle.compile_schedule.proofs.Filling.{one_bounded, all_bounded}
use Rattle.compile_schedule.proofs.with_bounds_filled.bounded.Goals as goal

pub loop-number-preserved : goal.loop-number-preserved
loop-number-preserved c =
    let all : length c.into_vec-processes.result.items ≡ length c.args.processes = ap (λ (xs : List RawProcess). length xs) c.into_vec-processes.ensures in
    let many : c.len.result ≡ length c.args.processes = omega (arith, all, c.len.ensures, c.into_vec-processes.result.ok.0) in
    one_bounded c.args.bounds.now c.args.processes c.loop-number.processes.items c.loop-number.number c.unwrap_or-process.result c.index_mut-process.result.now
    (omega (arith, many, c.min-number-end.ensures, c.loop-number-test.true)) c.index_mut-process.ensures.value c.unwrap_or-process.ensures c.loop-number.invariant

pub returns : goal.returns
returns c =
    let all : length c.into_vec-processes.result.items ≡ length c.args.processes = ap (λ (xs : List RawProcess). length xs) c.into_vec-processes.ensures in
    let many : c.len.result ≡ length c.args.processes = omega (arith, all, c.len.ensures, c.into_vec-processes.result.ok.0) in
    subst (λ (xs : List RawProcess). AreBounded c.args.bounds.now c.args.processes xs) (sym c.from_vec.ensures)
    (all_bounded c.args.bounds.now c.args.processes c.loop-number.processes.items c.loop-number.number (omega (arith, many, c.min-number-end.ensures, c.loop-number-test.false)) c.loop-number.invariant)
