use Rattle.std.proofs.Common.{◌≡◌, List, length, ap, subst, sym, arith}
use Rattle.image.specs.declared.raw.RawMonitor.{RawMonitor}
use Rattle.compile_schedule.specs.Ranking.{HaveCeilings}
use Rattle.compile_schedule.proofs.Filling.{one_ceiled, all_ceiled}
use Rattle.compile_schedule.proofs.processes.ceiled.Goals as goal

pub loop-number-preserved : goal.loop-number-preserved
loop-number-preserved c =
    let all : length c.into_vec-monitors.result.items ≡ length c.args.monitors = ap (λ (xs : List RawMonitor). length xs) c.into_vec-monitors.ensures in
    let many : c.len-number-end.result ≡ length c.args.monitors = omega (arith, all, c.len-number-end.ensures, c.into_vec-monitors.result.ok.0) in
    one_ceiled c.args.ceilings.now c.args.monitors c.loop-number.monitors.items c.loop-number.number c.index_mut.result.now c.requires (omega (arith, many, c.loop-number-test.true)) c.index_mut.ensures.value
    c.loop-number.invariant

pub returns : goal.returns
returns c =
    let all : length c.into_vec-monitors.result.items ≡ length c.args.monitors = ap (λ (xs : List RawMonitor). length xs) c.into_vec-monitors.ensures in
    let many : c.len-number-end.result ≡ length c.args.monitors = omega (arith, all, c.len-number-end.ensures, c.into_vec-monitors.result.ok.0) in
    subst (λ (xs : List RawMonitor). HaveCeilings c.args.ceilings.now c.args.monitors xs) (sym c.from_vec.ensures)
    (all_ceiled c.args.ceilings.now c.args.monitors c.loop-number.monitors.items c.loop-number.number (omega (arith, many, c.loop-number-test.false)) c.loop-number.invariant)
