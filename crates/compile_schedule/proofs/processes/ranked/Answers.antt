use Rattle.std.proofs.Common.{◌≡◌, List, length, ap, subst, sym, arith}
use Rattle.image.specs.declared.raw.RawProcess.{RawProcess}
use Rattle.compile_schedule.specs.Ranking.{HaveRanks}
use Rattle.compile_schedule.proofs.Filling.{one_ranked, all_ranked}
use Rattle.compile_schedule.proofs.processes.ranked.Goals as goal

pub loop-number-preserved : goal.loop-number-preserved
loop-number-preserved c =
    let all : length c.into_vec-processes.result.items ≡ length c.args.processes = ap (λ (xs : List RawProcess). length xs) c.into_vec-processes.ensures in
    let many : c.len-number-end.result ≡ length c.args.processes = omega (arith, all, c.len-number-end.ensures, c.into_vec-processes.result.ok.0) in
    one_ranked c.args.ranks.now c.args.processes c.loop-number.processes.items c.loop-number.number c.index_mut.result.now c.requires (omega (arith, many, c.loop-number-test.true)) c.index_mut.ensures.value
    c.loop-number.invariant

pub returns : goal.returns
returns c =
    let all : length c.into_vec-processes.result.items ≡ length c.args.processes = ap (λ (xs : List RawProcess). length xs) c.into_vec-processes.ensures in
    let many : c.len-number-end.result ≡ length c.args.processes = omega (arith, all, c.len-number-end.ensures, c.into_vec-processes.result.ok.0) in
    subst (λ (xs : List RawProcess). HaveRanks c.args.ranks.now c.args.processes xs) (sym c.from_vec.ensures)
    (all_ranked c.args.ranks.now c.args.processes c.loop-number.processes.items c.loop-number.number (omega (arith, many, c.loop-number-test.false)) c.loop-number.invariant)
