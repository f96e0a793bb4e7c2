use Rattle.std.proofs.Common.{◌≡◌, ◌∙◌, ap, arith, drop, subst, sym}
use Rattle.code_names.specs.Goals.{IsFirst, calls_at, earliest_of, reached_from}
use Rattle.code_names.proofs.Found.{found_first}
use Rattle.code_names.proofs.nearest.first_reached.Goals as goal

pub returns : goal.returns
returns c =
    let end : c.loop-index.index ≡ 0 = omega arith in
    let all = c.loop-index.invariant ∙ ap (λ n. reached_from c.args.row.now c.args.calls.now (drop n c.args.pieces.now)) end in
    subst (λ o. IsFirst (λ k. earliest_of c.args.row.now (calls_at c.args.calls.now k)) c.args.pieces.now o) (sym all) (found_first c.args.row.now c.args.calls.now c.args.pieces.now)
