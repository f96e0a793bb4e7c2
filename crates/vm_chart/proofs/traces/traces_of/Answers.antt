use Rattle.std.proofs.Common.{◌≡◌, [], ◌∷◌, ◌+◌, ◌++◌, List, length, arith, ap, subst, sym}
use Rattle.std.specs.Prelude.{All}
use Rattle.std.proofs.lemmas.List.{length-append}
use Rattle.std.proofs.lemmas.List.Elements.{All-push}
use Rattle.run_chart.specs.declared.trace.Trace.{Trace}
use Rattle.vm_chart.specs.Follows.{IsFresh}
use Rattle.vm_chart.proofs.traces.traces_of.Goals as goal

pub loop-alloc-preserved : goal.loop-alloc-preserved
loop-alloc-preserved c =
    let xs : List Trace = c.loop-alloc.traces.items in
    let made : c.push.new.self.items ≡ xs ++ c.new.result ∷ [] = c.in_ok-push.ensures.items in
    let one : IsFresh c.new.result = record { row = c.new.ensures.row; letter = c.new.ensures.letter; counts = c.new.ensures.counts } in
    let count : length (xs ++ c.new.result ∷ []) ≡ length xs + 1 = length-append xs (c.new.result ∷ []) in
    record {
      fresh = subst (λ (ts : List Trace). All IsFresh ts) (sym made) (All-push IsFresh xs c.new.result c.loop-alloc.invariant.fresh one);
      few = omega (arith, ap (λ (ts : List Trace). length ts) made, count, c.loop-alloc-test.true, c.len.ensures, c.loop-alloc.traces.ok.0);
    }
