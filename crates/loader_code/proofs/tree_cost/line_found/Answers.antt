use Rattle.std.proofs.Common.{◌≡◌, ℕ, ◌+◌, ◌-◌, arith, ap, sym, ◌∙◌}
use Rattle.loader_code.specs.TreesTold.{found_of}
use Rattle.valid_image.specs.Found.{joined, line}
use Rattle.valid_image_law.specs.Held.{hold}
use Rattle.loader_code.proofs.Lines.{on}
use Rattle.loader_code.proofs.tree_cost.line_found.Goals as goal

pub loop-k-preserved : goal.loop-k-preserved
loop-k-preserved c =
    let so_far = c.loop-k.so_far in
    let next = c.in_ok-next.next in
    let new = c.then-so_far.result in
    let more = on c.args.code.now c.args.count c.loop-k._k so_far.next c.args.height (found_of so_far) (found_of next) (found_of new) _ c.loop-k-test.true c.loop-k.invariant.rest c.in_ok-next.ensures.value c.then-so_far.ensures.value in
    let at : so_far.next + 1 ≡ new.next = sym (c.then-so_far.ensures.next ∙ c.in_ok-next.ensures.ends.next) in
    let low : next.height ≡ new.height = ap (λ f. f.height) (sym c.then-so_far.ensures.value) in
    let put = λ (x y : ℕ). hold (joined (found_of new) (line c.args.code.now (c.args.count - (c.loop-k._k + 1)) x y)) in
    let was = c.loop-k.invariant.ends.next in
    let within = c.in_ok-next.ensures.ends.within in
    let height = c.in_ok-next.ensures.ends.height in
    record {
      rest = ap (λ x. put x new.height) (sym at) ∙ ap (λ y. put (so_far.next + 1) y) (sym low) ∙ more;
      ends = record { next = omega (arith, at, was); within = omega (arith, within, c.then-so_far.ensures.next); height = omega (arith, low, height, c.then-so_far.ensures.next); held = c.then-so_far.ensures.held };
    }
