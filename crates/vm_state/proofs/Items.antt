-- Elements of lists, and a Vec that was lent as a slice.
use Rattle.std.proofs.Common.{◌≡◌, ◌≤◌, ◌<◌, ◌++◌, ℕ, List, [], length, take, drop, arith, ap, ◌∙◌}
use Rattle.std.specs.Prelude.{ℤ}
use Rattle.std.specs.Vec.{with_items}
use Rattle.std.specs.Global.{Vec}
use Rattle.std.proofs.Math.ListN.{drop_of_length-le}
use Rattle.std.proofs.Math.Seq.{take-length}
use Rattle.std.proofs.lemmas.List.{append-nil}
use Rattle.std.proofs.lemmas.Option.{slice_get-get_or, slice_get_within}

pub items_are : (v : Vec ℤ) (ws : List ℤ) → length ws ≡ length v.items → (with_items v ws).items ≡ ws
items_are v ws same =
    let none : drop (length ws) v.items ≡ [] = drop_of_length-le v.items (omega (arith, same)) in
    let whole : v.len ≡ length ws = omega (arith, v.ok.0, same) in
    ap (λ (r : List ℤ). take v.len (ws ++ r)) none ∙ ap (λ (r : List ℤ). take v.len r) (append-nil ws) ∙ ap (λ (n : ℕ). take n ws) whole ∙ take-length ws
