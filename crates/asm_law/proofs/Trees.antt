-- The line of a tree pays for its bytes.
use Rattle.std.proofs.Common.{◌≤◌, ◌*◌, length, arith}
use Rattle.std.proofs.lemmas.List.{length-append}
use Rattle.machine_semantics.specs.Trees.{Seg, Line, Fork, Rep, Call, Stay, Wait, Exit, Segs, Nil, Cons}
use Rattle.image_format.specs.TreeBytes.{seg_bytes, segs_bytes, tree_bytes}
use Rattle.asm_format.specs.TreeText.{seg_text, segs_text, tree_line}
use Rattle.asm_law.proofs.Words.{decimal_some}

mutual
  pub seg_pays : (s : Seg) → 10 * length (seg_bytes s) ≤ 9 * length (seg_text s)
  seg_pays (Line count) = simp length-append (omega (arith, decimal_some count))
  seg_pays (Fork first second) = let one = segs_pay first in let other = segs_pay second in simp length-append (omega (arith, one, other))
  seg_pays (Rep turns body) = let inner = segs_pay body in simp length-append (omega (arith, inner, decimal_some turns))
  seg_pays (Call routine) = simp length-append (omega (arith, decimal_some routine))
  seg_pays (Stay monitor body) = let inner = segs_pay body in simp length-append (omega (arith, inner, decimal_some monitor))
  seg_pays Wait = omega arith
  seg_pays Exit = omega arith

  pub segs_pay : (t : Segs) → 10 * length (segs_bytes t) ≤ 9 * length (segs_text t)
  segs_pay Nil = omega arith
  segs_pay (Cons head rest) =
      let one = seg_pays head in
      let others = segs_pay rest in
      omega (arith, one, others, length-append (seg_bytes head) (segs_bytes rest), length-append (seg_text head) (segs_text rest))

pub tree_pays : (t : Segs) → 10 * length (tree_bytes t) ≤ 9 * length (tree_line t)
tree_pays t = let inner = segs_pay t in simp length-append (omega (arith, inner))
