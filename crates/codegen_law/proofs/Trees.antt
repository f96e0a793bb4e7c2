-- Segments before a tree: a line before a line is one line.
use Rattle.std.proofs.Common.{◌≡◌, ◌+◌, ◌-◌, ℕ, zero, suc, List, [], ◌∷◌, map, length, refl, sym, ap, ◌∙◌, arith}
use Rattle.machine_semantics.specs.Trees as tree
use Rattle.machine_semantics.specs.Trees.{Segs, Line, Fork, Rep, Call, Stay, Wait, Exit, Nil, Cons}
use Rattle.code_spec.specs.Segments.{before, line}
use Rattle.image_format.specs.View.{view}
use Rattle.codegen_spec.specs.Made.{Out}

before_before : (a b : ℕ) (after : Segs) → before (suc a) (before (suc b) after) ≡ before (suc a + suc b) after
before_before a b Nil = refl
before_before a b (Cons (Line n) rest) = let e : suc a + (suc b + n) ≡ suc a + suc b + n = omega arith in ap (λ k. Cons (Line k) rest) e
before_before a b (Cons (Fork x y) rest) = refl
before_before a b (Cons (Rep n x) rest) = refl
before_before a b (Cons (Call r) rest) = refl
before_before a b (Cons (Stay m x) rest) = refl
before_before a b (Cons Wait rest) = refl
before_before a b (Cons Exit rest) = refl

-- a line before a line is one line
pub line_line : (a b : ℕ) (after : Segs) → line a (line b after) ≡ line (a + b) after
line_line zero b after = let e : b ≡ 0 + b = omega arith in ap (λ k. line k after) e
line_line (suc a) zero after = let e : suc a ≡ suc a + 0 = omega arith in ap (λ k. line k after) e
line_line (suc a) (suc b) after =
    let e : suc (a + suc b) ≡ suc a + suc b = omega arith in
    before_before a b after ∙ ap (λ k. before k after) (sym e) ∙ ap (λ k. line k after) e

-- the segments before a tree: those that are closed, and the open line
abbrev pub over : List tree.Seg → Segs → Segs
over [] after = after
over (s ∷ ss) after = Cons s (over ss after)

abbrev pub tail : Out → Segs → Segs
tail o after = over (map view o.segs) (line (length o.code - o.from) after)
