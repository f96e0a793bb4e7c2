-- Making a part adds so many instructions, and these segments.
use Rattle.std.proofs.Common.{◌≡◌, ◌+◌, ◌-◌, ◌≤◌, ℕ, zero, suc, List, [], ◌∷◌, ◌++◌, map, length, slice_get, Option, Some, None, ℤ, refl, sym, ap, subst, ◌∙◌, arith}
use Rattle.std.proofs.lemmas.List.{length-set, length-append}
use Rattle.machine_semantics.specs.Trees as tree
use Rattle.machine_semantics.specs.Trees.{Segs, Line, Nil, Cons}
use Rattle.machine_isa.specs.declared.instr.Instr.{Instr}
use Rattle.code_spec.specs.Segments.{before, line}
use Rattle.image_format.specs.View.{view, tree_of}
use Rattle.image_format.specs.declared.seg.Seg.{Seg}
use Rattle.codegen_spec.specs.Made.{Out, push, closed, joined, aims, aim_one, aimed}
use Rattle.codegen_law.proofs.Trees.{over, tail, line_line}
use Rattle.codegen_law.proofs.Joins.{closed_tree, joined_tail}

-- So many instructions more, and segs before what follows, where nothing is too large: S says what must not be.
pub record Grows (S : Type 0) (out : Out → Out) (segs : Segs → Segs) (n : ℕ) : Type 0 where
  pub longer : (o : Out) → length (out o).code ≡ length o.code + n
  pub in_code : (o : Out) → o.from ≤ length o.code → (out o).from ≤ length (out o).code
  pub tail_is : S → (o : Out) → o.from ≤ length o.code → length (out o).code ≤ 4294967295 → (after : Segs) → tail (out o) after ≡ tail o (segs after)

pub none : {S : Type 0} → Grows S (λ o. o) (λ after. after) 0
none = record { longer = λ o. omega arith; in_code = λ o h. h; tail_is = λ z o h small after. refl }

-- one part after another
pub both : {S : Type 0} (f g : Out → Out) (s t : Segs → Segs) (m n : ℕ) → Grows S f s m → Grows S g t n → Grows S (λ o. g (f o)) (λ after. s (t after)) (m + n)
both f g s t m n a b = record {
  longer = λ o. let e : length (f o).code ≡ length o.code + m = a.longer o in let d : length (g (f o)).code ≡ length (f o).code + n = b.longer (f o) in omega arith;
  in_code = λ o h. b.in_code (f o) (a.in_code o h);
  tail_is = λ z o h small after.
      let d : length (g (f o)).code ≡ length (f o).code + n = b.longer (f o) in
      let less : length (f o).code ≤ 4294967295 = omega arith in
      b.tail_is z (f o) (a.in_code o h) small after ∙ a.tail_is z o h less (t after);
}

-- the same, as it is told of elsewhere
pub told_as : {S : Type 0} (f : Out → Out) (s t : Segs → Segs) (m n : ℕ) → ((after : Segs) → s after ≡ t after) → m ≡ n → Grows S f s m → Grows S f t n
told_as f s t m n same e a = record {
  longer = λ o. let d : length (f o).code ≡ length o.code + m = a.longer o in omega arith;
  in_code = a.in_code;
  tail_is = λ z o h small after. a.tail_is z o h small after ∙ ap (λ k. tail o k) (same after);
}

-- one plain instruction
pub one : {S : Type 0} (j : Out → Instr) → Grows S (λ o. push o (j o)) (λ after. line 1 after) 1
one j = record {
  longer = λ o. length-append o.code (j o ∷ []);
  in_code = λ o h. let e : length (o.code ++ j o ∷ []) ≡ length o.code + 1 = length-append o.code (j o ∷ []) in omega arith;
  tail_is = λ z o h small after.
      let l : length (o.code ++ j o ∷ []) ≡ length o.code + 1 = length-append o.code (j o ∷ []) in
      let e : length (o.code ++ j o ∷ []) - o.from ≡ length o.code - o.from + 1 = omega arith in
      ap (λ k. over (map view o.segs) (line k after)) e ∙ ap (λ k. over (map view o.segs) k) (sym (line_line (length o.code - o.from) 1 after));
}

-- a segment that is no line is joined behind a part that is closed
pub segment : {S : Type 0} (f done : Out → Out) (s : Segs → Segs) (k : Out → Seg) (t : tree.Seg) (m n : ℕ) → Grows S f s m
    → ((o : Out) → length (done o).code ≡ length (f o).code + n)
    → (S → (o : Out) → o.from ≤ length o.code → length (done o).code ≤ 4294967295 → view (k o) ≡ t)
    → ((i : ℕ) (after : Segs) → before (suc i) (Cons t after) ≡ Cons (Line (suc i)) (Cons t after))
    → Grows S (λ o. joined (done o) (closed (f o)) (k o)) (λ after. s (Cons t after)) (m + n)
segment f done s k t m n a long seen apart = record {
  longer = λ o. let e : length (f o).code ≡ length o.code + m = a.longer o in let d : length (done o).code ≡ length (f o).code + n = long o in omega arith;
  in_code = λ o h. omega arith;
  tail_is = λ z o h small after.
      let d : length (done o).code ≡ length (f o).code + n = long o in
      let less : length (f o).code ≤ 4294967295 = omega arith in
      let short : length (f o).code - (f o).from ≤ 4294967295 = omega arith in
      let is : view (k o) ≡ t = seen z o h small in
      joined_tail (done o) (f o) (k o) after short (λ i. subst (λ z. before (suc i) (Cons z after) ≡ Cons (Line (suc i)) (Cons z after)) (sym is) (apart i after))
      ∙ ap (λ x. tail (f o) (Cons x after)) is
      ∙ a.tail_is z o h less (Cons t after);
}

-- the tree of a part that begins where its line does
pub part_tree : {S : Type 0} (f : Out → Out) (s : Segs → Segs) (n : ℕ) → Grows S f s n → S → (o : Out) → o.segs ≡ [] → o.from ≡ length o.code → length (f o).code ≤ 4294967295 → tree_of (map view (closed (f o))) ≡ s Nil
part_tree f s n a z o empty here small =
    let h : o.from ≤ length o.code = omega arith in
    let short : length (f o).code - (f o).from ≤ 4294967295 = omega arith in
    let begins : length o.code - o.from ≡ 0 = omega arith in
    closed_tree (f o) short ∙ a.tail_is z o h small Nil
    ∙ ap (λ x. over (map view x) (line (length o.code - o.from) (s Nil))) empty ∙ ap (λ x. line x (s Nil)) begins

-- ---- a patch keeps the length

length_aim_one : (to : ℤ) (p : ℕ) (j : Option Instr) (code : List Instr) → length (aim_one to p j code) ≡ length code
length_aim_one to p None code = refl
length_aim_one to p (Some j) code = length-set code p (aimed to j)

pub length_aims : (to : ℤ) (p n : ℕ) (code : List Instr) → length (aims to p n code) ≡ length code
length_aims to p zero code = refl
length_aims to p (suc n) code = length_aims to (p + 1) n (aim_one to p (slice_get code p) code) ∙ length_aim_one to p (slice_get code p) code
