-- The rows of segments that are made have no more segments than the code has instructions.
use Rattle.std.proofs.Common.{◌≡◌, ◌≤◌, ◌<◌, ◌-◌, ◌^◌, min, ℕ, zero, suc, List, [], ◌∷◌, ◌++◌, map, length, sym, ap, subst, arith}
use Rattle.std.proofs.lemmas.List.{length-append, map-append}
use Rattle.machine_semantics.specs.Trees as tree
use Rattle.machine_isa.specs.declared.instr.Instr.{Instr}
use Rattle.image_format.specs.TreeBytes.{AllRowsFit, InnerRowsFit, RowsFit}
use Rattle.image_format.specs.View.{tree_of, view, views}
use Rattle.image_format.specs.declared.seg.Seg.{Seg}
use Rattle.image_format.proofs.PutRows.{row-views}
use Rattle.codegen_spec.specs.Made.{Out, closed, joined, line_of, push}
use Rattle.codegen_law.proofs.Joins.{view_line}

-- segments side by side
rows_both : (xs ys : List tree.Seg) → AllRowsFit (tree_of xs) → AllRowsFit (tree_of ys) → AllRowsFit (tree_of (xs ++ ys))
rows_both [] ys a b = b
rows_both (x ∷ xs) ys a b = (a.0, rows_both xs ys a.1 b)

rows_append : (xs ys : List Seg) → AllRowsFit (views xs) → AllRowsFit (views ys) → AllRowsFit (views (xs ++ ys))
rows_append xs ys a b = subst (λ zs. AllRowsFit (tree_of zs)) (sym (map-append view xs ys)) (rows_both (map view xs) (map view ys) a b)

-- the segments that are closed are no more than the instructions before the open line, and those
-- of each tree in them no more than there are instructions
pub record IsCovered (o : Out) : Type 0 where
  pub few : length o.segs ≤ o.from
  pub in_code : o.from ≤ length o.code
  pub rows : length o.code < 2 ^ 32 → AllRowsFit (views o.segs)

line_rows : (n : ℕ) → AllRowsFit (views (line_of n))
line_rows zero = tt
line_rows (suc n) = (subst InnerRowsFit (sym (view_line (min (suc n) 4294967295))) tt, tt)

line_few : (n : ℕ) → length (line_of n) ≤ n
line_few zero = omega arith
line_few (suc n) = omega arith

closed_few : (o : Out) → IsCovered o → length (closed o) ≤ length o.code
closed_few o is = omega (arith, length-append o.segs (line_of (length o.code - o.from)), line_few (length o.code - o.from), is.few, is.in_code)

closed_rows : (o : Out) → IsCovered o → length o.code < 2 ^ 32 → AllRowsFit (views (closed o))
closed_rows o is small = rows_append o.segs (line_of (length o.code - o.from)) (is.rows small) (line_rows (length o.code - o.from))

-- the rows of a part fit their counts
pub closed_fits : (o : Out) → IsCovered o → length o.code < 2 ^ 32 → RowsFit (views (closed o))
closed_fits o is small = (omega (arith, row-views (closed o), closed_few o is, small), closed_rows o is small)

-- a part with segments of its own begins
pub begins : (o : Out) → o.segs ≡ [] → o.from ≡ length o.code → IsCovered o
begins o empty here = record {
  few = omega (arith, ap (λ (ss : List Seg). length ss) empty);
  in_code = omega (arith, here);
  rows = λ small. subst (λ ss. AllRowsFit (views ss)) (sym empty) tt;
}

-- what is made keeps to it, and the code grows
pub record Counts (f : Out → Out) : Type 0 where
  pub grows : (o : Out) → length o.code ≤ length (f o).code
  pub keeps : (o : Out) → IsCovered o → IsCovered (f o)

pub none : Counts (λ o. o)
none = record { grows = λ o. omega arith; keeps = λ o is. is }

pub both : (f g : Out → Out) → Counts f → Counts g → Counts (λ o. g (f o))
both f g a b = record { grows = λ o. omega (arith, a.grows o, b.grows (f o)); keeps = λ o is. b.keeps (f o) (a.keeps o is) }

-- one plain instruction
pub one : (j : Out → Instr) → Counts (λ o. push o (j o))
one j = record {
  grows = λ o. omega (arith, length-append o.code (j o ∷ []));
  keeps = λ o is. record {
    few = is.few;
    in_code = omega (arith, length-append o.code (j o ∷ []), is.in_code);
    rows = λ small. is.rows (omega (arith, length-append o.code (j o ∷ []), small));
  };
}

-- a segment that is joined behind a part that is closed
pub segment : (f done : Out → Out) (k : Out → Seg) → Counts f → ((o : Out) → length (f o).code < length (done o).code)
    → ((o : Out) → length (done o).code < 2 ^ 32 → InnerRowsFit (view (k o))) → Counts (λ o. joined (done o) (closed (f o)) (k o))
segment f done k a longer fits = record {
  grows = λ o. omega (arith, a.grows o, longer o);
  keeps = λ o is.
      let before : IsCovered (f o) = a.keeps o is in
      record {
        few = omega (arith, length-append (closed (f o)) (k o ∷ []), closed_few (f o) before, longer o);
        in_code = omega arith;
        rows = λ small.
            let less : length (f o).code < 2 ^ 32 = omega (arith, longer o, small) in
            rows_append (closed (f o)) (k o ∷ []) (closed_rows (f o) before less) (fits o small, tt);
      };
}
