-- The bytes of a segment are those that it is read from, since those of a tree of one segment are.
use Rattle.std.proofs.Common.{◌≡◌, ◌<◌, ◌++◌, ℕ, suc, true, List, [], length, take, drop, Ok, Err, refl, sym, ap, ◌∙◌, arith}
use Rattle.std.proofs.lemmas.List.{append-nil}
use Rattle.std.proofs.lemmas.Bool.{and_parts}
use Rattle.machine_semantics.specs.Trees.{Seg, Segs, Nil, Cons}
use Rattle.image_format.specs.Numbers as written
use Rattle.image_format.specs.TreeBytes.{seg_bytes}
use Rattle.image_format.specs.Format.{Format, Read, ◌>>=◌, fault}
use Rattle.image_format.specs.TreeFormat.{in_image, seg_format, segs_read, tree_format}
use Rattle.image_format.specs.FormatLaw.{AreBytes, IsSound}
use Rattle.image_format.proofs.Booleans.{together}
use Rattle.image_format.proofs.Sound.{came}
use Rattle.image_format.proofs.SoundFields.{u32_sound}
use Rattle.image_format.proofs.Alike.{same_ok}
use Rattle.image_format.proofs.Trees.{tree_sound}
use Rattle.image_reader_law.proofs.Failed.{failed_only}

-- its first segment, or the given one
first_of : Seg → Segs → Seg
first_of s Nil = s
first_of s (Cons head rest) = head

abbrev alone : Read Seg → Read Segs
alone r = r >>= λ s. Ok (Cons s.0 Nil, s.1)

abbrev pair_of : Segs → List ℕ → Segs × List ℕ
pair_of tree rest = (tree, rest)

abbrev seg_of : Seg → List ℕ → Seg × List ℕ
seg_of s rest = (s, rest)

was_read : (r : Read Seg) (s : Seg) (rest : List ℕ) → alone r ≡ Ok (Cons s Nil, rest) → r ≡ Ok (s, rest)
unfolding first_of
was_read r s rest h =
    let c = came r (λ s. Ok (Cons s.0 Nil, s.1)) (Cons s Nil, rest) h in
    let same : pair_of (Cons c.x.0 Nil) c.x.1 ≡ pair_of (Cons s Nil) rest = same_ok (Cons c.x.0 Nil, c.x.1) (Cons s Nil, rest) c.then_is in
    c.was ∙ ap (λ (z : Segs × List ℕ). Ok (seg_of (first_of s z.0) z.1)) same

module _ (monitors depth : ℕ) where
  abbrev one : Format Seg
  one = seg_format (in_image monitors) (tree_format (in_image monitors) depth)

  -- a tree of one segment
  row_read : (bytes : List ℕ) → (tree_format (in_image monitors) (suc depth)).read (written.u32 1 ++ bytes) ≡ alone (one.read bytes)
  unfolding tree_format segs_read
  row_read bytes = ap (λ r. r >>= λ count. segs_read one count.0 count.1) (u32_sound.again 1 bytes refl)

  seg_back : (bytes : List ℕ) (z : Seg × List ℕ) → AreBytes bytes → one.read bytes ≡ Ok z → (bytes ≡ seg_bytes z.0 ++ z.1) × (one.is z.0 ≡ true)
  unfolding tree_format
  seg_back bytes z are h =
      let back = (tree_sound monitors (suc depth)).back (written.u32 1 ++ bytes) (Cons z.0 Nil, z.1) (omega arith, (omega arith, (omega arith, (omega arith, are)))) (row_read bytes ∙ ap alone h) in
      (ap (λ (all : List ℕ). drop 4 all) back.0 ∙ ap (λ (front : List ℕ). front ++ z.1) (append-nil (seg_bytes z.0)), (and_parts (one.is z.0) true back.1).0)

  seg_again : (s : Seg) (rest : List ℕ) → one.is s ≡ true → one.read (seg_bytes s ++ rest) ≡ Ok (s, rest)
  unfolding tree_format
  seg_again s rest h =
      let again = (tree_sound monitors (suc depth)).again (Cons s Nil) rest (together (one.is s) true h refl) in
      ap (λ (front : List ℕ). one.read (front ++ rest)) (sym (append-nil (seg_bytes s)))
      ∙ was_read (one.read ((seg_bytes s ++ []) ++ rest)) s rest (sym (row_read ((seg_bytes s ++ []) ++ rest)) ∙ again)

  seg_cut : (s : Seg) (k : ℕ) → one.is s ≡ true → k < length (seg_bytes s) → one.read (take k (seg_bytes s)) ≡ Err (fault 2 0)
  unfolding tree_format
  seg_cut s k h low =
      let long : length (seg_bytes s ++ []) ≡ length (seg_bytes s) = ap (λ (all : List ℕ). length all) (append-nil (seg_bytes s)) in
      let cut = (tree_sound monitors (suc depth)).cut (Cons s Nil) (suc (suc (suc (suc k)))) (together (one.is s) true h refl) (omega (arith, low, long)) in
      ap (λ (all : List ℕ). one.read (take k all)) (sym (append-nil (seg_bytes s)))
      ∙ failed_only (one.read (take k (seg_bytes s ++ []))) (λ s. (Cons s.0 Nil, s.1)) (fault 2 0) (sym (row_read (take k (seg_bytes s ++ []))) ∙ cut)

  pub segment_sound : IsSound one
  segment_sound = record { back = seg_back; again = seg_again; cut = seg_cut }
