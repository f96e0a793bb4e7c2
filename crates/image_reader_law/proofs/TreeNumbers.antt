-- The numbers of the faults of segments and of trees.
use Rattle.std.proofs.Common.{◌≡◌, inl, inr, ◌&&◌, ℕ, zero, suc, Bool, true, false, List, length, Err, refl, arith}
use Rattle.std.specs.Prelude.{nat_le}
use Rattle.std.proofs.lemmas.Bool.{leb-true, and_parts}
use Rattle.machine_semantics.specs.Trees.{Seg, Segs, Line, Fork, Rep, Call, Stay, Cons}
use Rattle.image_format.specs.declared.fault.ByteFault.{ByteFault}
use Rattle.image_format.specs.Format.{Format, ◌>>=◌, u8, u16, u32, both}
use Rattle.image_format.specs.TreeFormat.{in_image, line_count, turns_count, u16_below, tagged, seg_read, seg_format, segs_read, row_format, no_tree, too_deep, tree_format}
use Rattle.image_reader_law.specs.Faults as s
use Rattle.image_reader_law.specs.Faults.{tree}
use Rattle.image_reader_law.proofs.Failed.{Failed, failed, failed_only, rest_of}
use Rattle.image_reader_law.proofs.Told.{unknown}
use Rattle.image_reader_law.proofs.ImageFaultsTrees.{seen}
use Rattle.image_reader_law.proofs.Known as k
use Rattle.image_reader_law.proofs.Known.{Inner, Told, Known, is_number}

module _ (monitors : ℕ) (sub : Format Segs) (sub_told : Told sub) where
  behind : {A : Type 0} (f : Format A) (of : A → Seg) (rest : List ℕ) (e : ByteFault) → Told f → (f.read rest >>= seen of) ≡ Err e → Inner e
  behind f of rest e told h = told rest e (failed_only (f.read rest) (λ x. (of x.0, x.1)) e h)

  by_tag : (tag left : ℕ) (rest : List ℕ) (e : ByteFault) → (nat_le 1 tag && nat_le tag 7) ≡ true → tagged (in_image monitors) sub tag left rest ≡ Err e → Inner e
  by_tag zero left rest e is h = cc
  by_tag (suc zero) left rest e is h = behind line_count (λ n. Line n) rest e (k.u32_range 1 65535).inner h
  by_tag (suc (suc zero)) left rest e is h = behind (both sub (λ first. sub)) (λ x. Fork x.0 x.1) rest e (k.both_told sub (λ first. sub) sub_told (λ first. sub_told)) h
  by_tag (suc (suc (suc zero))) left rest e is h =
      behind (both turns_count (λ turns. sub)) (λ x. Rep x.0 x.1) rest e (k.both_told turns_count (λ turns. sub) (k.u32_range 1 1000000).inner (λ turns. sub_told)) h
  by_tag (suc (suc (suc (suc zero)))) left rest e is h = behind u16 (λ n. Call n) rest e k.half.inner h
  by_tag (suc (suc (suc (suc (suc zero))))) left rest e is h =
      behind (both (u16_below monitors) (λ monitor. sub)) (λ x. Stay x.0 x.1) rest e (k.both_told (u16_below monitors) (λ monitor. sub) (k.u16_less monitors).inner (λ monitor. sub_told)) h
  by_tag (suc (suc (suc (suc (suc (suc zero)))))) left rest e is h = cc
  by_tag (suc (suc (suc (suc (suc (suc (suc zero))))))) left rest e is h = cc
  by_tag (suc (suc (suc (suc (suc (suc (suc (suc n)))))))) left rest e is h =
      absurd (omega (arith, leb-true (suc (suc (suc (suc (suc (suc (suc (suc n)))))))) 7 (and_parts (nat_le 1 (suc (suc (suc (suc (suc (suc (suc (suc n))))))))) (nat_le (suc (suc (suc (suc (suc (suc (suc (suc n)))))))) 7) is).1))

  at_tag : (tag left : ℕ) (rest : List ℕ) (e : ByteFault) → tagged (in_image monitors) sub tag left rest ≡ Err e → Inner e
  at_tag tag left rest e h = by (nat_le 1 tag && nat_le tag 7) refl where
    by : (b : Bool) → (nat_le 1 tag && nat_le tag 7) ≡ b → Inner e
    by true is = by_tag tag left rest e is h
    by false is = let told = unknown monitors sub tag left rest is in is_number 6 left e (omega arith) (omega arith) (cc)

  pub segment_told : Told (seg_format (in_image monitors) sub)
  unfolding seg_read
  segment_told bytes e h = by (failed (u8.read bytes) (λ t. tagged (in_image monitors) sub t.0 (length bytes) t.1) e h) where
    by : Failed (u8.read bytes) (λ t. tagged (in_image monitors) sub t.0 (length bytes) t.1) e → Inner e
    by (inl first) = k.byte.inner bytes e first
    by (inr r) = at_tag r.x.0 (length bytes) r.x.1 e r.then_is

segments_told : (one : Format Seg) → Told one → (count : ℕ) (bytes : List ℕ) (e : ByteFault) → segs_read one count bytes ≡ Err e → Inner e
unfolding segs_read
segments_told one told zero bytes e h = cc
segments_told one told (suc n) bytes e h = by (segments_told one told n) (failed (one.read bytes) (rest_of one n) e h) where
  by : ((more : List ℕ) (d : ByteFault) → segs_read one n more ≡ Err d → Inner d) → Failed (one.read bytes) (rest_of one n) e → Inner e
  by more (inl first) = told bytes e first
  by more (inr r) = more r.x.1 e (failed_only (segs_read one n r.x.1) (λ rest. (Cons r.x.0 rest.0, rest.1)) e r.then_is)

row_told : (one : Format Seg) → Told one → Told (row_format one)
row_told one told bytes e h = by (failed (u32.read bytes) (λ count. segs_read one count.0 count.1) e h) where
  by : Failed (u32.read bytes) (λ count. segs_read one count.0 count.1) e → Inner e
  by (inl first) = k.whole.inner bytes e first
  by (inr r) = segments_told one told r.x.0 r.x.1 e r.then_is

deep_told : Told too_deep
deep_told bytes e h = by (failed (u32.read bytes) (λ count. no_tree (length bytes)) e h) where
  by : Failed (u32.read bytes) (λ count. no_tree (length bytes)) e → Inner e
  by (inl first) = k.whole.inner bytes e first
  by (inr r) = let same = r.then_is in is_number 4 (length bytes) e (omega arith) (omega arith) (cc)

tree_told : (monitors depth : ℕ) → Told (tree_format (in_image monitors) depth)
unfolding tree_format
tree_told monitors zero = deep_told
tree_told monitors (suc depth) = row_told (seg_format (in_image monitors) (tree_format (in_image monitors) depth)) (segment_told monitors (tree_format (in_image monitors) depth) (tree_told monitors depth))

pub a_tree : (monitors depth : ℕ) → Known tree (tree_format (in_image monitors) depth)
a_tree monitors depth = record { made = s.a_tree monitors depth; inner = tree_told monitors depth }
