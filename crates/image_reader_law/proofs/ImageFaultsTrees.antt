-- A fault that reading tells of a segment or of a tree is one that the bytes have.
use Rattle.std.proofs.Common.{◌≡◌, inl, inr, ◌&&◌, ℕ, zero, suc, Bool, true, false, List, [], ◌∷◌, length, Ok, Err, Option, refl, sym, ap, ◌∙◌, subst, arith}
use Rattle.std.specs.Prelude.{nat_le, nat_lt}
use Rattle.std.proofs.lemmas.Bool.{lt-ltb, leb-true, and_parts}
use Rattle.machine_semantics.specs.Trees.{Seg, Segs, Line, Fork, Rep, Call, Stay}
use Rattle.image_format.specs.declared.fault.ByteFault.{ByteFault}
use Rattle.image_format.specs.Format.{Format, Read, ◌>>=◌, fault, u8, u16, u32, unless, checked, both}
use Rattle.image_format.specs.TreeFormat.{in_image, within, line_count, turns_count, u16_below, tagged, seg_read, seg_format, segs_read, row_format, no_tree, too_deep, tree_format}
use Rattle.image_format.specs.FormatLaw.{AreBytes}
use Rattle.image_format.proofs.SoundFields.{u8_sound}
use Rattle.image_reader_law.specs.Faults as s
use Rattle.image_reader_law.specs.Faults.{Sort, Thing, Form, IsMade, IsFault, Follows, tag_format, pair, natural, list, segment, tree}
use Rattle.image_reader_law.proofs.Failed.{Failed, failed, failed_only, stops, goes_on, second_of, list_fails}
use Rattle.image_reader_law.proofs.Heard.{Heard, at_fault, field_heard, read_begins, rule_heard, pair_heard, list_heard}
use Rattle.image_reader_law.proofs.Told.{tag_rule, segments, unknown}

-- ---- tags

abbrev made_tag : IsMade natural u8
made_tag = s.a_field s.of_one

abbrev pub seen : {A : Type 0} → (A → Seg) → A × List ℕ → Read Seg
seen of x = Ok (of x.0, x.1)

u16_heard : Heard natural u16
u16_heard = field_heard natural u16 2 s.of_two

u32_within_heard : (low high : ℕ) → Heard natural (checked u32 (within low high))
u32_within_heard low high = rule_heard natural u32 (within low high) (s.a_field s.of_four) (field_heard natural u32 4 s.of_four)

abbrev below : ℕ → ℕ → Option ℕ
below count n = unless (nat_lt n count) 4

u16_below_heard : (count : ℕ) → Heard natural (u16_below count)
u16_below_heard count = rule_heard natural u16 (below count) (s.a_field s.of_two) u16_heard

wrong_tag : (tag : ℕ) (rest : List ℕ) → AreBytes (tag ∷ rest) → (nat_le 1 tag && nat_le tag 7) ≡ false → IsFault natural tag_format (tag ∷ rest) 6 (length (tag ∷ rest))
wrong_tag tag rest are wrong = s.is_wrong tag_rule {rest = rest} {x = tag} (record { is_made = made_tag; are = refl; in_range = lt-ltb tag 256 are.0 }) (ap (λ b. unless b 6) wrong)

module _ (monitors depth : ℕ) (sub_heard : Heard tree (tree_format (in_image monitors) depth)) where
  abbrev sub : Format Segs
  sub = tree_format (in_image monitors) depth

  abbrev Told : List ℕ → ByteFault → Type 0
  Told bytes e = IsFault segment (seg_format (in_image monitors) sub) bytes e.number e.left

  -- in what follows the tag
  behind : (tag : ℕ) (a : Sort) (f : Form a) (of : Thing a → Seg) (rest : List ℕ) (e : ByteFault) → Follows monitors sub tag a f → Heard a f → AreBytes rest → (f.read rest >>= seen of) ≡ Err e → Told (tag ∷ rest) e
  behind tag a f of rest e follows heard are h = s.in_segment follows (heard rest are e (failed_only (f.read rest) (λ x. (of x.0, x.1)) e h))

  by_tag : (tag : ℕ) (rest : List ℕ) (e : ByteFault) → AreBytes rest → (nat_le 1 tag && nat_le tag 7) ≡ true → tagged (in_image monitors) sub tag (length (tag ∷ rest)) rest ≡ Err e → Told (tag ∷ rest) e
  by_tag zero rest e are is h = cc
  by_tag (suc zero) rest e are is h = behind 1 natural line_count (λ n. Line n) rest e s.a_line (u32_within_heard 1 65535) are h
  by_tag (suc (suc zero)) rest e are is h =
      behind 2 (pair tree tree) (both sub (λ first. sub)) (λ x. Fork x.0 x.1) rest e s.a_fork (pair_heard tree tree sub (λ first. sub) (s.a_tree monitors depth) sub_heard (λ first. sub_heard)) are h
  by_tag (suc (suc (suc zero))) rest e are is h =
      behind 3 (pair natural tree) (both turns_count (λ turns. sub)) (λ x. Rep x.0 x.1) rest e s.a_loop
      (pair_heard natural tree turns_count (λ turns. sub) (s.a_rule (within 1 1000000) (s.a_field s.of_four)) (u32_within_heard 1 1000000) (λ turns. sub_heard)) are h
  by_tag (suc (suc (suc (suc zero)))) rest e are is h = behind 4 natural u16 (λ n. Call n) rest e s.a_call u16_heard are h
  by_tag (suc (suc (suc (suc (suc zero))))) rest e are is h =
      behind 5 (pair natural tree) (both (u16_below monitors) (λ monitor. sub)) (λ x. Stay x.0 x.1) rest e s.a_stay
      (pair_heard natural tree (u16_below monitors) (λ monitor. sub) (s.a_rule (below monitors) (s.a_field s.of_two)) (u16_below_heard monitors) (λ monitor. sub_heard)) are h
  by_tag (suc (suc (suc (suc (suc (suc zero)))))) rest e are is h = cc
  by_tag (suc (suc (suc (suc (suc (suc (suc zero))))))) rest e are is h = cc
  by_tag (suc (suc (suc (suc (suc (suc (suc (suc n)))))))) rest e are is h = absurd (omega (arith, leb-true (suc (suc (suc (suc (suc (suc (suc (suc n)))))))) 7 (and_parts (nat_le 1 (suc (suc (suc (suc (suc (suc (suc (suc n))))))))) (nat_le (suc (suc (suc (suc (suc (suc (suc (suc n)))))))) 7) is).1))

  at_tag : (tag : ℕ) (rest : List ℕ) (e : ByteFault) → AreBytes (tag ∷ rest) → tagged (in_image monitors) sub tag (length (tag ∷ rest)) rest ≡ Err e → Told (tag ∷ rest) e
  at_tag tag rest e are h = by (nat_le 1 tag && nat_le tag 7) refl where
    by : (b : Bool) → (nat_le 1 tag && nat_le tag 7) ≡ b → Told (tag ∷ rest) e
    by true is = by_tag tag rest e are.1 is h
    by false is =
        let told = unknown monitors sub tag (length (tag ∷ rest)) rest is in
        at_fault segment (seg_format (in_image monitors) sub) (tag ∷ rest) (fault 6 (length (tag ∷ rest))) e (cc) (s.in_tag monitors sub (wrong_tag tag rest are is))

  pub segment_heard : Heard segment (seg_format (in_image monitors) sub)
  unfolding seg_read
  segment_heard bytes are e h = by (failed (u8.read bytes) (λ t. tagged (in_image monitors) sub t.0 (length bytes) t.1) e h) where
    by : Failed (u8.read bytes) (λ t. tagged (in_image monitors) sub t.0 (length bytes) t.1) e → Told bytes e
    by (inl first) = s.in_tag monitors sub (s.in_thing tag_rule (field_heard natural u8 1 s.of_one bytes are e first))
    by (inr second) =
        let back = u8_sound.back bytes second.x are second.was in
        subst (λ (all : List ℕ). Told all e) (sym back.0)
        (at_tag second.x.0 second.x.1 e (subst AreBytes back.0 are) (ap (λ (all : List ℕ). tagged (in_image monitors) sub second.x.0 (length all) second.x.1) (sym back.0) ∙ second.then_is))

-- ---- trees

module _ (monitors depth : ℕ) (sub_heard : Heard tree (tree_format (in_image monitors) depth)) where
  abbrev one : Format Seg
  one = seg_format (in_image monitors) (tree_format (in_image monitors) depth)

  as_list : (bytes : List ℕ) (e : ByteFault) → (row_format one).read bytes ≡ Err e → (both u32 (segments one)).read bytes ≡ Err e
  as_list bytes e h = by (failed (u32.read bytes) (λ count. segs_read one count.0 count.1) e h) where
    by : Failed (u32.read bytes) (λ count. segs_read one count.0 count.1) e → (both u32 (segments one)).read bytes ≡ Err e
    by (inl first) = stops (u32.read bytes) (second_of (segments one)) e first
    by (inr second) =
        goes_on (u32.read bytes) (second_of (segments one)) second.x e second.was
        (stops ((segments one second.x.0).read second.x.1) (λ y. Ok ((second.x.0, y.0), y.1)) e (list_fails one [] second.x.0 second.x.1 e second.then_is))

  row_heard : Heard tree (row_format one)
  row_heard bytes are e h =
      s.in_row one (pair_heard natural (list segment) u32 (segments one) (s.a_field s.of_four) (field_heard natural u32 4 s.of_four)
      (λ count. list_heard segment (λ earlier. one) (λ earlier. s.a_segment monitors depth) (λ earlier. segment_heard monitors depth sub_heard) [] count) bytes are e (as_list bytes e h))

deep_heard : Heard tree too_deep
deep_heard bytes are e h = by (failed (u32.read bytes) (λ count. no_tree (length bytes)) e h) where
  by : Failed (u32.read bytes) (λ count. no_tree (length bytes)) e → IsFault tree too_deep bytes e.number e.left
  by (inl first) = s.in_count (field_heard natural u32 4 s.of_four bytes are e first)
  by (inr second) =
      let same = second.then_is in
      at_fault tree too_deep bytes (fault 4 (length bytes)) e (cc)
      (s.is_deep (read_begins natural u32 (s.a_field s.of_four) bytes are second.x second.was))

pub tree_heard : (monitors depth : ℕ) → Heard tree (tree_format (in_image monitors) depth)
unfolding tree_format
tree_heard monitors zero = deep_heard
tree_heard monitors (suc depth) = row_heard monitors depth (tree_heard monitors depth)
