-- A fault that the bytes have is the one that reading tells.
use Rattle.std.proofs.Common.{Bool, true, false, ◌≡◌, inl, inr, ◌&&◌, ◌≤◌, arith, ◌==◌, ◌++◌, ℕ, zero, suc, List, [], ◌∷◌, length, Ok, Err, Option, Some, refl, ap, ◌∙◌}
use Rattle.std.specs.Prelude.{nat_le}
use Rattle.std.proofs.lemmas.Bool.{le-ltb, ne_eqb}
use Rattle.machine_semantics.specs.Trees.{Seg, Segs, Line, Fork, Rep, Call, Stay}
use Rattle.image_format.specs.declared.fault.ByteFault.{ByteFault}
use Rattle.image_format.specs.Format.{Format, Read, ◌>>=◌, fault, u8, u32, unless, passed, checked, both, each, each_read}
use Rattle.image_format.specs.TreeFormat.{in_image, tagged, seg_read, segs_read, row_format, no_tree}
use Rattle.image_reader_law.specs.Faults as s
use Rattle.image_reader_law.specs.Faults.{Sort, Thing, Form, Begins, Follows, IsFault, tag_format, pair, natural, list, segment}
use Rattle.image_reader_law.proofs.Failed.{stops, goes_on, Failed, failed, failed_only, second_of, rule_of, list_of, row_fails}
use Rattle.image_reader_law.proofs.ImageFaultsFields.{short}
use Rattle.image_reader_law.proofs.Sound.{sound}

-- what begins the bytes is read
pub begins_read : (a : Sort) (f : Form a) (bytes : List ℕ) (x : Thing a) (rest : List ℕ) → Begins a f bytes x rest → f.read bytes ≡ Ok (x, rest)
begins_read a f bytes x rest b = ap f.read b.are ∙ (sound a f b.is_made).again x rest b.in_range

is_told : {A : Type 0} (w : Option ℕ) (number left : ℕ) (x : A × List ℕ) → w ≡ Some number → passed w left x ≡ Err (fault number left)
is_told w number left x h = ap (λ v. passed v left x) h

-- ---- segments

one_byte : (b : ℕ) (rest : List ℕ) → u8.read (b ∷ rest) ≡ Ok (b, rest)
one_byte b rest = rw (le-ltb (length (b ∷ rest)) 1 (omega arith)) refl

abbrev pub tag_rule : ℕ → Option ℕ
tag_rule tag = unless (nat_le 1 tag && nat_le tag 7) 6

other : (n k : ℕ) → k ≤ 7 → (suc (suc (suc (suc (suc (suc (suc (suc n))))))) == k) ≡ false
other n k low = ne_eqb (suc (suc (suc (suc (suc (suc (suc (suc n)))))))) k (λ same. omega (arith, low, same))

-- a number that is no tag is told
pub unknown : (monitors : ℕ) (sub : Format Segs) (tag left : ℕ) (bytes : List ℕ) → (nat_le 1 tag && nat_le tag 7) ≡ false → tagged (in_image monitors) sub tag left bytes ≡ Err (fault 6 left)
unknown monitors sub zero left bytes h = refl
unknown monitors sub (suc zero) left bytes h = cc
unknown monitors sub (suc (suc zero)) left bytes h = cc
unknown monitors sub (suc (suc (suc zero))) left bytes h = cc
unknown monitors sub (suc (suc (suc (suc zero)))) left bytes h = cc
unknown monitors sub (suc (suc (suc (suc (suc zero))))) left bytes h = cc
unknown monitors sub (suc (suc (suc (suc (suc (suc zero)))))) left bytes h = cc
unknown monitors sub (suc (suc (suc (suc (suc (suc (suc zero))))))) left bytes h = cc
unknown monitors sub (suc (suc (suc (suc (suc (suc (suc (suc n)))))))) left bytes h =
    rw (other n 1 (omega arith), other n 2 (omega arith), other n 3 (omega arith), other n 4 (omega arith), other n 5 (omega arith), other n 6 (omega arith), other n 7 (omega arith)) refl

no_tag : (monitors : ℕ) (sub : Format Segs) (left : ℕ) (x : ℕ × List ℕ) (e : ByteFault) → rule_of tag_rule left x ≡ Err e → tagged (in_image monitors) sub x.0 left x.1 ≡ Err e
no_tag monitors sub left x e h = by (nat_le 1 x.0 && nat_le x.0 7) refl h where
  by : (b : Bool) → (nat_le 1 x.0 && nat_le x.0 7) ≡ b → passed (unless b 6) left x ≡ Err e → tagged (in_image monitors) sub x.0 left x.1 ≡ Err e
  by true is told = cc
  by false is told = let same : fault 6 left ≡ e = cc in unknown monitors sub x.0 left x.1 is ∙ ap (λ (d : ByteFault). Err d) same

bad_tag : (monitors : ℕ) (sub : Format Segs) (bytes : List ℕ) (e : ByteFault) → tag_format.read bytes ≡ Err e → seg_read (in_image monitors) sub bytes ≡ Err e
unfolding seg_read
bad_tag monitors sub bytes e h = by (failed (u8.read bytes) (rule_of tag_rule (length bytes)) e h) where
  by : Failed (u8.read bytes) (rule_of tag_rule (length bytes)) e → seg_read (in_image monitors) sub bytes ≡ Err e
  by (inl first) = stops (u8.read bytes) (λ t. tagged (in_image monitors) sub t.0 (length bytes) t.1) e first
  by (inr second) = goes_on (u8.read bytes) (λ t. tagged (in_image monitors) sub t.0 (length bytes) t.1) second.x e second.was (no_tag monitors sub (length bytes) second.x e second.then_is)

-- what is wrong after a tag is told
after_tag : (monitors : ℕ) (sub : Format Segs) (tag left : ℕ) (a : Sort) (f : Form a) (bytes : List ℕ) (e : ByteFault) → Follows monitors sub tag a f → f.read bytes ≡ Err e → tagged (in_image monitors) sub tag left bytes ≡ Err e
after_tag monitors sub tag left a f bytes e s.a_line h = ap (λ (r : Read ℕ). r >>= λ n. Ok (Line n.0, n.1)) h
after_tag monitors sub tag left a f bytes e s.a_fork h = ap (λ (r : Read (Segs × Segs)). r >>= λ x. Ok (Fork x.0.0 x.0.1, x.1)) h
after_tag monitors sub tag left a f bytes e s.a_loop h = ap (λ (r : Read (ℕ × Segs)). r >>= λ x. Ok (Rep x.0.0 x.0.1, x.1)) h
after_tag monitors sub tag left a f bytes e s.a_call h = ap (λ (r : Read ℕ). r >>= λ n. Ok (Call n.0, n.1)) h
after_tag monitors sub tag left a f bytes e s.a_stay h = ap (λ (r : Read (ℕ × Segs)). r >>= λ x. Ok (Stay x.0.0 x.0.1, x.1)) h

-- ---- trees

abbrev pub segments : Format Seg → ℕ → Format (List Seg)
segments one count = each (λ earlier. one) [] count

bad_row : (one : Format Seg) (bytes : List ℕ) (e : ByteFault) → (both u32 (λ count. each (λ earlier. one) [] count)).read bytes ≡ Err e → (row_format one).read bytes ≡ Err e
bad_row one bytes e h = by (failed (u32.read bytes) (second_of (segments one)) e h) where
  by : Failed (u32.read bytes) (second_of (segments one)) e → (row_format one).read bytes ≡ Err e
  by (inl first) = stops (u32.read bytes) (λ count. segs_read one count.0 count.1) e first
  by (inr second) =
      goes_on (u32.read bytes) (λ count. segs_read one count.0 count.1) second.x e second.was
      (row_fails one [] second.x.0 second.x.1 e (failed_only (each_read (λ earlier. one) [] second.x.0 second.x.1) (λ y. ((second.x.0, y.0), y.1)) e second.then_is))

-- ---- any format

pub told : (a : Sort) (f : Form a) (bytes : List ℕ) (number left : ℕ) → IsFault a f bytes number left → f.read bytes ≡ Err (fault number left)
unfolding each_read seg_read segs_read
told a f bytes number left (s.ends {size = size} field low) = short a f size bytes field low
told a f bytes number left (s.in_first {a = b} {f = first} g h) = stops (first.read bytes) (second_of g) (fault number left) (told b first bytes number left h)
told a f bytes number left (s.in_second {a = b} {f = first} g {rest = rest} {x = x} begins h) =
    goes_on (first.read bytes) (second_of g) (x, rest) (fault number left) (begins_read b first bytes x rest begins)
    (stops ((g x).read rest) (λ y. Ok ((x, y.0), y.1)) (fault number left) (told _ (g x) rest number left h))
told a f bytes number left (s.in_thing {f = inner} wrong h) = stops (inner.read bytes) (rule_of wrong (length bytes)) (fault number left) (told a inner bytes number left h)
told a f bytes number left (s.is_wrong {f = inner} wrong {rest = rest} {x = x} begins is) =
    goes_on (inner.read bytes) (rule_of wrong (length bytes)) (x, rest) (fault number (length bytes)) (begins_read a inner bytes x rest begins)
    (is_told (wrong x) number (length bytes) (x, rest) is)
told a f bytes number left (s.in_view {a = b} {f = inner} to from h) = stops (inner.read bytes) (λ x. Ok (to x.0, x.1)) (fault number left) (told b inner bytes number left h)
told a f bytes number left (s.in_next {a = b} g earlier count h) =
    stops ((g earlier).read bytes) (list_of g earlier count) (fault number left) (told b (g earlier) bytes number left h)
told a f bytes number left (s.in_later {a = b} g earlier count {rest = rest} {x = x} begins h) =
    goes_on ((g earlier).read bytes) (list_of g earlier count) (x, rest) (fault number left) (begins_read b (g earlier) bytes x rest begins)
    (stops (each_read g (earlier ++ x ∷ []) count rest) (λ xs. Ok (x ∷ xs.0, xs.1)) (fault number left) (told (list b) (each g (earlier ++ x ∷ []) count) rest number left h))
told a f bytes number left (s.in_flag number' h) = stops ((checked u8 (λ n. unless (nat_le n 1) number')).read bytes) (λ x. Ok (x.0 == 1, x.1)) (fault number left) (told natural (checked u8 (λ n. unless (nat_le n 1) number')) bytes number left h)
told a f bytes number left (s.in_some {a = b} {f = inner} h) = stops (inner.read bytes) (λ x. Ok (Some x.0, x.1)) (fault number left) (told b inner bytes number left h)
told a f bytes number left (s.in_tag monitors sub h) = bad_tag monitors sub bytes (fault number left) (told natural tag_format bytes number left h)
told a f bytes number left (s.in_segment {monitors = monitors} {sub = sub} {tag = tag} {a = b} {f = inner} {bytes = rest} follows h) =
    goes_on (u8.read (tag ∷ rest)) (λ t. tagged (in_image monitors) sub t.0 (length (tag ∷ rest)) t.1) (tag, rest) (fault number left) (one_byte tag rest)
    (after_tag monitors sub tag (length (tag ∷ rest)) b inner rest (fault number left) follows (told b inner rest number left h))
told a f bytes number left (s.in_row one h) = bad_row one bytes (fault number left) (told (pair natural (list segment)) (both u32 (λ count. each (λ earlier. one) [] count)) bytes number left h)
told a f bytes number left (s.in_count h) = stops (u32.read bytes) (λ count. no_tree (length bytes)) (fault number left) (told natural u32 bytes number left h)
told a f bytes number left (s.is_deep {rest = rest} {count = count} begins) =
    goes_on (u32.read bytes) (λ count. no_tree (length bytes)) (count, rest) (fault 4 (length bytes)) (begins_read natural u32 bytes count rest begins) refl
told a f bytes number left (s.no_process count bytes') = refl
