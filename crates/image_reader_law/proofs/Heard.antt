-- A fault that reading tells is one that the bytes have.
use Rattle.std.proofs.Common.{◌≡◌, inl, inr, ◌<◌, ◌==◌, ◌++◌, ℕ, zero, suc, Bool, true, false, List, [], ◌∷◌, length, take, drop, Ok, Err, Option, Some, None, refl, subst}
use Rattle.std.specs.Prelude.{nat_le, nat_lt, slice_index, if◌then◌else◌}
use Rattle.std.specs.Int.{w16, w32, cast_signed, from_be_bytes}
use Rattle.std.proofs.lemmas.Bool.{ltb-true}
use Rattle.image_format.specs.declared.fault.ByteFault.{ByteFault}
use Rattle.image_format.specs.Format.{Read, fault, field_at, u8, unless, passed, checked, both, via, each, each_read}
use Rattle.image_reader.specs.Grammar.{flag_format, some_format}
use Rattle.image_format.specs.FormatLaw.{AreBytes}
use Rattle.image_format.proofs.Sound.{bytes_after}
use Rattle.image_reader_law.specs.Faults as s
use Rattle.image_reader_law.specs.Faults.{Sort, Thing, Form, IsField, IsMade, Begins, IsFault, tag_format, pair, natural, list, truth, optional}
use Rattle.image_reader_law.proofs.Failed.{Failed, failed, failed_only, second_of, rule_of, list_of}
use Rattle.image_reader_law.proofs.Sound.{sound}

abbrev pub Heard : (a : Sort) → Form a → Type 0
Heard a f = (bytes : List ℕ) → AreBytes bytes → (e : ByteFault) → f.read bytes ≡ Err e → IsFault a f bytes e.number e.left

-- the fault is that one
pub at_fault : (a : Sort) (f : Form a) (bytes : List ℕ) (d e : ByteFault) → d ≡ e → IsFault a f bytes d.number d.left → IsFault a f bytes e.number e.left
at_fault a f bytes d e same h = subst (λ (d : ByteFault). IsFault a f bytes d.number d.left) same h

-- what is read begins the bytes
pub read_begins : (a : Sort) (f : Form a) → IsMade a f → (bytes : List ℕ) → AreBytes bytes → (x : Thing a × List ℕ) → f.read bytes ≡ Ok x → Begins a f bytes x.0 x.1
read_begins a f made bytes are x is = let back = (sound a f made).back bytes x are is in record { is_made = made; are = back.0; in_range = back.1 }

pub are_left : (a : Sort) (f : Form a) (bytes : List ℕ) (x : Thing a) (rest : List ℕ) → AreBytes bytes → Begins a f bytes x rest → AreBytes rest
are_left a f bytes x rest are begins = bytes_after (f.write x) rest (subst AreBytes begins.are are)

-- ---- fields

abbrev pub field_of : {A : Type 0} → (is_short : Bool) → (size : ℕ) → (List ℕ → A) → List ℕ → Read A
field_of is_short size value bytes = if is_short then Err (fault 2 0) else Ok (value (take size bytes), drop size bytes)

ended : {A : Type 0} (size : ℕ) (value : List ℕ → A) (bytes : List ℕ) (e : ByteFault) → field_at size value bytes ≡ Err e → (length bytes < size) × (fault 2 0 ≡ e)
ended size value bytes e h = by (nat_lt (length bytes) size) refl h where
  by : (b : Bool) → nat_lt (length bytes) size ≡ b → field_of b size value bytes ≡ Err e → (length bytes < size) × (fault 2 0 ≡ e)
  by true low is = (ltb-true (length bytes) size low, cc)
  by false low is = cc

pub short : (a : Sort) (f : Form a) (size : ℕ) → IsField a f size → (bytes : List ℕ) (e : ByteFault) → f.read bytes ≡ Err e → (length bytes < size) × (fault 2 0 ≡ e)
short a f size s.of_one bytes e h = ended 1 (λ b. slice_index b 0) bytes e h
short a f size s.of_two bytes e h = ended 2 (from_be_bytes w16) bytes e h
short a f size s.of_four bytes e h = ended 4 (from_be_bytes w32) bytes e h
short a f size s.of_word bytes e h = ended 4 (λ b. cast_signed w32 (from_be_bytes w32 b)) bytes e h
short a f size (s.of_bytes n) bytes e h = ended n (λ b. b) bytes e h

pub field_heard : (a : Sort) (f : Form a) (size : ℕ) → IsField a f size → Heard a f
field_heard a f size field bytes are e h = let low = short a f size field bytes e h in at_fault a f bytes (fault 2 0) e low.1 (s.ends field low.0)

-- ---- rules

pub wrong_is : {A : Type 0} (w : Option ℕ) (left : ℕ) (x : A × List ℕ) (e : ByteFault) → passed w left x ≡ Err e → (number : ℕ) × (w ≡ Some number) × (fault number left ≡ e)
wrong_is None left x e h = cc
wrong_is (Some number) left x e h = (number, refl, cc)

pub rule_heard : (a : Sort) (f : Form a) (wrong : Thing a → Option ℕ) → IsMade a f → Heard a f → Heard a (checked f wrong)
rule_heard a f wrong made heard bytes are e h = by (failed (f.read bytes) (rule_of wrong (length bytes)) e h) where
  by : Failed (f.read bytes) (rule_of wrong (length bytes)) e → IsFault a (checked f wrong) bytes e.number e.left
  by (inl first) = s.in_thing wrong (heard bytes are e first)
  by (inr second) =
      let w = wrong_is (wrong second.x.0) (length bytes) second.x e second.then_is in
      at_fault a (checked f wrong) bytes (fault w.0 (length bytes)) e w.2 (s.is_wrong wrong (read_begins a f made bytes are second.x second.was) w.1)

-- ---- one after the other

pub pair_heard : (a b : Sort) (f : Form a) (g : Thing a → Form b) → IsMade a f → Heard a f → ((x : Thing a) → Heard b (g x)) → Heard (pair a b) (both f g)
pair_heard a b f g made heard heards bytes are e h = by (failed (f.read bytes) (second_of g) e h) where
  by : Failed (f.read bytes) (second_of g) e → IsFault (pair a b) (both f g) bytes e.number e.left
  by (inl first) = s.in_first g (heard bytes are e first)
  by (inr second) =
      let x = second.x.0 in
      let rest = second.x.1 in
      let begins = read_begins a f made bytes are second.x second.was in
      s.in_second g begins (heards x rest (are_left a f bytes x rest are begins) e (failed_only ((g x).read rest) (λ y. ((x, y.0), y.1)) e second.then_is))

-- ---- lists

pub list_heard : (a : Sort) (f : List (Thing a) → Form a) → ((earlier : List (Thing a)) → IsMade a (f earlier)) → ((earlier : List (Thing a)) → Heard a (f earlier)) → (earlier : List (Thing a)) (count : ℕ) → Heard (list a) (each f earlier count)
unfolding each_read
list_heard a f made heard earlier zero bytes are e h = cc
list_heard a f made heard earlier (suc n) bytes are e h = by (λ x. list_heard a f made heard (earlier ++ x ∷ []) n) (failed ((f earlier).read bytes) (list_of f earlier n) e h) where
  by : ((x : Thing a) → Heard (list a) (each f (earlier ++ x ∷ []) n)) → Failed ((f earlier).read bytes) (list_of f earlier n) e → IsFault (list a) (each f earlier (suc n)) bytes e.number e.left
  by more (inl first) = s.in_next f earlier n (heard earlier bytes are e first)
  by more (inr second) =
      let x = second.x.0 in
      let rest = second.x.1 in
      let begins = read_begins a (f earlier) (made earlier) bytes are second.x second.was in
      s.in_later f earlier n begins (more x rest (are_left a (f earlier) bytes x rest are begins) e (failed_only (each_read f (earlier ++ x ∷ []) n rest) (λ xs. (x ∷ xs.0, xs.1)) e second.then_is))

-- ---- flags, and what there may be

pub flag_heard : (number : ℕ) → Heard truth (flag_format number)
flag_heard number bytes are e h =
    s.in_flag number (rule_heard natural u8 (λ n. unless (nat_le n 1) number) (s.a_field s.of_one) (field_heard natural u8 1 s.of_one) bytes are e
    (failed_only ((checked u8 (λ n. unless (nat_le n 1) number)).read bytes) (λ x. (x.0 == 1, x.1)) e h))

pub some_heard : (a : Sort) (f : Form a) → Heard a f → Heard (optional a) (some_format f)
some_heard a f heard bytes are e h = s.in_some (heard bytes are e (failed_only (f.read bytes) (λ x. (Some x.0, x.1)) e h))

pub view_heard : (a b : Sort) (f : Form a) (to : Thing a → Thing b) (from : Thing b → Thing a) → Heard a f → Heard b (via to from f)
view_heard a b f to from heard bytes are e h = s.in_view to from (heard bytes are e (failed_only (f.read bytes) (λ x. (to x.0, x.1)) e h))
