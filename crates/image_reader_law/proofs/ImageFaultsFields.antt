-- The fields of an image, its flags and what there may be, are read as they are written.
use Rattle.std.proofs.Common.{◌≡◌, ◌≤◌, ◌<◌, ◌^◌, ◌==◌, ◌-◌, ◌++◌, ℕ, zero, suc, Bool, true, false, ℤ, List, length, take, Ok, Err, Option, Some, None, refl, sym, ap, ◌∙◌, subst, arith}
use Rattle.std.specs.Prelude.{nat_lt, nat_le, pos, negsuc, slice_index}
use Rattle.std.specs.Ordering.{int_eq}
use Rattle.std.specs.Int.{w16, w32, cast_signed, cast_unsigned, from_be_bytes}
use Rattle.std.proofs.lemmas.Bool.{ltb-true, leb-true, and_parts}
use Rattle.std.proofs.lemmas.Bool.Decides.{Decides-int_eq}
use Rattle.std.proofs.lemmas.Int.{of_z-to_z}
use Rattle.std.proofs.lemmas.Nat.{from_be_bytes-to_be_bytes_4}
use mir.Val.{sel}
use Rattle.machine_isa.specs.Bytes.{word_bytes}
use Rattle.image_format.specs.Numbers as written
use Rattle.image_format.specs.Format.{Format, ◌>>=◌, fault, u8, unless, is_fine, checked, via}
use Rattle.image_reader.specs.Grammar as g
use Rattle.image_format.specs.FormatLaw.{AreBytes, IsSound}
use Rattle.image_format.proofs.Sound.{came, field_sound, checked_sound, via_sound, field_short}
use Rattle.image_format.proofs.SoundFields.{u8_sound, u16_sound, u32_sound, bytes_sound, four_back}
use Rattle.image_format.proofs.Alike.{alike, same_ok}
use Rattle.image_reader_law.specs.Faults.{Sort, Form, IsField, of_one, of_two, of_four, of_word, of_bytes}

-- ---- words

abbrev pub value : List ℕ → ℤ
value bytes = cast_signed w32 (from_be_bytes w32 bytes)

abbrev pub is_word : ℤ → Bool
is_word z = int_eq z (cast_signed w32 (cast_unsigned w32 z))

pub fits : (z : ℤ) → z ≡ cast_signed w32 (cast_unsigned w32 z) → cast_unsigned w32 z < 2 ^ 32
fits (negsuc n) h = omega arith
fits (pos n) h = by (nat_lt n (2 ^ 31)) refl h where
  by : (b : Bool) → nat_lt n (2 ^ 31) ≡ b → pos n ≡ sel b (pos n) (negsuc (2 ^ 32 - suc n)) → n < 2 ^ 32
  by true low e = let l : n < 2 ^ 31 = ltb-true n (2 ^ 31) low in omega (arith, l)
  by false low e = absurd cc

pub told : (z : ℤ) → is_word z ≡ true → value (word_bytes z) ≡ z
told z h =
    let same = (Decides-int_eq z (cast_signed w32 (cast_unsigned w32 z))).0 h in
    ap (cast_signed w32) (from_be_bytes-to_be_bytes_4 (cast_unsigned w32 z) (fits z same)) ∙ sym same

pub tells : (bytes : List ℕ) → length bytes ≡ 4 → AreBytes bytes → (word_bytes (value bytes) ≡ bytes) × (is_word (value bytes) ≡ true)
tells bytes long are =
    let n = from_be_bytes w32 bytes in
    let fields = four_back bytes long are in
    let back : cast_unsigned w32 (cast_signed w32 n) ≡ n = of_z-to_z w32 n (ltb-true n (2 ^ 32) fields.1) in
    (ap (λ m. written.u32 m) back ∙ fields.0, (Decides-int_eq (cast_signed w32 n) (cast_signed w32 (cast_unsigned w32 (cast_signed w32 n)))).1 (ap (cast_signed w32) (sym back)))

pub word_sound : IsSound g.word
word_sound = field_sound 4 word_bytes value is_word (record { size_is = λ z h. refl; told = told; tells = tells })

-- ---- any field

pub field_is_sound : (a : Sort) (f : Form a) (size : ℕ) → IsField a f size → IsSound f
field_is_sound a f size of_one = u8_sound
field_is_sound a f size of_two = u16_sound
field_is_sound a f size of_four = u32_sound
field_is_sound a f size of_word = word_sound
field_is_sound a f size (of_bytes n) = bytes_sound n

pub short : (a : Sort) (f : Form a) (size : ℕ) (bytes : List ℕ) → IsField a f size → length bytes < size → f.read bytes ≡ Err (fault 2 0)
short a f size bytes of_one h = field_short 1 (λ b. slice_index b 0) bytes h
short a f size bytes of_two h = field_short 2 (from_be_bytes w16) bytes h
short a f size bytes of_four h = field_short 4 (from_be_bytes w32) bytes h
short a f size bytes of_word h = field_short 4 value bytes h
short a f size bytes (of_bytes n) h = field_short n (λ b. b) bytes h

-- ---- flags

abbrev pub flag_rule : (number : ℕ) → ℕ → Option ℕ
flag_rule number n = unless (nat_le n 1) number

abbrev pub number_of : Bool → ℕ
number_of true = 1
number_of false = 0

pub fine_is : (b : Bool) (n : ℕ) → is_fine (unless b n) ≡ true → b ≡ true
fine_is true n h = refl
fine_is false n h = absurd cc

pub flag_sound : (number : ℕ) → IsSound (g.flag_format number)
flag_sound number =
    alike (via (λ (n : ℕ). n == 1) number_of (checked u8 (flag_rule number))) (g.flag_format number) writes ranges (λ bytes. refl)
    (via_sound (λ (n : ℕ). n == 1) number_of (checked u8 (flag_rule number)) there again (checked_sound u8 (flag_rule number) u8_sound))
  where
    writes : (b : Bool) → (checked u8 (flag_rule number)).write (number_of b) ≡ (g.flag_format number).write b
    writes true = refl
    writes false = refl

    ranges : (b : Bool) → (checked u8 (flag_rule number)).is (number_of b) ≡ true
    ranges true = refl
    ranges false = refl

    again : (b : Bool) → (checked u8 (flag_rule number)).is (number_of b) ≡ true → (number_of b == 1) ≡ b
    again true h = refl
    again false h = refl

    small : (x : ℕ) → x ≤ 1 → number_of (x == 1) ≡ x
    small zero h = refl
    small (suc zero) h = refl
    small (suc (suc x)) h = absurd (omega (arith, h))

    there : (x : ℕ) → (checked u8 (flag_rule number)).is x ≡ true → number_of (x == 1) ≡ x
    there x h = small x (leb-true x 1 (fine_is (nat_le x 1) number (and_parts (nat_lt x 256) (is_fine (flag_rule number x)) h).1))

-- ---- what there may be

pub some_sound : {A : Type 0} (f : Format A) → IsSound f → IsSound (g.some_format f)
some_sound {A = A} f s = record {
  back = λ bytes z are h.
      let a = came (f.read bytes) (λ x. Ok (Some x.0, x.1)) z h in
      let b = s.back bytes a.x are a.was in
      subst (λ (w : Option A × List ℕ). (bytes ≡ g.some_write f w.0 ++ w.1) × (g.some_is f w.0 ≡ true)) (same_ok (Some a.x.0, a.x.1) z a.then_is) b;
  again = again;
  cut = cut;
} where
  again : (o : Option A) (rest : List ℕ) → g.some_is f o ≡ true → (g.some_format f).read (g.some_write f o ++ rest) ≡ Ok (o, rest)
  again None rest h = cc
  again (Some x) rest h = ap (λ r. r >>= λ y. Ok (Some y.0, y.1)) (s.again x rest h)

  cut : (o : Option A) (k : ℕ) → g.some_is f o ≡ true → k < length (g.some_write f o) → (g.some_format f).read (take k (g.some_write f o)) ≡ Err (fault 2 0)
  cut None k h low = cc
  cut (Some x) k h low = ap (λ r. r >>= λ y. Ok (Some y.0, y.1)) (s.cut x k h low)
