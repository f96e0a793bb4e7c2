-- Fields of numbers are sound, and so is what is made of them.
use Rattle.std.proofs.Common.{◌≡◌, ◌<◌, ◌^◌, ◌==◌, ℕ, zero, suc, true, List, [], ◌∷◌, length, get_or, refl, arith}
use Rattle.std.specs.Prelude.{nat_lt, slice_index}
use Rattle.std.specs.Int.{w16, w32, from_be_bytes}
use Rattle.std.proofs.lemmas.Bool.{lt-ltb, ltb-true, eqb-true, eq-eqb}
use Rattle.std.proofs.lemmas.Nat.{from_be_bytes-to_be_bytes_2, from_be_bytes-to_be_bytes_4, be_bytes_2, be_bytes_4}
use Rattle.image_format.specs.Numbers as written
use Rattle.image_format.specs.Format.{u8, u16, u32, bytes_as_are}
use Rattle.image_format.specs.FormatLaw.{AreBytes, IsSound}
use Rattle.image_format.proofs.Sound.{field_sound}

each_below : (bytes : List ℕ) → AreBytes bytes → (i : ℕ) → get_or bytes i 0 < 256
each_below [] are i = omega arith
each_below (b ∷ bs) are zero = are.0
each_below (b ∷ bs) are (suc i) = each_below bs are.1 i

one_back : (bytes : List ℕ) → length bytes ≡ 1 → AreBytes bytes → (slice_index bytes 0 ∷ [] ≡ bytes) × (nat_lt (slice_index bytes 0) 256 ≡ true)
one_back [] len are = absurd (omega (arith, len))
one_back (b ∷ []) len are = (refl, lt-ltb b 256 are.0)
one_back (b ∷ c ∷ bs) len are = absurd (omega (arith, len))

pub u8_sound : IsSound u8
u8_sound = field_sound 1 written.u8 (λ bytes. slice_index bytes 0) (λ n. nat_lt n 256) (record { size_is = λ x h. refl; told = λ x h. refl; tells = one_back })

two_back : (bytes : List ℕ) → length bytes ≡ 2 → AreBytes bytes → (written.u16 (from_be_bytes w16 bytes) ≡ bytes) × (nat_lt (from_be_bytes w16 bytes) (2 ^ 16) ≡ true)
two_back [] len are = absurd (omega (arith, len))
two_back (b ∷ []) len are = absurd (omega (arith, len))
two_back (b ∷ c ∷ []) len are = (be_bytes_2 (b ∷ c ∷ []) _ refl (each_below (b ∷ c ∷ []) are) refl, lt-ltb (from_be_bytes w16 (b ∷ c ∷ [])) (2 ^ 16) (omega (arith, are.0, are.1.0)))
two_back (b ∷ c ∷ d ∷ bs) len are = absurd (omega (arith, len))

pub u16_sound : IsSound u16
u16_sound = field_sound 2 written.u16 (from_be_bytes w16) (λ n. nat_lt n (2 ^ 16)) (record { size_is = λ x h. refl; told = λ x h. from_be_bytes-to_be_bytes_2 x (ltb-true x (2 ^ 16) h); tells = two_back })

pub four_back : (bytes : List ℕ) → length bytes ≡ 4 → AreBytes bytes → (written.u32 (from_be_bytes w32 bytes) ≡ bytes) × (nat_lt (from_be_bytes w32 bytes) (2 ^ 32) ≡ true)
four_back [] len are = absurd (omega (arith, len))
four_back (a ∷ []) len are = absurd (omega (arith, len))
four_back (a ∷ b ∷ []) len are = absurd (omega (arith, len))
four_back (a ∷ b ∷ c ∷ []) len are = absurd (omega (arith, len))
four_back (a ∷ b ∷ c ∷ d ∷ []) len are =
    (be_bytes_4 (a ∷ b ∷ c ∷ d ∷ []) _ refl (each_below (a ∷ b ∷ c ∷ d ∷ []) are) refl, lt-ltb (from_be_bytes w32 (a ∷ b ∷ c ∷ d ∷ [])) (2 ^ 32) (omega (arith, are.0, are.1.0, are.1.1.0, are.1.1.1.0)))
four_back (a ∷ b ∷ c ∷ d ∷ e ∷ bs) len are = absurd (omega (arith, len))

pub u32_sound : IsSound u32
u32_sound = field_sound 4 written.u32 (from_be_bytes w32) (λ n. nat_lt n (2 ^ 32)) (record { size_is = λ x h. refl; told = λ x h. from_be_bytes-to_be_bytes_4 x (ltb-true x (2 ^ 32) h); tells = four_back })

pub bytes_sound : (size : ℕ) → IsSound (bytes_as_are size)
bytes_sound size = field_sound size (λ bytes. bytes) (λ bytes. bytes) (λ bytes. length bytes == size)
    (record { size_is = λ x h. eqb-true (length x) size h; told = λ x h. refl; tells = λ bytes len are. (refl, eq-eqb (length bytes) size len) })
