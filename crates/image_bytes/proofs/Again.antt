-- What is written is read again, whatever follows.
use Rattle.std.proofs.Common.{◌≡◌, ◌++◌, ◌==◌, ◌&&◌, ℕ, suc, Bool, true, false, List, [], ◌∷◌, length, flat_map, Ok, refl, ap, ◌∙◌, append_assoc}
use Rattle.std.proofs.lemmas.Bool.{and_parts}
use Rattle.image_format.specs.Format.{Format, ◌>>=◌, u8, u16, u32, both}
use Rattle.image_format.specs.FormatLaw.{IsSound}
use Rattle.image_format.specs.Numbers as written
use Rattle.image_format.proofs.Sound.{both_sound}
use Rattle.image_format.proofs.SoundFields.{u8_sound, u16_sound, u32_sound}
use Rattle.image_bytes.specs.Fields.{are_short, counted_numbers, five_fields, flag_field, numbers_fields, numbers_read, owner_fields, release_fields}

abbrev pub IsAgain : {A : Type 0} → Format A → A → Type 0
IsAgain f x = (rest : List ℕ) → f.read (f.write x ++ rest) ≡ Ok (x, rest)

pub both_again : {A B : Type 0} (f : Format A) (g : A → Format B) (x : A) (y : B) → IsAgain f x → IsAgain (g x) y → IsAgain (both f g) (x, y)
both_again f g x y one other rest =
    ap (λ bytes. (both f g).read bytes) (append_assoc (f.write x) ((g x).write y) rest)
    ∙ ap (λ r. r >>= λ x. (g x.0).read x.1 >>= λ y. Ok ((x.0, y.0), y.1)) (one ((g x).write y ++ rest))
    ∙ ap (λ r. r >>= λ y. Ok ((x, y.0), y.1)) (other rest)

pub sound_again : {A : Type 0} (f : Format A) → IsSound f → (x : A) → f.is x ≡ true → IsAgain f x
sound_again f s x is rest = s.again x rest is

pair_sound : {A B : Type 0} (f : Format A) (h : Format B) → IsSound f → IsSound h → IsSound (both f (λ x. h))
pair_sound f h s t = both_sound f (λ x. h) s (λ x. t)

abbrev two_fields : Format (ℕ × ℕ)
two_fields = both u32 (λ fourth. u32)

abbrev three_fields : Format (ℕ × (ℕ × ℕ))
three_fields = both u32 (λ third. two_fields)

abbrev four_fields : Format (ℕ × (ℕ × (ℕ × ℕ)))
four_fields = both u32 (λ second. three_fields)

pub five_sound : IsSound five_fields
five_sound = pair_sound u32 four_fields u32_sound (pair_sound u32 three_fields u32_sound (pair_sound u32 two_fields u32_sound (pair_sound u32 u32 u32_sound u32_sound)))

abbrev from_event : Format (ℕ × ℕ)
from_event = both u16 (λ event. u16)

abbrev from_first : Format (ℕ × (ℕ × ℕ))
from_first = both u32 (λ first. from_event)

abbrev from_deadline : Format (ℕ × (ℕ × (ℕ × ℕ)))
from_deadline = both u32 (λ deadline. from_first)

abbrev from_frame : Format (ℕ × (ℕ × (ℕ × (ℕ × ℕ))))
from_frame = both u32 (λ frame. from_deadline)

pub release_sound : IsSound release_fields
release_sound =
    pair_sound u8 from_frame u8_sound (pair_sound u32 from_deadline u32_sound (pair_sound u32 from_first u32_sound (pair_sound u32 from_event u32_sound (pair_sound u16 u16 u16_sound u16_sound))))

flag_again : (holds : Bool) → IsAgain flag_field holds
flag_again true rest = ap (λ r. r >>= λ x. Ok (x.0 == 1, x.1)) (u8_sound.again 1 rest refl)
flag_again false rest = ap (λ r. r >>= λ x. Ok (x.0 == 1, x.1)) (u8_sound.again 0 rest refl)

pub owner_again : (kind owner params locals : ℕ) (holds : Bool) → owner_fields.is (kind, (owner, (params, (locals, holds)))) ≡ true → IsAgain owner_fields (kind, (owner, (params, (locals, holds))))
owner_again kind owner params locals holds is =
    let a = and_parts (u8.is kind) (u16.is owner && (u16.is params && (u32.is locals && true))) is in
    let b = and_parts (u16.is owner) (u16.is params && (u32.is locals && true)) a.1 in
    let c = and_parts (u16.is params) (u32.is locals && true) b.1 in
    let d = and_parts (u32.is locals) true c.1 in
    both_again u8 (λ k. both u16 (λ o. both u16 (λ p. both u32 (λ l. flag_field)))) kind (owner, (params, (locals, holds))) (sound_again u8 u8_sound kind a.0)
    (both_again u16 (λ o. both u16 (λ p. both u32 (λ l. flag_field))) owner (params, (locals, holds)) (sound_again u16 u16_sound owner b.0)
    (both_again u16 (λ p. both u32 (λ l. flag_field)) params (locals, holds) (sound_again u16 u16_sound params c.0)
    (both_again u32 (λ l. flag_field) locals holds (sound_again u32 u32_sound locals d.0) (flag_again holds))))

counted_again : (numbers rest : List ℕ) → are_short numbers ≡ true → numbers_read (length numbers) (flat_map written.u16 numbers ++ rest) ≡ Ok (numbers, rest)
unfolding numbers_read
counted_again [] rest short = refl
counted_again (n ∷ ns) rest short =
    let p = and_parts (u16.is n) (are_short ns) short in
    ap (λ bytes. numbers_read (suc (length ns)) bytes) (append_assoc (written.u16 n) (flat_map written.u16 ns) rest)
    ∙ ap (λ r. r >>= λ x. numbers_read (length ns) x.1 >>= λ y. Ok (x.0 ∷ y.0, y.1)) (u16_sound.again n (flat_map written.u16 ns ++ rest) p.0)
    ∙ ap (λ r. r >>= λ y. Ok (n ∷ y.0, y.1)) (counted_again ns rest p.1)

pub numbers_again : (numbers : List ℕ) → u16.is (length numbers) ≡ true → are_short numbers ≡ true → IsAgain numbers_fields numbers
numbers_again numbers few short rest =
    ap (λ r. r >>= λ x. Ok (x.0.1, x.1)) (both_again u16 counted_numbers (length numbers) numbers (sound_again u16 u16_sound (length numbers) few) (λ more. counted_again numbers more short) rest)
