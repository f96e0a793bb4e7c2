-- Formats of which it is known that they are put together of fields, and which numbers their faults have.
use Rattle.std.proofs.Common.{◌≡◌, ◌⊎◌, inl, inr, ◌≤◌, ◌==◌, ◌&&◌, ◌++◌, ℕ, zero, suc, Bool, true, false, List, [], ◌∷◌, length, Err, Option, Some, subst, arith}
use Rattle.std.specs.Prelude.{nat_le, nat_lt}
use Rattle.image_format.specs.declared.fault.ByteFault.{ByteFault}
use Rattle.image_format.specs.Format.{Format, fault, u8, u16, u32, given, unless, checked, both, via, each, each_read}
use Rattle.image_format.specs.TreeFormat.{u16_below, u32_within, u16_within}
use Rattle.image_reader.specs.Grammar.{flag_format, some_format}
use Rattle.image_reader_law.specs.Faults as s
use Rattle.image_reader_law.specs.Faults.{Sort, Thing, Form, IsField, IsMade, IsTest, IsView, pair, natural, list, truth, optional, segment, tree}
use Rattle.image_reader_law.proofs.Failed.{Failed, failed, failed_only, second_of, rule_of, list_of}
use Rattle.image_reader_law.proofs.Heard.{short, wrong_is}

-- the end of the bytes, or a number from 4 to 8
abbrev pub Inner : ByteFault → Type 0
Inner e = ((e.number ≡ 2) × (e.left ≡ 0)) ⊎ ((4 ≤ e.number) × (e.number ≤ 8))

abbrev pub Told : {A : Type 0} → Format A → Type 0
Told f = (bytes : List ℕ) (e : ByteFault) → f.read bytes ≡ Err e → Inner e

pub record Known (a : Sort) (f : Form a) : Type 0 where
  pub made : IsMade a f
  pub inner : Told f

is_end : (e : ByteFault) → fault 2 0 ≡ e → Inner e
is_end e same = inl (cc, cc)

pub is_number : (number left : ℕ) (e : ByteFault) → 4 ≤ number → number ≤ 8 → fault number left ≡ e → Inner e
is_number number left e low high same = subst Inner same (inr (low, high))

-- ---- fields and rules

pub a_field : (a : Sort) (f : Form a) (size : ℕ) → IsField a f size → Known a f
a_field a f size field = record { made = s.a_field field; inner = λ bytes e h. is_end e (short a f size field bytes e h).1 }

pub byte : Known natural u8
byte = a_field natural u8 1 s.of_one

pub half : Known natural u16
half = a_field natural u16 2 s.of_two

pub whole : Known natural u32
whole = a_field natural u32 4 s.of_four

pub a_given : (a : Sort) (same : Thing a → Thing a → Bool) (x : Thing a) → IsTest same x → Known a (given same x)
a_given a same x test = record { made = s.a_given same x test; inner = λ bytes e h. cc }

-- the numbers that a rule tells
abbrev pub Tells : {A : Type 0} → (A → Option ℕ) → Type 0
Tells {A = A} wrong = (x : A) (number : ℕ) → wrong x ≡ Some number → (4 ≤ number) × (number ≤ 8)

pub unless_tells : (b : Bool) (number told : ℕ) → 4 ≤ number → number ≤ 8 → unless b number ≡ Some told → (4 ≤ told) × (told ≤ 8)
unless_tells true number told low high is = cc
unless_tells false number told low high is = let same : number ≡ told = cc in (omega (arith, same, low), omega (arith, same, high))

pub a_rule : (a : Sort) (f : Form a) (wrong : Thing a → Option ℕ) → Tells wrong → Known a f → Known a (checked f wrong)
a_rule a f wrong tells k = record { made = s.a_rule wrong k.made; inner = inner } where
  inner : Told (checked f wrong)
  inner bytes e h = by (failed (f.read bytes) (rule_of wrong (length bytes)) e h) where
    by : Failed (f.read bytes) (rule_of wrong (length bytes)) e → Inner e
    by (inl first) = k.inner bytes e first
    by (inr second) =
        let w = wrong_is (wrong second.x.0) (length bytes) second.x e second.then_is in
        let range = tells second.x.0 w.0 w.1 in
        is_number w.0 (length bytes) e range.0 range.1 w.2

pub a_test : (a : Sort) (f : Form a) (test : Thing a → Bool) (number : ℕ) → 4 ≤ number → number ≤ 8 → Known a f → Known a (checked f (λ x. unless (test x) number))
a_test a f test number low high k = a_rule a f (λ x. unless (test x) number) (λ x told is. unless_tells (test x) number told low high is) k

pub u32_range : (low high : ℕ) → Known natural (u32_within low high)
u32_range low high = a_test natural u32 (λ n. nat_le low n && nat_le n high) 4 (omega arith) (omega arith) whole

pub u16_range : (low high : ℕ) → Known natural (u16_within low high)
u16_range low high = a_test natural u16 (λ n. nat_le low n && nat_le n high) 4 (omega arith) (omega arith) half

pub u16_less : (count : ℕ) → Known natural (u16_below count)
u16_less count = a_test natural u16 (λ n. nat_lt n count) 4 (omega arith) (omega arith) half

-- ---- what is made of others

pub both_told : {A B : Type 0} (f : Format A) (g : A → Format B) → Told f → ((x : A) → Told (g x)) → Told (both f g)
both_told f g first second bytes e h = by (failed (f.read bytes) (second_of g) e h) where
  by : Failed (f.read bytes) (second_of g) e → Inner e
  by (inl h) = first bytes e h
  by (inr r) = second r.x.0 r.x.1 e (failed_only ((g r.x.0).read r.x.1) (λ y. ((r.x.0, y.0), y.1)) e r.then_is)

pub a_pair : (a b : Sort) (f : Form a) (g : Thing a → Form b) → Known a f → ((x : Thing a) → Known b (g x)) → Known (pair a b) (both f g)
a_pair a b f g k ks = record { made = s.a_pair k.made (λ x. (ks x).made); inner = both_told f g k.inner (λ x. (ks x).inner) }

-- where the second does not depend on the first
pub two : (a b : Sort) (f : Form a) (h : Form b) → Known a f → Known b h → Known (pair a b) (both f (λ x. h))
two a b f h k l = a_pair a b f (λ x. h) k (λ x. l)

pub a_view : (a b : Sort) (f : Form a) (to : Thing a → Thing b) (from : Thing b → Thing a) → IsView f to from → Known a f → Known b (via to from f)
a_view a b f to from view k = record { made = s.a_view view k.made; inner = λ bytes e h. k.inner bytes e (failed_only (f.read bytes) (λ x. (to x.0, x.1)) e h) }

list_told : {A : Type 0} (f : List A → Format A) → ((earlier : List A) → Told (f earlier)) → (earlier : List A) (count : ℕ) → Told (each f earlier count)
unfolding each_read
list_told f told earlier zero bytes e h = cc
list_told {A = A} f told earlier (suc n) bytes e h = by (λ x. list_told f told (earlier ++ x ∷ []) n) (failed ((f earlier).read bytes) (list_of f earlier n) e h) where
  by : ((x : A) → Told (each f (earlier ++ x ∷ []) n)) → Failed ((f earlier).read bytes) (list_of f earlier n) e → Inner e
  by more (inl first) = told earlier bytes e first
  by more (inr second) = let x = second.x in more x.0 x.1 e (failed_only (each_read f (earlier ++ x.0 ∷ []) n x.1) (λ xs. (x.0 ∷ xs.0, xs.1)) e second.then_is)

pub a_list : (a : Sort) (f : List (Thing a) → Form a) → ((earlier : List (Thing a)) → Known a (f earlier)) → (earlier : List (Thing a)) (count : ℕ) → Known (list a) (each f earlier count)
a_list a f ks earlier count = record { made = s.a_list (λ before. (ks before).made) earlier count; inner = list_told f (λ before. (ks before).inner) earlier count }

pub a_flag : (number : ℕ) → 4 ≤ number → number ≤ 8 → Known truth (flag_format number)
a_flag number low high = record {
  made = s.a_flag number;
  inner = λ bytes e h. (a_test natural u8 (λ n. nat_le n 1) number low high byte).inner bytes e (failed_only ((checked u8 (λ n. unless (nat_le n 1) number)).read bytes) (λ x. (x.0 == 1, x.1)) e h);
}

pub an_option : (a : Sort) (f : Form a) → Known a f → Known (optional a) (some_format f)
an_option a f k = record { made = s.an_option k.made; inner = λ bytes e h. k.inner bytes e (failed_only (f.read bytes) (λ x. (Some x.0, x.1)) e h) }
