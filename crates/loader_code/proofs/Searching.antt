-- A search from the left, one step at a time.
use Rattle.std.proofs.Common.{◌≡◌, ◌<◌, ◌+◌, ◌-◌, ℕ, zero, suc, Option, Some, None, arith, ap, ◌∙◌, true, false}
use Rattle.std.specs.Prelude.{nat_eq}
use Rattle.std.proofs.lemmas.Bool.Decides.{nat_tests}
use Rattle.valid_image.specs.Fault.{unless, or_else, first_of, of_some}

-- the next number has none: the search goes on behind it
pub none_here : {A : Type 0} (f : ℕ → Option A) (n at : ℕ) → 0 < n → f at ≡ None → first_of f n at ≡ first_of f (n - 1) (at + 1)
none_here f zero at some none = absurd (omega (arith, some))
none_here f (suc n) at some none = let e : n ≡ suc n - 1 = omega arith in ap (λ o. or_else o (first_of f n (at + 1))) none ∙ ap (λ k. first_of f k (at + 1)) e

-- it has one: the search ends
pub one_here : {A : Type 0} (f : ℕ → Option A) (n at : ℕ) (x : A) → 0 < n → f at ≡ Some x → first_of f n at ≡ Some x
one_here f zero at x some is = absurd (omega (arith, some))
one_here f (suc n) at x some is = ap (λ o. or_else o (first_of f n (at + 1))) is

pub none_left : {A : Type 0} (f : ℕ → Option A) (n at : ℕ) → n ≡ 0 → first_of f n at ≡ None
none_left f n at is = ap (λ k. first_of f k at) is

-- what the test of an element says
pub of_element : {A B : Type 0} (g : A → Option B) (o : Option A) (x : A) → o ≡ Some x → of_some g o ≡ g x
of_element g o x is = ap (λ y. of_some g y) is

pub passes : (m n a b : ℕ) → m ≡ n → unless (nat_eq m n) a b ≡ None
passes m n a b is = ap (λ t. unless t a b) (yes_is m n is) where
  yes_is : (m n : ℕ) → m ≡ n → nat_eq m n ≡ true
  yes_is m n is = grind (arith, nat_tests, is)

pub fails : (m n a b : ℕ) → (m ≡ n → ⊥) → unless (nat_eq m n) a b ≡ Some (record { a = a; b = b })
fails m n a b is_not = ap (λ t. unless t a b) (no_is m n is_not) where
  no_is : (m n : ℕ) → (m ≡ n → ⊥) → nat_eq m n ≡ false
  no_is m n is_not = grind (arith, nat_tests, is_not)
