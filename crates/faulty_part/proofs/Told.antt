-- A test with its part is that test: alone, in turn, and of a list.
use Rattle.std.proofs.Common.{◌≡◌, ◌+◌, ℕ, zero, suc, List, length, Option, Some, None, refl, ap, sym, ◌∙◌}
use Rattle.std.specs.Prelude.{slice_get}
use Rattle.machine_semantics.specs.Image.{Image}
use Rattle.valid_image.specs.Fault.{Fault, or_else, first_of, of_some, first_in}
use Rattle.valid_image.specs.Valid.{Part, Shape, Costs, Sizes, Ranks, Bounds, Operands, Handlers, Shown, number_of, shown_of, shown, fault_of}
use Rattle.faulty_part.specs.declared.part.FaultyPart.{FaultyPart}
use Rattle.faulty_part.specs.declared.part.Subject.{Subject}
use Rattle.faulty_part.specs.declared.part.PartFault.{PartFault}
use Rattle.faulty_part.specs.Parts as parts
use Rattle.faulty_part.specs.Law.{test_of, shown_if}

-- what is printed of the two is the same
abbrev pub IsTold : Part → Option PartFault → Option Fault → Type 0
IsTold t x f = shown_if x ≡ shown_of t f

pub told_of : (p : FaultyPart) (s : Subject) (f : Option Fault) → IsTold (test_of s) (parts.of p s f) f
told_of p s None = refl
told_of p s (Some f) = refl

pub told_else : (t : Part) (x y : Option PartFault) (f g : Option Fault) → IsTold t x f → IsTold t y g → IsTold t (or_else x y) (or_else f g)
told_else t None y None g first second = second
told_else t None y (Some f) g first second = absurd cc
told_else t (Some x) y None g first second = absurd cc
told_else t (Some x) y (Some f) g first second = first

told_first : (t : Part) (f : ℕ → Option PartFault) (g : ℕ → Option Fault) → ((k : ℕ) → IsTold t (f k) (g k)) → (n at : ℕ) → IsTold t (first_of f n at) (first_of g n at)
told_first t f g each zero at = refl
told_first t f g each (suc n) at = told_else t (f at) (first_of f n (at + 1)) (g at) (first_of g n (at + 1)) (each at) (told_first t f g each n (at + 1))

told_some : {A : Type 0} (t : Part) (f : A → Option PartFault) (g : A → Option Fault) → ((x : A) → IsTold t (f x) (g x)) → (o : Option A) → IsTold t (of_some f o) (of_some g o)
told_some t f g each None = refl
told_some t f g each (Some x) = each x

pub told_in : {A : Type 0} (t : Part) (f : ℕ → A → Option PartFault) (g : ℕ → A → Option Fault) → ((k : ℕ) (x : A) → IsTold t (f k x) (g k x)) → (xs : List A) → IsTold t (first_in f xs) (first_in g xs)
told_in t f g each xs = told_first t (λ k. of_some (f k) (slice_get xs k)) (λ k. of_some (g k) (slice_get xs k)) (λ k. told_some t (f k) (g k) (each k) (slice_get xs k)) (length xs) 0

-- ---- the whole

pub told_later : (t : Part) (x : Option PartFault) (f : Option Fault) (y : Option PartFault) (g : Option Shown) → IsTold t x f → shown_if y ≡ g → shown_if (or_else x y) ≡ or_else (shown_of t f) g
told_later t None None y g first second = second
told_later t None (Some f) y g first second = absurd cc
told_later t (Some x) None y g first second = absurd cc
told_later t (Some x) (Some f) y g first second = first
