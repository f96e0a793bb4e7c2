-- Which of its two tests the fault of a bound is of.
use Rattle.std.proofs.Common.{◌≡◌, ◌<◌, ℕ, Bool, true, false, Option, Some, None, arith, refl, ap, ◌∙◌}
use Rattle.std.specs.Prelude.{cond, nat_le, nat_lt}
use Rattle.std.proofs.lemmas.Bool.Decides.{nat_tests}
use Rattle.valid_image.specs.Fault.{Fault, unless, or_else}
use Rattle.faulty_part.specs.declared.part.FaultyPart.{FaultyPart}
use Rattle.faulty_part.specs.declared.part.Subject.TheVariants as subject
use Rattle.faulty_part.specs.declared.part.PartFault.{PartFault}
use Rattle.faulty_part.specs.Parts.{of}

abbrev pub two_tests : FaultyPart → (solved timely : Bool) → (bound demand deadline : ℕ) → Option PartFault
two_tests p solved timely bound demand deadline = or_else (of p subject.Bound (unless solved bound demand)) (of p subject.Deadline (unless timely bound deadline))

pub no_test : (p : FaultyPart) (solved timely : Bool) (bound demand deadline : ℕ) → None ≡ or_else (unless solved bound demand) (unless timely bound deadline) → None ≡ two_tests p solved timely bound demand deadline
no_test p true true bound demand deadline is = refl
no_test p true false bound demand deadline is = absurd cc
no_test p false timely bound demand deadline is = absurd cc

first_number : (x y : Fault) → Some x ≡ Some y → (x.a ≡ y.a) × (x.b ≡ y.b)
first_number x y is = let e : x ≡ y = cc in (ap (λ (f : Fault). f.a) e, ap (λ (f : Fault). f.b) e)

told_as : (p : FaultyPart) (a b c d : ℕ) → a ≡ c → b ≡ d → of p subject.Bound (Some (record { a = a; b = b })) ≡ of p subject.Bound (Some (record { a = c; b = d }))
told_as p a b c d one two = ap (λ n. of p subject.Bound (Some (record { a = n; b = b }))) one ∙ ap (λ n. of p subject.Bound (Some (record { a = c; b = n }))) two

told_late : (p : FaultyPart) (a b c d : ℕ) → a ≡ c → b ≡ d → of p subject.Deadline (Some (record { a = a; b = b })) ≡ of p subject.Deadline (Some (record { a = c; b = d }))
told_late p a b c d one two = ap (λ n. of p subject.Deadline (Some (record { a = n; b = b }))) one ∙ ap (λ n. of p subject.Deadline (Some (record { a = c; b = n }))) two

not_within : (demand bound : ℕ) → nat_le demand bound ≡ false → bound < demand
not_within demand bound miss = grind (arith, nat_tests, miss)

pub short_test : (p : FaultyPart) (f : Fault) (solved timely : Bool) (bound demand deadline : ℕ) → nat_le bound deadline ≡ timely → Some f ≡ or_else (unless solved bound demand) (unless timely bound deadline) → f.a < f.b
    → of p subject.Bound (Some f) ≡ two_tests p solved timely bound demand deadline
short_test p f false timely bound demand deadline late is less = let n = first_number f (record { a = bound; b = demand }) is in told_as p f.a f.b bound demand n.0 n.1
short_test p f true true bound demand deadline late is less = absurd cc
short_test p f true false bound demand deadline late is less =
    let n = first_number f (record { a = bound; b = deadline }) is in absurd (omega (arith, n.0, n.1, less, not_within bound deadline late))

pub late_test : (p : FaultyPart) (f : Fault) (solved timely : Bool) (bound demand deadline : ℕ) → nat_le demand bound ≡ solved → Some f ≡ or_else (unless solved bound demand) (unless timely bound deadline) → (f.a < f.b → ⊥)
    → of p subject.Deadline (Some f) ≡ two_tests p solved timely bound demand deadline
late_test p f true true bound demand deadline solved is miss = absurd cc
late_test p f true false bound demand deadline solved is miss = let n = first_number f (record { a = bound; b = deadline }) is in told_late p f.a f.b bound deadline n.0 n.1
late_test p f false timely bound demand deadline solved is miss =
    let n = first_number f (record { a = bound; b = demand }) is in absurd (miss (omega (arith, n.0, n.1, not_within demand bound solved)))

less : (a b : ℕ) → nat_lt a b ≡ true → a < b
less a b hit = grind (arith, nat_tests, hit)

not_less : (a b : ℕ) → nat_lt a b ≡ false → a < b → ⊥
not_less a b miss low = grind (arith, nat_tests, miss, low)

pub which : (p : FaultyPart) (f : Fault) (bound demand deadline : ℕ) → Some f ≡ or_else (unless (nat_le demand bound) bound demand) (unless (nat_le bound deadline) bound deadline)
    → of p (cond (nat_lt f.a f.b) subject.Bound subject.Deadline) (Some f) ≡ two_tests p (nat_le demand bound) (nat_le bound deadline) bound demand deadline
which p f bound demand deadline is = go (nat_lt f.a f.b) refl where
  go : (b : Bool) → nat_lt f.a f.b ≡ b → of p (cond (nat_lt f.a f.b) subject.Bound subject.Deadline) (Some f) ≡ two_tests p (nat_le demand bound) (nat_le bound deadline) bound demand deadline
  go true hit = ap (λ b. of p (cond b subject.Bound subject.Deadline) (Some f)) hit ∙ short_test p f (nat_le demand bound) (nat_le bound deadline) bound demand deadline refl is (less f.a f.b hit)
  go false miss = ap (λ b. of p (cond b subject.Bound subject.Deadline) (Some f)) miss ∙ late_test p f (nat_le demand bound) (nat_le bound deadline) bound demand deadline refl is (not_less f.a f.b miss)
