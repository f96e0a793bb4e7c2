-- Lists of kinds and of steps.
use Rattle.std.proofs.Common.{◌≡◌, ◌+◌, ℕ, zero, suc, List, ◌∷◌, length, arith, refl, ap, ◌∙◌}
use Rattle.machine_semantics.specs.Trees.{Segs, Nil, Cons}
use Rattle.machine_semantics.specs.Part.{Kind, Plain, plains}
use Rattle.machine_semantics.specs.Path.{Step, under, held, then_rest}

pub plains_add : (a b : ℕ) (ks : List Kind) → plains (a + b) ks ≡ plains a (plains b ks)
plains_add zero b ks = let e : 0 + b ≡ b = omega arith in ap (λ n. plains n ks) e
plains_add (suc a) b ks = let e : suc a + b ≡ suc (a + b) = omega arith in ap (λ n. plains n ks) e ∙ ap (λ (xs : List Kind). Plain ∷ xs) (plains_add a b ks)

pub length-plains : (n : ℕ) (ks : List Kind) → length (plains n ks) ≡ n + length ks
length-plains zero ks = omega arith
length-plains (suc n) ks = omega (arith, length-plains n ks)

pub under_then : (segs : Segs) (rest : List Step) → under (then_rest segs rest) ≡ under rest
under_then Nil rest = refl
under_then (Cons head more) rest = under_then more rest

pub held_then : (segs : Segs) (rest : List Step) → held (then_rest segs rest) ≡ held rest
held_then Nil rest = refl
held_then (Cons head more) rest = held_then more rest
