-- Places of parts that stand one after the other: what a loop over the parts keeps.
use Rattle.std.proofs.Common.{◌≡◌, ◌+◌, ◌++◌, ℕ, List, [], ◌∷◌, Ok, length, drop, sym, ap, ◌∙◌, subst, append_assoc, length-append, arith}
use Rattle.std.proofs.Math.Seq.{drop-append_seam}
use Rattle.std.proofs.lemmas.List.{drop-drop}
use Rattle.image_format.specs.Format.{Format}
use Rattle.image_bytes.specs.Places.{AreAt}
use Rattle.image_bytes.specs.Placing.{AreAmong}

-- past a front
pub past : (at : ℕ) (bytes front rest : List ℕ) → drop at bytes ≡ front ++ rest → drop (at + length front) bytes ≡ rest
past at bytes front rest h = sym (drop-drop (length front) at bytes) ∙ ap (drop (length front)) h ∙ drop-append_seam front rest

-- one more thing at a place
one_more_at : {A : Type 0} (f : Format A) (bytes places : List ℕ) (xs : List A) (at : ℕ) (x : A) (rest : List ℕ) → AreAt f bytes places xs → f.read (drop at bytes) ≡ Ok (x, rest)
    → AreAt f bytes (places ++ at ∷ []) (xs ++ x ∷ [])
one_more_at f bytes [] [] at x rest so_far read = ((rest, read), tt)
one_more_at f bytes (p ∷ ps) (y ∷ ys) at x rest so_far read = (so_far.0, one_more_at f bytes ps ys at x rest so_far.1 read)
one_more_at f bytes [] (y ∷ ys) at x rest so_far read = absurd so_far
one_more_at f bytes (p ∷ ps) [] at x rest so_far read = absurd so_far

-- of what is written from a start on, these things have their places, and what is left begins here
pub record Placed {A : Type 0} (f : Format A) (start : ℕ) (written : List ℕ) (at : ℕ) (left : List ℕ) (places : List ℕ) (xs : List A) : Type 0 where
  pub things : AreAmong f start written places xs
  pub next : (bytes rest : List ℕ) → drop start bytes ≡ written ++ rest → drop at bytes ≡ left ++ rest
  pub size : at + length left ≡ start + length written

-- one more, whose own bytes stand after others
pub one_more_placed : {A : Type 0} (f : Format A) (start : ℕ) (written : List ℕ) (at : ℕ) (before own left more places new : List ℕ) (xs ys : List A) (x : A) (place after : ℕ)
    → Placed f start written at more places xs → more ≡ before ++ (own ++ left) → ys ≡ xs ++ x ∷ [] → ((rest : List ℕ) → f.read (own ++ rest) ≡ Ok (x, rest)) → place ≡ at + length before
    → after ≡ place + length own → new ≡ places ++ place ∷ [] → Placed f start written after left new ys
one_more_placed f start written at before own left more places new xs ys x place after so_far more_is ys_are read place_is after_is new_is = record {
  things = λ bytes rest h.
      let last : f.read (drop place bytes) ≡ Ok (x, left ++ rest) = ap f.read (at_place bytes rest h) ∙ read (left ++ rest) in
      let all : AreAt f bytes (places ++ place ∷ []) (xs ++ x ∷ []) = one_more_at f bytes places xs place x (left ++ rest) (so_far.things bytes rest h) last in
      subst (λ ps. AreAt f bytes ps ys) (sym new_is) (subst (AreAt f bytes (places ++ place ∷ [])) (sym ys_are) all);
  next = λ bytes rest h. ap (λ n. drop n bytes) after_is ∙ past place bytes own (left ++ rest) (at_place bytes rest h);
  size = omega (arith, so_far.size, place_is, after_is, ap length more_is, length-append before (own ++ left), length-append own left);
} where
  at_place : (bytes rest : List ℕ) → drop start bytes ≡ written ++ rest → drop place bytes ≡ own ++ (left ++ rest)
  at_place bytes rest h =
      let split : (before ++ (own ++ left)) ++ rest ≡ before ++ (own ++ (left ++ rest)) = append_assoc before (own ++ left) rest ∙ ap (λ (ys : List ℕ). before ++ ys) (append_assoc own left rest) in
      ap (λ n. drop n bytes) place_is ∙ past at bytes before (own ++ (left ++ rest)) (so_far.next bytes rest h ∙ ap (λ (ys : List ℕ). ys ++ rest) more_is ∙ split)
