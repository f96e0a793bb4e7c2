-- Where the pieces of the code follow one another, each address of a piece belongs to it.
use Rattle.std.proofs.Common.{◌≡◌, ◌≤◌, ◌<◌, ◌+◌, inl, inr, ℕ, zero, suc, List, [], ◌∷◌, Option, Some, None, arith, refl, ap, sym, ◌∙◌, true, false, Bool}
use Rattle.std.specs.Prelude.{◌&&◌, cond, slice_get, nat_eq, nat_le}
use Rattle.std.proofs.lemmas.Bool.Decides.{nat_tests}
use Rattle.machine_semantics.specs.Image.{Image}
use Rattle.valid_image.specs.Pieces.{Piece, Owner, comes_closer, closest, is_owner, pieces, belongs, due_start, end_of_piece}
use Rattle.valid_image_law.proofs.Tests.{meet}
use Rattle.valid_image_law.proofs.Sweeping.{past}

-- a later piece starts where an earlier one ends, or after it
abbrev pub Rises : List Piece → Type 0
Rises xs = (i j : ℕ) (x y : Piece) → i < j → slice_get xs i ≡ Some x → slice_get xs j ≡ Some y → x.start + x.length ≤ y.start

-- the best so far starts no later than any of these
abbrev NoLater : Option Owner → List Piece → Type 0
NoLater best xs = (b : Owner) (j : ℕ) (y : Piece) → best ≡ Some b → slice_get xs j ≡ Some y → b.start ≤ y.start

near : (best : Option Owner) (start a : ℕ) → start ≤ a → ((b : Owner) → best ≡ Some b → b.start ≤ start) → comes_closer best start a ≡ true
near None start a le early = grind (arith, nat_tests, le)
near (Some b) start a le early = both_true (nat_le start a) (nat_le b.start start) (grind (arith, nat_tests, le)) (at_most_true b.start start (early b refl)) where
  both_true : (x y : Bool) → x ≡ true → y ≡ true → x && y ≡ true
  both_true true y is also = also
  both_true false y is also = absurd cc

  at_most_true : (m n : ℕ) → m ≤ n → nat_le m n ≡ true
  at_most_true m n le = grind (arith, nat_tests, le)

-- pieces that start after the address change nothing
none_closer : (xs : List Piece) (k a : ℕ) (best : Option Owner) → ((j : ℕ) (y : Piece) → slice_get xs j ≡ Some y → a < y.start) → closest xs k a best ≡ best
none_closer [] k a best far = refl
none_closer (x ∷ xs) k a best far =
    none_closer xs (suc k) a (cond (comes_closer best x.start a) (Some (record { number = k; start = x.start })) best) (λ j y at. far (suc j) y at)
    ∙ ap (λ (b : Bool). cond b (Some (record { number = k; start = x.start })) best) (past best x.start a (far 0 x refl))

chosen : (xs : List Piece) (k a j : ℕ) (x : Piece) (best : Option Owner) → Rises xs → NoLater best xs → slice_get xs j ≡ Some x → x.start ≤ a → a < x.start + x.length
    → closest xs k a best ≡ Some (record { number = k + j; start = x.start })
chosen [] k a j x best rises early at from to = absurd cc
chosen (y ∷ ys) k a zero x best rises early at from to =
    let same : y ≡ x = cc in
    let is_near : comes_closer best y.start a ≡ true = near best y.start a (omega (arith, from, ap (λ (p : Piece). p.start) same)) (λ b is. early b 0 y is refl) in
    let z : k ≡ k + 0 = omega arith in
    ap (λ (b : Bool). closest ys (suc k) a (cond b (Some (record { number = k; start = y.start })) best)) is_near
    ∙ (none_closer ys (suc k) a (Some (record { number = k; start = y.start })) (λ j q there. (let up : y.start + y.length ≤ q.start = rises 0 (suc j) y q (omega arith) refl there in
    omega (arith, up, to, ap (λ (p : Piece). p.start) same, ap (λ (p : Piece). p.length) same)))
    ∙ (ap (λ (n : ℕ). Some (record { number = n; start = y.start })) z ∙ ap (λ (p : Piece). Some (record { number = k + 0; start = p.start })) same))
chosen (y ∷ ys) k a (suc j) x best rises early at from to =
    let z : suc k + j ≡ k + suc j = omega arith in
    chosen ys (suc k) a j x (cond (comes_closer best y.start a) (Some (record { number = k; start = y.start })) best) (λ i l p q less here there. rises (suc i) (suc l) p q (omega (arith, less)) here there)
    (no_later (comes_closer best y.start a)) at from to
    ∙ ap (λ (n : ℕ). Some (record { number = n; start = x.start })) z
  where
    no_later : (b : Bool) → NoLater (cond b (Some (record { number = k; start = y.start })) best) ys
    no_later true c i q is there =
        let same : record { number = k; start = y.start } ≡ c = cc in
        omega (arith, ap (λ (p : Owner). p.start) same, rises 0 (suc i) y q (omega arith) refl there)
    no_later false c i q is there = early c (suc i) q is there

-- ---- pieces that follow one another

-- each piece starts where the one before ends
abbrev pub Follow : List Piece → Type 0
Follow xs = (j : ℕ) (x : Piece) → slice_get xs j ≡ Some x → x.start ≡ due_start xs j

earlier : (xs : List Piece) (j : ℕ) (y : Piece) → slice_get xs (suc j) ≡ Some y → (x : Piece) × (slice_get xs j ≡ Some x)
earlier [] j y at = absurd cc
earlier (x ∷ xs) zero y at = (x, refl)
earlier (x ∷ xs) (suc j) y at = earlier xs j y at

rise : (xs : List Piece) → Follow xs → Rises xs
rise xs follow i zero x y less here there = absurd (omega (arith, less))
rise xs follow i (suc j) x y less here there =
    let before : (p : Piece) × (slice_get xs j ≡ Some p) = earlier xs j y there in
    let due : y.start ≡ before.0.start + before.0.length = follow (suc j) y there ∙ ap (λ (o : Option Piece). end_of_piece o) before.1 in
    elim (meet i j (omega (arith, less))) [
      | inl same ↦ (let is : x ≡ before.0 = (let e : Some x ≡ Some before.0 = sym here ∙ (ap (λ (n : ℕ). slice_get xs n) same ∙ before.1) in cc) in
          omega (arith, due, ap (λ (p : Piece). p.start) is, ap (λ (p : Piece). p.length) is))
      | inr later ↦ (let up : x.start + x.length ≤ before.0.start = rise xs follow i j x before.0 (omega (arith, later)) here before.1 in omega (arith, up, due))
    ]

pub owned : (image : Image) (k a : ℕ) (x : Piece) → Follow (pieces image) → slice_get (pieces image) k ≡ Some x → x.start ≤ a → a < x.start + x.length → belongs image k a ≡ true
owned image k a x follow at from to =
    let c : closest (pieces image) 0 a None ≡ Some (record { number = 0 + k; start = x.start }) = chosen (pieces image) 0 a k x None (rise (pieces image) follow) (λ b j y is there. absurd cc) at from to in
    ap (λ (o : Option Owner). is_owner k o) c ∙ same k
  where
    same : (n : ℕ) → nat_eq (0 + n) n ≡ true
    same n = grind (arith, nat_tests)
