-- Lists side by side.
use Rattle.std.proofs.Common.{◌≡◌, ◌++◌, List, [], ◌∷◌, length, map, refl, ap, arith}
use Rattle.std.specs.List.{zip}

pub zip_push : {A B : Type 0} (xs : List A) (ys : List B) (x : A) (y : B) → length xs ≡ length ys → zip (xs ++ x ∷ []) (ys ++ y ∷ []) ≡ zip xs ys ++ (x, y) ∷ []
zip_push [] [] x y same = refl
zip_push [] (b ∷ ys) x y same = absurd (omega (arith, same))
zip_push (a ∷ xs) [] x y same = absurd (omega (arith, same))
zip_push (a ∷ xs) (b ∷ ys) x y same = ap (λ ps. (a, b) ∷ ps) (zip_push xs ys x y (omega (arith, same)))

pub firsts : {A B : Type 0} (xs : List A) (ys : List B) → length xs ≡ length ys → map (λ p. p.0) (zip xs ys) ≡ xs
firsts [] ys same = refl
firsts (a ∷ xs) [] same = absurd (omega (arith, same))
firsts (a ∷ xs) (b ∷ ys) same = ap (λ ps. a ∷ ps) (firsts xs ys (omega (arith, same)))

pub seconds : {A B : Type 0} (xs : List A) (ys : List B) → length xs ≡ length ys → map (λ p. p.1) (zip xs ys) ≡ ys
seconds [] [] same = refl
seconds [] (b ∷ ys) same = absurd (omega (arith, same))
seconds (a ∷ xs) [] same = absurd (omega (arith, same))
seconds (a ∷ xs) (b ∷ ys) same = ap (λ ps. b ∷ ps) (seconds xs ys (omega (arith, same)))
