-- Numbers of names in a map beside those in a list.
use Rattle.std.proofs.Common.{◌≡◌, ℕ, ◌+◌, ◌<◌, List, [], ◌∷◌, ◌++◌, length, take, get_or, Bool, true, false, cond, Option, Some, None, is_some, refl, ap, sym, subst, ◌∙◌, arith}
use Rattle.std.specs.Borrow.{Bor}
use Rattle.std.specs.Map.{lookup}
use Rattle.std.specs.List.{position_from}
use Rattle.std.proofs.lemmas.List.{take_more, length-take-le}
use Rattle.std.proofs.lemmas.Cmp.{nat_list_eq_equiv}
use Rattle.std.proofs.lemmas.Slice.Eq.{bytes_eq-Decides}
use Rattle.image.specs.declared.names.ImageNames.{ImageNames}
use Rattle.script.specs.Scripts.{same_name, event_number}
use Rattle.image.specs.NameMaps.{number_in}
use Rattle.script.specs.Reading.{or_else, AddsNumber, AreNumbers}

pub none_of : (o : Option ℕ) → is_some o ≡ false → o ≡ None
none_of None e = refl
none_of (Some x) e = cc

pub same_is : (q name : List ℕ) → same_name q name ≡ true → q ≡ name
same_is q name e = (bytes_eq-Decides q name).0 e

else_none : (o : Option ℕ) → o ≡ or_else o None
else_none None = refl
else_none (Some x) = refl

else_some : (o : Option ℕ) (other : Option ℕ) → is_some o ≡ true → o ≡ or_else o other
else_some None other e = cc
else_some (Some x) other e = refl

-- a name that has a number keeps it
pub adds_kept : (entries : List (Bor (List ℕ) × ℕ)) (name : List ℕ) (number : ℕ) → is_some (number_in entries name) ≡ true → AddsNumber entries entries name number
adds_kept entries name number there = λ q. at q (same_name q name) refl
  where
    at : (q : List ℕ) (b : Bool) → same_name q name ≡ b → number_in entries q ≡ or_else (number_in entries q) (cond b (Some number) None)
    at q false e = else_none (number_in entries q)
    at q true e = else_some (number_in entries q) (Some number) (subst (λ n. is_some (number_in entries n) ≡ true) (sym (same_is q name e)) there)

-- a name that has none gets one
pub adds_new : (k : Bor (List ℕ)) (number : ℕ) (old new : List (Bor (List ℕ) × ℕ)) → ((q : Bor (List ℕ)) → lookup (λ x. same_name q.now x.now) new ≡ cond (same_name k.now q.now) (Some number) (lookup (λ x. same_name q.now x.now) old)) → number_in old k.now ≡ None → AddsNumber old new k.now number
adds_new k number old new puts none = λ q. puts (record k { now = q }) ∙ ap (λ b. cond b (Some number) (number_in old q)) (nat_list_eq_equiv.symm k.now q) ∙ at q (same_name q k.now) refl
  where
    at : (q : List ℕ) (b : Bool) → same_name q k.now ≡ b → cond b (Some number) (number_in old q) ≡ or_else (number_in old q) (cond b (Some number) None)
    at q false e = else_none (number_in old q)
    at q true e = ap (λ o. or_else o (Some number)) (sym (subst (λ n. number_in old n ≡ None) (sym (same_is q k.now e)) none))

push_at : {X : Type 0} → (t : X → Bool) (i : ℕ) (xs : List X) (x y : X) (b : Bool) → position_from t (i + 1) (xs ++ y ∷ []) ≡ or_else (position_from t (i + 1) xs) (cond (t y) (Some ((i + 1) + length xs)) None) → cond b (Some i) (position_from t (i + 1) (xs ++ y ∷ [])) ≡ or_else (cond b (Some i) (position_from t (i + 1) xs)) (cond (t y) (Some (i + length (x ∷ xs))) None)
push_at t i xs x y true rest = refl
push_at t i xs x y false rest =
    let e : (i + 1) + length xs ≡ i + length (x ∷ xs) = omega arith in
    rest ∙ ap (λ n. or_else (position_from t (i + 1) xs) (cond (t y) (Some n) None)) e

-- the first place in a list with one more
position_push : {X : Type 0} → (t : X → Bool) (i : ℕ) (xs : List X) (y : X) → position_from t i (xs ++ y ∷ []) ≡ or_else (position_from t i xs) (cond (t y) (Some (i + length xs)) None)
position_push t i [] y = let e : i ≡ i + 0 = omega arith in ap (λ n. cond (t y) (Some n) None) e
position_push t i (x ∷ xs) y = push_at t i xs x y (t x) (position_push t (i + 1) xs y)

pub position_more : {X : Type 0} → (t : X → Bool) (xs : List X) (k : ℕ) (d : X) → k < length xs → position_from t 0 (take (k + 1) xs) ≡ or_else (position_from t 0 (take k xs)) (cond (t (get_or xs k d)) (Some k) None)
position_more t xs k d below =
    let e : 0 + length (take k xs) ≡ k = omega (arith, length-take-le k xs) in
    ap (λ ys. position_from t 0 ys) (take_more xs k d below) ∙ position_push t 0 (take k xs) (get_or xs k d)
    ∙ ap (λ n. or_else (position_from t 0 (take k xs)) (cond (t (get_or xs k d)) (Some n) None)) e

below_at : {X : Type 0} → (t : X → Bool) (i : ℕ) (xs : List X) (x : X) (n : ℕ) (b : Bool) → (position_from t (i + 1) xs ≡ Some n → n < (i + 1) + length xs) → cond b (Some i) (position_from t (i + 1) xs) ≡ Some n → n < i + length (x ∷ xs)
below_at t i xs x n true rest e = let same : i ≡ n = cc in omega arith
below_at t i xs x n false rest e = let h = rest e in omega (arith, h)

position_below : {X : Type 0} → (t : X → Bool) (i : ℕ) (xs : List X) (n : ℕ) → position_from t i xs ≡ Some n → n < i + length xs
position_below t i [] n e = cc
position_below t i (x ∷ xs) n e = below_at t i xs x n (t x) (λ h. position_below t (i + 1) xs n h) e

pub event_below : (names : ImageNames) (name : List ℕ) (n : ℕ) → event_number names name ≡ Some n → n < length names.events
event_below names name n e = let h = position_below (λ e. same_name name e.name) 0 names.events n e in omega (arith, h)

-- a map of the first k, and then of one more
pub numbers_more : {X : Type 0} → (t : List ℕ → X → Bool) (xs : List X) (k : ℕ) (x : X) (old new : List (Bor (List ℕ) × ℕ)) → k < length xs → x ≡ get_or xs k x → AreNumbers old (λ q. position_from (t q) 0 (take k xs)) → ((q : List ℕ) → number_in new q ≡ or_else (number_in old q) (cond (t q x) (Some k) None)) → AreNumbers new (λ q. position_from (t q) 0 (take (k + 1) xs))
numbers_more t xs k x old new below is are adds = λ q. adds q ∙ ap (λ o. or_else o (cond (t q x) (Some k) None)) (are q) ∙ ap (λ y. or_else (position_from (t q) 0 (take k xs)) (cond (t q y) (Some k) None)) is ∙ sym (position_more (t q) xs k x below)

pub event_within : (names : ImageNames) (entries : List (Bor (List ℕ) × ℕ)) (name : List ℕ) (found : Option ℕ) (n : ℕ) → AreNumbers entries (event_number names) → found ≡ number_in entries name → found ≡ Some n → n < length names.events
event_within names entries name found n are is some = event_below names name n (sym (are name) ∙ sym is ∙ some)
