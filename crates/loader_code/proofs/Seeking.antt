-- A search through a list from the left, for a loop over it: the first fault from an index on.
use Rattle.std.proofs.Common.{◌≡◌, ◌<◌, ◌+◌, ◌-◌, ℕ, List, length, Option, Some, None, arith, ap, sym, ◌∙◌, map, get_or}
use Rattle.std.specs.Prelude.{slice_get}
use Rattle.std.proofs.lemmas.Option.{slice_get-map, slice_get-get_or}
use Rattle.valid_image.specs.Fault.{first_of, of_some}
use Rattle.loader_code.proofs.Searching.{none_here, one_here, of_element}
use Rattle.base.proofs.Lists.{map_get}

-- the elements are seen by v
abbrev pub from_index : {A B C : Type 0} → (A → B) → (ℕ → B → Option C) → List A → ℕ → Option C
from_index v f xs i = first_of (λ k. of_some (f k) (slice_get (map v xs) k)) (length xs - i) i

there : {A B : Type 0} (v : A → B) (xs : List A) (i : ℕ) (x : A) → i < length xs → x ≡ get_or xs i x → slice_get (map v xs) i ≡ Some (v x)
there v xs i x low is = map_get v xs i x (slice_get-get_or xs i x low ∙ ap (λ y. Some y) (sym is))

pub goes_on : {A B C : Type 0} (v : A → B) (f : ℕ → B → Option C) (xs : List A) (i : ℕ) (x : A) → i < length xs → x ≡ get_or xs i x → f i (v x) ≡ None → from_index v f xs i ≡ from_index v f xs (i + 1)
goes_on v f xs i x low is none =
    let fewer : length xs - i - 1 ≡ length xs - (i + 1) = omega arith in
    none_here (λ k. of_some (f k) (slice_get (map v xs) k)) (length xs - i) i (omega (arith, low)) (of_element (f i) (slice_get (map v xs) i) (v x) (there v xs i x low is) ∙ none)
    ∙ ap (λ n. first_of (λ k. of_some (f k) (slice_get (map v xs) k)) n (i + 1)) fewer

pub stops_at : {A B C : Type 0} (v : A → B) (f : ℕ → B → Option C) (xs : List A) (i : ℕ) (x : A) (y : C) → i < length xs → x ≡ get_or xs i x → f i (v x) ≡ Some y → from_index v f xs i ≡ Some y
stops_at v f xs i x y low is some =
    one_here (λ k. of_some (f k) (slice_get (map v xs) k)) (length xs - i) i y (omega (arith, low)) (of_element (f i) (slice_get (map v xs) i) (v x) (there v xs i x low is) ∙ some)

-- the same in a loop over a slice of the list, for an answer that is held
pub stops_in : {A B C : Type 0} (v : A → B) (f : ℕ → B → Option C) (xs ys : List A) (i : ℕ) (x : A) (y : C) (whole : Option C) → ys ≡ xs → i < length ys → x ≡ get_or ys i x → Some y ≡ f i (v x) → from_index v f xs i ≡ whole → Some y ≡ whole
stops_in v f xs ys i x y whole same low is some held =
    let there : i < length xs = omega (arith, low, ap (λ zs. length zs) same) in
    sym (stops_at v f xs i x y there (is ∙ ap (λ zs. get_or zs i x) same) (sym some)) ∙ held

pub goes_on_in : {A B C : Type 0} (v : A → B) (f : ℕ → B → Option C) (xs ys : List A) (i : ℕ) (x : A) (whole : Option C) → ys ≡ xs → i < length ys → x ≡ get_or ys i x → None ≡ f i (v x) → from_index v f xs i ≡ whole → from_index v f xs (i + 1) ≡ whole
goes_on_in v f xs ys i x whole same low is none held =
    let there : i < length xs = omega (arith, low, ap (λ zs. length zs) same) in
    sym (goes_on v f xs i x there (is ∙ ap (λ zs. get_or zs i x) same) (sym none)) ∙ held

-- what is there is the same whatever is told of what is not
pub any_default : {A : Type 0} (xs : List A) (i : ℕ) (d e : A) → i < length xs → get_or xs i d ≡ get_or xs i e
any_default xs i d e low = let same : Some (get_or xs i d) ≡ Some (get_or xs i e) = sym (slice_get-get_or xs i d low) ∙ slice_get-get_or xs i e low in cc
