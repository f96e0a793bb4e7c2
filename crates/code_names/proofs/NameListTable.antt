-- What the table says once more is kept in it, and what it finds.
use Rattle.std.proofs.Common.{◌≤◌, ◌<◌, drop, get_or, ◌≡◌, ◌∙◌, sym, ap, refl, ℕ, suc, ◌+◌, Bool, true, false, cond, List, [], ◌∷◌, Option, Some, None, if◌then◌else◌, map, length, arith}
use Rattle.std.specs.Prelude.{option_map, bytes_eq, is_some, slice_get, find, unwrap_or}
use Rattle.std.specs.Borrow.{Bor}
use Rattle.std.specs.Map.{lookup}
use Rattle.std.proofs.lemmas.List.{drop_all, drop_more}
use Rattle.std.proofs.lemmas.Cmp.{nat_list_eq_equiv}
use Rattle.std.proofs.lemmas.Slice.Eq.{bytes_eq-Decides}
use Rattle.syntax_tree.specs.Plain.{Name}
use Rattle.source_semantics.specs.Names.{named, place_of}
use Rattle.source_semantics.specs.Run.{or_else}
use Rattle.code_names.specs.First.{index_of, names_of, first_index, with_first, with_names, nothing}

pub or-none : {A : Type 0} (o : Option A) → or_else o None ≡ o
or-none None = refl
or-none (Some x) = refl

-- an index put at a name that had none
pub first-put : (k : Bor Name) (v : ℕ) (old new : List (Bor Name × ℕ)) → ((q : Bor Name) → lookup (λ x. bytes_eq q.now x.now) new ≡ cond (bytes_eq k.now q.now) (Some v) (lookup (λ x. bytes_eq q.now x.now) old)) → is_some (first_index old k.now) ≡ false → first_index new ≡ with_first (first_index old) k.now v
first-put k v old new puts absent = λ i n. at n i
  where
    none : (o : Option ℕ) → is_some o ≡ false → o ≡ None
    none None e = refl
    none (Some x) e = cc

    by-test : (n : Name) (b : Bool) → bytes_eq k.now n ≡ b → cond b (Some v) (first_index old n) ≡ or_else (first_index old n) (if b then Some v else None)
    by-test n true e = sym (ap (λ o. or_else o (Some v)) (ap (first_index old) (sym ((bytes_eq-Decides k.now n).0 e)) ∙ none (first_index old k.now) absent))
    by-test n false e = sym (or-none (first_index old n))

    at : (n : Name) → first_index new n ≡ with_first (first_index old) k.now v n
    at n =
        let q : Bor Name = record k { now = n } in
        puts q ∙ by-test n (bytes_eq k.now n) refl ∙ ap (λ b. or_else (first_index old n) (if b then Some v else None)) (nat_list_eq_equiv.symm k.now n)

-- a name that has an index keeps it
pub first-kept : (m : Name) (v : ℕ) (old : List (Bor Name × ℕ)) → is_some (first_index old m) ≡ true → first_index old ≡ with_first (first_index old) m v
first-kept m v old present = λ i n. at n i
  where
    some : (o : Option ℕ) (other : Option ℕ) → is_some o ≡ true → o ≡ or_else o other
    some None other e = cc
    some (Some x) other e = refl

    by-test : (n : Name) (b : Bool) → bytes_eq n m ≡ b → first_index old n ≡ or_else (first_index old n) (if b then Some v else None)
    by-test n true e = some (first_index old n) (Some v) (ap (λ k. is_some (first_index old k)) ((bytes_eq-Decides n m).0 e) ∙ present)
    by-test n false e = sym (or-none (first_index old n))

    at : (n : Name) → first_index old n ≡ with_first (first_index old) m v n
    at n = by-test n (bytes_eq n m) refl

shifted : (i : ℕ) (o : Option ℕ) → option_map (λ k. suc i + k) o ≡ option_map (λ k. i + k) (option_map (λ k. suc k) o)
shifted i None = refl
shifted i (Some k) = ap Some (omega arith)

with-names : (known : Name → Option ℕ) (i : ℕ) (ms : List Name) (n : Name) → with_names known i ms n ≡ or_else (known n) (option_map (λ k. i + k) (index_of n ms))
with-names known i [] n = sym (or-none (known n))
with-names known i (m ∷ ms) n =
    with-names (with_first known m i) (suc i) ms n ∙ step (known n) (bytes_eq n m)
    ∙ ap (λ b. or_else (known n) (option_map (λ k. i + k) (cond b (Some 0) (option_map (λ k. suc k) (index_of n ms))))) (nat_list_eq_equiv.symm n m)
  where
    step : (o : Option ℕ) (b : Bool) → or_else (or_else o (if b then Some i else None)) (option_map (λ k. suc i + k) (index_of n ms)) ≡ or_else o (option_map (λ k. i + k) (cond b (Some 0) (option_map (λ k. suc k) (index_of n ms))))
    step (Some x) b = refl
    step None true = ap Some (omega arith)
    step None false = shifted i (index_of n ms)

from-zero : (o : Option ℕ) → option_map (λ k. 0 + k) o ≡ o
from-zero None = refl
from-zero (Some k) = ap Some (omega arith)

-- what the table of all names finds
pub finds-index : (names : List Name) (n : Name) → with_names nothing 0 names n ≡ index_of n names
finds-index names n = with-names nothing 0 names n ∙ from-zero (index_of n names)

-- ---- for callers: the first of a name among things, by its index

-- the thing at an index that is perhaps there
abbrev pub get_some : {A : Type 0} → List A → Option ℕ → Option A
get_some xs None = None
get_some xs (Some k) = slice_get xs k

next-got : {A : Type 0} (x : A) (xs : List A) (o : Option ℕ) → get_some (x ∷ xs) (option_map (λ k. suc k) o) ≡ get_some xs o
next-got x xs None = refl
next-got x xs (Some k) = refl

pub named-index : {A : Type 0} (name_of : A → Name) (n : Name) (xs : List A) → get_some xs (index_of n (map name_of xs)) ≡ named name_of n xs
named-index name_of n [] = refl
named-index name_of n (x ∷ xs) = by-test (next-got x xs (index_of n (map name_of xs)) ∙ named-index name_of n xs) (bytes_eq (name_of x) n)
  where
    by-test : get_some (x ∷ xs) (option_map (λ k. suc k) (index_of n (map name_of xs))) ≡ named name_of n xs → (b : Bool) → get_some (x ∷ xs) (cond b (Some 0) (option_map (λ k. suc k) (index_of n (map name_of xs)))) ≡ cond b (Some x) (named name_of n xs)
    by-test rest true = refl
    by-test rest false = rest

later : (o : Option ℕ) (n : ℕ) → unwrap_or (option_map (λ k. suc k) o) (suc n) ≡ suc (unwrap_or o n)
later None n = refl
later (Some k) n = refl

-- the place of a name is the index of the first, or the number of names
pub place-index : (n : Name) (ns : List Name) → unwrap_or (index_of n ns) (length ns) ≡ place_of n ns
place-index n [] = refl
place-index n (m ∷ ms) = by-test (later (index_of n ms) (length ms) ∙ ap (λ k. suc k) (place-index n ms)) (bytes_eq m n)
  where
    by-test : unwrap_or (option_map (λ k. suc k) (index_of n ms)) (suc (length ms)) ≡ suc (place_of n ms) → (b : Bool) → unwrap_or (cond b (Some 0) (option_map (λ k. suc k) (index_of n ms))) (suc (length ms)) ≡ cond b 0 (suc (place_of n ms))
    by-test rest true = refl
    by-test rest false = rest

-- ---- names looked at one by one

-- what is found from an index on, as an index in the whole list
abbrev pub from_on : (i : ℕ) → Name → List (Bor Name) → Option ℕ
from_on i n ns = option_map (λ k. i + k) (index_of n (names_of (drop i ns)))

next : (n : Name) (ns : List (Bor Name)) (i : ℕ) (d : Bor Name) (b : Bool) → i < length ns → bytes_eq (get_or ns i d).now n ≡ b
    → index_of n (names_of (drop i ns)) ≡ cond b (Some 0) (option_map (λ k. suc k) (index_of n (names_of (drop (i + 1) ns))))
next n ns i d b low is =
    ap (λ xs. index_of n (names_of xs)) (drop_more ns i d low) ∙ ap (λ t. cond t (Some 0) (option_map (λ k. suc k) (index_of n (names_of (drop (i + 1) ns))))) is

pub found-here : (n : Name) (ns : List (Bor Name)) (i : ℕ) (d : Bor Name) (all : Option ℕ) → i < length ns → bytes_eq (get_or ns i d).now n ≡ true → from_on i n ns ≡ all → Some i ≡ all
found-here n ns i d all low is so_far =
    let here : i ≡ i + 0 = omega arith in
    ap Some here ∙ sym (ap (λ o. option_map (λ k. i + k) o) (next n ns i d true low is)) ∙ so_far

one-on : (i : ℕ) (o : Option ℕ) → option_map (λ k. i + 1 + k) o ≡ option_map (λ k. i + k) (option_map (λ k. suc k) o)
one-on i None = refl
one-on i (Some k) = ap Some (omega arith)

pub not-here : (n : Name) (ns : List (Bor Name)) (i : ℕ) (d : Bor Name) (all : Option ℕ) → i < length ns → bytes_eq (get_or ns i d).now n ≡ false → from_on i n ns ≡ all → from_on (i + 1) n ns ≡ all
not-here n ns i d all low is so_far = one-on i (index_of n (names_of (drop (i + 1) ns))) ∙ sym (ap (λ o. option_map (λ k. i + k) o) (next n ns i d false low is)) ∙ so_far

pub nowhere : (n : Name) (ns : List (Bor Name)) (i : ℕ) (all : Option ℕ) → length ns ≤ i → from_on i n ns ≡ all → None ≡ all
nowhere n ns i all past so_far = sym (ap (λ xs. option_map (λ k. i + k) (index_of n (names_of xs))) (drop_all i ns past)) ∙ so_far
