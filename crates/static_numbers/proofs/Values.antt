-- The values of the numbers of a handler.
use Rattle.std.proofs.Common.{◌≡◌, Bool, true, false, ◌||◌, List, [], ◌∷◌, ◌++◌, ℤ, pos, negsuc, nat_eq, refl, ap, sym, ◌∙◌, if◌then◌else◌}
use Rattle.std.specs.Ordering.{int_eq}
use Rattle.std.specs.List.{list_any}
use Rattle.std.specs.Bool.{Decides}
use Rattle.std.proofs.lemmas.Bool.Decides.{Decides-eqb, Decides-int_eq, Decides-like, same_from_decides}
use Rattle.std.proofs.lemmas.Cmp.{int_eq_equiv}
use Rattle.std.proofs.lemmas.List.Folds.{list_any-append}
use Rattle.std.proofs.lemmas.Map.Steps.{list_any_congr}
use Rattle.indexmap.specs.IndexSet.{insert_key}
use Rattle.syntax_tree.specs.Placed.{Constant}
use Rattle.syntax_tree.specs.declared.place.Place.{Place}
use Rattle.base.specs.Words.{same}
use Rattle.static_declarations.specs.Values.{Worth}
use Rattle.static_numbers.specs.Processes.{has_value}
use Rattle.static_numbers.specs.Seen.{HasValues}

Decides-same : (a b : ℤ) → Decides (same a b) (b ≡ a)
Decides-same (pos a) (pos b) = Decides-like (nat_eq a b) (λ e. ap pos (sym e)) (λ e. cc) (Decides-eqb a b)
Decides-same (negsuc a) (negsuc b) = Decides-like (nat_eq a b) (λ e. ap negsuc (sym e)) (λ e. cc) (Decides-eqb a b)
Decides-same (pos a) (negsuc b) = (λ e. cc, λ e. cc)
Decides-same (negsuc a) (pos b) = (λ e. cc, λ e. cc)

same-int_eq : (a b : ℤ) → same a b ≡ int_eq b a
same-int_eq a b = same_from_decides (same a b) (int_eq b a) (Decides-same a b) (Decides-int_eq b a)

or-assoc : (a b c : Bool) → ((a || b) || c) ≡ (a || (b || c))
or-assoc true b c = refl
or-assoc false b c = refl

or-false : (a : Bool) → (a || false) ≡ a
or-false true = refl
or-false false = refl

has_value-end : (worth : Worth) (v : ℤ) (before : List (Constant Place)) (c : Constant Place) → has_value worth v (before ++ c ∷ []) ≡ (has_value worth v before || same (worth c) v)
has_value-end worth v [] c = or-false (same (worth c) v)
has_value-end worth v (b ∷ bs) c = ap (λ t. same (worth b) v || t) (has_value-end worth v bs c) ∙ sym (or-assoc (same (worth b) v) (has_value worth v bs) (same (worth c) v))

-- what a set has of which one more key is inserted
list_any-insert : (keys : List ℤ) (k v : ℤ) → list_any (int_eq v) (insert_key int_eq keys k) ≡ (list_any (int_eq v) keys || int_eq v k)
list_any-insert keys k v = by (list_any (int_eq k) keys) refl
  where
    there : (b : Bool) → int_eq v k ≡ b → list_any (int_eq k) keys ≡ true → list_any (int_eq v) keys ≡ (list_any (int_eq v) keys || b)
    there false e h = sym (or-false (list_any (int_eq v) keys))
    there true e h = let is = list_any_congr int_eq_equiv v k keys e ∙ h in is ∙ ap (λ t. t || true) (sym is)

    by : (b : Bool) → list_any (int_eq k) keys ≡ b → list_any (int_eq v) (if b then keys else keys ++ k ∷ []) ≡ (list_any (int_eq v) keys || int_eq v k)
    by true h = there (int_eq v k) refl h
    by false h = list_any-append (int_eq v) keys (k ∷ []) ∙ ap (λ t. list_any (int_eq v) keys || t) (or-false (int_eq v k))

pub known-more : (worth : Worth) (keys new : List ℤ) (k : ℤ) (c : Constant Place) (before : List (Constant Place)) → new ≡ insert_key int_eq keys k → k ≡ worth c
    → HasValues worth keys before → HasValues worth new (before ++ c ∷ [])
known-more worth keys new k c before inserted is known v =
    ap (list_any (int_eq v)) inserted ∙ list_any-insert keys k v
    ∙ ap (λ t. t || int_eq v k) (known v)
    ∙ ap (λ t. has_value worth v before || t) (ap (int_eq v) is ∙ sym (same-int_eq (worth c) v))
    ∙ sym (has_value-end worth v before c)
