-- Constants: a constant that stands in a text is known where it has a name, and it is a word with or without its minus.
use Rattle.std.proofs.Common.{◌≡◌, zero, suc, ◌≤◌, Bool, true, false, if◌then◌else◌, cond, List, [], ◌∷◌, Option, Some, None, refl, ap, sym, subst, arith}
use Rattle.std.specs.Prelude.{ℤ, pos, negsuc, nat_abs, bytes_eq, Contains, IsSome, option_map, unwrap_or}
use Rattle.std.proofs.lemmas.Bool.{lt-ltb}
use Rattle.base.proofs.Members.{at_front, behind}
use Rattle.base.specs.Words.{is_word}
use Rattle.syntax_tree.specs.Plain.{Name, Var}
use Rattle.syntax_tree.specs.Placed.{Constant, literal_constant, named_constant, Process, Prog, plain, plain_constant}
use Rattle.syntax_tree.specs.declared.place.Place.{Place}
use Rattle.static_names.specs.Reach.{Site}
use Rattle.static_names.specs.Occurrences.{Occurrence, constant_names}
use Rattle.source_semantics.specs.Names.{named, signed, value_among, constants}
use Rattle.static_semantics.specs.Here.{Here, turn, value, meant_constant, meant_outer, meant_own, var_named, is_among, outer_vars}
use Rattle.static_semantics.specs.Statements.{IsConstant}
use Rattle.static_semantics.specs.Written.{ConstantWritten}
use Rattle.static_semantics.specs.Mirrors.{Mirrors}
use Rattle.static_semantics.specs.Judged.{IsKept, AreNames}
use Rattle.wellformed_law.proofs.Uses.{constant_use}

-- ---- words

signed_word : (is_minus : Bool) (v : ℤ) → nat_abs v ≤ 2147483647 → is_word (signed is_minus v) ≡ true
signed_word false (pos n) h = lt-ltb _ _ (omega arith)
signed_word false (negsuc n) h = lt-ltb _ _ (omega arith)
signed_word true (pos zero) h = refl
signed_word true (pos (suc n)) h = lt-ltb _ _ (omega arith)
signed_word true (negsuc n) h = lt-ltb _ _ (omega arith)

-- ---- constants that are known

-- what is found by its name is one of the list
named_listed : {A : Type 0} (name_of : A → Name) (x : Name) (xs : List A) (a : A) → named name_of x xs ≡ Some a → Contains xs a
named_listed name_of x [] a e = cc
named_listed {A} name_of x (y ∷ ys) a e = by (bytes_eq (name_of y) x) e (λ h. named_listed name_of x ys a h)
  where
    by : (b : Bool) → cond b (Some y) (named name_of x ys) ≡ Some a → (named name_of x ys ≡ Some a → Contains ys a) → Contains (y ∷ ys) a
    by true h rest = let same : y ≡ a = cc in subst (λ z. Contains (y ∷ ys) z) same (at_front y ys)
    by false h rest = behind y ys a (rest h)

-- what stands for a constant is one that is known
meant_known : (b : Bool) (own outer : Option Var) (k : Option (Name × ℤ)) → (if b then turn else meant_own own (meant_outer outer (meant_constant k))) ≡ value → IsSome k
meant_known true own outer k e = cc
meant_known false (Some v) outer k e = cc
meant_known false None (Some v) k e = cc
meant_known false None None None e = cc
meant_known false None None (Some k) e = refl

known_small : (known : List (Name × ℤ)) (x : Name) (o : Option (Name × ℤ)) → named (λ k. k.0) x known ≡ o → IsSome o → ((name : Name) (v : ℤ) → Contains known (name, v) → nat_abs v ≤ 2147483647)
    → nat_abs (value_among known x) ≤ 2147483647
known_small known x None e h small = cc
known_small known x (Some k) e h small =
    let is : value_among known x ≡ k.1 = ap (λ (o : Option (Name × ℤ)). unwrap_or (option_map (λ k. k.1) o) (pos 0)) e in
    subst (λ v. nat_abs v ≤ 2147483647) (sym is) (small k.0 k.1 (named_listed (λ k. k.0) x known k e))

pub constant_fits : (g : Prog Place) (p : Process Place) (at : Option Place) (site : Site) (c : Here) (k : Constant Place) (more : List Occurrence) → IsKept g → Mirrors g p at site c
    → ConstantWritten k → AreNames g (constant_names site k more) → IsConstant (constants (plain g)) (plain_constant k)
constant_fits g p at site c (literal_constant q is_minus n r) more kept mirrors written are = record { known_name = tt; word = signed_word is_minus (pos n) written }
constant_fits g p at site c (named_constant q is_minus x r) more kept mirrors written are =
    let is = constant_use g p at site c x r more kept mirrors are in
    let there : IsSome (named (λ k. k.0) x (constants c.program)) =
    meant_known (is_among x c.turns) (var_named x c.own) (var_named x (outer_vars c.program c.process c.home)) (named (λ k. k.0) x (constants c.program)) is in
    let known : IsSome (named (λ k. k.0) x (constants (plain g))) = subst (λ h. IsSome (named (λ k. k.0) x (constants h))) mirrors.program there in
    record { known_name = known; word = signed_word is_minus (value_among (constants (plain g)) x) (known_small (constants (plain g)) x (named (λ k. k.0) x (constants (plain g))) refl known kept.constants) }
