-- The constants of a program: each is a word, and names none but those before it.
use Rattle.std.proofs.Common.{◌≡◌, zero, suc, ◌≤◌, Bool, true, false, cond, List, [], ◌∷◌, ◌++◌, map, append_assoc, Option, Some, None, is_some, ◌⊎◌, inl, inr, refl, ap, sym, ◌∙◌, subst, arith, true≢false}
use Rattle.std.specs.Prelude.{Contains, ℤ, pos, negsuc, nat_abs, IsSome, bytes_eq, unwrap_or, option_map}
use Rattle.std.proofs.lemmas.Option.{none-some, same_Some}
use Rattle.std.proofs.lemmas.Bool.Decides.{nat_tests}
use Rattle.std.proofs.lemmas.List.Elements.{Contains-append_left, Contains-append_cases, All-contains}
use Rattle.std.proofs.lemmas.List.{append-nil}
use Rattle.base.proofs.Members.{at_front, behind, none_in, front_or_behind}
use Rattle.base.specs.Words.{is_word}
use Rattle.syntax_tree.specs.Plain.{Name}
use Rattle.syntax_tree.specs.Placed.{Constant, literal_constant, named_constant, Decl, constant, device, event, routine, monitor, process, Prog, plain, plain_constant, plain_decl}
use Rattle.syntax_tree.specs.declared.place.Place.{Place}
use Rattle.static_names.specs.declared.kind.Declared.{Declared}
use Rattle.static_names.specs.declared.kind.Kind.{Kind as NameKind}
use Rattle.static_names.specs.declared.kind.Kind.TheVariants as kind_is
use Rattle.static_names.specs.declared.kind.NameUse.TheVariants as want_is
use Rattle.static_names.specs.Reach.{Names, Site, suits, inside, inside_monitor}
use Rattle.static_names.specs.Occurrences.{constant_names}
use Rattle.source_semantics.specs.Names.{named, signed, value_among, constant_among, constants_from, constants}
use Rattle.static_semantics.specs.Statements.{IsConstant}
use Rattle.static_semantics.specs.WellFormed.{ConstantsFit}
use Rattle.static_semantics.specs.Places.{IsFound, NamesFound}
use Rattle.static_semantics.specs.Written.{ConstantWritten, DeclWritten, IsWritten}
use Rattle.static_semantics.specs.Mirrors.{NamesListed, program_site}
use Rattle.static_semantics.specs.Judged.{ConstantsSmall, AreNames}
use Rattle.wellformed_law.proofs.Lists.{in_split}
use Rattle.wellformed_law.proofs.Declared.{Lacks, outside_scope, constant_before}
use Rattle.static_names.proofs.Scopes.{same-refl}

-- ---- small values

abbrev pub Small : List (Name × ℤ) → Type 0
Small known = (name : Name) (value : ℤ) → Contains known (name, value) → nat_abs value ≤ 2147483647

signed_abs : (b : Bool) (v : ℤ) → nat_abs (signed b v) ≡ nat_abs v
signed_abs false v = refl
signed_abs true (pos zero) = refl
signed_abs true (pos (suc n)) = refl
signed_abs true (negsuc n) = refl

small_word : (v : ℤ) → nat_abs v ≤ 2147483647 → is_word v ≡ true
small_word (pos n) l = grind (arith, nat_tests)
small_word (negsuc n) l = grind (arith, nat_tests)

found_in : (known : List (Name × ℤ)) (x : Name) (k : Name × ℤ) → named (λ z. z.0) x known ≡ Some k → Contains known k
found_in [] x k e = absurd (none-some k e)
found_in (m ∷ known) x k e = by (found_in known x k) (bytes_eq m.0 x) refl
  where
    by : (named (λ z. z.0) x known ≡ Some k → Contains known k) → (b : Bool) → bytes_eq m.0 x ≡ b → Contains (m ∷ known) k
    by again true w = subst (Contains (m ∷ known)) (same_Some m k (ap (λ b. cond b (Some m) (named (λ z. z.0) x known)) (sym w) ∙ e)) (at_front m known)
    by again false w = behind m known k (again (ap (λ b. cond b (Some m) (named (λ z. z.0) x known)) (sym w) ∙ e))

value_small : (known : List (Name × ℤ)) → Small known → (x : Name) → nat_abs (value_among known x) ≤ 2147483647
value_small known small x = by (named (λ z. z.0) x known) refl
  where
    by : (o : Option (Name × ℤ)) → named (λ z. z.0) x known ≡ o → nat_abs (value_among known x) ≤ 2147483647
    by None e = let w : nat_abs (value_among known x) ≡ 0 = ap (λ o. nat_abs (unwrap_or (option_map (λ z. z.1) o) (pos 0))) e in omega arith
    by (Some k) e = let w : nat_abs (value_among known x) ≡ nat_abs k.1 = ap (λ o. nat_abs (unwrap_or (option_map (λ z. z.1) o) (pos 0))) e in let l = small k.0 k.1 (found_in known x k e) in omega arith

pub constant_small : (known : List (Name × ℤ)) → Small known → (k : Constant Place) → ConstantWritten k → nat_abs (constant_among known (plain_constant k)) ≤ 2147483647
constant_small known small (literal_constant p minus n q) w = let e = signed_abs minus (pos n) in omega arith
constant_small known small (named_constant p minus x q) w = let e = signed_abs minus (value_among known x) in let l = value_small known small x in omega arith

small_more : (known : List (Name × ℤ)) → Small known → (n : Name) (v : ℤ) → nat_abs v ≤ 2147483647 → Small ((n, v) ∷ known)
small_more known small n v l x w h = by (front_or_behind (n, v) known (x, w) h)
  where
    given : Name × ℤ
    given = (n, v)

    by : (given ≡ (x, w)) ⊎ Contains known (x, w) → nat_abs w ≤ 2147483647
    by (inl e) = subst (λ z. nat_abs z ≤ 2147483647) (ap (λ z. z.1) e) l
    by (inr m) = small x w m

constants_small_from : (ds : List (Decl Place)) → ((d : Decl Place) → Contains ds d → DeclWritten d) → (known : List (Name × ℤ)) → Small known → Small (constants_from known (map plain_decl ds))
constants_small_from [] written known small = small
constants_small_from (constant n p k ∷ ds) written known small =
    constants_small_from ds (λ d h. written d (behind _ ds d h)) ((n, constant_among known (plain_constant k)) ∷ known) (small_more known small n _ (constant_small known small k (written (constant n p k) (at_front _ ds))))
constants_small_from (device n p is_out ∷ ds) written known small = constants_small_from ds (λ d h. written d (behind _ ds d h)) known small
constants_small_from (event n p ∷ ds) written known small = constants_small_from ds (λ d h. written d (behind _ ds d h)) known small
constants_small_from (routine r ∷ ds) written known small = constants_small_from ds (λ d h. written d (behind _ ds d h)) known small
constants_small_from (monitor m ∷ ds) written known small = constants_small_from ds (λ d h. written d (behind _ ds d h)) known small
constants_small_from (process q ∷ ds) written known small = constants_small_from ds (λ d h. written d (behind _ ds d h)) known small

pub constants_small : (g : Prog Place) → IsWritten g → ConstantsSmall g
constants_small g written = constants_small_from g.decls (λ d h. All-contains DeclWritten g.decls d written h) [] (λ n v h. absurd (none_in (n, v) h))

-- ---- constants that are known

-- all constants among the declarations are known
abbrev Knows : List (Name × ℤ) → List (Decl Place) → Type 0
Knows known ds = (x : Name) (p : Place) (k : Constant Place) → Contains ds (constant x p k) → IsSome (named (λ z. z.0) x known)

known_more : (known : List (Name × ℤ)) (m : Name × ℤ) (x : Name) → IsSome (named (λ z. z.0) x known) → IsSome (named (λ z. z.0) x (m ∷ known))
known_more known m x h = by (bytes_eq m.0 x)
  where
    by : (b : Bool) → is_some (cond b (Some m) (named (λ z. z.0) x known)) ≡ true
    by true = refl
    by false = h

known_here : (known : List (Name × ℤ)) (x : Name) (v : ℤ) → IsSome (named (λ z. z.0) x ((x, v) ∷ known))
known_here known x v = ap (λ b. is_some (cond b (Some (x, v)) (named (λ z. z.0) x known))) (same-refl x)

knows_constant : (known : List (Name × ℤ)) (ds : List (Decl Place)) (n : Name) (p : Place) (k : Constant Place) (v : ℤ) → Knows known ds → Knows ((n, v) ∷ known) (ds ++ constant n p k ∷ [])
knows_constant known ds n p k v knows x q c h = by (Contains-append_cases ds (constant n p k ∷ []) (constant x q c) h)
  where
    name_of : Decl Place → Name
    name_of (constant y r l) = y
    name_of _ = n

    last : (constant n p k ≡ constant x q c) ⊎ Contains [] (constant x q c) → IsSome (named (λ z. z.0) x ((n, v) ∷ known))
    last (inl e) = subst (λ y. IsSome (named (λ z. z.0) y ((n, v) ∷ known))) (ap name_of e) (known_here known n v)
    last (inr m) = absurd (none_in _ m)

    by : Contains ds (constant x q c) ⊎ Contains (constant n p k ∷ []) (constant x q c) → IsSome (named (λ z. z.0) x ((n, v) ∷ known))
    by (inl m) = known_more known (n, v) x (knows x q c m)
    by (inr m) = last (front_or_behind (constant n p k) [] (constant x q c) m)

abbrev is_constant_decl : Decl Place → Bool
is_constant_decl (constant n p k) = true
is_constant_decl (device n p is_out) = false
is_constant_decl (event n p) = false
is_constant_decl (routine r) = false
is_constant_decl (monitor m) = false
is_constant_decl (process q) = false

knows_other : (known : List (Name × ℤ)) (ds : List (Decl Place)) (d : Decl Place) → is_constant_decl d ≡ false → Knows known ds → Knows known (ds ++ d ∷ [])
knows_other known ds d other knows x q c h = by (Contains-append_cases ds (d ∷ []) (constant x q c) h)
  where
    last : (d ≡ constant x q c) ⊎ Contains [] (constant x q c) → IsSome (named (λ z. z.0) x known)
    last (inl e) = absurd (true≢false (sym (ap is_constant_decl e) ∙ other))
    last (inr m) = absurd (none_in _ m)

    by : Contains ds (constant x q c) ⊎ Contains (d ∷ []) (constant x q c) → IsSome (named (λ z. z.0) x known)
    by (inl m) = knows x q c m
    by (inr m) = last (front_or_behind d [] (constant x q c) m)

knows_all : (before rest : List (Decl Place)) (known : List (Name × ℤ)) → Knows known before → Knows (constants_from known (map plain_decl rest)) (before ++ rest)
knows_all before [] known knows = subst (Knows known) (sym (append-nil before)) knows
knows_all before (constant n p k ∷ ds) known knows =
    subst (Knows (constants_from ((n, constant_among known (plain_constant k)) ∷ known) (map plain_decl ds))) (append_assoc before (constant n p k ∷ []) ds)
    (knows_all (before ++ constant n p k ∷ []) ds ((n, constant_among known (plain_constant k)) ∷ known) (knows_constant known before n p k (constant_among known (plain_constant k)) knows))
knows_all before (device n p is_out ∷ ds) known knows = subst (Knows (constants_from known (map plain_decl ds))) (append_assoc before (device n p is_out ∷ []) ds) (knows_all (before ++ device n p is_out ∷ []) ds known (knows_other known before (device n p is_out) refl knows))
knows_all before (event n p ∷ ds) known knows = subst (Knows (constants_from known (map plain_decl ds))) (append_assoc before (event n p ∷ []) ds) (knows_all (before ++ event n p ∷ []) ds known (knows_other known before (event n p) refl knows))
knows_all before (routine r ∷ ds) known knows = subst (Knows (constants_from known (map plain_decl ds))) (append_assoc before (routine r ∷ []) ds) (knows_all (before ++ routine r ∷ []) ds known (knows_other known before (routine r) refl knows))
knows_all before (monitor m ∷ ds) known knows = subst (Knows (constants_from known (map plain_decl ds))) (append_assoc before (monitor m ∷ []) ds) (knows_all (before ++ monitor m ∷ []) ds known (knows_other known before (monitor m) refl knows))
knows_all before (process q ∷ ds) known knows = subst (Knows (constants_from known (map plain_decl ds))) (append_assoc before (process q ∷ []) ds) (knows_all (before ++ process q ∷ []) ds known (knows_other known before (process q) refl knows))

-- ---- constants where they are used

-- each constant that is in reach is known
abbrev pub Reaches : List (Name × ℤ) → Site → Type 0
Reaches known site = (x : Name) (d : Declared) → site.means x ≡ Some d → d.kind ≡ kind_is.Constant → IsSome (named (λ z. z.0) x known)

wants_constant : (k : NameKind) → suits want_is.Constant k ≡ true → k ≡ kind_is.Constant
wants_constant kind_is.Program e = absurd (true≢false (sym e))
wants_constant kind_is.Constant e = refl
wants_constant kind_is.Device e = absurd (true≢false (sym e))
wants_constant kind_is.Event e = absurd (true≢false (sym e))
wants_constant kind_is.Routine e = absurd (true≢false (sym e))
wants_constant kind_is.Entry e = absurd (true≢false (sym e))
wants_constant kind_is.Monitor e = absurd (true≢false (sym e))
wants_constant kind_is.Process e = absurd (true≢false (sym e))
wants_constant kind_is.Variable e = absurd (true≢false (sym e))
wants_constant kind_is.LoopVariable e = absurd (true≢false (sym e))
wants_constant kind_is.Condition e = absurd (true≢false (sym e))

pub is_constant : (g : Prog Place) → NamesFound g → (known : List (Name × ℤ)) → Small known → (site : Site) → Reaches known site
    → (k : Constant Place) → ConstantWritten k → AreNames g (constant_names site k []) → IsConstant known (plain_constant k)
is_constant g found known small site reaches (literal_constant p minus n q) w names = record { known_name = tt; word = small_word (constant_among known (plain_constant (literal_constant p minus n q))) (constant_small known small (literal_constant p minus n q) w) }
is_constant g found known small site reaches (named_constant p minus x q) w names = record {
  known_name = reaches x f.declared f.meant (wants_constant f.declared.kind f.suited);
  word = small_word (constant_among known (plain_constant (named_constant p minus x q))) (constant_small known small (named_constant p minus x q) w);
}
  where
    f : IsFound g q want_is.Constant (site.means x)
    f = found.uses x q want_is.Constant (site.means x) (names _ (at_front _ []))

pub reaches_program : (g : Prog Place) (before rest : List (Decl Place)) → g.decls ≡ before ++ rest → Reaches (constants (plain g)) (program_site g before rest)
reaches_program g before rest is x d e k = let c = constant_before g before rest x d e k in
    knows_all [] g.decls [] (λ y p l h. absurd (none_in _ h)) x c.place c.value (subst (λ ds. Contains ds (constant x c.place c.value)) (sym is) (Contains-append_left before rest _ c.listed))

pub reaches_inside : (known : List (Name × ℤ)) (ns : Names) (site : Site) → Lacks kind_is.Constant ns → Reaches known site → Reaches known (inside ns site)
reaches_inside known ns site lacks reaches x d e k = reaches x d (outside_scope kind_is.Constant ns x d (site.means x) lacks e k) k

pub reaches_monitor : (known : List (Name × ℤ)) (place : Place) (ns : Names) (site : Site) → Lacks kind_is.Constant ns → Reaches known site → Reaches known (inside_monitor place ns site)
reaches_monitor known place ns site lacks reaches x d e k = reaches x d (outside_scope kind_is.Constant ns x d (site.means x) lacks e k) k

-- ---- the constants of a program

fit_from : (g : Prog Place) → NamesFound g → NamesListed g → IsWritten g → (before rest : List (Decl Place)) → g.decls ≡ before ++ rest
    → (known : List (Name × ℤ)) → Knows known before → Small known → ConstantsFit known (map plain_decl rest)
fit_from g found listed written before [] is known knows small = tt
fit_from g found listed written before (constant n p k ∷ ds) is known knows small = (
  is_constant g found known small (program_site g before (constant n p k ∷ ds)) (λ x d e c. let b = constant_before g before (constant n p k ∷ ds) x d e c in knows x b.place b.value b.listed) k here (listed before (constant n p k) ds is),
  fit_from g found listed written (before ++ constant n p k ∷ []) ds (is ∙ sym (append_assoc before (constant n p k ∷ []) ds)) ((n, constant_among known (plain_constant k)) ∷ known)
      (knows_constant known before n p k (constant_among known (plain_constant k)) knows) (small_more known small n _ (constant_small known small k here)),
)
  where
    here : ConstantWritten k
    here = All-contains DeclWritten g.decls (constant n p k) written (in_split g.decls before ds (constant n p k) is)
fit_from g found listed written before (device n p is_out ∷ ds) is known knows small = fit_from g found listed written (before ++ device n p is_out ∷ []) ds (is ∙ sym (append_assoc before (device n p is_out ∷ []) ds)) known (knows_other known before (device n p is_out) refl knows) small
fit_from g found listed written before (event n p ∷ ds) is known knows small = fit_from g found listed written (before ++ event n p ∷ []) ds (is ∙ sym (append_assoc before (event n p ∷ []) ds)) known (knows_other known before (event n p) refl knows) small
fit_from g found listed written before (routine r ∷ ds) is known knows small = fit_from g found listed written (before ++ routine r ∷ []) ds (is ∙ sym (append_assoc before (routine r ∷ []) ds)) known (knows_other known before (routine r) refl knows) small
fit_from g found listed written before (monitor m ∷ ds) is known knows small = fit_from g found listed written (before ++ monitor m ∷ []) ds (is ∙ sym (append_assoc before (monitor m ∷ []) ds)) known (knows_other known before (monitor m) refl knows) small
fit_from g found listed written before (process q ∷ ds) is known knows small = fit_from g found listed written (before ++ process q ∷ []) ds (is ∙ sym (append_assoc before (process q ∷ []) ds)) known (knows_other known before (process q) refl knows) small

pub constants_fit : (g : Prog Place) → NamesFound g → NamesListed g → IsWritten g → ConstantsFit [] (map plain_decl g.decls)
constants_fit g found listed written = fit_from g found listed written [] g.decls refl [] (λ x p k h. absurd (none_in _ h)) (λ n v h. absurd (none_in (n, v) h))
