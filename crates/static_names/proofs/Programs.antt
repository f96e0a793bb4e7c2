-- The names of declarations, one after another.
use Rattle.std.proofs.Common.{◌≡◌, Bool, true, false, cond, ◌&&◌, Option, Some, None, is_some, List, [], ◌∷◌, ◌++◌, map, refl, sym, ap, ◌∙◌}
use Rattle.syntax_tree.specs.Plain.{Name}
use Rattle.syntax_tree.specs.Placed.{Decl, constant, device, event, routine, monitor, process}
use Rattle.syntax_tree.specs.declared.place.Place.{Place}
use Rattle.static_names.specs.declared.kind.Declared.{Declared}
use Rattle.syntax_tree.specs.Parts.{same_place}
use Rattle.static_names.specs.Reach.{same, Names, Reach, nowhere, first, or_else}
use Rattle.static_names.specs.Occurrences.{Occurrence, declares, decl_name, entry_name, others, entries_at, inner_names, decls_names}
use Rattle.static_names.specs.Seen.{add, add_all, put, add_entry, add_entries, add_monitors, decls_after}
use Rattle.static_names.proofs.Scoping.{snoc, add_all-first}

-- others and monitors, one declaration at a time
pub others-cons : (r : Reach) (d : Decl Place) (ds : List (Decl Place)) → add_all r (others (d ∷ ds)) ≡ add_all (add_all r (others (d ∷ []))) (others ds)
others-cons r (constant name p c) ds = refl
others-cons r (device name p is_out) ds = refl
others-cons r (event name p) ds = refl
others-cons r (routine t) ds = refl
others-cons r (monitor m) ds = refl
others-cons r (process p) ds = refl

pub monitors-cons : (r : Place → Reach) (d : Decl Place) (ds : List (Decl Place)) → add_monitors r (d ∷ ds) ≡ add_monitors (add_monitors r (d ∷ [])) ds
monitors-cons r (constant name p c) ds = refl
monitors-cons r (device name p is_out) ds = refl
monitors-cons r (event name p) ds = refl
monitors-cons r (routine t) ds = refl
monitors-cons r (monitor m) ds = refl
monitors-cons r (process p) ds = refl

-- what has a meaning keeps it, and else the first of the names counts
or_else-assoc : (x y z : Option Declared) → or_else (or_else x y) z ≡ or_else x (or_else y z)
or_else-assoc None y z = refl
or_else-assoc (Some x) y z = refl

or_else-if : (b : Bool) (x : Declared) (z : Option Declared) → or_else (cond b (Some x) None) z ≡ cond b (Some x) z
or_else-if true x z = refl
or_else-if false x z = refl

or_else-none : (x : Option Declared) → or_else x None ≡ x
or_else-none None = refl
or_else-none (Some x) = refl

pub add_all-split : (r : Reach) (ds : Names) (n : Name) → add_all r ds n ≡ or_else (r n) (first ds n)
add_all-split r [] n = sym (or_else-none (r n))
add_all-split r (d ∷ ds) n = add_all-split (add r d) ds n ∙ or_else-assoc (r n) (cond (same n d.0) (Some d.1) None) (first ds n) ∙ ap (λ z. or_else (r n) z) (or_else-if (same n d.0) d.1 (first ds n))

-- a name that is not declared yet, put before all that come later
module _ (s : Reach) (d : Name × Declared) (ds : Names) (respects : (n : Name) → same n d.0 ≡ true → s n ≡ s d.0) where
  pub put-before : is_some (s d.0) ≡ false → put (add_all s ds) d ≡ add_all (add s d) ds
  put-before new = λ i n. at n (same n d.0) refl i
    where
      none : (o : Option Declared) → is_some o ≡ false → o ≡ None
      none None e = refl
      none (Some x) e = cc

      at : (n : Name) (b : Bool) → same n d.0 ≡ b → put (add_all s ds) d n ≡ add_all (add s d) ds n
      at n true e =
          ap (λ b. cond b (Some d.1) (add_all s ds n)) e
          ∙ ap (λ o. or_else (or_else o (Some d.1)) (first ds n)) (sym (respects n e ∙ none (s d.0) new))
          ∙ ap (λ b. or_else (or_else (s n) (cond b (Some d.1) None)) (first ds n)) (sym e)
          ∙ sym (add_all-split (add s d) ds n)
      at n false e =
          ap (λ b. cond b (Some d.1) (add_all s ds n)) e
          ∙ add_all-split s ds n
          ∙ ap (λ o. or_else o (first ds n)) (sym (or_else-none (s n)))
          ∙ ap (λ b. or_else (or_else (s n) (cond b (Some d.1) None)) (first ds n)) (sym e)
          ∙ sym (add_all-split (add s d) ds n)

cond-same : (b : Bool) (x : Option Declared) → x ≡ cond b x x
cond-same true x = refl
cond-same false x = refl

-- the entries of monitors, by the place of the monitor's name
add_entries-split : (r : Place → Reach) (q : Place) (ds : Names) (p : Place) (n : Name) → add_entries r q ds p n ≡ or_else (r p n) (cond (same_place p q) (first ds n) None)
add_entries-split r q [] p n = sym (or_else-none (r p n)) ∙ ap (or_else (r p n)) (cond-same (same_place p q) None)
add_entries-split r q (d ∷ ds) p n = add_entries-split (add_entry r q d) q ds p n ∙ or_else-assoc (r p n) (cond (same_place p q && same n d.0) (Some d.1) None) (cond (same_place p q) (first ds n) None) ∙ ap (or_else (r p n)) (by (same_place p q) (same n d.0))
  where
    by : (b c : Bool) → or_else (cond (b && c) (Some d.1) None) (cond b (first ds n) None) ≡ cond b (cond c (Some d.1) (first ds n)) None
    by true true = refl
    by true false = refl
    by false c = refl

pub first-append : (ds es : Names) (n : Name) → first (ds ++ es) n ≡ or_else (first ds n) (first es n)
first-append [] es n = refl
first-append (d ∷ ds) es n = ap (λ r. cond (same n d.0) (Some d.1) r) (first-append ds es n) ∙ by (same n d.0)
  where
    by : (b : Bool) → cond b (Some d.1) (or_else (first ds n) (first es n)) ≡ or_else (cond b (Some d.1) (first ds n)) (first es n)
    by true = refl
    by false = refl

pub add_monitors-split : (r : Place → Reach) (ds : List (Decl Place)) (p : Place) (n : Name) → add_monitors r ds p n ≡ or_else (r p n) (first (entries_at ds p) n)
add_monitors-split r [] p n = sym (or_else-none (r p n))
add_monitors-split r (constant name q c ∷ ds) p n = add_monitors-split r ds p n
add_monitors-split r (device name q is_out ∷ ds) p n = add_monitors-split r ds p n
add_monitors-split r (event name q ∷ ds) p n = add_monitors-split r ds p n
add_monitors-split r (routine t ∷ ds) p n = add_monitors-split r ds p n
add_monitors-split r (process q ∷ ds) p n = add_monitors-split r ds p n
add_monitors-split r (monitor m ∷ ds) p n =
    add_monitors-split (add_entries r m.place es) ds p n
    ∙ ap (λ o. or_else o (first (entries_at ds p) n)) (add_entries-split r m.place es p n)
    ∙ or_else-assoc (r p n) (cond (same_place p m.place) (first es n) None) (first (entries_at ds p) n)
    ∙ ap (or_else (r p n)) (by (same_place p m.place))
  where
    es : Names
    es = map entry_name m.entries

    by : (b : Bool) → or_else (cond b (first es n) None) (first (entries_at ds p) n) ≡ first (cond b (es ++ entries_at ds p) (entries_at ds p)) n
    by true = sym (first-append es (entries_at ds p) n)
    by false = refl

pub members-are : (ds : List (Decl Place)) → add_monitors (λ p. nowhere) ds ≡ (λ p. first (entries_at ds p))
members-are ds = λ i p n. add_monitors-split (λ p. nowhere) ds p n i

-- the names of declarations, what stands before them being known by its meaning alone
pub decls-after : (members : Place → Reach) (earlier : Names) (ds : List (Decl Place)) (more : List Occurrence) → decls_after members (first earlier) ds more ≡ decls_names members earlier ds more
decls-after members earlier [] more = refl
decls-after members earlier (d ∷ ds) more =
    ap (λ r. first_of ∷ inner_names (record { means = add_all (first earlier) (others (d ∷ ds)); members = members }) d (decls_after members r ds more)) (sym (snoc earlier (decl_name d)))
    ∙ ap (λ os. first_of ∷ inner_names (record { means = add_all (first earlier) (others (d ∷ ds)); members = members }) d os) (decls-after members (earlier ++ decl_name d ∷ []) ds more)
    ∙ ap (λ r. first_of ∷ inner_names (record { means = r; members = members }) d (decls_names members (earlier ++ decl_name d ∷ []) ds more)) (add_all-first earlier (others (d ∷ ds)))
  where
    first_of : Occurrence
    first_of = declares (decl_name d).0 (decl_name d).1.place (is_some (first earlier (decl_name d).0))
