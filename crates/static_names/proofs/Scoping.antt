-- Steps of loops that declare the names of a scope, and what a scope means then.
use Rattle.std.proofs.Common.{◌≡◌, ◌<◌, ◌≤◌, ◌+◌, ℕ, Bool, true, false, cond, ◌||◌, Option, Some, None, is_some, List, [], ◌∷◌, ◌++◌, length, drop, get_or, refl, sym, ap, subst, ◌∙◌, append_assoc, append-nil}
use Rattle.std.proofs.lemmas.List.{drop_all}
use Rattle.static_names.specs.declared.kind.Declared.{Declared}
use Rattle.syntax_tree.specs.Plain.{Name}
use Rattle.static_names.specs.Reach.{Names, Reach, nowhere, first, same, or_else}
use Rattle.static_names.specs.Occurrences.{Occurrence, declares, declarations}
use Rattle.static_names.specs.Findings.{Found, noted}
use Rattle.static_names.specs.Seen.{Scoped, add, add_all, declared_after}
use Rattle.static_names.proofs.Walks.{drop-item}

module _ (outside : Reach) (f : Found) (s : Reach) (ds : Names) where
  pub scoped-step : (g h : Found) (t u : Reach) (d : Name × Declared) (es : Names) → Scoped outside f s ds g t (d ∷ es) → Scoped outside g t (d ∷ []) h u [] → Scoped outside f s ds h u es
  scoped-step g h t u d es left one = record {
    notes = λ rest more. one.notes (es ++ rest) more ∙ left.notes rest more;
    scope = λ rest. one.scope (es ++ rest) ∙ left.scope rest;
  }

  module _ {X : Type 0} (names : List X → Names) (one : X → Name × Declared) where
    pub loop-step : ((x : X) (xs : List X) → names (x ∷ xs) ≡ one x ∷ names xs) → (xs : List X) (i : ℕ) (x : X) (g h : Found) (t u : Reach) → i < length xs → x ≡ get_or xs i x
        → Scoped outside f s ds g t (names (drop i xs)) → Scoped outside g t (one x ∷ []) h u [] → Scoped outside f s ds h u (names (drop (i + 1) xs))
    loop-step splits xs i x g h t u below item left noted_one =
        scoped-step g h t u (one x) (names (drop (i + 1) xs)) (subst (λ es. Scoped outside f s ds g t es) (ap names (drop-item xs i x below item) ∙ splits x (drop (i + 1) xs)) left) noted_one

    pub loop-end : names [] ≡ [] → (xs : List X) (i : ℕ) (g : Found) (t : Reach) → length xs ≤ i → Scoped outside f s ds g t (names (drop i xs)) → Scoped outside f s ds g t []
    loop-end ends xs i g t past left = subst (λ es. Scoped outside f s ds g t es) (ap names (drop_all i xs past) ∙ ends) left

-- ---- the scope that is made, name after name, is that of the list of its names

or_else-split : (b : Bool) (x : Declared) (y z : Option Declared) → cond b (Some x) (or_else y z) ≡ or_else (cond b (Some x) y) z
or_else-split true x y z = refl
or_else-split false x y z = refl

pub first-snoc : (es : Names) (d : Name × Declared) (n : Name) → first (es ++ d ∷ []) n ≡ add (first es) d n
first-snoc [] d n = refl
first-snoc (e ∷ es) d n = ap (λ r. cond (same n e.0) (Some e.1) r) (first-snoc es d n) ∙ or_else-split (same n e.0) e.1 (first es n) (cond (same n d.0) (Some d.1) None)

pub snoc : (es : Names) (d : Name × Declared) → first (es ++ d ∷ []) ≡ add (first es) d
snoc es d = λ i n. first-snoc es d n i

pub declarations-after : (outside : Reach) (earlier ds : Names) (more : List Occurrence) → declared_after outside (first earlier) ds more ≡ declarations outside earlier ds more
declarations-after outside earlier [] more = refl
declarations-after outside earlier (d ∷ ds) more =
    ap (λ r. declares d.0 d.1.place (is_some (first earlier d.0) || is_some (outside d.0)) ∷ declared_after outside r ds more) (sym (snoc earlier d))
    ∙ ap (λ os. declares d.0 d.1.place (is_some (first earlier d.0) || is_some (outside d.0)) ∷ os) (declarations-after outside (earlier ++ d ∷ []) ds more)

pub add_all-first : (earlier ds : Names) → add_all (first earlier) ds ≡ first (earlier ++ ds)
add_all-first earlier [] = ap first (sym (append-nil earlier))
add_all-first earlier (d ∷ ds) = ap (λ r. add_all r ds) (sym (snoc earlier d)) ∙ add_all-first (earlier ++ d ∷ []) ds ∙ ap first (append_assoc earlier (d ∷ []) ds)

-- the names of a whole scope
module _ (outside : Reach) (f g : Found) (s u : Reach) (ds : Names) (empty : s ≡ nowhere) (made : Scoped outside f s ds g u []) where
  pub made-notes : (more : List Occurrence) → noted g more ≡ noted f (declarations outside [] ds more)
  made-notes more =
      made.notes [] more
      ∙ ap (λ l. noted f (declared_after outside s l more)) (append-nil ds)
      ∙ ap (λ r. noted f (declared_after outside r ds more)) empty
      ∙ ap (noted f) (declarations-after outside [] ds more)

  pub made-means : u ≡ first ds
  made-means = made.scope [] ∙ ap (add_all s) (append-nil ds) ∙ ap (λ r. add_all r ds) empty ∙ add_all-first [] ds
