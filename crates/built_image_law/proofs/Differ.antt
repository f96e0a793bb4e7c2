-- Names of one scope differ, where none is taken.
use Rattle.std.proofs.Common.{◌≡◌, inl, inr, Bool, true, false, cond, ◌||◌, List, [], ◌∷◌, ◌++◌, map, Some, None, is_some, refl, ap, sym, ◌∙◌}
use Rattle.syntax_tree.specs.Plain.{Name}
use Rattle.syntax_tree.specs.Placed.{Routine, Decl, constant, device, event, routine, monitor, process}
use Rattle.syntax_tree.specs.Parts.{program_routines}
use Rattle.syntax_tree.specs.declared.place.Place.{Place}
use Rattle.static_names.specs.declared.kind.Declared.{Declared}
use Rattle.static_names.specs.Reach.{same, Names, Reach, first, Site}
use Rattle.static_names.specs.Occurrences.{Occurrence, declares, declarations, decl_name, others, decls_names}
use Rattle.source_semantics.specs.Names.{named}
use Rattle.wellformed_law.proofs.Members.{In, ends-in, in-map}
use Rattle.wellformed_law.proofs.Lookups.{some-none, named-step, named-here, or_else-first, or_else-second}
use Rattle.wellformed_law.proofs.NamesAfter.{ends-inner}
use Rattle.wellformed_law.proofs.ProgramScope.{routine_called}
use Rattle.static_names.proofs.Programs.{first-append}
use Rattle.static_names.proofs.Scopes.{none-of, same-refl}

-- each name differs from those behind it
abbrev pub Differ : Names → Type 0
Differ [] = Unit {0}
Differ (d ∷ ds) = ((e : Name × Declared) → In ds e → same e.0 d.0 ≡ false) × Differ ds

pub differ_behind : (xs ys : Names) → Differ (xs ++ ys) → Differ ys
differ_behind [] ys h = h
differ_behind (x ∷ xs) ys h = differ_behind xs ys h.1

-- none of the names is taken
abbrev pub Free : List Occurrence → Type 0
Free os = (n : Name) (q : Place) (t : Bool) → In os (declares n q t) → t ≡ false

left_false : (a b : Bool) → (a || b) ≡ false → a ≡ false
left_false false b e = refl
left_false true b e = let h : true ≡ false = e in cc

not_same : (n k : Name) (d : Declared) → cond (same n k) (Some d) None ≡ None → same n k ≡ false
not_same n k d e = by (same n k) e
  where
    by : (b : Bool) → cond b (Some d) None ≡ None → b ≡ false
    by true h = absurd (some-none d h)
    by false h = refl

-- ---- one scope

-- nobody of the scope stands earlier
scope_new : (outside : Reach) (earlier ds : Names) (more : List Occurrence) → Free (declarations outside earlier ds more) → (e : Name × Declared) → In ds e → first earlier e.0 ≡ None
scope_new outside earlier [] more free e i = absurd i
scope_new outside earlier (d ∷ ds) more free e (inl is) =
    ap (λ z. first earlier z.0) (sym is) ∙ none-of (first earlier d.0) (left_false (is_some (first earlier d.0)) (is_some (outside d.0)) (free d.0 d.1.place _ (inl refl)))
scope_new outside earlier (d ∷ ds) more free e (inr i) =
    or_else-first (first earlier e.0) (first (d ∷ []) e.0)
    (sym (first-append earlier (d ∷ []) e.0) ∙ scope_new outside (earlier ++ d ∷ []) ds more (λ n q t j. free n q t (inr j)) e i)

pub scope_differs : (outside : Reach) (earlier ds : Names) (more : List Occurrence) → Free (declarations outside earlier ds more) → Differ ds
scope_differs outside earlier [] more free = tt
scope_differs outside earlier (d ∷ ds) more free = (
  λ e i. not_same e.0 d.0 d.1
      (or_else-second (first earlier e.0) (first (d ∷ []) e.0)
      (sym (first-append earlier (d ∷ []) e.0) ∙ scope_new outside (earlier ++ d ∷ []) ds more (λ n q t j. free n q t (inr j)) e i)),
  scope_differs outside (earlier ++ d ∷ []) ds more (λ n q t j. free n q t (inr j)),
)

-- ---- the declarations of a program

rest_free : (members : Place → Reach) (earlier : Names) (d : Decl Place) (ds : List (Decl Place)) (more : List Occurrence) → Free (decls_names members earlier (d ∷ ds) more) → Free (decls_names members (earlier ++ decl_name d ∷ []) ds more)
rest_free members earlier d ds more free n q t j =
    let here : Site = record { means = first (earlier ++ others (d ∷ ds)); members = members } in
    free n q t (inr (ends-in (decls_names members (earlier ++ decl_name d ∷ []) ds more) _ _ (ends-inner here d (decls_names members (earlier ++ decl_name d ∷ []) ds more)) j))

decls_new : (members : Place → Reach) (earlier : Names) (ds : List (Decl Place)) (more : List Occurrence) → Free (decls_names members earlier ds more) → (e : Decl Place) → In ds e → first earlier (decl_name e).0 ≡ None
decls_new members earlier [] more free e i = absurd i
decls_new members earlier (d ∷ ds) more free e (inl is) =
    ap (λ z. first earlier (decl_name z).0) (sym is) ∙ none-of (first earlier (decl_name d).0) (free (decl_name d).0 (decl_name d).1.place _ (inl refl))
decls_new members earlier (d ∷ ds) more free e (inr i) =
    or_else-first (first earlier (decl_name e).0) (first (decl_name d ∷ []) (decl_name e).0)
    (sym (first-append earlier (decl_name d ∷ []) (decl_name e).0) ∙ decls_new members (earlier ++ decl_name d ∷ []) ds more (rest_free members earlier d ds more free) e i)

-- each declaration's name differs from those behind it
abbrev pub DeclsDiffer : List (Decl Place) → Type 0
DeclsDiffer [] = Unit {0}
DeclsDiffer (d ∷ ds) = ((e : Decl Place) → In ds e → same (decl_name e).0 (decl_name d).0 ≡ false) × DeclsDiffer ds

pub decls_differ : (members : Place → Reach) (earlier : Names) (ds : List (Decl Place)) (more : List Occurrence) → Free (decls_names members earlier ds more) → DeclsDiffer ds
decls_differ members earlier [] more free = tt
decls_differ members earlier (d ∷ ds) more free = (
  λ e i. not_same (decl_name e).0 (decl_name d).0 (decl_name d).1
      (or_else-second (first earlier (decl_name e).0) (first (decl_name d ∷ []) (decl_name e).0)
      (sym (first-append earlier (decl_name d ∷ []) (decl_name e).0) ∙ decls_new members (earlier ++ decl_name d ∷ []) ds more (rest_free members earlier d ds more free) e i)),
  decls_differ members (earlier ++ decl_name d ∷ []) ds more (rest_free members earlier d ds more free),
)

-- ---- whoever stands in a scope is found by the name

pub differ_found : {A : Type 0} (label : A → Name × Declared) (things : List A) → Differ (map label things) → (t : A) → In things t → named (λ a. (label a).0) (label t).0 things ≡ Some t
differ_found label [] h t i = absurd i
differ_found label (a ∷ things) h t (inl is) = named-here (λ b. (label b).0) (label t).0 a things (ap (λ b. same (label t).0 (label b).0) is ∙ same-refl (label t).0) ∙ ap (λ b. Some b) is
differ_found label (a ∷ things) h t (inr i) = named-step (λ b. (label b).0) (label t).0 a things (h.0 (label t) (in-map label things t i)) ∙ differ_found label things h.1 t i

pub program_found : (ds : List (Decl Place)) → DeclsDiffer ds → (r : Routine Place) → In ds (routine r) → named routine_called r.name (program_routines ds) ≡ Some r
program_found [] h r i = absurd i
program_found (routine s ∷ ds) h r (inl is) = let same_one : s ≡ r = cc in named-here routine_called r.name s (program_routines ds) (ap (λ q. same r.name q.name) same_one ∙ same-refl r.name) ∙ ap (λ q. Some q) same_one
program_found (routine s ∷ ds) h r (inr i) = named-step routine_called r.name s (program_routines ds) (h.0 (routine r) i) ∙ program_found ds h.1 r i
program_found (constant n q k ∷ ds) h r (inl is) = absurd cc
program_found (constant n q k ∷ ds) h r (inr i) = program_found ds h.1 r i
program_found (device n q b ∷ ds) h r (inl is) = absurd cc
program_found (device n q b ∷ ds) h r (inr i) = program_found ds h.1 r i
program_found (event n q ∷ ds) h r (inl is) = absurd cc
program_found (event n q ∷ ds) h r (inr i) = program_found ds h.1 r i
program_found (monitor m ∷ ds) h r (inl is) = absurd cc
program_found (monitor m ∷ ds) h r (inr i) = program_found ds h.1 r i
program_found (process p ∷ ds) h r (inl is) = absurd cc
program_found (process p ∷ ds) h r (inr i) = program_found ds h.1 r i
