-- Targets: where the rules hold of what is assigned to, it is one word that may be assigned to where it stands.
use Rattle.std.proofs.Common.{◌≡◌, ◌⊎◌, inl, inr, true, false, ◌&&◌, List, Option, Some, None, ap, sym, ◌∙◌, true≢false}
use Rattle.std.specs.Prelude.{not}
use Rattle.std.proofs.lemmas.Bool.{or_parts, and_parts}
use Rattle.syntax_tree.specs.Plain.{Name}
use Rattle.syntax_tree.specs.Placed.{Kind, Ref, whole, part, Process, Prog, plain_kind, plain_ref}
use Rattle.syntax_tree.specs.declared.place.Place.{Place}
use Rattle.static_names.specs.Reach.{Site}
use Rattle.static_names.specs.declared.kind.NameUse.TheVariants as want_is
use Rattle.static_names.specs.Occurrences.{Occurrence, uses, expr_names, ref_names}
use Rattle.static_declarations.specs.declared.home.StmtContext.{StmtContext}
use Rattle.static_declarations.specs.declared.home.StmtContext.TheVariants as home_is
use Rattle.static_declarations.specs.declared.sort.Sort.{Sort}
use Rattle.static_declarations.specs.declared.sort.Sort.TheVariants as sort_is
use Rattle.static_declarations.specs.Things.{Thing, variable_thing, shape_of, thing_at, named_at}
use Rattle.static_declarations.specs.Sorts.{fits}
use Rattle.static_types.specs.Sorts.{is_array, sort, agrees}
use Rattle.static_types.specs.Types.{target_sort, target_agrees}
use Rattle.static_types.specs.Conduct.{is_foreign, ref_strays, target_strays}
use Rattle.static_semantics.specs.Here.{Here, own_variable, outer_variable, meant, is_assignable}
use Rattle.static_semantics.specs.Typed.{IsTarget}
use Rattle.static_semantics.specs.Written.{RefWritten}
use Rattle.static_semantics.specs.Mirrors.{Mirrors, IsVariable}
use Rattle.static_semantics.specs.Judged.{IsKept, IsHome, AreNames}
use Rattle.wellformed_law.proofs.Uses.{word_of, element_of, more_names, variable_value, target_use}
use Rattle.wellformed_law.proofs.Expressions.{is_of_fits}

-- in a function, a variable that is none of its own is foreign
no_function : (home : StmtContext) (at : Option Place) (c : Here) (o : Option Thing) (k : Kind Place) → IsHome home at c → o ≡ Some (variable_thing None (shape_of k)) → is_foreign home o ≡ false → c.is_function ≡ false
no_function home_is.Free at c o k in_home is h = in_home.1
no_function home_is.Entry at c o k in_home is h = in_home.1
no_function (home_is.Function own) at c o k in_home is h = absurd (true≢false (sym (ap (is_foreign (home_is.Function own)) is) ∙ h))

assignable : (g : Prog Place) (home : StmtContext) (at : Option Place) (c : Here) (x : Name) (place : Place) (o : Option Thing) → o ≡ Some (thing_at g place) → IsHome home at c → IsVariable g c at x place → is_foreign home o ≡ false
    → is_assignable c.is_function (meant c x) ≡ true
assignable g home at c x place o is in_home v h = by v.stands
  where
    by : ((thing_at g place ≡ variable_thing at (shape_of v.kind)) × (meant c x ≡ own_variable (plain_kind v.kind)))
        ⊎ ((thing_at g place ≡ variable_thing None (shape_of v.kind)) × (meant c x ≡ outer_variable (plain_kind v.kind)))
        → is_assignable c.is_function (meant c x) ≡ true
    by (inl s) = ap (is_assignable c.is_function) s.1
    by (inr s) = ap (is_assignable c.is_function) s.1 ∙ ap not (no_function home at c o v.kind in_home (is ∙ ap Some s.0) h)

pub target_fits : (g : Prog Place) (p : Process Place) (at : Option Place) (site : Site) (c : Here) (home : StmtContext) (r : Ref Place) (more : List Occurrence) → IsKept g → Mirrors g p at site c
    → IsHome home at c → RefWritten r → AreNames g (ref_names site r more) → target_agrees (named_at g) r ≡ true → target_strays (named_at g) home r ≡ false
    → (s : Sort) × (target_sort (named_at g) r ≡ Some s) × IsTarget c s (plain_ref r)
target_fits g p at site c home (whole q x) more kept mirrors in_home written are agree stray =
    let k = or_parts (is_foreign home (named_at g q)) false stray in
    let u = target_use g p at site c x q more kept mirrors are in
    let w = word_of (named_at g q) (meant c x) (variable_value g p at c x u.0 (named_at g q) u.1 u.2) agree in
    (w.0, w.1, (assignable g home at c x u.0 (named_at g q) u.1 in_home u.2 k.0, w.2))
target_fits g p at site c home (part q x i) more kept mirrors in_home written are agree stray =
    let h = and_parts (is_array (named_at g q)) (agrees (named_at g) i && fits sort_is.Number (sort (named_at g) i)) agree in
    let k = or_parts (is_foreign home (named_at g q)) (ref_strays (named_at g) (part q x i)) stray in
    let u = target_use g p at site c x q (expr_names site i more) kept mirrors are in
    let w = element_of (named_at g q) (meant c x) (variable_value g p at c x u.0 (named_at g q) u.1 u.2) h.0 in
    let inner = more_names g (uses site x q want_is.Target) (expr_names site i more) are in
    (w.0, w.1, (assignable g home at c x u.0 (named_at g q) u.1 in_home u.2 k.0, w.2, is_of_fits g p at site c sort_is.Number i more kept mirrors written inner h.1 k.1))
