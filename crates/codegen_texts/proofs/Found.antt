-- The callees that names in calls mean.
use Rattle.std.proofs.Common.{◌≡◌, ◌∙◌, sym, ap, refl, ℕ, Bool, true, false, cond, List, [], ◌∷◌, Option, Some, None, map}
use Rattle.std.specs.Prelude.{option_map, bytes_eq}
use Rattle.std.proofs.lemmas.Bool.{eqb-true, and_parts}
use Rattle.std.proofs.lemmas.Option.{slice_get-map}
use Rattle.std.proofs.lemmas.Slice.Eq.{bytes_eq-Decides}
use Rattle.syntax_tree.specs.Plain.{Name, Program}
use Rattle.source_semantics.specs.Names.{monitors, routines}
use Rattle.source_semantics.specs.Run.{or_else}
use Rattle.code_spec.specs.Layout.{Owner, by_program, by_process, by_monitor}
use Rattle.code_spec.specs.Numbering.{Text, same_owner, routine_of, routine_in, entry_in}
use Rattle.code_names.specs.First.{index_of}
use Rattle.code_names.proofs.NameListTable.{get_some}
use Rattle.codegen_spec.specs.Told.{callee}
use Rattle.code_names.specs.Parts.{all_texts}
use Rattle.code_names.specs.Texts.{is_text, text_index, text_named}
use Rattle.code_names.proofs.NumberingTable.{text-index}
use Rattle.code_names.proofs.Meaning.{of-program, process-own, entry-meant, entry-none}
use Rattle.codegen_texts.specs.Shared.{callees_told}

got-map : {A B : Type 0} (f : A → B) (xs : List A) (o : Option ℕ) → get_some (map f xs) o ≡ option_map f (get_some xs o)
got-map f xs None = refl
got-map f xs (Some k) = slice_get-map f xs k

owner-true : (o p : Owner) → same_owner o p ≡ true → o ≡ p
owner-true by_program by_program e = refl
owner-true (by_process k) (by_process j) e = ap by_process (eqb-true k j e)
owner-true (by_monitor k) (by_monitor j) e = ap by_monitor (eqb-true k j e)
owner-true by_program (by_process j) e = cc
owner-true by_program (by_monitor j) e = cc
owner-true (by_process k) by_program e = cc
owner-true (by_process k) (by_monitor j) e = cc
owner-true (by_monitor k) by_program e = cc
owner-true (by_monitor k) (by_process j) e = cc

-- what is found is of the owner and name
found-is : (o : Owner) (f : Name) (ts : List Text) (t : Text) → text_named o f ts ≡ Some t → is_text o f t ≡ true
found-is o f [] t e = cc
found-is o f (u ∷ us) t e = by-test (is_text o f u) refl (λ found. found-is o f us t found) e
  where
    by-test : (b : Bool) → is_text o f u ≡ b → (text_named o f us ≡ Some t → is_text o f t ≡ true) → cond b (Some u) (text_named o f us) ≡ Some t → is_text o f t ≡ true
    by-test true is later found = let same : u ≡ t = cc in ap (is_text o f) (sym same) ∙ is
    by-test false is later found = later found

-- and found again by its own owner and name
found-again : (o : Owner) (f : Name) (ts : List Text) (t : Text) → text_named o f ts ≡ Some t → text_named t.owner t.routine.name ts ≡ Some t
found-again o f ts t e =
    let parts = and_parts (same_owner t.owner o) (bytes_eq t.routine.name f) (found-is o f ts t e) in
    ap (λ p. text_named p t.routine.name ts) (owner-true t.owner o parts.0)
    ∙ ap (λ n. text_named o n ts) ((bytes_eq-Decides t.routine.name f).0 parts.1) ∙ e

-- the callee at the first text of the owner and name of one that is found
pub callee-found : (g : Program) (o : Owner) (f : Name) (t : Text) → text_named o f (all_texts g) ≡ Some t → get_some (callees_told g) (text_index t.owner t.routine.name (all_texts g)) ≡ Some (callee g t)
callee-found g o f t e =
    got-map (callee g) (all_texts g) (text_index t.owner t.routine.name (all_texts g))
    ∙ ap (option_map (callee g)) (text-index t.owner t.routine.name (all_texts g) ∙ found-again o f (all_texts g) t e)

-- a routine that a call names is a first one
program-found : (g : Program) (f : Name) (t : Text) → routine_of by_program (routines g) f ≡ Some t → text_named by_program f (all_texts g) ≡ Some t
program-found g f t e = of-program f 0 0 g.decls ∙ e

pub routine-found : (g : Program) (o : Owner) (f : Name) (t : Text) → routine_in g o f ≡ Some t → get_some (callees_told g) (text_index t.owner t.routine.name (all_texts g)) ≡ Some (callee g t)
routine-found g by_program f t e = callee-found g by_program f t (program-found g f t e)
routine-found g (by_monitor m) f t e = callee-found g by_program f t (program-found g f t e)
routine-found g (by_process k) f t e = by-own (text_named (by_process k) f (all_texts g)) refl (ap (λ o. or_else o (routine_of by_program (routines g) f)) (process-own g k f) ∙ e)
  where
    by-own : (o : Option Text) → text_named (by_process k) f (all_texts g) ≡ o → or_else o (routine_of by_program (routines g) f) ≡ Some t
        → get_some (callees_told g) (text_index t.owner t.routine.name (all_texts g)) ≡ Some (callee g t)
    by-own None is found = callee-found g by_program f t (program-found g f t found)
    by-own (Some u) is found = callee-found g (by_process k) f t (is ∙ found)

pub entry-found : (g : Program) (m f : Name) (t : Text) → entry_in g m f ≡ Some t → get_some (callees_told g) (text_index t.owner t.routine.name (all_texts g)) ≡ Some (callee g t)
entry-found g m f t e = by-index (index_of m (map (λ k. k.name) (monitors g))) refl
  where
    by-index : (o : Option ℕ) → index_of m (map (λ k. k.name) (monitors g)) ≡ o → get_some (callees_told g) (text_index t.owner t.routine.name (all_texts g)) ≡ Some (callee g t)
    by-index None is = let none : None ≡ Some t = entry-none g m f is ∙ e in cc
    by-index (Some k) is = callee-found g (by_monitor k) f t (entry-meant g m f k is ∙ e)
