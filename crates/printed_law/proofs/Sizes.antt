-- Whether a program is too large is told by its tree without places.
use Rattle.std.proofs.Common.{◌≡◌, ◌≤◌, ◌<◌, ℕ, List, Some, map, refl, sym, subst, inl, inr, arith}
use Rattle.std.specs.Prelude.{Contains, slice_get}
use Rattle.base.proofs.Members.{in_map}
use Rattle.syntax_tree.specs.declared.place.Place.{Place}
use Rattle.syntax_tree.specs.Placed.{Prog, plain, plain_decl, plain_process, plain_routine}
use Rattle.syntax_tree.specs.Plain as plain_of
use Rattle.source_semantics.specs.Names.{processes}
use Rattle.code_spec.specs.Numbering as numbering
use Rattle.code_cost_spec.specs.Levels.{code_length, stack_of_process}
use Rattle.code_cost.specs.Rules.{SizeFails, placed_texts_from, routine_stack}
use Rattle.code_cost.proofs.Parts.{plain_process_at, plain_texts}
use Rattle.built_image_law.proofs.CheckedTexts.{IsPlainOf, plain_of_placed, plain_text}
use Rattle.built_image_law.specs.Limits.{StacksAreInLimits}

pub sizes_kept : StacksAreInLimits → (g h : Prog Place) → plain h ≡ plain g → ((number : ℕ) (place : Place) → ¬ SizeFails g number place) → (number : ℕ) (place : Place) → ¬ SizeFails h number place
sizes_kept stacks g h same fits number place (inl (is, long)) =
    fits 46 g.place (inl (refl, record { is = refl; over = subst (λ (p : plain_of.Program). 65535 < code_length p) same long.over }))
sizes_kept stacks g h same fits number place (inr (is, inl large)) =
    let t = plain_text large.text in
    let of_other : Contains (numbering.texts_from 0 0 (map plain_decl h.decls)) t =
    subst (λ (ts : List numbering.Text). Contains ts t) (sym (plain_texts 0 0 h.decls)) (in_map plain_text (placed_texts_from 0 0 h.decls) large.text large.listed) in
    let of_first : Contains (numbering.texts_from 0 0 (map plain_decl g.decls)) t = subst (λ (p : plain_of.Program). Contains (numbering.texts_from 0 0 p.decls) t) same of_other in
    let o : IsPlainOf (placed_texts_from 0 0 g.decls) t = plain_of_placed g.decls t of_first in
    let over : 4096 < routine_stack (plain g) t.owner t.routine = subst (λ (p : plain_of.Program). 4096 < routine_stack p t.owner t.routine) same large.over in
    let own : 4096 < routine_stack (plain g) o.text.owner (plain_routine o.text.routine) = subst (λ (x : numbering.Text). 4096 < routine_stack (plain g) x.owner x.routine) (sym o.is) over in
    fits 47 o.text.routine.place (inr (refl, inl (record { text = o.text; listed = o.listed; is = refl; over = own })))
sizes_kept stacks g h same fits number place (inr (is, inr large)) =
    let p = plain_process large.text in
    let there : slice_get (processes (plain g)) large.number ≡ Some p =
    subst (λ (x : plain_of.Program). slice_get (processes x) large.number ≡ Some p) same (plain_process_at h.decls large.number large.text large.listed) in
    let few : stack_of_process (plain g) large.number p ≤ 4096 = stacks g fits large.number p there in
    let over : 4096 < stack_of_process (plain g) large.number p = subst (λ (x : plain_of.Program). 4096 < stack_of_process x large.number p) same large.over in
    omega (arith, few, over)
