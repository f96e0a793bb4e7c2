-- No stack is larger than the rules of size allow.
use Rattle.std.proofs.Common.{◌≡◌, ◌∙◌, ◌⊎◌, inl, inr, ℕ, zero, suc, List, [], ◌∷◌, map, Some, arith, refl, ap, sym}
use Rattle.std.specs.Prelude.{slice_get}
use Rattle.std.proofs.lemmas.Bool.{cases_lt}
use Rattle.std.proofs.lemmas.Option.{same_Some}
use Rattle.syntax_tree.specs.Placed as placed
use Rattle.syntax_tree.specs.Placed.{plain, plain_process}
use Rattle.syntax_tree.specs.Parts as parts
use Rattle.syntax_tree.specs.Plain.{Process}
use Rattle.syntax_tree.specs.declared.place.Place.{Place}
use Rattle.source_semantics.specs.Names.{processes}
use Rattle.code_cost_spec.specs.Levels.{stack_of_process}
use Rattle.wellformed_law.proofs.Standing.{plain_processes}
use Rattle.code_cost.specs.Rules.{ProcessTooLarge}
use Rattle.built_image_law.specs.Limits.{StacksAreInLimits}

-- a process of the plain program, where it stands in the text
pub record Placed (ps : List (placed.Process Place)) (k : ℕ) (t : Process) : Type 0 where
  pub one : placed.Process Place
  pub there : slice_get ps k ≡ Some one
  pub is : plain_process one ≡ t

mapped : (ps : List (placed.Process Place)) (k : ℕ) (t : Process) → slice_get (map plain_process ps) k ≡ Some t → Placed ps k t
mapped [] k t at = absurd cc
mapped (p ∷ ps) zero t at = record { one = p; there = refl; is = same_Some (plain_process p) t at }
mapped (p ∷ ps) (suc k) t at = let r = mapped ps k t at in record { one = r.one; there = r.there; is = r.is }

pub placed_at : (g : placed.Prog Place) (k : ℕ) (t : Process) → slice_get (processes (plain g)) k ≡ Some t → Placed (parts.processes g.decls) k t
placed_at g k t at =
    mapped (parts.processes g.decls) k t (ap (λ (ps : List Process). slice_get ps k) (sym (plain_processes g.decls)) ∙ at)

pub stacks_are_in_limits : StacksAreInLimits
stacks_are_in_limits g fits k t at =
    let q : Placed (parts.processes g.decls) k t = placed_at g k t at in
    let same : stack_of_process (plain g) k (plain_process q.one) ≡ stack_of_process (plain g) k t = ap (λ (p : Process). stack_of_process (plain g) k p) q.is in
    elim (cases_lt 4096 (stack_of_process (plain g) k (plain_process q.one))) [
      | inl over ↦
          let large : ProcessTooLarge g q.one.place = record { number = k; text = q.one; listed = q.there; is = refl; over = over } in
          absurd (fits 47 q.one.place (inr (refl, inr large)))
      | inr within ↦ omega (arith, within, same)
    ]
