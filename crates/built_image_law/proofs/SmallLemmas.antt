-- Where no rule of size fails, the code and the frames are not too large.
use Rattle.std.proofs.Common.{◌≤◌, ◌<◌, ◌+◌, ℕ, refl, subst, inl, inr, arith}
use Rattle.std.proofs.lemmas.Bool.{cases_lt}
use Rattle.syntax_tree.specs.Placed.{Prog, plain, plain_routine}
use Rattle.syntax_tree.specs.declared.place.Place.{Place}
use Rattle.code_spec.specs.Layout.{routine_words}
use Rattle.code_spec.specs.Numbering as numbering
use Rattle.code_cost_spec.specs.Heights.{routine_height}
use Rattle.code_cost_spec.specs.Levels.{calls_of, code_length}
use Rattle.codegen_law.specs.Numbered.{AreNumbered}
use Rattle.built_image_law.specs.Ready.{CheckedProgramsAreReady}
use Rattle.codegen_law.specs.Fitting.{FramesFit}
use Rattle.code_cost.specs.Rules.{routine_stack, placed_texts_from}
use Rattle.built_image_law.specs.Runs.{CheckedCodeIsCode}
use Rattle.built_image_law.specs.Small.{KeepsSizes, ProgramsThatKeepSizesAreSmall, GeneratedCodeIsCode}
use Rattle.built_image_law.proofs.CheckedTexts.{IsPlainOf, plain_of_placed}

pub not_over : (limit n : ℕ) → (limit < n → ⊥) → n ≤ limit
not_over limit n never = elim (cases_lt limit n) [ inl over ↦ absurd (never over) | inr within ↦ omega (arith, within) ]

code_fits : (g : Prog Place) → KeepsSizes g → code_length (plain g) ≤ 65535
code_fits g keeps = not_over 65535 (code_length (plain g)) (λ over. keeps 46 g.place (inl (refl, record { is = refl; over = over })))

-- a part of what is within the limit is an operand
within : (words height : ℕ) → words + height ≤ 4096 → words ≤ 2147483647
within words height h = omega arith

module _ (g : Prog Place) (keeps : KeepsSizes g) where
  text_fits : (u : numbering.Text) → IsPlainOf (placed_texts_from 0 0 g.decls) u → routine_words (plain g) u.routine ≤ 2147483647
  text_fits u p =
      let words = routine_words (plain g) (plain_routine p.text.routine) in
      let height = routine_height (plain g) p.text.owner (calls_of (plain g)) (plain_routine p.text.routine) in
      let most = not_over 4096 (routine_stack (plain g) p.text.owner (plain_routine p.text.routine))
      (λ over. keeps 47 p.text.routine.place (inr (refl, inl (record { text = p.text; listed = p.listed; is = refl; over = over })))) in
      subst (λ t. routine_words (plain g) t.routine ≤ 2147483647) p.is (within words height most)

  frames_fit : AreNumbered (plain g) → FramesFit (plain g)
  frames_fit numbers r t at = text_fits t (plain_of_placed g.decls t (numbers.listed r t at))

pub small : CheckedProgramsAreReady → ProgramsThatKeepSizesAreSmall
small ready g checked keeps = record {
  checked = checked;
  frames = frames_fit g keeps (ready g checked).numbered;
  code = code_fits g keeps;
}

pub is_code : ProgramsThatKeepSizesAreSmall → CheckedCodeIsCode → GeneratedCodeIsCode
is_code small code g m checked keeps holds = code g m (small g checked keeps) holds
