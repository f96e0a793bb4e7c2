-- The stacks of a tree that is the same program as the load.
use Rattle.std.proofs.Common.{◌≡◌, ℕ, ◌⊎◌, inl, inr, List, Contains, Some, map, sym, ap, ◌∙◌, subst, arith}
use Rattle.std.specs.Prelude.{option_map, slice_get}
use Rattle.std.proofs.lemmas.Option.{slice_get-map}
use Rattle.std.proofs.lemmas.List.Elements.{All-contains}
use Rattle.base.proofs.Members.{in_map}
use Rattle.syntax_tree.specs.declared.place.Place.{Place}
use Rattle.syntax_tree.specs.Plain as plain_of
use Rattle.syntax_tree.specs.Placed.{Prog, plain, plain_process}
use Rattle.syntax_tree.specs.Parts as parts
use Rattle.source_semantics.specs.Names.{processes}
use Rattle.code_spec.specs.Numbering.{Text, texts_from}
use Rattle.code_cost_spec.specs.Levels.{stack_of_process}
use Rattle.code_cost.specs.Rules.{routine_stack, RoutineTooLarge, ProcessTooLarge}
use Rattle.code_cost.specs.Rules as rules
use Rattle.load_law.proofs.LoadStacksTrees.{processes_are, texts_are}
use Rattle.load_law.proofs.Heights.{stacks_are, IsLow, all_low}
use Rattle.built_image_law.proofs.CheckedTexts.{plain_text}
use Rattle.load_text_law.proofs.Lists.{load}

module _ (key count : ℕ) (g : Prog Place) (same : plain g ≡ load key count) where
  no_process : (place : Place) → ¬ ProcessTooLarge g place
  no_process place large =
      let p = plain_process large.text in
      let all : map plain_process (parts.processes g.decls) ≡ processes (load key count) = processes_are g.decls ∙ ap processes same in
      let there : slice_get (processes (load key count)) large.number ≡ Some p =
      ap (λ (ps : List plain_of.Process). slice_get ps large.number) (sym all) ∙ slice_get-map plain_process (parts.processes g.decls) large.number
      ∙ ap (option_map plain_process) large.listed in
      omega (arith, large.over, ap (λ h. stack_of_process h large.number p) same, stacks_are key count large.number p there)

  no_routine : (place : Place) → ¬ RoutineTooLarge g place
  no_routine place large =
      let t = plain_text large.text in
      let all : map plain_text (rules.placed_texts_from 0 0 g.decls) ≡ texts_from 0 0 (load key count).decls =
      texts_are 0 0 g.decls ∙ ap (λ (h : plain_of.Program). texts_from 0 0 h.decls) same in
      let there = subst (λ (ts : List Text). Contains ts t) all (in_map plain_text (rules.placed_texts_from 0 0 g.decls) large.text large.listed) in
      let low = All-contains (IsLow (load key count)) (texts_from 0 0 (load key count).decls) t (all_low key count) there in
      omega (arith, large.over, ap (λ h. routine_stack h t.owner t.routine) same, low)

  pub none_large : (place : Place) → ¬ (RoutineTooLarge g place ⊎ ProcessTooLarge g place)
  none_large place (inl routine) = no_routine place routine
  none_large place (inr process) = no_process place process
