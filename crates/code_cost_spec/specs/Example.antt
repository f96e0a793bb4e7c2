-- The costs and sizes of a program with a monitor, a wait with a limit of 30 ticks, a signal and a
-- handler.
use Rattle.std.specs.Prelude.{◌≡◌, ℕ, suc, List, [], ◌∷◌, map}
use Rattle.syntax_tree.specs.Plain.{Process}
use Rattle.source_semantics.specs.Names.{processes}
use Rattle.source_semantics_law.specs.Example.{signalled_wait}
use Rattle.code_spec.specs.Numbering.{numbered}
use Rattle.valid_image.specs.Found.{amount}
use Rattle.code_cost_spec.specs.Levels.{cost_of_routine, stay_of_entry, cost_of_process, stack_of_process, code_length}

-- of each process from number k on
abbrev pub each : {A : Type 0} → (ℕ → Process → A) → ℕ → List Process → List A
each f k [] = []
each f k (p ∷ ps) = f k p ∷ each f (suc k) ps

pub record ExampleIs : Type 0 where
  pub routines : map (λ t. cost_of_routine signalled_wait t) (numbered signalled_wait) ≡ amount 22 30 1 ∷ amount 17 0 0 ∷ []
  pub stays : map (λ t. stay_of_entry signalled_wait t) (numbered signalled_wait) ≡ 13 ∷ 8 ∷ []
  pub bodies : each (λ k p. cost_of_process signalled_wait k p) 0 (processes signalled_wait) ≡ amount 43 30 1 ∷ amount 27 0 0 ∷ []
  pub stacks : each (λ k p. stack_of_process signalled_wait k p) 0 (processes signalled_wait) ≡ 2 ∷ 2 ∷ []
  pub length : code_length signalled_wait ≡ 16
