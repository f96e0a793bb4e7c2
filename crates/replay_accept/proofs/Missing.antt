-- Scripts that leave the same due leave the same missing.
use Rattle.std.specs.Prelude.{◌≡◌, ◌↔◌, ◌≤◌, ◌<◌, ℕ}
use Rattle.std.proofs.Common.{sym, ◌∙◌}
use Rattle.syntax_tree.specs.Plain.{Program}
use Rattle.source_semantics.specs.Config.{Config}
use Rattle.source_semantics.specs.Starts.{NoneMissing, Script, due}

pub missing_alike : (g : Program) (c : Config) (s s' : Script) (t : ℕ) (P : Type 0) → ((u : ℕ) → c.tick ≤ u → u < t → due g s c u ≡ due g s' c u) → NoneMissing g s c t ↔ P → NoneMissing g s' c t ↔ P
missing_alike g c s s' t P alike either = (
  λ none. either.0 (λ u low high. alike u low high ∙ none u low high),
  λ p u low high. sym (alike u low high) ∙ either.1 p u low high,
)
