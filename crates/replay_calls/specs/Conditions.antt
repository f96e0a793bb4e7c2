-- The conditions of all monitors in one list, and where those of each monitor stand in it.
use Rattle.std.specs.Prelude.{◌≡◌, ℕ, ◌+◌, List, [], ◌∷◌, flat_map, length}
use Rattle.syntax_tree.specs.Plain.{Monitor, Name, Program}
use Rattle.source_semantics.specs.Names.{conditions_of, monitors}

abbrev pub conditions_in : List Monitor → List Name
conditions_in ms = flat_map conditions_of ms

-- of each monitor the place where its conditions begin, and the one behind them, those of the first
-- beginning here
abbrev pub spans_from : ℕ → List Monitor → List (ℕ × ℕ)
spans_from begin [] = []
spans_from begin (m ∷ ms) = (begin, begin + length (conditions_of m)) ∷ spans_from (begin + length (conditions_of m)) ms

pub record AreNumbered (g : Program) (all : List Name) (places : List (ℕ × ℕ)) : Type 0 where
  pub names : all ≡ conditions_in (monitors g)
  pub spans : places ≡ spans_from 0 (monitors g)
