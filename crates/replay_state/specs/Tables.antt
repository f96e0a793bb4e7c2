-- Ranks and ceilings of a program by number, and the configurations of a program.
use Rattle.std.specs.Prelude.{◌≡◌, ◌<◌, ℕ, Bool, List, None, is_some, length, not, slice_index, slice_index_or}
use Rattle.std.specs.List.{list_all}
use Rattle.syntax_tree.specs.Plain.{Program}
use Rattle.source_semantics.specs.Names.{processes, monitors, condition_count}
use Rattle.source_semantics.specs.Config.{Config, Hold}
use Rattle.source_semantics.specs.Ranks.{rank, ceiling}
use Rattle.replay_state.specs.declared.ranks.Ranks.{Ranks}

-- there are as many processes, monitors and queues as the program has
pub record Fits (g : Program) (c : Config) : Type 0 where
  pub jobs : length c.jobs ≡ length (processes g)
  pub holds : length c.holds ≡ length (monitors g)
  pub queues : length c.queues ≡ condition_count (monitors g)

pub record AreRanksOf (g : Program) (r : Ranks) : Type 0 where
  pub count : length r.ranks.items ≡ length (processes g)
  pub each : (k : ℕ) → k < length (processes g) → slice_index r.ranks.items k ≡ rank g k
  pub ceiling_count : length r.ceilings.items ≡ length (monitors g)
  pub each_ceiling : (m : ℕ) → m < length (monitors g) → slice_index_or r.ceilings.items m None ≡ ceiling g m

-- nobody is inside any of the monitors
abbrev pub are_free : List Hold → Bool
are_free hs = list_all (λ h. not (is_some h.occupant)) hs
