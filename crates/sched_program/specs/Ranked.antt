-- What the processes of a program use, and that ranks and ceilings agree.
use Rattle.std.specs.Prelude.{◌≡◌, ◌<◌, ℕ, true, List, length, Option, Some, None, slice_get, slice_index, slice_index_or}
use Rattle.syntax_tree.specs.Plain.{Process, Program}
use Rattle.source_semantics.specs.Names.{processes, monitors, deadline_of}
use Rattle.source_semantics.specs.Ranks.{rank, ceiling, monitors_of, includes}
use Rattle.sched_response.specs.declared.uses.Use.{Use}
use Rattle.sched_response.specs.Ranked.{use_at, Reaches, AreRanks, AreCeilings}

-- process k uses what its text says
pub record IsUse (g : Program) (p : Process) (u : Use) : Type 0 where
  pub deadline : u.deadline ≡ deadline_of g p.activation
  pub reaches : (m : ℕ) → Reaches m u → includes m (monitors_of g p) ≡ true
  pub reached : (m : ℕ) → includes m (monitors_of g p) ≡ true → Reaches m u

pub record AreUses (g : Program) (us : List Use) : Type 0 where
  pub many : length us ≡ length (processes g)
  pub each : (k : ℕ) (p : Process) → slice_get (processes g) k ≡ Some p → IsUse g p (use_at us k)

-- The law: the ranks of the analysis are those of the source meaning.
abbrev pub RanksAgree : Type 0
RanksAgree = (g : Program) (us : List Use) (ranks : List ℕ) → AreUses g us → AreRanks us ranks → (k : ℕ) → k < length us → slice_index ranks k ≡ rank g k

-- The law: and its ceilings are.
abbrev pub CeilingsAgree : Type 0
CeilingsAgree = (g : Program) (us : List Use) (ranks : List ℕ) (ceilings : List (Option ℕ)) → AreUses g us → AreRanks us ranks → AreCeilings us ranks (length (monitors g)) ceilings
    → (m : ℕ) → m < length (monitors g) → slice_index_or ceilings m None ≡ ceiling g m
