-- What makes a block: of the lower stays that are as long, one.
use Rattle.std.specs.Prelude.{◌≡◌, ◌≤◌, ℕ, Option, Some, None, slice_get}
use Rattle.syntax_tree.specs.Plain.{Monitor, Program}
use Rattle.source_semantics.specs.Names.{monitors}
use Rattle.source_semantics.specs.Ranks.{rank}
use Rattle.code_spec.specs.Layout.{by_monitor}
use Rattle.code_spec.specs.Numbering.{Text, texts_from, place_among}
use Rattle.sched_program.specs.Tasks.{IsLowerStay}
use Rattle.sched_sections.specs.declared.levels.Blocker.{Blocker}

-- the entry of a lower stay
abbrev pub entry_of : {g : Program} {held_up ticks : ℕ} → IsLowerStay g held_up ticks → Text
entry_of stay = record { owner = by_monitor stay.monitor; routine = stay.entry }

-- the place of a routine or an entry among those of the text
abbrev pub place_in : Program → Text → ℕ
place_in g t = place_among t (texts_from 0 0 g.decls)

-- Of the lower stays that take the ticks of the block: the entry that stands first in the text, and
-- of the processes that come to it the one of the least rank number, the nearest below. All three
-- go by their names.
pub record IsBlocker (g : Program) (held_up block : ℕ) (b : Blocker) : Type 0 where
  pub stay : IsLowerStay g held_up block
  pub first : (other : IsLowerStay g held_up block) → place_in g (entry_of stay) ≤ place_in g (entry_of other)
  pub nearest : (other : IsLowerStay g held_up block) → place_in g (entry_of stay) ≡ place_in g (entry_of other) → rank g stay.number ≤ rank g other.number
  pub owner : Monitor
  pub owns : slice_get (monitors g) stay.monitor ≡ Some owner
  pub monitor : b.monitor ≡ owner.name
  pub entry : b.entry ≡ stay.entry.name
  pub process : b.process ≡ stay.process.name

-- what makes the block of a rank; nothing where the block is 0
abbrev pub IsBlockerOf : Program → (held_up block : ℕ) → Option Blocker → Type 0
IsBlockerOf g held_up block None = block ≡ 0
IsBlockerOf g held_up block (Some b) = IsBlocker g held_up block b
