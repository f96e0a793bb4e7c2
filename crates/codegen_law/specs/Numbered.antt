-- The routines of a program by number: each stands once, behind all that it calls.
use Rattle.std.specs.Prelude.{◌≡◌, ℕ, ◌<◌, ◌≤◌, List, Some, length, slice_get, Contains}
use Rattle.syntax_tree.specs.Plain.{Program}
use Rattle.source_semantics.specs.Names.{routine_count}
use Rattle.code_spec.specs.Numbering.{Text, Called, called_text, routine_calls, texts_from, numbered, number_of}
use Rattle.codegen_law.specs.Kept.{NamesDiffer}

-- all routines and entries, in the order of the text
abbrev pub texts : Program → List Text
texts g = texts_from 0 0 g.decls

-- one routine or entry calls another
pub record CallsText (g : Program) (from to : Text) : Type 0 where
  pub call : Called
  pub listed : Contains (routine_calls from.routine) call
  pub means : called_text g from.owner call ≡ Some to

-- each has a level above those that it calls, and the levels are fewer than the routines
pub record AreLevels (g : Program) (level : Text → ℕ) : Type 0 where
  pub falls : (from to : Text) → Contains (texts g) from → CallsText g from to → level to < level from
  pub few : (t : Text) → Contains (texts g) t → level t < routine_count g

-- Each routine and entry stands under its number, all that it calls has lower numbers, and there
-- are no other numbers.
pub record AreNumbered (g : Program) : Type 0 where
  pub few : length (numbered g) ≤ routine_count g
  pub listed : (r : ℕ) (t : Text) → slice_get (numbered g) r ≡ Some t → Contains (texts g) t
  pub there : (t : Text) → Contains (texts g) t → slice_get (numbered g) (number_of g t) ≡ Some t
  pub once : (r : ℕ) (t : Text) → slice_get (numbered g) r ≡ Some t → number_of g t ≡ r
  pub behind : (from to : Text) → Contains (texts g) from → CallsText g from to → number_of g to < number_of g from

-- The law: so it is where names differ and routines have levels.
abbrev pub RoutinesAreNumbered : Type 0
RoutinesAreNumbered = (g : Program) (level : Text → ℕ) → NamesDiffer g → AreLevels g level → AreNumbered g
