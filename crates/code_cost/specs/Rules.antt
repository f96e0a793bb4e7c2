-- The rules of size: how many instructions a program has, and how many words its stacks take.
use Rattle.std.specs.Prelude.{◌≡◌, ◌+◌, ◌<◌, ◌⊎◌, ℕ, suc, List, [], ◌∷◌, ◌++◌, Some, Contains, map, slice_get}
use Rattle.syntax_tree.specs.Placed.{Routine, Process, Decl, constant, device, event, routine, monitor, process, Prog, plain, plain_routine, plain_process}
use Rattle.syntax_tree.specs.Parts.{processes}
use Rattle.syntax_tree.specs.Plain as plain_of
use Rattle.syntax_tree.specs.declared.place.Place.{Place}
use Rattle.code_spec.specs.Layout.{Owner, by_program, by_process, by_monitor, routine_words}
use Rattle.code_cost_spec.specs.Heights.{routine_height}
use Rattle.code_cost_spec.specs.Levels.{calls_of, stack_of_process, code_length}

-- a routine or an entry where it stands, with whose it is
pub record PlacedText : Type 0 where
  pub owner : Owner
  pub routine : Routine Place

abbrev pub placed_texts_of : Owner → List (Routine Place) → List PlacedText
placed_texts_of o rs = map (λ r. record { owner = o; routine = r }) rs

-- routines and entries in the order of the text; the processes and monitors from these numbers on
abbrev pub placed_texts_from : ℕ → ℕ → List (Decl Place) → List PlacedText
placed_texts_from k m [] = []
placed_texts_from k m (routine r ∷ ds) = record { owner = by_program; routine = r } ∷ placed_texts_from k m ds
placed_texts_from k m (monitor d ∷ ds) = placed_texts_of (by_monitor m) d.entries ++ placed_texts_from k (suc m) ds
placed_texts_from k m (process p ∷ ds) = placed_texts_of (by_process k) p.routines ++ placed_texts_from (suc k) m ds
placed_texts_from k m (constant n p c ∷ ds) = placed_texts_from k m ds
placed_texts_from k m (device n p is_out ∷ ds) = placed_texts_from k m ds
placed_texts_from k m (event n p ∷ ds) = placed_texts_from k m ds

-- the words that a routine takes by itself: its locals, its operands, and what the routines that it
-- calls take
abbrev pub routine_stack : plain_of.Program → Owner → plain_of.Routine → ℕ
routine_stack g o r = routine_words g r + routine_height g o (calls_of g) r

-- the program has more than 65,535 instructions; the place is that of its name
pub record CodeTooLong (g : Prog Place) (place : Place) : Type 0 where
  pub is : g.place ≡ place
  pub over : 65535 < code_length (plain g)

-- a routine or an entry takes more than 4,096 words by itself; the place is that of its name
pub record RoutineTooLarge (g : Prog Place) (place : Place) : Type 0 where
  pub text : PlacedText
  pub listed : Contains (placed_texts_from 0 0 g.decls) text
  pub is : text.routine.place ≡ place
  pub over : 4096 < routine_stack (plain g) text.owner (plain_routine text.routine)

-- the stack of a process has more than 4,096 words; the place is that of its name
pub record ProcessTooLarge (g : Prog Place) (place : Place) : Type 0 where
  pub number : ℕ
  pub text : Process Place
  pub listed : slice_get (processes g.decls) number ≡ Some text
  pub is : text.place ≡ place
  pub over : 4096 < stack_of_process (plain g) number (plain_process text)

-- a rule of size fails at a place of the program
abbrev pub SizeFails : Prog Place → ℕ → Place → Type 0
SizeFails g number place = ((number ≡ 46) × CodeTooLong g place) ⊎ ((number ≡ 47) × (RoutineTooLarge g place ⊎ ProcessTooLarge g place))
