-- What contracts see of the code's texts, and the first of an owner and a name in a list of texts.
use Rattle.std.specs.Prelude.{◌≡◌, ℕ, suc, Bool, ◌&&◌, cond, List, [], ◌∷◌, map, Option, Some, None, option_map, bytes_eq, find, if◌then◌else◌}
use Rattle.std.specs.Map.{lookup}
use Rattle.std.specs.Borrow.{Bor}
use Rattle.syntax_tree.specs.Plain.{Name}
use Rattle.syntax_tree.specs.Placed.{placed_routine, plain_routine}
use Rattle.source_semantics.specs.Run.{or_else}
use Rattle.code_spec.specs.Layout as layout
use Rattle.code_spec.specs.Layout.{by_program, by_process, by_monitor}
use Rattle.code_spec.specs.Numbering.{Text, same_owner}
use Rattle.code_names.specs.declared.text.RoutineOwner.{RoutineOwner}
use Rattle.code_names.specs.declared.text.RoutineOwner.TheVariants as owner_is
use Rattle.code_names.specs.declared.text.Body as code_text

abbrev pub owner_of : RoutineOwner → layout.Owner
owner_of owner_is.Program = by_program
owner_of (owner_is.Process k) = by_process k
owner_of (owner_is.Monitor m) = by_monitor m

abbrev pub text_of : code_text.Body → Text
text_of t = record { owner = owner_of t.owner; routine = plain_routine (placed_routine t.routine.now) }

abbrev pub texts_of : List code_text.Body → List Text
texts_of ts = map text_of ts

-- the text is a routine of that owner and name
abbrev pub is_text : layout.Owner → Name → Text → Bool
is_text o f t = same_owner t.owner o && bytes_eq t.routine.name f

-- the index of the first routine of that owner and name, from 0
abbrev pub text_index : layout.Owner → Name → List Text → Option ℕ
text_index o f [] = None
text_index o f (t ∷ ts) = cond (is_text o f t) (Some 0) (option_map (λ k. suc k) (text_index o f ts))

-- the first routine of that owner and name
abbrev pub text_named : layout.Owner → Name → List Text → Option Text
text_named o f ts = find (is_text o f) ts

-- ---- the table of a list

abbrev pub same_key : (o : RoutineOwner) → Name → (p : RoutineOwner) → Name → Bool
same_key o n p m = same_owner (owner_of o) (owner_of p) && bytes_eq n m

-- the index that the table has for an owner and a name
abbrev pub first_text : List ((RoutineOwner × Bor Name) × ℕ) → RoutineOwner → Name → Option ℕ
first_text entries o n = lookup (λ k. same_key o n k.0 k.1.now) entries

-- once the index of one more is kept, unless its owner and name have one
abbrev pub with_first : (RoutineOwner → Name → Option ℕ) → RoutineOwner → Name → ℕ → RoutineOwner → Name → Option ℕ
with_first known p m i = λ o n. or_else (known o n) (if same_key o n p m then Some i else None)

-- the table has the index of the first of each owner and name
pub record HasFirsts (entries : List ((RoutineOwner × Bor Name) × ℕ)) (texts : List Text) : Type 0 where
  pub finds : (o : RoutineOwner) (n : Name) → first_text entries o n ≡ text_index (owner_of o) n texts
