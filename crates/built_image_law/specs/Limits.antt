-- The limits of the image that is built of a program that is written.
use Rattle.std.specs.Prelude.{◌≡◌, ◌≤◌, ℕ, List, [], Option, Some, None, slice_get}
use Rattle.syntax_tree.specs.Placed as placed
use Rattle.syntax_tree.specs.Placed.{plain}
use Rattle.syntax_tree.specs.Plain.{Handler, Process, Program}
use Rattle.syntax_tree.specs.declared.place.Place.{Place}
use Rattle.source_semantics.specs.Names.{processes}
use Rattle.machine_semantics.specs.Image as image
use Rattle.image.specs.Named.{NamedImage}
use Rattle.valid_image.specs.Times.{needed_block}
use Rattle.valid_image.specs.Valid.{HasOwner, HasLimits}
use Rattle.code_spec.specs.Compiled.{IsCodeOf}
use Rattle.static_semantics.specs.WellFormed.{IsWellFormed}
use Rattle.code_cost_spec.specs.Levels.{stack_of_process}
use Rattle.code_measures.specs.Declared.{Declares}
use Rattle.front_end.specs.Source.{IsTreeOf}
use Rattle.code_cost.specs.Rules.{SizeFails}
use Rattle.built_image.specs.Built.{IsShaped, IsBuilt}
use Rattle.command_due.specs.Source.{IsWritten}

-- The law: no block of an image that declares what its text says is longer than this.
abbrev pub BlocksAreInLimits : Type 0
BlocksAreInLimits = (g : Program) (m : image.Image) (rank : ℕ) → IsCodeOf g m → Declares g m
    → needed_block m rank ≤ 1000000001

-- The law: where no rule of size fails, no stack of a process has more words.
abbrev pub StacksAreInLimits : Type 0
StacksAreInLimits = (g : placed.Prog Place) → ((number : ℕ) (place : Place) → ¬ SizeFails g number place)
    → (k : ℕ) (t : Process) → slice_get (processes (plain g)) k ≡ Some t
    → stack_of_process (plain g) k t ≤ 4096

-- a handler, if there is one, takes some number
abbrev pub TakesSome : Option Handler → Type 0
TakesSome None = Unit {0}
TakesSome (Some h) = h.numbers ≡ [] → ⊥

-- The law: in the tree of a text each does.
abbrev pub HandlersTakeNumbers : Type 0
HandlersTakeNumbers = (text : List ℕ) (g : placed.Prog Place) → IsTreeOf text g
    → (k : ℕ) (t : Process) → slice_get (processes (plain g)) k ≡ Some t → TakesSome t.handler

-- The law: the monitor of each entry of an image is there.
abbrev pub EntriesHaveOwners : Type 0
EntriesHaveOwners = (g : Program) (m : image.Image) → IsCodeOf g m
    → (r : ℕ) (x : image.Routine) → slice_get m.routines r ≡ Some x → HasOwner m x

-- The law: so a shaped image of a well-formed program that is written, which is its code, has the
-- limits, where no bound is 0.
abbrev pub ShapedImagesAreInLimits : Type 0
ShapedImagesAreInLimits = (text : List ℕ) (g : placed.Prog Place) (over : ℕ) (m : image.Image) → IsWritten text g
    → IsWellFormed (plain g) → IsShaped (plain g) over m → IsCodeOf (plain g) m
    → ((k : ℕ) (p : image.Process) → slice_get m.processes k ≡ Some p → 1 ≤ p.bound) → HasLimits m

-- The law: so an image that is the code of a well-formed program that is written, and built of it,
-- has the limits.
abbrev pub BuiltImagesAreInLimits : Type 0
BuiltImagesAreInLimits = (text : List ℕ) (g : placed.Prog Place) (over : ℕ) (n : NamedImage) → IsWritten text g
    → IsWellFormed (plain g) → IsBuilt (plain g) over n → IsCodeOf (plain g) n.image → HasLimits n.image
