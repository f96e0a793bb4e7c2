-- The fault of an image with its part is the fault of that image.
use Rattle.std.specs.Prelude.{◌≡◌, Option, Some, None}
use Rattle.machine_semantics.specs.Image.{Image}
use Rattle.valid_image.specs.Valid.{Part, Shape, Costs, Sizes, Ranks, Bounds, Operands, Handlers, Shown, number_of, fault_of}
use Rattle.faulty_part.specs.declared.part.Subject.{Subject}
use Rattle.faulty_part.specs.declared.part.Subject.TheVariants as subject
use Rattle.faulty_part.specs.declared.part.PartFault.{PartFault}
use Rattle.faulty_part.specs.Parts.{part_fault}

-- which of the seven tests a subject belongs to
abbrev pub test_of : Subject → Part
test_of subject.Operand = Operands
test_of subject.Code = Shape
test_of subject.Handler = Handlers
test_of subject.Run = Costs
test_of subject.Suspension = Costs
test_of subject.Waits = Costs
test_of subject.Stay = Costs
test_of subject.Locals = Sizes
test_of subject.Stack = Sizes
test_of subject.Base = Sizes
test_of subject.Words = Sizes
test_of subject.Rank = Ranks
test_of subject.Ceiling = Ranks
test_of subject.Block = Ranks
test_of subject.Bound = Bounds
test_of subject.Deadline = Bounds

-- what is printed of it
abbrev pub shown_part : PartFault → Shown
shown_part f = record { number = number_of (test_of f.subject); a = f.a; b = f.b }

abbrev pub shown_if : Option PartFault → Option Shown
shown_if None = None
shown_if (Some f) = Some (shown_part f)

abbrev pub PartsHaveTheFault : Type 0
PartsHaveTheFault = (image : Image) → shown_if (part_fault image) ≡ fault_of image
