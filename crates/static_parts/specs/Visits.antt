-- What contracts see of the parts that a walk is at, and of where it ends.
use Rattle.std.specs.Prelude.{Option, Some, None}
use Rattle.syntax_tree.specs.Placed.{placed_stmt, placed_scalar, placed_expr}
use Rattle.static_parts.specs.declared.part.ProgramPart.{ProgramPart}
use Rattle.static_parts.specs.declared.part.ProgramPart.TheVariants as part_is
use Rattle.static_declarations.specs.Parts.{Part, statement, answer}

abbrev pub part_of : ProgramPart → Part
part_of (part_is.Statement here s) = statement here (placed_stmt s.now)
part_of (part_is.Answer name kind value) = answer name (placed_scalar kind.now) (placed_expr value.now)

-- what comes of a walk that ended at a part, or else went on
abbrev pub come_to : {Found : Type 0} → (Part → Found) → Option Part → Found → Found
come_to ended None more = more
come_to ended (Some part) more = ended part
