-- The frame and the deadline of each process.
use Rattle.std.proofs.Common.{◌≡◌, ℕ, Option, Some, None, refl}
use Rattle.std.specs.Prelude.{option_map, unwrap_or}
use Rattle.syntax_tree.specs.Plain.{Name, Program}
use Rattle.syntax_tree.specs.Placed.{optional, plain_constant, plain_activation}
use Rattle.source_semantics.specs.Names.{frame_of, deadline_or, deadline_of}
use Rattle.table_format.specs.declared.table.TaskLine.{TaskLine}
use Rattle.table_format.specs.Spending.{of_number}
use Rattle.table_format.specs.Program.{activation_of}

pub frame_is : (g : Program) (line : TaskLine) (o : Option Name) → frame_of g (plain_activation (activation_of line o)) ≡ line.frame
frame_is g line None = refl
frame_is g line (Some e) = refl

limit_is : (g : Program) (frame : ℕ) (d : Option ℕ) → deadline_or g frame (optional plain_constant (option_map of_number d)) ≡ unwrap_or d frame
limit_is g frame None = refl
limit_is g frame (Some n) = refl

pub deadline_is : (g : Program) (line : TaskLine) (o : Option Name) → deadline_of g (plain_activation (activation_of line o)) ≡ unwrap_or line.deadline line.frame
deadline_is g line None = limit_is g line.frame line.deadline
deadline_is g line (Some e) = limit_is g line.frame line.deadline
