-- Each routine and entry has its row and its code.
use Rattle.std.specs.Prelude.{◌≡◌, ℕ, true, Some, slice_get}
use Rattle.syntax_tree.specs.Plain.{Routine}
use Rattle.source_semantics.specs.Names.{routines}
use Rattle.machine_semantics.specs.Image as image
use Rattle.code_spec.specs.Numbering.{Text, is_among, texts_from, numbered, number_of}
use Rattle.code_spec.specs.Compiled.{IsRoutine, EmitsRoutine, IsCodeOf}
use Rattle.code_spec.specs.Memory.{Setting}
use Rattle.code_correct.specs.Known.{IsThere}
use Rattle.codegen_law.specs.Kept.{NamesDiffer}
use Rattle.codegen_law.proofs.NameNumbers.{IsText}
use Rattle.codegen_law.proofs.Rows.{numbered_at, row_of}

pub there_is : (e : Setting) (t : Text) → IsCodeOf e.program e.image → NamesDiffer e.program → IsText e.program t → is_among t (texts_from 0 0 e.program.decls) ≡ true → IsThere e t
there_is e t code differ is among =
    let row : (r : image.Routine) × (slice_get e.image.routines (number_of e.program t) ≡ Some r) × IsRoutine e.program t r × (next : ℕ) × EmitsRoutine e.program e.image.code t r.start next =
    row_of e.program e.image.code 0 code.between (numbered e.program) e.image.routines (number_of e.program t) t code.routine_code (numbered_at e.program t differ is among) in
    record { row = row.0; found = row.1; params = row.2.params; locals = row.2.locals; next = row.3; emits = row.4 }
