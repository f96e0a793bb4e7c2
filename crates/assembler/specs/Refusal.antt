-- The fault of a line where none may stand.
use Rattle.std.specs.Prelude.{◌≡◌}
use Rattle.text_fields.specs.declared.fault.FieldError.{FieldError}
use Rattle.text_fields.specs.declared.fault.FieldError.TheVariants as errors
use Rattle.text_fields.specs.Front.{Front}
use Rattle.assembler.specs.Sections.{none_read}

abbrev pub Refuses : FieldError → Front → Type 0
Refuses (errors.Memory _) s = Unit {0}
Refuses (errors.Fault f) s = f ≡ none_read s
