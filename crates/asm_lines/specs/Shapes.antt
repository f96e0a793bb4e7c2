-- What the reader keeps of a tree's form.
use Rattle.asm_lines.specs.declared.form.Form.{Form}
use Rattle.asm_lines.specs.TreeForm.{Shape}

abbrev pub shape_of : Form → Shape
shape_of form = record { awaits = form.awaits; arms = form.arms.items }
