-- Operands that are in range, and what a text needs of the image for its operands to be so.
use Rattle.std.specs.Prelude.{◌≡◌, ℕ, Bool, true, None, pos, All, Contains}
use Rattle.syntax_tree.specs.Plain.{Name, device, Program}
use Rattle.source_semantics.specs.Names.{device_number}
use Rattle.machine_isa.specs.declared.instr.Instr.{Instr}
use Rattle.machine_semantics.specs.Image.{Image}
use Rattle.valid_image.specs.Operands.{Whose, is_own_monitor, is_own_condition, is_device, may_call, bad_operand}
use Rattle.code_spec.specs.Layout.{Owner, by_monitor, home_of, outer_spot}
use Rattle.code_spec.specs.Numbering.{Text, number_of}
use Rattle.code_spec.specs.Emits.{condition_of}
use Rattle.static_semantics.specs.Here.{conditions_here}
use Rattle.static_semantics.specs.WellFormed.{ParamFits}
use Rattle.built_valid_law.specs.Lies.{SpotLies}

-- each operand of the instruction is in range
abbrev pub IsFine : Image → Whose → Instr → Type 0
IsFine m w i = bad_operand m w i ≡ None

-- a routine that may be called, by its number; the ranges of its parameters are in order
pub record MayCall (g : Program) (m : Image) (w : Whose) (t : Text) : Type 0 where
  pub open_to : may_call m w (pos (number_of g t)) ≡ true
  pub params : All (ParamFits g) t.routine.params

-- what is outside a text lies where its code finds it: variables beside its frame's, its monitor
-- with the conditions, devices
pub record Stands (g : Program) (m : Image) (w : Whose) (o : Owner) : Type 0 where
  pub outer : (x : Name) → SpotLies m w (outer_spot g o x)
  pub conditions : (x : Name) → Contains (conditions_here g (home_of o)) x → is_own_condition m w (pos (condition_of g o x)) ≡ true
  pub monitor : (j : ℕ) → o ≡ by_monitor j → is_own_monitor w (pos j) ≡ true
  pub devices : (d : Name) (out : Bool) → Contains g.decls (device d out) → is_device m out (pos (device_number g d)) ≡ true
