-- What the answers of `shape` and `judge_program` mean.
use Rattle.std.specs.Prelude.{ℕ, Option, Some}
use Rattle.syntax_tree.specs.declared.place.Place.{Place}
use Rattle.syntax_tree.specs.Placed.{Prog, plain}
use Rattle.static_rule.specs.First.{IsFirst}
use Rattle.code_cost.specs.Rules.{SizeFails}
use Rattle.machine_semantics.specs.Image.{Process}
use Rattle.image.specs.Named.{NamedImage}
use Rattle.image_loaded.specs.Shape.{IsShape}
use Rattle.compile.specs.Build.{KeepsSizes}
use Rattle.command_due.specs.Image.{IsEdfImage}
use Rattle.command_due.specs.Tasks.{IsAnswer}
use Rattle.edf_command.specs.declared.judged.Judged.{Judged}
use Rattle.edf_command.specs.declared.shaping.ShapeFault.{ShapeFault}
use Rattle.edf_command.specs.declared.shaping.ShapeFault.TheVariants as fault

-- the bound of a process, which is its deadline
abbrev pub due_of : Process → Option ℕ
due_of p = Some p.deadline

-- the image of the program, of which no rule of size fails
pub record IsEdfShape (g : Prog Place) (n : NamedImage) : Type 0 where
  pub fits : KeepsSizes g
  pub image : IsEdfImage (plain g) n

-- why a program has none: the rule of size that fails first; want of memory says nothing of it
abbrev pub IsSizeFault : Prog Place → ShapeFault → Type 0
IsSizeFault g (fault.TooLarge number place) = IsFirst (SizeFails g) (record { number = number; place = place })
IsSizeFault g (fault.Memory _) = Unit {0}

-- the image of the program, which is valid but for its bounds, and what the test of the demand says
-- of it
pub record IsJudgedProgram (g : Prog Place) (j : Judged) : Type 0 where
  pub shape : IsEdfShape g j.image
  pub valid : IsShape j.image
  pub answered : IsAnswer j.image.image j.answer
