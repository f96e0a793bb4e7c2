-- Programs that are not in time: no image is built of them, and they are not too large.
use Rattle.std.proofs.Common.{◌≡◌, ℕ, List, Err, subst}
use Rattle.syntax_tree.specs.declared.place.Place.{Place}
use Rattle.syntax_tree.specs.Placed.{Prog, plain}
use Rattle.static_rule.specs.First.{IsFirst}
use Rattle.code_cost.specs.Rules.{SizeFails}
use Rattle.image.specs.Raw.{named_of}
use Rattle.sched_program.specs.Tasks.{IsNotInTime}
use Rattle.built_tasks_law.specs.Judged.{BuiltIsInTime}
use Rattle.compile.specs.Build.{Builds, IsBuiltOf}
use Rattle.compile.specs.declared.built.Built.{Built}
use Rattle.compile.specs.declared.built.BuildFault.{BuildFault}
use Rattle.compile.specs.declared.built.BuildFault.TheVariants as fault
use Rattle.command_due.specs.Source.{IsWritten}

module _ (text : List ℕ) (g : Prog Place) (over : ℕ) (written : IsWritten text g) where
  pub never_built : BuiltIsInTime → (b : Built) → IsBuiltOf g over b → IsNotInTime (plain g) over → ⊥
  never_built law b is late = (law g over (named_of b.image) written.program.checked is.fits is.built).never late

  pub never_large : (why : BuildFault) (number : ℕ) (place : Place) → why ≡ fault.TooLarge number place → Builds g over (Err why) → ⊥
  never_large why number place is built =
      let first : IsFirst (SizeFails g) (record { number = number; place = place }) = subst (λ (w : BuildFault). Builds g over (Err w)) is built in
      written.fits number place first.broken
