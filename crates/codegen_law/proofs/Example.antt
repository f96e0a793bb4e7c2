-- The example keeps to the premise.
use Rattle.std.proofs.Common.{refl}
use Rattle.codegen_law.specs.Example.{ExampleFits}

pub fits : ExampleFits
fits = (
  (
    refl,
    refl,
    refl,
    refl,
    (
      ((((refl, tt, (refl, refl)), refl), (((refl, tt, tt), refl), tt)), tt),
      ((((refl, tt, (refl, refl)), refl), (((refl, tt, (refl, refl)), ((refl, tt, tt), refl)), tt), ((refl, refl), tt)), tt),
    ),
  ),
  tt,
)
