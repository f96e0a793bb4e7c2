-- Each process of the load responds within the shortest frame.
use Rattle.std.proofs.Common.{◌≡◌, ◌≤◌, ◌*◌, ℕ, arith, subst}
use Rattle.built_image.specs.Built.{Responds}
use Rattle.load_law.specs.Light.{LightImagesRespond}
use Rattle.load_law.specs.Time.{IsLightLoad, KeepsTime}

-- a share of 1,000 ticks for each process
pub keeps_time : IsLightLoad → LightImagesRespond → KeepsTime
keeps_time light respond key count some few m shaped k p there =
    let turned : count * 1000 ≡ 1000 * count = omega arith in
    let short : count * 1000 ≤ 1000000000 = omega (arith, few) in
    subst (λ (r : ℕ). Responds m p r) turned
    (respond count 1000 100 m (light key count some few m shaped) shaped.ranks some (omega arith) short k p there)
