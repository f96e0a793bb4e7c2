-- All ticks of a turn have the same letters.
use Rattle.std.proofs.Common.{◌≡◌, ℕ, zero, suc, Bool, true, false, Option, Some, None, arith, refl, ap, ◌∙◌}
use Rattle.std.specs.Prelude.{nat_lt, slice_get}
use Rattle.std.proofs.lemmas.Bool.Decides.{nat_tests}
use Rattle.machine_semantics.specs.Image.{Image}
use Rattle.machine_semantics.specs.State.{Thread, Idle, Ready, Waiting, State}
use Rattle.machine_semantics.specs.Tick.{pick}
use Rattle.vm_stretch.specs.Stretch.{place_of}
use Rattle.vm_runner.specs.Alike.{AreAlike, StandsAlike}
use Rattle.run_chart.specs.Letters.{is_picked, letter_in, letter_of, letter_of_picked}

same_picked : (m n : ℕ) (inside : Option ℕ) → nat_lt 0 m ≡ nat_lt 0 n → letter_of_picked m inside ≡ letter_of_picked n inside
same_picked zero zero inside same = refl
same_picked (suc m) (suc n) inside same = refl
same_picked zero (suc n) inside same = absurd (grind (arith, nat_tests, same))
same_picked (suc m) zero inside same = absurd (grind (arith, nat_tests, same))

same_of : (before after : Option Thread) (picked : Bool) → StandsAlike before after → letter_of after picked ≡ letter_of before picked
same_of (Some (Ready job)) (Some (Ready new)) true alike =
    ap (λ (o : Option ℕ). letter_of_picked new.dispatch_ticks o) alike.0 ∙ same_picked new.dispatch_ticks job.dispatch_ticks job.inside alike.1
same_of (Some (Ready job)) (Some (Ready new)) false alike = refl
same_of (Some (Ready job)) (Some Idle) picked alike = ap (λ (o : Option Thread). letter_of o picked) alike
same_of (Some (Ready job)) (Some (Waiting condition due number other)) picked alike = ap (λ (o : Option Thread). letter_of o picked) alike
same_of (Some (Ready job)) None picked alike = ap (λ (o : Option Thread). letter_of o picked) alike
same_of (Some Idle) after picked alike = ap (λ (o : Option Thread). letter_of o picked) alike
same_of (Some (Waiting condition due number job)) after picked alike = ap (λ (o : Option Thread). letter_of o picked) alike
same_of None after picked alike = ap (λ (o : Option Thread). letter_of o picked) alike

-- where all stand alike, each has the same letter
pub same_letter : (image : Image) (before after : State) (k : ℕ) → AreAlike image before after → letter_in image after k ≡ letter_in image before k
same_letter image before after k alike =
    ap (λ (o : Option ℕ). letter_of (slice_get after.threads k) (is_picked o k)) alike.picked
    ∙ same_of (slice_get before.threads k) (slice_get after.threads k) (is_picked (place_of (pick image before.threads)) k) (alike.threads k)
