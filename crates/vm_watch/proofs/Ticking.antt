-- The last tick of an instruction has its effect.
use Rattle.std.proofs.Common.{◌≡◌, ◌+◌, ℕ, zero, suc, true, false, List, Option, Some, None, IsSome, arith, refl, ap, sym, ◌∙◌}
use Rattle.std.specs.Prelude.{ℤ, nat_le, nat_lt, slice_get}
use Rattle.std.proofs.lemmas.Bool.Decides.{nat_tests}
use Rattle.machine_isa.specs.declared.instr.Instr.{Instr}
use Rattle.machine_isa.specs.Ticks.{ticks}
use Rattle.machine_semantics.specs.Image.{Image}
use Rattle.machine_semantics.specs.State.{Job, State}
use Rattle.machine_semantics.specs.Effect.{Goes, effect}
use Rattle.machine_semantics.specs.Tick.{at_next, outcome, outcome_at}
use Rattle.vm_stretch.specs.Completed.{completes, is_last_next}
use Rattle.vm_watch.specs.Inspect.{CompletedHasEffect, HasEffect, StaysAt}

-- the last tick of an instruction
last_tick : (image : Image) (s : State) (job : Job) (owned : List ℤ) (instr : Instr) → nat_le (ticks instr) (job.done + 1) ≡ true
    → outcome_at image s job owned (Some instr) ≡ effect image s instr (record { job = at_next job; owned = owned; shared = s.shared })
last_tick image s job owned instr last =
    let test : nat_lt (job.done + 1) (ticks instr) ≡ false = grind (arith, nat_tests, last) in
    rw test refl

-- any other of its ticks
other_tick : (image : Image) (s : State) (job : Job) (owned : List ℤ) (instr : Instr) → nat_le (ticks instr) (job.done + 1) ≡ false
    → outcome_at image s job owned (Some instr) ≡ Goes (record { job = record job { done = job.done + 1 }; owned = owned; shared = s.shared })
other_tick image s job owned instr early =
    let test : nat_lt (job.done + 1) (ticks instr) ≡ true = grind (arith, nat_tests, early) in
    rw test refl

module _ (image : Image) (s : State) (job : Job) (owned : List ℤ) (instr : Instr) (there : slice_get image.code job.place ≡ Some instr) where
  has_effect : (dispatch_ticks : ℕ) → job.dispatch_ticks ≡ dispatch_ticks → completes image job dispatch_ticks ≡ true → HasEffect image s job owned
  has_effect (suc dispatch_ticks) is yes_it_does = absurd cc
  has_effect zero is yes_it_does = record {
    instr = instr;
    there = there;
    effect =
        ap (λ (b : ℕ). outcome image s job owned b) is
        ∙ ap (λ (o : Option Instr). outcome_at image s job owned o) there
        ∙ last_tick image s job owned instr (sym (ap (λ (o : Option Instr). is_last_next job.done o) there) ∙ yes_it_does);
  }

  stays_at : (dispatch_ticks : ℕ) → job.dispatch_ticks ≡ dispatch_ticks → completes image job dispatch_ticks ≡ false → StaysAt image s job owned
  stays_at (suc dispatch_ticks) is not_yet = record {
    own = record { job = record job { dispatch_ticks = dispatch_ticks }; owned = owned; shared = s.shared };
    goes = ap (λ (b : ℕ). outcome image s job owned b) is;
    place = refl;
  }
  stays_at zero is not_yet = record {
    own = record { job = record job { done = job.done + 1 }; owned = owned; shared = s.shared };
    goes =
        ap (λ (b : ℕ). outcome image s job owned b) is
        ∙ ap (λ (o : Option Instr). outcome_at image s job owned o) there
        ∙ other_tick image s job owned instr (sym (ap (λ (o : Option Instr). is_last_next job.done o) there) ∙ not_yet);
    place = refl;
  }

pub completed_has_effect : CompletedHasEffect
completed_has_effect image s job owned some = by (slice_get image.code job.place) refl some where
  by : (o : Option Instr) → slice_get image.code job.place ≡ o → IsSome o → (completes image job job.dispatch_ticks ≡ true → HasEffect image s job owned) × (completes image job job.dispatch_ticks ≡ false → StaysAt image s job owned)
  by None there none = absurd (let differ : false ≡ true = none in cc)
  by (Some instr) there _ = (has_effect image s job owned instr there job.dispatch_ticks refl, stays_at image s job owned instr there job.dispatch_ticks refl)
