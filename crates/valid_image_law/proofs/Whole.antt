-- Every valid image is safe and in time.
use Rattle.std.proofs.Common.{◌≡◌, zero, suc, Option, Some, None, refl, ap, sym, subst, ◌∙◌}
use Rattle.std.specs.Prelude.{slice_get}
use Rattle.machine_semantics.specs.Image.{Image, Script}
use Rattle.machine_safety.proofs.Running.{every_run_is_safe}
use Rattle.machine_safety.proofs.Keeping.{run_keeps_words}
use Rattle.sched_timing.specs.Timed.{RespectsFrames, IsInTime}
use Rattle.sched_timing.proofs.Whole.{every_run_is_in_time}
use Rattle.valid_image.specs.Fault.{Fault, or_else}
use Rattle.valid_image.specs.Valid.{Part, Shape, Costs, Sizes, Ranks, Bounds, Operands, Handlers, Shown, shown_of, shown, fault_of_part, fault_of, IsValid}
use Rattle.valid_image_law.specs.ValidLaw.{IsSafe, EveryValidImageIsSafeAndInTime, MeetsPremises, ValidMeetsPremises, ValidIsWithoutFault, MeetingIsSafeAndInTime}
use Rattle.machine_safety.specs.ValidImages.{meeting, ExamplesAre}
use Rattle.machine_safety.proofs.Computed.{examples_are}
use Rattle.valid_image_law.proofs.Firsts.{neither}
use Rattle.valid_image_law.proofs.Parts.{no_part, where_in}
use Rattle.valid_image_law.proofs.Processes.{parts_in, image_fits}
use Rattle.valid_image_law.proofs.Ranking.{within_rank}
use Rattle.valid_image_law.proofs.Timing.{image_is_timed}

pub valid_meets_premises : ValidMeetsPremises
valid_meets_premises image limits valid = record {
  e = where_in image no_part;
  ps = parts_in image;
  of = refl;
  fits =
      image_fits image (valid Operands) (valid Shape) (valid Handlers) (valid Costs) (valid Sizes) limits.owners
      (λ k p at. (let l = limits.processes k p at in (l.stack, l.handler, within_rank image (valid Ranks) k p at)));
  timed = image_is_timed image (valid Shape) (valid Costs) (valid Ranks) (valid Bounds) limits.some limits.few limits.processes;
}

safe : (image : Image) → MeetsPremises image → (script : Script) → IsSafe image script
safe image m script = subst (λ (x : Image). IsSafe x script) m.of (record {
  never_stuck = λ t. (every_run_is_safe m.e m.ps script t m.fits).0;
  stacks = λ t k p thread at there. (every_run_is_safe m.e m.ps script t m.fits).1 k p thread at there;
  words = λ t. run_keeps_words m.e m.ps script t m.fits;
  apart = λ t. (every_run_is_safe m.e m.ps script t m.fits).2;
  ready = λ t. (every_run_is_safe m.e m.ps script t m.fits).3;
})

in_time : (image : Image) → MeetsPremises image → (script : Script) → RespectsFrames image script → IsInTime image script
in_time image m script respects =
    subst (λ (x : Image). IsInTime x script) m.of (every_run_is_in_time m.e m.ps script m.fits m.timed (subst (λ (x : Image). RespectsFrames x script) (sym m.of) respects))

pub every_valid_image_is_safe_and_in_time : EveryValidImageIsSafeAndInTime
every_valid_image_is_safe_and_in_time image limits valid =
    let m = valid_meets_premises image limits valid in (safe image m, in_time image m)

-- ---- the fault

pub not_shown : (part : Part) (f : Option Fault) → shown_of part f ≡ None → f ≡ None
not_shown part None is = refl
not_shown part (Some f) is = absurd cc

both_none : {A : Type 0} (x y : Option A) → x ≡ None → y ≡ None → or_else x y ≡ None
both_none x y none later = ap (λ o. or_else o y) none ∙ later

-- the tests after the first, the second and so on
abbrev last_two : Image → Option Shown
last_two image = or_else (shown image Ranks) (shown image Bounds)

abbrev last_three : Image → Option Shown
last_three image = or_else (shown image Sizes) (last_two image)

abbrev last_four : Image → Option Shown
last_four image = or_else (shown image Costs) (last_three image)

abbrev last_five : Image → Option Shown
last_five image = or_else (shown image Handlers) (last_four image)

abbrev last_six : Image → Option Shown
last_six image = or_else (shown image Shape) (last_five image)

has_none : (image : Image) → IsValid image → (part : Part) → shown image part ≡ None
has_none image valid part = ap (λ f. shown_of part f) (valid part)

no_fault : (image : Image) → IsValid image → fault_of image ≡ None
no_fault image valid =
    both_none (shown image Operands) (last_six image) (has_none image valid Operands)
    (both_none (shown image Shape) (last_five image) (has_none image valid Shape)
    (both_none (shown image Handlers) (last_four image) (has_none image valid Handlers)
    (both_none (shown image Costs) (last_three image) (has_none image valid Costs)
    (both_none (shown image Sizes) (last_two image) (has_none image valid Sizes)
    (both_none (shown image Ranks) (shown image Bounds) (has_none image valid Ranks) (has_none image valid Bounds))))))

no_part_fails : (image : Image) → fault_of image ≡ None → IsValid image
no_part_fails image is Operands = not_shown Operands (fault_of_part image Operands) (neither (shown image Operands) (last_six image) is).0
no_part_fails image is Shape = not_shown Shape (fault_of_part image Shape) (neither (shown image Shape) (last_five image) (neither (shown image Operands) (last_six image) is).1).0
no_part_fails image is Handlers =
    let a = neither (shown image Shape) (last_five image) (neither (shown image Operands) (last_six image) is).1 in
    not_shown Handlers (fault_of_part image Handlers) (neither (shown image Handlers) (last_four image) a.1).0
no_part_fails image is Costs =
    let a = neither (shown image Shape) (last_five image) (neither (shown image Operands) (last_six image) is).1 in
    let b = neither (shown image Handlers) (last_four image) a.1 in
    not_shown Costs (fault_of_part image Costs) (neither (shown image Costs) (last_three image) b.1).0
no_part_fails image is Sizes =
    let a = neither (shown image Shape) (last_five image) (neither (shown image Operands) (last_six image) is).1 in
    let b = neither (shown image Handlers) (last_four image) a.1 in
    let c = neither (shown image Costs) (last_three image) b.1 in
    not_shown Sizes (fault_of_part image Sizes) (neither (shown image Sizes) (last_two image) c.1).0
no_part_fails image is Ranks =
    let a = neither (shown image Shape) (last_five image) (neither (shown image Operands) (last_six image) is).1 in
    let b = neither (shown image Handlers) (last_four image) a.1 in
    let c = neither (shown image Costs) (last_three image) b.1 in
    let d = neither (shown image Sizes) (last_two image) c.1 in
    not_shown Ranks (fault_of_part image Ranks) (neither (shown image Ranks) (shown image Bounds) d.1).0
no_part_fails image is Bounds =
    let a = neither (shown image Shape) (last_five image) (neither (shown image Operands) (last_six image) is).1 in
    let b = neither (shown image Handlers) (last_four image) a.1 in
    let c = neither (shown image Costs) (last_three image) b.1 in
    let d = neither (shown image Sizes) (last_two image) c.1 in
    not_shown Bounds (fault_of_part image Bounds) (neither (shown image Ranks) (shown image Bounds) d.1).1

pub valid_is_without_fault : ValidIsWithoutFault
valid_is_without_fault image = (no_fault image, no_part_fails image)

-- ---- the example

pub meeting_is_safe_and_in_time : MeetingIsSafeAndInTime
meeting_is_safe_and_in_time script =
    let are : ExamplesAre = examples_are in
    let law = every_valid_image_is_safe_and_in_time meeting are.limits are.valid in
    (law.0 script, law.1 script respects)
  where
    respects : RespectsFrames meeting script
    respects zero p at event i j t u = absurd (let is : slice_get meeting.processes 0 ≡ Some p = at in cc)
    respects (suc zero) p at event i j t u = absurd (let is : slice_get meeting.processes 1 ≡ Some p = at in cc)
    respects (suc (suc k)) p at event i j t u = absurd cc
