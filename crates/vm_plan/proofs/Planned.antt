-- What a plan asks, from the tests of validity and the ranges of a file.
use Rattle.std.proofs.Common.{◌≡◌, ◌≤◌, ◌<◌, ◌+◌, ◌∙◌, ℕ, Bool, true, false, List, [], ◌∷◌, length, map, Option, Some, None, arith, refl, ap, sym, subst}
use Rattle.std.specs.Prelude.{ℤ, pos, negsuc, All, cond, nat_eq, slice_get}
use Rattle.std.proofs.lemmas.Bool.Decides.{nat_tests}
use Rattle.std.proofs.lemmas.List.{length-map}
use Rattle.std.proofs.lemmas.List.Elements.{All-map}
use Rattle.std.proofs.lemmas.Option.{slice_get_within}
use Rattle.base.proofs.Lists.{one_of, all_of}
use Rattle.image.specs.declared.names.ConditionName.{ConditionName}
use Rattle.image.specs.declared.names.DeviceName.{DeviceName}
use Rattle.image.specs.declared.raw.RawImage.{RawImage}
use Rattle.image.specs.Raw.{image_of, monitor_of, process_of}
use Rattle.image_reader.specs.Answer.{Holds}
use Rattle.machine_isa.specs.declared.instr.Instr.{Instr}
use Rattle.machine_isa.specs.declared.instr.Instr.TheVariants as i
use Rattle.vm_law.specs.Logged.{AreNamesOf}
use Rattle.machine_semantics.specs.Trees.{Segs, size}
use Rattle.machine_semantics.specs.Image.{Image, Process, Routine, end_of, size_some}
use Rattle.machine_semantics.specs.Starts.{lists}
use Rattle.vm_law.specs.Operands.{IsThere}
use Rattle.vm_law.proofs.There.{valid_operands_are_there}
use Rattle.vm_plan.specs.HasPlan.{CanRun, HandlerEnds, HasPlan}
use Rattle.vm_plan.specs.PlanLaws.{IsReady, ValidImagesReadAreReady}
use Rattle.image_reader_law.specs.ReadNames.{IsNamed}
use Rattle.image_reader_law.proofs.Names.{read_names}
use Rattle.machine_semantics.specs.Part.{IsBelow}
use Rattle.vm_state.specs.Seen.{IsLimit, IsSmall}
use Rattle.vm_state.specs.Plan.{HasNumbers}
use Rattle.valid_image.specs.Valid.{HasHandler, HasLimits, IsValid, Sizes}
use Rattle.valid_image_law.specs.ValidLaw.{MeetsPremises}
use Rattle.valid_image_law.proofs.Passing.{params_fit}
use Rattle.valid_image_law.proofs.Whole.{valid_meets_premises}
use Rattle.image_reader_law.proofs.Limits.{read_limits, read_monitors}

-- ---- numbers

pub small : (z : ℤ) (n : ℕ) → n ≤ 65536 → IsBelow z n → IsSmall z
small (pos k) n le below = let same : k ≡ below.0 = (let is : pos k ≡ pos below.0 = below.1 in cc) in omega (arith, same, below.2, le)
small (negsuc k) n le below = absurd (let is = below.1 in cc)

pub limit_is : (z : ℤ) (n : ℕ) → IsBelow z n → IsLimit z
limit_is (pos k) n below = tt
limit_is (negsuc k) n below = absurd (let is = below.1 in cc)

module _ (image : Image) (monitors : length image.monitors ≤ 64) (conditions : length image.conditions ≤ 256) (devices : length image.devices ≤ 64) where
  has_numbers : (instr : Instr) → IsThere image instr → HasNumbers instr
  has_numbers (i.Enter m) there = small m (length image.monitors) (omega (arith, monitors)) there
  has_numbers (i.Leave m) there = small m (length image.monitors) (omega (arith, monitors)) there
  has_numbers (i.Wait c limit number) there = (small c (length image.conditions) (omega (arith, conditions)) there.0, limit_is limit 1000000001 there.1, small number 1000 (omega arith) there.2)
  has_numbers (i.Reenter m) there = small m (length image.monitors) (omega (arith, monitors)) there
  has_numbers (i.Signal c) there = small c (length image.conditions) (omega (arith, conditions)) there
  has_numbers (i.Broadcast c) there = small c (length image.conditions) (omega (arith, conditions)) there
  has_numbers (i.Empty c) there = small c (length image.conditions) (omega (arith, conditions)) there
  has_numbers (i.In d) there = small d (length image.devices) (omega (arith, devices)) there
  has_numbers (i.Out d) there = small d (length image.devices) (omega (arith, devices)) there
  has_numbers (i.Raise number) there = small number 1000 (omega arith) there
  has_numbers _ there = tt

-- ---- a process

-- where the parts of a process stand
pub record Stands (code : List Instr) (p : Process) : Type 0 where
  pub locals : p.locals ≤ p.stack
  pub body : end_of p false ≤ length code
  pub handler : (number : ℕ) → lists p.numbers number ≡ true → end_of p true ≤ length code

pub stands : (image : Image) → MeetsPremises image → (k : ℕ) (p : Process) → slice_get image.processes k ≡ Some p → Stands image.code p
stands image m = subst (λ (x : Image). (k : ℕ) (p : Process) → slice_get x.processes k ≡ Some p → Stands x.code p) m.of by where
  by : (k : ℕ) (p : Process) → slice_get m.e.image.processes k ≡ Some p → Stands m.e.image.code p
  by k p at =
      let fits = m.fits.processes k p at in
      let body : end_of p false < length m.e.image.code = slice_get_within m.e.image.code (end_of p false) i.End fits.ends in
      record {
        locals = omega (arith, fits.body.locals, fits.body.stack);
        body = omega (arith, body);
        handler = λ number listed. (let h = fits.handles number listed in let within : end_of p true < length m.e.image.code = slice_get_within m.e.image.code (end_of p true) i.End h.1.ends in omega (arith, within));
      }

pub handler_ends : (code : ℕ) (p : Process) (o : Option Segs) → p.handler_tree ≡ o → HasHandler p o → ((number : ℕ) → lists p.numbers number ≡ true → end_of p true ≤ code) → HandlerEnds code p.handler o
handler_ends code p None is has ends = tt
handler_ends code p (Some tree) is has ends = by p.numbers refl where
  by : (ns : List ℕ) → p.numbers ≡ ns → p.handler + size tree ≤ code
  by [] none = absurd (has none)
  by (n ∷ ns) some =
      let test : nat_eq n n ≡ true = grind (arith, nat_tests) in
      let listed : lists p.numbers n ≡ true = ap (λ (xs : List ℕ). lists xs n) some ∙ ap (λ (b : Bool). cond b true (lists ns n)) test in
      let end : end_of p true ≤ code = ends n listed in
      let size_is : size_some p.handler_tree ≡ size tree = ap size_some is in
      omega (arith, end, size_is)

has_plan : (bytes : List ℕ) (raw : RawImage) → Holds bytes raw → IsValid (image_of raw) → HasPlan (image_of raw)
has_plan bytes raw holds valid =
    let image : Image = image_of raw in
    let limits : HasLimits image = read_limits bytes raw holds in
    let named : IsNamed raw = read_names bytes raw holds in
    let m : MeetsPremises image = valid_meets_premises image limits valid in
    let monitors : length image.monitors ≤ 64 = omega (arith, read_monitors bytes raw holds, length-map raw.monitors monitor_of) in
    let conditions : length image.conditions ≤ 256 = omega (arith, named.conditions, length-map raw.names.conditions (λ (c : ConditionName). c.mon)) in
    let devices : length image.devices ≤ 64 = omega (arith, named.devices, length-map raw.names.devices (λ (d : DeviceName). d.out)) in
    let kinds : All (λ (p : Process). p.kind ≤ 1) image.processes = All-map (λ (p : Process). p.kind ≤ 1) process_of raw.processes named.kinds in
    record {
      numbers = λ n instr at. has_numbers image monitors conditions devices instr (valid_operands_are_there image limits valid n instr at);
      params = all_of (λ (r : Routine). r.params ≤ r.locals) image.routines (params_fit image (valid Sizes));
      processes = all_of (CanRun (length image.code)) image.processes (λ k p at. (let s = stands image m k p at in let l = limits.processes k p at in record {
        kind = one_of (λ (p : Process). p.kind ≤ 1) image.processes k p kinds at;
        frame = (let low = l.frame_low in omega (arith, low));
        locals = s.locals;
        body = s.body;
        handler = handler_ends (length image.code) p p.handler_tree refl l.handler s.handler;
      }));
      few = limits.few;
      monitors = monitors;
    }

-- ---- the names

are_names : (raw : RawImage) → IsNamed raw → AreNamesOf raw.names (image_of raw)
are_names raw named = record {
  sound = named.sound;
  processes = named.processes ∙ sym (length-map raw.processes process_of);
  monitors = named.monitors ∙ sym (length-map raw.monitors monitor_of);
  conditions = sym (length-map raw.names.conditions (λ (c : ConditionName). c.mon));
  devices = sym (length-map raw.names.devices (λ (d : DeviceName). d.out));
}

pub valid_images_read_are_ready : ValidImagesReadAreReady
valid_images_read_are_ready bytes raw holds valid = record {
  limits = read_limits bytes raw holds;
  plan = has_plan bytes raw holds valid;
  names = are_names raw (read_names bytes raw holds);
}
