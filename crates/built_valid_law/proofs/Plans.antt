-- An image that is built has a plan.
use Rattle.std.proofs.Common.{◌≡◌, ◌≤◌, ◌<◌, ℕ, true, false, length, Some, None, arith, refl}
use Rattle.std.specs.Prelude.{slice_get}
use Rattle.std.proofs.lemmas.Option.{slice_get_within}
use Rattle.base.proofs.Lists.{all_of}
use Rattle.machine_isa.specs.declared.instr.Instr.{Instr}
use Rattle.machine_isa.specs.declared.instr.Instr.TheVariants as i
use Rattle.syntax_tree.specs.Plain.{Trigger, periodic, at_event, Program}
use Rattle.source_semantics.specs.Names.{processes}
use Rattle.machine_semantics.specs.Image.{Image, Process, Routine, end_of}
use Rattle.code_spec.specs.Compiled.{IsCodeOf, IsReleased}
use Rattle.vm_law.specs.Operands.{AreThere, IsThere}
use Rattle.vm_plan.specs.HasPlan.{CanRun, HasPlan}
use Rattle.machine_semantics.specs.Safe.{Parts, ImageFits}
use Rattle.machine_semantics.specs.Walk.{Where}
use Rattle.vm_state.specs.Plan.{HasNumbers}
use Rattle.valid_image.specs.Valid.{HasLimits, Sizes, fault_of_part}
use Rattle.valid_image_law.proofs.Passing.{params_fit}
use Rattle.built_image_law.proofs.Texts.{Emitted, emitted}
use Rattle.built_valid_law.proofs.Counts.{Counted}
use Rattle.vm_plan.proofs.Planned.{handler_ends, Stands, small, limit_is}

-- ---- numbers

module _ (m : Image) (monitors : length m.monitors ≤ 64) (conditions : length m.conditions ≤ 256) (devices : length m.devices ≤ 64) where
  has_numbers : (instr : Instr) → IsThere m instr → HasNumbers instr
  has_numbers (i.Enter k) there = small k (length m.monitors) (omega (arith, monitors)) there
  has_numbers (i.Leave k) there = small k (length m.monitors) (omega (arith, monitors)) there
  has_numbers (i.Wait c limit number) there = (small c (length m.conditions) (omega (arith, conditions)) there.0, limit_is limit 1000000001 there.1, small number 1000 (omega arith) there.2)
  has_numbers (i.Reenter k) there = small k (length m.monitors) (omega (arith, monitors)) there
  has_numbers (i.Signal c) there = small c (length m.conditions) (omega (arith, conditions)) there
  has_numbers (i.Broadcast c) there = small c (length m.conditions) (omega (arith, conditions)) there
  has_numbers (i.Empty c) there = small c (length m.conditions) (omega (arith, conditions)) there
  has_numbers (i.In d) there = small d (length m.devices) (omega (arith, devices)) there
  has_numbers (i.Out d) there = small d (length m.devices) (omega (arith, devices)) there
  has_numbers (i.Raise number) there = small number 1000 (omega arith) there
  has_numbers _ there = tt

-- ---- a process

-- so they do in an image that fits its trees
pub stands : (e : Where) (ps : ℕ → Parts) → ImageFits e ps → (k : ℕ) (p : Process) → slice_get e.image.processes k ≡ Some p → Stands e.image.code p
stands e ps image_fits k p at =
    let fits = image_fits.processes k p at in
    let body : end_of p false < length e.image.code = slice_get_within e.image.code (end_of p false) i.End fits.ends in
    record {
      locals = omega (arith, fits.body.locals, fits.body.stack);
      body = omega (arith, body);
      handler = λ number listed. (let h = fits.handles number listed in let within : end_of p true < length e.image.code = slice_get_within e.image.code (end_of p true) i.End h.1.ends in omega (arith, within));
    }

-- the clock or an event releases it
kind_low : (g : Program) (a : Trigger) (p : Process) → IsReleased g a p → p.kind ≤ 1
kind_low g (periodic frame deadline first) p released = let z : p.kind ≡ 0 = released.0 in omega (arith, z)
kind_low g (at_event e frame deadline) p released = let one : p.kind ≡ 1 = released.0 in omega (arith, one)

-- ---- the plan

pub has_plan : (g : Program) (m : Image) → Counted g m → IsCodeOf g m → HasLimits m → fault_of_part m Sizes ≡ None → AreThere m
    → ((k : ℕ) (p : Process) → slice_get m.processes k ≡ Some p → Stands m.code p) → HasPlan m
has_plan g m counts code limits sizes there standing = record {
  numbers = λ n instr at. has_numbers m counts.few_monitors counts.conditions counts.devices instr (there n instr at);
  params = all_of (λ (r : Routine). r.params ≤ r.locals) m.routines (params_fit m sizes);
  processes = all_of (CanRun (length m.code)) m.processes (λ k p at.
      (let s = standing k p at in
      let l = limits.processes k p at in
      let e : Emitted g m.code (processes g) k p = emitted g m.code 0 code.between (length m.code) (processes g) m.processes code.process_code k p at in
      record {
        kind = kind_low g e.text.activation p e.emits.released;
        frame = (let low = l.frame_low in omega (arith, low));
        locals = s.locals;
        body = s.body;
        handler = handler_ends (length m.code) p p.handler_tree refl l.handler s.handler;
      }));
  few = limits.few;
  monitors = counts.few_monitors;
}
