-- What a run asks of an image, from the tests of validity and the ranges of a file.
use Rattle.std.proofs.Common.{◌≡◌, ◌≤◌, ◌∙◌, ℕ, true, false, List, length, map, Some, arith, refl, sym, subst}
use Rattle.std.specs.Prelude.{slice_get}
use Rattle.std.proofs.lemmas.List.{length-map}
use Rattle.std.proofs.lemmas.List.Elements.{All-map}
use Rattle.std.proofs.lemmas.Option.{slice_get_within}
use Rattle.base.proofs.Lists.{one_of, all_of}
use Rattle.image.specs.declared.names.ConditionName.{ConditionName}
use Rattle.image.specs.declared.names.DeviceName.{DeviceName}
use Rattle.image.specs.declared.raw.RawImage.{RawImage}
use Rattle.image.specs.Named.{NamedImage}
use Rattle.image.specs.Raw.{image_of, monitor_of, named_of, process_of}
use Rattle.machine_isa.specs.declared.instr.Instr.{Instr}
use Rattle.machine_isa.specs.declared.instr.Instr.TheVariants as i
use Rattle.vm_law.specs.Logged.{AreNamesOf}
use Rattle.machine_semantics.specs.Image.{Image, Process, Routine, end_of}
use Rattle.vm_law.specs.Operands.{IsThere}
use Rattle.vm_law.proofs.There.{all_there}
use Rattle.vm_plan.specs.HasPlan.{CanRun, HasPlan}
use Rattle.image_reader_law.specs.ReadNames.{IsNamed}
use Rattle.image_reader_law.proofs.Names.{read_names}
use Rattle.machine_semantics.specs.Safe.{ImageFits}
use Rattle.script.specs.declared.script.ScriptLine.{ScriptLine}
use Rattle.script.specs.Scripts.{IsScript}
use Rattle.vm_law.specs.ScriptSuits.{ScriptsForImagesReadSuit, script_with}
use Rattle.vm_law.specs.Suits.{Suits}
use Rattle.image_loaded.specs.Shape.{AreOf, IsShape}
use Rattle.image_reader.specs.Answer.{Holds}
use Rattle.vm_state.specs.Plan.{HasNumbers}
use Rattle.valid_image_law.proofs.Parts.{no_part, where_in}
use Rattle.valid_image_law.proofs.Passing.{params_fit}
use Rattle.valid_image_law.proofs.Processes.{parts_in}
use Rattle.image_reader_law.proofs.Limits.{read_monitors}
use Rattle.loader.proofs.Order.{HasNoFaultBefore, none_before}
use Rattle.edf_admission.specs.Admitted.{IsAdmitted}
use Rattle.edf_admission.proofs.Premises.{fits}
use Rattle.edf_admission.specs.Ready.{CanBeRun}
use Rattle.vm_plan.proofs.Planned.{handler_ends, small, limit_is}

-- ---- numbers

module _ (image : Image) (monitors : length image.monitors ≤ 64) (conditions : length image.conditions ≤ 256) (devices : length image.devices ≤ 64) where
  has_numbers : (instr : Instr) → IsThere image instr → HasNumbers instr
  has_numbers (i.Enter m) there = small m (length image.monitors) (omega (arith, monitors)) there
  has_numbers (i.Leave m) there = small m (length image.monitors) (omega (arith, monitors)) there
  has_numbers (i.Wait c limit number) there = (small c (length image.conditions) (omega (arith, conditions)) there.0, limit_is limit 1000000001 there.1, small number 1000 (omega arith) there.2)
  has_numbers (i.Reenter m) there = small m (length image.monitors) (omega (arith, monitors)) there
  has_numbers (i.Signal c) there = small c (length image.conditions) (omega (arith, conditions)) there
  has_numbers (i.Broadcast c) there = small c (length image.conditions) (omega (arith, conditions)) there
  has_numbers (i.Empty c) there = small c (length image.conditions) (omega (arith, conditions)) there
  has_numbers (i.In d) there = small d (length image.devices) (omega (arith, devices)) there
  has_numbers (i.Out d) there = small d (length image.devices) (omega (arith, devices)) there
  has_numbers (i.Raise number) there = small number 1000 (omega arith) there
  has_numbers _ there = tt

-- ---- an image that is read

module _ (bytes : List ℕ) (raw : RawImage) (held : Holds bytes raw) (is : IsShape (named_of raw)) (admitted : IsAdmitted (image_of raw)) where
  named : IsNamed raw
  named = read_names bytes raw held

  none : HasNoFaultBefore (image_of raw)
  none = none_before (image_of raw) is.valid

  fit : ImageFits (where_in (image_of raw) no_part) (parts_in (image_of raw))
  fit = fits (image_of raw) none is.limits admitted.over admitted.waitless

  can_run : (k : ℕ) (p : Process) → slice_get (image_of raw).processes k ≡ Some p → CanRun (length raw.code) p
  can_run k p at =
      let limits = is.limits.processes k p at in
      let frame = limits.frame_low in
      let process = fit.processes k p at in
      let body = slice_get_within raw.code (end_of p false) i.End process.ends in
      record {
        kind = one_of (λ (p : Process). p.kind ≤ 1) (map process_of raw.processes) k p (All-map (λ (p : Process). p.kind ≤ 1) process_of raw.processes named.kinds) at;
        frame = omega (arith, frame);
        locals = omega (arith, process.body.locals, process.body.stack);
        body = omega (arith, body);
        handler = handler_ends (length raw.code) p p.handler_tree refl limits.handler (λ number listed. (let handler = process.handles number listed in let end = slice_get_within raw.code (end_of p true) i.End handler.1.ends in omega (arith, end)));
      }

  has_plan : HasPlan (image_of raw)
  has_plan =
      let monitors : length (image_of raw).monitors ≤ 64 = omega (arith, read_monitors bytes raw held, length-map raw.monitors monitor_of) in
      let conditions : length (image_of raw).conditions ≤ 256 = omega (arith, named.conditions, length-map raw.names.conditions (λ (c : ConditionName). c.mon)) in
      let devices : length (image_of raw).devices ≤ 64 = omega (arith, named.devices, length-map raw.names.devices (λ (d : DeviceName). d.out)) in
      record {
        numbers = λ n instr at. has_numbers (image_of raw) monitors conditions devices instr (all_there (image_of raw) is.limits.owners none.operands none.shape n instr at);
        params = all_of (λ (r : Routine). r.params ≤ r.locals) (image_of raw).routines (params_fit (image_of raw) none.sizes);
        processes = all_of (CanRun (length raw.code)) (image_of raw).processes can_run;
        few = is.limits.few;
        monitors = monitors;
      }

  has_names : AreNamesOf raw.names (image_of raw)
  has_names = record {
    sound = named.sound;
    processes = named.processes ∙ sym (length-map raw.processes process_of);
    monitors = named.monitors ∙ sym (length-map raw.monitors monitor_of);
    conditions = sym (length-map raw.names.conditions (λ (c : ConditionName). c.mon));
    devices = sym (length-map raw.names.devices (λ (d : DeviceName). d.out));
  }

  can_be_run : CanBeRun (named_of raw)
  can_be_run = record { plan = has_plan; names = has_names }

-- the same of the image that is seen
pub read_can_be_run : (bytes : List ℕ) (n : NamedImage) → AreOf bytes n → IsShape n → IsAdmitted n.image → CanBeRun n
read_can_be_run bytes n are =
    subst (λ (x : NamedImage). IsShape x → IsAdmitted x.image → CanBeRun x) (sym are.image) (λ is admitted. can_be_run bytes are.raw are.held is admitted)

pub read_scripts_suit : ScriptsForImagesReadSuit → (bytes : List ℕ) (n : NamedImage) (text : List ℕ) (lines : List ScriptLine) (last : ℕ) → AreOf bytes n
    → IsScript n.names text lines last → Suits n.image (script_with lines last)
read_scripts_suit law bytes n text lines last are =
    subst (λ (x : NamedImage). IsScript x.names text lines last → Suits x.image (script_with lines last)) (sym are.image) (λ script. law bytes are.raw text lines last are.held script)
