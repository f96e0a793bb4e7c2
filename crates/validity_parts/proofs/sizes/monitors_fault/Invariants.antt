use Rattle.std.proofs.Common.{◌≡◌, map}
use Rattle.image.specs.Raw.{image_of, monitor_of}
use Rattle.valid_image.specs.Fault.{first_in}
use Rattle.valid_image.specs.Sizes.{due_base}
use Rattle.loader_code.proofs.Seeking.{from_index}
use Rattle.faulty_part.specs.Parts.{base_of_monitor}
use Rattle.validity_parts.proofs.sizes.monitors_fault.Given as goal

abbrev pub invariant-loop-m : goal.invariant-loop-m
invariant-loop-m l = record {
  search : from_index monitor_of (base_of_monitor (image_of l.raw)) l.raw.monitors l.m ≡ first_in (base_of_monitor (image_of l.raw)) (map monitor_of l.raw.monitors);
  due : l.due ≡ due_base (map monitor_of l.raw.monitors) l.m;
}
