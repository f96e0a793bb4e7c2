-- The counts of an image that is built fit their fields.
use Rattle.std.proofs.Common.{◌≡◌, ◌≤◌, ◌<◌, ℕ, List, length, map, take, Option, Some, None, arith, ap, subst}
use Rattle.std.specs.Prelude.{slice_get}
use Rattle.std.proofs.lemmas.Option.{get_or_from_slice_get, slice_get_within}
use Rattle.base.proofs.Lists.{all_of}
use Rattle.machine_isa.specs.declared.instr.Instr.{Instr}
use Rattle.syntax_tree.specs.Plain as plain_of
use Rattle.syntax_tree.specs.Plain.{Constant, Handler, Program}
use Rattle.source_semantics.specs.Names.{count_value, processes}
use Rattle.machine_semantics.specs.Trees.{Segs}
use Rattle.machine_semantics.specs.Image.{Image, Process, Routine}
use Rattle.image.specs.InRange.{AreCounted, IsInRange, IsProcessInRange, IsSmall, IsSmallHandler}
use Rattle.image_format.specs.TreeBytes.{segments}
use Rattle.code_spec.specs.Compiled.{EmitsHandler, IsCodeOf, ascending}
use Rattle.valid_image.specs.Tables.{handler_found, handler_start, known}
use Rattle.valid_image.specs.Valid.{Shape, fault_of_part}
use Rattle.valid_image_law.proofs.Shapes.{ProcessShaped, RoutineShaped, process_shaped, routine_shaped}
use Rattle.static_semantics.specs.WellFormed.{IsWellFormed, OptionalFits, ProcessFits}
use Rattle.built_image_law.specs.Short.{NamesAreShort}
use Rattle.built_image.specs.Named.{names_of}
use Rattle.built_image_law.proofs.Texts.{Emitted, emitted}
use Rattle.built_valid_law.proofs.Counts.{Counted}
use Rattle.built_valid_law.proofs.Handled.{few_numbers}
use Rattle.built_valid_law.proofs.Names.{are_named, name_fits}
use Rattle.built_valid_law.proofs.Trees.{There, part_low, routine_low}

-- ---- trees

handler_small : (m : Image) (p : Process) (o : Option Segs) → length m.code ≤ 65535 → There (handler_found m p o) → IsSmallHandler o
handler_small m p None short t = tt
handler_small m p (Some tree) short t = let low : segments tree < length m.code = part_low m.code (known m) tree (handler_start p) t in omega (arith, low, short)

-- ---- the numbers of a handler

numbers_low : (g : Program) (code : List Instr) (k : ℕ) (t : plain_of.Process) (o : Option Handler) (a b : ℕ) (p : Process) → EmitsHandler g code k t o a b p
    → OptionalFits g t o → length p.numbers ≤ 1000
numbers_low g code k t None a b p h fits = let none : length p.numbers ≡ 0 = ap (λ (ns : List ℕ). length ns) h.2 in omega (arith, none)
numbers_low g code k t (Some x) a b p h fits =
    let are : length p.numbers ≡ length (ascending (map (λ (n : Constant). count_value g n) x.numbers)) = ap (λ (ns : List ℕ). length ns) h.4 in
    omega (arith, are, few_numbers g x.numbers fits.numbers fits.once)

module _ (g : Program) (m : Image) (formed : IsWellFormed g) (code : IsCodeOf g m) (shape : fault_of_part m Shape ≡ None) (short : length m.code ≤ 65535) where
  routine_small : (r : ℕ) (x : Routine) → slice_get m.routines r ≡ Some x → IsSmall x.tree
  routine_small r x at =
      let s : RoutineShaped m r x = routine_shaped m shape r x at in
      let low : segments x.tree < length m.code = routine_low m.code (take r (known m)) x (s.f, s.is) in
      omega (arith, low, short)

  process_in_range : (k : ℕ) (p : Process) → slice_get m.processes k ≡ Some p → IsProcessInRange p
  process_in_range k p at =
      let s : ProcessShaped m k p = process_shaped m shape k p at in
      let e : Emitted g m.code (processes g) k p = emitted g m.code 0 code.between (length m.code) (processes g) m.processes code.process_code k p at in
      let fits : ProcessFits g e.text =
      subst (ProcessFits g) (get_or_from_slice_get (processes g) k e.text e.text e.there) (formed.processes_fit k e.text (slice_get_within (processes g) k e.text e.there)) in
      let few : length p.numbers ≤ 1000 = numbers_low g m.code e.number e.text e.text.handler _ _ p e.emits.handler fits.handler in
      let low : segments p.body < length m.code = part_low m.code (known m) p.body p.start (s.f, s.body) in
      record {
        numbers = omega (arith, few);
        body = omega (arith, low, short);
        handler_tree = handler_small m p p.handler_tree short (s.g, s.handler);
      }

  are_counted : Counted g m → AreCounted (names_of g) m
  are_counted counts = record {
    processes = omega (arith, counts.few_processes);
    monitors = omega (arith, counts.few_monitors);
    conditions = omega (arith, counts.condition_names, counts.conditions);
    devices = omega (arith, counts.device_names, counts.devices);
    events = omega (arith, counts.events);
    routines = omega (arith, counts.routines);
    code = omega (arith, short);
  }

  pub in_range : Counted g m → NamesAreShort g → IsInRange (record { program = g.name; names = names_of g; image = m })
  in_range counts names = record {
    program = name_fits g.name names.of_program;
    names = are_named g m counts names;
    counts = are_counted counts;
    routines = all_of (λ (r : Routine). IsSmall r.tree) m.routines routine_small;
    processes = all_of IsProcessInRange m.processes process_in_range;
  }
