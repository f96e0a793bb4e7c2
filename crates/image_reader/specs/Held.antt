-- What a reader holds of the parts, as the format tells them.
use Rattle.std.specs.Prelude.{List, ℕ, map}
use Rattle.std.specs.List.{zip}
use Rattle.machine_isa.specs.declared.instr.Instr.{Instr}
use Rattle.machine_semantics.specs.Image.{Monitor, Routine, Process}
use Rattle.image.specs.Raw.{monitor_of, process_of, routine_of}
use Rattle.image.specs.declared.names.ConditionName.{ConditionName}
use Rattle.image.specs.declared.names.DeviceName.{DeviceName}
use Rattle.image_reader.specs.declared.whole_image.Guarded.{Guarded}
use Rattle.image_reader.specs.declared.whole_image.Named.{Named}
use Rattle.image_reader.specs.declared.whole_image.Work.{Work}
use Rattle.image_reader.specs.File.{Parts}

abbrev pub work_of : Work → List Routine × (List (List ℕ × Process) × List Instr)
work_of w = (map routine_of w.routines, (zip w.processes.names (map process_of w.processes.things), w.code))

abbrev pub guarded_of : Guarded → List (List ℕ × Monitor) × (List ConditionName × (List Routine × (List (List ℕ × Process) × List Instr)))
guarded_of g = (zip g.monitors.names (map monitor_of g.monitors.things), (g.conditions, work_of g.work))

abbrev pub named_of : Named → List DeviceName × (List (List ℕ) × (List (List ℕ × Monitor) × (List ConditionName × (List Routine × (List (List ℕ × Process) × List Instr)))))
named_of n = (n.devices, (n.events, guarded_of n.guarded))

-- the parts that these are
abbrev pub parts_with : ℕ → List ℕ → List DeviceName → List (List ℕ) → List (List ℕ × Monitor) × (List ConditionName × (List Routine × (List (List ℕ × Process) × List Instr))) → Parts
parts_with over program devices events rest = record {
  over = over;
  program = program;
  devices = devices;
  events = events;
  monitors = rest.0;
  conditions = rest.1.0;
  routines = rest.1.1.0;
  processes = rest.1.1.1.0;
  code = rest.1.1.1.1;
}
