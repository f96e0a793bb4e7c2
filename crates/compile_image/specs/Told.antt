-- The parts of an image, told of texts, of the parts of the code and of measures.
use Rattle.std.specs.Prelude.{◌≡◌, ℕ, suc, ◌+◌, List, [], ◌∷◌, Option, Some, None, cond, filter_map, is_some, map, nat_le, option_map}
use Rattle.syntax_tree.specs.Plain.{Name, Monitor, Trigger, periodic, at_event, Handler, Process, Program}
use Rattle.base.specs.Capped.{cap}
use Rattle.source_semantics.specs.Names.{count_value, deadline_of, event_in, frame_of, monitors, place_of, processes}
use Rattle.source_semantics.specs.Starts.{first_of}
use Rattle.machine_semantics.specs.Image as image
use Rattle.image_format.specs.View.{views}
use Rattle.valid_image.specs.Sizes.{with_dispatch}
use Rattle.code_spec.specs.Layout.{count, frame_words, monitor_vars, words_of}
use Rattle.code_spec.specs.Numbering.{Text, numbered}
use Rattle.code_spec.specs.Compiled.{ascending, kind_number, owner_number}
use Rattle.code_cost.specs.declared.measure.RoutineMeasure.{RoutineMeasure}
use Rattle.built_image.specs.Named.{names_of}
use Rattle.code_cost.specs.declared.program.ProcessMeasure.{ProcessMeasure}
use Rattle.code_cost.specs.declared.program.Measures.{Measures}
use Rattle.codegen_spec.specs.declared.code.Part.{Part}
use Rattle.codegen_spec.specs.declared.code.ProcessParts.{ProcessParts}
use Rattle.codegen_spec.specs.declared.code.Code.{Code}
use Rattle.compile_image.specs.declared.releases.ReleaseFields.{ReleaseFields}

-- ---- routines

abbrev pub routine_told : Text → Part → RoutineMeasure → image.Routine
routine_told t x row = record {
  kind = kind_number t.owner;
  owner = owner_number t.owner;
  params = count t.routine.params;
  locals = row.words;
  gives = is_some t.routine.answers;
  start = x.start;
  run = row.cost.run;
  susp = row.cost.susp;
  waits = row.cost.waits;
  stay = row.stay;
  tree = views x.tree;
}

abbrev pub routines_told : List Text → List Part → List RoutineMeasure → List image.Routine
routines_told (t ∷ ts) (x ∷ xs) (row ∷ rows) = routine_told t x row ∷ routines_told ts xs rows
routines_told ts xs rows = []

-- ---- processes

-- how a process is released, where the events of the program are these
abbrev pub release_told : Program → List Name → Trigger → ReleaseFields
release_told g events (periodic frame deadline first) = record {
  kind = 0;
  frame = frame_of g (periodic frame deadline first);
  deadline = deadline_of g (periodic frame deadline first);
  first = first_of g first;
  event = 0;
}
release_told g events (at_event e frame deadline) = record {
  kind = 1;
  frame = frame_of g (at_event e frame deadline);
  deadline = deadline_of g (at_event e frame deadline);
  first = 0;
  event = place_of e events;
}

abbrev pub start_told : Option Part → ℕ
start_told None = 0
start_told (Some x) = x.start

-- how many numbers stand before the first that is not less
abbrev pub place_for : ℕ → List ℕ → ℕ
place_for k [] = 0
place_for k (n ∷ ns) = cond (nat_le k n) 0 (suc (place_for k ns))

-- the exception numbers of a handler, from the least to the greatest
abbrev pub numbers_told : Program → Option Handler → List ℕ
numbers_told g None = []
numbers_told g (Some h) = ascending (map (λ n. count_value g n) h.numbers)

abbrev pub process_told : Program → List Name → (over : ℕ) → Process → ProcessParts → ProcessMeasure → image.Process
process_told g events over p x size = record {
  kind = (release_told g events p.activation).kind;
  frame = (release_told g events p.activation).frame;
  deadline = (release_told g events p.activation).deadline;
  first = (release_told g events p.activation).first;
  event = (release_told g events p.activation).event;
  rank = 0;
  run = cap (with_dispatch over size.cost);
  susp = size.cost.susp;
  waits = size.cost.waits;
  block = 0;
  bound = 0;
  words = words_of g p.vars;
  stack = size.stack;
  locals = frame_words p;
  start = x.body.start;
  handler = start_told x.handler;
  numbers = numbers_told g p.handler;
  body = views x.body.tree;
  handler_tree = option_map (λ y. views y.tree) x.handler;
}

abbrev pub processes_told : Program → List Name → ℕ → List Process → List ProcessParts → List ProcessMeasure → List image.Process
processes_told g events over (p ∷ ps) (x ∷ xs) (size ∷ sizes) = process_told g events over p x size ∷ processes_told g events over ps xs sizes
processes_told g events over ps xs sizes = []

-- ---- monitors, from a word on

abbrev pub monitor_told : Program → ℕ → Monitor → image.Monitor
monitor_told g base m = record { base = base; words = words_of g (monitor_vars m); ceiling = 0 }

abbrev pub monitors_told : Program → ℕ → List Monitor → List image.Monitor
monitors_told g base [] = []
monitors_told g base (m ∷ ms) = monitor_told g base m ∷ monitors_told g (base + words_of g (monitor_vars m)) ms

-- ---- the whole image

-- what stands in the image, where these are the code and the measures
pub record IsTold (g : Program) (over : ℕ) (k : Code) (m : Measures) (i : image.Image) : Type 0 where
  pub overhead : i.over ≡ over
  pub monitor_table : i.monitors ≡ monitors_told g 0 (monitors g)
  pub conditions : i.conditions ≡ map (λ c. c.mon) (names_of g).conditions
  pub devices : i.devices ≡ map (λ d. d.out) (names_of g).devices
  pub routines : i.routines ≡ routines_told (numbered g) k.routines m.routines
  pub bodies : i.processes ≡ processes_told g (filter_map event_in g.decls) over (processes g) k.processes m.processes
  pub code : i.code ≡ k.instrs
