-- The code that an image holds, and what it declares of costs, do not depend on ranks, ceilings, blocks and bounds.
use Rattle.std.specs.Prelude.{◌≡◌, ◌+◌, ℕ, List, [], ◌∷◌, Option, Some, None, map, slice_get}
use Rattle.std.proofs.Common.{sym, subst}
use Rattle.base.proofs.Lists.{map_get}
use Rattle.syntax_tree.specs.Plain.{Trigger, periodic, at_event, Handler, Monitor, Process, Program}
use Rattle.machine_semantics.specs.Image as image
use Rattle.code_spec.specs.Layout.{words_of, monitor_vars}
use Rattle.code_spec.specs.Compiled.{IsReleased, AreMonitors}
use Rattle.codegen_spec.specs.declared.code.Part.{Part}
use Rattle.codegen_spec.specs.declared.code.ProcessParts.{ProcessParts}
use Rattle.codegen_spec.specs.declared.code.Code.{Code}
use Rattle.codegen_spec.specs.Held.{HoldsHandler, HoldsProcess, HoldProcesses, Holds}
use Rattle.code_measures.specs.Declared.{DeclaresProcess, Declares}
use Rattle.built_image.specs.Filled.{without_rank, without_ceiling, without_ranks}
use Rattle.built_image_law.proofs.Lists.{came_from}

-- ---- a process

handler_down : (g : Program) (h : Option Handler) (x : Option Part) (p : image.Process) → HoldsHandler g h x p → HoldsHandler g h x (without_rank p)
handler_down g None None p is = is
handler_down g None (Some x) p is = is
handler_down g (Some h) None p is = is
handler_down g (Some h) (Some x) p is = is

handler_up : (g : Program) (h : Option Handler) (x : Option Part) (p : image.Process) → HoldsHandler g h x (without_rank p) → HoldsHandler g h x p
handler_up g None None p is = is
handler_up g None (Some x) p is = is
handler_up g (Some h) None p is = is
handler_up g (Some h) (Some x) p is = is

released_down : (g : Program) (a : Trigger) (p : image.Process) → IsReleased g a p → IsReleased g a (without_rank p)
released_down g (periodic frame deadline first) p is = is
released_down g (at_event e frame deadline) p is = is

released_up : (g : Program) (a : Trigger) (p : image.Process) → IsReleased g a (without_rank p) → IsReleased g a p
released_up g (periodic frame deadline first) p is = is
released_up g (at_event e frame deadline) p is = is

process_down : (g : Program) (t : Process) (x : ProcessParts) (p : image.Process) → HoldsProcess g t x p → HoldsProcess g t x (without_rank p)
process_down g t x p h = record {
  start = h.start;
  tree = h.tree;
  handler = handler_down g t.handler x.handler p h.handler;
  locals = h.locals;
  words = h.words;
  frame = h.frame;
  deadline = h.deadline;
  released = released_down g t.activation p h.released;
}

process_up : (g : Program) (t : Process) (x : ProcessParts) (p : image.Process) → HoldsProcess g t x (without_rank p) → HoldsProcess g t x p
process_up g t x p h = record {
  start = h.start;
  tree = h.tree;
  handler = handler_up g t.handler x.handler p h.handler;
  locals = h.locals;
  words = h.words;
  frame = h.frame;
  deadline = h.deadline;
  released = released_up g t.activation p h.released;
}

-- ---- lists

processes_down : (g : Program) (ts : List Process) (xs : List ProcessParts) (ps : List image.Process) → HoldProcesses g ts xs ps → HoldProcesses g ts xs (map without_rank ps)
processes_down g [] [] [] h = h
processes_down g [] [] (p ∷ ps) h = h
processes_down g [] (x ∷ xs) [] h = h
processes_down g [] (x ∷ xs) (p ∷ ps) h = h
processes_down g (t ∷ ts) [] [] h = h
processes_down g (t ∷ ts) [] (p ∷ ps) h = h
processes_down g (t ∷ ts) (x ∷ xs) [] h = h
processes_down g (t ∷ ts) (x ∷ xs) (p ∷ ps) h = (process_down g t x p h.0, processes_down g ts xs ps h.1)

processes_up : (g : Program) (ts : List Process) (xs : List ProcessParts) (ps : List image.Process) → HoldProcesses g ts xs (map without_rank ps) → HoldProcesses g ts xs ps
processes_up g [] [] [] h = h
processes_up g [] [] (p ∷ ps) h = h
processes_up g [] (x ∷ xs) [] h = h
processes_up g [] (x ∷ xs) (p ∷ ps) h = h
processes_up g (t ∷ ts) [] [] h = h
processes_up g (t ∷ ts) [] (p ∷ ps) h = h
processes_up g (t ∷ ts) (x ∷ xs) [] h = h
processes_up g (t ∷ ts) (x ∷ xs) (p ∷ ps) h = (process_up g t x p h.0, processes_up g ts xs ps h.1)

words_down : (g : Program) (base : ℕ) (ms : List Monitor) (ks : List image.Monitor) → AreMonitors g base ms ks → AreMonitors g base ms (map without_ceiling ks)
words_down g base [] [] h = h
words_down g base [] (k ∷ ks) h = h
words_down g base (m ∷ ms) [] h = h
words_down g base (m ∷ ms) (k ∷ ks) h = (h.0, h.1, words_down g (base + words_of g (monitor_vars m)) ms ks h.2)

words_up : (g : Program) (base : ℕ) (ms : List Monitor) (ks : List image.Monitor) → AreMonitors g base ms (map without_ceiling ks) → AreMonitors g base ms ks
words_up g base [] [] h = h
words_up g base [] (k ∷ ks) h = h
words_up g base (m ∷ ms) [] h = h
words_up g base (m ∷ ms) (k ∷ ks) h = (h.0, h.1, words_up g (base + words_of g (monitor_vars m)) ms ks h.2)

-- ---- the whole

holds_down : (g : Program) (c : Code) (m : image.Image) → Holds g c m → Holds g c (without_ranks m)
holds_down g c m h = record {
  code = h.code;
  routines = h.routines;
  bodies = processes_down g _ c.processes m.processes h.bodies;
  monitor_words = words_down g 0 _ m.monitors h.monitor_words;
  condition_table = h.condition_table;
  device_table = h.device_table;
}

holds_up : (g : Program) (c : Code) (m : image.Image) → Holds g c (without_ranks m) → Holds g c m
holds_up g c m h = record {
  code = h.code;
  routines = h.routines;
  bodies = processes_up g _ c.processes m.processes h.bodies;
  monitor_words = words_up g 0 _ m.monitors h.monitor_words;
  condition_table = h.condition_table;
  device_table = h.device_table;
}

pub holds_agree : (g : Program) (c : Code) (n m : image.Image) → without_ranks n ≡ without_ranks m → Holds g c m → Holds g c n
holds_agree g c n m same h = holds_up g c n (subst (Holds g c) (sym same) (holds_down g c m h))

declared_down : (g : Program) (over k : ℕ) (t : Process) (p : image.Process) → DeclaresProcess g over k t p → DeclaresProcess g over k t (without_rank p)
declared_down g over k t p d = record { run = d.run; susp = d.susp; waits = d.waits; stack = d.stack }

declared_up : (g : Program) (over k : ℕ) (t : Process) (p : image.Process) → DeclaresProcess g over k t (without_rank p) → DeclaresProcess g over k t p
declared_up g over k t p d = record { run = d.run; susp = d.susp; waits = d.waits; stack = d.stack }

declares_down : (g : Program) (m : image.Image) → Declares g m → Declares g (without_ranks m)
declares_down g m d = record {
  routines = λ r t x text at. d.routines r t x text at;
  bodies = λ k t x text at.
      let p = came_from without_rank m.processes k x at in
      subst (DeclaresProcess g m.over k t) p.2 (declared_down g m.over k t p.0 (d.bodies k t p.0 text p.1));
}

declares_up : (g : Program) (m : image.Image) → Declares g (without_ranks m) → Declares g m
declares_up g m d = record {
  routines = λ r t x text at. d.routines r t x text at;
  bodies = λ k t x text at. declared_up g m.over k t x (d.bodies k t (without_rank x) text (map_get without_rank m.processes k x at));
}

pub declares_agree : (g : Program) (n m : image.Image) → without_ranks n ≡ without_ranks m → Declares g m → Declares g n
declares_agree g n m same d = declares_up g n (subst (Declares g) (sym same) (declares_down g m d))
