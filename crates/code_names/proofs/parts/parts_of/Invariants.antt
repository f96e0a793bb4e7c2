use Rattle.std.proofs.Common.{◌≡◌, ◌++◌, length, map, drop}
use Rattle.syntax_tree.specs.Placed.{placed_decl, plain_decl}
use Rattle.code_spec.specs.Numbering.{texts_from}
use Rattle.code_names.specs.Texts.{texts_of}
use Rattle.code_names.specs.Parts.{seen_monitors, seen_processes, monitors_of, processes_of}
use Rattle.code_names.proofs.parts.parts_of.Given as goal

abbrev pub invariant-loop-decl : goal.invariant-loop-decl
invariant-loop-decl l = record {
  texts : texts_of l.parts.texts ++ texts_from (length l.parts.processes.items) (length l.parts.monitors.items) (map plain_decl (map placed_decl (drop l.decl-index l.decl-items))) ≡ texts_from 0 0 (map plain_decl (map placed_decl l.decl-items));
  monitors : seen_monitors l.parts.monitors.items ++ monitors_of (map plain_decl (map placed_decl (drop l.decl-index l.decl-items))) ≡ monitors_of (map plain_decl (map placed_decl l.decl-items));
  processes : seen_processes l.parts.processes.items ++ processes_of (map plain_decl (map placed_decl (drop l.decl-index l.decl-items))) ≡ processes_of (map plain_decl (map placed_decl l.decl-items));
}
