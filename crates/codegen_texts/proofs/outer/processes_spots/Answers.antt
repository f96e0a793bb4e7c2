use Rattle.std.proofs.Common.{◌∷◌, List, ap, sym, refl, drop, ◌+◌}
use Rattle.std.specs.Borrow.{Bor}
use Rattle.syntax_tree.specs.Plain.{Program}
use Rattle.syntax_tree.specs.Placed.{placed, plain}
use Rattle.syntax_tree.specs.declared.decl.Process.{Process}
use Rattle.code_layout.specs.LayoutTables.{Table}
use Rattle.code_names.specs.Parts.{seen_processes}
use Rattle.codegen_texts.specs.Shared.{process_tables}
use Rattle.codegen_texts.proofs.Turns.{turn, last}
use Rattle.codegen_texts.proofs.outer.processes_spots.Goals as goal

abbrev listed : Program → List (Bor Process) → List Table
listed g l = process_tables g (seen_processes l)

pub loop-process-preserved : goal.loop-process-preserved
loop-process-preserved c =
    let all = listed (plain (placed c.args.values.now)) in
    let items = c.args.processes.now in
    let at = c.loop-process.process-index in
    turn all all c.loop-process.tables.items c.push.new.self.items items at c.process-item.result c.in_ok-spots.spots (all items)
    (ap (λ t. t ∷ all (drop (at + 1) items)) (sym c.in_ok-spots.ensures)) c.in_ok-push.ensures.items c.process-item.is c.loop-process-test.true c.loop-process.invariant

pub returns : goal.returns
returns c =
    let all = listed (plain (placed c.args.values.now)) in
    last all c.loop-process.tables.items c.args.processes.now c.loop-process.process-index (all c.args.processes.now) refl c.loop-process-test.false c.loop-process.invariant
