use Rattle.syntax_tree.specs.Placed.{placed_decl}
use Rattle.syntax_printer.specs.Canonical.{decl_lines}
use Rattle.syntax_printer.proofs.Steps.{lines_turned}
use Rattle.syntax_printer.proofs.page.Page.decls.Goals as goal

pub loop-decl-preserved : goal.loop-decl-preserved
loop-decl-preserved c =
    lines_turned decl_lines placed_decl c.args.decls.now c.loop-decl.decl-index c.decl-item.result c.loop-decl.self c.decl.new.self _ c.loop-decl-test.true c.decl-item.is
    c.loop-decl.invariant c.in_ok-decl.ensures
