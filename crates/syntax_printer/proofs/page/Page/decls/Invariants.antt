use Rattle.std.proofs.Common.{◌≡◌, map, drop}
use Rattle.syntax_tree.specs.Placed.{placed_decl}
use Rattle.syntax_printer.specs.Canonical.{decl_lines, lines_of}
use Rattle.syntax_printer.specs.Pages.{put_lines}
use Rattle.syntax_printer.proofs.page.Page.decls.Given as goal

abbrev pub invariant-loop-decl : goal.invariant-loop-decl
invariant-loop-decl l = put_lines l.self (lines_of decl_lines (map placed_decl (drop l.decl-index l.decls))) ≡ put_lines l.fn.self (lines_of decl_lines (map placed_decl l.decls))
