use Rattle.std.proofs.Common.{◌≡◌, map, drop}
use Rattle.syntax_tree.specs.Placed.{placed_member}
use Rattle.syntax_printer.specs.Canonical.{member_lines, lines_of}
use Rattle.syntax_printer.specs.Pages.{put_lines}
use Rattle.syntax_printer.proofs.page.Page.members.Given as goal

abbrev pub invariant-loop-member : goal.invariant-loop-member
invariant-loop-member l = put_lines l.self (lines_of member_lines (map placed_member (drop l.member-index l.members))) ≡ put_lines l.fn.self (lines_of member_lines (map placed_member l.members))
