use Rattle.syntax_tree.specs.Placed.{placed_member}
use Rattle.syntax_printer.specs.Canonical.{member_lines}
use Rattle.syntax_printer.proofs.Steps.{lines_turned}
use Rattle.syntax_printer.proofs.page.Page.members.Goals as goal

pub loop-member-preserved : goal.loop-member-preserved
loop-member-preserved c =
    lines_turned member_lines placed_member c.args.members.now c.loop-member.member-index c.member-item.result c.loop-member.self c.member.new.self _ c.loop-member-test.true c.member-item.is
    c.loop-member.invariant c.in_ok-member.ensures
