use Rattle.std.proofs.Common.{codes, decimal}
use Rattle.command_due.specs.Lines.{slack_line, spaced}
use Rattle.command_programs.proofs.Growing.{then_ok}
use Rattle.command_programs.proofs.Joined.{nine}
use Rattle.command_programs.proofs.lines.add_line.Goals as goal

pub returns : goal.returns
unfolding slack_line
returns c = then_ok c.extend-7.result _ _ c.extend-7.ensures.ok (λ last.
    nine c.args.text.now c.extend.new.self c.extend-2.new.self c.extend-3.new.self c.add_number.new.text c.extend-4.new.self c.add_spaced.new.text c.extend-5.new.self c.extend-6.new.self c.extend-7.new.self
    (codes "slack ") c.args.name.now (codes " ") (decimal c.args.extra) (codes " bounds") (spaced c.args.bounds.now) (codes " fails ") c.args.failing.now (codes "\n")
    c.in_ok-extend.ensures.ok c.in_ok-extend-2.ensures.ok c.in_ok-extend-3.ensures.ok c.in_ok-add_number.ensures c.in_ok-extend-4.ensures.ok c.in_ok-add_spaced.ensures c.in_ok-extend-5.ensures.ok
    c.in_ok-extend-6.ensures.ok last)
