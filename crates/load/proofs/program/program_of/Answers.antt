use Rattle.std.proofs.Common.{◌≤◌, ◌+◌, ◌-◌, ℕ, List, ◌++◌, refl, ap, ◌∙◌, arith}
use Rattle.load.specs.Program.{process_text}
use Rattle.load.proofs.Pieces.{rest, opening-is, one_more, ending-is}
use Rattle.load.proofs.program.program_of.Goals as goal

pub loop-before-init : goal.loop-before-init
loop-before-init c =
    (refl, ap (λ (t : List ℕ). t ++ rest c.args.key c.args.count 0 (c.args.count - 0)) c.in_ok-text.ensures ∙ opening-is c.args.key c.args.count)

pub loop-before-preserved : goal.loop-before-preserved
loop-before-preserved c =
    let draws = c.draw_three-drawn.ensures in
    let at = c.loop-before.before in
    let drawn = draws.drawn c.args.key at c.loop-before.invariant.0 in (
      draws.state c.args.key at c.loop-before.invariant.0,
      one_more c.args.key c.args.count at c.loop-before.text c.add_process.new.text c.loop-before-test.true c.loop-before.invariant.1
          (c.in_ok-add_process.ensures ∙ ap (λ d. c.loop-before.text ++ process_text c.args.count (at + 1) d) drawn),
    )

pub returns : goal.returns
returns c =
    let all : c.args.count ≤ c.loop-before.before = omega (arith, c.loop-before-test.false) in
    ending-is c.args.key c.args.count c.loop-before.before c.loop-before.text c.extend.new.self all c.loop-before.invariant.1 c.in_ok-extend.ensures.ok
