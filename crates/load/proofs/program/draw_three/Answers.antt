use Rattle.std.proofs.Common.{ap, ◌∙◌}
use Rattle.load.specs.Draws.{next, below}
use Rattle.load.proofs.ThreeDraws.{third_state, three_draws}
use Rattle.load.proofs.program.draw_three.Goals as goal

pub returns-clause-state : goal.returns-clause-state
returns-clause-state c key before is =
    c.below-addend.ensures.state ∙ ap next (c.below-turns.ensures.state ∙ ap next c.below-frames.ensures.state)
    ∙ third_state key before c.args.draws.now.state is

pub returns-clause-drawn : goal.returns-clause-drawn
returns-clause-drawn c key before is =
    let one = c.below-frames.ensures.state in
    let two = c.below-turns.ensures.state ∙ ap next one in
    let three = c.below-addend.ensures.state ∙ ap next two in
    let frames = c.below-frames.ensures.draw ∙ ap (λ x. below x 8) one in
    let turns = c.below-turns.ensures.draw ∙ ap (λ x. below x 10) two in
    let addend = c.below-addend.ensures.draw ∙ ap (λ x. below x 50) three in
    (λ i. record { frames = frames i; turns = turns i; addend = addend i }) ∙ three_draws key before c.args.draws.now.state is
