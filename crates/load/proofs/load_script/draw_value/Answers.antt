use Rattle.std.proofs.Common.{◌≡◌, pos, ◌-ℤ◌, to_z, of_z, w32, arith, ◌∙◌}
use Rattle.std.proofs.lemmas.Int.{ints}
use Rattle.load.proofs.Lines.{value-is}
use Rattle.load.proofs.load_script.draw_value.Goals as goal

pub returns-clause-value : goal.returns-clause-value
returns-clause-value c key before is =
    let drawn = c.below-drawn.ensures in
    let plain : to_z w32 (of_z w32 (to_z w32 c.below-drawn.result -ℤ pos 1000)) ≡ pos c.below-drawn.result -ℤ pos 1000 = omega (arith, ints, drawn.within) in
    plain ∙ (λ i. pos (drawn.draw i) -ℤ pos 1000) ∙ value-is key before c.args.draws.now.state c.below-drawn.new.self.state is drawn.state
