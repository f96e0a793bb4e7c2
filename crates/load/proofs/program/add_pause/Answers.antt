use Rattle.std.proofs.Common.{ℕ, List, ◌++◌, ap, ◌∙◌}
use Rattle.std.proofs.lemmas.Result.{on_ok_weaker}
use Rattle.load.proofs.Pieces.{pause_of_even, pause_of_odd}
use Rattle.load.proofs.program.add_pause.Goals as goal

pub returns-then-number-eq0 : goal.returns-then-number-eq0
returns-then-number-eq0 c =
    let even = pause_of_even c.args.number c.if-number-eq0.true in
    on_ok_weaker c.extend.result (λ put. put ∙ ap (λ (t : List ℕ). c.args.text.now ++ t) even) c.extend.ensures.ok

pub returns : goal.returns
returns c = pause_of_odd c.args.number c.args.text.now c.if-number-eq0.false
