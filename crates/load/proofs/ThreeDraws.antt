-- Three draws from the state before those of a process.
use Rattle.std.proofs.Common.{◌≡◌, ℕ, suc, ◌+◌, ◌*◌, ap, ◌∙◌, arith}
use Rattle.load.specs.declared.program.DrawnProcess.{DrawnProcess}
use Rattle.load.specs.Draws.{next, state, below, draw}
use Rattle.load.specs.Program.{drawn}

first_state : (key before x : ℕ) → x ≡ state key (3 * before) → next x ≡ state key (3 * before + 1)
first_state key before x is = ap next is ∙ ap (state key) (let e : suc (3 * before) ≡ 3 * before + 1 = omega arith in e)

second_state : (key before x : ℕ) → x ≡ state key (3 * before) → next (next x) ≡ state key (3 * before + 2)
second_state key before x is = ap next (first_state key before x is) ∙ ap (state key) (let e : suc (3 * before + 1) ≡ 3 * before + 2 = omega arith in e)

pub third_state : (key before x : ℕ) → x ≡ state key (3 * before) → next (next (next x)) ≡ state key (3 * (before + 1))
third_state key before x is = ap next (second_state key before x is) ∙ ap (state key) (let e : suc (3 * before + 2) ≡ 3 * (before + 1) = omega arith in e)

pub three_draws : (key before x : ℕ) → x ≡ state key (3 * before)
    → (let y : DrawnProcess = record { frames = below (next x) 8; turns = below (next (next x)) 10; addend = below (next (next (next x))) 50 } in y ≡ drawn key before)
unfolding draw
three_draws key before x is =
    let one = ap next is in
    let two = ap next (first_state key before x is) in
    let three = ap next (second_state key before x is) in
    λ i. record { frames = below (one i) 8; turns = below (two i) 10; addend = below (three i) 50 }
