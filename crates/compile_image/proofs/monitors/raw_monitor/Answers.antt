use Rattle.std.proofs.Common.{◌≡◌, ◌-◌, ℕ, ap, arith}
use Rattle.syntax_tree.specs.Placed.{placed, placed_monitor, plain, plain_monitor}
use Rattle.machine_semantics.specs.Image as image
use Rattle.code_spec.specs.Layout.{monitor_vars, words_of}
use Rattle.compile_image.proofs.monitors.raw_monitor.Goals as goal

pub returns : goal.returns
returns c =
    let m = plain_monitor (placed_monitor c.args.monitor.now) in
    let g = plain (placed c.args.values.now) in
    let words : c.in-Ok.it.word - c.args.base ≡ words_of g (monitor_vars m) = omega (arith, c.in-Ok.ensures.words, c.from.ensures) in
    let made = λ (n : ℕ). let y : image.Monitor = record { base = c.args.base; words = n; ceiling = 0 } in y in
    record { told = ap made words; words = words }
