-- One more instruction of a Line.
use Rattle.std.proofs.Common.{◌≡◌, ◌<◌, ◌+◌, ◌-◌, ℕ, suc, Bool, true, false, List, Option, Some, None, arith, refl, ap, sym, ◌∙◌}
use Rattle.std.specs.Prelude.{◌&&◌, nat_le, slice_get}
use Rattle.machine_isa.specs.declared.instr.Instr.{Instr}
use Rattle.machine_isa.specs.Operands.{takes, gives}
use Rattle.machine_isa.specs.Ticks.{ticks}
use Rattle.valid_image.specs.Found.{Found, amount, in_line, guard, joined, chain, plain_step, line}
use Rattle.valid_image_law.specs.Held.{held, hold, before}
use Rattle.valid_image_law.proofs.Holding.{holding_changes_nothing}
use Rattle.loader_code.specs.Steps.{step}

guarded : (b : Bool) (f : Found) (next : ℕ → Option Found) → guard b (joined f (next f.height)) ≡ chain (guard b (Some f)) next
guarded true f next = refl
guarded false f next = refl

-- an instruction, and the rest from its height on
pub chained : (instr : Option Instr) (h : ℕ) (next : ℕ → Option Found) → plain_step instr h next ≡ chain (step instr h) next
chained None h next = refl
chained (Some instr) h next =
    guarded (in_line instr && nat_le (takes instr) h) (record { height = gives instr + (h - takes instr); cost = amount (ticks instr) 0 0; depth = gives instr + (h - takes instr) }) next

same : (f g : Found) → f.height ≡ g.height → f.cost.run ≡ g.cost.run → f.cost.susp ≡ g.cost.susp → f.cost.waits ≡ g.cost.waits → f.depth ≡ g.depth → f ≡ g
same f g height run susp waits depth =
    ap (λ x. record { height = x; cost = amount f.cost.run f.cost.susp f.cost.waits; depth = f.depth }) height
    ∙ ap (λ x. record { height = g.height; cost = amount x f.cost.susp f.cost.waits; depth = f.depth }) run
    ∙ ap (λ x. record { height = g.height; cost = amount g.cost.run x f.cost.waits; depth = f.depth }) susp
    ∙ ap (λ x. record { height = g.height; cost = amount g.cost.run g.cost.susp x; depth = f.depth }) waits
    ∙ ap (λ x. record { height = g.height; cost = amount g.cost.run g.cost.susp g.cost.waits; depth = x }) depth

-- what came before, and a piece that comes to what is held
pub one_more : (so_far next new : Found) (x : Option Found) (rest : ℕ → Option Found) → Some next ≡ hold x → new ≡ held (before so_far next)
    → hold (joined new (rest next.height)) ≡ hold (joined so_far (chain x rest))
one_more so_far next new None rest is comes = absurd cc
one_more so_far next new (Some g) rest is comes =
    let next_is : next ≡ held g = cc in
    let new_is : new ≡ held (before so_far g) =
    comes ∙ ap (λ n. held (before so_far n)) next_is
    ∙ same (held (before so_far (held g))) (held (before so_far g)) refl (omega arith) (omega arith) (omega arith) (omega arith) in
    ap (λ n. hold (joined n (rest next.height))) new_is ∙ ap (λ n. hold (joined (held (before so_far g)) (rest n.height))) next_is
    ∙ sym (holding_changes_nothing.in_front so_far g (rest g.height))

-- the next instruction of a Line
pub on : (code : List Instr) (count k at h : ℕ) (so_far next new : Found) (whole : Option Found) → k < count
    → hold (joined so_far (line code (count - k) at so_far.height)) ≡ whole → Some next ≡ hold (step (slice_get code at) so_far.height) → new ≡ held (before so_far next)
    → hold (joined new (line code (count - (k + 1)) (at + 1) next.height)) ≡ whole
on code count k at h so_far next new whole less rest is comes =
    let one : count - k ≡ suc (count - (k + 1)) = omega (arith, less) in
    let more = one_more so_far next new (step (slice_get code at) so_far.height) (line code (count - (k + 1)) (at + 1)) is comes in
    more ∙ ap (λ x. hold (joined so_far x)) (sym (chained (slice_get code at) so_far.height (line code (count - (k + 1)) (at + 1))))
    ∙ ap (λ n. hold (joined so_far (line code n at so_far.height))) (sym one) ∙ rest
