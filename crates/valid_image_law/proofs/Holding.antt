-- Holding what a step is made of changes nothing in what is held of it.
use Rattle.std.proofs.Common.{◌≡◌, ◌<◌, ◌+◌, ◌*◌, ◌-◌, ℕ, suc, Option, Some, None, arith, refl, ap, ◌∙◌, true, false, Bool}
use Rattle.std.specs.Prelude.{min, max, nat_eq, nat_le, ◌&&◌, option_map}
use Rattle.machine_isa.specs.declared.instr.Instr.{Instr}
use Rattle.machine_isa.specs.Ticks.{ticks}
use Rattle.base.specs.Capped.{cap}
use Rattle.machine_isa.specs.Operands.{takes, gives}
use Rattle.valid_image.specs.Found.{Known, Found, amount, plus, greater, longer, turns, in_line, guard, joined, chain, plain_step, arms, loop, call, ended}
use Rattle.valid_image.specs.Tables.{nothing_found}
use Rattle.valid_image_law.specs.Held.{held, hold, held_known, before, HoldingChangesNothing}
use Rattle.valid_image_law.proofs.Exact.{many}

-- two results that are held alike
same_held : (f g : Found) → f.height ≡ g.height → cap f.cost.run ≡ cap g.cost.run → cap f.cost.susp ≡ cap g.cost.susp → cap f.cost.waits ≡ cap g.cost.waits → min f.depth 4097 ≡ min g.depth 4097 → Some (held f) ≡ Some (held g)
same_held f g height run susp waits depth =
    ap (λ x. Some (record { height = x; cost = amount (cap f.cost.run) (cap f.cost.susp) (cap f.cost.waits); depth = min f.depth 4097 })) height
    ∙ ap (λ x. Some (record { height = g.height; cost = amount x (cap f.cost.susp) (cap f.cost.waits); depth = min f.depth 4097 })) run
    ∙ ap (λ x. Some (record { height = g.height; cost = amount (cap g.cost.run) x (cap f.cost.waits); depth = min f.depth 4097 })) susp
    ∙ ap (λ x. Some (record { height = g.height; cost = amount (cap g.cost.run) (cap g.cost.susp) x; depth = min f.depth 4097 })) waits
    ∙ ap (λ x. Some (record { height = g.height; cost = amount (cap g.cost.run) (cap g.cost.susp) (cap g.cost.waits); depth = x })) depth

guarded : (b : Bool) (f g : Found) → Some (held f) ≡ Some (held g) → hold (guard b (Some f)) ≡ hold (guard b (Some g))
guarded true f g is = is
guarded false f g is = refl

pub hold_guard : (b : Bool) (x y : Option Found) → hold x ≡ hold y → hold (guard b x) ≡ hold (guard b y)
hold_guard true x y is = is
hold_guard false x y is = refl

in_joined : (f g : Found) (x : Option Found) → f.height ≡ g.height → cap f.cost.run ≡ cap g.cost.run → cap f.cost.susp ≡ cap g.cost.susp → cap f.cost.waits ≡ cap g.cost.waits → min f.depth 4097 ≡ min g.depth 4097
    → hold (joined f x) ≡ hold (joined g (hold x))
in_joined f g None height run susp waits depth = refl
in_joined f g (Some y) height run susp waits depth =
    same_held (record { height = y.height; cost = plus f.cost y.cost; depth = max f.depth y.depth }) (record { height = y.height; cost = plus g.cost (held y).cost; depth = max g.depth (held y).depth })
    refl (omega (arith, run)) (omega (arith, susp)) (omega (arith, waits)) (omega (arith, depth))

holds_chain : (x : Option Found) (next : ℕ → Option Found) → hold (chain x next) ≡ hold (chain (hold x) (λ h. hold (next h)))
holds_chain None next = refl
holds_chain (Some f) next = in_joined f (held f) (next f.height) refl (omega arith) (omega arith) (omega arith) (omega arith)

holds_line : (instr : Option Instr) (h : ℕ) (next : ℕ → Option Found) → hold (plain_step instr h next) ≡ hold (plain_step instr h (λ k. hold (next k)))
holds_line None h next = refl
holds_line (Some instr) h next =
    let f : Found = record { height = gives instr + (h - takes instr); cost = amount (ticks instr) 0 0; depth = gives instr + (h - takes instr) } in
    hold_guard (in_line instr && nat_le (takes instr) h) (joined f (next (gives instr + (h - takes instr)))) (joined f (hold (next (gives instr + (h - takes instr)))))
    (in_joined f f (next (gives instr + (h - takes instr))) refl refl refl refl refl)

holds_arms : (x y : Option Found) → hold (arms x y) ≡ hold (arms (hold x) (hold y))
holds_arms None y = refl
holds_arms (Some a) None = refl
holds_arms (Some a) (Some b) =
    guarded (nat_eq a.height b.height) (record { height = a.height; cost = greater (longer 3 a.cost) (longer 2 b.cost); depth = max a.depth b.depth })
    (record { height = a.height; cost = greater (longer 3 (held a).cost) (longer 2 (held b).cost); depth = max (held a).depth (held b).depth })
    (same_held (record { height = a.height; cost = greater (longer 3 a.cost) (longer 2 b.cost); depth = max a.depth b.depth })
    (record { height = a.height; cost = greater (longer 3 (held a).cost) (longer 2 (held b).cost); depth = max (held a).depth (held b).depth }) refl (omega arith) (omega arith) (omega arith) (omega arith))

-- a product of what was held
pub product : (n a b : ℕ) → 0 < n → cap a ≡ cap b → cap (n * a) ≡ cap (n * b)
product n a b some is = let up = many n a b some (omega (arith, is)) in let down = many n b a some (omega (arith, is)) in omega (arith, up, down)

holds_loop : (n h : ℕ) (x : Option Found) → 0 < n → hold (loop n h x) ≡ hold (loop n h (hold x))
holds_loop n h None some = refl
holds_loop n h (Some f) some =
    let run : cap (n * (f.cost.run + 3)) ≡ cap (n * (cap f.cost.run + 3)) = product n (f.cost.run + 3) (cap f.cost.run + 3) some (omega arith) in
    guarded (nat_eq f.height 0) (record { height = h; cost = turns n f.cost; depth = suc h + f.depth }) (record { height = h; cost = turns n (held f).cost; depth = suc h + (held f).depth })
    (same_held (record { height = h; cost = turns n f.cost; depth = suc h + f.depth }) (record { height = h; cost = turns n (held f).cost; depth = suc h + (held f).depth }) refl (omega (arith, run))
    (product n f.cost.susp (cap f.cost.susp) some (omega arith)) (product n f.cost.waits (cap f.cost.waits) some (omega arith)) (omega arith))

abbrev after_call : ℕ → Known → Found
after_call h k = record { height = k.results + (h - k.params); cost = longer 6 k.cost; depth = max (k.results + (h - k.params)) (h - k.params + 2 + k.locals + k.depth) }

holds_call : (h : ℕ) (k : Option Known) → hold (call h k) ≡ hold (call h (option_map held_known k))
holds_call h None = refl
holds_call h (Some k) = guarded (nat_le k.params h) (after_call h k) (after_call h (held_known k)) (same_held (after_call h k) (after_call h (held_known k)) refl (omega arith) (omega arith) (omega arith) (omega arith))

holds_end : (n : ℕ) (x : Option Found) → hold (ended n x) ≡ ended n (hold x)
holds_end n None = refl
holds_end n (Some f) = by (nat_eq f.height n) where
  by : (b : Bool) → hold (guard b (Some f)) ≡ guard b (hold (Some f))
  by true = refl
  by false = refl

starts : (x : Option Found) → hold (joined nothing_found x) ≡ hold x
starts None = refl
starts (Some f) = same_held (before nothing_found f) f refl (omega arith) (omega arith) (omega arith) (omega arith)

fronts : (f g : Found) (x : Option Found) → hold (joined f (joined g x)) ≡ hold (joined (held (before f g)) x)
fronts f g None = refl
fronts f g (Some y) = same_held (before f (before g y)) (before (held (before f g)) y) refl (omega arith) (omega arith) (omega arith) (omega arith)

lasts : (f : Found) (h : ℕ) → hold (joined f (Some (record { height = h; cost = amount 0 0 0; depth = 0 }))) ≡ Some (held (record { height = h; cost = f.cost; depth = f.depth }))
lasts f h =
    same_held (before f (record { height = h; cost = amount 0 0 0; depth = 0 })) (record { height = h; cost = f.cost; depth = f.depth }) refl (omega arith) (omega arith) (omega arith) (omega arith)

pub holding_changes_nothing : HoldingChangesNothing
holding_changes_nothing = record { in_chain = holds_chain; in_line = holds_line; in_arms = holds_arms; in_loop = holds_loop; in_call = holds_call; at_end = holds_end; at_start = starts; in_front = fronts; at_last = lasts }
