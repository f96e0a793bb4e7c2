-- What comes before a found result adds to it.
use Rattle.std.specs.Prelude.{◌≡◌, ◌≤◌, ◌+◌, ℕ, Option, Some, None, max}
use Rattle.std.proofs.Common.{refl, ap, ◌∙◌, arith}
use Rattle.base.specs.declared.capped.Cost.{Cost}
use Rattle.valid_image.specs.Found.{Found, amount, plus, joined, chain}

-- a piece of this cost, in which the operands stand so high, before what is found of the rest
abbrev pub adds : Cost → ℕ → Found → Found
adds c d r = record { height = r.height; cost = plus c r.cost; depth = max d r.depth }

abbrev made : (h a b c d : ℕ) → Found
made h a b c d = record { height = h; cost = amount a b c; depth = d }

made_same : (h h' a a' b b' c c' d d' : ℕ) → h ≡ h' → a ≡ a' → b ≡ b' → c ≡ c' → d ≡ d' → made h a b c d ≡ made h' a' b' c' d'
made_same h h' a a' b b' c c' d d' e0 e1 e2 e3 e4 =
    ap (λ x. made x a b c d) e0 ∙ (ap (λ x. made h' x b c d) e1 ∙ (ap (λ x. made h' a' x c d) e2 ∙ (ap (λ x. made h' a' b' x d) e3 ∙ ap (λ x. made h' a' b' c' x) e4)))

-- two results are the same where their numbers are
pub found_same : (f g : Found) → f.height ≡ g.height → f.cost.run ≡ g.cost.run → f.cost.susp ≡ g.cost.susp → f.cost.waits ≡ g.cost.waits → f.depth ≡ g.depth → f ≡ g
found_same f g e0 e1 e2 e3 e4 = made_same f.height g.height f.cost.run g.cost.run f.cost.susp g.cost.susp f.cost.waits g.cost.waits f.depth g.depth e0 e1 e2 e3 e4

pub some_found : (f g : Found) → f ≡ g → Some f ≡ Some g
some_found f g e = ap (λ x. Some x) e

-- one piece after another
pub adds_adds : (c1 c2 : Cost) (d1 d2 : ℕ) (r : Found) → adds c1 d1 (adds c2 d2 r) ≡ adds (plus c1 c2) (max d1 d2) r
adds_adds c1 c2 d1 d2 r = found_same _ _ refl (omega arith) (omega arith) (omega arith) (omega arith)

pub adds_same : (c : Cost) (d d' : ℕ) (r : Found) → d ≡ d' → adds c d r ≡ adds c d' r
adds_same c d d' r e = ap (λ x. adds c x r) e

-- nothing before it
pub adds_none : (d : ℕ) (r : Found) → d ≤ r.depth → adds (amount 0 0 0) d r ≡ r
adds_none d r le = found_same _ _ refl (omega arith) (omega arith) (omega arith) (omega (arith, le))

-- a first piece before what follows
pub joined_some : (x f r : Found) (y : Option Found) → joined f y ≡ Some r → joined (record { height = f.height; cost = plus x.cost f.cost; depth = max x.depth f.depth }) y ≡ Some (adds x.cost x.depth r)
joined_some x f r None is = absurd cc
joined_some x f r (Some s) is =
    some_found _ _ (found_same _ _ (ap (λ t. t.height) (same is)) (sum (ap (λ t. t.cost.run) (same is))) (sum2 (ap (λ t. t.cost.susp) (same is))) (sum3 (ap (λ t. t.cost.waits) (same is))) (high (ap (λ t. t.depth) (same is))))
  where
    same : joined f (Some s) ≡ Some r → record { height = s.height; cost = plus f.cost s.cost; depth = max f.depth s.depth } ≡ r
    same e = ap (λ o. other o) e
      where
        other : Option Found → Found
        other None = r
        other (Some z) = z

    sum : f.cost.run + s.cost.run ≡ r.cost.run → x.cost.run + f.cost.run + s.cost.run ≡ x.cost.run + r.cost.run
    sum e = omega (arith, e)

    sum2 : f.cost.susp + s.cost.susp ≡ r.cost.susp → x.cost.susp + f.cost.susp + s.cost.susp ≡ x.cost.susp + r.cost.susp
    sum2 e = omega (arith, e)

    sum3 : f.cost.waits + s.cost.waits ≡ r.cost.waits → x.cost.waits + f.cost.waits + s.cost.waits ≡ x.cost.waits + r.cost.waits
    sum3 e = omega (arith, e)

    high : max f.depth s.depth ≡ r.depth → max (max x.depth f.depth) s.depth ≡ max x.depth r.depth
    high e = omega (arith, e)

pub chain_some : (x r : Found) (y : Option Found) (next : ℕ → Option Found) → chain y next ≡ Some r → chain (joined x y) next ≡ Some (adds x.cost x.depth r)
chain_some x r None next is = absurd cc
chain_some x r (Some f) next is = joined_some x f r (next f.height) is

-- where one continuation is another
pub joined_is : (x r : Found) (y : Option Found) → y ≡ Some r → joined x y ≡ Some (adds x.cost x.depth r)
joined_is x r y is = ap (λ t. joined x t) is
