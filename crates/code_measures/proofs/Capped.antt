-- Capped costs add up.
use Rattle.std.specs.Prelude.{◌≡◌, ◌+◌, ◌*◌, ℕ, zero, suc, max}
use Rattle.std.proofs.Common.{refl, sym, ap, ◌∙◌, arith}
use Rattle.base.specs.Capped.{cap}
use Rattle.base.specs.declared.capped.Cost.{Cost}
use Rattle.valid_image.specs.Found.{capped, plus, greater, longer}
use Rattle.code_cost_spec.specs.Costs.{loop_cost}
use Rattle.code_measures.specs.Like.{Like}

pub sum_like : (a b a' b' : ℕ) → cap a ≡ cap a' → cap b ≡ cap b' → cap (a + b) ≡ cap (a' + b')
sum_like a b a' b' e f = omega (arith, e, f)

max_like : (a b a' b' : ℕ) → cap a ≡ cap a' → cap b ≡ cap b' → cap (max a b) ≡ cap (max a' b')
max_like a b a' b' e f = omega (arith, e, f)

turn_more : (t a : ℕ) → suc t * a ≡ a + t * a
turn_more t a = grind arith

pub times_like : (t a a' : ℕ) → cap a ≡ cap a' → cap (t * a) ≡ cap (t * a')
times_like zero a a' e = ap (λ x. cap x) (nothing a ∙ sym (nothing a'))
  where
    nothing : (x : ℕ) → zero * x ≡ 0
    nothing x = grind arith
times_like (suc t) a a' e = ap (λ x. cap x) (turn_more t a) ∙ (sum_like a (t * a) a' (t * a') e (times_like t a a' e) ∙ ap (λ x. cap x) (sym (turn_more t a')))

pub like_same : (c : Cost) → Like c c
like_same c = record { run = refl; susp = refl; waits = refl }

pub like_back : (c d : Cost) → Like c d → Like d c
like_back c d l = record { run = sym l.run; susp = sym l.susp; waits = sym l.waits }

pub like_on : (c d e : Cost) → Like c d → Like d e → Like c e
like_on c d e l m = record { run = l.run ∙ m.run; susp = l.susp ∙ m.susp; waits = l.waits ∙ m.waits }

pub like_plus : (c d c' d' : Cost) → Like c c' → Like d d' → Like (plus c d) (plus c' d')
like_plus c d c' d' l m = record { run = sum_like c.run d.run c'.run d'.run l.run m.run; susp = sum_like c.susp d.susp c'.susp d'.susp l.susp m.susp; waits = sum_like c.waits d.waits c'.waits d'.waits l.waits m.waits }

pub like_longer : (n : ℕ) (c c' : Cost) → Like c c' → Like (longer n c) (longer n c')
like_longer n c c' l = record { run = sum_like n c.run n c'.run refl l.run; susp = l.susp; waits = l.waits }

pub like_greater : (c d c' d' : Cost) → Like c c' → Like d d' → Like (greater c d) (greater c' d')
like_greater c d c' d' l m = record { run = max_like c.run d.run c'.run d'.run l.run m.run; susp = max_like c.susp d.susp c'.susp d'.susp l.susp m.susp; waits = max_like c.waits d.waits c'.waits d'.waits l.waits m.waits }

pub like_loop : (t : ℕ) (c c' : Cost) → Like c c' → Like (loop_cost t c) (loop_cost t c')
like_loop t c c' l = record {
  run = sum_like 5 (t * (c.run + 10)) 5 (t * (c'.run + 10)) refl (times_like t (c.run + 10) (c'.run + 10) (sum_like c.run 10 c'.run 10 l.run refl));
  susp = times_like t c.susp c'.susp l.susp;
  waits = times_like t c.waits c'.waits l.waits;
}

pub capped_like : (c : Cost) → Like (capped c) c
capped_like c = record { run = twice c.run; susp = twice c.susp; waits = twice c.waits }
  where
    twice : (x : ℕ) → cap (cap x) ≡ cap x
    twice x = omega arith
