-- Measures put together, as costs, heights and lengths are.
use Rattle.std.proofs.Common.{◌≡◌, ◌≤◌, ◌+◌, ◌*◌, ℕ, refl, ap, ◌∙◌, arith, max}
use Rattle.base.specs.Capped.{cap}
use Rattle.base.specs.declared.capped.Cost.{Cost}
use Rattle.valid_image.specs.Found.{amount, plus, greater, longer}
use Rattle.code_cost_spec.specs.Costs.{run, loop_cost}
use Rattle.code_measures.proofs.Capped.{times_like}
use Rattle.code_cost.specs.declared.measure.Measure.{Measure}
use Rattle.code_cost.specs.Sums.{held, joined, above, forked, looped, called, of}
use Rattle.code_measures.specs.MeasuredTexts.{measured}

abbrev pub sized : (a b c h n : ℕ) → Measure
sized a b c h n = record { cost = amount a b c; height = h; length = n }

pub same : {a a' b b' c c' h h' n n' : ℕ} → a ≡ a' → b ≡ b' → c ≡ c' → h ≡ h' → n ≡ n' → sized a b c h n ≡ sized a' b' c' h' n'
same {a} {a'} {b} {b'} {c} {c'} {h} {h'} {n} {n'} e1 e2 e3 e4 e5 =
    ap (λ x. sized x b c h n) e1
    ∙ ap (λ x. sized a' x c h n) e2
    ∙ ap (λ x. sized a' b' x h n) e3
    ∙ ap (λ x. sized a' b' c' x n) e4
    ∙ ap (λ x. sized a' b' c' h' x) e5

cap_sum : (a b : ℕ) → cap (cap a + cap b) ≡ cap (a + b)
cap_sum a b = omega arith

held_sum : (a b : ℕ) → held (held a + held b) ≡ held (a + b)
held_sum a b = omega arith

pub joined_is : (c d : Cost) (h j n m : ℕ) → joined (measured c h n) (measured d j m) ≡ measured (plus c d) (max h j) (n + m)
joined_is c d h j n m = same (cap_sum c.run d.run) (cap_sum c.susp d.susp) (cap_sum c.waits d.waits) (omega arith) (held_sum n m)

pub above_is : (k : ℕ) (c : Cost) (h n : ℕ) → above k (measured c h n) ≡ measured c (k + h) n
above_is k c h n = same refl refl refl (omega arith) refl

pub forked_is : (c d : Cost) (h j n m : ℕ) → forked (measured c h n) (measured d j m) ≡ measured (longer 2 (greater (longer 1 c) d)) (max h j) (2 + (n + m))
forked_is c d h j n m = same (omega arith) (omega arith) (omega arith) (omega arith) (omega arith)

cap_times : (t a : ℕ) → cap (cap t * cap a) ≡ cap (t * a)
cap_times t a = turned ∙ times_like t (cap a) a (omega arith)
  where
    small : (n : ℕ) → cap (n * cap t) ≡ cap (n * t)
    small n = times_like n (cap t) t (omega arith)

    turned : cap (cap t * cap a) ≡ cap (t * cap a)
    turned = ap cap (omega arith) ∙ small (cap a) ∙ ap cap (omega arith)

pub looped_is : (t : ℕ) (c : Cost) (h n : ℕ) → looped t (measured c h n) ≡ measured (loop_cost t c) (1 + max h 2) (8 + n)
looped_is t c h n =
    let turn : cap (cap t * cap (cap c.run + 10)) ≡ cap (t * (c.run + 10)) = ap (λ x. cap (cap t * x)) (omega arith) ∙ cap_times t (c.run + 10) in
    same (ap (λ x. cap (5 + x)) turn ∙ omega arith) (cap_times t c.susp) (cap_times t c.waits) (omega arith) (omega arith)

-- the call of a routine whose row tells so
pub called_is : (k : Cost) (s kh kw l : ℕ) (c : Cost) (h n : ℕ)
    → called (record { cost = amount (cap k.run) (cap k.susp) (cap k.waits); stay = s; height = held kh; words = held kw; length = l }) (measured c h n)
    ≡ measured (plus c (longer 6 k)) (max h (2 + kw + kh)) (n + 1)
called_is k s kh kw l c h n = same (omega arith) (omega arith) (omega arith) (omega arith) (omega arith)

pub of_is : (t h n : ℕ) → t ≤ 100 → h ≤ 100 → n ≤ 100 → of t h n ≡ measured (run t) h n
of_is t h n a b c = same (omega (arith, a)) (omega arith) (omega arith) (omega (arith, b)) (omega (arith, c))

-- other numbers that are the same
pub measured_same : (c d : Cost) (h j n m : ℕ) → c.run ≡ d.run → c.susp ≡ d.susp → c.waits ≡ d.waits → h ≡ j → n ≡ m → measured c h n ≡ measured d j m
measured_same c d h j n m a b e f i = same (ap cap a) (ap cap b) (ap cap e) (ap held f) (ap held i)
