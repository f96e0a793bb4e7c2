-- Instructions one by one, before a tree.
use Rattle.std.specs.Prelude.{◌≡◌, ◌+◌, ◌-◌, ◌&&◌, ◌++◌, ℕ, zero, suc, Bool, true, false, List, [], ◌∷◌, Option, Some, length, nat_le, slice_get}
use Rattle.std.proofs.Common.{refl, sym, ap, subst, ◌∙◌, arith}
use Rattle.machine_isa.specs.declared.instr.Instr.{Instr}
use Rattle.machine_isa.specs.Ticks.{ticks}
use Rattle.machine_semantics.specs.Trees.{Segs, Line, Fork, Rep, Call, Stay, Wait, Exit, Nil, Cons}
use Rattle.machine_isa.specs.Operands.{takes, gives}
use Rattle.valid_image.specs.Found.{Known, Found, amount, guard, joined, chain, plain_step, in_line, line as line_found, founds}
use Rattle.code_spec.specs.Emits.{Has, IsLine}
use Rattle.code_spec.specs.Segments.{line}
use Rattle.code_measures.proofs.Adding.{adds, found_same, some_found, chain_some, joined_is}

-- ---- code in pieces

pub has_first : (code : List Instr) (p : ℕ) (is js : List Instr) → Has code p (is ++ js) → Has code p is
has_first code p [] js h = tt
has_first code p (x ∷ is) js h = (h.0, has_first code (p + 1) is js h.1)

pub has_second : (code : List Instr) (p : ℕ) (is js : List Instr) → Has code p (is ++ js) → Has code (p + length is) js
has_second code p [] js h = subst (λ q. Has code q js) (zero_more p) h
  where
    zero_more : (p : ℕ) → p ≡ p + 0
    zero_more p = omega arith
has_second code p (x ∷ is) js h = subst (λ q. Has code q js) (one_more p (length is)) (has_second code (p + 1) is js h.1)
  where
    one_more : (p n : ℕ) → p + 1 + n ≡ p + suc n
    one_more p n = omega arith

pub length_both : (is js : List Instr) → length (is ++ js) ≡ length is + length js
length_both [] js = omega arith
length_both (x ∷ is) js = let e : length (is ++ js) ≡ length is + length js = length_both is js in omega arith

-- where the second piece starts, and both
pub split : (code : List Instr) (p q : ℕ) (is js : List Instr) → IsLine code p q (is ++ js) → IsLine code p (p + length is) is × IsLine code (p + length is) q js
split code p q is js l =
    let e : length (is ++ js) ≡ length is + length js = length_both is js in
    let end : q ≡ p + length (is ++ js) = l.end in
    (record { has = has_first code p is js l.has; end = refl }, record { has = has_second code p is js l.has; end = omega arith })

-- the first instruction apart
pub split_one : (code : List Instr) (p q : ℕ) (x : Instr) (js : List Instr) → IsLine code p q (x ∷ js) → IsLine code p (p + 1) (x ∷ []) × IsLine code (p + 1) q js
split_one code p q x js l =
    let end : q ≡ p + suc (length js) = l.end in
    (record { has = (l.has.0, tt); end = refl }, record { has = l.has.1; end = omega arith })

-- ---- trees

one_plus : (n : ℕ) → suc n ≡ 1 + n
one_plus n = omega arith

one_further : (k n : ℕ) → suc (suc k) + n ≡ 1 + (suc k + n)
one_further k n = omega arith

abbrev line_of : Segs → ℕ → Segs
line_of rest n = Cons (Line n) rest

pub line_more : (k : ℕ) (after : Segs) → line (suc (suc k)) after ≡ line 1 (line (suc k) after)
line_more k Nil = ap (line_of Nil) (one_plus (suc k))
line_more k (Cons (Line n) rest) = ap (line_of rest) (one_further k n)
line_more k (Cons (Fork a b) rest) = ap (line_of (Cons (Fork a b) rest)) (one_plus (suc k))
line_more k (Cons (Rep n a) rest) = ap (line_of (Cons (Rep n a) rest)) (one_plus (suc k))
line_more k (Cons (Call r) rest) = ap (line_of (Cons (Call r) rest)) (one_plus (suc k))
line_more k (Cons (Stay m a) rest) = ap (line_of (Cons (Stay m a) rest)) (one_plus (suc k))
line_more k (Cons Wait rest) = ap (line_of (Cons Wait rest)) (one_plus (suc k))
line_more k (Cons Exit rest) = ap (line_of (Cons Exit rest)) (one_plus (suc k))

module _ (code : List Instr) (known : List Known) (out held : Option ℕ) where
  stepped : (x : Instr) (p h : ℕ) (next : ℕ → Option Found) → slice_get code p ≡ Some x → in_line x ≡ true → nat_le (takes x) h ≡ true
      → plain_step (slice_get code p) h next ≡ joined (record { height = gives x + (h - takes x); cost = amount (ticks x) 0 0; depth = gives x + (h - takes x) }) (next (gives x + (h - takes x)))
  stepped x p h next here plain enough =
      ap (λ o. plain_step o h next) here
      ∙ ap (λ b. guard b (joined (record { height = gives x + (h - takes x); cost = amount (ticks x) 0 0; depth = gives x + (h - takes x) }) (next (gives x + (h - takes x))))) (passes (in_line x) (nat_le (takes x) h) plain enough)
    where
      passes : (a b : Bool) → a ≡ true → b ≡ true → a && b ≡ true
      passes true b e f = f
      passes false b e f = absurd cc

  -- one instruction that stands apart
  alone : (x : Instr) (p h : ℕ) (after : Segs) (r : Found) → slice_get code p ≡ Some x → in_line x ≡ true → nat_le (takes x) h ≡ true
      → founds code known out held after (p + 1) (gives x + (h - takes x)) ≡ Some r
      → founds code known out held (Cons (Line 1) after) p h ≡ Some (adds (amount (ticks x) 0 0) (gives x + (h - takes x)) r)
  alone x p h after r here plain enough is =
      ap (λ o. chain o (λ y. founds code known out held after (p + 1) y)) (stepped x p h (λ y. line_found code 0 (p + 1) y) here plain enough)
      ∙ chain_some (record { height = gives x + (h - takes x); cost = amount (ticks x) 0 0; depth = gives x + (h - takes x) }) r (Some (record { height = gives x + (h - takes x); cost = amount 0 0 0; depth = 0 })) (λ y. founds code known out held after (p + 1) y) (neutral (gives x + (h - takes x)) r (founds code known out held after (p + 1) (gives x + (h - takes x))) is)
    where
      neutral : (h : ℕ) (r : Found) (y : Option Found) → y ≡ Some r → joined (record { height = h; cost = amount 0 0 0; depth = 0 }) y ≡ Some r
      neutral h r y is = joined_is (record { height = h; cost = amount 0 0 0; depth = 0 }) r y is ∙ some_found _ _ (found_same _ _ refl (omega arith) (omega arith) (omega arith) (omega arith))

  -- one instruction before a line
  in_front : (x : Instr) (p h m : ℕ) (rest : Segs) (r : Found) → slice_get code p ≡ Some x → in_line x ≡ true → nat_le (takes x) h ≡ true
      → founds code known out held (Cons (Line (suc m)) rest) (p + 1) (gives x + (h - takes x)) ≡ Some r
      → founds code known out held (Cons (Line (suc (suc m))) rest) p h ≡ Some (adds (amount (ticks x) 0 0) (gives x + (h - takes x)) r)
  in_front x p h m rest r here plain enough is =
      ap (λ o. chain o (λ y. founds code known out held rest (p + suc (suc m)) y)) (stepped x p h (λ y. line_found code (suc m) (p + 1) y) here plain enough)
      ∙ chain_some (record { height = gives x + (h - takes x); cost = amount (ticks x) 0 0; depth = gives x + (h - takes x) }) r (line_found code (suc m) (p + 1) (gives x + (h - takes x))) (λ y. founds code known out held rest (p + suc (suc m)) y)
      (subst (λ a. chain (line_found code (suc m) (p + 1) (gives x + (h - takes x))) (λ y. founds code known out held rest a y) ≡ Some r) (further p m) is)
    where
      further : (p m : ℕ) → p + 1 + suc m ≡ p + suc (suc m)
      further p m = omega arith

  -- one instruction before a tree
  pub one_found : (x : Instr) (p q h to : ℕ) (after : Segs) (r : Found) → IsLine code p q (x ∷ []) → in_line x ≡ true → nat_le (takes x) h ≡ true → to ≡ gives x + (h - takes x)
      → founds code known out held after q to ≡ Some r → founds code known out held (line 1 after) p h ≡ Some (adds (amount (ticks x) 0 0) to r)
  one_found x p q h to after r l plain enough to_is is =
      subst (λ t. founds code known out held (line 1 after) p h ≡ Some (adds (amount (ticks x) 0 0) t r)) (sym to_is)
      (by_tree after (subst (λ t. founds code known out held after (p + 1) t ≡ Some r) to_is (subst (λ a. founds code known out held after a to ≡ Some r) l.end is)))
    where
      by_tree : (after : Segs) → founds code known out held after (p + 1) (gives x + (h - takes x)) ≡ Some r → founds code known out held (line 1 after) p h ≡ Some (adds (amount (ticks x) 0 0) (gives x + (h - takes x)) r)
      by_tree Nil is = alone x p h Nil r l.has.0 plain enough is
      by_tree (Cons (Line zero) rest) is = absurd cc
      by_tree (Cons (Line (suc m)) rest) is = subst (λ n. founds code known out held (Cons (Line n) rest) p h ≡ Some (adds (amount (ticks x) 0 0) (gives x + (h - takes x)) r)) (one_plus (suc m)) (in_front x p h m rest r l.has.0 plain enough is)
      by_tree (Cons (Fork a b) rest) is = alone x p h (Cons (Fork a b) rest) r l.has.0 plain enough is
      by_tree (Cons (Rep n a) rest) is = alone x p h (Cons (Rep n a) rest) r l.has.0 plain enough is
      by_tree (Cons (Call j) rest) is = alone x p h (Cons (Call j) rest) r l.has.0 plain enough is
      by_tree (Cons (Stay m a) rest) is = alone x p h (Cons (Stay m a) rest) r l.has.0 plain enough is
      by_tree (Cons Wait rest) is = alone x p h (Cons Wait rest) r l.has.0 plain enough is
      by_tree (Cons Exit rest) is = alone x p h (Cons Exit rest) r l.has.0 plain enough is
