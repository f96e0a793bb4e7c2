-- The exact costs of routines, beside the declared ones: where no declared cost is below what its tree needs, no exact cost is above, but for
-- the cap.
use Rattle.std.proofs.Common.{◌≡◌, ◌≤◌, ◌<◌, ◌+◌, ◌*◌, ◌-◌, inl, inr, ℕ, zero, suc, List, Option, Some, None, arith, refl, ap, sym, subst, ◌∙◌, true, false, Bool}
use Rattle.std.specs.Prelude.{◌&&◌, max, nat_eq, nat_le, nat_lt, slice_get}
use Rattle.std.proofs.Math.Nat.{mul-le-mul_left, mul-le-mul_right}
use Rattle.std.proofs.lemmas.Bool.{cases_lt, eq-eqb, le-leb, and_parts, eqb-true}
use Rattle.std.proofs.lemmas.Bool.Decides.{nat_tests}
use Rattle.machine_isa.specs.declared.instr.Instr.{Instr}
use Rattle.base.specs.Capped.{cap}
use Rattle.base.specs.declared.capped.Cost.{Cost}
use Rattle.machine_semantics.specs.Trees.{Seg, Segs, Line, Fork, Rep, Call, Stay, Wait, Exit, Nil, Cons, size, size_of}
use Rattle.machine_semantics.specs.Image.{Routine}
use Rattle.valid_image.specs.Found.{Known, Found, plus, greater, longer, turns, amount, is_jump_zero, is_jump, is_repeats, is_repeat, is_call, is_enter, is_leave, is_return, is_end, guard, joined, chain, arms, loop, call, found, founds, entry, ended, tree_found}
use Rattle.valid_image.specs.Tables.{count, monitor_of, routine_found, part_found}
use Rattle.valid_image_law.proofs.Tests.{passed, chained, forked, looped, called, stayed}

-- no component is more, numbers above the limit counting as one above it
pub record IsWithin (c d : Cost) : Type 0 where
  pub run : cap c.run ≤ cap d.run
  pub susp : cap c.susp ≤ cap d.susp
  pub waits : cap c.waits ≤ cap d.waits

-- two rows of one routine, the second with no more cost
pub record Alike (k l : Known) : Type 0 where
  pub params : l.params ≡ k.params
  pub results : l.results ≡ k.results
  pub locals : l.locals ≡ k.locals
  pub depth : l.depth ≡ k.depth
  pub cost : IsWithin l.cost k.cost

abbrev pub AreAlike : List Known → List Known → Type 0
AreAlike xs ys = (r : ℕ) (k : Known) → slice_get xs r ≡ Some k → (l : Known) × (slice_get ys r ≡ Some l) × Alike k l

-- what the second comes to
pub record Same (y : Option Found) (f : Found) : Type 0 where
  pub g : Found
  pub is : y ≡ Some g
  pub height : g.height ≡ f.height
  pub depth : g.depth ≡ f.depth
  pub cost : IsWithin g.cost f.cost

-- ---- costs

pub itself : (c : Cost) → IsWithin c c
itself c = record { run = omega arith; susp = omega arith; waits = omega arith }

pub many : (n a b : ℕ) → 0 < n → cap a ≤ cap b → cap (n * a) ≤ cap (n * b)
many n a b some le = elim (cases_lt b a) [
  | inl less ↦ (let over : 1000000001 ≤ b = omega (arith, less, le) in let up : 1 * b ≤ n * b = mul-le-mul_right b some in omega (arith, up, over))
  | inr more ↦ (let up : n * a ≤ n * b = mul-le-mul_left n more in omega (arith, up))
]

-- ---- steps of the computation

guard_true : (b : Bool) (x : Option Found) → b ≡ true → guard b x ≡ x
guard_true true x is = refl
guard_true false x is = absurd cc

guarded : (b : Bool) (y : Option Found) (f : Found) → b ≡ true → Same y f → Same (guard b y) f
guarded b y f is s = record { g = s.g; is = guard_true b y is ∙ s.is; height = s.height; depth = s.depth; cost = s.cost }

of_found : (y : Option Found) (f : Found) → y ≡ Some f → Same y f
of_found y f is = record { g = f; is = is; height = refl; depth = refl; cost = itself f.cost }

-- the same of an equal one
of_whole : (y : Option Found) (f g : Found) → f ≡ g → Same y g → Same y f
of_whole y f g is s = subst (λ x. Same y x) (sym is) s

two_arms : (x y : Option Found) (f g : Found) → Same x f → Same y g → g.height ≡ f.height
    → Same (arms x y) (record { height = f.height; cost = greater (longer 3 f.cost) (longer 2 g.cost); depth = max f.depth g.depth })
two_arms x y f g s t level = record {
  g = record { height = s.g.height; cost = greater (longer 3 s.g.cost) (longer 2 t.g.cost); depth = max s.g.depth t.g.depth };
  is = ap (λ o. arms o y) s.is ∙ (ap (λ o. arms (Some s.g) o) t.is ∙ guard_true (nat_eq s.g.height t.g.height) _ (eq-eqb s.g.height t.g.height (omega (arith, s.height, t.height, level))));
  height = s.height;
  depth = omega (arith, s.depth, t.depth);
  cost = record { run = omega (arith, s.cost.run, t.cost.run); susp = omega (arith, s.cost.susp, t.cost.susp); waits = omega (arith, s.cost.waits, t.cost.waits) };
}

a_loop : (n h : ℕ) (x : Option Found) (f : Found) → 0 < n → Same x f → f.height ≡ 0 → Same (loop n h x) (record { height = h; cost = turns n f.cost; depth = suc h + f.depth })
a_loop n h x f some s back = record {
  g = record { height = h; cost = turns n s.g.cost; depth = suc h + s.g.depth };
  is = ap (λ o. loop n h o) s.is ∙ guard_true (nat_eq s.g.height 0) _ (eq-eqb s.g.height 0 (s.height ∙ back));
  height = refl;
  depth = omega (arith, s.depth);
  cost = record {
    run = (let up : cap (n * (s.g.cost.run + 3)) ≤ cap (n * (f.cost.run + 3)) = many n (s.g.cost.run + 3) (f.cost.run + 3) some (omega (arith, s.cost.run)) in omega (arith, up));
    susp = many n s.g.cost.susp f.cost.susp some s.cost.susp;
    waits = many n s.g.cost.waits f.cost.waits some s.cost.waits;
  };
}

a_call : (h : ℕ) (x y : Option Known) (k l : Known) (f : Found) → x ≡ Some k → y ≡ Some l → Alike k l → call h x ≡ Some f → Same (call h y) f
a_call h x y k l f is_x is_y a is =
    let s = called h x f is in
    let same : s.known ≡ k = (let e : Some s.known ≡ Some k = sym s.is ∙ is_x in cc) in
    let enough : k.params ≤ h = subst (λ (q : Known). q.params ≤ h) same s.enough in
    let whole : f ≡ record { height = k.results + (h - k.params); cost = longer 6 k.cost; depth = max (k.results + (h - k.params)) (h - k.params + 2 + k.locals + k.depth) } =
    subst (λ (q : Known). f ≡ record { height = q.results + (h - q.params); cost = longer 6 q.cost; depth = max (q.results + (h - q.params)) (h - q.params + 2 + q.locals + q.depth) }) same s.whole in
    of_whole (call h y) f (record { height = k.results + (h - k.params); cost = longer 6 k.cost; depth = max (k.results + (h - k.params)) (h - k.params + 2 + k.locals + k.depth) }) whole (record {
      g = record { height = l.results + (h - l.params); cost = longer 6 l.cost; depth = max (l.results + (h - l.params)) (h - l.params + 2 + l.locals + l.depth) };
      is = ap (λ o. call h o) is_y ∙ guard_true (nat_le l.params h) _ (le-leb l.params h (omega (arith, a.params, enough)));
      height = omega (arith, a.params, a.results);
      depth = omega (arith, a.params, a.results, a.locals, a.depth);
      cost = record { run = omega (arith, a.cost.run); susp = omega (arith, a.cost.susp); waits = omega (arith, a.cost.waits) };
    })

chain_of : (x : Option Found) (next : ℕ → Option Found) (f g : Found) → Same x f → Same (next f.height) g
    → Same (chain x next) (record { height = g.height; cost = plus f.cost g.cost; depth = max f.depth g.depth })
chain_of x next f g s t = record {
  g = record { height = t.g.height; cost = plus s.g.cost t.g.cost; depth = max s.g.depth t.g.depth };
  is = ap (λ o. chain o next) s.is ∙ (ap (λ h. joined s.g (next h)) s.height ∙ ap (λ o. joined s.g o) t.is);
  height = t.height;
  depth = omega (arith, s.depth, t.depth);
  cost = record { run = omega (arith, s.cost.run, t.cost.run); susp = omega (arith, s.cost.susp, t.cost.susp); waits = omega (arith, s.cost.waits, t.cost.waits) };
}

-- ---- the whole computation

more_than_none : (n : ℕ) → nat_lt 0 n ≡ true → 0 < n
more_than_none n is = grind (arith, nat_tests, is)

mutual
  seg_same : (code : List Instr) (xs ys : List Known) → AreAlike xs ys → (out held : Option ℕ) (seg : Seg) (at h : ℕ) (f : Found) → found code xs out held seg at h ≡ Some f → Same (found code ys out held seg at h) f
  seg_same code xs ys alike out held (Line zero) at h f is = absurd cc
  seg_same code xs ys alike out held (Line (suc n)) at h f is = of_found (found code ys out held (Line (suc n)) at h) f is
  seg_same code xs ys alike out held (Fork first second) at zero f is = absurd cc
  seg_same code xs ys alike out held (Fork first second) at (suc h) f is =
      let tests = is_jump_zero (at + 1 + size first + 1) (slice_get code at) && is_jump (at + size first + size second + 2) (slice_get code (at + 1 + size first)) in
      let one = founds code xs out held first (at + 1) h in
      let two = founds code xs out held second (at + 1 + size first + 1) h in
      let p = passed tests (arms one two) f is in
      let s = forked one two f p.1 in
      of_whole (found code ys out held (Fork first second) at (suc h)) f _ s.whole
      (guarded tests (arms (founds code ys out held first (at + 1) h) (founds code ys out held second (at + 1 + size first + 1) h)) _ p.0
      (two_arms (founds code ys out held first (at + 1) h) (founds code ys out held second (at + 1 + size first + 1) h) s.first s.second
      (segs_same code xs ys alike out held first (at + 1) h s.first s.is) (segs_same code xs ys alike out held second (at + 1 + size first + 1) h s.second s.other) s.same))
  seg_same code xs ys alike out held (Rep n body) at h f is =
      let tests = nat_lt 0 n && (is_repeats n (slice_get code at) && is_repeat (at + 1) (slice_get code (at + 1 + size body))) in
      let turn = founds code xs (Some (at + 1 + size body + 1)) held body (at + 1) 0 in
      let p = passed tests (loop n h turn) f is in
      let t = and_parts (nat_lt 0 n) (is_repeats n (slice_get code at) && is_repeat (at + 1) (slice_get code (at + 1 + size body))) p.0 in
      let s = looped n h turn f p.1 in
      of_whole (found code ys out held (Rep n body) at h) f _ s.whole
      (guarded tests (loop n h (founds code ys (Some (at + 1 + size body + 1)) held body (at + 1) 0)) _ p.0
      (a_loop n h (founds code ys (Some (at + 1 + size body + 1)) held body (at + 1) 0) s.turn (more_than_none n t.0)
      (segs_same code xs ys alike (Some (at + 1 + size body + 1)) held body (at + 1) 0 s.turn s.is) s.back))
  seg_same code xs ys alike out held (Call r) at h f is =
      let p = passed (is_call r (slice_get code at)) (call h (slice_get xs r)) f is in
      let s = called h (slice_get xs r) f p.1 in
      let l = alike r s.known s.is in
      guarded (is_call r (slice_get code at)) (call h (slice_get ys r)) f p.0 (a_call h (slice_get xs r) (slice_get ys r) s.known l.0 f s.is l.1 l.2 p.1)
  seg_same code xs ys alike out held (Stay m body) at h f is = absurd cc
  seg_same code xs ys alike out held Wait at h f is = of_found (found code ys out held Wait at h) f is
  seg_same code xs ys alike out held Exit at h f is = of_found (found code ys out held Exit at h) f is

  pub segs_same : (code : List Instr) (xs ys : List Known) → AreAlike xs ys → (out held : Option ℕ) (segs : Segs) (at h : ℕ) (f : Found) → founds code xs out held segs at h ≡ Some f → Same (founds code ys out held segs at h) f
  segs_same code xs ys alike out held Nil at h f is = of_found (founds code ys out held Nil at h) f is
  segs_same code xs ys alike out held (Cons head rest) at h f is =
      let s = chained (found code xs out held head at h) (founds code xs out held rest (at + size_of head)) f is in
      of_whole (founds code ys out held (Cons head rest) at h) f _ s.whole
      (chain_of (found code ys out held head at h) (founds code ys out held rest (at + size_of head)) s.first s.later
      (seg_same code xs ys alike out held head at h s.first s.is) (segs_same code xs ys alike out held rest (at + size_of head) s.first.height s.later s.more))

-- ENTER and LEAVE
abbrev left_at_end : ℕ → Option Found
left_at_end h = Some (record { height = h; cost = amount 8 0 0; depth = 0 })

entry_same : (code : List Instr) (xs ys : List Known) → AreAlike xs ys → (m : ℕ) (tree : Segs) (at : ℕ) (f : Found) → entry code xs m tree at ≡ Some f → Same (entry code ys m tree at) f
entry_same code xs ys alike m (Cons (Stay n body) Nil) at f is =
    let tests = nat_eq n m && (is_enter m (slice_get code at) && is_leave m (slice_get code (at + 1 + size body))) in
    let p = passed tests (chain (founds code xs None (Some m) body (at + 1) 0) left_at_end) f is in
    let s = chained (founds code xs None (Some m) body (at + 1) 0) left_at_end f p.1 in
    of_whole (entry code ys m (Cons (Stay n body) Nil) at) f _ s.whole
    (guarded tests (chain (founds code ys None (Some m) body (at + 1) 0) left_at_end) _ p.0
    (chain_of (founds code ys None (Some m) body (at + 1) 0) left_at_end s.first s.later
    (segs_same code xs ys alike None (Some m) body (at + 1) 0 s.first s.is) (of_found (left_at_end s.first.height) s.later s.more)))
entry_same code xs ys alike m _ at f is = absurd cc

tree_same : (code : List Instr) (xs ys : List Known) → AreAlike xs ys → (m : Option ℕ) (tree : Segs) (at : ℕ) (f : Found) → tree_found code xs m tree at ≡ Some f → Same (tree_found code ys m tree at) f
tree_same code xs ys alike (Some m) tree at f is = entry_same code xs ys alike m tree at f is
tree_same code xs ys alike None tree at f is = segs_same code xs ys alike None None tree at 0 f is

-- what ends at the height is the same
pub ended_is : (n : ℕ) (x : Option Found) (f : Found) → ended n x ≡ Some f → (x ≡ Some f) × (f.height ≡ n)
ended_is n None f is = absurd cc
ended_is n (Some g) f is =
    let p = passed (nat_eq g.height n) (Some g) f is in
    let same : g ≡ f = (let a = p.1 in cc) in
    (p.1, subst (λ (x : Found). x.height ≡ n) same (eqb-true g.height n p.0))

ended_same : (n : ℕ) (y : Option Found) (f : Found) → f.height ≡ n → Same y f → Same (ended n y) f
ended_same n y f high s = record {
  g = s.g;
  is = ap (λ o. ended n o) s.is ∙ guard_true (nat_eq s.g.height n) (Some s.g) (eq-eqb s.g.height n (s.height ∙ high));
  height = s.height;
  depth = s.depth;
  cost = s.cost;
}

pub routine_same : (code : List Instr) (xs ys : List Known) → AreAlike xs ys → (r : Routine) (f : Found) → routine_found code xs r ≡ Some f → Same (routine_found code ys r) f
routine_same code xs ys alike r f is =
    let p = passed (is_return r.gives (slice_get code (r.start + size r.tree))) (ended (count r.gives) (tree_found code xs (monitor_of r) r.tree r.start)) f is in
    let e = ended_is (count r.gives) (tree_found code xs (monitor_of r) r.tree r.start) f p.1 in
    guarded (is_return r.gives (slice_get code (r.start + size r.tree))) (ended (count r.gives) (tree_found code ys (monitor_of r) r.tree r.start)) f p.0
    (ended_same (count r.gives) (tree_found code ys (monitor_of r) r.tree r.start) f e.1 (tree_same code xs ys alike (monitor_of r) r.tree r.start f e.0))

pub part_same : (code : List Instr) (xs ys : List Known) → AreAlike xs ys → (tree : Segs) (at : ℕ) (f : Found) → part_found code xs tree at ≡ Some f → Same (part_found code ys tree at) f
part_same code xs ys alike tree at f is =
    let p = passed (is_end (slice_get code (at + size tree))) (ended 0 (founds code xs None None tree at 0)) f is in
    let e = ended_is 0 (founds code xs None None tree at 0) f p.1 in
    guarded (is_end (slice_get code (at + size tree))) (ended 0 (founds code ys None None tree at 0)) f p.0
    (ended_same 0 (founds code ys None None tree at 0) f e.1 (segs_same code xs ys alike None None tree at 0 f e.0))

-- of an entry, what is left after its ENTER is no more
pub entry_stay : (code : List Instr) (xs ys : List Known) → AreAlike xs ys → (m : ℕ) (tree : Segs) (at : ℕ) (f g : Found) → entry code xs m tree at ≡ Some f → entry code ys m tree at ≡ Some g → cap (g.cost.run - 5) ≤ cap (f.cost.run - 5)
entry_stay code xs ys alike m (Cons (Stay n body) Nil) at f g is_f is_g =
    let tests = nat_eq n m && (is_enter m (slice_get code at) && is_leave m (slice_get code (at + 1 + size body))) in
    let a = stayed (founds code xs None (Some m) body (at + 1) 0) f (passed tests (chain (founds code xs None (Some m) body (at + 1) 0) left_at_end) f is_f).1 in
    let b = stayed (founds code ys None (Some m) body (at + 1) 0) g (passed tests (chain (founds code ys None (Some m) body (at + 1) 0) left_at_end) g is_g).1 in
    let s = segs_same code xs ys alike None (Some m) body (at + 1) 0 a.inner a.is in
    let same : s.g ≡ b.inner = (let e : Some s.g ≡ Some b.inner = sym s.is ∙ b.is in cc) in
    omega (arith, ap (λ (x : Found). x.cost.run) a.whole, ap (λ (x : Found). x.cost.run) b.whole, ap (λ (x : Found). x.cost.run) same, s.cost.run)
entry_stay code xs ys alike m _ at f g is_f is_g = absurd cc
