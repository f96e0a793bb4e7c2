-- Each step of the computation answers the largest cost over the paths of what it is made of.
use Rattle.std.proofs.Common.{◌≡◌, ◌+◌, ◌-◌, ◌*◌, inl, inr, ℕ, zero, suc, Bool, true, false, List, Option, Some, None, arith, refl, ap, sym, subst, ◌∙◌}
use Rattle.std.specs.Prelude.{◌&&◌, max, nat_eq, nat_lt, nat_le, slice_get}
use Rattle.std.proofs.lemmas.Bool.{cases_lt}
use Rattle.machine_isa.specs.declared.instr.Instr.{Instr}
use Rattle.machine_isa.specs.Operands.{takes, gives}
use Rattle.machine_isa.specs.Ticks.{ticks}
use Rattle.base.specs.declared.capped.Cost.{Cost}
use Rattle.machine_semantics.specs.Trees.{Seg, Segs, Line, Fork, Rep, Call, Stay, Wait, Exit, Nil, Cons, size, size_of}
use Rattle.valid_image.specs.Found.{Known, Found, amount, plus, greater, longer, turns, is_jump_zero, is_jump, is_repeats, is_repeat, is_call, is_enter, is_leave, is_exit, is_reenter, limit_at, in_line, guard, joined, chain, plain_step, line, arms, loop, call, wait, found, founds, entry, tree_found}
use Rattle.valid_image_law.specs.Paths.{Paths, ticks_of, ticks_from, Turns, Then, Either, Loop, Only, Calls, Waits, Inside, seg_paths, paths}
use Rattle.valid_image_law.specs.PathsLaws.{IsAtMost, IsLargest, WorstIsLargest}

-- what is answered, if anything, is the largest
abbrev Answers : Option Found → Paths → Type 0
Answers None P = Unit {0}
Answers (Some f) P = IsLargest f.cost P

guarded : (b : Bool) (x : Option Found) (P : Paths) → Answers x P → Answers (guard b x) P
guarded true x P is = is
guarded false x P is = tt

-- ---- a single path

at_most : (c d : Cost) → c ≡ d → IsAtMost c d
at_most c d is = record { run = omega (arith, ap (λ (x : Cost). x.run) is); susp = omega (arith, ap (λ (x : Cost). x.susp) is); waits = omega (arith, ap (λ (x : Cost). x.waits) is) }

only : (cost : Cost) → IsLargest cost (Only cost)
only cost = record { no_more = λ leaves c p. at_most c cost p.1; run = (cost, (refl, refl), refl); susp = (cost, (refl, refl), refl); waits = (cost, (refl, refl), refl) }

-- ---- one piece and then another

-- the costs of what comes later are a bound for what leaves before
then_most : (P Q : Paths) (f g : Cost) → IsLargest f P → IsLargest g Q → (leaves : Bool) (c : Cost) → Then P Q leaves c → IsAtMost c (plus f g)
then_most P Q f g first second leaves c (inl (d, e, p, q, is)) =
    let a = first.no_more false d p in
    let b = second.no_more leaves e q in
    record {
      run = omega (arith, a.run, b.run, ap (λ (x : Cost). x.run) is);
      susp = omega (arith, a.susp, b.susp, ap (λ (x : Cost). x.susp) is);
      waits = omega (arith, a.waits, b.waits, ap (λ (x : Cost). x.waits) is);
    }
then_most P Q f g first second leaves c (inr (gone, p)) = let a = first.no_more true c p in record { run = omega (arith, a.run); susp = omega (arith, a.susp); waits = omega (arith, a.waits) }

then_largest : (P Q : Paths) (f g : Cost) → IsLargest f P → IsLargest g Q → IsLargest (plus f g) (Then P Q)
then_largest P Q f g first second = record {
  no_more = then_most P Q f g first second;
  run = (plus first.run.0 second.run.0, inl (first.run.0, second.run.0, first.run.1, second.run.1, refl), omega (arith, first.run.2, second.run.2));
  susp = (plus first.susp.0 second.susp.0, inl (first.susp.0, second.susp.0, first.susp.1, second.susp.1, refl), omega (arith, first.susp.2, second.susp.2));
  waits = (plus first.waits.0 second.waits.0, inl (first.waits.0, second.waits.0, first.waits.1, second.waits.1, refl), omega (arith, first.waits.2, second.waits.2));
}

joined_answers : (P Q : Paths) (f : Found) (y : Option Found) → IsLargest f.cost P → Answers y Q → Answers (joined f y) (Then P Q)
joined_answers P Q f None first second = tt
joined_answers P Q f (Some g) first second = then_largest P Q f.cost g.cost first second

chain_answers : (P Q : Paths) (x : Option Found) (next : ℕ → Option Found) → Answers x P → ((h : ℕ) → Answers (next h) Q) → Answers (chain x next) (Then P Q)
chain_answers P Q None next first second = tt
chain_answers P Q (Some f) next first second = joined_answers P Q f (next f.height) first (second f.height)

-- ---- a choice

either_most : (P Q : Paths) (f g : Cost) → IsLargest f P → IsLargest g Q → (leaves : Bool) (c : Cost) → Either P Q leaves c → IsAtMost c (greater (longer 3 f) (longer 2 g))
either_most P Q f g first second true c (inl (d, p, is)) =
    let a = first.no_more true d p in
    record { run = omega (arith, a.run, ap (λ (x : Cost). x.run) is); susp = omega (arith, a.susp, ap (λ (x : Cost). x.susp) is); waits = omega (arith, a.waits, ap (λ (x : Cost). x.waits) is) }
either_most P Q f g first second false c (inl (d, p, is)) =
    let a = first.no_more false d p in
    record { run = omega (arith, a.run, ap (λ (x : Cost). x.run) is); susp = omega (arith, a.susp, ap (λ (x : Cost). x.susp) is); waits = omega (arith, a.waits, ap (λ (x : Cost). x.waits) is) }
either_most P Q f g first second leaves c (inr (d, q, is)) =
    let b = second.no_more leaves d q in
    record { run = omega (arith, b.run, ap (λ (x : Cost). x.run) is); susp = omega (arith, b.susp, ap (λ (x : Cost). x.susp) is); waits = omega (arith, b.waits, ap (λ (x : Cost). x.waits) is) }

either_largest : (P Q : Paths) (f g : Cost) → IsLargest f P → IsLargest g Q → IsLargest (greater (longer 3 f) (longer 2 g)) (Either P Q)
either_largest P Q f g first second = record {
  no_more = either_most P Q f g first second;
  run = elim (cases_lt (3 + f.run) (2 + g.run)) [
    | inl less ↦ (longer 2 second.run.0, inr (second.run.0, second.run.1, refl), omega (arith, less, second.run.2))
    | inr more ↦ (longer 3 first.run.0, inl (first.run.0, first.run.1, refl), omega (arith, more, first.run.2))
  ];
  susp = elim (cases_lt f.susp g.susp) [
    | inl less ↦ (longer 2 second.susp.0, inr (second.susp.0, second.susp.1, refl), omega (arith, less, second.susp.2))
    | inr more ↦ (longer 3 first.susp.0, inl (first.susp.0, first.susp.1, refl), omega (arith, more, first.susp.2))
  ];
  waits = elim (cases_lt f.waits g.waits) [
    | inl less ↦ (longer 2 second.waits.0, inr (second.waits.0, second.waits.1, refl), omega (arith, less, second.waits.2))
    | inr more ↦ (longer 3 first.waits.0, inl (first.waits.0, first.waits.1, refl), omega (arith, more, first.waits.2))
  ];
}

arms_answers : (P Q : Paths) (x y : Option Found) → Answers x P → Answers y Q → Answers (arms x y) (Either P Q)
arms_answers P Q None y first second = tt
arms_answers P Q (Some f) None first second = tt
arms_answers P Q (Some f) (Some g) first second =
    guarded (nat_eq f.height g.height) (Some (record { height = f.height; cost = greater (longer 3 f.cost) (longer 2 g.cost); depth = max f.depth g.depth })) (Either P Q) (either_largest P Q f.cost g.cost first second)

-- ---- a loop

abbrev all_turns : ℕ → Cost → Cost
all_turns n f = amount (n * (f.run + 3)) (n * f.susp) (n * f.waits)

turns_most : (P : Paths) (f : Cost) → IsLargest f P → (n : ℕ) (c : Cost) → Turns P n c → IsAtMost c (all_turns n f)
turns_most P f first zero c is = record { run = omega (arith, ap (λ (x : Cost). x.run) is); susp = omega (arith, ap (λ (x : Cost). x.susp) is); waits = omega (arith, ap (λ (x : Cost). x.waits) is) }
turns_most P f first (suc n) c (inl (d, e, p, rest, is)) =
    let a = first.no_more false d p in
    let b = turns_most P f first n e rest in
    record { run = omega (arith, a.run, b.run, ap (λ (x : Cost). x.run) is); susp = omega (arith, a.susp, b.susp, ap (λ (x : Cost). x.susp) is); waits = omega (arith, a.waits, b.waits, ap (λ (x : Cost). x.waits) is) }
turns_most P f first (suc n) c (inr p) = let a = first.no_more true c p in record { run = omega (arith, a.run); susp = omega (arith, a.susp); waits = omega (arith, a.waits) }

-- every turn alike
turns_reach : (P : Paths) (d : Cost) → P false d → (n : ℕ) → (e : Cost) × Turns P n e × (e.run ≡ n * (d.run + 3)) × (e.susp ≡ n * d.susp) × (e.waits ≡ n * d.waits)
turns_reach P d p zero = (amount 0 0 0, refl, omega arith, omega arith, omega arith)
turns_reach P d p (suc n) =
    let r = turns_reach P d p n in
    (plus (longer 3 d) r.0, inl (d, r.0, p, r.1, refl), omega (arith, r.2), omega (arith, r.3), omega (arith, r.4))

loop_most : (P : Paths) (f : Cost) (n : ℕ) → IsLargest f P → (leaves : Bool) (c : Cost) → Loop P n leaves c → IsAtMost c (turns n f)
loop_most P f n first leaves c (goes, (d, t, is)) =
    let a = turns_most P f first n d t in
    record { run = omega (arith, a.run, ap (λ (x : Cost). x.run) is); susp = omega (arith, a.susp, ap (λ (x : Cost). x.susp) is); waits = omega (arith, a.waits, ap (λ (x : Cost). x.waits) is) }

loop_largest : (P : Paths) (f : Cost) (n : ℕ) → IsLargest f P → IsLargest (turns n f) (Loop P n)
loop_largest P f n first =
    let a = turns_reach P first.run.0 first.run.1 n in
    let b = turns_reach P first.susp.0 first.susp.1 n in
    let c = turns_reach P first.waits.0 first.waits.1 n in
    record {
      no_more = loop_most P f n first;
      run = (longer 2 a.0, (refl, (a.0, a.1, refl)), ap (λ k. 2 + k) (a.2 ∙ ap (λ k. n * (k + 3)) first.run.2));
      susp = (longer 2 b.0, (refl, (b.0, b.1, refl)), b.3 ∙ ap (λ k. n * k) first.susp.2);
      waits = (longer 2 c.0, (refl, (c.0, c.1, refl)), c.4 ∙ ap (λ k. n * k) first.waits.2);
    }

loop_answers : (P : Paths) (n h : ℕ) (x : Option Found) → Answers x P → Answers (loop n h x) (Loop P n)
loop_answers P n h None first = tt
loop_answers P n h (Some f) first = guarded (nat_eq f.height 0) (Some (record { height = h; cost = turns n f.cost; depth = suc h + f.depth })) (Loop P n) (loop_largest P f.cost n first)

-- ---- calls, waits and exits

call_answers : (h : ℕ) (k : Option Known) → Answers (call h k) (Calls k)
call_answers h None = tt
call_answers h (Some k) =
    guarded (nat_le k.params h) (Some (record { height = k.results + (h - k.params); cost = longer 6 k.cost; depth = max (k.results + (h - k.params)) (h - k.params + 2 + k.locals + k.depth) })) (Calls (Some k)) (only (longer 6 k.cost))

wait_answers : (h : ℕ) (limit : Option ℕ) → Answers (wait h limit) (Waits limit)
wait_answers h None = tt
wait_answers h (Some limit) = only (amount 10 limit 1)

exit_largest : IsLargest (amount 3 0 0) (λ leaves c. c ≡ amount 3 0 0)
exit_largest = record { no_more = λ leaves c is. at_most c (amount 3 0 0) is; run = (amount 3 0 0, refl, refl); susp = (amount 3 0 0, refl, refl); waits = (amount 3 0 0, refl, refl) }

-- ---- a Line

abbrev Costs : Option Found → Cost → Type 0
Costs None c = Unit {0}
Costs (Some f) c = f.cost ≡ c

step_costs : (b : Bool) (f : Found) (n t : ℕ) (y : Option Found) → f.cost ≡ amount n 0 0 → Costs y (amount t 0 0) → Costs (guard b (joined f y)) (amount (n + t) 0 0)
step_costs false f n t y is rest = tt
step_costs true f n t None is rest = tt
step_costs true f n t (Some g) is rest = ap (λ c. plus c g.cost) is ∙ ap (λ c. plus (amount n 0 0) c) rest

plain_costs : (instr : Option Instr) (h t : ℕ) (next : ℕ → Option Found) → ((k : ℕ) → Costs (next k) (amount t 0 0)) → Costs (plain_step instr h next) (amount (ticks_of instr + t) 0 0)
plain_costs None h t next rest = tt
plain_costs (Some instr) h t next rest =
    step_costs (in_line instr && nat_le (takes instr) h) (record { height = gives instr + (h - takes instr); cost = amount (ticks instr) 0 0; depth = gives instr + (h - takes instr) }) (ticks instr) t
    (next (gives instr + (h - takes instr))) refl (rest (gives instr + (h - takes instr)))

line_costs : (code : List Instr) (n at h : ℕ) → Costs (line code n at h) (amount (ticks_from code n at) 0 0)
line_costs code zero at h = refl
line_costs code (suc n) at h = plain_costs (slice_get code at) h (ticks_from code n (at + 1)) (line code n (at + 1)) (λ k. line_costs code n (at + 1) k)

only_answers : (x : Option Found) (c : Cost) → Costs x c → Answers x (Only c)
only_answers None c is = tt
only_answers (Some f) c is = let P : Cost → Type 0 = λ d. IsLargest d (Only c) in subst P (sym is) (only c)

-- ---- trees

mutual
  seg_answers : (code : List Instr) (known : List Known) (out held : Option ℕ) (seg : Seg) (at h : ℕ) → Answers (found code known out held seg at h) (seg_paths code known seg at)
  seg_answers code known out held (Line zero) at h = tt
  seg_answers code known out held (Line (suc n)) at h = only_answers (line code (suc n) at h) (amount (ticks_from code (suc n) at) 0 0) (line_costs code (suc n) at h)
  seg_answers code known out held (Fork first second) at zero = tt
  seg_answers code known out held (Fork first second) at (suc h) =
      guarded (is_jump_zero (at + 1 + size first + 1) (slice_get code at) && is_jump (at + size first + size second + 2) (slice_get code (at + 1 + size first)))
      (arms (founds code known out held first (at + 1) h) (founds code known out held second (at + 1 + size first + 1) h)) (seg_paths code known (Fork first second) at)
      (arms_answers (paths code known first (at + 1)) (paths code known second (at + 1 + size first + 1)) (founds code known out held first (at + 1) h) (founds code known out held second (at + 1 + size first + 1) h)
      (segs_answers code known out held first (at + 1) h) (segs_answers code known out held second (at + 1 + size first + 1) h))
  seg_answers code known out held (Rep n body) at h =
      guarded (nat_lt 0 n && (is_repeats n (slice_get code at) && is_repeat (at + 1) (slice_get code (at + 1 + size body))))
      (loop n h (founds code known (Some (at + 1 + size body + 1)) held body (at + 1) 0)) (seg_paths code known (Rep n body) at)
      (loop_answers (paths code known body (at + 1)) n h (founds code known (Some (at + 1 + size body + 1)) held body (at + 1) 0) (segs_answers code known (Some (at + 1 + size body + 1)) held body (at + 1) 0))
  seg_answers code known out held (Call r) at h = guarded (is_call r (slice_get code at)) (call h (slice_get known r)) (seg_paths code known (Call r) at) (call_answers h (slice_get known r))
  seg_answers code known out held (Stay m body) at h = tt
  seg_answers code known out held Wait at h =
      guarded (is_reenter held (slice_get code (at + 1))) (wait h (limit_at (slice_get code at))) (seg_paths code known Wait at) (wait_answers h (limit_at (slice_get code at)))
  seg_answers code known out held Exit at h =
      guarded (nat_eq h 1 && is_exit out (slice_get code at)) (Some (record { height = 0; cost = amount 3 0 0; depth = 0 })) (seg_paths code known Exit at) exit_largest

  segs_answers : (code : List Instr) (known : List Known) (out held : Option ℕ) (segs : Segs) (at h : ℕ) → Answers (founds code known out held segs at h) (paths code known segs at)
  segs_answers code known out held Nil at h = only (amount 0 0 0)
  segs_answers code known out held (Cons head rest) at h =
      chain_answers (seg_paths code known head at) (paths code known rest (at + size_of head)) (found code known out held head at h) (founds code known out held rest (at + size_of head))
      (seg_answers code known out held head at h) (λ k. segs_answers code known out held rest (at + size_of head) k)

-- ---- an entry

inside_largest : (P : Paths) (f : Cost) → IsLargest f P → IsLargest (plus f (amount 8 0 0)) (Inside P)
inside_largest P f first = record {
  no_more = most;
  run = (plus first.run.0 (amount 8 0 0), (refl, (first.run.0, first.run.1, refl)), omega (arith, first.run.2));
  susp = (plus first.susp.0 (amount 8 0 0), (refl, (first.susp.0, first.susp.1, refl)), omega (arith, first.susp.2));
  waits = (plus first.waits.0 (amount 8 0 0), (refl, (first.waits.0, first.waits.1, refl)), omega (arith, first.waits.2));
} where
  most : (leaves : Bool) (c : Cost) → Inside P leaves c → IsAtMost c (plus f (amount 8 0 0))
  most leaves c (goes, (d, p, is)) =
      let a = first.no_more false d p in
      record { run = omega (arith, a.run, ap (λ (x : Cost). x.run) is); susp = omega (arith, a.susp, ap (λ (x : Cost). x.susp) is); waits = omega (arith, a.waits, ap (λ (x : Cost). x.waits) is) }

and_no_more : (P : Paths) (f : Cost) → IsLargest f P → IsLargest f (Then P (Only (amount 0 0 0)))
and_no_more P f first =
    let whole = then_largest P (Only (amount 0 0 0)) f (amount 0 0 0) first (only (amount 0 0 0)) in
    let same : plus f (amount 0 0 0) ≡ f = ap (λ n. amount n (f.susp + 0) (f.waits + 0)) (none f.run) ∙ ap (λ n. amount f.run n (f.waits + 0)) (none f.susp) ∙ ap (λ n. amount f.run f.susp n) (none f.waits) in
    let Q : Cost → Type 0 = λ c. IsLargest c (Then P (Only (amount 0 0 0))) in
    subst Q same whole where
      none : (n : ℕ) → n + 0 ≡ n
      none n = omega arith

stay_answers : (P : Paths) (x : Option Found) → Answers x P → Answers (chain x (λ h. Some (record { height = h; cost = amount 8 0 0; depth = 0 }))) (Then (Inside P) (Only (amount 0 0 0)))
stay_answers P None first = tt
stay_answers P (Some f) first = and_no_more (Inside P) (plus f.cost (amount 8 0 0)) (inside_largest P f.cost first)

entry_answers : (code : List Instr) (known : List Known) (m : ℕ) (tree : Segs) (at : ℕ) → Answers (entry code known m tree at) (paths code known tree at)
entry_answers code known m (Cons (Stay n body) Nil) at =
    guarded (nat_eq n m && (is_enter m (slice_get code at) && is_leave m (slice_get code (at + 1 + size body))))
    (chain (founds code known None (Some m) body (at + 1) 0) (λ h. Some (record { height = h; cost = amount 8 0 0; depth = 0 }))) (paths code known (Cons (Stay n body) Nil) at)
    (stay_answers (paths code known body (at + 1)) (founds code known None (Some m) body (at + 1) 0) (segs_answers code known None (Some m) body (at + 1) 0))
entry_answers code known m _ at = tt

tree_answers : (code : List Instr) (known : List Known) (monitor : Option ℕ) (tree : Segs) (at : ℕ) → Answers (tree_found code known monitor tree at) (paths code known tree at)
tree_answers code known None tree at = segs_answers code known None None tree at 0
tree_answers code known (Some m) tree at = entry_answers code known m tree at

answered : (x : Option Found) (P : Paths) (f : Found) → Answers x P → x ≡ Some f → IsLargest f.cost P
answered None P f is some = absurd cc
answered (Some g) P f is some = let same : g ≡ f = cc in let Q : Found → Type 0 = λ k. IsLargest k.cost P in subst Q same is

pub worst_is_largest : WorstIsLargest
worst_is_largest code known monitor tree at f some = answered (tree_found code known monitor tree at) (paths code known tree at) f (tree_answers code known monitor tree at) some
