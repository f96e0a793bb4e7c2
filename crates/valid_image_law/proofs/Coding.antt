-- The computation over a tree answers exactly where the code is of the tree.
use Rattle.std.proofs.Common.{◌≡◌, ◌+◌, ◌-◌, ℕ, zero, suc, List, Option, Some, None, arith, refl, ap, sym, subst, ◌∙◌, true, false, Bool}
use Rattle.std.specs.Prelude.{◌&&◌, nat_eq, nat_le, nat_lt, max, slice_get}
use Rattle.std.proofs.lemmas.Bool.{and_from, and_parts, eqb-true, eq-eqb, le-leb, lt-ltb, ltb-true}
use Rattle.machine_isa.specs.declared.instr.Instr.{Instr}
use Rattle.machine_isa.specs.declared.instr.Instr.TheVariants as i
use Rattle.machine_isa.specs.Ticks.{ticks}
use Rattle.machine_isa.specs.Operands.{takes, gives}
use Rattle.machine_semantics.specs.Trees.{Seg, Segs, Line, Fork, Rep, Call, Stay, Wait, Exit, Nil, Cons, size, size_of}
use Rattle.machine_semantics.specs.Image.{Routine}
use Rattle.valid_image.specs.Found.{Known, Found, amount, plus, in_line, is_jump_zero, is_jump, is_repeats, is_repeat, is_call, is_enter, is_leave, is_exit, is_reenter, is_return, is_end, limit_at, guard, joined, chain, plain_step, line, arms, loop, call, wait, found, founds, entry, ended, tree_found}
use Rattle.valid_image.specs.Tables.{count, monitor_of, routine_found, part_found}
use Rattle.valid_image_law.proofs.Tests as t
use Rattle.valid_image_law.specs.Code.{IsLine, IsSegment, IsCode, IsEntry, IsBody, IsRoutine, IsPart, return_of}

-- ---- rows of routines that may be called

pub record Described (routines : List Routine) (j : ℕ) (k : Known) : Type 0 where
  pub routine : Routine
  pub there : slice_get routines j ≡ Some routine
  pub params : k.params ≡ routine.params
  pub results : k.results ≡ count routine.gives

pub record Row (known : List Known) (j : ℕ) (x : Routine) : Type 0 where
  pub row : Known
  pub there : slice_get known j ≡ Some row
  pub params : row.params ≡ x.params
  pub results : row.results ≡ count x.gives

pub record Describe (known : List Known) (routines : List Routine) : Type 0 where
  pub described : (j : ℕ) (k : Known) → slice_get known j ≡ Some k → Described routines j k
  pub rows : (j : ℕ) (x : Routine) → slice_get routines j ≡ Some x → Row known j x

-- ---- steps

-- the computation answers, with this height
pub record Gives (x : Option Found) (h : ℕ) : Type 0 where
  pub f : Found
  pub is : x ≡ Some f
  pub height : f.height ≡ h

guarded : (b : Bool) (x : Option Found) (h : ℕ) → b ≡ true → Gives x h → Gives (guard b x) h
guarded true x h is g = g
guarded false x h is g = absurd cc

of_some : (f : Found) (h : ℕ) → f.height ≡ h → Gives (Some f) h
of_some f h is = record { f = f; is = refl; height = is }

joins : (f : Found) (x : Option Found) (h : ℕ) → Gives x h → Gives (joined f x) h
joins f x h g = record { f = record { height = g.f.height; cost = plus f.cost g.f.cost; depth = max f.depth g.f.depth }; is = ap (λ o. joined f o) g.is; height = g.height }

chains : (x : Option Found) (next : ℕ → Option Found) (between h : ℕ) → Gives x between → Gives (next between) h → Gives (chain x next) h
chains x next between h first later =
    subst (λ o. Gives (chain o next) h) (sym first.is) (joins first.f (next first.f.height) h (subst (λ k. Gives (next k) h) (sym first.height) later))

two_arms : (x y : Option Found) (h : ℕ) → Gives x h → Gives y h → Gives (arms x y) h
two_arms x y h a b =
    subst (λ o. Gives (arms o y) h) (sym a.is) (subst (λ o. Gives (arms (Some a.f) o) h) (sym b.is)
    (guarded (nat_eq a.f.height b.f.height) _ h (eq-eqb a.f.height b.f.height (a.height ∙ sym b.height)) (of_some _ h a.height)))

loops : (n h : ℕ) (x : Option Found) → Gives x 0 → Gives (loop n h x) h
loops n h x a = subst (λ o. Gives (loop n h o) h) (sym a.is) (guarded (nat_eq a.f.height 0) _ h (eq-eqb a.f.height 0 a.height) (of_some _ h refl))

at_some : (F : Option Instr → Option Found) (o : Option Instr) (instr : Instr) (h : ℕ) → o ≡ Some instr → Gives (F (Some instr)) h → Gives (F o) h
at_some F o instr h is g = subst (λ x. Gives (F x) h) (sym is) g

ends : (n : ℕ) (x : Option Found) → Gives x n → Gives (ended n x) n
ends n x a = subst (λ o. Gives (ended n o) n) (sym a.is) (guarded (nat_eq a.f.height n) _ n (eq-eqb a.f.height n a.height) (of_some a.f n a.height))

ended_is : (n : ℕ) (x : Option Found) (f : Found) → ended n x ≡ Some f → (x ≡ Some f) × (f.height ≡ n)
ended_is n None f is = absurd cc
ended_is n (Some g) f is =
    let p = t.passed (nat_eq g.height n) (Some g) f is in
    let same : g ≡ f = cc in
    (p.1, ap (λ (y : Found). y.height) (sym same) ∙ eqb-true g.height n p.0)

height_of : (f g : Found) → f ≡ g → g.height ≡ f.height
height_of f g same = ap (λ (y : Found). y.height) (sym same)

-- ---- tests of one instruction

is_test : (F : Option Instr → Bool) (o : Option Instr) (instr : Instr) → o ≡ Some instr → F (Some instr) ≡ true → F o ≡ true
is_test F o instr at is = ap F at ∙ is

itself : (n : ℕ) → nat_eq n n ≡ true
itself n = eq-eqb n n refl

returns : (b : Bool) (o : Option Instr) → o ≡ Some (return_of b) → is_return b o ≡ true
returns true o at = ap (λ x. is_return true x) at
returns false o at = ap (λ x. is_return false x) at

return_is : (b : Bool) (o : Option Instr) → is_return b o ≡ true → o ≡ Some (return_of b)
return_is true (Some i.ReturnValue) is = refl
return_is false (Some i.Return) is = refl
return_is _ _ is = absurd cc

end_is : (o : Option Instr) → is_end o ≡ true → o ≡ Some i.End
end_is (Some i.End) is = refl
end_is _ is = absurd cc

-- ---- a tree

module _ (code : List Instr) (known : List Known) (routines : List Routine) (d : Describe known routines) where
  line_is : (n at h : ℕ) (f : Found) → line code n at h ≡ Some f → IsLine code n at h f.height
  line_is zero at h f is = (let same : record { height = h; cost = amount 0 0 0; depth = 0 } ≡ f = cc in ap (λ (y : Found). y.height) (sym same))
  line_is (suc n) at h f is =
      let s = t.stepped (slice_get code at) h (line code n (at + 1)) f is in
      record {
        instr = s.instr;
        here = s.is;
        plain = s.plain;
        enough = s.enough;
        more = subst (λ k. IsLine code n (at + 1) (gives s.instr + (h - takes s.instr)) k) (sym (ap (λ (y : Found). y.height) s.whole)) (line_is n (at + 1) (gives s.instr + (h - takes s.instr)) s.later s.more);
      }

  line_found : (n at h to : ℕ) → IsLine code n at h to → Gives (line code n at h) to
  line_found zero at h to same = of_some (record { height = h; cost = amount 0 0 0; depth = 0 }) to (sym same)
  line_found (suc n) at h to l =
      at_some (λ o. plain_step o h (line code n (at + 1))) (slice_get code at) l.instr to l.here
      (guarded (in_line l.instr && nat_le (takes l.instr) h) _ to (and_from (in_line l.instr) (nat_le (takes l.instr) h) l.plain (le-leb (takes l.instr) h l.enough))
      (joins (record { height = gives l.instr + (h - takes l.instr); cost = amount (ticks l.instr) 0 0; depth = gives l.instr + (h - takes l.instr) }) _ to
      (line_found n (at + 1) (gives l.instr + (h - takes l.instr)) to l.more)))

  mutual
    segment_is : (out held : Option ℕ) (s : Seg) (at h : ℕ) (f : Found) → found code known out held s at h ≡ Some f → IsSegment code routines out held s at h f.height
    segment_is out held (Line zero) at h f is = absurd cc
    segment_is out held (Line (suc n)) at h f is = (omega arith, line_is (suc n) at h f is)
    segment_is out held (Fork first second) at zero f is = absurd cc
    segment_is out held (Fork first second) at (suc h) f is =
        let jz = is_jump_zero (at + 1 + size first + 1) (slice_get code at) in
        let jmp = is_jump (at + size first + size second + 2) (slice_get code (at + 1 + size first)) in
        let p = t.passed (jz && jmp) _ f is in
        let j = and_parts jz jmp p.0 in
        let a = t.forked (founds code known out held first (at + 1) h) (founds code known out held second (at + 1 + size first + 1) h) f p.1 in
        let height : a.first.height ≡ f.height = sym (ap (λ (y : Found). y.height) a.whole) in
        record {
          kept = h;
          takes_one = refl;
          jumps_to_second = t.jump_zero_is (at + 1 + size first + 1) (slice_get code at) j.0;
          first_arm = subst (λ k. IsCode code routines out held first (at + 1) h k) height (code_is out held first (at + 1) h a.first a.is);
          jumps_past_second = t.jump_is (at + size first + size second + 2) (slice_get code (at + 1 + size first)) j.1;
          second_arm = subst (λ k. IsCode code routines out held second (at + 1 + size first + 1) h k) (a.same ∙ height) (code_is out held second (at + 1 + size first + 1) h a.second a.other);
        }
    segment_is out held (Rep n body) at h f is =
        let counts = is_repeats n (slice_get code at) in
        let back = is_repeat (at + 1) (slice_get code (at + 1 + size body)) in
        let p = t.passed (nat_lt 0 n && (counts && back)) _ f is in
        let some = and_parts (nat_lt 0 n) (counts && back) p.0 in
        let both = and_parts counts back some.1 in
        let l = t.looped n h (founds code known (Some (at + 1 + size body + 1)) held body (at + 1) 0) f p.1 in
        record {
          some = ltb-true 0 n some.0;
          counts = t.repeats_is n (slice_get code at) both.0;
          turn = subst (λ k. IsCode code routines (Some (at + 1 + size body + 1)) held body (at + 1) 0 k) l.back (code_is (Some (at + 1 + size body + 1)) held body (at + 1) 0 l.turn l.is);
          goes_back = t.repeat_is (at + 1) (slice_get code (at + 1 + size body)) both.1;
          leaves_all = ap (λ (y : Found). y.height) l.whole;
        }
    segment_is out held (Call r) at h f is =
        let p = t.passed (is_call r (slice_get code at)) _ f is in
        let c = t.called h (slice_get known r) f p.1 in
        let k = d.described r c.known c.is in
        record {
          calls = t.call_is r (slice_get code at) p.0;
          routine = k.routine;
          there = k.there;
          enough = omega (arith, c.enough, k.params);
          result = ap (λ (y : Found). y.height) c.whole ∙ (ap (λ n. n + (h - c.known.params)) k.results ∙ ap (λ n. count k.routine.gives + (h - n)) k.params);
        }
    segment_is out held (Stay m body) at h f is = absurd cc
    segment_is out held Wait at h f is =
        let p = t.passed (is_reenter held (slice_get code (at + 1))) _ f is in
        let e = t.reenter_is held (slice_get code (at + 1)) p.0 in
        let w = t.waited h (slice_get code at) f p.1 in
        record {
          condition = w.condition;
          limit = w.limit;
          number = w.number;
          waits = w.is;
          monitor = e.monitor;
          inside = e.inside;
          enters_again = e.enters;
          leaves_all = ap (λ (y : Found). y.height) w.whole;
        }
    segment_is out held Exit at h f is =
        let p = t.passed (nat_eq h 1 && is_exit out (slice_get code at)) _ f is in
        let b = and_parts (nat_eq h 1) (is_exit out (slice_get code at)) p.0 in
        let e = t.exit_is out (slice_get code at) b.1 in
        let same : record { height = 0; cost = amount 3 0 0; depth = 0 } ≡ f = (let w = p.1 in cc) in
        record {
          end = e.to;
          in_loop = e.in_loop;
          goes_to_end = e.exits;
          takes_one = eqb-true h 1 b.0;
          leaves_none = ap (λ (y : Found). y.height) (sym same);
        }

    pub code_is : (out held : Option ℕ) (tree : Segs) (at h : ℕ) (f : Found) → founds code known out held tree at h ≡ Some f → IsCode code routines out held tree at h f.height
    code_is out held Nil at h f is = (let same : record { height = h; cost = amount 0 0 0; depth = 0 } ≡ f = cc in ap (λ (y : Found). y.height) (sym same))
    code_is out held (Cons head rest) at h f is =
        let c = t.chained (found code known out held head at h) (founds code known out held rest (at + size_of head)) f is in
        record {
          between = c.first.height;
          first = segment_is out held head at h c.first c.is;
          later = subst (λ k. IsCode code routines out held rest (at + size_of head) c.first.height k) (sym (ap (λ (y : Found). y.height) c.whole)) (code_is out held rest (at + size_of head) c.first.height c.later c.more);
        }

  mutual
    segment_found : (out held : Option ℕ) (s : Seg) (at h to : ℕ) → IsSegment code routines out held s at h to → Gives (found code known out held s at h) to
    segment_found out held (Line zero) at h to l = absurd (let some = l.0 in omega (arith, some))
    segment_found out held (Line (suc n)) at h to l = line_found (suc n) at h to l.1
    segment_found out held (Fork first second) at h to w =
        subst (λ k. Gives (found code known out held (Fork first second) at k) to) (sym w.takes_one)
        (guarded (is_jump_zero (at + 1 + size first + 1) (slice_get code at) && is_jump (at + size first + size second + 2) (slice_get code (at + 1 + size first))) _ to
        (and_from (is_jump_zero (at + 1 + size first + 1) (slice_get code at)) (is_jump (at + size first + size second + 2) (slice_get code (at + 1 + size first)))
        (is_test (is_jump_zero (at + 1 + size first + 1)) (slice_get code at) _ w.jumps_to_second (itself (at + 1 + size first + 1)))
        (is_test (is_jump (at + size first + size second + 2)) (slice_get code (at + 1 + size first)) _ w.jumps_past_second (itself (at + size first + size second + 2))))
        (two_arms _ _ to (code_found out held first (at + 1) w.kept to w.first_arm) (code_found out held second (at + 1 + size first + 1) w.kept to w.second_arm)))
    segment_found out held (Rep n body) at h to w =
        subst (λ k. Gives (found code known out held (Rep n body) at h) k) (sym w.leaves_all)
        (guarded (nat_lt 0 n && (is_repeats n (slice_get code at) && is_repeat (at + 1) (slice_get code (at + 1 + size body)))) _ h
        (and_from (nat_lt 0 n) (is_repeats n (slice_get code at) && is_repeat (at + 1) (slice_get code (at + 1 + size body))) (lt-ltb 0 n w.some)
        (and_from (is_repeats n (slice_get code at)) (is_repeat (at + 1) (slice_get code (at + 1 + size body)))
        (is_test (is_repeats n) (slice_get code at) _ w.counts (itself n)) (is_test (is_repeat (at + 1)) (slice_get code (at + 1 + size body)) _ w.goes_back (itself (at + 1)))))
        (loops n h _ (code_found (Some (at + 1 + size body + 1)) held body (at + 1) 0 0 w.turn)))
    segment_found out held (Call r) at h to w =
        let k = d.rows r w.routine w.there in
        guarded (is_call r (slice_get code at)) _ to (is_test (is_call r) (slice_get code at) _ w.calls (itself r))
        (subst (λ o. Gives (call h o) to) (sym k.there)
        (guarded (nat_le k.row.params h) _ to (le-leb k.row.params h (let e = w.enough in omega (arith, e, k.params)))
        (of_some _ to ((ap (λ n. n + (h - k.row.params)) k.results ∙ ap (λ n. count w.routine.gives + (h - n)) k.params) ∙ sym w.result))))
    segment_found out held (Stay m body) at h to w = absurd w
    segment_found out held Wait at h to w =
        subst (λ k. Gives (found code known out held Wait at h) k) (sym w.leaves_all)
        (guarded (is_reenter held (slice_get code (at + 1))) _ h
        (subst (λ (o : Option ℕ). is_reenter o (slice_get code (at + 1)) ≡ true) (sym w.inside) (is_test (is_reenter (Some w.monitor)) (slice_get code (at + 1)) _ w.enters_again (itself w.monitor)))
        (at_some (λ o. wait h (limit_at o)) (slice_get code at) _ h w.waits (of_some _ h refl)))
    segment_found out held Exit at h to w =
        subst (λ k. Gives (found code known out held Exit at h) k) (sym w.leaves_none)
        (guarded (nat_eq h 1 && is_exit out (slice_get code at)) _ 0
        (and_from (nat_eq h 1) (is_exit out (slice_get code at)) (eq-eqb h 1 w.takes_one)
        (subst (λ (o : Option ℕ). is_exit o (slice_get code at) ≡ true) (sym w.in_loop) (is_test (is_exit (Some w.end)) (slice_get code at) _ w.goes_to_end (itself w.end))))
        (of_some _ 0 refl))

    pub code_found : (out held : Option ℕ) (tree : Segs) (at h to : ℕ) → IsCode code routines out held tree at h to → Gives (founds code known out held tree at h) to
    code_found out held Nil at h to same = of_some (record { height = h; cost = amount 0 0 0; depth = 0 }) to (sym same)
    code_found out held (Cons head rest) at h to w =
        chains (found code known out held head at h) (founds code known out held rest (at + size_of head)) w.between to (segment_found out held head at h w.between w.first) (code_found out held rest (at + size_of head) w.between to w.later)

  -- ---- whole parts

  entry_is : (m : ℕ) (tree : Segs) (at : ℕ) (f : Found) → entry code known m tree at ≡ Some f → IsEntry code routines m tree at f.height
  entry_is m (Cons (Stay n body) Nil) at f is =
      let enters = is_enter m (slice_get code at) in
      let leaves = is_leave m (slice_get code (at + 1 + size body)) in
      let p = t.passed (nat_eq n m && (enters && leaves)) _ f is in
      let own = and_parts (nat_eq n m) (enters && leaves) p.0 in
      let both = and_parts enters leaves own.1 in
      let s = t.stayed (founds code known None (Some m) body (at + 1) 0) f p.1 in
      record {
        own = eqb-true n m own.0;
        enters = t.enter_is m (slice_get code at) both.0;
        inside = subst (λ k. IsCode code routines None (Some m) body (at + 1) 0 k) (sym (ap (λ (y : Found). y.height) s.whole)) (code_is None (Some m) body (at + 1) 0 s.inner s.is);
        leaves = t.leave_is m (slice_get code (at + 1 + size body)) both.1;
      }
  entry_is m _ at f is = absurd cc

  entry_found : (m : ℕ) (tree : Segs) (at to : ℕ) → IsEntry code routines m tree at to → Gives (entry code known m tree at) to
  entry_found m (Cons (Stay n body) Nil) at to w =
      guarded (nat_eq n m && (is_enter m (slice_get code at) && is_leave m (slice_get code (at + 1 + size body)))) _ to
      (and_from (nat_eq n m) (is_enter m (slice_get code at) && is_leave m (slice_get code (at + 1 + size body))) (eq-eqb n m w.own)
      (and_from (is_enter m (slice_get code at)) (is_leave m (slice_get code (at + 1 + size body)))
      (is_test (is_enter m) (slice_get code at) _ w.enters (itself m)) (is_test (is_leave m) (slice_get code (at + 1 + size body)) _ w.leaves (itself m))))
      (chains (founds code known None (Some m) body (at + 1) 0) (λ h. Some (record { height = h; cost = amount 8 0 0; depth = 0 })) to to (code_found None (Some m) body (at + 1) 0 to w.inside) (of_some _ to refl))
  entry_found m _ at to w = absurd w

  body_is : (monitor : Option ℕ) (tree : Segs) (at : ℕ) (f : Found) → tree_found code known monitor tree at ≡ Some f → IsBody code routines monitor tree at f.height
  body_is (Some m) tree at f is = entry_is m tree at f is
  body_is None tree at f is = code_is None None tree at 0 f is

  body_found : (monitor : Option ℕ) (tree : Segs) (at to : ℕ) → IsBody code routines monitor tree at to → Gives (tree_found code known monitor tree at) to
  body_found (Some m) tree at to w = entry_found m tree at to w
  body_found None tree at to w = code_found None None tree at 0 to w

  pub routine_is : (r : Routine) (f : Found) → routine_found code known r ≡ Some f → IsRoutine code routines r
  routine_is r f is =
      let p = t.passed (is_return r.gives (slice_get code (r.start + size r.tree))) _ f is in
      let e = ended_is (count r.gives) (tree_found code known (monitor_of r) r.tree r.start) f p.1 in
      record {
        body = subst (λ k. IsBody code routines (monitor_of r) r.tree r.start k) e.1 (body_is (monitor_of r) r.tree r.start f e.0);
        returns = return_is r.gives (slice_get code (r.start + size r.tree)) p.0;
      }

  pub routine_gives : (r : Routine) → IsRoutine code routines r → Gives (routine_found code known r) (count r.gives)
  routine_gives r w =
      guarded (is_return r.gives (slice_get code (r.start + size r.tree))) _ (count r.gives) (returns r.gives (slice_get code (r.start + size r.tree)) w.returns)
      (ends (count r.gives) _ (body_found (monitor_of r) r.tree r.start (count r.gives) w.body))

  pub part_is : (tree : Segs) (at : ℕ) (f : Found) → part_found code known tree at ≡ Some f → IsPart code routines tree at
  part_is tree at f is =
      let p = t.passed (is_end (slice_get code (at + size tree))) _ f is in
      let e = ended_is 0 (founds code known None None tree at 0) f p.1 in
      record { body = subst (λ k. IsCode code routines None None tree at 0 k) e.1 (code_is None None tree at 0 f e.0); ends = end_is (slice_get code (at + size tree)) p.0 }

  pub part_gives : (tree : Segs) (at : ℕ) → IsPart code routines tree at → Gives (part_found code known tree at) 0
  part_gives tree at w =
      guarded (is_end (slice_get code (at + size tree))) _ 0 (is_test is_end (slice_get code (at + size tree)) _ w.ends refl) (ends 0 _ (code_found None None tree at 0 0 w.body))
