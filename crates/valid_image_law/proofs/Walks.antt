-- Where the computation answers, the code is of the tree, with that height and that cost.
use Rattle.std.proofs.Common.{◌≡◌, ◌≤◌, ◌+◌, ◌-◌, inr, ℕ, zero, suc, List, Option, Some, None, arith, refl, ap, sym, subst, ◌∙◌, true}
use Rattle.std.specs.Prelude.{pos, nat_eq, nat_lt, ◌&&◌, slice_get}
use Rattle.std.proofs.lemmas.Bool.{and_parts, eqb-true}
use Rattle.machine_isa.specs.declared.instr.Instr.{Instr}
use Rattle.machine_isa.specs.declared.instr.Instr.TheVariants as i
use Rattle.machine_semantics.specs.Trees.{Seg, Segs, Line, Fork, Rep, Call, Stay, Wait, Exit, Nil, Cons, size, size_of}
use Rattle.machine_isa.specs.Operands.{takes, gives}
use Rattle.machine_semantics.specs.Part.{IsPlain}
use Rattle.machine_semantics.specs.Walk.{Where, WalkCost, Covers, At, IsLine, Walk, Walks, Reaches}
use Rattle.valid_image.specs.Found.{Known, Found, plus, longer, amount, in_line, is_jump_zero, is_jump, is_repeats, is_repeat, is_call, is_enter, is_leave, is_exit, is_reenter, natural, limit_at, chain, line, arms, loop, call, wait, found, founds, entry}
use Rattle.valid_image_law.specs.Rules.{Callable, Waitable, MayStand, AllMayStand, AllKnown, FoundWalks, with_leave}
use Rattle.valid_image_law.proofs.Tests.{passed, jump_zero_is, jump_is, repeats_is, repeat_is, call_is, enter_is, leave_is, exit_is, reenter_is, chained, stepped, forked, looped, called, waited, stayed}

plain_of : (e : Where) (instr : Instr) → MayStand e instr → in_line instr ≡ true → IsPlain e.image e.part instr
plain_of e (i.Call r) may plain = absurd cc
plain_of e (i.Wait c limit number) may plain = absurd cc
plain_of e instr may plain = may plain

line_walks : (e : Where) (base n at h low high next : ℕ) (f : Found) → AllMayStand e low high → low ≤ at → at + n ≤ high → next ≡ at + n
    → line e.image.code n at h ≡ Some f → f.depth + base ≤ e.part.depth → IsLine e base n at next h f.height (with_leave f.cost)
line_walks e base zero at h low high next f may from to is line_is deep =
    let whole : record { height = h; cost = amount 0 0 0; depth = 0 } ≡ f = cc in
    subst (λ (x : Found). IsLine e base zero at next h x.height (with_leave x.cost)) whole (omega (arith, is), refl)
line_walks e base (suc n) at h low high next f may from to is line_is deep =
    let s = stepped (slice_get e.image.code at) h (line e.image.code n (at + 1)) f line_is in
    let deep' = subst (λ (x : Found). x.depth + base ≤ e.part.depth) s.whole deep in
    subst (λ (x : Found). IsLine e base (suc n) at next h x.height (with_leave x.cost)) (sym s.whole) (record {
      instr = s.instr;
      here = s.is;
      plain = plain_of e s.instr (may at s.instr from (omega (arith, to)) s.is) s.plain;
      kept = h - takes s.instr;
      taken = omega (arith, s.enough);
      room = omega (arith, deep');
      later = with_leave s.later.cost;
      more = line_walks e base n (at + 1) (gives s.instr + (h - takes s.instr)) low high next s.later may (omega (arith, from)) (omega (arith, to)) (omega (arith, is)) s.more (omega (arith, deep'));
      covers = record { run = omega arith; susp = omega arith; waits = omega arith; leave = omega arith };
    })

mutual
  seg_walks : (e : Where) (known : List Known) (out held : Option ℕ) (base : ℕ) (seg : Seg) (at h low high next : ℕ) (f : Found)
      → AllKnown e known → held ≡ e.part.monitor → AllMayStand e low high → low ≤ at → at + size_of seg ≤ high → next ≡ at + size_of seg
      → found e.image.code known out held seg at h ≡ Some f → f.depth + base ≤ e.part.depth → Walk e out held base seg at next h f.height (with_leave f.cost)
  seg_walks e known out held base (Line zero) at h low high next f knows inside may from to is found_is deep = absurd cc
  seg_walks e known out held base (Line (suc n)) at h low high next f knows inside may from to is found_is deep =
      (inside, line_walks e base (suc n) at h low high next f may from to is found_is deep)
  seg_walks e known out held base (Fork first second) at zero low high next f knows inside may from to is found_is deep = absurd cc
  seg_walks e known out held base (Fork first second) at (suc h) low high next f knows inside may from to is found_is deep =
      let tests = is_jump_zero (at + 1 + size first + 1) (slice_get e.image.code at) in
      let jumps = is_jump (at + size first + size second + 2) (slice_get e.image.code (at + 1 + size first)) in
      let one = founds e.image.code known out held first (at + 1) h in
      let other = founds e.image.code known out held second (at + 1 + size first + 1) h in
      let p = passed (tests && jumps) (arms one other) f found_is in
      let t = and_parts tests jumps p.0 in
      let s = forked one other f p.1 in
      let deep' = subst (λ (x : Found). x.depth + base ≤ e.part.depth) s.whole deep in
      let end_is : at + size first + size second + 2 ≡ next = omega (arith, is) in
      subst (λ (x : Found). Walk e out held base (Fork first second) at next (suc h) x.height (with_leave x.cost)) (sym s.whole) (record {
        jump = at + 1 + size first;
        below = h;
        tests = jump_zero_is (at + 1 + size first + 1) (slice_get e.image.code at) t.0;
        taken = refl;
        first_cost = with_leave s.first.cost;
        first_arm = segs_walk e known out held base first (at + 1) h low high (at + 1 + size first) s.first knows inside may (omega (arith, from)) (omega (arith, to)) refl s.is (omega (arith, deep'));
        jumps = subst (λ (n : ℕ). At e (at + 1 + size first) (i.Jump (pos n))) end_is (jump_is (at + size first + size second + 2) (slice_get e.image.code (at + 1 + size first)) t.1);
        second_cost = with_leave s.second.cost;
        second_arm =
            subst (λ (k : ℕ). Walks e out held base second (at + 1 + size first + 1) next h k (with_leave s.second.cost)) s.same
            (segs_walk e known out held base second (at + 1 + size first + 1) h low high next s.second knows inside may (omega (arith, from)) (omega (arith, to)) (omega (arith, is)) s.other (omega (arith, deep')));
        covers_first = record { run = omega arith; susp = omega arith; waits = omega arith; leave = omega arith };
        covers_second = record { run = omega arith; susp = omega arith; waits = omega arith; leave = omega arith };
      })
  seg_walks e known out held base (Rep zero body) at h low high next f knows inside may from to is found_is deep =
      absurd cc
  seg_walks e known out held base (Rep (suc n) body) at h low high next f knows inside may from to is found_is deep =
      let counts = is_repeats (suc n) (slice_get e.image.code at) in
      let repeats = is_repeat (at + 1) (slice_get e.image.code (at + 1 + size body)) in
      let turn = founds e.image.code known (Some (at + 1 + size body + 1)) held body (at + 1) 0 in
      let p = passed (nat_lt 0 (suc n) && (counts && repeats)) (loop (suc n) h turn) f found_is in
      let t = and_parts (nat_lt 0 (suc n)) (counts && repeats) p.0 in
      let u = and_parts counts repeats t.1 in
      let s = looped (suc n) h turn f p.1 in
      let deep' = subst (λ (x : Found). x.depth + base ≤ e.part.depth) s.whole deep in
      subst (λ (x : Found). Walk e out held base (Rep (suc n) body) at next h x.height (with_leave x.cost)) (sym s.whole) (record {
        counts = repeats_is (suc n) (slice_get e.image.code at) u.0;
        last = at + 1 + size body;
        turn = with_leave s.turn.cost;
        loop =
            subst (λ (k : ℕ). Walks e (Some (at + 1 + size body + 1)) held (suc (h + base)) body (at + 1) (at + 1 + size body) 0 k (with_leave s.turn.cost)) s.back
            (segs_walk e known (Some (at + 1 + size body + 1)) held (suc (h + base)) body (at + 1) 0 low high (at + 1 + size body) s.turn knows inside may (omega (arith, from)) (omega (arith, to)) refl s.is (omega (arith, deep')));
        repeats = repeat_is (at + 1) (slice_get e.image.code (at + 1 + size body)) u.1;
        next_is = omega (arith, is);
        kept = refl;
        room = omega (arith, deep');
        covers = record { run = omega arith; susp = omega arith; waits = omega arith; leave = omega arith };
      })
  seg_walks e known out held base (Call r) at h low high next f knows inside may from to is found_is deep =
      let p = passed (is_call r (slice_get e.image.code at)) (call h (slice_get known r)) f found_is in
      let s = called h (slice_get known r) f p.1 in
      let deep' = subst (λ (x : Found). x.depth + base ≤ e.part.depth) s.whole deep in
      let here = call_is r (slice_get e.image.code at) p.0 in
      let k = knows r s.known s.is in
      let m : Callable e r = may at (i.Call (pos r)) from (omega (arith, to)) here r refl in
      subst (λ (x : Found). Walk e out held base (Call r) at next h x.height (with_leave x.cost)) (sym s.whole) (record {
        here = here;
        routine = k.routine;
        there = k.there;
        below = h - s.known.params;
        taken = omega (arith, s.enough, k.params);
        given = omega (arith, k.results);
        locals = k.same_locals ∙ sym k.locals;
        params = k.fits;
        inside = inr inside;
        may = m.may;
        owned = m.owned;
        limit = m.limit;
        stays = m.stays;
        room = omega (arith, deep', k.locals, k.depth);
        room_after = omega (arith, deep');
        next_is = is;
        covers = subst (λ (c : WalkCost). Covers (with_leave (longer 6 s.known.cost)) (6 + c.run) c.susp c.waits (6 + c.leave)) (sym k.cost) (record { run = omega arith; susp = omega arith; waits = omega arith; leave = omega arith });
      })
  seg_walks e known out held base (Stay m body) at h low high next f knows inside may from to is found_is deep = absurd cc
  seg_walks e known out held base Wait at h low high next f knows inside may from to is found_is deep =
      let p = passed (is_reenter held (slice_get e.image.code (at + 1))) (wait h (limit_at (slice_get e.image.code at))) f found_is in
      let s = waited h (slice_get e.image.code at) f p.1 in
      let b = reenter_is held (slice_get e.image.code (at + 1)) p.0 in
      let m : Waitable e (i.Wait s.condition s.limit s.number) = may at (i.Wait s.condition s.limit s.number) from (omega (arith, to)) s.is in
      let same : m.monitor ≡ b.monitor = (let e : Some m.monitor ≡ Some b.monitor = sym m.entry ∙ (sym inside ∙ b.inside) in cc) in
      let limit_is : natural s.limit ≡ m.limit = (let e : s.limit ≡ pos m.limit = (let a = m.is in cc) in ap natural e) in
      subst (λ (x : Found). Walk e out held base Wait at next h x.height (with_leave x.cost)) (sym s.whole) (record {
        monitor = m.monitor;
        entry = m.entry;
        inside = inside ∙ m.entry;
        reach = m.reach;
        condition = m.condition;
        limit = m.limit;
        number = m.number;
        waits = s.is ∙ ap (λ (x : Instr). Some x) m.is;
        of = m.of;
        enters = b.enters ∙ ap (λ (n : ℕ). Some (i.Reenter (pos n))) (sym same);
        next_is = is;
        kept = refl;
        covers = record { run = omega arith; susp = omega (arith, limit_is); waits = omega arith; leave = omega arith };
      })
  seg_walks e known out held base Exit at h low high next f knows inside may from to is found_is deep =
      let p = passed (nat_eq h 1 && is_exit out (slice_get e.image.code at)) (Some (record { height = 0; cost = amount 3 0 0; depth = 0 })) f found_is in
      let t = and_parts (nat_eq h 1) (is_exit out (slice_get e.image.code at)) p.0 in
      let x = exit_is out (slice_get e.image.code at) t.1 in
      let whole : record { height = 0; cost = amount 3 0 0; depth = 0 } ≡ f = (let a = p.1 in cc) in
      subst (λ (x : Found). Walk e out held base Exit at next h x.height (with_leave x.cost)) whole (record {
        to = x.to;
        in_loop = x.in_loop;
        exits = x.exits;
        taken = eqb-true h 1 t.0;
        kept = refl;
        next_is = is;
        covers = record { run = omega arith; susp = omega arith; waits = omega arith; leave = omega arith };
      })

  pub segs_walk : (e : Where) (known : List Known) (out held : Option ℕ) (base : ℕ) (segs : Segs) (at h low high next : ℕ) (f : Found)
      → AllKnown e known → held ≡ e.part.monitor → AllMayStand e low high → low ≤ at → at + size segs ≤ high → next ≡ at + size segs
      → founds e.image.code known out held segs at h ≡ Some f → f.depth + base ≤ e.part.depth → Walks e out held base segs at next h f.height (with_leave f.cost)
  segs_walk e known out held base Nil at h low high next f knows inside may from to is found_is deep =
      let whole : record { height = h; cost = amount 0 0 0; depth = 0 } ≡ f = cc in
      subst (λ (x : Found). Walks e out held base Nil at next h x.height (with_leave x.cost)) whole (omega (arith, is), refl)
  segs_walk e known out held base (Cons head rest) at h low high next f knows inside may from to is found_is deep =
      let s = chained (found e.image.code known out held head at h) (founds e.image.code known out held rest (at + size_of head)) f found_is in
      let deep' = subst (λ (x : Found). x.depth + base ≤ e.part.depth) s.whole deep in
      subst (λ (x : Found). Walks e out held base (Cons head rest) at next h x.height (with_leave x.cost)) (sym s.whole) (record {
        mid = at + size_of head;
        between = s.first.height;
        first = with_leave s.first.cost;
        later = with_leave s.later.cost;
        here = seg_walks e known out held base head at h low high (at + size_of head) s.first knows inside may from (omega (arith, to)) refl s.is (omega (arith, deep'));
        more = segs_walk e known out held base rest (at + size_of head) s.first.height low high next s.later knows inside may (omega (arith, from)) (omega (arith, to)) (omega (arith, is)) s.more (omega (arith, deep'));
        covers = record { run = omega arith; susp = omega arith; waits = omega arith; leave = omega arith };
      })

pub found_walks : FoundWalks
found_walks e known out held base segs at h low high f knows inside may from to found_is deep =
    segs_walk e known out held base segs at h low high (at + size segs) f knows inside may from to refl found_is deep

-- an entry: its tree is one Stay, which the part tells of
pub entry_walks : (e : Where) (known : List Known) (m : ℕ) (tree : Segs) (at low high : ℕ) (f : Found)
    → AllKnown e known → e.part.monitor ≡ Some m → e.part.level ≡ 1 → Reaches e m → AllMayStand e low high → low ≤ at → at + size tree ≤ high
    → entry e.image.code known m tree at ≡ Some f → f.depth ≤ e.part.depth → f.cost.run - 5 ≤ e.part.stays m
    → Walks e None None 0 tree at (at + size tree) 0 f.height (with_leave f.cost)
entry_walks e known m (Cons (Stay n body) Nil) at low high f knows own level reach may from to found_is deep short =
    let enters = is_enter m (slice_get e.image.code at) in
    let leaves = is_leave m (slice_get e.image.code (at + 1 + size body)) in
    let x = founds e.image.code known None (Some m) body (at + 1) 0 in
    let p = passed (nat_eq n m && (enters && leaves)) (chain x (λ h. Some (record { height = h; cost = amount 8 0 0; depth = 0 }))) f found_is in
    let t = and_parts (nat_eq n m) (enters && leaves) p.0 in
    let u = and_parts enters leaves t.1 in
    let s = stayed x f p.1 in
    let deep' = subst (λ (x : Found). x.depth ≤ e.part.depth) s.whole deep in
    let short' = subst (λ (x : Found). x.cost.run - 5 ≤ e.part.stays m) s.whole short in
    let next : ℕ = at + size (Cons (Stay n body) Nil) in
    subst (λ (x : Found). Walks e None None 0 (Cons (Stay n body) Nil) at next 0 x.height (with_leave x.cost)) (sym s.whole)
    (subst (λ (k : ℕ). Walks e None None 0 (Cons (Stay k body) Nil) at next 0 s.inner.height (with_leave (plus s.inner.cost (amount 8 0 0)))) (sym (eqb-true n m t.0)) (record {
      mid = next;
      between = s.inner.height;
      first = with_leave (plus s.inner.cost (amount 8 0 0));
      later = with_leave (amount 0 0 0);
      here = record {
        no_loop = refl;
        outside = refl;
        entry = own;
        level = level;
        reach = reach;
        enters = enter_is m (slice_get e.image.code at) u.0;
        last = at + 1 + size body;
        inner = with_leave s.inner.cost;
        stays = segs_walk e known None (Some m) 0 body (at + 1) 0 low high (at + 1 + size body) s.inner knows (sym own) may (omega (arith, from)) (omega (arith, to)) refl s.is (omega (arith, deep'));
        leaves = leave_is m (slice_get e.image.code (at + 1 + size body)) u.1;
        short = omega (arith, short');
        next_is = omega arith;
        covers = record { run = omega arith; susp = omega arith; waits = omega arith; leave = omega arith };
      };
      more = (refl, refl);
      covers = record { run = omega arith; susp = omega arith; waits = omega arith; leave = omega arith };
    }))
entry_walks e known m _ at low high f knows own level reach may from to found_is deep short = absurd cc
