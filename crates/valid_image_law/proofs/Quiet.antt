-- A tree that reaches no WAIT has no suspension and no waits.
use Rattle.std.proofs.Common.{◌≡◌, ◌+◌, ◌*◌, ℕ, zero, suc, List, Option, Some, None, arith, refl, ap, sym, subst, ◌∙◌, false}
use Rattle.std.specs.Prelude.{◌&&◌, nat_eq, nat_lt, slice_get}
use Rattle.std.proofs.lemmas.Bool.{or_parts}
use Rattle.machine_isa.specs.declared.instr.Instr.{Instr}
use Rattle.machine_semantics.specs.Trees.{Seg, Segs, Line, Fork, Rep, Call, Stay, Wait, Exit, Nil, Cons, size, size_of}
use Rattle.machine_semantics.specs.Image.{Routine}
use Rattle.valid_image.specs.Found.{Known, Found, amount, is_jump_zero, is_jump, is_repeats, is_repeat, is_call, is_enter, is_leave, is_exit, is_return, is_end, arms, loop, call, line, found, founds, entry, ended, tree_found}
use Rattle.valid_image.specs.Tables.{Reach, waits_at, seg_waits, tree_waits, count, monitor_of, routine_found, part_found}
use Rattle.valid_image_law.proofs.Tests.{passed, chained, stepped, forked, looped, called, stayed}
use Rattle.valid_image_law.proofs.Exact.{ended_is}

abbrev pub IsQuiet : Found → Type 0
IsQuiet f = (f.cost.susp ≡ 0) × (f.cost.waits ≡ 0)

-- the rows of routines that reach no WAIT have none
abbrev pub AreQuiet : List Reach → List Known → Type 0
AreQuiet rows ys = (r : ℕ) (k : Known) → slice_get ys r ≡ Some k → waits_at rows r ≡ false → (k.cost.susp ≡ 0) × (k.cost.waits ≡ 0)

of_whole : (f g : Found) → f ≡ g → IsQuiet g → IsQuiet f
of_whole f g is quiet = subst IsQuiet (sym is) quiet

line_quiet : (code : List Instr) (n at h : ℕ) (f : Found) → line code n at h ≡ Some f → IsQuiet f
line_quiet code zero at h f is = let whole : record { height = h; cost = amount 0 0 0; depth = 0 } ≡ f = cc in subst IsQuiet whole (refl, refl)
line_quiet code (suc n) at h f is =
    let s = stepped (slice_get code at) h (line code n (at + 1)) f is in
    let rest : IsQuiet s.later = line_quiet code n (at + 1) _ s.later s.more in
    of_whole f _ s.whole (omega (arith, rest.0), omega (arith, rest.1))

pub times_none : (n a : ℕ) → a ≡ 0 → n * a ≡ 0
times_none n a is = ap (λ k. n * k) is ∙ omega arith

mutual
  seg_quiet : (code : List Instr) (rows : List Reach) (ys : List Known) → AreQuiet rows ys → (out held : Option ℕ) (seg : Seg) (at h : ℕ) (f : Found) → seg_waits rows seg ≡ false → found code ys out held seg at h ≡ Some f → IsQuiet f
  seg_quiet code rows ys quiet out held (Line zero) at h f none is = absurd cc
  seg_quiet code rows ys quiet out held (Line (suc n)) at h f none is = line_quiet code (suc n) at h f is
  seg_quiet code rows ys quiet out held (Fork first second) at zero f none is = absurd cc
  seg_quiet code rows ys quiet out held (Fork first second) at (suc h) f none is =
      let e = or_parts (tree_waits rows first) (tree_waits rows second) none in
      let one = founds code ys out held first (at + 1) h in
      let two = founds code ys out held second (at + 1 + size first + 1) h in
      let p = passed (is_jump_zero (at + 1 + size first + 1) (slice_get code at) && is_jump (at + size first + size second + 2) (slice_get code (at + 1 + size first))) (arms one two) f is in
      let s = forked one two f p.1 in
      let a = segs_quiet code rows ys quiet out held first (at + 1) h s.first e.0 s.is in
      let b = segs_quiet code rows ys quiet out held second (at + 1 + size first + 1) h s.second e.1 s.other in
      of_whole f _ s.whole (omega (arith, a.0, b.0), omega (arith, a.1, b.1))
  seg_quiet code rows ys quiet out held (Rep n body) at h f none is =
      let turn = founds code ys (Some (at + 1 + size body + 1)) held body (at + 1) 0 in
      let p = passed (nat_lt 0 n && (is_repeats n (slice_get code at) && is_repeat (at + 1) (slice_get code (at + 1 + size body)))) (loop n h turn) f is in
      let s = looped n h turn f p.1 in
      let a = segs_quiet code rows ys quiet (Some (at + 1 + size body + 1)) held body (at + 1) 0 s.turn none s.is in
      of_whole f _ s.whole (times_none n s.turn.cost.susp a.0, times_none n s.turn.cost.waits a.1)
  seg_quiet code rows ys quiet out held (Call r) at h f none is =
      let p = passed (is_call r (slice_get code at)) (call h (slice_get ys r)) f is in
      let s = called h (slice_get ys r) f p.1 in
      of_whole f _ s.whole (quiet r s.known s.is none)
  seg_quiet code rows ys quiet out held (Stay m body) at h f none is = absurd cc
  seg_quiet code rows ys quiet out held Wait at h f none is = absurd cc
  seg_quiet code rows ys quiet out held Exit at h f none is =
      let p = passed (nat_eq h 1 && is_exit out (slice_get code at)) (Some (record { height = 0; cost = amount 3 0 0; depth = 0 })) f is in
      let whole : record { height = 0; cost = amount 3 0 0; depth = 0 } ≡ f = (let a = p.1 in cc) in
      subst IsQuiet whole (refl, refl)

  pub segs_quiet : (code : List Instr) (rows : List Reach) (ys : List Known) → AreQuiet rows ys → (out held : Option ℕ) (segs : Segs) (at h : ℕ) (f : Found) → tree_waits rows segs ≡ false → founds code ys out held segs at h ≡ Some f → IsQuiet f
  segs_quiet code rows ys quiet out held Nil at h f none is = let whole : record { height = h; cost = amount 0 0 0; depth = 0 } ≡ f = cc in subst IsQuiet whole (refl, refl)
  segs_quiet code rows ys quiet out held (Cons head rest) at h f none is =
      let e = or_parts (seg_waits rows head) (tree_waits rows rest) none in
      let s = chained (found code ys out held head at h) (founds code ys out held rest (at + size_of head)) f is in
      let a = seg_quiet code rows ys quiet out held head at h s.first e.0 s.is in
      let b = segs_quiet code rows ys quiet out held rest (at + size_of head) s.first.height s.later e.1 s.more in
      of_whole f _ s.whole (omega (arith, a.0, b.0), omega (arith, a.1, b.1))

entry_quiet : (code : List Instr) (rows : List Reach) (ys : List Known) → AreQuiet rows ys → (m : ℕ) (tree : Segs) (at : ℕ) (f : Found) → tree_waits rows tree ≡ false → entry code ys m tree at ≡ Some f → IsQuiet f
entry_quiet code rows ys quiet m (Cons (Stay n body) Nil) at f none is =
    let e = or_parts (tree_waits rows body) false none in
    let p = passed (nat_eq n m && (is_enter m (slice_get code at) && is_leave m (slice_get code (at + 1 + size body)))) _ f is in
    let s = stayed (founds code ys None (Some m) body (at + 1) 0) f p.1 in
    let a = segs_quiet code rows ys quiet None (Some m) body (at + 1) 0 s.inner e.0 s.is in
    of_whole f _ s.whole (omega (arith, a.0), omega (arith, a.1))
entry_quiet code rows ys quiet m _ at f none is = absurd cc

tree_quiet : (code : List Instr) (rows : List Reach) (ys : List Known) → AreQuiet rows ys → (m : Option ℕ) (tree : Segs) (at : ℕ) (f : Found) → tree_waits rows tree ≡ false → tree_found code ys m tree at ≡ Some f → IsQuiet f
tree_quiet code rows ys quiet (Some m) tree at f none is = entry_quiet code rows ys quiet m tree at f none is
tree_quiet code rows ys quiet None tree at f none is = segs_quiet code rows ys quiet None None tree at 0 f none is

pub routine_quiet : (code : List Instr) (rows : List Reach) (ys : List Known) → AreQuiet rows ys → (r : Routine) (f : Found) → tree_waits rows r.tree ≡ false → routine_found code ys r ≡ Some f → IsQuiet f
routine_quiet code rows ys quiet r f none is =
    let p = passed (is_return r.gives (slice_get code (r.start + size r.tree))) (ended (count r.gives) (tree_found code ys (monitor_of r) r.tree r.start)) f is in
    let e = ended_is (count r.gives) (tree_found code ys (monitor_of r) r.tree r.start) f p.1 in
    tree_quiet code rows ys quiet (monitor_of r) r.tree r.start f none e.0

pub part_quiet : (code : List Instr) (rows : List Reach) (ys : List Known) → AreQuiet rows ys → (tree : Segs) (at : ℕ) (f : Found) → tree_waits rows tree ≡ false → part_found code ys tree at ≡ Some f → IsQuiet f
part_quiet code rows ys quiet tree at f none is =
    let p = passed (is_end (slice_get code (at + size tree))) (ended 0 (founds code ys None None tree at 0)) f is in
    let e = ended_is 0 (founds code ys None None tree at 0) f p.1 in
    segs_quiet code rows ys quiet None None tree at 0 f none e.0
