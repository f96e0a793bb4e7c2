-- Code without a WAIT instruction has trees without waits.
use Rattle.std.proofs.Common.{◌≡◌, ◌<◌, ◌+◌, ◌∙◌, inl, inr, ℕ, zero, suc, List, [], Option, Some, None, refl, sym, ap, subst, arith}
use Rattle.std.specs.Prelude.{◌&&◌, nat_eq, nat_lt, slice_get, take}
use Rattle.std.proofs.lemmas.Bool.{cases_lt}
use Rattle.std.proofs.lemmas.Option.{slice_get_within}
use Rattle.base.proofs.Lists.{some_at, take_get, take_past}
use Rattle.machine_isa.specs.declared.instr.Instr.{Instr}
use Rattle.machine_isa.specs.declared.instr.Instr.TheVariants as i
use Rattle.machine_semantics.specs.Image.{Image, Process, Routine}
use Rattle.machine_semantics.specs.Trees.{Seg, Segs, Line, Fork, Rep, Call, Stay, Wait, Exit, Nil, Cons, size, size_of}
use Rattle.valid_image_law.proofs.Tests.{Forked, passed, chained, stepped, forked, looped, called, stayed, waited}
use Rattle.valid_image.specs.Found.{Known, Found, amount, arms, call, ended, entry, found, founds, is_call, is_end, is_enter, is_exit, is_jump, is_jump_zero, is_leave, is_reenter, is_repeat, is_repeats, is_return, limit_at, line, longer, loop, tree_found, wait}
use Rattle.valid_image.specs.Shape.{shape_fault}
use Rattle.valid_image.specs.Sizes.{cost_fault}
use Rattle.valid_image.specs.Tables.{count, found_or_nothing, monitor_of, part_found, routine_found}
use Rattle.valid_image_law.proofs.Exact.{ended_is, part_same}
use Rattle.valid_image_law.proofs.Firsts.{table_length}
use Rattle.valid_image_law.proofs.Rows.{alike, exact, exact_of, exact_routine}
use Rattle.valid_image_law.proofs.Shapes.{process_shaped}
use Rattle.valid_image_law.proofs.Processes.{exact_body}
use Rattle.edf_admission.specs.Admitted.{HasNoWait}
use Rattle.valid_image_law.proofs.Quiet.{times_none}

abbrev IsStill : Found → Type 0
IsStill f = f.cost.waits ≡ 0

-- the routines that may be called have no waits
abbrev AreStill : List Known → Type 0
AreStill ks = (r : ℕ) (k : Known) → slice_get ks r ≡ Some k → k.cost.waits ≡ 0

of_whole : (f g : Found) → f ≡ g → IsStill g → IsStill f
of_whole f g is still = ap (λ (x : Found). x.cost.waits) is ∙ still

of_arms : (one two : Option Found) (f : Found) (s : Forked one two f) → IsStill s.first → IsStill s.second → IsStill f
of_arms one two f s a b = of_whole f _ s.whole (omega (arith, a, b))

line_still : (code : List Instr) (n at h : ℕ) (f : Found) → line code n at h ≡ Some f → IsStill f
line_still code zero at h f is = let whole : record { height = h; cost = amount 0 0 0; depth = 0 } ≡ f = cc in subst IsStill whole refl
line_still code (suc n) at h f is =
    let s = stepped (slice_get code at) h (line code n (at + 1)) f is in
    let rest : IsStill s.later = line_still code n (at + 1) _ s.later s.more in
    of_whole f _ s.whole (omega (arith, rest))

module _ (m : Image) (waitless : HasNoWait m) where
  mutual
    seg_still : (ks : List Known) → AreStill ks → (out held : Option ℕ) (seg : Seg) (at h : ℕ) (f : Found) → found m.code ks out held seg at h ≡ Some f → IsStill f
    seg_still ks still out held (Line zero) at h f is = absurd cc
    seg_still ks still out held (Line (suc n)) at h f is = line_still m.code (suc n) at h f is
    seg_still ks still out held (Fork first second) at zero f is = absurd cc
    seg_still ks still out held (Fork first second) at (suc h) f is =
        let one = founds m.code ks out held first (at + 1) h in
        let two = founds m.code ks out held second (at + 1 + size first + 1) h in
        let p = passed (is_jump_zero (at + 1 + size first + 1) (slice_get m.code at) && is_jump (at + size first + size second + 2) (slice_get m.code (at + 1 + size first))) (arms one two) f is in
        let s = forked one two f p.1 in
        let a = segs_still ks still out held first (at + 1) h s.first s.is in
        let b = segs_still ks still out held second (at + 1 + size first + 1) h s.second s.other in
        of_arms one two f s a b
    seg_still ks still out held (Rep n body) at h f is =
        let turn = founds m.code ks (Some (at + 1 + size body + 1)) held body (at + 1) 0 in
        let p = passed (nat_lt 0 n && (is_repeats n (slice_get m.code at) && is_repeat (at + 1) (slice_get m.code (at + 1 + size body)))) (loop n h turn) f is in
        let s = looped n h turn f p.1 in
        of_whole f _ s.whole (times_none n s.turn.cost.waits (segs_still ks still (Some (at + 1 + size body + 1)) held body (at + 1) 0 s.turn s.is))
    seg_still ks still out held (Call r) at h f is =
        let p = passed (is_call r (slice_get m.code at)) (call h (slice_get ks r)) f is in
        let s = called h (slice_get ks r) f p.1 in
        of_whole f _ s.whole (still r s.known s.is)
    seg_still ks still out held (Stay n body) at h f is = absurd cc
    seg_still ks still out held Wait at h f is =
        let p = passed (is_reenter held (slice_get m.code (at + 1))) (wait h (limit_at (slice_get m.code at))) f is in
        let w = waited h (slice_get m.code at) f p.1 in
        absurd (waitless at (record { instr = i.Wait w.condition w.limit w.number; here = w.is; waits = refl }))
    seg_still ks still out held Exit at h f is =
        let p = passed (nat_eq h 1 && is_exit out (slice_get m.code at)) (Some (record { height = 0; cost = amount 3 0 0; depth = 0 })) f is in
        let whole : record { height = 0; cost = amount 3 0 0; depth = 0 } ≡ f = (let a = p.1 in cc) in
        subst IsStill whole refl

    segs_still : (ks : List Known) → AreStill ks → (out held : Option ℕ) (segs : Segs) (at h : ℕ) (f : Found) → founds m.code ks out held segs at h ≡ Some f → IsStill f
    segs_still ks still out held Nil at h f is = let whole : record { height = h; cost = amount 0 0 0; depth = 0 } ≡ f = cc in subst IsStill whole refl
    segs_still ks still out held (Cons head rest) at h f is =
        let s = chained (found m.code ks out held head at h) (founds m.code ks out held rest (at + size_of head)) f is in
        let a = seg_still ks still out held head at h s.first s.is in
        let b = segs_still ks still out held rest (at + size_of head) s.first.height s.later s.more in
        of_whole f _ s.whole (omega (arith, a, b))

  entry_still : (ks : List Known) → AreStill ks → (n : ℕ) (tree : Segs) (at : ℕ) (f : Found) → entry m.code ks n tree at ≡ Some f → IsStill f
  entry_still ks still n (Cons (Stay k body) Nil) at f is =
      let p = passed (nat_eq k n && (is_enter n (slice_get m.code at) && is_leave n (slice_get m.code (at + 1 + size body)))) _ f is in
      let s = stayed (founds m.code ks None (Some n) body (at + 1) 0) f p.1 in
      let a = segs_still ks still None (Some n) body (at + 1) 0 s.inner s.is in
      of_whole f _ s.whole (omega (arith, a))
  entry_still ks still n _ at f is = absurd cc

  tree_still : (ks : List Known) → AreStill ks → (n : Option ℕ) (tree : Segs) (at : ℕ) (f : Found) → tree_found m.code ks n tree at ≡ Some f → IsStill f
  tree_still ks still (Some n) tree at f is = entry_still ks still n tree at f is
  tree_still ks still None tree at f is = segs_still ks still None None tree at 0 f is

  routine_still : (ks : List Known) → AreStill ks → (r : Routine) (f : Found) → routine_found m.code ks r ≡ Some f → IsStill f
  routine_still ks still r f is =
      let p = passed (is_return r.gives (slice_get m.code (r.start + size r.tree))) (ended (count r.gives) (tree_found m.code ks (monitor_of r) r.tree r.start)) f is in
      let e = ended_is (count r.gives) (tree_found m.code ks (monitor_of r) r.tree r.start) f p.1 in
      tree_still ks still (monitor_of r) r.tree r.start f e.0

  part_still : (ks : List Known) → AreStill ks → (tree : Segs) (at : ℕ) (f : Found) → part_found m.code ks tree at ≡ Some f → IsStill f
  part_still ks still tree at f is =
      let p = passed (is_end (slice_get m.code (at + size tree))) (ended 0 (founds m.code ks None None tree at 0)) f is in
      let e = ended_is 0 (founds m.code ks None None tree at 0) f p.1 in
      segs_still ks still None None tree at 0 f e.0

  -- ---- the routines of the image

  module _ (shaped : shape_fault m ≡ None) (costs : cost_fault m ≡ None) where
    before : (r : ℕ) → ((q : ℕ) (k : Known) → q < r → slice_get (exact m) q ≡ Some k → k.cost.waits ≡ 0) → AreStill (take r (exact m))
    before r still q k at = elim (cases_lt q r) [
      | inl low ↦ still q k low (sym (take_get r q (exact m) low) ∙ at)
      | inr high ↦ absurd (let e : None ≡ Some k = sym (take_past r q (exact m) high) ∙ at in cc)
    ]

    still_below : (n r : ℕ) (k : Known) → r < n → slice_get (exact m) r ≡ Some k → k.cost.waits ≡ 0
    still_below zero r k low at = absurd (omega (arith, low))
    still_below (suc n) r k low at =
        let x = some_at m.routines r (omega (arith, slice_get_within (exact m) r k at, table_length (exact_of m.code) [] m.routines)) in
        let e = exact_routine m shaped costs r x.0 x.1 in
        let q = routine_still (take r (exact m)) (before r (λ q y less there. still_below n q y (omega (arith, less, low)) there)) x.0 e.s.g e.s.is in
        let same : record { params = x.0.params; results = count x.0.gives; locals = x.0.locals; depth = e.s.g.depth; cost = longer 4 e.s.g.cost } ≡ k = (let a = sym e.row ∙ at in cc) in
        subst (λ (y : Known). y.cost.waits ≡ 0) same q

    routines_still : AreStill (exact m)
    routines_still r k at = still_below (suc r) r k (omega arith) at

    -- a body has no waits
    pub body_still : (k : ℕ) (p : Process) → slice_get m.processes k ≡ Some p → (exact_body m p).cost.waits ≡ 0
    body_still k p at =
        let s = process_shaped m shaped k p at in
        let e = part_same m.code _ (exact m) (alike m shaped costs) p.body p.start s.f s.body in
        let is : exact_body m p ≡ e.g = ap (λ o. found_or_nothing o) e.is in
        of_whole (exact_body m p) e.g is (part_still (exact m) routines_still p.body p.start e.g e.is)
