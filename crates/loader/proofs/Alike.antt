-- What code comes to, held, is the same over rows that are held alike.
use Rattle.std.proofs.Common.{◌≡◌, ◌+◌, ◌-◌, cond, take, ℕ, zero, suc, Bool, true, false, List, Option, Some, None, arith, refl, ap, sym, ◌∙◌}
use Rattle.std.specs.Prelude.{◌&&◌, nat_eq, nat_lt, slice_get}
use Rattle.machine_isa.specs.declared.instr.Instr.{Instr}
use Rattle.machine_semantics.specs.Trees.{Seg, Segs, Line, Fork, Rep, Call, Stay, Wait, Exit, Nil, Cons, size, size_of}
use Rattle.machine_semantics.specs.Image.{Image, Routine}
use Rattle.valid_image.specs.Found.{Known, Found, amount, is_jump_zero, is_jump, is_repeats, is_repeat, is_call, is_enter, is_leave, is_return, is_end, guard, joined, chain, arms, loop, call, found, founds, entry, ended, tree_found}
use Rattle.valid_image.specs.Tables.{count, found_or_nothing, known, monitor_of, routine_found, part_found}
use Rattle.base.specs.Capped.{cap}
use Rattle.valid_image.specs.Sizes.{needed_stay}
use Rattle.loader_code.specs.Steps.{stays_in}
use Rattle.loader_code.specs.Whole.{stay_in}
use Rattle.valid_image_law.specs.Held.{held, hold}
use Rattle.valid_image_law.proofs.Holding.{holding_changes_nothing, hold_guard}
use Rattle.loader.specs.Found.{AreAlike}

next_alike : (x : Option Found) (f g : ℕ → Option Found) → ((h : ℕ) → hold (f h) ≡ hold (g h)) → chain x (λ h. hold (f h)) ≡ chain x (λ h. hold (g h))
next_alike None f g same = refl
next_alike (Some a) f g same = ap (λ y. joined a y) (same a.height)

chain_alike : (x y : Option Found) (f g : ℕ → Option Found) → hold x ≡ hold y → ((h : ℕ) → hold (f h) ≡ hold (g h)) → hold (chain x f) ≡ hold (chain y g)
chain_alike x y f g is same =
    holding_changes_nothing.in_chain x f ∙ ap (λ o. hold (chain o (λ h. hold (f h)))) is ∙ ap hold (next_alike (hold y) f g same) ∙ sym (holding_changes_nothing.in_chain y g)

arms_alike : (a b x y : Option Found) → hold a ≡ hold x → hold b ≡ hold y → hold (arms a b) ≡ hold (arms x y)
arms_alike a b x y first second =
    holding_changes_nothing.in_arms a b ∙ ap (λ o. hold (arms o (hold b))) first ∙ ap (λ o. hold (arms (hold x) o)) second ∙ sym (holding_changes_nothing.in_arms x y)

mutual
  seg_alike : (code : List Instr) (ks ls : List Known) (out held : Option ℕ) (seg : Seg) (at h : ℕ) → AreAlike ks ls → hold (found code ks out held seg at h) ≡ hold (found code ls out held seg at h)
  seg_alike code ks ls out held (Line zero) at h same = refl
  seg_alike code ks ls out held (Line (suc n)) at h same = refl
  seg_alike code ks ls out held (Fork first second) at zero same = refl
  seg_alike code ks ls out held (Fork first second) at (suc h) same =
      hold_guard (is_jump_zero (at + 1 + size first + 1) (slice_get code at) && is_jump (at + size first + size second + 2) (slice_get code (at + 1 + size first)))
      (arms (founds code ks out held first (at + 1) h) (founds code ks out held second (at + 1 + size first + 1) h))
      (arms (founds code ls out held first (at + 1) h) (founds code ls out held second (at + 1 + size first + 1) h))
      (arms_alike (founds code ks out held first (at + 1) h) (founds code ks out held second (at + 1 + size first + 1) h) (founds code ls out held first (at + 1) h) (founds code ls out held second (at + 1 + size first + 1) h)
      (segs_alike code ks ls out held first (at + 1) h same) (segs_alike code ks ls out held second (at + 1 + size first + 1) h same))
  seg_alike code ks ls out held (Rep zero body) at h same = refl
  seg_alike code ks ls out held (Rep (suc n) body) at h same =
      let x = founds code ks (Some (at + 1 + size body + 1)) held body (at + 1) 0 in
      let y = founds code ls (Some (at + 1 + size body + 1)) held body (at + 1) 0 in
      hold_guard (nat_lt 0 (suc n) && (is_repeats (suc n) (slice_get code at) && is_repeat (at + 1) (slice_get code (at + 1 + size body)))) (loop (suc n) h x) (loop (suc n) h y)
      (holding_changes_nothing.in_loop (suc n) h x (omega arith) ∙ ap (λ o. hold (loop (suc n) h o)) (segs_alike code ks ls (Some (at + 1 + size body + 1)) held body (at + 1) 0 same)
      ∙ sym (holding_changes_nothing.in_loop (suc n) h y (omega arith)))
  seg_alike code ks ls out held (Call r) at h same =
      hold_guard (is_call r (slice_get code at)) (call h (slice_get ks r)) (call h (slice_get ls r))
      (holding_changes_nothing.in_call h (slice_get ks r) ∙ ap (λ o. hold (call h o)) (same r) ∙ sym (holding_changes_nothing.in_call h (slice_get ls r)))
  seg_alike code ks ls out held (Stay m body) at h same = refl
  seg_alike code ks ls out held Wait at h same = refl
  seg_alike code ks ls out held Exit at h same = refl

  segs_alike : (code : List Instr) (ks ls : List Known) (out held : Option ℕ) (segs : Segs) (at h : ℕ) → AreAlike ks ls → hold (founds code ks out held segs at h) ≡ hold (founds code ls out held segs at h)
  segs_alike code ks ls out held Nil at h same = refl
  segs_alike code ks ls out held (Cons head rest) at h same =
      chain_alike (found code ks out held head at h) (found code ls out held head at h) (founds code ks out held rest (at + size_of head)) (founds code ls out held rest (at + size_of head))
      (seg_alike code ks ls out held head at h same) (λ k. segs_alike code ks ls out held rest (at + size_of head) k same)

entry_alike : (code : List Instr) (ks ls : List Known) (m : ℕ) (tree : Segs) (at : ℕ) → AreAlike ks ls → hold (entry code ks m tree at) ≡ hold (entry code ls m tree at)
entry_alike code ks ls m (Cons (Stay n body) Nil) at same =
    let last : ℕ → Option Found = λ h. Some (record { height = h; cost = amount 8 0 0; depth = 0 }) in
    hold_guard (nat_eq n m && (is_enter m (slice_get code at) && is_leave m (slice_get code (at + 1 + size body))))
    (chain (founds code ks None (Some m) body (at + 1) 0) last) (chain (founds code ls None (Some m) body (at + 1) 0) last)
    (chain_alike (founds code ks None (Some m) body (at + 1) 0) (founds code ls None (Some m) body (at + 1) 0) last last (segs_alike code ks ls None (Some m) body (at + 1) 0 same) (λ h. refl))
entry_alike code ks ls m _ at same = refl

tree_alike : (code : List Instr) (ks ls : List Known) (monitor : Option ℕ) (tree : Segs) (at : ℕ) → AreAlike ks ls → hold (tree_found code ks monitor tree at) ≡ hold (tree_found code ls monitor tree at)
tree_alike code ks ls None tree at same = segs_alike code ks ls None None tree at 0 same
tree_alike code ks ls (Some m) tree at same = entry_alike code ks ls m tree at same

ended_alike : (n : ℕ) (x y : Option Found) → hold x ≡ hold y → hold (ended n x) ≡ hold (ended n y)
ended_alike n x y same = holding_changes_nothing.at_end n x ∙ ap (λ o. ended n o) same ∙ sym (holding_changes_nothing.at_end n y)

pub routine_alike : (code : List Instr) (ks ls : List Known) (r : Routine) → AreAlike ks ls → hold (routine_found code ks r) ≡ hold (routine_found code ls r)
routine_alike code ks ls r same =
    hold_guard (is_return r.gives (slice_get code (r.start + size r.tree))) (ended (count r.gives) (tree_found code ks (monitor_of r) r.tree r.start)) (ended (count r.gives) (tree_found code ls (monitor_of r) r.tree r.start))
    (ended_alike (count r.gives) (tree_found code ks (monitor_of r) r.tree r.start) (tree_found code ls (monitor_of r) r.tree r.start) (tree_alike code ks ls (monitor_of r) r.tree r.start same))

pub part_alike : (code : List Instr) (ks ls : List Known) (tree : Segs) (at : ℕ) → AreAlike ks ls → hold (part_found code ks tree at) ≡ hold (part_found code ls tree at)
part_alike code ks ls tree at same =
    hold_guard (is_end (slice_get code (at + size tree))) (ended 0 (founds code ks None None tree at 0)) (ended 0 (founds code ls None None tree at 0))
    (ended_alike 0 (founds code ks None None tree at 0) (founds code ls None None tree at 0) (segs_alike code ks ls None None tree at 0 same))

-- ---- how long an entry stays

stays_alike : (b : Bool) (x y : Option Found) → hold x ≡ hold y → cap ((found_or_nothing (guard b (stays_in x))).cost.run - 5) ≡ cap ((found_or_nothing (guard b (stays_in y))).cost.run - 5)
stays_alike false x y same = refl
stays_alike true None None same = refl
stays_alike true None (Some g) same = absurd cc
stays_alike true (Some f) None same = absurd cc
stays_alike true (Some f) (Some g) same =
    let whole : held f ≡ held g = cc in
    let run : cap f.cost.run ≡ cap g.cost.run = ap (λ k. k.cost.run) whole in
    omega (arith, run)

entry_stays : (code : List Instr) (ks ls : List Known) (m : ℕ) (tree : Segs) (at : ℕ) → AreAlike ks ls
    → cap ((found_or_nothing (entry code ks m tree at)).cost.run - 5) ≡ cap ((found_or_nothing (entry code ls m tree at)).cost.run - 5)
entry_stays code ks ls m (Cons (Stay n body) Nil) at same =
    stays_alike (nat_eq n m && (is_enter m (slice_get code at) && is_leave m (slice_get code (at + 1 + size body)))) (founds code ks None (Some m) body (at + 1) 0) (founds code ls None (Some m) body (at + 1) 0) (segs_alike code ks ls None (Some m) body (at + 1) 0 same)
entry_stays code ks ls m _ at same = refl

tree_stays : (code : List Instr) (ks ls : List Known) (monitor : Option ℕ) (tree : Segs) (at : ℕ) → AreAlike ks ls
    → cap (stay_in monitor (tree_found code ks monitor tree at)) ≡ cap (stay_in monitor (tree_found code ls monitor tree at))
tree_stays code ks ls None tree at same = refl
tree_stays code ks ls (Some m) tree at same = entry_stays code ks ls m tree at same

two_ends : (t : Bool) (m : Option ℕ) (f g : Found) → cap (stay_in m (Some f)) ≡ cap (stay_in m (Some g)) → cap (stay_in m (guard t (Some f))) ≡ cap (stay_in m (guard t (Some g)))
two_ends true m f g same = same
two_ends false None f g same = refl
two_ends false (Some k) f g same = refl

ended_stays : (b : Bool) (n : ℕ) (m : Option ℕ) (x y : Option Found) → hold x ≡ hold y → cap (stay_in m x) ≡ cap (stay_in m y)
    → cap (stay_in m (guard b (ended n x))) ≡ cap (stay_in m (guard b (ended n y)))
ended_stays false n None x y held_same same = refl
ended_stays false n (Some k) x y held_same same = refl
ended_stays true n m None None held_same same = refl
ended_stays true n m None (Some g) held_same same = absurd cc
ended_stays true n m (Some f) None held_same same = absurd cc
ended_stays true n m (Some f) (Some g) held_same same =
    let whole : held f ≡ held g = cc in
    let height : f.height ≡ g.height = ap (λ k. k.height) whole in
    two_ends (nat_eq f.height n) m f g same ∙ ap (λ h. cap (stay_in m (guard (nat_eq h n) (Some g)))) height

pub routine_stays : (code : List Instr) (ks ls : List Known) (r : Routine) → AreAlike ks ls → cap (stay_in (monitor_of r) (routine_found code ks r)) ≡ cap (stay_in (monitor_of r) (routine_found code ls r))
routine_stays code ks ls r same =
    ended_stays (is_return r.gives (slice_get code (r.start + size r.tree))) (count r.gives) (monitor_of r) (tree_found code ks (monitor_of r) r.tree r.start) (tree_found code ls (monitor_of r) r.tree r.start)
    (tree_alike code ks ls (monitor_of r) r.tree r.start same) (tree_stays code ks ls (monitor_of r) r.tree r.start same)

owned : (b : Bool) (owner : ℕ) (y : Option Found) → stay_in (cond b (Some owner) None) y ≡ cond b ((found_or_nothing y).cost.run - 5) 0
owned true owner y = refl
owned false owner y = refl

-- the stay that a routine needs
pub needed : (image : Image) (ks : List Known) (r : ℕ) (x : Routine) → AreAlike ks (take r (known image)) → cap (stay_in (monitor_of x) (routine_found image.code ks x)) ≡ cap (needed_stay image r x)
needed image ks r x same =
    routine_stays image.code ks (take r (known image)) x same ∙ ap cap (owned (nat_eq x.kind 2) x.owner (routine_found image.code (take r (known image)) x))
