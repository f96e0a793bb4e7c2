-- Slots before and after the start events.
use Rattle.std.proofs.Common.{◌≡◌, ◌≢◌, ◌≤◌, ◌<◌, ◌+◌, ℕ, Option, Some, None, length, arith, refl, ap, sym, subst, ◌∙◌, true, false, Bool}
use Rattle.std.specs.Prelude.{cond, nat_eq}
use Rattle.std.proofs.lemmas.Bool.Decides.{nat_tests}
use Rattle.std.proofs.lemmas.Option.{slice_get_within}
use Rattle.base.proofs.Lists.{some_at}
use Rattle.machine_semantics.specs.Image.{Process}
use Rattle.machine_semantics.specs.Starts.{is_periodic_due, starts}
use Rattle.vm_stretch.specs.StretchDue.{IsNextRelease}
use Rattle.vm_stretch.proofs.Jumping.{next_is_a_frame_later}
use Rattle.vm_stretch.specs.StartLawsDue.{IsReleaseFrom, moved_on}
use Rattle.vm_stretch.specs.StartLaws.{DueAreReleased, MovedAreSlots, SlotsAreDue}
use Rattle.vm_stretch.proofs.Waiting.{StartsEnd, starts_end}

-- ---- before

release_from : (t v : ℕ) (p : Process) (tick : Option ℕ) → t < v → ((r : ℕ) → tick ≡ Some r → v ≤ r) → IsNextRelease t p tick → IsReleaseFrom v p tick
release_from t v p (Some r) later least next = (next.0, least r refl, λ u low high. next.2 u (omega (arith, later, low)) high)
release_from t v p None later least next = λ u low. next u (omega (arith, later, low))

pub slots_are_due : SlotsAreDue
slots_are_due image script t v done s slots has later none = record {
  count = has.count;
  releases = λ k p tick at slot. release_from t v p tick later (λ r is. none k r (slot ∙ ap (λ (x : Option ℕ). Some x) is)) (has.releases k p tick at slot);
  waits = has.waits;
  line = has.line;
  order = has.order;
  past = λ i l at early. (let le = has.past i l at early in omega (arith, le, later));
  threads = has.threads;
  none_late = none;
}

is_due_now : (t : ℕ) (p : Process) (tick : Option ℕ) → IsReleaseFrom t p tick → (tick ≡ Some t → is_periodic_due t p ≡ true) × (tick ≢ Some t → is_periodic_due t p ≡ false)
is_due_now t p None first = (λ is. absurd cc, λ differ. first t (omega arith))
is_due_now t p (Some r) first = (
  λ is. (let same : r ≡ t = cc in subst (λ (u : ℕ). is_periodic_due u p ≡ true) same first.0),
  λ differ. first.2 t (omega arith) (let apart : r ≢ t = (λ same. differ (ap (λ (x : ℕ). Some x) same)) in let le : t ≤ r = first.1 in grind (arith, apart, le)),
)

pub due_are_released : DueAreReleased
due_are_released image script t done k s slots p tick has at slot = is_due_now t p tick (has.releases k p tick at slot)

-- ---- after

is_periodic : (t : ℕ) (p : Process) → is_periodic_due t p ≡ true → p.kind ≡ 0
is_periodic t p is = grind (arith, nat_tests, is)

pub next_release : (t : ℕ) (p : Process) (tick : Option ℕ) → (p.kind ≡ 0 → 0 < p.frame) → IsReleaseFrom t p tick → IsNextRelease t p (moved_on t (Some (t + p.frame)) tick)
next_release t p None some first = λ u low. first u (omega arith)
next_release t p (Some r) some first = by (nat_eq r t) refl where
  by : (b : Bool) → nat_eq r t ≡ b → IsNextRelease t p (cond b (Some (t + p.frame)) (Some r))
  by true is =
      let same : r ≡ t = grind (arith, nat_tests, is) in
      let due : is_periodic_due t p ≡ true = subst (λ (u : ℕ). is_periodic_due u p ≡ true) same first.0 in
      next_is_a_frame_later t p (some (is_periodic t p due)) due
  by false isnt =
      let apart : r ≢ t = (λ same. absurd (grind (arith, nat_tests, isnt, same))) in
      let le : t ≤ r = first.1 in
      (first.0, grind (arith, apart, le), λ u low high. first.2 u (omega arith) high)

pub moved_are_slots : MovedAreSlots
moved_are_slots image script t done done' s slots slots' frames ranks has moved lines =
    let ends : StartsEnd t image s (starts image script t s).state = starts_end image script t s ranks in
    record {
      count = moved.count ∙ has.count;
      releases = λ k p tick at slot.
          let old = some_at slots k (let within = slice_get_within image.processes k p at in omega (arith, has.count)) in
          let is : tick ≡ moved_on t (Some (t + p.frame)) old.0 = (let new = moved.releases k p old.0 at old.1 in let both : Some tick ≡ Some (moved_on t (Some (t + p.frame)) old.0) = sym slot ∙ new in cc) in
          subst (λ (x : Option ℕ). IsNextRelease t p x) (sym is) (next_release t p old.0 (frames k p at) (has.releases k p old.0 at old.1));
      waits = λ k tick below slot.
          let old = some_at slots (length image.processes + k) (omega (arith, has.count, below)) in
          let process = some_at image.processes k below in
          let both : Some tick ≡ Some (moved_on t None old.0) = sym slot ∙ moved.waits k old.0 below old.1 in
          let is : tick ≡ moved_on t None old.0 = cc in
          is ∙ ap (λ (x : Option ℕ). moved_on t None x) (has.waits k old.0 below old.1) ∙ sym (ends.waits k process.0 process.1);
      line = moved.line;
      order = has.order;
      past = lines.past;
      threads = λ k x at.
          let within : k < length s.threads = (let new = slice_get_within (starts image script t s).state.threads k x at in omega (arith, new, ends.count)) in
          let old = some_at s.threads k within in
          has.threads k old.0 old.1;
    }
