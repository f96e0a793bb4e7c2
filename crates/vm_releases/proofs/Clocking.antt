-- What the clock brings, process by process.
use Rattle.std.proofs.Common.{◌≡◌, ◌≢◌, ◌+◌, ℕ, List, Option, Some, None, drop, arith, refl, ap, sym, subst, ◌∙◌, true, false, Bool, inl, inr}
use Rattle.std.specs.Prelude.{slice_get, slice_set, cond, nat_eq, nat_le, ◌&&◌, ◌-◌, ◌%◌}
use Rattle.std.proofs.lemmas.List.{length-set}
use Rattle.std.proofs.lemmas.Bool.Decides.{nat_tests}
use Rattle.base.proofs.Lists.{get_other, get_set, drop_at}
use Rattle.base.specs.declared.event.Event.{Event}
use Rattle.machine_semantics.specs.Image.{Image, Process}
use Rattle.machine_semantics.specs.State.{State}
use Rattle.machine_semantics.specs.Starts.{Started, followed, is_periodic_due, periodic, release as released_at, unchanged}
use Rattle.vm_stretch.specs.StartLawsDue.{moved_on}
use Rattle.vm_stretch.specs.Steps.{AreLeft, release_of}
use Rattle.vm_stretch.proofs.Leading.{left_same}
use Rattle.vm_stretch.proofs.Lists.{same_or_not}
use Rattle.vm_state.specs.declared.decoded_image.Release.{Release}
use Rattle.vm_state.specs.declared.decoded_image.Release.TheVariants as release
use Rattle.vm_state.specs.Plan.{IsRelease}
use Rattle.vm_releases.specs.Begin.{MovedAt, MovedBelow, clock_at, clock_of, release_at}

-- ---- slots

moved_now : (t : ℕ) (next : Option ℕ) → moved_on t next (Some t) ≡ next
moved_now t next = ap (λ (b : Bool). cond b next (Some t)) (let test : nat_eq t t ≡ true = grind (arith, nat_tests) in test)

pub moved_not : (t : ℕ) (next tick : Option ℕ) → tick ≢ Some t → moved_on t next tick ≡ tick
moved_not t next None differ = refl
moved_not t next (Some r) differ = by (nat_eq r t) refl where
  by : (b : Bool) → nat_eq r t ≡ b → cond b next (Some r) ≡ Some r
  by true is = absurd (differ (let same : r ≡ t = grind (arith, nat_tests, is) in ap (λ (x : ℕ). Some x) same))
  by false isnt = refl

-- the slot that was due is set to a frame later
pub set_is_moved : (image : Image) (t k : ℕ) (w : Process) (slots slots' : List (Option ℕ)) → slice_get image.processes k ≡ Some w → slice_get slots k ≡ Some (Some t) → slots' ≡ slice_set slots k (Some (t + w.frame)) → MovedAt image t k slots slots'
set_is_moved image t k w slots slots' at due set = subst (λ (xs : List (Option ℕ)). MovedAt image t k slots xs) (sym set) (record {
  count = length-set slots k (Some (t + w.frame));
  moved = λ p tick there slot.
      let both : Some tick ≡ Some (Some t) = sym slot ∙ due in
      let is : tick ≡ Some t = cc in
      let also : Some w ≡ Some p = sym at ∙ there in
      let same : w ≡ p = cc in
      get_set slots k (Some (t + w.frame)) (Some t) due ∙ ap (λ (x : Process). Some (Some (t + x.frame))) same
      ∙ ap (λ (o : Option ℕ). Some o) (sym (moved_now t (Some (t + p.frame)))) ∙ ap (λ (o : Option ℕ). Some (moved_on t (Some (t + p.frame)) o)) (sym is);
  others = λ j differ. get_other slots k j (Some (t + w.frame)) (λ same. differ (sym same));
})

-- a slot that is not due stays
pub rest_is_moved : (image : Image) (t k : ℕ) (slots : List (Option ℕ)) (tick : Option ℕ) → slice_get slots k ≡ Some tick → tick ≢ Some t → MovedAt image t k slots slots
rest_is_moved image t k slots tick slot differ = record {
  count = refl;
  moved = λ p other there also.
      let both : Some tick ≡ Some other = sym slot ∙ also in
      let is : tick ≡ other = cc in
      slot ∙ ap (λ (o : Option ℕ). Some o) (sym (moved_not t (Some (t + p.frame)) tick differ)) ∙ ap (λ (o : Option ℕ). Some (moved_on t (Some (t + p.frame)) o)) is;
  others = λ j apart. refl;
}

pub moved_more : (image : Image) (t n : ℕ) (a b c : List (Option ℕ)) → MovedBelow image t n a b → MovedAt image t n b c → MovedBelow image t (n + 1) a c
moved_more image t n a b c below here = record {
  count = here.count ∙ below.count;
  moved = λ k p tick lt at slot. elim (same_or_not n k) [
    | inl same ↦
        subst (λ (j : ℕ). slice_get c j ≡ Some (moved_on t (Some (t + p.frame)) tick)) same
        (here.moved p tick (subst (λ (j : ℕ). slice_get image.processes j ≡ Some p) (sym same) at) (below.others n (omega arith) ∙ subst (λ (j : ℕ). slice_get a j ≡ Some tick) (sym same) slot))
    | inr differ ↦ here.others k (λ same. differ (sym same)) ∙ below.moved k p tick (let apart : n ≢ k = differ in grind (arith, lt, apart)) at slot
  ];
  others = λ k le. here.others k (λ same. absurd (omega (arith, le, same))) ∙ below.others k (omega (arith, le));
}

-- ---- releases

pub clock_releases : (image : Image) (t k : ℕ) (w : Process) (s : State) → slice_get image.processes k ≡ Some w → is_periodic_due t w ≡ true → clock_at image t k s ≡ release_at image t k s
clock_releases image t k w s at due =
    ap (λ (o : Option Process). clock_of image t k o s) at
    ∙ ap (λ (b : Bool). cond b (released_at image t k w s) (unchanged s)) due
    ∙ sym (ap (λ (o : Option Process). release_of image t k o s) at)

pub clock_rests : (image : Image) (t k : ℕ) (w : Process) (s : State) → slice_get image.processes k ≡ Some w → is_periodic_due t w ≡ false → clock_at image t k s ≡ unchanged s
clock_rests image t k w s at due =
    ap (λ (o : Option Process). clock_of image t k o s) at
    ∙ ap (λ (b : Bool). cond b (released_at image t k w s) (unchanged s)) due

-- the process that comes next
pub clock_left : (image : Image) (t k : ℕ) (w : Process) (go : State → Started) (s s' : State) (es es' : List Event) → slice_get image.processes k ≡ Some w → AreLeft go s es (periodic image t k (drop k image.processes)) s' es'
    → AreLeft go s es (λ (x : State). followed (clock_at image t k x) (periodic image t (k + 1) (drop (k + 1) image.processes))) s' es'
clock_left image t k w go s s' es es' at left =
    let rest : State → Started = periodic image t (k + 1) (drop (k + 1) image.processes) in
    left_same go (periodic image t k (drop k image.processes)) (λ (x : State). followed (clock_at image t k x) rest) s s' es es' left
    (ap (λ (ps : List Process). periodic image t k ps s') (drop_at image.processes k w at) ∙ ap (λ (o : Option Process). followed (clock_of image t k o s') rest) (sym at))

-- a process that the clock brings is periodic
pub frame_is : (t first frame : ℕ) (w : Process) (r : Release) → IsRelease w r → r ≡ release.Periodic first frame → (w.kind ≡ 0) × (w.frame ≡ frame)
frame_is t first frame w r of is = let made : IsRelease w (release.Periodic first frame) = subst (λ (x : Release). IsRelease w x) is of in (made.0, made.2)

pub event_rests : (t event : ℕ) (w : Process) (r : Release) → IsRelease w r → r ≡ release.Event event → is_periodic_due t w ≡ true → ⊥
event_rests t event w r of is due =
    let made : IsRelease w (release.Event event) = subst (λ (x : Release). IsRelease w x) is of in
    let kind : w.kind ≡ 1 = made.0 in
    let test : nat_eq w.kind 0 ≡ false = grind (arith, nat_tests, kind) in
    let all : is_periodic_due t w ≡ false = ap (λ (b : Bool). b && nat_le w.first t && nat_eq ((t - w.first) % w.frame) 0) test in
    cc

pub event_is : (event : ℕ) (w : Process) (r : Release) → IsRelease w r → r ≡ release.Event event → (w.kind ≡ 1) × (w.event ≡ event)
event_is event w r of is = subst (λ (x : Release). IsRelease w x) is of
