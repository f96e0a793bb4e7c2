-- The slots before the first tick.
use Rattle.std.proofs.Common.{◌≡◌, ◌≢◌, ◌≤◌, ◌<◌, ◌+◌, ◌-◌, ◌*◌, ◌%◌, ℕ, zero, suc, List, [], ◌∷◌, Option, Some, None, length, map, arith, refl, ap, sym, subst, ◌∙◌, true, false, Bool, inl, inr}
use Rattle.std.specs.Prelude.{slice_get, slice_set, cond, nat_eq, nat_le, ◌&&◌, replicate}
use Rattle.std.proofs.lemmas.List.{length-set}
use Rattle.std.proofs.lemmas.Nat.{mod-mul-add}
use Rattle.std.proofs.lemmas.Option.{slice_get_within}
use Rattle.std.proofs.lemmas.Bool.{cases_Bool}
use Rattle.std.proofs.lemmas.Bool.Decides.{nat_tests}
use Rattle.base.proofs.Lists.{get_other, get_set, some_at}
use Rattle.machine_semantics.specs.Image.{Image, Process, Script, Line}
use Rattle.machine_semantics.specs.State.{Thread, Idle}
use Rattle.machine_semantics.specs.Starts.{is_periodic_due}
use Rattle.machine_semantics.specs.Run.{at_start}
use Rattle.vm_stretch.specs.StretchDue.{AreInOrder, first_tick, time_out_of}
use Rattle.vm_stretch.specs.StartLawsDue.{HasDue, IsReleaseFrom}
use Rattle.vm_stretch.proofs.Lists.{same_or_not}
use Rattle.vm_state.specs.declared.decoded_image.Release.{Release}
use Rattle.vm_state.specs.declared.decoded_image.Release.TheVariants as release
use Rattle.vm_state.specs.Plan.{IsRelease}
use Rattle.vm_releases.specs.Begin.{AreFirst, first_release}

-- so far: the slots of the first n processes are right, and the others empty
pub record FirstBelow (image : Image) (n : ℕ) (slots : List (Option ℕ)) : Type 0 where
  pub count : length slots ≡ 2 * length image.processes + 1
  pub releases : (k : ℕ) (p : Process) → k < n → slice_get image.processes k ≡ Some p → slice_get slots k ≡ Some (first_release p)
  pub rest : (k : ℕ) → n ≤ k → k < 2 * length image.processes + 1 → slice_get slots k ≡ Some None

length-replicate : (m : ℕ) → length {A = Option ℕ} (replicate m None) ≡ m
length-replicate zero = refl
length-replicate (suc m) = ap suc (length-replicate m)

get_replicate : (m k : ℕ) → k < m → slice_get {X = Option ℕ} (replicate m None) k ≡ Some None
get_replicate zero k below = absurd (omega arith)
get_replicate (suc m) zero below = refl
get_replicate (suc m) (suc k) below = get_replicate m k (omega (arith, below))

pub firsts_none : (image : Image) (m : ℕ) (slots : List (Option ℕ)) → m ≡ 2 * length image.processes + 1 → slots ≡ replicate m None → FirstBelow image 0 slots
firsts_none image m slots many is = subst (λ (xs : List (Option ℕ)). FirstBelow image 0 xs) (sym is) (record {
  count = length-replicate m ∙ many;
  releases = λ k p below. absurd (omega arith);
  rest = λ k from below. get_replicate m k (omega (arith, many, below));
})

-- the slot of a periodic process is set
pub firsts_set : (image : Image) (n first : ℕ) (w : Process) (slots slots' : List (Option ℕ)) → FirstBelow image n slots → slice_get image.processes n ≡ Some w → w.kind ≡ 0 → w.first ≡ first → slots' ≡ slice_set slots n (Some first) → FirstBelow image (n + 1) slots'
firsts_set image n first w slots slots' so at kind first_is is = subst (λ (xs : List (Option ℕ)). FirstBelow image (n + 1) xs) (sym is) (record {
  count = length-set slots n (Some first) ∙ so.count;
  releases = λ k p below there. elim (same_or_not n k) [
    | inl same ↦
        let old = some_at slots n (let within = slice_get_within image.processes n w at in omega (arith, so.count, within)) in
        let both : Some w ≡ Some p = sym at ∙ ap (λ (i : ℕ). slice_get image.processes i) same ∙ there in
        let p_is : w ≡ p = cc in
        let made : Some first ≡ first_release w =
        ap (λ (i : ℕ). Some i) (sym first_is) ∙ sym (ap (λ (b : Bool). cond b (Some w.first) None) (let test : nat_eq w.kind 0 ≡ true = grind (arith, nat_tests, kind) in test)) in
        subst (λ (i : ℕ). slice_get (slice_set slots n (Some first)) i ≡ Some (first_release p)) same
        (get_set slots n (Some first) old.0 old.1 ∙ ap (λ (o : Option ℕ). Some o) made ∙ ap (λ (x : Process). Some (first_release x)) p_is)
    | inr differ ↦ get_other slots n k (Some first) differ ∙ so.releases k p (let apart : n ≢ k = differ in grind (arith, below, apart)) there
  ];
  rest = λ k from below. get_other slots n k (Some first) (λ same. absurd (omega (arith, from, same))) ∙ so.rest k (omega (arith, from)) below;
})

-- that of another process stays empty
pub firsts_skip : (image : Image) (n : ℕ) (w : Process) (slots : List (Option ℕ)) → FirstBelow image n slots → slice_get image.processes n ≡ Some w → w.kind ≡ 1 → FirstBelow image (n + 1) slots
firsts_skip image n w slots so at kind = record {
  count = so.count;
  releases = λ k p below there. elim (same_or_not n k) [
    | inl same ↦
        let both : Some w ≡ Some p = sym at ∙ ap (λ (i : ℕ). slice_get image.processes i) same ∙ there in
        let p_is : w ≡ p = cc in
        let none : first_release w ≡ None = ap (λ (b : Bool). cond b (Some w.first) None) (let test : nat_eq w.kind 0 ≡ false = grind (arith, nat_tests, kind) in test) in
        subst (λ (i : ℕ). slice_get slots i ≡ Some (first_release p)) same
        (so.rest n (omega arith) (let within = slice_get_within image.processes n w at in omega (arith, within)) ∙ ap (λ (o : Option ℕ). Some o) (sym none) ∙ ap (λ (x : Process). Some (first_release x)) p_is)
    | inr differ ↦ so.releases k p (let apart : n ≢ k = differ in grind (arith, below, apart)) there
  ];
  rest = λ k from below. so.rest k (omega (arith, from)) below;
}

-- and the slot of the lines
pub firsts_all : (image : Image) (ls : List Line) (n : ℕ) (slots slots' : List (Option ℕ)) → FirstBelow image n slots → n ≡ length image.processes → slots' ≡ slice_set slots (2 * length image.processes) (first_tick ls) → AreFirst image ls slots'
firsts_all image ls n slots slots' so all is = subst (λ (xs : List (Option ℕ)). AreFirst image ls xs) (sym is) (
    let m = length image.processes in
    record {
      count = length-set slots (2 * m) (first_tick ls) ∙ so.count;
      releases = λ k p at. (let within = slice_get_within image.processes k p at in get_other slots (2 * m) k (first_tick ls) (λ same. absurd (omega (arith, same, within))) ∙ so.releases k p (omega (arith, all, within)) at);
      waits = λ k below. get_other slots (2 * m) (m + k) (first_tick ls) (λ same. absurd (omega (arith, same, below))) ∙ so.rest (m + k) (omega (arith, all)) (omega (arith, below));
      line = (let old = some_at slots (2 * m) (omega (arith, so.count)) in get_set slots (2 * m) (first_tick ls) old.0 old.1);
    })

-- ---- they are due

first_is_due : (p : Process) → 0 < p.frame → nat_eq p.kind 0 ≡ true → is_periodic_due p.first p ≡ true
first_is_due p some kind =
    let none : p.first - p.first ≡ 0 * p.frame + 0 = omega arith in
    let whole : (p.first - p.first) % p.frame ≡ 0 = ap (λ (x : ℕ). x % p.frame) none ∙ mod-mul-add 0 p.frame 0 some in
    grind (arith, nat_tests, kind, whole)

not_before : (u : ℕ) (p : Process) → u < p.first → is_periodic_due u p ≡ false
not_before u p early = elim (cases_Bool (is_periodic_due u p)) [ inr isnt ↦ isnt | inl is ↦ absurd (let le : p.first ≤ u = grind (arith, nat_tests, is) in omega (arith, le, early)) ]

not_periodic : (u : ℕ) (p : Process) → nat_eq p.kind 0 ≡ false → is_periodic_due u p ≡ false
not_periodic u p kind = ap (λ (b : Bool). b && nat_le p.first u && nat_eq ((u - p.first) % p.frame) 0) kind

first_from : (p : Process) → (p.kind ≡ 0 → 0 < p.frame) → IsReleaseFrom 0 p (first_release p)
first_from p some = by (nat_eq p.kind 0) refl where
  by : (b : Bool) → nat_eq p.kind 0 ≡ b → IsReleaseFrom 0 p (cond b (Some p.first) None)
  by true kind = (first_is_due p (some (grind (arith, nat_tests, kind))) kind, omega arith, λ u low high. not_before u p high)
  by false kind = λ u low. not_periodic u p kind

idle_at : (ps : List Process) (k : ℕ) → time_out_of (slice_get (map (λ (p : Process). Idle) ps) k) ≡ None
idle_at [] k = refl
idle_at (p ∷ ps) zero = refl
idle_at (p ∷ ps) (suc k) = idle_at ps k

idle_within : (ps : List Process) (k : ℕ) (x : Thread) → slice_get (map (λ (p : Process). Idle) ps) k ≡ Some x → k < length ps
idle_within [] k x at = absurd cc
idle_within (p ∷ ps) zero x at = omega arith
idle_within (p ∷ ps) (suc k) x at = omega (arith, idle_within ps k x at)

pub firsts_due : (image : Image) (script : Script) (slots : List (Option ℕ)) → ((k : ℕ) (p : Process) → slice_get image.processes k ≡ Some p → p.kind ≡ 0 → 0 < p.frame) → AreInOrder script.lines → AreFirst image script.lines slots
    → HasDue image script 0 0 (at_start image) slots
unfolding at_start
firsts_due image script slots some order so = record {
  count = so.count;
  releases = λ k p tick at slot.
      let both : Some tick ≡ Some (first_release p) = sym slot ∙ so.releases k p at in
      let is : tick ≡ first_release p = cc in
      subst (λ (x : Option ℕ). IsReleaseFrom 0 p x) (sym is) (first_from p (some k p at));
  waits = λ k tick below slot.
      let both : Some tick ≡ Some None = sym slot ∙ so.waits k below in
      let is : tick ≡ None = cc in
      is ∙ sym (idle_at image.processes k);
  line = so.line;
  order = order;
  past = λ i l at early. absurd (omega arith);
  threads = λ k x at. idle_within image.processes k x at;
  none_late = λ i r at. omega arith;
}

pub first_is : (first frame : ℕ) (w : Process) (r : Release) → IsRelease w r → r ≡ release.Periodic first frame → (w.kind ≡ 0) × (w.first ≡ first)
first_is first frame w r of is = let made : IsRelease w (release.Periodic first frame) = subst (λ (x : Release). IsRelease w x) is of in (made.0, made.1)
