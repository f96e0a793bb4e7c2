-- The code of a process is right exactly where some relation shows it.
use Rattle.std.proofs.Common.{Some, ◌≡◌, ℕ, zero, suc, List, [], Some, refl, ap, subst, ◌∙◌, Bool}
use Rattle.std.specs.Prelude.{ℤ, slice_get}
use Rattle.base.proofs.Lists.{one_some}
use Rattle.base.specs.declared.event.Act.TheVariants as act
use Rattle.machine_isa.specs.declared.instr.Instr.{Instr}
use Rattle.source_semantics.specs.Run.{Action, gets, puts, enters, leaves, waits, signals, broadcasts, asks_empty, raises, ends}
use Rattle.source_semantics.specs.Next.{Next}
use Rattle.machine_semantics.specs.State.{State}
use Rattle.machine_semantics.specs.Effect.{Own, Outcome, Goes, Does, Signals, Broadcasts, Waits, Raises, Ends, Stuck, effect}
use Rattle.code_spec.specs.Boundary.{Compiled, View, Freeing, Resting, next_of, next_own, SameInside, Stays, Enters, Leaves, Pauses, Fails, Agrees, IsFaithful}
use Rattle.code_spec.specs.Follows.{elsewhere, Follows, IsRight}

-- ---- from one relation to another

module _ (c : Compiled) (Free : Freeing) (Rests : Resting) (S T : Own → View → Type 0) (into : (o : Own) (v : View) → S o v → T o v) where
  stays_into : (o q : Own) (v : View) → Stays c.image S o q v → Stays c.image T o q v
  stays_into o q v h = record { stands = into q v h.stands; inside = h.inside; words = h.words }

  enters_into : (o q : Own) (m : ℕ) (n : Next) (b : Bool) → Enters c S Free o q m n b → Enters c T Free o q m n b
  enters_into o q m n b h = record { monitor = h.monitor; there = h.there; reached = h.reached; outside = h.outside; inside = h.inside; words = h.words; stands = λ vars free. into q _ (h.stands vars free) }

  leaves_into : (o q : Own) (m : ℕ) (n : Next) (b : Bool) → Leaves c S Free o q m n b → Leaves c T Free o q m n b
  leaves_into o q m n b h = record { inside = h.inside; outside = h.outside; words = h.words; free = h.free; stands = into q _ h.stands }

  pauses_into : (o q : Own) (e : ℕ) (n : Next) (b : Bool) → Pauses c S Free o q e n b → Pauses c T Free o q e n b
  pauses_into o q e n b h = record { monitor = h.monitor; leaves = leaves_into o q h.monitor n b h.leaves; late = into _ _ h.late }

  fails_into : (o : Own) (e : ℕ) (n : Next) (b : Bool) → Fails c S Free o e n b → Fails c T Free o e n b
  fails_into o e n b h = record { free = h.free; stands = into _ _ h.stands }

  pub agrees_into : (s : State) (o : Own) (v : View) (n : Next) (a : Action) (out : Outcome) → Agrees c S Free Rests s o v n a out → Agrees c T Free Rests s o v n a out
  agrees_into s o v n a (Goes q) h = stays_into o q v h
  agrees_into s o v n (gets d) (Does (act.Get e x) q) h = (h.0, h.1, stays_into o q _ h.2)
  agrees_into s o v n (puts d y) (Does (act.Put e x) q) h = (h.0, h.1, stays_into o q _ h.2)
  agrees_into s o v n (enters m) (Does (act.Enter l) q) h = (h.0, h.1, enters_into o q l n v.handling h.2)
  agrees_into s o v n (leaves m) (Does (act.Leave l) q) h = (h.0, leaves_into o q l n v.handling h.1)
  agrees_into s o v n (asks_empty d) (Does (act.Empty e b) q) h = (h.0, h.1, h.2, h.3, stays_into o q _ h.4)
  agrees_into s o v n (signals d) (Signals e q) h = (h.0, stays_into o q _ h.1)
  agrees_into s o v n (broadcasts d) (Broadcasts e q) h = (h.0, stays_into o q _ h.1)
  agrees_into s o v n (waits d limit number) (Waits e l f q) h = (h.0, h.1, h.2, pauses_into o q f n v.handling h.3)
  agrees_into s o v n (raises number) (Raises e) h = (h.0, fails_into o e n v.handling h.1)
  agrees_into s o v n ends Ends h = h
  agrees_into s o v n a Stuck h = tt
  agrees_into s o v n a out h = absurd h

-- ---- a relation that is closed shows that the code is right

module _ (c : Compiled) (Stands : Own → View → Type 0) (Free : Freeing) (Rests : Resting) (faithful : IsFaithful c Stands Free Rests) where
  ticking : (s : State) (o : Own) (v : View) (done dispatch_ticks : ℕ) → Stands o v → SameInside c.image o.job.inside o.shared s.shared
      → (instr : Instr) × (slice_get c.image.code o.job.place ≡ Some instr)
      × Agrees c Stands Free Rests s (elsewhere o done dispatch_ticks s) v (next_of c.program c.text v) (next_of c.program c.text v).action (effect c.image s instr (next_own (elsewhere o done dispatch_ticks s)))
  ticking s o v done dispatch_ticks h same = faithful.ticks s (elsewhere o done dispatch_ticks s) v refl (faithful.stable o v done dispatch_ticks s.shared h same)

  stands_follow : (n : ℕ) (o : Own) (v : View) → Stands o v → Follows n c Free Rests o v
  stands_follow zero o v h = tt
  stands_follow (suc n) o v h = λ s done dispatch_ticks same. (
    (ticking s o v done dispatch_ticks h same).0,
    (ticking s o v done dispatch_ticks h same).1,
    agrees_into c Free Rests Stands (Follows n c Free Rests) (λ p u stands. stands_follow n p u stands) s (elsewhere o done dispatch_ticks s) v (next_of c.program c.text v) (next_of c.program c.text v).action
        (effect c.image s (ticking s o v done dispatch_ticks h same).0 (next_own (elsewhere o done dispatch_ticks s))) (ticking s o v done dispatch_ticks h same).2,
  )

  pub faithful_is_right : IsRight c Free Rests
  faithful_is_right = record { begins = faithful.begins; follows = λ n s owned vars rests. stands_follow n _ _ (faithful.starts owned s.shared vars rests) }

-- ---- and that it follows for any number of ticks is such a relation

module _ (c : Compiled) (Free : Freeing) (Rests : Resting) where
  abbrev pub Always : Own → View → Type 0
  Always o v = (n : ℕ) → Follows n c Free Rests o v

  abbrev F : ℕ → Own → View → Type 0
  F n = Follows n c Free Rests

  stays_always : (o q : Own) (v : View) → ((n : ℕ) → Stays c.image (F n) o q v) → Stays c.image Always o q v
  stays_always o q v h = record { stands = λ n. (h n).stands; inside = (h 0).inside; words = (h 0).words }

  leaves_always : (o q : Own) (m : ℕ) (n : Next) (b : Bool) → ((i : ℕ) → Leaves c (F i) Free o q m n b) → Leaves c Always Free o q m n b
  leaves_always o q m n b h = record { inside = (h 0).inside; outside = (h 0).outside; words = (h 0).words; free = (h 0).free; stands = λ i. (h i).stands }

  pub agrees_always : (s : State) (o : Own) (v : View) (n : Next) (a : Action) (out : Outcome) → ((i : ℕ) → Agrees c (F i) Free Rests s o v n a out) → Agrees c Always Free Rests s o v n a out
  agrees_always s o v n a (Goes q) h = stays_always o q v h
  agrees_always s o v n (gets d) (Does (act.Get e x) q) h = ((h 0).0, (h 0).1, stays_always o q _ (λ i. (h i).2))
  agrees_always s o v n (puts d y) (Does (act.Put e x) q) h = ((h 0).0, (h 0).1, stays_always o q _ (λ i. (h i).2))
  agrees_always s o v n (enters m) (Does (act.Enter l) q) h = (
    (h 0).0,
    (h 0).1,
    record { monitor = (h 0).2.monitor; there = (h 0).2.there; reached = (h 0).2.reached; outside = (h 0).2.outside; inside = (h 0).2.inside; words = (h 0).2.words; stands = λ vars free i. (h i).2.stands vars free },
  )
  agrees_always s o v n (leaves m) (Does (act.Leave l) q) h = ((h 0).0, leaves_always o q l n v.handling (λ i. (h i).1))
  agrees_always s o v n (asks_empty d) (Does (act.Empty e b) q) h = ((h 0).0, (h 0).1, (h 0).2, (h 0).3, stays_always o q _ (λ i. (h i).4))
  agrees_always s o v n (signals d) (Signals e q) h = ((h 0).0, stays_always o q _ (λ i. (h i).1))
  agrees_always s o v n (broadcasts d) (Broadcasts e q) h = ((h 0).0, stays_always o q _ (λ i. (h i).1))
  agrees_always s o v n (waits d limit number) (Waits e l f q) h = (
    (h 0).0,
    (h 0).1,
    (h 0).2,
    record { monitor = (h 0).3.monitor; leaves = leaves_always o q (h 0).3.monitor n v.handling (λ i. same_monitor i); late = λ i. (h i).3.late },
  ) where
    same_monitor : (i : ℕ) → Leaves c (F i) Free o q (h 0).3.monitor n v.handling
    same_monitor i = let e : (h i).3.monitor ≡ (h 0).3.monitor = one_some (h i).3.leaves.inside (h 0).3.leaves.inside in subst (λ (y : ℕ). Leaves c (F i) Free o q y n v.handling) e (h i).3.leaves
  agrees_always s o v n (raises number) (Raises e) h = ((h 0).0, record { free = (h 0).1.free; stands = λ i. (h i).1.stands })
  agrees_always s o v n ends Ends h = h 0
  agrees_always s o v n a Stuck h = tt
  agrees_always s o v n a out h = absurd (h 0)

  pub right_is_faithful : IsRight c Free Rests → IsFaithful c Always Free Rests
  right_is_faithful right = record {
    begins = right.begins;
    starts = λ owned shared vars rests n. right.follows n (record { threads = []; owned = []; shared = shared; queues = []; devices = [] }) owned vars rests;
    stable = still;
    ticks = ticking;
  } where
    still : (o : Own) (v : View) (done dispatch_ticks : ℕ) (shared : List ℤ) → Always o v → SameInside c.image o.job.inside o.shared shared → Always (record { job = record (o.job) { done = done; dispatch_ticks = dispatch_ticks }; owned = o.owned; shared = shared }) v
    still o v done dispatch_ticks shared h same zero = tt
    still o v done dispatch_ticks shared h same (suc n) = λ s d b again. h (suc n) s d b (λ w reached. again w reached ∙ same w reached)

    ticking : (s : State) (o : Own) (v : View) → s.shared ≡ o.shared → Always o v
        → (instr : Instr) × (slice_get c.image.code o.job.place ≡ Some instr) × Agrees c Always Free Rests s o v (next_of c.program c.text v) (next_of c.program c.text v).action (effect c.image s instr (next_own o))
    ticking s o v shared h = (at.0, at.1, agrees_always s o v (next_of c.program c.text v) (next_of c.program c.text v).action (effect c.image s at.0 (next_own o)) each) where
      one : (n : ℕ) → (instr : Instr) × (slice_get c.image.code o.job.place ≡ Some instr) × Agrees c (F n) Free Rests s o v (next_of c.program c.text v) (next_of c.program c.text v).action (effect c.image s instr (next_own o))
      one n = subst (λ (us : List ℤ). (instr : Instr) × (slice_get c.image.code o.job.place ≡ Some instr) × Agrees c (F n) Free Rests s (record { job = o.job; owned = o.owned; shared = us }) v (next_of c.program c.text v) (next_of c.program c.text v).action (effect c.image s instr (next_own (record { job = o.job; owned = o.owned; shared = us })))) shared
          (h (suc n) s o.job.done o.job.dispatch_ticks (λ w reached. ap (λ (us : List ℤ). slice_get us w) shared))

      at : (instr : Instr) × (slice_get c.image.code o.job.place ≡ Some instr) × Agrees c (F 0) Free Rests s o v (next_of c.program c.text v) (next_of c.program c.text v).action (effect c.image s instr (next_own o))
      at = one 0

      each : (n : ℕ) → Agrees c (F n) Free Rests s o v (next_of c.program c.text v) (next_of c.program c.text v).action (effect c.image s at.0 (next_own o))
      each n =
          let now : (instr : Instr) × (slice_get c.image.code o.job.place ≡ Some instr) × Agrees c (F n) Free Rests s o v (next_of c.program c.text v) (next_of c.program c.text v).action (effect c.image s instr (next_own o)) = one n in
          let same : now.0 ≡ at.0 = one_some now.1 at.1 in
          subst (λ (i : Instr). Agrees c (F n) Free Rests s o v (next_of c.program c.text v) (next_of c.program c.text v).action (effect c.image s i (next_own o))) same now.2
