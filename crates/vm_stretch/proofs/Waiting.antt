-- What the start events of a tick do to the waits.
use Rattle.std.proofs.Common.{◌≡◌, ◌≢◌, ◌≤◌, ◌<◌, ◌+◌, ◌*◌, ◌⊎◌, inl, inr, ℕ, zero, suc, List, [], ◌∷◌, Option, Some, None, length, arith, refl, ap, sym, subst, ◌∙◌, true, false, Bool}
use Rattle.std.specs.Prelude.{slice_get, slice_set, cond, nat_eq, ◌&&◌}
use Rattle.std.proofs.lemmas.List.{length-set}
use Rattle.std.proofs.lemmas.Bool.{cases_lt}
use Rattle.std.proofs.lemmas.Bool.Decides.{nat_tests}
use Rattle.base.proofs.Lists.{get_set, get_other}
use Rattle.base.specs.declared.event.Act.TheVariants as act
use Rattle.machine_semantics.specs.Image.{Image, Process, Script, Line, Sets, Occurs}
use Rattle.machine_semantics.specs.State.{Job, Thread, Idle, Ready, Waiting, State}
use Rattle.machine_semantics.specs.Starts.{Started, unchanged, told, released, release, release_thread, occurs, line, lines, is_periodic_due, periodic, raised, without, queue_of, time_out, at_rank, time_outs, starts}
use Rattle.vm_stretch.specs.StretchDue.{time_out_of}
use Rattle.vm_stretch.specs.StartLawsDue.{HasOwnRanks, moved_on}
use Rattle.vm_stretch.proofs.Lists.{same_or_not}

-- when the wait of process k times out
abbrev pub due_of : ℕ → State → Option ℕ
due_of k s = time_out_of (slice_get s.threads k)

-- ---- what is kept

-- the waits are as they were
pub record KeepsWaits (s s' : State) : Type 0 where
  pub waits : (k : ℕ) → due_of k s' ≡ due_of k s
  pub count : length s'.threads ≡ length s.threads

pub keeps_all : (s : State) → KeepsWaits s s
keeps_all s = record { waits = λ k. refl; count = refl }

pub keeps_then : (a b c : State) → KeepsWaits a b → KeepsWaits b c → KeepsWaits a c
keeps_then a b c first second = record { waits = λ k. second.waits k ∙ first.waits k; count = second.count ∙ first.count }

either_keeps : (P : State → Type 0) (b : Bool) (x y : Started) → P x.state → P y.state → P (cond b x y).state
either_keeps P true x y p q = p
either_keeps P false x y p q = q

release_keeps_waits : (image : Image) (t j : ℕ) (p : Process) (s : State) → KeepsWaits s (release image t j p s).state
release_keeps_waits image t j p s = by (slice_get s.threads j) refl where
  by : (o : Option Thread) → slice_get s.threads j ≡ o → KeepsWaits s (release_thread image t j p s o).state
  by None at = keeps_all s
  by (Some (Ready job)) at = keeps_all s
  by (Some (Waiting c due number job)) at = keeps_all s
  by (Some Idle) at = record {
    waits = λ k. elim (same_or_not j k) [
      | inl same ↦ subst (λ (i : ℕ). due_of i (told t j act.Release s (Ready (released image p))).state ≡ due_of i s) same
          (ap (λ (x : Option Thread). time_out_of x) (get_set s.threads j (Ready (released image p)) Idle at) ∙ sym (ap (λ (x : Option Thread). time_out_of x) at))
      | inr differ ↦ ap (λ (x : Option Thread). time_out_of x) (get_other s.threads j k (Ready (released image p)) differ)
    ];
    count = length-set s.threads j (Ready (released image p));
  }

occurs_keeps_waits : (image : Image) (t e k : ℕ) (ps : List Process) (s : State) → KeepsWaits s (occurs image t e k ps s).state
occurs_keeps_waits image t e k [] s = keeps_all s
occurs_keeps_waits image t e k (p ∷ ps) s =
    let first : Started = cond (nat_eq p.kind 1 && nat_eq p.event e) (release image t k p s) (unchanged s) in
    keeps_then s first.state (occurs image t e (k + 1) ps first.state).state
    (either_keeps (KeepsWaits s) (nat_eq p.kind 1 && nat_eq p.event e) (release image t k p s) (unchanged s) (release_keeps_waits image t k p s) (keeps_all s))
    (occurs_keeps_waits image t e (k + 1) ps first.state)

line_keeps_waits : (image : Image) (t : ℕ) (l : Line) (s : State) → KeepsWaits s (line image t l s).state
line_keeps_waits image t (Sets u d v) s =
    either_keeps (KeepsWaits s) (nat_eq u t) (unchanged (record s { devices = slice_set s.devices d v })) (unchanged s) (record { waits = λ k. refl; count = refl }) (keeps_all s)
line_keeps_waits image t (Occurs u e) s =
    either_keeps (KeepsWaits s) (nat_eq u t) (occurs image t e 0 image.processes s) (unchanged s) (occurs_keeps_waits image t e 0 image.processes s) (keeps_all s)

pub lines_keep_waits : (image : Image) (t : ℕ) (ls : List Line) (s : State) → KeepsWaits s (lines image t ls s).state
lines_keep_waits image t [] s = keeps_all s
lines_keep_waits image t (l ∷ ls) s =
    let first : Started = line image t l s in
    keeps_then s first.state (lines image t ls first.state).state (line_keeps_waits image t l s) (lines_keep_waits image t ls first.state)

pub periodic_keeps_waits : (image : Image) (t k : ℕ) (ps : List Process) (s : State) → KeepsWaits s (periodic image t k ps s).state
periodic_keeps_waits image t k [] s = keeps_all s
periodic_keeps_waits image t k (p ∷ ps) s =
    let first : Started = cond (is_periodic_due t p) (release image t k p s) (unchanged s) in
    keeps_then s first.state (periodic image t (k + 1) ps first.state).state
    (either_keeps (KeepsWaits s) (is_periodic_due t p) (release image t k p s) (unchanged s) (release_keeps_waits image t k p s) (keeps_all s))
    (periodic_keeps_waits image t (k + 1) ps first.state)

-- ---- time-outs

-- a wait is as it was, or it is over now
abbrev pub IsOver : ℕ → Option ℕ → Option ℕ → Type 0
IsOver t old new = (new ≡ old) ⊎ ((old ≡ Some t) × (new ≡ None))

-- each wait is
pub record EndsWaits (t : ℕ) (s s' : State) : Type 0 where
  pub waits : (k : ℕ) → IsOver t (due_of k s) (due_of k s')
  pub count : length s'.threads ≡ length s.threads

over_then : (t : ℕ) (a b c : Option ℕ) → IsOver t a b → IsOver t b c → IsOver t a c
over_then t a b c (inl same) (inl also) = inl (also ∙ same)
over_then t a b c (inl same) (inr now) = inr (sym same ∙ now.0, now.1)
over_then t a b c (inr now) (inl same) = inr (now.0, same ∙ now.1)
over_then t a b c (inr now) (inr again) = absurd (let none : b ≡ None = now.1 in let some : b ≡ Some t = again.0 in cc)

pub ends_none : (t : ℕ) (s : State) → EndsWaits t s s
ends_none t s = record { waits = λ k. inl refl; count = refl }

pub ends_then : (t : ℕ) (a b c : State) → EndsWaits t a b → EndsWaits t b c → EndsWaits t a c
ends_then t a b c first second = record { waits = λ k. over_then t (due_of k a) (due_of k b) (due_of k c) (first.waits k) (second.waits k); count = second.count ∙ first.count }

-- what is over stays so
pub over_stays : (t : ℕ) (a b : Option ℕ) → IsOver t a b → a ≢ Some t → b ≢ Some t
over_stays t a b (inl same) not_due is = not_due (sym same ∙ is)
over_stays t a b (inr now) not_due is = not_due now.0

-- the thread of a process whose time has come
abbrev woken_at : Image → Process → ℕ → Job → Thread
woken_at image p e job = Ready (record (raised p e job) { dispatch_ticks = 2 * image.over })

abbrev timed_out : Image → ℕ → ℕ → Process → State → ℕ → ℕ → Job → Started
timed_out image t j p s c e job = told t j (act.TimeOut c e) (record s { queues = slice_set s.queues c (without j (queue_of s.queues c)) }) (woken_at image p e job)

-- a time-out ends waits, and its own
pub record EndsOwn (t j : ℕ) (s s' : State) : Type 0 where
  pub ends : EndsWaits t s s'
  pub own : due_of j s' ≢ Some t

pub time_out_ends : (image : Image) (t j : ℕ) (p : Process) (s : State) → EndsOwn t j s (time_out image t j p s (slice_get s.threads j)).state
time_out_ends image t j p s = by (slice_get s.threads j) refl where
  stays : (o : Option Thread) → slice_get s.threads j ≡ o → time_out_of o ≢ Some t → EndsOwn t j s s
  stays o at not_due = record { ends = ends_none t s; own = λ is. not_due (ap (λ (x : Option Thread). time_out_of x) (sym at) ∙ is) }

  by : (o : Option Thread) → slice_get s.threads j ≡ o → EndsOwn t j s (time_out image t j p s o).state
  by None at = stays None at (λ is. cc)
  by (Some Idle) at = stays (Some Idle) at (λ is. cc)
  by (Some (Ready job)) at = stays (Some (Ready job)) at (λ is. cc)
  by (Some (Waiting c due e job)) at = by_due (nat_eq due t) refl where
    by_due : (d : Bool) → nat_eq due t ≡ d → EndsOwn t j s (cond d (timed_out image t j p s c e job) (unchanged s)).state
    by_due false not_now = stays (Some (Waiting c due e job)) at (λ is. let same : due ≡ t = cc in absurd (grind (arith, nat_tests, not_now, same)))
    by_due true now =
        let same : due ≡ t = grind (arith, nat_tests, now) in
        let own : due_of j (timed_out image t j p s c e job).state ≡ None = ap (λ (x : Option Thread). time_out_of x) (get_set s.threads j (woken_at image p e job) (Waiting c due e job) at) in
        let was : due_of j s ≡ Some t = ap (λ (x : Option Thread). time_out_of x) at ∙ ap (λ (x : ℕ). Some x) same in
        record {
          ends = record {
            waits = λ k. elim (same_or_not j k) [
              | inl is ↦ subst (λ (i : ℕ). IsOver t (due_of i s) (due_of i (timed_out image t j p s c e job).state)) is (inr (was, own))
              | inr differ ↦ inl (ap (λ (x : Option Thread). time_out_of x) (get_other s.threads j k (woken_at image p e job) differ))
            ];
            count = length-set s.threads j (woken_at image p e job);
          };
          own = λ is. cc;
        }

either_ends : (t : ℕ) (b : Bool) (s : State) (x : Started) → EndsWaits t s x.state → EndsWaits t s (cond b x (unchanged s)).state
either_ends t true s x ends = ends
either_ends t false s x ends = ends_none t s

pub at_rank_ends : (image : Image) (t rank k : ℕ) (ps : List Process) (s : State) → EndsWaits t s (at_rank image t rank k ps s).state
at_rank_ends image t rank k [] s = ends_none t s
at_rank_ends image t rank k (p ∷ ps) s =
    let first : Started = cond (nat_eq p.rank rank) (time_out image t k p s (slice_get s.threads k)) (unchanged s) in
    ends_then t s first.state (at_rank image t rank (k + 1) ps first.state).state
    (either_ends t (nat_eq p.rank rank) s (time_out image t k p s (slice_get s.threads k)) (time_out_ends image t k p s).ends)
    (at_rank_ends image t rank (k + 1) ps first.state)

pub time_outs_end : (image : Image) (t rank n : ℕ) (s : State) → EndsWaits t s (time_outs image t rank n s).state
time_outs_end image t rank zero s = ends_none t s
time_outs_end image t rank (suc n) s =
    let first : Started = at_rank image t rank 0 image.processes s in
    ends_then t s first.state (time_outs image t (rank + 1) n first.state).state (at_rank_ends image t rank 0 image.processes s) (time_outs_end image t (rank + 1) n first.state)

-- the wait of the process with this rank is over
rank_comes : (image : Image) (t rank i j : ℕ) (ps : List Process) (p : Process) (s : State) → slice_get ps j ≡ Some p → p.rank ≡ rank → due_of (i + j) (at_rank image t rank i ps s).state ≢ Some t
rank_comes image t rank i j [] p s at is = absurd cc
rank_comes image t rank i zero (q ∷ ps) p s at is =
    let same : q ≡ p = cc in
    let ranked : nat_eq q.rank rank ≡ true = (let r : q.rank ≡ rank = ap (λ (x : Process). x.rank) same ∙ is in grind (arith, nat_tests, r)) in
    let here : i + 0 ≡ i = omega arith in
    let own : due_of i (time_out image t i q s (slice_get s.threads i)).state ≢ Some t = (time_out_ends image t i q s).own in
    let own' : due_of i (cond (nat_eq q.rank rank) (time_out image t i q s (slice_get s.threads i)) (unchanged s)).state ≢ Some t =
    subst (λ (b : Bool). due_of i (cond b (time_out image t i q s (slice_get s.threads i)) (unchanged s)).state ≢ Some t) (sym ranked) own in
    let first : Started = cond (nat_eq q.rank rank) (time_out image t i q s (slice_get s.threads i)) (unchanged s) in
    subst (λ (k : ℕ). due_of k (at_rank image t rank (i + 1) ps first.state).state ≢ Some t) (sym here)
    (over_stays t (due_of i first.state) (due_of i (at_rank image t rank (i + 1) ps first.state).state) ((at_rank_ends image t rank (i + 1) ps first.state).waits i) own')
rank_comes image t rank i (suc j) (q ∷ ps) p s at is =
    let first : Started = cond (nat_eq q.rank rank) (time_out image t i q s (slice_get s.threads i)) (unchanged s) in
    let here : (i + 1) + j ≡ i + suc j = omega arith in
    subst (λ (k : ℕ). due_of k (at_rank image t rank (i + 1) ps first.state).state ≢ Some t) here (rank_comes image t rank (i + 1) j ps p first.state at is)

ranks_come : (image : Image) (t rank n k : ℕ) (p : Process) (s : State) → slice_get image.processes k ≡ Some p → rank ≤ p.rank → p.rank < rank + n → due_of k (time_outs image t rank n s).state ≢ Some t
ranks_come image t rank zero k p s at low high = absurd (omega (arith, low, high))
ranks_come image t rank (suc n) k p s at low high =
    let first : Started = at_rank image t rank 0 image.processes s in
    elim (cases_lt rank p.rank) [
      | inl later ↦ ranks_come image t (rank + 1) n k p first.state at (omega arith) (omega arith)
      | inr now ↦
          let is : p.rank ≡ rank = omega arith in
          let here : 0 + k ≡ k = omega arith in
          let own : due_of k first.state ≢ Some t = subst (λ (i : ℕ). due_of i first.state ≢ Some t) here (rank_comes image t rank 0 k image.processes p s at is) in
          over_stays t (due_of k first.state) (due_of k (time_outs image t (rank + 1) n first.state).state) ((time_outs_end image t (rank + 1) n first.state).waits k) own
    ]

-- ---- all start events

moved_is : (t : ℕ) (old new : Option ℕ) → IsOver t old new → new ≢ Some t → new ≡ moved_on t None old
moved_is t None new (inl same) not_due = same
moved_is t None new (inr now) not_due = absurd (let is : None ≡ Some t = now.0 in cc)
moved_is t (Some r) new (inr now) not_due =
    let same : r ≡ t = (let is : Some r ≡ Some t = now.0 in cc) in
    let test : nat_eq r t ≡ true = grind (arith, nat_tests, same) in
    now.1 ∙ sym (ap (λ (b : Bool). cond b None (Some r)) test)
moved_is t (Some r) new (inl same) not_due = by (nat_eq r t) refl where
  by : (b : Bool) → nat_eq r t ≡ b → new ≡ cond b None (Some r)
  by false isnt = same
  by true is = absurd (not_due (same ∙ ap (λ (x : ℕ). Some x) (grind (arith, nat_tests, is))))

-- the start events of a tick end the waits that are due, and no other
pub record StartsEnd (t : ℕ) (image : Image) (s s' : State) : Type 0 where
  pub waits : (k : ℕ) (p : Process) → slice_get image.processes k ≡ Some p → due_of k s' ≡ moved_on t None (due_of k s)
  pub count : length s'.threads ≡ length s.threads

pub starts_end : (image : Image) (script : Script) (t : ℕ) (s : State) → HasOwnRanks image → StartsEnd t image s (starts image script t s).state
unfolding starts
starts_end image script t s ranks =
    let a : State = (lines image t script.lines s).state in
    let b : State = (periodic image t 0 image.processes a).state in
    let kept : KeepsWaits s b = keeps_then s a b (lines_keep_waits image t script.lines s) (periodic_keeps_waits image t 0 image.processes a) in
    let ends : EndsWaits t b (time_outs image t 1 (length image.processes) b).state = time_outs_end image t 1 (length image.processes) b in
    record {
      waits = λ k p at.
          let come : due_of k (time_outs image t 1 (length image.processes) b).state ≢ Some t =
          ranks_come image t 1 (length image.processes) k p b at (omega (arith, ranks.from k p at)) (omega (arith, ranks.to k p at)) in
          moved_is t (due_of k b) (due_of k (time_outs image t 1 (length image.processes) b).state) (ends.waits k) come ∙ ap (λ (x : Option ℕ). moved_on t None x) (kept.waits k);
      count = ends.count ∙ kept.count;
    }
