-- What a turn does to the waits, and waits in queues.
use Rattle.std.proofs.Common.{◌≡◌, ◌≤◌, ◌<◌, ◌+◌, ◌-◌, ◌++◌, inl, inr, ℕ, zero, suc, Bool, true, false, List, [], ◌∷◌, Option, Some, None, length, take, drop, arith, refl, ap, sym, subst, ◌∙◌}
use Rattle.std.specs.Prelude.{◌||◌, slice_get, slice_set, cond, nat_eq}
use Rattle.std.proofs.Math.Seq.{drop-append_seam}
use Rattle.std.proofs.lemmas.Bool.Decides.{nat_tests}
use Rattle.std.proofs.lemmas.List.{length-drop, take_all}
use Rattle.base.proofs.Lists.{get_other, get_set, get_of_set}
use Rattle.base.specs.declared.event.Event.{Event}
use Rattle.machine_semantics.specs.Image.{Image, Process}
use Rattle.machine_semantics.specs.State.{Job, Thread, Idle, Ready, Waiting, State}
use Rattle.machine_semantics.specs.Effect.{Outcome, Goes, Does, Signals, Broadcasts, Waits, Raises, Ends, Stuck}
use Rattle.machine_semantics.specs.Starts.{queue_of, raised}
use Rattle.machine_semantics.specs.Tick.{first, settle, wake, wake_all, wake_first, woken}
use Rattle.machine_semantics.specs.Queues.{AreQueued, times, waits_on}
use Rattle.vm_stretch.proofs.Lists.{same_or_not}
use Rattle.vm_releases.specs.Begin.{HaveQueues}
use Rattle.vm_stretch.specs.StretchDue.{time_out_of}
use Rattle.vm_runner.specs.Waits.{WaitsFrom, is_at_queue, is_some_at_queue}

-- ---- the events of a row

-- of one event alone
pub one_at_queue : (es : List Event) (e : Event) → length es ≡ 1 → slice_get es 0 ≡ Some e → is_some_at_queue es ≡ is_at_queue e.act
one_at_queue [] e one at = absurd cc
one_at_queue (x ∷ []) e one at =
    let same : x ≡ e = cc in
    or_none (is_at_queue x.act) ∙ ap (λ (y : Event). is_at_queue y.act) same where
      or_none : (b : Bool) → b || false ≡ b
      or_none true = refl
      or_none false = refl
one_at_queue (x ∷ y ∷ es) e one at = absurd (omega (arith, one))

-- ---- waits that begin

pub from_then : (v : ℕ) (a b c : List Thread) → WaitsFrom v a b → WaitsFrom v b c → WaitsFrom v a c
from_then v a b c one two j k d e job at = elim (two j k d e job at) [ inl old ↦ one j k d e job old | inr later ↦ inr later ]

set_from : (v : ℕ) (ts : List Thread) (k : ℕ) (x : Thread) → ((c d e : ℕ) (job : Job) → x ≡ Waiting c d e job → v ≤ d) → WaitsFrom v ts (slice_set ts k x)
set_from v ts k x new j c d e job at = elim (get_of_set ts k x j (Waiting c d e job) at) [ inl is ↦ inr (new c d e job is) | inr old ↦ inl old ]

never_waits : (image : Image) (o : Option Thread) (c d e : ℕ) (job : Job) → woken image o ≡ Waiting c d e job → ⊥
never_waits image None c d e job is = cc
never_waits image (Some Idle) c d e job is = cc
never_waits image (Some (Ready old)) c d e job is = cc
never_waits image (Some (Waiting a b f old)) c d e job is = cc

wake_from : (v : ℕ) (image : Image) (j : ℕ) (ts : List Thread) → WaitsFrom v ts (wake image j ts)
wake_from v image j ts = set_from v ts j (woken image (slice_get ts j)) (λ c d e job is. absurd (never_waits image (slice_get ts j) c d e job is))

wake_all_from : (v : ℕ) (image : Image) (js : List ℕ) (ts : List Thread) → WaitsFrom v ts (wake_all image js ts)
wake_all_from v image [] ts = λ j c d e job at. inl at
wake_all_from v image (k ∷ js) ts = from_then v ts (wake image k ts) (wake_all image js (wake image k ts)) (wake_from v image k ts) (wake_all_from v image js (wake image k ts))

wake_first_from : (v : ℕ) (image : Image) (o : Option ℕ) (ts : List Thread) → WaitsFrom v ts (wake_first image o ts)
wake_first_from v image None ts = λ j c d e job at. inl at
wake_first_from v image (Some k) ts = wake_from v image k ts

pub ready_from : (v : ℕ) (ts : List Thread) (k : ℕ) (job : Job) → WaitsFrom v ts (slice_set ts k (Ready job))
ready_from v ts k job = set_from v ts k (Ready job) (λ c d e job' is. absurd cc)

-- after the tick u of a process each wait is an old one, or times out later
pub settle_from : (image : Image) (u k : ℕ) (p : Process) (job : Job) (s : State) (out : Outcome) (v : ℕ) → v ≤ u + 1 → WaitsFrom v s.threads (settle image u k p job s out).state.threads
settle_from image u k p job s (Goes o) v low = ready_from v s.threads k o.job
settle_from image u k p job s (Does a o) v low = ready_from v s.threads k o.job
settle_from image u k p job s (Signals c o) v low =
    from_then v s.threads (slice_set s.threads k (Ready o.job)) (wake_first image (first (queue_of s.queues c)) (slice_set s.threads k (Ready o.job))) (ready_from v s.threads k o.job) (wake_first_from v image (first (queue_of s.queues c)) (slice_set s.threads k (Ready o.job)))
settle_from image u k p job s (Broadcasts c o) v low =
    from_then v s.threads (slice_set s.threads k (Ready o.job)) (wake_all image (queue_of s.queues c) (slice_set s.threads k (Ready o.job))) (ready_from v s.threads k o.job) (wake_all_from v image (queue_of s.queues c) (slice_set s.threads k (Ready o.job)))
settle_from image u k p job s (Waits c limit e o) v low =
    set_from v s.threads k (Waiting c (u + limit + 1) e o.job) (λ c' d e' job' is. (let due : u + limit + 1 ≡ d = cc in omega (arith, due, low)))
settle_from image u k p job s (Raises e) v low = ready_from v s.threads k (raised p e job)
settle_from image u k p job s Ends v low = set_from v s.threads k Idle (λ c d e job' is. absurd cc)
settle_from image u k p job s Stuck v low = λ j c d e job' at. inl at

-- ---- waits that stay

pub set_same : (ts : List Thread) (k j : ℕ) (x y : Thread) → slice_get ts k ≡ Some y → time_out_of (Some x) ≡ None → time_out_of (Some y) ≡ None → time_out_of (slice_get (slice_set ts k x) j) ≡ time_out_of (slice_get ts j)
set_same ts k j x y at none_x none_y =
    elim (same_or_not k j) [
      | inl same ↦ subst (λ (i : ℕ). time_out_of (slice_get (slice_set ts k x) i) ≡ time_out_of (slice_get ts i)) same
          (ap (λ (o : Option Thread). time_out_of o) (get_set ts k x y at) ∙ none_x ∙ sym none_y ∙ sym (ap (λ (o : Option Thread). time_out_of o) at))
      | inr differ ↦ ap (λ (o : Option Thread). time_out_of o) (get_other ts k j x differ)
    ]

-- where no event is at a queue, each wait times out as before
pub settle_same : (image : Image) (u k : ℕ) (p : Process) (job : Job) (s : State) (out : Outcome) (j : ℕ) → is_some_at_queue (settle image u k p job s out).events ≡ false → slice_get s.threads k ≡ Some (Ready job)
    → time_out_of (slice_get (settle image u k p job s out).state.threads j) ≡ time_out_of (slice_get s.threads j)
settle_same image u k p job s (Goes o) j quiet at = set_same s.threads k j (Ready o.job) (Ready job) at refl refl
settle_same image u k p job s (Does a o) j quiet at = set_same s.threads k j (Ready o.job) (Ready job) at refl refl
settle_same image u k p job s (Signals c o) j quiet at = absurd (let no : true ≡ false = quiet in cc)
settle_same image u k p job s (Broadcasts c o) j quiet at = absurd (let no : true ≡ false = quiet in cc)
settle_same image u k p job s (Waits c limit e o) j quiet at = absurd (let no : true ≡ false = quiet in cc)
settle_same image u k p job s (Raises e) j quiet at = set_same s.threads k j (Ready (raised p e job)) (Ready job) at refl refl
settle_same image u k p job s Ends j quiet at = set_same s.threads k j Idle (Ready job) at refl refl
settle_same image u k p job s Stuck j quiet at = refl

-- and every other process stands as before
pub settle_alone : (image : Image) (u k : ℕ) (p : Process) (job : Job) (s : State) (out : Outcome) (j : ℕ) → is_some_at_queue (settle image u k p job s out).events ≡ false → (k ≡ j → ⊥) → slice_get (settle image u k p job s out).state.threads j ≡ slice_get s.threads j
settle_alone image u k p job s (Goes o) j quiet apart = get_other s.threads k j (Ready o.job) apart
settle_alone image u k p job s (Does a o) j quiet apart = get_other s.threads k j (Ready o.job) apart
settle_alone image u k p job s (Signals c o) j quiet apart = absurd (let no : true ≡ false = quiet in cc)
settle_alone image u k p job s (Broadcasts c o) j quiet apart = absurd (let no : true ≡ false = quiet in cc)
settle_alone image u k p job s (Waits c limit e o) j quiet apart = absurd (let no : true ≡ false = quiet in cc)
settle_alone image u k p job s (Raises e) j quiet apart = get_other s.threads k j (Ready (raised p e job)) apart
settle_alone image u k p job s Ends j quiet apart = get_other s.threads k j Idle apart
settle_alone image u k p job s Stuck j quiet apart = refl

-- what stands after the first n is what came to those
pub come_after : (old fell all : List Event) (n : ℕ) → n ≡ length old → all ≡ old ++ fell → take (length all - n) (drop n all) ≡ fell
come_after old fell all n many is =
    let rest : drop n all ≡ fell = ap (λ (k : ℕ). drop k all) many ∙ ap (λ (es : List Event). drop (length old) es) is ∙ drop-append_seam old fell in
    let count : length (drop n all) ≡ length all - n = length-drop n all in
    take_all (length all - n) (drop n all) (omega (arith, count)) ∙ rest

-- a wait that times out is there
pub is_waiting : (o : Option Thread) (r : ℕ) → time_out_of o ≡ Some r → (c : ℕ) × ((e : ℕ) × ((job : Job) × (o ≡ Some (Waiting c r e job))))
is_waiting None r is = absurd cc
is_waiting (Some Idle) r is = absurd cc
is_waiting (Some (Ready job)) r is = absurd cc
is_waiting (Some (Waiting c due e job)) r is = let same : due ≡ r = cc in (c, (e, (job, ap (λ (d : ℕ). Some (Waiting c d e job)) same)))

-- ---- queues

pub in_queue : (k c : ℕ) (qs : List (List ℕ)) → times k (queue_of qs c) ≡ 1 → c < length qs
in_queue k c [] is = absurd cc
in_queue k zero (q ∷ qs) is = omega arith
in_queue k (suc c) (q ∷ qs) is = let below = in_queue k c qs is in omega (arith, below)

-- who waits does so on a condition that has a queue
pub queued_have : (s : State) → AreQueued s → HaveQueues s
queued_have s queued k c due e job at =
    let test : nat_eq c c ≡ true = grind (arith, nat_tests) in
    let one : waits_on c (Some (Waiting c due e job)) ≡ 1 = ap (λ (b : Bool). cond b 1 0) test in
    in_queue k c s.queues (queued c k ∙ ap (λ (o : Option Thread). waits_on c o) at ∙ one)

pub fell_is : (old fell all : List Event) → all ≡ old ++ fell → drop (length old) all ≡ fell
fell_is old fell all is = ap (λ (es : List Event). drop (length old) es) is ∙ drop-append_seam old fell
