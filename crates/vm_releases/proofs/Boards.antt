-- Boards and plans, process by process.
use Rattle.std.proofs.Common.{◌≡◌, ◌<◌, ◌*◌, ◌++◌, ℕ, zero, suc, List, [], ◌∷◌, Option, Some, None, length, get_or, map, arith, refl, ap, sym, subst, ◌∙◌, true, false, Bool}
use Rattle.std.specs.Prelude.{slice_get, slice_set, cond, nat_eq}
use Rattle.std.proofs.lemmas.Bool.Decides.{nat_tests}
use Rattle.base.specs.declared.event.Event.{Event}
use Rattle.base.specs.declared.event.Act.TheVariants as act
use Rattle.machine_semantics.specs.Image.{Image, Process as Whole}
use Rattle.machine_semantics.specs.State.{Thread, Idle, Ready, Waiting, State}
use Rattle.machine_semantics.specs.Starts.{Started, release_thread, released, raised, without, queue_of, time_out, unchanged}
use Rattle.vm_stretch.specs.StretchDue.{time_out_of}
use Rattle.vm_state.specs.declared.threads.ControlBlock.{ControlBlock}
use Rattle.vm_state.specs.Threads.{rooms_of, thread_of, threads_of}
use Rattle.vm_state.specs.declared.decoded_image.DecodedProcess.{DecodedProcess}
use Rattle.vm_state.specs.Plan.{AreProcesses, IsProcess}
use Rattle.vm_stretch.specs.Steps.{HasStarted, release_of}
use Rattle.vm_releases.specs.Begin.{HaveQueues, expiry_at, expiry_of, release_at}
use Rattle.vm_releases.specs.Expired.{EndsAs, timed_out}
use Rattle.vm_releases.specs.declared.time_out.Wait.{Wait}
use Rattle.vm_state.proofs.Waking.{threads_set}

-- ---- plans

pub as_many : (ws : List Whole) (ps : List DecodedProcess) → AreProcesses ws ps → length ws ≡ length ps
as_many [] [] are = refl
as_many [] (p ∷ ps) are = absurd are
as_many (w ∷ ws) [] are = absurd are
as_many (w ∷ ws) (p ∷ ps) are = ap suc (as_many ws ps are.1)

-- what the image has of the process
pub record Planned (ws : List Whole) (k : ℕ) (p : DecodedProcess) : Type 0 where
  pub whole : Whole
  pub there : slice_get ws k ≡ Some whole
  pub is : IsProcess whole p

pub planned : (ws : List Whole) (ps : List DecodedProcess) (k : ℕ) (p : DecodedProcess) → AreProcesses ws ps → k < length ws → p ≡ get_or ps k p → Planned ws k p
planned [] ps k p are below is = absurd (omega arith)
planned (w ∷ ws) [] k p are below is = absurd are
planned (w ∷ ws) (q ∷ ps) zero p are below is = record { whole = w; there = refl; is = subst (λ (x : DecodedProcess). IsProcess w x) (sym is) are.0 }
planned (w ∷ ws) (q ∷ ps) (suc k) p are below is = let rest = planned ws ps k p are.1 (omega (arith, below)) is in record { whole = rest.whole; there = rest.there; is = rest.is }

-- ---- boards

pub as_long : (cs : List ControlBlock) (ws : List Whole) → rooms_of cs ≡ map (λ (p : Whole). p.stack) ws → length cs ≡ length ws
as_long [] [] rooms = refl
as_long [] (w ∷ ws) rooms = absurd cc
as_long (c ∷ cs) [] rooms = absurd cc
as_long (c ∷ cs) (w ∷ ws) rooms = let rest : rooms_of cs ≡ map (λ (p : Whole). p.stack) ws = cc in ap suc (as_long cs ws rest)

pub cells_count : (image : Image) (cs : List ControlBlock) → rooms_of cs ≡ map (λ (p : Whole). p.stack) image.processes → length cs ≡ length image.processes
cells_count image cs rooms = as_long cs image.processes rooms

-- a process has the stack that it declares
pub room_is : (cs : List ControlBlock) (ws : List Whole) (k : ℕ) (c : ControlBlock) (w : Whole) → rooms_of cs ≡ map (λ (p : Whole). p.stack) ws → slice_get ws k ≡ Some w → c ≡ get_or cs k c → c.job.frames.room ≡ w.stack
room_is [] [] k c w rooms at is = absurd cc
room_is [] (v ∷ ws) k c w rooms at is = absurd cc
room_is (d ∷ cs) [] k c w rooms at is = absurd cc
room_is (d ∷ cs) (v ∷ ws) zero c w rooms at is =
    let first : d.job.frames.room ≡ v.stack = cc in
    let same : v ≡ w = cc in
    ap (λ (x : ControlBlock). x.job.frames.room) is ∙ first ∙ ap (λ (x : Whole). x.stack) same
room_is (d ∷ cs) (v ∷ ws) (suc k) c w rooms at is = let rest : rooms_of cs ≡ map (λ (p : Whole). p.stack) ws = cc in room_is cs ws k c w rest at is

pub rooms_set : (cs : List ControlBlock) (k : ℕ) (old new : ControlBlock) → old ≡ get_or cs k old → new.job.frames.room ≡ old.job.frames.room → rooms_of (slice_set cs k new) ≡ rooms_of cs
rooms_set [] k old new is room = refl
rooms_set (c ∷ cs) zero old new is room = let same : new.job.frames.room ≡ c.job.frames.room = room ∙ ap (λ (x : ControlBlock). x.job.frames.room) is in ap (λ (n : ℕ). n ∷ rooms_of cs) same
rooms_set (c ∷ cs) (suc k) old new is room = ap (λ (ns : List ℕ). c.job.frames.room ∷ ns) (rooms_set cs k old new is room)

pub threads_are : (cs : List ControlBlock) (k : ℕ) (c : ControlBlock) (t : Thread) → thread_of c ≡ t → threads_of (slice_set cs k c) ≡ slice_set (threads_of cs) k t
threads_are cs k c t is = threads_set cs k c ∙ ap (λ (x : Thread). slice_set (threads_of cs) k x) is

-- ---- one process starts

pub released_is : (image : Image) (t k : ℕ) (w : Whole) (s : State) (es es' : List Event) (ts : List Thread) (x : Thread) → slice_get image.processes k ≡ Some w → slice_get s.threads k ≡ Some x
    → (release_at image t k s).overrun ≡ false → ts ≡ slice_set s.threads k (Ready (released image w)) → es' ≡ es ++ record { tick = t; proc = k; act = act.Release } ∷ []
    → HasStarted (release_at image t k) s es (record s { threads = ts }) es'
released_is image t k w s es es' ts x at there calm threads told = record {
  state = ap (λ (xs : List Thread). record s { threads = xs }) threads ∙ sym (ap (λ (a : Started). a.state) is);
  events = told ∙ ap (λ (xs : List Event). es ++ xs) (sym (ap (λ (a : Started). a.events) is));
  calm = calm;
} where
  whole : release_at image t k s ≡ release_thread image t k w s (Some x)
  whole = ap (λ (o : Option Whole). release_of image t k o s) at ∙ ap (λ (o : Option Thread). release_thread image t k w s o) there

  idle : (y : Thread) → (release_thread image t k w s (Some y)).overrun ≡ false → release_thread image t k w s (Some y) ≡ release_thread image t k w s (Some Idle)
  idle Idle never = refl
  idle (Ready job) never = absurd (let over : true ≡ false = never in cc)
  idle (Waiting c due e job) never = absurd (let over : true ≡ false = never in cc)

  is : release_at image t k s ≡ release_thread image t k w s (Some Idle)
  is = whole ∙ idle x (sym (ap (λ (a : Started). a.overrun) whole) ∙ calm)

-- what the process waited for has a queue
pub wait_has_queue : (p : DecodedProcess) (dispatch_ticks k : ℕ) (s : State) (x y : Thread) (w : Wait) → HaveQueues s → slice_get s.threads k ≡ Some x → EndsAs p dispatch_ticks x (Some w) y → w.condition < length s.queues
wait_has_queue p dispatch_ticks k s Idle y w have there ends = absurd (let e : Some w ≡ None = ends in cc)
wait_has_queue p dispatch_ticks k s (Ready job) y w have there ends = absurd (let e : Some w ≡ None = ends in cc)
wait_has_queue p dispatch_ticks k s (Waiting c due e job) y w have there ends = subst (λ (n : ℕ). n < length s.queues) (sym ends.0) (have k c due e job there)

-- a process whose wait has timed out did wait
pub did_wait : (p : DecodedProcess) (dispatch_ticks t k : ℕ) (s : State) (x y : Thread) (o : Option Wait) → ((w : Wait) → o ≡ Some w → ⊥) → slice_get s.threads k ≡ Some x → time_out_of (slice_get s.threads k) ≡ Some t → EndsAs p dispatch_ticks x o y → ⊥
did_wait p dispatch_ticks t k s x y (Some w) not there expired ends = not w refl
did_wait p dispatch_ticks t k s Idle y None not there expired ends = let e : time_out_of (slice_get s.threads k) ≡ None = ap (λ (o : Option Thread). time_out_of o) there in absurd cc
did_wait p dispatch_ticks t k s (Ready job) y None not there expired ends = let e : time_out_of (slice_get s.threads k) ≡ None = ap (λ (o : Option Thread). time_out_of o) there in absurd cc
did_wait p dispatch_ticks t k s (Waiting c due e job) y None not there expired ends = ends

pub expired_is : (image : Image) (t k dispatch_ticks : ℕ) (w : Whole) (p : DecodedProcess) (s : State) (es es' : List Event) (ts : List Thread) (qs : List (List ℕ)) (x y : Thread) (wait : Wait)
    → slice_get image.processes k ≡ Some w → IsProcess w p → 2 * image.over ≡ dispatch_ticks → slice_get s.threads k ≡ Some x → time_out_of (slice_get s.threads k) ≡ Some t → EndsAs p dispatch_ticks x (Some wait) y
    → ts ≡ slice_set s.threads k y → qs ≡ slice_set s.queues wait.condition (without k (queue_of s.queues wait.condition))
    → es' ≡ es ++ record { tick = t; proc = k; act = act.TimeOut wait.condition wait.number } ∷ [] → HasStarted (expiry_at image t k) s es (record s { threads = ts; queues = qs }) es'
expired_is image t k dispatch_ticks w p s es es' ts qs Idle y wait at of burns there expired ends threads queues told = absurd (let e : Some wait ≡ None = ends in cc)
expired_is image t k dispatch_ticks w p s es es' ts qs (Ready job) y wait at of burns there expired ends threads queues told = absurd (let e : Some wait ≡ None = ends in cc)
expired_is image t k dispatch_ticks w p s es es' ts qs (Waiting c due e job) y wait at of burns there expired ends threads queues told = record {
  state = new ∙ sym (ap (λ (a : Started). a.state) is);
  events = told ∙ ap (λ (a : ℕ). es ++ record { tick = t; proc = k; act = act.TimeOut a wait.number } ∷ []) ends.0 ∙ ap (λ (a : ℕ). es ++ record { tick = t; proc = k; act = act.TimeOut c a } ∷ []) ends.1
      ∙ ap (λ (xs : List Event). es ++ xs) (sym (ap (λ (a : Started). a.events) is));
  calm = ap (λ (a : Started). a.overrun) is;
} where
  same : due ≡ t
  same = let e' : time_out_of (slice_get s.threads k) ≡ Some due = ap (λ (o : Option Thread). time_out_of o) there in (let both : Some due ≡ Some t = sym e' ∙ expired in cc)

  is : expiry_at image t k s ≡ record { state = record s { threads = slice_set s.threads k (Ready (record (raised w e job) { dispatch_ticks = 2 * image.over })); queues = slice_set s.queues c (without k (queue_of s.queues c)) }; events = record { tick = t; proc = k; act = act.TimeOut c e } ∷ []; overrun = false }
  is =
      ap (λ (o : Option Whole). expiry_of image t k o s) at
      ∙ ap (λ (o : Option Thread). time_out image t k w s o) there
      ∙ ap (λ (b : Bool). cond b (let f : Started = record { state = record s { threads = slice_set s.threads k (Ready (record (raised w e job) { dispatch_ticks = 2 * image.over })); queues = slice_set s.queues c (without k (queue_of s.queues c)) }; events = record { tick = t; proc = k; act = act.TimeOut c e } ∷ []; overrun = false } in f) (unchanged s))
      (let test : nat_eq due t ≡ true = grind (arith, nat_tests, same) in test)

  thread : y ≡ Ready (record (raised w e job) { dispatch_ticks = 2 * image.over })
  thread = ends.2 w of ∙ ap (λ (n : ℕ). timed_out w n e job) (sym burns)

  new : record s { threads = ts; queues = qs } ≡ record s { threads = slice_set s.threads k (Ready (record (raised w e job) { dispatch_ticks = 2 * image.over })); queues = slice_set s.queues c (without k (queue_of s.queues c)) }
  new =
      ap (λ (xs : List Thread). record s { threads = xs; queues = qs }) (threads ∙ ap (λ (z : Thread). slice_set s.threads k z) thread)
      ∙ ap (λ (xs : List (List ℕ)). record s { threads = slice_set s.threads k (Ready (record (raised w e job) { dispatch_ticks = 2 * image.over })); queues = xs })
      (queues ∙ ap (λ (n : ℕ). slice_set s.queues n (without k (queue_of s.queues n))) ends.0)
