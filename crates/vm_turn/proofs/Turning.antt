-- A turn of one process of many.
use Rattle.std.proofs.Common.{◌≡◌, ◌≤◌, ◌<◌, ◌∙◌, ℕ, zero, suc, List, [], ◌∷◌, Option, Some, length, get_or, refl, ap, sym, subst, arith}
use Rattle.std.specs.Prelude.{ℤ, slice_get, slice_set}
use Rattle.std.specs.Global.{Vec}
use Rattle.std.proofs.lemmas.Option.{slice_get-get_or, slice_get_within}
use Rattle.std.proofs.lemmas.List.{length-map, length-set}
use Rattle.base.proofs.Lists.{map_get}
use Rattle.machine_semantics.specs.Image.{Image, Process}
use Rattle.machine_semantics.specs.State.{Job, Ready, State}
use Rattle.machine_semantics.specs.Tick.{owned_of, settle}
use Rattle.vm_stretch.specs.Stretch.{left, outcomes}
use Rattle.vm_state.specs.declared.threads.ControlBlock.{ControlBlock}
use Rattle.vm_state.specs.declared.threads.SchedulingState.{SchedulingState}
use Rattle.vm_state.specs.declared.threads.SchedulingState.TheVariants as stand
use Rattle.vm_state.specs.Threads.{rooms_of, thread_by, thread_of, threads_of}
use Rattle.vm_state.proofs.Waking.{rooms_at, threads_set}
use Rattle.vm_instructions.specs.declared.activation.Activation.{Activation as Kept}
use Rattle.vm_instructions.specs.Silent.{job_of}
use Rattle.vm_state.specs.declared.decoded_image.DecodedProcess.{DecodedProcess as Known}
use Rattle.vm_state.specs.declared.decoded_image.DecodedImage.{DecodedImage}
use Rattle.vm_state.specs.declared.machine_state.MachineState.{MachineState}
use Rattle.vm_state.specs.Plan.{AreProcesses, IsOf, IsProcess}
use Rattle.vm_state.specs.Board.{IsBoardOf, rows_of, state_of}
use Rattle.vm_turn.specs.declared.outcome.Outcome.{Outcome as Come}
use Rattle.vm_turn.specs.Own.{Around, CanCome, IsEarly}
use Rattle.vm_turn.proofs.Room.{room_of}
use Rattle.machine_semantics.specs.Queues.{AreQueued}
use Rattle.vm_turn.specs.Settled.{CanPass, HaveRoom, IsAround, SettlesAs, after, with_thread}

-- ---- elements of lists

pub read_at : {X : Type 0} (xs : List X) (k : ℕ) (x : X) → k < length xs → x ≡ get_or xs k x → slice_get xs k ≡ Some x
read_at xs k x below is = slice_get-get_or xs k x below ∙ ap (λ (y : _). Some y) (sym is)

rows_set : (vs : List (Vec ℤ)) (k : ℕ) (v : Vec ℤ) → rows_of (slice_set vs k v) ≡ slice_set (rows_of vs) k v.items
rows_set [] k v = refl
rows_set (w ∷ vs) zero v = refl
rows_set (w ∷ vs) (suc k) v = ap (λ (xs : List (List ℤ)). w.items ∷ xs) (rows_set vs k v)

-- ---- what is found

pub many : (ws : List Process) (ps : List Known) → AreProcesses ws ps → length ws ≡ length ps
many [] [] are = refl
many [] (p ∷ ps) are = absurd are
many (w ∷ ws) [] are = absurd are
many (w ∷ ws) (p ∷ ps) are = ap suc (many ws ps are.1)

pub process_is : (ws : List Process) (ps : List Known) (k : ℕ) (w : Process) (p : Known) → AreProcesses ws ps → slice_get ws k ≡ Some w → slice_get ps k ≡ Some p → IsProcess w p
process_is [] ps k w p are at_w at_p = absurd cc
process_is (x ∷ ws) [] k w p are at_w at_p = absurd are
process_is (x ∷ ws) (y ∷ ps) zero w p are at_w at_p =
    let a : x ≡ w = cc in let b : y ≡ p = cc in
    subst (λ (u : Process). IsProcess u p) a (subst (λ (v : Known). IsProcess x v) b are.0)
process_is (x ∷ ws) (y ∷ ps) (suc k) w p are at_w at_p = process_is ws ps k w p are.1 at_w at_p

-- there is a place for process k
pub record Placed (plan : DecodedImage) (b : MachineState) (k : ℕ) : Type 0 where
  pub process : k < length plan.processes.items
  pub cell : k < length b.cells.items
  pub owned : k < length b.owned.items
  pub cells : length b.cells.items ≡ length plan.processes.items

pub placed_at : (image : Image) (plan : DecodedImage) (b : MachineState) (k : ℕ) → IsOf image plan → IsBoardOf image b → k < length image.processes → Placed plan b k
placed_at image plan b k is board there =
    let same = many image.processes plan.processes.items is.processes in
    let rooms = ap (λ (ns : List ℕ). length ns) board.rooms in
    let left = length-map b.cells.items (λ (c : ControlBlock). c.job.frames.room) in
    let right = length-map image.processes (λ (p : Process). p.stack) in
    record { process = omega (arith, there, same); cell = omega (arith, there, rooms, left, right); owned = omega (arith, there, board.owned); cells = omega (arith, same, rooms, left, right) }

pub placed : (image : Image) (plan : DecodedImage) (b : MachineState) (k n : ℕ) → IsOf image plan → IsBoardOf image b → CanPass image n k (state_of b) → Placed plan b k
placed image plan b k n is board can = placed_at image plan b k is board (slice_get_within image.processes k can.p can.process)

-- the process that is read is ready
pub record Reads (job : Job) (c : ControlBlock) : Type 0 where
  pub stands : c.stand ≡ stand.Ready
  pub same : job_of c.job ≡ job

reads_by : (s : SchedulingState) (j : Kept) (job : Job) → thread_by s j ≡ Ready job → (s ≡ stand.Ready) × (job_of j ≡ job)
reads_by stand.Idle j job is = absurd cc
reads_by stand.Ready j job is = (refl, cc)
reads_by (stand.Waiting c d n) j job is = absurd cc

pub reads : (cs : List ControlBlock) (k : ℕ) (job : Job) (c : ControlBlock) → slice_get (threads_of cs) k ≡ Some (Ready job) → slice_get cs k ≡ Some c → Reads job c
reads cs k job c ready at =
    let e : thread_of c ≡ Ready job = cc (map_get thread_of cs k c at, ready) in
    let r = reads_by c.stand c.job job e in record { stands = r.0; same = r.1 }

-- all that its turn asks for
pub record Needs (at : Around) (n : ℕ) (c : ControlBlock) : Type 0 where
  pub stands : c.stand ≡ stand.Ready
  pub fits : n ≤ left at.image (job_of c.job)
  pub early : IsEarly at.image (job_of c.job)
  pub can : CanCome c.job.frames.room (outcomes at.image at.state (job_of c.job) at.owned n c.job.dispatch_ticks)

pub room_is : (image : Image) (b : MachineState) (k : ℕ) (p : Process) (c : ControlBlock) → IsBoardOf image b → slice_get image.processes k ≡ Some p → slice_get b.cells.items k ≡ Some c → c.job.frames.room ≡ p.stack
room_is image b k p c board at_p at_c = cc (map_get (λ (x : ControlBlock). x.job.frames.room) b.cells.items k c at_c, map_get (λ (x : Process). x.stack) image.processes k p at_p, ap (λ (ns : List ℕ). slice_get ns k) board.rooms)

can_moved : (image : Image) (n room room' : ℕ) (s s' : State) (job job' : Job) (ow ow' : List ℤ) → room ≡ room' → s ≡ s' → job ≡ job' → ow ≡ ow' → CanCome room (outcomes image s job ow n job.dispatch_ticks) → CanCome room' (outcomes image s' job' ow' n job'.dispatch_ticks)
can_moved image n room room' s s' job job' ow ow' a b c d can =
    subst (λ (m : ℕ). CanCome m (outcomes image s' job' ow' n job'.dispatch_ticks)) a
    (subst (λ (u : State). CanCome room (outcomes image u job' ow' n job'.dispatch_ticks)) b
    (subst (λ (j : Job). CanCome room (outcomes image s j ow' n j.dispatch_ticks)) c
    (subst (λ (w : List ℤ). CanCome room (outcomes image s job w n job.dispatch_ticks)) d can)))

pub needs : (at : Around) (b : MachineState) (k n : ℕ) (c : ControlBlock) → IsBoardOf at.image b → IsAround at k b → CanPass at.image n k (state_of b) → slice_get b.cells.items k ≡ Some c → Needs at n c
needs at b k n c board around can at_c =
    let r = reads b.cells.items k can.job c can.ready at_c in
    let room = room_is at.image b k can.p c board can.process at_c in
    let words : at.owned ≡ owned_of (slice_get (state_of b).owned k) = around.owned ∙ ap (λ (s : State). owned_of (slice_get s.owned k)) around.state in
    record {
      stands = r.stands;
      fits = subst (λ (j : Job). n ≤ left at.image j) (sym r.same) can.fits;
      early = subst (λ (j : Job). IsEarly at.image j) (sym r.same) can.early;
      can = can_moved at.image n can.p.stack c.job.frames.room (state_of b) at.state can.job (job_of c.job) (owned_of (slice_get (state_of b).owned k)) at.owned (sym room) (sym around.state) (sym r.same) (sym words) can.can;
    }

pub row_is : (vs : List (Vec ℤ)) (k : ℕ) (v : Vec ℤ) → slice_get vs k ≡ Some v → owned_of (slice_get (rows_of vs) k) ≡ v.items
row_is vs k v at = ap (λ (o : Option (List ℤ)). owned_of o) (map_get (λ (w : Vec ℤ). w.items) vs k v at)

pub words_are : (at : Around) (b : MachineState) (k : ℕ) (v : Vec ℤ) → IsAround at k b → slice_get b.owned.items k ≡ Some v → at.owned ≡ v.items
words_are at b k v around at_v = around.owned ∙ ap (λ (s : State). owned_of (slice_get s.owned k)) around.state ∙ row_is b.owned.items k v at_v

-- ---- what is left

settle_moved : (image : Image) (t n k : ℕ) (p : Process) (r : Come) (x : State → State) (s s' : State) (job job' : Job) (ow ow' : List ℤ) → s ≡ s' → job ≡ job' → ow ≡ ow'
    → settle image t k p job s (outcomes image s job ow n job.dispatch_ticks) ≡ after image t k r (x s) → settle image t k p job' s' (outcomes image s' job' ow' n job'.dispatch_ticks) ≡ after image t k r (x s')
settle_moved image t n k p r x s s' job job' ow ow' a b c h =
    subst (λ (u : State). settle image t k p job' u (outcomes image u job' ow' n job'.dispatch_ticks) ≡ after image t k r (x u)) a
    (subst (λ (j : Job). settle image t k p j s (outcomes image s j ow' n j.dispatch_ticks) ≡ after image t k r (x s)) b
    (subst (λ (w : List ℤ). settle image t k p job s (outcomes image s job w n job.dispatch_ticks) ≡ after image t k r (x s)) c h))

-- the board with another cell, other words of its process and others of the monitors
pub stands_anew : (b new : MachineState) (k : ℕ) (c : ControlBlock) (v : Vec ℤ) (ow sh : List ℤ) → new.cells.items ≡ slice_set b.cells.items k c → new.owned.items ≡ slice_set b.owned.items k v → v.items ≡ ow → new.shared.items ≡ sh → new.queues ≡ b.queues → new.devices.items ≡ b.devices.items
    → with_thread k (thread_of c) ow sh (state_of b) ≡ state_of new
stands_anew b new k c v ow sh cells owned row shared queues devices =
    let threads : threads_of new.cells.items ≡ slice_set (threads_of b.cells.items) k (thread_of c) = ap (λ (cs : List ControlBlock). threads_of cs) cells ∙ threads_set b.cells.items k c in
    let words : rows_of new.owned.items ≡ slice_set (rows_of b.owned.items) k ow = ap (λ (vs : List (Vec ℤ)). rows_of vs) owned ∙ rows_set b.owned.items k v ∙ ap (λ (w : List ℤ). slice_set (rows_of b.owned.items) k w) row in
    rw (threads, words, shared, queues, devices) refl

pub turned : (at : Around) (t n k : ℕ) (known : Known) (b new : MachineState) (r : Come) (c c' : ControlBlock) (ow sh : List ℤ) (p : Process) (job : Job) → SettlesAs at n t k known c r c' ow sh → IsProcess p known → IsAround at k b
    → slice_get (threads_of b.cells.items) k ≡ Some (Ready job) → slice_get b.cells.items k ≡ Some c → with_thread k (thread_of c') ow sh (state_of b) ≡ state_of new
    → settle at.image t k p job (state_of b) (outcomes at.image (state_of b) job (owned_of (slice_get (state_of b).owned k)) n job.dispatch_ticks) ≡ after at.image t k r (state_of new)
turned at t n k known b new r c c' ow sh p job settles is around ready at_c anew =
    let read = reads b.cells.items k job c ready at_c in
    let words : at.owned ≡ owned_of (slice_get (state_of b).owned k) = around.owned ∙ ap (λ (s : State). owned_of (slice_get s.owned k)) around.state in
    settle_moved at.image t n k p r (λ s. with_thread k (thread_of c') ow sh s) at.state (state_of b) (job_of c.job) job at.owned (owned_of (slice_get (state_of b).owned k)) around.state read.same words (settles p is around.owned around.shared)
    ∙ ap (λ (s : State). after at.image t k r s) anew

pub keeps : (image : Image) (b new : MachineState) (k : ℕ) (c c' : ControlBlock) (v : Vec ℤ) → IsBoardOf image b → k < length b.cells.items → c ≡ get_or b.cells.items k c → c'.job.frames.room ≡ c.job.frames.room
    → new.cells.items ≡ slice_set b.cells.items k c' → new.owned.items ≡ slice_set b.owned.items k v → new.queues ≡ b.queues → new.devices.items ≡ b.devices.items → IsBoardOf image new
keeps image b new k c c' v board below is room cells owned queues devices = record {
  rooms = ap (λ (cs : List ControlBlock). rooms_of cs) cells ∙ rooms_at b.cells.items k c c' below is room ∙ board.rooms;
  owned = ap (λ (vs : List (Vec ℤ)). length vs) owned ∙ length-set b.owned.items k v ∙ board.owned;
  queues = ap (λ (qs : List (List ℕ)). length qs) queues ∙ board.queues;
  devices = ap (λ (ds : List ℤ). length ds) devices ∙ board.devices;
}

-- the queues have room while process k, which is ready, runs
pub room_while : (image : Image) (plan : DecodedImage) (b new : MachineState) (k : ℕ) (job : Job) → IsOf image plan → IsBoardOf image b → AreQueued (state_of b) → slice_get (threads_of b.cells.items) k ≡ Some (Ready job) → new.queues ≡ b.queues → (cells : ℕ) → cells ≡ length b.cells.items → HaveRoom cells new.queues
room_while image plan b new k job is board queued ready same cells count =
    let rooms = ap (λ (ns : List ℕ). length ns) board.rooms in
    let left = length-map b.cells.items (λ (c : ControlBlock). c.job.frames.room) in
    let right = length-map image.processes (λ (p : Process). p.stack) in
    subst (λ (qs : List (List ℕ)). HaveRoom cells qs) (sym same)
    (room_of (threads_of b.cells.items) b.queues k cells (Ready job) queued ready (λ c. refl) (length-map b.cells.items thread_of ∙ sym count) (omega (arith, count, rooms, left, right, is.few)))

pub room_for : (image : Image) (plan : DecodedImage) (b new : MachineState) (k n : ℕ) → IsOf image plan → IsBoardOf image b → AreQueued (state_of b) → CanPass image n k (state_of b) → new.queues ≡ b.queues → (cells : ℕ) → cells ≡ length b.cells.items → HaveRoom cells new.queues
room_for image plan b new k n is board queued can same cells count = room_while image plan b new k can.job is board queued can.ready same cells count
