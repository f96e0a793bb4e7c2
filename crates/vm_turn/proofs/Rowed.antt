-- One process of many runs.
use Rattle.std.proofs.Common.{◌≡◌, ◌<◌, ◌∙◌, ℕ, List, Some, length, get_or, refl, ap, sym, subst}
use Rattle.std.specs.Prelude.{ℤ, slice_get, slice_set}
use Rattle.std.specs.Global.{Vec}
use Rattle.machine_semantics.specs.Image.{Image, Process}
use Rattle.machine_semantics.specs.State.{Job, Thread, Ready, State}
use Rattle.machine_semantics.specs.Effect.{Own}
use Rattle.machine_semantics.specs.Tick.{owned_of, settle}
use Rattle.vm_stretch.proofs.StretchMoving.{set_owned}
use Rattle.vm_state.proofs.Waking.{rooms_at, threads_set}
use Rattle.vm_state.specs.declared.decoded_image.DecodedProcess.{DecodedProcess as Known}
use Rattle.vm_state.specs.Plan.{IsProcess}
use Rattle.vm_turn.specs.declared.outcome.Outcome.{Outcome as Come}
use Rattle.vm_turn.specs.Own.{Around, CanCome}
use Rattle.vm_stretch.specs.Silent.{IsSafeFor, with_process}
use Rattle.vm_state.specs.declared.threads.ControlBlock.{ControlBlock}
use Rattle.vm_state.specs.declared.threads.SchedulingState.TheVariants as stand
use Rattle.vm_state.specs.Threads.{rooms_of, thread_of, threads_of}
use Rattle.vm_instructions.specs.declared.burst.Halt.{Halt}
use Rattle.vm_instructions.specs.Rows.{Runs}
use Rattle.vm_instructions.specs.Silent.{job_of, own_of}
use Rattle.vm_state.specs.declared.machine_state.MachineState.{MachineState}
use Rattle.vm_state.specs.Board.{IsBoardOf, rows_of, state_of}
use Rattle.vm_turn.proofs.Settling.{ready}
use Rattle.vm_turn.proofs.Turning.{reads, room_is}
use Rattle.vm_turn.specs.Settled.{IsAround, after, with_thread}
use Rattle.vm_turn.specs.Rows.{CanEnd, CanRun, EndsAs, IsSeenAt, outcome_of, own_at}

own_is : (b : MachineState) (k : ℕ) (c : ControlBlock) (ow sh : List ℤ) (job : Job) → job_of c.job ≡ job → owned_of (slice_get (state_of b).owned k) ≡ ow → b.shared.items ≡ sh → own_at k job (state_of b) ≡ own_of c.job ow sh
own_is b k c ow sh job same words others = rw (← same, words, others) refl

pub safe_row : (image : Image) (b : MachineState) (k budget : ℕ) (c : ControlBlock) (ow sh : List ℤ) → IsBoardOf image b → CanRun image budget k (state_of b) → slice_get b.cells.items k ≡ Some c → owned_of (slice_get (state_of b).owned k) ≡ ow → b.shared.items ≡ sh
    → IsSafeFor image c.job.frames.room (own_of c.job ow sh) budget
safe_row image b k budget c ow sh board can at_c words others =
    let r = reads b.cells.items k can.job c can.ready at_c in
    let room = room_is image b k can.p c board can.process at_c in
    subst (λ (n : ℕ). IsSafeFor image n (own_of c.job ow sh) budget) (sym room)
    (subst (λ (o : Own). IsSafeFor image can.p.stack o budget) (own_is b k c ow sh can.job r.same words others) can.safe)

pub has_run : (image : Image) (b new : MachineState) (k budget : ℕ) (c c' : ControlBlock) (ow sh ow' sh' : List ℤ) (halt : Halt) (job : Job) → slice_get (threads_of b.cells.items) k ≡ Some (Ready job) → slice_get b.cells.items k ≡ Some c
    → owned_of (slice_get (state_of b).owned k) ≡ ow → b.shared.items ≡ sh → c'.stand ≡ c.stand → Runs image (own_of c.job ow sh) budget halt (own_of c'.job ow' sh') → with_thread k (thread_of c') ow' sh' (state_of b) ≡ state_of new
    → (o : Own) × Runs image (own_at k job (state_of b)) budget halt o × (state_of new ≡ with_process k o (state_of b))
has_run image b new k budget c c' ow sh ow' sh' halt job is_ready at_c words others same runs anew =
    let r = reads b.cells.items k job c is_ready at_c in (
      own_of c'.job ow' sh',
      subst (λ (o : Own). Runs image o budget halt (own_of c'.job ow' sh')) (sym (own_is b k c ow sh job r.same words others)) runs,
      sym anew ∙ ap (λ (th : Thread). with_thread k th ow' sh' (state_of b)) (ready c' (same ∙ r.stands)),
    )

-- ---- the end of a row

own_around : (at : Around) (b : MachineState) (k : ℕ) (c : ControlBlock) (job : Job) → IsAround at k b → job_of c.job ≡ job → own_at k job (state_of b) ≡ own_of c.job at.owned at.shared
own_around at b k c job around same =
    own_is b k c at.owned at.shared job same (sym (around.owned ∙ ap (λ (s : State). owned_of (slice_get s.owned k)) around.state)) (sym (around.shared ∙ ap (λ (s : State). s.shared) around.state))

-- all that its end asks for
pub record NeedsEnd (at : Around) (h : Halt) (c : ControlBlock) : Type 0 where
  pub stands : c.stand ≡ stand.Ready
  pub seen : IsSeenAt at.image h c.job.place
  pub can : CanCome c.job.frames.room (outcome_of at.image at.state h (own_of c.job at.owned at.shared))

pub needs_end : (at : Around) (b : MachineState) (k : ℕ) (h : Halt) (c : ControlBlock) → IsBoardOf at.image b → IsAround at k b → CanEnd at.image k (state_of b) h → slice_get b.cells.items k ≡ Some c → NeedsEnd at h c
needs_end at b k h c board around can at_c =
    let r = reads b.cells.items k can.job c can.ready at_c in
    let room = room_is at.image b k can.p c board can.process at_c in
    record {
      stands = r.stands;
      seen = subst (λ (j : Job). IsSeenAt at.image h j.place) (sym r.same) can.seen;
      can = subst (λ (n : ℕ). CanCome n (outcome_of at.image at.state h (own_of c.job at.owned at.shared))) (sym room)
          (subst (λ (s : State). CanCome can.p.stack (outcome_of at.image s h (own_of c.job at.owned at.shared))) (sym around.state)
          (subst (λ (o : Own). CanCome can.p.stack (outcome_of at.image (state_of b) h o)) (own_around at b k c can.job around r.same) can.can));
    }

end_moved : (image : Image) (t k : ℕ) (p : Process) (h : Halt) (r : Come) (x : State → State) (s s' : State) (job job' : Job) (o o' : Own) → s ≡ s' → job ≡ job' → o ≡ o'
    → settle image t k p job s (outcome_of image s h o) ≡ after image t k r (x s) → settle image t k p job' s' (outcome_of image s' h o') ≡ after image t k r (x s')
end_moved image t k p h r x s s' job job' o o' a b c is =
    subst (λ (u : State). settle image t k p job' u (outcome_of image u h o') ≡ after image t k r (x u)) a
    (subst (λ (j : Job). settle image t k p j s (outcome_of image s h o') ≡ after image t k r (x s)) b
    (subst (λ (w : Own). settle image t k p job s (outcome_of image s h w) ≡ after image t k r (x s)) c is))

pub ended : (at : Around) (t k : ℕ) (known : Known) (b new : MachineState) (h : Halt) (r : Come) (c c' : ControlBlock) (p : Process) (job : Job) → EndsAs at t k known c h r c' → IsProcess p known → IsAround at k b
    → slice_get (threads_of b.cells.items) k ≡ Some (Ready job) → slice_get b.cells.items k ≡ Some c → new.cells.items ≡ slice_set b.cells.items k c' → new.owned.items ≡ b.owned.items → new.shared.items ≡ b.shared.items → new.queues ≡ b.queues → new.devices.items ≡ b.devices.items
    → settle at.image t k p job (state_of b) (outcome_of at.image (state_of b) h (own_at k job (state_of b))) ≡ after at.image t k r (state_of new)
ended at t k known b new h r c c' p job ends is around is_ready at_c cells owned shared queues devices =
    let read = reads b.cells.items k job c is_ready at_c in
    let threads : threads_of new.cells.items ≡ slice_set (threads_of b.cells.items) k (thread_of c') = ap (λ (cs : List ControlBlock). threads_of cs) cells ∙ threads_set b.cells.items k c' in
    let words : slice_set (rows_of b.owned.items) k at.owned ≡ rows_of new.owned.items =
    ap (λ (w : List ℤ). slice_set (rows_of b.owned.items) k w) (around.owned ∙ ap (λ (s : State). owned_of (slice_get s.owned k)) around.state) ∙ set_owned (rows_of b.owned.items) k ∙ ap (λ (vs : List (Vec ℤ)). rows_of vs) (sym owned) in
    let others : at.shared ≡ new.shared.items = around.shared ∙ ap (λ (s : State). s.shared) around.state ∙ sym shared in
    let anew : with_thread k (thread_of c') at.owned at.shared (state_of b) ≡ state_of new = rw (threads, words, others, queues, devices) refl in
    end_moved at.image t k p h r (λ s. with_thread k (thread_of c') at.owned at.shared s) at.state (state_of b) (job_of c.job) job (own_of c.job at.owned at.shared) (own_at k job (state_of b)) around.state read.same (sym (own_around at b k c job around read.same)) (ends p is around.owned around.shared)
    ∙ ap (λ (s : State). after at.image t k r s) anew

pub keeps_end : (image : Image) (b new : MachineState) (k : ℕ) (c c' : ControlBlock) → IsBoardOf image b → k < length b.cells.items → c ≡ get_or b.cells.items k c → c'.job.frames.room ≡ c.job.frames.room
    → new.cells.items ≡ slice_set b.cells.items k c' → new.owned.items ≡ b.owned.items → new.queues ≡ b.queues → new.devices.items ≡ b.devices.items → IsBoardOf image new
keeps_end image b new k c c' board below is room cells owned queues devices = record {
  rooms = ap (λ (cs : List ControlBlock). rooms_of cs) cells ∙ rooms_at b.cells.items k c c' below is room ∙ board.rooms;
  owned = ap (λ (vs : List (Vec ℤ)). length vs) owned ∙ board.owned;
  queues = ap (λ (qs : List (List ℕ)). length qs) queues ∙ board.queues;
  devices = ap (λ (ds : List ℤ). length ds) devices ∙ board.devices;
}
