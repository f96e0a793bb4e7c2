-- What an outcome leaves of the state.
use Rattle.std.proofs.Common.{◌≡◌, ◌∙◌, ℕ, List, refl, ap, sym}
use Rattle.std.specs.Prelude.{ℤ, slice_get, slice_set}
use Rattle.base.specs.declared.event.Act.TheVariants as act
use Rattle.machine_semantics.specs.Image.{Process}
use Rattle.machine_semantics.specs.State.{Thread, Idle, Ready, State}
use Rattle.machine_semantics.specs.Effect.{Outcome}
use Rattle.machine_semantics.specs.Starts.{raised}
use Rattle.machine_semantics.specs.Tick.{owned_of, settle, tell}
use Rattle.vm_stretch.proofs.StretchMoving.{set_owned}
use Rattle.vm_state.specs.declared.threads.ControlBlock.{ControlBlock}
use Rattle.vm_state.specs.declared.threads.SchedulingState.{SchedulingState}
use Rattle.vm_state.specs.declared.threads.SchedulingState.TheVariants as stand
use Rattle.vm_state.specs.Threads.{thread_by, thread_of}
use Rattle.vm_instructions.specs.Silent.{job_of, own_of}
use Rattle.vm_state.specs.declared.decoded_image.DecodedProcess.{DecodedProcess as Known}
use Rattle.vm_state.specs.Plan.{IsProcess}
use Rattle.vm_turn.specs.declared.outcome.Outcome.{Outcome as Come}
use Rattle.vm_turn.specs.declared.outcome.Outcome.TheVariants as come
use Rattle.vm_turn.specs.Own.{Around, ComesAs}
use Rattle.vm_turn.specs.Settled.{StandsAfter, after, with_thread}

pub ready : (c : ControlBlock) → c.stand ≡ stand.Ready → thread_of c ≡ Ready (job_of c.job)
ready c is = ap (λ (s : SchedulingState). thread_by s c.job) is

same_ready : (new mid : ControlBlock) → mid.stand ≡ stand.Ready → new ≡ mid → thread_of new ≡ Ready (job_of mid.job)
same_ready new mid is same = ap (λ (c : ControlBlock). thread_of c) same ∙ ready mid is

-- no word was changed
unchanged_words : (s : State) (k : ℕ) (th th' : Thread) (ow sh ao so : List ℤ) → th ≡ th' → ow ≡ ao → sh ≡ so → ao ≡ owned_of (slice_get s.owned k) → so ≡ s.shared
    → record s { threads = slice_set s.threads k th' } ≡ with_thread k th ow sh s
unchanged_words s k th th' ow sh ao so a b c d e =
    let words : slice_set s.owned k ow ≡ s.owned = ap (λ (w : List ℤ). slice_set s.owned k w) (b ∙ d) ∙ set_owned s.owned k in
    let others : sh ≡ s.shared = c ∙ e in
    rw (a, words, others) refl

pub settles : (at : Around) (t k : ℕ) (p : Known) (whole : Process) (old mid new : ControlBlock) (ow sh : List ℤ) (out : Outcome) (r : Come) → IsProcess whole p → at.owned ≡ owned_of (slice_get at.state.owned k) → at.shared ≡ at.state.shared
    → mid.stand ≡ stand.Ready → ComesAs out (own_of old.job at.owned at.shared) r (own_of mid.job ow sh) → StandsAfter t p r mid new
    → settle at.image t k whole (job_of old.job) at.state out ≡ after at.image t k r (with_thread k (thread_of new) ow sh at.state)
settles at t k p whole old mid new ow sh out come.Goes is words shared still comes stands =
    ap (λ (o : Outcome). settle at.image t k whole (job_of old.job) at.state o) comes ∙ ap (λ (th : Thread). after at.image t k come.Goes (with_thread k th ow sh at.state)) (sym (same_ready new mid still stands))
settles at t k p whole old mid new ow sh out (come.Does a) is words shared still comes stands =
    ap (λ (o : Outcome). settle at.image t k whole (job_of old.job) at.state o) comes ∙ ap (λ (th : Thread). after at.image t k (come.Does a) (with_thread k th ow sh at.state)) (sym (same_ready new mid still stands))
settles at t k p whole old mid new ow sh out (come.Signals c) is words shared still comes stands =
    ap (λ (o : Outcome). settle at.image t k whole (job_of old.job) at.state o) comes ∙ ap (λ (th : Thread). after at.image t k (come.Signals c) (with_thread k th ow sh at.state)) (sym (same_ready new mid still stands))
settles at t k p whole old mid new ow sh out (come.Broadcasts c) is words shared still comes stands =
    ap (λ (o : Outcome). settle at.image t k whole (job_of old.job) at.state o) comes ∙ ap (λ (th : Thread). after at.image t k (come.Broadcasts c) (with_thread k th ow sh at.state)) (sym (same_ready new mid still stands))
settles at t k p whole old mid new ow sh out (come.Waits w) is words shared still comes stands =
    ap (λ (o : Outcome). settle at.image t k whole (job_of old.job) at.state o) comes ∙ ap (λ (th : Thread). after at.image t k (come.Waits w) (with_thread k th ow sh at.state)) (sym stands)
settles at t k p whole old mid new ow sh out (come.Raises e) is words shared still comes stands =
    ap (λ (o : Outcome). settle at.image t k whole (job_of old.job) at.state o) comes.0
    ∙ ap (λ (s : State). tell t k (act.Raise e) s) (unchanged_words at.state k (thread_of new) (Ready (raised whole e (job_of old.job))) ow sh at.owned at.shared
    (stands whole is still ∙ ap (λ (j : _). Ready j) (comes.1.0 whole e)) comes.1.1 comes.1.2 words shared)
settles at t k p whole old mid new ow sh out come.Ends is words shared still comes stands =
    ap (λ (o : Outcome). settle at.image t k whole (job_of old.job) at.state o) comes.0
    ∙ ap (λ (s : State). tell t k act.End s) (unchanged_words at.state k (thread_of new) Idle ow sh at.owned at.shared stands comes.1 comes.2 words shared)
