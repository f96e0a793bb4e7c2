-- What the run promises of a turn.
use Rattle.std.proofs.Common.{◌≡◌, ◌≤◌, ◌+◌, ◌-◌, ◌∙◌, ℕ, suc, Bool, true, false, List, [], ◌∷◌, Option, Some, None, refl, ap, sym, subst, arith}
use Rattle.std.specs.Prelude.{cond, slice_get}
use Rattle.base.proofs.Lists.{get_set}
use Rattle.machine_semantics.specs.Image.{Image, Process}
use Rattle.machine_semantics.specs.State.{Job, Thread, Idle, Ready, Waiting, State}
use Rattle.machine_semantics.specs.Effect.{Outcome, Goes, Does, Signals, Broadcasts, Waits, Raises, Ends, Stuck}
use Rattle.machine_semantics.specs.Tick as t
use Rattle.machine_semantics.specs.Tick.{Candidate, Ticked, active_rank, first_of_two, is_before, least, outside, owned_of, pick, settle}
use Rattle.machine_semantics.specs.Run.{state_at}
use Rattle.vm_stretch.specs.Stretch.{FitsIn, FitsThread, left, outcomes, pass, pass_thread, place_of}
use Rattle.vm_stretch.specs.StretchLaws.{turn}
use Rattle.vm_stretch.specs.RowLaws.{IsInStack, begun}
use Rattle.vm_stretch.proofs.Runs.{turn_stays_in_run}
use Rattle.vm_turn.specs.Own.{CanCome}
use Rattle.vm_turn.specs.Settle.{TurnCanPass}

-- ---- who is picked is ready

pub record Found (ps : List Process) (ts : List Thread) (from place : ℕ) : Type 0 where
  pub i : ℕ
  pub place_is : place ≡ from + i
  pub p : Process
  pub process : slice_get ps i ≡ Some p
  pub job : Job
  pub ready : slice_get ts i ≡ Some (Ready job)

later : (p : Process) (ps : List Process) (th : Thread) (ts : List Thread) (from place : ℕ) → Found ps ts (from + 1) place → Found (p ∷ ps) (th ∷ ts) from place
later p ps th ts from place f = record { i = suc f.i; place_is = omega (arith, f.place_is); p = f.p; process = f.process; job = f.job; ready = f.ready }

pick_one : (b : Bool) (a x c : Candidate) → cond b (Some x) (Some a) ≡ Some c → (P : ℕ → Type 0) → P a.place → P x.place → P c.place
pick_one true a x c is P at_a at_x = let e : x ≡ c = cc in subst (λ (d : Candidate). P d.place) e at_x
pick_one false a x c is P at_a at_x = let e : a ≡ c = cc in subst (λ (d : Candidate). P d.place) e at_a

-- the first of two is one of them
one_of : (P : ℕ → Type 0) (a c : Candidate) (o : Option Candidate) → first_of_two a o ≡ Some c → P a.place → ((x : Candidate) → o ≡ Some x → P x.place) → P c.place
one_of P a c None is at_a at_o = let e : a ≡ c = cc in subst (λ (d : Candidate). P d.place) e at_a
one_of P a c (Some x) is at_a at_o = pick_one (is_before x a) a x c is P at_a (at_o x refl)

found : (image : Image) (from : ℕ) (ps : List Process) (ts : List Thread) (c : Candidate) → least image from ps ts ≡ Some c → Found ps ts from c.place
found image from [] ts c is = absurd cc
found image from (p ∷ ps) [] c is = absurd cc
found image from (p ∷ ps) (Idle ∷ ts) c is = later p ps Idle ts from c.place (found image (from + 1) ps ts c is)
found image from (p ∷ ps) (Waiting d due e job ∷ ts) c is = later p ps (Waiting d due e job) ts from c.place (found image (from + 1) ps ts c is)
found image from (p ∷ ps) (Ready job ∷ ts) c is =
    one_of (λ (k : ℕ). Found (p ∷ ps) (Ready job ∷ ts) from k) (record { place = from; rank = active_rank image p job.inside; outside = outside job.inside }) c (least image (from + 1) ps ts) is
    (record { i = 0; place_is = omega arith; p = p; process = refl; job = job; ready = refl })
    (λ x at_x. later p ps (Ready job) ts from x.place (found image (from + 1) ps ts x at_x))

pub picked : (image : Image) (ts : List Thread) (k : ℕ) → place_of (pick image ts) ≡ Some k → Found image.processes ts 0 k
unfolding t.pick
picked image ts k is = by (least image 0 image.processes ts) refl is where
  by : (o : Option Candidate) → least image 0 image.processes ts ≡ o → place_of o ≡ Some k → Found image.processes ts 0 k
  by None at is' = absurd cc
  by (Some c) at is' = let e : c.place ≡ k = cc in subst (λ (m : ℕ). Found image.processes ts 0 m) e (found image 0 image.processes ts c at)

-- ---- what its outcome is

pub can_of : (image : Image) (u k : ℕ) (p : Process) (job : Job) (s : State) (out : Outcome) → (settle image u k p job s out).stuck ≡ false → ((th : Thread) → slice_get (settle image u k p job s out).state.threads k ≡ Some th → IsInStack p th) → slice_get s.threads k ≡ Some (Ready job) → CanCome p.stack out
can_of image u k p job s (Goes o) free stack at = stack (Ready o.job) (get_set s.threads k (Ready o.job) (Ready job) at)
can_of image u k p job s (Does a o) free stack at = stack (Ready o.job) (get_set s.threads k (Ready o.job) (Ready job) at)
can_of image u k p job s (Signals c o) free stack at = tt
can_of image u k p job s (Broadcasts c o) free stack at = tt
can_of image u k p job s (Waits c limit e o) free stack at = tt
can_of image u k p job s (Raises e) free stack at = tt
can_of image u k p job s Ends free stack at = tt
can_of image u k p job s Stuck free stack at = absurd cc

fits_of : (image : Image) (n k : ℕ) (s : State) (job : Job) → place_of (pick image s.threads) ≡ Some k → slice_get s.threads k ≡ Some (Ready job) → FitsIn image n s (place_of (pick image s.threads)) → n ≤ left image job
fits_of image n k s job picks ready fits =
    subst (λ (x : Option Thread). FitsThread image n x) ready (subst (λ (c : Option ℕ). FitsIn image n s c) picks fits)

pub turn_can_pass : TurnCanPass
turn_can_pass image script t n k safe it picks =
    let s : State = begun image script t in
    let f = picked image s.threads k picks in
    let same : f.i ≡ k = omega (arith, f.place_is) in
    let process : slice_get image.processes k ≡ Some f.p = subst (λ (m : ℕ). slice_get image.processes m ≡ Some f.p) same f.process in
    let ready : slice_get s.threads k ≡ Some (Ready f.job) = subst (λ (m : ℕ). slice_get s.threads m ≡ Some (Ready f.job)) same f.ready in
    let u : ℕ = t + (n - 1) in
    let stays = turn_stays_in_run image script safe.unstuck t n it in
    let all : turn image script t n (state_at image script t) ≡ settle image u k f.p f.job s (outcomes image s f.job (owned_of (slice_get s.owned k)) n f.job.dispatch_ticks) =
    ap (λ (c : Option ℕ). pass image t n s c) picks
    ∙ ap (λ (x : Option Process). pass_thread image t n k s x (slice_get s.threads k)) process
    ∙ ap (λ (x : Option Thread). pass_thread image t n k s (Some f.p) x) ready in
    record {
      p = f.p;
      process = process;
      job = f.job;
      ready = ready;
      some = it.some;
      fits = fits_of image n k s f.job picks ready it.fits;
      early = λ instr at. safe.early t k f.job instr ready at;
      can = can_of image u k f.p f.job s (outcomes image s f.job (owned_of (slice_get s.owned k)) n f.job.dispatch_ticks) (ap (λ (x : Ticked). x.stuck) (sym all) ∙ stays.0)
          (λ th at_th. safe.stack (t + n) k f.p th process (ap (λ (w : State). slice_get w.threads k) (stays.1 ∙ ap (λ (x : Ticked). x.state) all) ∙ at_th)) ready;
    }
