-- Ticks at once and one by one.
use Rattle.std.proofs.Common.{◌≡◌, ◌≢◌, ◌≤◌, ◌<◌, ◌+◌, ◌-◌, ◌++◌, ◌⊎◌, inl, inr, ℕ, zero, suc, List, [], ◌∷◌, Option, Some, None, length, arith, refl, ap, sym, subst, ◌∙◌, true, false, Bool}
use Rattle.std.specs.Prelude.{ℤ, slice_get, slice_set, nat_lt, cond}
use Rattle.std.proofs.lemmas.Bool.{cases_Bool, ltb-true, ltb-false, cases_lt}
use Rattle.std.proofs.lemmas.Bool.Decides.{nat_tests}
use Rattle.base.proofs.Lists.{get_set}
use Rattle.machine_isa.specs.declared.instr.Instr.{Instr}
use Rattle.machine_isa.specs.Ticks.{ticks}
use Rattle.base.specs.declared.event.Event.{Event}
use Rattle.machine_semantics.specs.Image.{Image, Process, Script}
use Rattle.machine_semantics.specs.State.{Operand, Caller, Job, Thread, Idle, Ready, Waiting, State}
use Rattle.machine_semantics.specs.Effect.{Own, Outcome, Goes, Does, Signals, Broadcasts, Waits, Raises, Ends, Stuck, effect}
use Rattle.machine_semantics.specs.Tick.{Candidate, Ticked, at_next, owned_of, settle, pick, run_picked, run_thread, outcome, outcome_at}
use Rattle.machine_semantics.specs.Starts.{raised}
use Rattle.vm_stretch.specs.Stretch.{left, left_of, left_at, outcome_at_once, outcomes, pass_thread, pass, FitsThread, FitsIn, place_of}
use Rattle.vm_stretch.specs.Quiet.{IsQuiet}
use Rattle.vm_stretch.proofs.StretchMoving.{moved, set_owned, effect_same, pick_same, quiet_same, NotStuck, settled_same}

-- ---- one tick

one_outcome : (image : Image) (s : State) (job : Job) (owned : List ℤ) (dispatch_ticks : ℕ) → outcome image s job owned dispatch_ticks ≡ outcomes image s job owned 1 dispatch_ticks
one_outcome image s job owned (suc b) = let e : b ≡ suc b - 1 = omega arith in ap (λ (x : ℕ). Goes (record { job = record job { dispatch_ticks = x }; owned = owned; shared = s.shared })) e
one_outcome image s job owned zero = at (slice_get image.code job.place) where
  at : (instr : Option Instr) → outcome_at image s job owned instr ≡ outcome_at_once image s job owned 1 instr
  at None = refl
  at (Some instr) = refl

one_thread : (image : Image) (t k : ℕ) (s : State) (p : Option Process) (thread : Option Thread) → run_thread image t k s p thread ≡ pass_thread image t 1 k s p thread
one_thread image t k s None thread = refl
one_thread image t k s (Some p) None = refl
one_thread image t k s (Some p) (Some Idle) = refl
one_thread image t k s (Some p) (Some (Waiting c due e job)) = refl
one_thread image t k s (Some p) (Some (Ready job)) =
    let e : t ≡ t + (1 - 1) = omega arith in
    ap (λ (u : ℕ). settle image u k p job s (outcome image s job (owned_of (slice_get s.owned k)) job.dispatch_ticks)) e
    ∙ ap (λ (o : Outcome). settle image (t + (1 - 1)) k p job s o) (one_outcome image s job (owned_of (slice_get s.owned k)) job.dispatch_ticks)

pub one_tick : (image : Image) (t : ℕ) (s : State) (c : Option Candidate) → run_picked image t s c ≡ pass image t 1 s (place_of c)
one_tick image t s None = refl
one_tick image t s (Some c) = one_thread image t c.place s (slice_get image.processes c.place) (slice_get s.threads c.place)

-- ---- one tick, and more

-- what follows one tick that is not the last, of process k
pub record Goes_on (image : Image) (script : Script) (t n : ℕ) (s : State) (who : Option ℕ) : Type 0 where
  pub next : State
  pub one : pass image t 1 s who ≡ record { state = next; events = []; stuck = false }
  pub picked : pick image next.threads ≡ pick image s.threads
  pub quiet : (u : ℕ) → IsQuiet image script u s → IsQuiet image script u next
  pub fits : FitsIn image n next who
  pub stuck : (pass image (t + 1) n next who).stuck ≡ (pass image t (suc n) s who).stuck
  pub same : (pass image t (suc n) s who).stuck ≡ false → pass image (t + 1) n next who ≡ pass image t (suc n) s who

stuck_of : Outcome → Bool
stuck_of Stuck = true
stuck_of _ = false

settled_stuck : (image : Image) (t k : ℕ) (p : Process) (job : Job) (s : State) (out : Outcome) → (settle image t k p job s out).stuck ≡ stuck_of out
unfolding stuck_of
settled_stuck image t k p job s (Goes o) = refl
settled_stuck image t k p job s (Does a o) = refl
settled_stuck image t k p job s (Signals c o) = refl
settled_stuck image t k p job s (Broadcasts c o) = refl
settled_stuck image t k p job s (Waits c limit e o) = refl
settled_stuck image t k p job s (Raises e) = refl
settled_stuck image t k p job s Ends = refl
settled_stuck image t k p job s Stuck = refl

not_stuck : (out : Outcome) → stuck_of out ≡ false → NotStuck out
unfolding stuck_of
not_stuck (Goes o) h = tt
not_stuck (Does a o) h = tt
not_stuck (Signals c o) h = tt
not_stuck (Broadcasts c o) h = tt
not_stuck (Waits c limit e o) h = tt
not_stuck (Raises e) h = tt
not_stuck Ends h = tt
not_stuck Stuck h = absurd cc

-- of one tick and n more of process k, which is at this activation
record Steps (image : Image) (n k : ℕ) (s : State) (job : Job) (owned : List ℤ) : Type 0 where
  pub new : Job
  pub inside : new.inside ≡ job.inside
  pub one : outcomes image s job owned 1 job.dispatch_ticks ≡ Goes (record { job = new; owned = owned; shared = s.shared })
  pub fits : n ≤ left image new
  pub both : outcomes image (moved k new s) new owned n new.dispatch_ticks ≡ outcomes image s job owned (suc n) job.dispatch_ticks
  pub raises : (p : Process) (e : ℕ) → outcomes image s job owned (suc n) job.dispatch_ticks ≡ Raises e → raised p e new ≡ raised p e job

-- an activation by its parts
abbrev activation : ℕ → ℕ → ℕ → List ℤ → List Operand → List Caller → Bool → Option ℕ → Job
activation place done dispatch_ticks locals operands callers handling inside = record { place = place; done = done; dispatch_ticks = dispatch_ticks; locals = locals; operands = operands; callers = callers; handling = handling; inside = inside }

within : (image : Image) (s : State) (job : Job) (owned : List ℤ) (instr : Instr) → job.done + 1 < ticks instr
    → outcome_at_once image s job owned 1 (Some instr) ≡ Goes (record { job = record job { done = job.done + 1 }; owned = owned; shared = s.shared })
within image s job owned instr less = let lt : nat_lt (job.done + 1) (ticks instr) ≡ true = grind (arith, nat_tests) in rw lt refl

further : (image : Image) (s : State) (n k : ℕ) (job new : Job) (owned : List ℤ) (instr : Instr) → slice_get s.threads k ≡ Some (Ready job) → new ≡ record job { done = job.done + 1 }
    → outcome_at_once image (moved k new s) new owned n (Some instr) ≡ outcome_at_once image s job owned (suc n) (Some instr)
further image s n k job new owned instr at is =
    let inside : new.inside ≡ job.inside = ap (λ (j : Job). j.inside) is in
    let e : job.done + 1 + n ≡ job.done + (suc n) = omega arith in
    ap (λ (j : Job). cond (nat_lt (j.done + n) (ticks instr)) (Goes (record { job = record j { done = j.done + n }; owned = owned; shared = s.shared })) (effect image (moved k new s) instr (record { job = at_next j; owned = owned; shared = s.shared }))) is
    ∙ ap (λ (d : ℕ). cond (nat_lt d (ticks instr)) (Goes (record { job = record job { done = d }; owned = owned; shared = s.shared })) (effect image (moved k new s) instr (record { job = at_next job; owned = owned; shared = s.shared }))) e
    ∙ ap (λ (o : Outcome). cond (nat_lt (job.done + (suc n)) (ticks instr)) (Goes (record { job = record job { done = job.done + (suc n) }; owned = owned; shared = s.shared })) o) (effect_same image s instr (record { job = at_next job; owned = owned; shared = s.shared }) k job new at inside)

steps_at : (image : Image) (n k : ℕ) (s : State) (place done : ℕ) (locals : List ℤ) (operands : List Operand) (callers : List Caller) (handling : Bool) (inside : Option ℕ) (owned : List ℤ) (instr : Option Instr)
    → slice_get s.threads k ≡ Some (Ready (activation place done 0 locals operands callers handling inside)) → 1 ≤ n → suc n ≤ left_at done instr → slice_get image.code place ≡ instr
    → Steps image n k s (activation place done 0 locals operands callers handling inside) owned
steps_at image n k s place done locals operands callers handling inside owned None at some fits is = absurd (omega arith)
steps_at image n k s place done locals operands callers handling inside owned (Some instr) at some fits is =
    let job : Job = activation place done 0 locals operands callers handling inside in
    let new : Job = activation place (done + 1) 0 locals operands callers handling inside in
    record {
      new = new;
      inside = refl;
      one = ap (λ (x : Option Instr). outcome_at_once image s job owned 1 x) is ∙ within image s job owned instr (omega arith);
      fits = subst (λ (x : Option Instr). n ≤ left_at (done + 1) x) (sym is) (omega arith);
      both = ap (λ (x : Option Instr). outcome_at_once image (moved k new s) new owned n x) is ∙ further image s n k job new owned instr at refl ∙ ap (λ (x : Option Instr). outcome_at_once image s job owned (suc n) x) (sym is);
      raises = λ p e _. refl;
    }

steps : (image : Image) (n k : ℕ) (s : State) (place done dispatch_ticks : ℕ) (locals : List ℤ) (operands : List Operand) (callers : List Caller) (handling : Bool) (inside : Option ℕ) (owned : List ℤ)
    → slice_get s.threads k ≡ Some (Ready (activation place done dispatch_ticks locals operands callers handling inside)) → 1 ≤ n → suc n ≤ left image (activation place done dispatch_ticks locals operands callers handling inside)
    → Steps image n k s (activation place done dispatch_ticks locals operands callers handling inside) owned
steps image n k s place done zero locals operands callers handling inside owned at some fits = steps_at image n k s place done locals operands callers handling inside owned (slice_get image.code place) at some fits refl
steps image n k s place done (suc zero) locals operands callers handling inside owned at some fits = absurd (omega arith)
steps image n k s place done (suc (suc b)) locals operands callers handling inside owned at some fits =
    let job : Job = activation place done (suc (suc b)) locals operands callers handling inside in
    record {
      new = activation place done (suc b) locals operands callers handling inside;
      inside = refl;
      one = let e : suc (suc b) - 1 ≡ suc b = omega arith in ap (λ (x : ℕ). Goes (record { job = record job { dispatch_ticks = x }; owned = owned; shared = s.shared })) e;
      fits = omega arith;
      both = let e : suc b - n ≡ suc (suc b) - (suc n) = omega arith in ap (λ (x : ℕ). Goes (record { job = record job { dispatch_ticks = x }; owned = owned; shared = s.shared })) e;
      raises = λ p e is. cc;
    }

-- ---- the state

-- a process that is not ready, or none, passes ticks with nothing changed
idle_goes_on : (image : Image) (script : Script) (t n : ℕ) (s : State) (who : Option ℕ) → ((m u : ℕ) → pass image u m s who ≡ record { state = s; events = []; stuck = false }) → FitsIn image n s who → Goes_on image script t n s who
idle_goes_on image script t n s who nothing fits = record {
  next = s;
  one = nothing 1 t;
  picked = refl;
  quiet = λ u q. q;
  fits = fits;
  stuck = ap (λ (x : Ticked). x.stuck) (nothing n (t + 1) ∙ sym (nothing (suc n) t));
  same = λ _. nothing n (t + 1) ∙ sym (nothing (suc n) t);
}

ready_goes_on : (image : Image) (script : Script) (t n k : ℕ) (s : State) (p : Process) (job : Job) → slice_get image.processes k ≡ Some p → slice_get s.threads k ≡ Some (Ready job) → 1 ≤ n → suc n ≤ left image job
    → Goes_on image script t n s (Some k)
ready_goes_on image script t n k s p job at_p at_t some fits =
    let owned : List ℤ = owned_of (slice_get s.owned k) in
    let st : Steps image n k s job owned = steps image n k s job.place job.done job.dispatch_ticks job.locals job.operands job.callers job.handling job.inside owned at_t some fits in
    let next : State = moved k st.new s in
    let there : slice_get next.threads k ≡ Some (Ready st.new) = get_set s.threads k (Ready st.new) (Ready job) at_t in
    let passes : (m u : ℕ) → pass image u m s (Some k) ≡ settle image (u + (m - 1)) k p job s (outcomes image s job owned m job.dispatch_ticks) = λ m u. rw (at_p, at_t) refl in
    let after : (m u : ℕ) → pass image u m next (Some k) ≡ settle image (u + (m - 1)) k p st.new next (outcomes image next st.new owned m st.new.dispatch_ticks) = λ m u. rw (at_p, there) refl in
    let out : Outcome = outcomes image s job owned (suc n) job.dispatch_ticks in
    let time : t + 1 + (n - 1) ≡ t + (suc n - 1) = omega arith in
    let right : pass image t (suc n) s (Some k) ≡ settle image (t + (suc n - 1)) k p job s out = passes (suc n) t in
    let left_side : pass image (t + 1) n next (Some k) ≡ settle image (t + (suc n - 1)) k p st.new next out =
    after n (t + 1) ∙ ap (λ (u : ℕ). settle image u k p st.new next (outcomes image next st.new owned n st.new.dispatch_ticks)) time ∙ ap (λ (o : Outcome). settle image (t + (suc n - 1)) k p st.new next o) st.both in
    let flags : (pass image (t + 1) n next (Some k)).stuck ≡ stuck_of out = ap (λ (x : Ticked). x.stuck) left_side ∙ settled_stuck image (t + (suc n - 1)) k p st.new next out in
    let flags_right : (pass image t (suc n) s (Some k)).stuck ≡ stuck_of out = ap (λ (x : Ticked). x.stuck) right ∙ settled_stuck image (t + (suc n - 1)) k p job s out in
    record {
      next = next;
      one = passes 1 t ∙ ap (λ (o : Outcome). settle image (t + (1 - 1)) k p job s o) st.one ∙ ap (λ (ws : List (List ℤ)). record { state = record next { owned = ws }; events = []; stuck = false }) (set_owned s.owned k);
      picked = pick_same image s.threads k job st.new at_t st.inside;
      quiet = λ u q. quiet_same image script u s k st.new q;
      fits = subst (λ (x : Option Thread). FitsThread image n x) (sym there) st.fits;
      stuck = flags ∙ sym flags_right;
      same = λ free. left_side ∙ settled_same image (t + (suc n - 1)) k p job st.new s out (not_stuck out (sym flags_right ∙ free)) (st.raises p) ∙ sym right;
    }

pub goes_on : (image : Image) (script : Script) (t n : ℕ) (s : State) (who : Option ℕ) → 1 ≤ n → FitsIn image (suc n) s who → Goes_on image script t n s who
goes_on image script t n s None some fits = idle_goes_on image script t n s None (λ m u. refl) tt
goes_on image script t n s (Some k) some fits = by_process (slice_get image.processes k) (slice_get s.threads k) refl refl fits where
  by_process : (p : Option Process) (x : Option Thread) → slice_get image.processes k ≡ p → slice_get s.threads k ≡ x → FitsThread image (suc n) x → Goes_on image script t n s (Some k)
  by_process (Some p) (Some (Ready job)) at_p at_x fits' = ready_goes_on image script t n k s p job at_p at_x some fits'
  by_process (Some p) (Some Idle) at_p at_x fits' = idle_goes_on image script t n s (Some k) (λ m u. rw (at_p, at_x) refl) (subst (λ (x : Option Thread). FitsThread image n x) (sym at_x) tt)
  by_process (Some p) (Some (Waiting c due e job)) at_p at_x fits' = idle_goes_on image script t n s (Some k) (λ m u. rw (at_p, at_x) refl) (subst (λ (x : Option Thread). FitsThread image n x) (sym at_x) tt)
  by_process (Some p) None at_p at_x fits' = idle_goes_on image script t n s (Some k) (λ m u. rw (at_p, at_x) refl) (subst (λ (x : Option Thread). FitsThread image n x) (sym at_x) tt)
  by_process None (Some (Ready job)) at_p at_x fits' = idle_goes_on image script t n s (Some k) (λ m u. rw at_p refl) (subst (λ (x : Option Thread). FitsThread image n x) (sym at_x) (omega arith))
  by_process None (Some Idle) at_p at_x fits' = idle_goes_on image script t n s (Some k) (λ m u. rw at_p refl) (subst (λ (x : Option Thread). FitsThread image n x) (sym at_x) tt)
  by_process None (Some (Waiting c due e job)) at_p at_x fits' = idle_goes_on image script t n s (Some k) (λ m u. rw at_p refl) (subst (λ (x : Option Thread). FitsThread image n x) (sym at_x) tt)
  by_process None None at_p at_x fits' = idle_goes_on image script t n s (Some k) (λ m u. rw at_p refl) (subst (λ (x : Option Thread). FitsThread image n x) (sym at_x) tt)
