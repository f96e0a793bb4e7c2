-- A process that stays at its instruction: what that changes, and what not.
use Rattle.std.proofs.Common.{◌≡◌, ◌≢◌, ◌≤◌, ◌<◌, ◌+◌, ◌-◌, ◌++◌, inl, inr, ℕ, zero, suc, List, [], ◌∷◌, Option, Some, None, length, arith, refl, ap, sym, subst, ◌∙◌, true, false, Bool}
use Rattle.std.specs.Prelude.{ℤ, pos, negsuc, slice_get, slice_set, nat_eq, nat_lt, cond, not, ◌&&◌}
use Rattle.std.proofs.lemmas.Bool.{cases_Bool, ltb-true, ltb-false, cases_lt}
use Rattle.std.proofs.lemmas.Bool.Decides.{nat_tests}
use Rattle.base.proofs.Lists.{get_of_set}
use Rattle.machine_isa.specs.declared.instr.Instr.{Instr}
use Rattle.machine_isa.specs.declared.instr.Instr.TheVariants as i
use Rattle.machine_isa.specs.Ticks.{ticks}
use Rattle.base.specs.declared.event.Event.{Event}
use Rattle.machine_semantics.specs.Image.{Image, Process, Script}
use Rattle.machine_semantics.specs.State.{Job, Thread, Idle, Ready, Waiting, State, is_free, thread_inside}
use Rattle.machine_semantics.specs.Effect.{Own, Outcome, Goes, Does, Signals, Broadcasts, Waits, Raises, Ends, Stuck, effect, enters}
use Rattle.machine_semantics.specs.Tick.{Candidate, Ticked, at_next, owned_of, settle, least, pick, with_own, first_of_two, active_rank, outside, wake_first, wake_all, first, rest, run_picked, run_thread}
use Rattle.machine_semantics.specs.Starts.{queue_of, raised}
use Rattle.vm_stretch.specs.Stretch.{left, left_of, left_at, outcome_at_once, outcomes, pass_thread, pass, FitsThread, FitsIn, place_of}
use Rattle.vm_stretch.specs.Quiet.{IsQuiet}

-- ---- lists

pub set_set : {X : Type 0} (xs : List X) (k : ℕ) (x y : X) → slice_set (slice_set xs k x) k y ≡ slice_set xs k y
set_set [] k x y = refl
set_set (z ∷ zs) zero x y = refl
set_set (z ∷ zs) (suc k) x y = ap (λ (ts : List _). z ∷ ts) (set_set zs k x y)

pub set_owned : (ws : List (List ℤ)) (k : ℕ) → slice_set ws k (owned_of (slice_get ws k)) ≡ ws
set_owned [] k = refl
set_owned (w ∷ ws) zero = refl
set_owned (w ∷ ws) (suc k) = ap (λ (xs : List (List ℤ)). w ∷ xs) (set_owned ws k)

-- ---- the process moves

-- process k is ready with another activation
abbrev pub moved : ℕ → Job → State → State
moved k job s = record s { threads = slice_set s.threads k (Ready job) }

-- nobody sees it who asks who is inside a monitor
free_same : (m : ℕ) (ts : List Thread) (k : ℕ) (job new : Job) → slice_get ts k ≡ Some (Ready job) → new.inside ≡ job.inside → is_free m (slice_set ts k (Ready new)) ≡ is_free m ts
free_same m [] k job new at same = refl
free_same m (t ∷ ts) zero job new at same =
    let is : t ≡ Ready job = cc in
    let inside : thread_inside m (Ready new) ≡ thread_inside m t = ap (λ (o : Option ℕ). thread_inside m (Ready (record job { inside = o }))) same ∙ ap (λ (x : Thread). thread_inside m x) (sym is) in
    ap (λ (b : Bool). not b && is_free m ts) inside
free_same m (t ∷ ts) (suc k) job new at same = ap (λ (b : Bool). not (thread_inside m t) && b) (free_same m ts k job new at same)

pub effect_same : (image : Image) (s : State) (instr : Instr) (o : Own) (k : ℕ) (job new : Job) → slice_get s.threads k ≡ Some (Ready job) → new.inside ≡ job.inside → effect image (moved k new s) instr o ≡ effect image s instr o
effect_same image s (i.Enter (pos m)) o k job new at same = ap (λ (b : Bool). enters b o.job.inside m o) (free_same m s.threads k job new at same)
effect_same image s (i.Enter (negsuc m)) o k job new at same = refl
effect_same image s (i.Reenter (pos m)) o k job new at same = ap (λ (b : Bool). enters b o.job.inside m o) (free_same m s.threads k job new at same)
effect_same image s (i.Reenter (negsuc m)) o k job new at same = refl
effect_same image s _ o k job new at same = refl

-- the pick stays
least_same : (image : Image) (from : ℕ) (ps : List Process) (ts : List Thread) (k : ℕ) (job new : Job) → slice_get ts k ≡ Some (Ready job) → new.inside ≡ job.inside → least image from ps (slice_set ts k (Ready new)) ≡ least image from ps ts
least_same image from [] ts k job new at same = refl
least_same image from (p ∷ ps) [] k job new at same = refl
least_same image from (p ∷ ps) (t ∷ ts) zero job new at same =
    let is : t ≡ Ready job = cc in
    ap (λ (o : Option ℕ). first_of_two (record { place = from; rank = active_rank image p o; outside = outside o }) (least image (from + 1) ps ts)) same
    ∙ ap (λ (x : Thread). least image from (p ∷ ps) (x ∷ ts)) (sym is)
least_same image from (p ∷ ps) (Ready other ∷ ts) (suc k) job new at same =
    ap (λ (c : Option Candidate). first_of_two (record { place = from; rank = active_rank image p other.inside; outside = outside other.inside }) c) (least_same image (from + 1) ps ts k job new at same)
least_same image from (p ∷ ps) (Idle ∷ ts) (suc k) job new at same = least_same image (from + 1) ps ts k job new at same
least_same image from (p ∷ ps) (Waiting c due e other ∷ ts) (suc k) job new at same = least_same image (from + 1) ps ts k job new at same

pub pick_same : (image : Image) (ts : List Thread) (k : ℕ) (job new : Job) → slice_get ts k ≡ Some (Ready job) → new.inside ≡ job.inside → pick image (slice_set ts k (Ready new)) ≡ pick image ts
unfolding pick
pick_same image ts k job new at same = least_same image 0 image.processes ts k job new at same

pub quiet_same : (image : Image) (script : Script) (u : ℕ) (s : State) (k : ℕ) (new : Job) → IsQuiet image script u s → IsQuiet image script u (moved k new s)
quiet_same image script u s k new quiet = record {
  lines = quiet.lines;
  releases = quiet.releases;
  waits = λ j c e job at. elim (get_of_set s.threads k (Ready new) j (Waiting c u e job) at) [ inl same ↦ cc | inr old ↦ quiet.waits j c e job old ];
}

-- ---- outcomes

abbrev pub NotStuck : Outcome → Type 0
NotStuck Stuck = ⊥
NotStuck _ = Unit {0}

-- an outcome is settled the same where the process has moved meanwhile
pub settled_same : (image : Image) (t k : ℕ) (p : Process) (job new : Job) (s : State) (out : Outcome) → NotStuck out → ((e : ℕ) → out ≡ Raises e → raised p e new ≡ raised p e job) → settle image t k p new (moved k new s) out ≡ settle image t k p job s out
settled_same image t k p job new s (Goes o) ok same = rw set_set refl
settled_same image t k p job new s (Does a o) ok same = rw set_set refl
settled_same image t k p job new s (Signals c o) ok same = rw set_set refl
settled_same image t k p job new s (Broadcasts c o) ok same = rw set_set refl
settled_same image t k p job new s (Waits c limit e o) ok same = rw set_set refl
settled_same image t k p job new s (Raises e) ok same = let is : raised p e new ≡ raised p e job = same e refl in rw (set_set, is) refl
settled_same image t k p job new s Ends ok same = rw set_set refl
settled_same image t k p job new s Stuck ok same = absurd ok
