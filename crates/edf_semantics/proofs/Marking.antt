-- Marks, and what the start events of a tick do to what the choice sees.
use Rattle.std.proofs.Common.{◌≡◌, ◌<◌, ◌⊎◌, inl, inr, ℕ, zero, suc, List, [], ◌∷◌, Option, Some, None, length, arith, refl, ap, sym, subst, ◌∙◌, true, false, Bool}
use Rattle.std.specs.Prelude.{slice_get}
use Rattle.machine_semantics.specs.Image.{Image, Process}
use Rattle.machine_semantics.specs.State.{Job, Thread, Idle, Ready, Waiting}
use Rattle.machine_semantics.specs.Starts.{released}
use Rattle.sched_theorem.specs.Dispatched.{Stay}
use Rattle.sched_demand.specs.Activations.{Activation, Starts}
use Rattle.sched_demand.specs.Stacked.{AreStacked}
use Rattle.sched_timing.proofs.Begun.{TimesOut, maybe_released}
use Rattle.edf_semantics.specs.Choice.{Mark}
use Rattle.edf_semantics.specs.Run.{mark_of, marks_of, begin}
use Rattle.edf_semantics.specs.Safe.{act, inside_of}

-- ---- lists of marks

pub marks_at : (t : ℕ) (olds news : List Thread) (ms : List Mark) (k : ℕ) (o n : Thread) (m : Mark) → slice_get olds k ≡ Some o → slice_get news k ≡ Some n → slice_get ms k ≡ Some m → slice_get (marks_of t olds news ms) k ≡ Some (mark_of t o n m)
marks_at t [] news ms k o n m at_o at_n at_m = absurd cc
marks_at t (x ∷ olds) [] ms k o n m at_o at_n at_m = absurd cc
marks_at t (x ∷ olds) (y ∷ news) [] k o n m at_o at_n at_m = absurd cc
marks_at t (x ∷ olds) (y ∷ news) (z ∷ ms) zero o n m at_o at_n at_m =
    let same_x : x ≡ o = cc in
    let same_y : y ≡ n = cc in
    let same_z : z ≡ m = cc in
    ap (λ (u : Thread). Some (mark_of t u y z)) same_x ∙ ap (λ (u : Thread). Some (mark_of t o u z)) same_y ∙ ap (λ (u : Mark). Some (mark_of t o n u)) same_z
marks_at t (x ∷ olds) (y ∷ news) (z ∷ ms) (suc k) o n m at_o at_n at_m = marks_at t olds news ms k o n m at_o at_n at_m

pub length_marks : (t : ℕ) (olds news : List Thread) (ms : List Mark) → length olds ≡ length ms → length news ≡ length ms → length (marks_of t olds news ms) ≡ length ms
length_marks t [] news ms a b = a
length_marks t (x ∷ olds) [] ms a b = b
length_marks t (x ∷ olds) (y ∷ news) [] a b = refl
length_marks t (x ∷ olds) (y ∷ news) (z ∷ ms) a b = ap suc (length_marks t olds news ms (omega (arith, a)) (omega (arith, b)))

pub length_begin : (k : ℕ) (ms : List Mark) → length (begin k ms) ≡ length ms
length_begin k [] = refl
length_begin zero (m ∷ ms) = refl
length_begin (suc k) (m ∷ ms) = ap suc (length_begin k ms)

pub begin_at : (k : ℕ) (ms : List Mark) (m : Mark) → slice_get ms k ≡ Some m → slice_get (begin k ms) k ≡ Some (record { release = m.release; begun = true })
begin_at k [] m at = absurd cc
begin_at zero (x ∷ ms) m at = let same : x ≡ m = cc in ap (λ (y : Mark). Some (record { release = y.release; begun = true })) same
begin_at (suc k) (x ∷ ms) m at = begin_at k ms m at

pub begin_other : (j k : ℕ) (ms : List Mark) → (j ≡ k → ⊥) → slice_get (begin j ms) k ≡ slice_get ms k
begin_other j k [] differ = refl
begin_other zero zero (m ∷ ms) differ = absurd (differ refl)
begin_other zero (suc k) (m ∷ ms) differ = refl
begin_other (suc j) zero (m ∷ ms) differ = refl
begin_other (suc j) (suc k) (m ∷ ms) differ = begin_other j k ms (λ same. differ (ap suc same))

pub has_mark : (ms : List Mark) (k : ℕ) → k < length ms → (m : Mark) × (slice_get ms k ≡ Some m)
has_mark [] k h = absurd (omega arith)
has_mark (m ∷ ms) zero h = (m, refl)
has_mark (m ∷ ms) (suc k) h = has_mark ms k (omega arith)

-- ---- start events of one process that does not wait

-- a process that is idle is released or stays idle; one that is ready is as it was; none waits
abbrev pub Opening : Image → Process → (old new : Thread) → Type 0
Opening image p Idle new = (new ≡ Idle) ⊎ (new ≡ Ready (released image p))
Opening image p (Ready job) new = new ≡ Ready job
Opening image p (Waiting c d number job) new = ⊥

abbrev pub IsNotWaiting : Thread → Type 0
IsNotWaiting Idle = Unit {0}
IsNotWaiting (Ready job) = Unit {0}
IsNotWaiting (Waiting c d number job) = ⊥

pub opening : (image : Image) (p : Process) (due : Bool) (old new : Thread) → IsNotWaiting old → TimesOut (maybe_released image p due (Some old)) (Some new) → Opening image p old new
opening image p true Idle new calm is = inr (cc)
opening image p false Idle new calm is = inl (cc)
opening image p true (Ready job) new calm is = cc
opening image p false (Ready job) new calm is = cc
opening image p due (Waiting c d number job) new calm is = calm

-- it is released
abbrev pub is_new : (old new : Option Thread) → Bool
is_new (Some Idle) (Some (Ready job)) = true
is_new (Some Idle) (Some Idle) = false
is_new (Some Idle) (Some (Waiting c d number job)) = false
is_new (Some Idle) None = false
is_new (Some (Ready job)) new = false
is_new (Some (Waiting c d number job)) new = false
is_new None new = false

-- as the argument sees it
starts_idle : (t : ℕ) (m : Mark) → Starts t (is_new (Some Idle) (Some Idle)) 1 (act (Some Idle) (Some m)) (act (Some Idle) (Some (mark_of t Idle Idle m)))
starts_idle t m = record { keeps = λ active. absurd (omega arith); rests = λ idle not_released. refl; starts = λ idle is. absurd (cc); costs = λ idle is. absurd (cc); since = λ idle is. absurd (cc); fresh = λ idle is. absurd (cc) }

starts_new : (t : ℕ) (m : Mark) (job : Job) → Starts t (is_new (Some Idle) (Some (Ready job))) 1 (act (Some Idle) (Some m)) (act (Some (Ready job)) (Some (mark_of t Idle (Ready job) m)))
starts_new t m job = record { keeps = λ active. absurd (omega arith); rests = λ idle not_released. absurd (cc); starts = λ idle is. omega arith; costs = λ idle is. omega arith; since = λ idle is. refl; fresh = λ idle is. refl }

starts_ready : (t : ℕ) (m : Mark) (job : Job) → Starts t (is_new (Some (Ready job)) (Some (Ready job))) 1 (act (Some (Ready job)) (Some m)) (act (Some (Ready job)) (Some (mark_of t (Ready job) (Ready job) m)))
starts_ready t m job = record { keeps = λ active. refl; rests = λ idle not_released. absurd (omega arith); starts = λ idle is. absurd (cc); costs = λ idle is. absurd (cc); since = λ idle is. absurd (cc); fresh = λ idle is. absurd (cc) }

pub starts_one : (image : Image) (p : Process) (t : ℕ) (old new : Thread) (m : Mark) → Opening image p old new → Starts t (is_new (Some old) (Some new)) 1 (act (Some old) (Some m)) (act (Some new) (Some (mark_of t old new m)))
starts_one image p t Idle new m (inl is) = subst (λ (x : Thread). Starts t (is_new (Some Idle) (Some x)) 1 (act (Some Idle) (Some m)) (act (Some x) (Some (mark_of t Idle x m)))) (sym is) (starts_idle t m)
starts_one image p t Idle new m (inr is) = subst (λ (x : Thread). Starts t (is_new (Some Idle) (Some x)) 1 (act (Some Idle) (Some m)) (act (Some x) (Some (mark_of t Idle x m)))) (sym is) (starts_new t m (released image p))
starts_one image p t (Ready job) new m is = subst (λ (x : Thread). Starts t (is_new (Some (Ready job)) (Some x)) 1 (act (Some (Ready job)) (Some m)) (act (Some x) (Some (mark_of t (Ready job) x m)))) (sym is) (starts_ready t m job)
starts_one image p t (Waiting c d number job) new m is = absurd is

-- nobody enters or leaves
pub inside_one : (image : Image) (p : Process) (old new : Thread) → Opening image p old new → inside_of (Some new) ≡ inside_of (Some old)
inside_one image p Idle new (inl is) = ap (λ (x : Thread). inside_of (Some x)) is
inside_one image p Idle new (inr is) = ap (λ (x : Thread). inside_of (Some x)) is
inside_one image p (Ready job) new is = ap (λ (x : Thread). inside_of (Some x)) is
inside_one image p (Waiting c d number job) new is = absurd is

-- nobody waits after them
pub opened_calm : (image : Image) (p : Process) (old new : Thread) → Opening image p old new → IsNotWaiting new
opened_calm image p Idle new (inl is) = subst IsNotWaiting (sym is) tt
opened_calm image p Idle new (inr is) = subst IsNotWaiting (sym is) tt
opened_calm image p (Ready job) new is = subst IsNotWaiting (sym is) tt
opened_calm image p (Waiting c d number job) new is = absurd is

-- at places
pub starts_at : (t : ℕ) (old new : Thread) (m n : Mark) (a b : Option Thread) (c d : Option Mark) → a ≡ Some old → b ≡ Some new → c ≡ Some m → d ≡ Some n → Starts t (is_new (Some old) (Some new)) 1 (act (Some old) (Some m)) (act (Some new) (Some n)) → Starts t (is_new a b) 1 (act a c) (act b d)
starts_at t old new m n a b c d at_a at_b at_c at_d s =
    subst (λ (x : Option Thread). Starts t (is_new x b) 1 (act x c) (act b d)) (sym at_a)
    (subst (λ (x : Option Thread). Starts t (is_new (Some old) x) 1 (act (Some old) c) (act x d)) (sym at_b)
    (subst (λ (x : Option Mark). Starts t (is_new (Some old) (Some new)) 1 (act (Some old) x) (act (Some new) d)) (sym at_c)
    (subst (λ (x : Option Mark). Starts t (is_new (Some old) (Some new)) 1 (act (Some old) (Some m)) (act (Some new) x)) (sym at_d) s)))

-- the stack with the same places in monitors
pub restacked : (n : ℕ) (rank deadline : ℕ → ℕ) (now : ℕ) (a : ℕ → Activation) (inside other : ℕ → Option Stay) → ((q : ℕ) → q < n → other q ≡ inside q) → AreStacked n rank deadline now a inside → AreStacked n rank deadline now a other
restacked n rank deadline now a inside other same stack = record {
  past = stack.past;
  begun = λ q s below is. stack.begun q s below (sym (same q below) ∙ is);
  later = stack.later;
  above = λ p q s p_below q_below begun is before. stack.above p q s p_below q_below begun (sym (same q q_below) ∙ is) before;
}
