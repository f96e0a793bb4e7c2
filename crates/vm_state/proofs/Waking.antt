-- The threads of processes in code.
use Rattle.std.proofs.Common.{◌≡◌, ◌<◌, ◌++◌, ℕ, zero, suc, List, [], ◌∷◌, Option, Some, length, get_or, take, ◌+◌, arith, refl, ap, sym, ◌∙◌}
use Rattle.std.specs.Prelude.{slice_get, slice_set}
use Rattle.std.proofs.Math.Seq.{take-suc}
use Rattle.machine_semantics.specs.Image.{Image}
use Rattle.machine_semantics.specs.State.{Thread}
use Rattle.machine_semantics.specs.Tick.{wake, wake_all, woken}
use Rattle.vm_state.specs.declared.threads.ControlBlock.{ControlBlock}
use Rattle.vm_state.specs.Threads.{AreBelow, rooms_of, thread_of, threads_of}

pub threads_set : (cs : List ControlBlock) (k : ℕ) (c : ControlBlock) → threads_of (slice_set cs k c) ≡ slice_set (threads_of cs) k (thread_of c)
threads_set [] k c = refl
threads_set (x ∷ cs) zero c = refl
threads_set (x ∷ cs) (suc k) c = ap (λ (ts : List Thread). thread_of x ∷ ts) (threads_set cs k c)

pub thread_at : (cs : List ControlBlock) (k : ℕ) (c : ControlBlock) → k < length cs → c ≡ get_or cs k c → slice_get (threads_of cs) k ≡ Some (thread_of c)
thread_at [] k c below is = absurd (omega arith)
thread_at (x ∷ cs) zero c below is = ap (λ (y : ControlBlock). Some (thread_of y)) (sym is)
thread_at (x ∷ cs) (suc k) c below is = thread_at cs k c (omega arith) is

pub woken_at : (image : Image) (cs : List ControlBlock) (k : ℕ) (old new : ControlBlock) → k < length cs → old ≡ get_or cs k old → thread_of new ≡ woken image (Some (thread_of old)) → threads_of (slice_set cs k new) ≡ wake image k (threads_of cs)
woken_at image cs k old new below is wakes =
    threads_set cs k new ∙ ap (λ (t : Thread). slice_set (threads_of cs) k t) (wakes ∙ ap (λ (o : Option Thread). woken image o) (sym (thread_at cs k old below is)))

-- a place whose room stays leaves all rooms as they were
pub rooms_at : (cs : List ControlBlock) (k : ℕ) (old new : ControlBlock) → k < length cs → old ≡ get_or cs k old → new.job.frames.room ≡ old.job.frames.room → rooms_of (slice_set cs k new) ≡ rooms_of cs
rooms_at [] k old new below is same = refl
rooms_at (x ∷ cs) zero old new below is same = ap (λ (n : ℕ). n ∷ rooms_of cs) (same ∙ ap (λ (c : ControlBlock). c.job.frames.room) is)
rooms_at (x ∷ cs) (suc k) old new below is same = ap (λ (ns : List ℕ). x.job.frames.room ∷ ns) (rooms_at cs k old new (omega arith) is same)

-- one more is taken out
pub wake_more : (image : Image) (js : List ℕ) (j : ℕ) (ts : List Thread) → wake_all image (js ++ j ∷ []) ts ≡ wake image j (wake_all image js ts)
wake_more image [] j ts = refl
wake_more image (i ∷ js) j ts = wake_more image js j (wake image i ts)

-- one of them is the number of a process
pub below_at : (n : ℕ) (ks : List ℕ) (i d : ℕ) → AreBelow n ks → i < length ks → get_or ks i d < n
below_at n [] i d below inside = absurd (omega arith)
below_at n (x ∷ ks) zero d below inside = below.0
below_at n (x ∷ ks) (suc i) d below inside = below_at n ks i d below.1 (omega arith)

-- one more of a queue is taken out
pub waken_more : (image : Image) (ks : List ℕ) (i d k : ℕ) (ts now new : List Thread) → i < length ks → k ≡ get_or ks i d → now ≡ wake_all image (take i ks) ts → new ≡ wake image k now → new ≡ wake_all image (take (i + 1) ks) ts
waken_more image ks i d k ts now new inside is before step =
    let e : suc i ≡ i + 1 = omega arith in
    step ∙ rw (is, before) refl ∙ sym (wake_more image (take i ks) (get_or ks i d) ts) ∙ ap (λ (js : List ℕ). wake_all image js ts) (sym (take-suc ks i d inside)) ∙ ap (λ (n : ℕ). wake_all image (take n ks) ts) e
