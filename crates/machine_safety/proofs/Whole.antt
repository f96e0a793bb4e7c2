-- The whole state.
use Rattle.std.proofs.Common.{◌≡◌, ◌≤◌, ◌<◌, ◌⊎◌, inl, inr, ℕ, zero, suc, List, [], ◌∷◌, Some, None, length, arith, refl, ap, sym, subst, ◌∙◌, length-set}
use Rattle.std.specs.Prelude.{slice_get, slice_set, ℤ}
use Rattle.machine_semantics.specs.Image.{Image, Process}
use Rattle.machine_semantics.specs.State.{Job, Thread, Idle, Ready, Waiting, State}
use Rattle.machine_semantics.specs.Tick.{owned_of}
use Rattle.machine_semantics.specs.Walk.{Where, WalkCost}
use Rattle.machine_semantics.specs.Safe.{Parts, ReadyFits, WaitingFits, part_of}
use Rattle.machine_semantics.specs.Whole.{ThreadFits, ceiling_of, IsInside, Apart, StateFits}
use Rattle.machine_safety.proofs.Ticking.{fits_at, comes_at}

-- ---- lists

-- what stands at a place after a store
pub get_of_set : {X : Type 0} (xs : List X) (i : ℕ) (x : X) (j : ℕ) (y : X) → slice_get (slice_set xs i x) j ≡ Some y → ((i ≡ j) × (x ≡ y)) ⊎ (slice_get xs j ≡ Some y)
get_of_set [] i x j y at = inr at
get_of_set (z ∷ zs) zero x zero y at = inl (refl, cc)
get_of_set (z ∷ zs) zero x (suc j) y at = inr at
get_of_set (z ∷ zs) (suc i) x zero y at = inr at
get_of_set (z ∷ zs) (suc i) x (suc j) y at = elim (get_of_set zs i x j y at) [ inl same ↦ inl (ap suc same.0, same.1) | inr old ↦ inr old ]

pub length_owned : (ws : List (List ℤ)) (k j : ℕ) (w : List ℤ) → length w ≡ length (owned_of (slice_get ws k)) → length (owned_of (slice_get (slice_set ws k w) j)) ≡ length (owned_of (slice_get ws j))
length_owned [] k j w is = refl
length_owned (v ∷ vs) zero zero w is = is
length_owned (v ∷ vs) zero (suc j) w is = refl
length_owned (v ∷ vs) (suc k) zero w is = refl
length_owned (v ∷ vs) (suc k) (suc j) w is = length_owned vs k j w is

-- ---- threads that do not run

pub ready_elsewhere : (e : Where) (p : Process) (ps : Parts) (job : Job) (owned owned' shared shared' : List ℤ) (left : WalkCost) → length owned ≤ length owned' → ReadyFits e p ps job owned shared left → ReadyFits e p ps job owned' shared' left
ready_elsewhere e p ps job owned owned' shared shared' left longer r =
    record { cost = r.cost; fits = fits_at e (part_of ps job.handling) job job.done job.dispatch_ticks owned owned' shared shared' r.cost longer r.fits; early = r.early; ends = r.ends; run = r.run; susp = r.susp; waits = r.waits; leave = r.leave }

pub waiting_elsewhere : (e : Where) (p : Process) (ps : Parts) (job : Job) (owned owned' shared shared' : List ℤ) (left : WalkCost) → length owned ≤ length owned' → WaitingFits e p ps job owned shared left → WaitingFits e p ps job owned' shared' left
waiting_elsewhere e p ps job owned owned' shared shared' left longer r =
    record { cost = r.cost; fits = comes_at e (part_of ps job.handling) job job.done job.dispatch_ticks owned owned' shared shared' r.cost longer r.fits; fresh = r.fresh; ends = r.ends; run = r.run; susp = r.susp; waits = r.waits }

pub thread_elsewhere : (e : Where) (p : Process) (ps : Parts) (t : Thread) (owned owned' shared shared' : List ℤ) → length owned ≤ length owned' → ThreadFits e p ps t owned shared → ThreadFits e p ps t owned' shared'
thread_elsewhere e p ps Idle owned owned' shared shared' longer f = omega (arith, f)
thread_elsewhere e p ps (Ready job) owned owned' shared shared' longer f = (f.0, ready_elsewhere e p ps job owned owned' shared shared' f.0 longer f.1)
thread_elsewhere e p ps (Waiting c due n job) owned owned' shared shared' longer f = (f.0, waiting_elsewhere e p ps job owned owned' shared shared' f.0 longer f.1)

-- ---- one thread anew

-- a thread that is inside no monitor, if it is ready
abbrev pub IsOutside : Thread → Type 0
IsOutside Idle = Unit {0}
IsOutside (Ready job) = job.inside ≡ None
IsOutside (Waiting c due n job) = Unit {0}

-- if the thread at k is inside a monitor, it and any other that is inside one are apart
abbrev pub IsClear : Image → List Thread → ℕ → Process → Thread → Type 0
IsClear image threads k p t = (job : Job) (m : ℕ) → t ≡ Ready job → job.inside ≡ Some m → (j n : ℕ) (q : Process) → (j ≡ k → ⊥) → IsInside image threads j n q → (p.rank < ceiling_of image n) ⊎ (q.rank < ceiling_of image m)

outside_clear : (image : Image) (threads : List Thread) (k : ℕ) (p : Process) (t : Thread) → IsOutside t → IsClear image threads k p t
outside_clear image threads k p t out job m is inside j n q other there = absurd (let o : job.inside ≡ None = subst IsOutside is out in cc)

apart_set : (image : Image) (threads : List Thread) (k : ℕ) (p : Process) (t : Thread) → slice_get image.processes k ≡ Some p → IsClear image threads k p t → Apart image threads → Apart image (slice_set threads k t)
apart_set image threads k p t process clear apart i j m n q r differ a b =
    elim (get_of_set threads k t i (Ready a.job) a.ready) [
      | inl first ↦
          elim (get_of_set threads k t j (Ready b.job) b.ready) [
            | inl second ↦ absurd (differ (sym first.0 ∙ second.0))
            | inr old ↦
                let at_k : slice_get image.processes k ≡ Some q = ap (λ (x : ℕ). slice_get image.processes x) first.0 ∙ a.process in
                let same_p : p ≡ q = (let both : Some p ≡ Some q = sym process ∙ at_k in cc) in
                let rank : p.rank ≡ q.rank = ap (λ (x : Process). x.rank) same_p in
                let other : (p.rank < ceiling_of image n) ⊎ (r.rank < ceiling_of image m) =
                clear a.job m first.1 a.inside j n r (λ same. differ (sym first.0 ∙ sym same)) (record { process = b.process; job = b.job; ready = old; inside = b.inside }) in
                elim other [ inl low ↦ inl (omega (arith, rank)) | inr low ↦ inr low ]
          ]
      | inr old_a ↦
          elim (get_of_set threads k t j (Ready b.job) b.ready) [
            | inl second ↦
                let at_k : slice_get image.processes k ≡ Some r = ap (λ (x : ℕ). slice_get image.processes x) second.0 ∙ b.process in
                let same_p : p ≡ r = (let both : Some p ≡ Some r = sym process ∙ at_k in cc) in
                let rank : p.rank ≡ r.rank = ap (λ (x : Process). x.rank) same_p in
                let other : (p.rank < ceiling_of image m) ⊎ (q.rank < ceiling_of image n) =
                clear b.job n second.1 b.inside i m q (λ same. differ (same ∙ second.0)) (record { process = a.process; job = a.job; ready = old_a; inside = a.inside }) in
                elim other [ inl low ↦ inr (omega (arith, rank)) | inr low ↦ inl low ]
            | inr old_b ↦
                apart i j m n q r differ (record { process = a.process; job = a.job; ready = old_a; inside = a.inside }) (record { process = b.process; job = b.job; ready = old_b; inside = b.inside })
          ]
    ]

-- the state with one thread anew, its words anew, and other words, queues and devices of the same numbers
pub state_set : (e : Where) (ps : ℕ → Parts) (s : State) (k : ℕ) (p : Process) (t : Thread) (w shared : List ℤ) (queues : List (List ℕ)) (devices : List ℤ)
    → StateFits e ps s → slice_get e.image.processes k ≡ Some p → IsClear e.image s.threads k p t → length w ≡ length (owned_of (slice_get s.owned k)) → ThreadFits e p (ps k) t w shared
    → length shared ≡ length s.shared → length queues ≡ length s.queues → length devices ≡ length s.devices
    → StateFits e ps (record { threads = slice_set s.threads k t; owned = slice_set s.owned k w; shared = shared; queues = queues; devices = devices })
state_set e ps s k p t w shared queues devices fits process clear words new same_shared same_queues same_devices = record {
  sized = record { queues = same_queues ∙ fits.sized.queues; devices = same_devices ∙ fits.sized.devices; shared = λ m mon there. omega (arith, fits.sized.shared m mon there) };
  many = length-set s.threads k t ∙ fits.many;
  threads = λ j q u at_q at_u. elim (get_of_set s.threads k t j u at_u) [
    | inl same ↦
        let at_k : slice_get e.image.processes k ≡ Some q = ap (λ (x : ℕ). slice_get e.image.processes x) same.0 ∙ at_q in
        let same_p : p ≡ q = (let both : Some p ≡ Some q = sym process ∙ at_k in cc) in
        let longer : length w ≤ length (owned_of (slice_get (slice_set s.owned k w) j)) = omega (arith, words, length_owned s.owned k j w words, ap (λ (x : ℕ). length (owned_of (slice_get s.owned x))) same.0) in
        let moved : ThreadFits e q (ps j) u w shared =
        subst (λ (v : Thread). ThreadFits e q (ps j) v w shared) same.1 (subst (λ (x : ℕ). ThreadFits e q (ps x) t w shared) same.0 (subst (λ (x : Process). ThreadFits e x (ps k) t w shared) same_p new)) in
        thread_elsewhere e q (ps j) u w (owned_of (slice_get (slice_set s.owned k w) j)) shared shared longer moved
    | inr old ↦
        thread_elsewhere e q (ps j) u (owned_of (slice_get s.owned j)) (owned_of (slice_get (slice_set s.owned k w) j)) s.shared shared (omega (arith, length_owned s.owned k j w words)) (fits.threads j q u at_q old)
  ];
  apart = apart_set e.image s.threads k p t process clear fits.apart;
}

-- the same without the process's words
pub thread_set : (e : Where) (ps : ℕ → Parts) (s : State) (k : ℕ) (p : Process) (t : Thread) (queues : List (List ℕ))
    → StateFits e ps s → slice_get e.image.processes k ≡ Some p → IsOutside t → ThreadFits e p (ps k) t (owned_of (slice_get s.owned k)) s.shared
    → length queues ≡ length s.queues
    → StateFits e ps (record { threads = slice_set s.threads k t; owned = s.owned; shared = s.shared; queues = queues; devices = s.devices })
thread_set e ps s k p t queues fits process out new same_queues = record {
  sized = record { queues = same_queues ∙ fits.sized.queues; devices = fits.sized.devices; shared = fits.sized.shared };
  many = length-set s.threads k t ∙ fits.many;
  threads = λ j q u at_q at_u. elim (get_of_set s.threads k t j u at_u) [
    | inl same ↦
        let at_k : slice_get e.image.processes k ≡ Some q = ap (λ (x : ℕ). slice_get e.image.processes x) same.0 ∙ at_q in
        let same_p : p ≡ q = (let both : Some p ≡ Some q = sym process ∙ at_k in cc) in
        subst (λ (v : Thread). ThreadFits e q (ps j) v (owned_of (slice_get s.owned j)) s.shared) same.1
        (subst (λ (x : ℕ). ThreadFits e q (ps x) t (owned_of (slice_get s.owned x)) s.shared) same.0
        (subst (λ (x : Process). ThreadFits e x (ps k) t (owned_of (slice_get s.owned k)) s.shared) same_p new))
    | inr old ↦ fits.threads j q u at_q old
  ];
  apart = apart_set e.image s.threads k p t process (outside_clear e.image s.threads k p t out) fits.apart;
}
