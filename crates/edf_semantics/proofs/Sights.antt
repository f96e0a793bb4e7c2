-- One process about one tick, as the law on earliest deadlines sees it, in plain threads, marks and numbers.
use Rattle.std.proofs.Common.{◌≡◌, ◌≤◌, ◌<◌, ◌+◌, ◌-◌, inl, inr, ℕ, Option, Some, None, arith, refl, ap, sym, subst, ◌∙◌, true, false, Bool}
use Rattle.machine_semantics.specs.Image.{Image, Process}
use Rattle.machine_semantics.specs.State.{Job, Thread, Idle, Ready, Waiting}
use Rattle.machine_semantics.specs.Starts.{released}
use Rattle.machine_semantics.specs.Whole.{ceiling_of}
use Rattle.sched_theorem.specs.Stretches.{flag}
use Rattle.sched_theorem.specs.Dispatched.{Stay, TakesOne}
use Rattle.sched_demand.specs.Activations.{Activation, IsBefore, IsFirst, IsFirstBegun, IsAbove, IsHeldBack, Chooses, Starts, Runs}
use Rattle.sched_timing.proofs.Begun.{TimesOut, maybe_released}
use Rattle.edf_semantics.specs.Choice.{Mark}
use Rattle.edf_semantics.specs.Run.{mark_of}
use Rattle.edf_semantics.specs.Safe.{inside_of}
use Rattle.edf_semantics.proofs.Marking.{IsNotWaiting}

-- a ready process with a mark and so much left
abbrev pub view : Option Thread → Option Mark → ℕ → Activation
view (Some (Ready job)) (Some m) left = record { left = left; release = m.release; had = flag m.begun }
view (Some (Ready job)) None left = record { left = 0; release = 0; had = 0 }
view (Some Idle) m left = record { left = 0; release = 0; had = 0 }
view (Some (Waiting c d number job)) m left = record { left = 0; release = 0; had = 0 }
view None m left = record { left = 0; release = 0; had = 0 }

-- ceilings count from 0 there
abbrev pub stay_view : Image → Option ℕ → ℕ → Option Stay
stay_view image None left = None
stay_view image (Some m) left = Some (record { ceiling = ceiling_of image m - 1; left = left })

pub view_active : (o : Option Thread) (n : Option Mark) (left : ℕ) → 1 ≤ (view o n left).left → (job : Job) × (m : Mark) × (o ≡ Some (Ready job)) × (n ≡ Some m)
view_active (Some (Ready job)) (Some m) left active = (job, m, refl, refl)
view_active (Some (Ready job)) None left active = absurd (omega arith)
view_active (Some Idle) n left active = absurd (omega arith)
view_active (Some (Waiting c d number job)) n left active = absurd (omega arith)
view_active None n left active = absurd (omega arith)

pub view_le : (o : Option Thread) (n : Option Mark) (left : ℕ) → (view o n left).left ≤ left
view_le (Some (Ready job)) (Some m) left = omega arith
view_le (Some (Ready job)) None left = omega arith
view_le (Some Idle) n left = omega arith
view_le (Some (Waiting c d number job)) n left = omega arith
view_le None n left = omega arith

pub view_is : (o : Option Thread) (n : Option Mark) (left : ℕ) (job : Job) (m : Mark) → o ≡ Some (Ready job) → n ≡ Some m → view o n left ≡ record { left = left; release = m.release; had = flag m.begun }
view_is o n left job m is_o is_n = ap (λ (x : Option Thread). view x n left) is_o ∙ ap (λ (x : Option Mark). view (Some (Ready job)) x left) is_n

-- ---- start events

-- what is known of the numbers about the start events
pub record Sight (image : Image) (p : Process) (due : Bool) (old mid : Thread) (left mid_left cost : ℕ) : Type 0 where
  pub calm : IsNotWaiting old
  pub exact : TimesOut (maybe_released image p due (Some old)) (Some mid)
  pub same : (job : Job) → old ≡ Ready job → mid_left ≡ left
  pub some_old : (job : Job) → old ≡ Ready job → 1 ≤ left
  pub some_mid : (job : Job) → mid ≡ Ready job → 1 ≤ mid_left
  pub within : (job : Job) → old ≡ Idle → mid ≡ Ready job → mid_left ≤ cost

starts_plain : (image : Image) (p : Process) (t : ℕ) (due : Bool) (old mid : Thread) (m : Mark) (left mid_left cost : ℕ) → Sight image p due old mid left mid_left cost → Starts t due cost (view (Some old) (Some m) left) (view (Some mid) (Some (mark_of t old mid m)) mid_left)
starts_plain image p t true Idle mid m left mid_left cost s =
    let is : mid ≡ Ready (released image p) = (let e = s.exact in cc) in
    let some = s.some_mid (released image p) is in
    let within = s.within (released image p) refl is in
    subst (λ (x : Thread). Starts t true cost (view (Some Idle) (Some m) left) (view (Some x) (Some (mark_of t Idle x m)) mid_left)) (sym is)
    (record { keeps = λ active. absurd (omega arith); rests = λ idle not_due. absurd (cc); starts = λ idle is_due. some; costs = λ idle is_due. within; since = λ idle is_due. refl; fresh = λ idle is_due. refl })
starts_plain image p t false Idle mid m left mid_left cost s =
    let is : mid ≡ Idle = (let e = s.exact in cc) in
    subst (λ (x : Thread). Starts t false cost (view (Some Idle) (Some m) left) (view (Some x) (Some (mark_of t Idle x m)) mid_left)) (sym is)
    (record { keeps = λ active. absurd (omega arith); rests = λ idle not_due. refl; starts = λ idle is_due. absurd (cc); costs = λ idle is_due. absurd (cc); since = λ idle is_due. absurd (cc); fresh = λ idle is_due. absurd (cc) })
starts_plain image p t due (Ready job) mid m left mid_left cost s =
    let is : mid ≡ Ready job = stays due s.exact in
    let some = s.some_old job refl in
    let same : mid_left ≡ left = s.same job refl in
    subst (λ (x : Thread). Starts t due cost (view (Some (Ready job)) (Some m) left) (view (Some x) (Some (mark_of t (Ready job) x m)) mid_left)) (sym is)
    (record { keeps = λ active. ap (λ (n : ℕ). view (Some (Ready job)) (Some m) n) same; rests = λ idle not_due. absurd (omega arith); starts = λ idle is_due. absurd (omega arith); costs = λ idle is_due. absurd (omega arith); since = λ idle is_due. absurd (omega arith); fresh = λ idle is_due. absurd (omega arith) })
  where
    stays : (b : Bool) → TimesOut (maybe_released image p b (Some (Ready job))) (Some mid) → mid ≡ Ready job
    stays true e = cc
    stays false e = cc
starts_plain image p t due (Waiting c d number job) mid m left mid_left cost s = absurd s.calm

pub starts_sight : (image : Image) (p : Process) (t : ℕ) (due : Bool) (old mid : Thread) (m : Mark) (left mid_left cost : ℕ) (a b : Option Thread) (u v : Option Mark) → a ≡ Some old → b ≡ Some mid → u ≡ Some m → v ≡ Some (mark_of t old mid m)
    → Sight image p due old mid left mid_left cost → Starts t due cost (view a u left) (view b v mid_left)
starts_sight image p t due old mid m left mid_left cost a b u v at_a at_b at_u at_v s =
    subst (λ (x : Option Thread). Starts t due cost (view x u left) (view b v mid_left)) (sym at_a)
    (subst (λ (x : Option Thread). Starts t due cost (view (Some old) u left) (view x v mid_left)) (sym at_b)
    (subst (λ (x : Option Mark). Starts t due cost (view (Some old) x left) (view (Some mid) v mid_left)) (sym at_u)
    (subst (λ (x : Option Mark). Starts t due cost (view (Some old) (Some m) left) (view (Some mid) x mid_left)) (sym at_v) (starts_plain image p t due old mid m left mid_left cost s))))

-- ---- the rest of a tick

pub runs_sight : (mid new : Option Thread) (m : Option Mark) (own : Mark) (job : Job) (mid_left left : ℕ) → mid ≡ Some (Ready job) → m ≡ Some own → left + 1 ≤ mid_left
    → Runs (view mid m mid_left) (view new (Some (record { release = own.release; begun = true })) left)
runs_sight mid new m own job mid_left left at_mid at_m falls =
    let was = view_is mid m mid_left job own at_mid at_m in
    let le = view_le new (Some (record { release = own.release; begun = true })) left in
    record {
      falls = let e = ap (λ (x : Activation). x.left) was in omega arith;
      same = λ active.
          let a = view_active new (Some (record { release = own.release; begun = true })) left active in
          let is = view_is new (Some (record { release = own.release; begun = true })) left a.0 (record { release = own.release; begun = true }) a.2 refl in
          ap (λ (x : Activation). x.release) is ∙ sym (ap (λ (x : Activation). x.release) was);
      begins = λ active.
          let a = view_active new (Some (record { release = own.release; begun = true })) left active in
          let is = view_is new (Some (record { release = own.release; begun = true })) left a.0 (record { release = own.release; begun = true }) a.2 refl in
          let e = ap (λ (x : Activation). x.had) is in
          omega arith;
    }

-- ---- stays

pub takes_sight : (image : Image) (old new : Option ℕ) (stay next : ℕ) → ((m : ℕ) → old ≡ Some m → 1 ≤ stay) → ((m n : ℕ) → old ≡ Some m → new ≡ Some n → (m ≡ n) × (next + 1 ≤ stay)) → TakesOne (stay_view image old stay) (stay_view image new next)
takes_sight image None new stay next some falls = tt
takes_sight image (Some m) None stay next some falls = some m refl
takes_sight image (Some m) (Some n) stay next some falls = let f = falls m n refl refl in (ap (λ (x : ℕ). ceiling_of image x - 1) (sym f.0), f.1)

-- who is inside
pub stay_inside : (image : Image) (o : Option Thread) (left : ℕ) (s : Stay) → stay_view image (inside_of o) left ≡ Some s → (job : Job) × (m : ℕ) × (o ≡ Some (Ready job)) × (job.inside ≡ Some m) × (s ≡ record { ceiling = ceiling_of image m - 1; left = left })
stay_inside image (Some (Ready job)) left s is = by job.inside refl where
  by : (x : Option ℕ) → job.inside ≡ x → (j : Job) × (m : ℕ) × (Some (Ready job) ≡ Some (Ready j)) × (j.inside ≡ Some m) × (s ≡ record { ceiling = ceiling_of image m - 1; left = left })
  by None at = absurd (let none : stay_view image None left ≡ Some s = subst (λ (x : Option ℕ). stay_view image x left ≡ Some s) at is in cc)
  by (Some m) at = (job, m, refl, at, (let some : stay_view image (Some m) left ≡ Some s = subst (λ (x : Option ℕ). stay_view image x left ≡ Some s) at is in sym (ap the_stay some)))
    where
      the_stay : Option Stay → Stay
      the_stay None = record { ceiling = ceiling_of image m - 1; left = left }
      the_stay (Some x) = x
stay_inside image (Some Idle) left s is = absurd cc
stay_inside image (Some (Waiting c d number job)) left s is = absurd cc
stay_inside image None left s is = absurd cc

-- ---- the same choice

-- the same activations in two views: the same are there, with the same releases and ticks had; ranks and ceilings count from 1 in the first and from 0 in the second
pub record IsSameSight (n : ℕ) (rank deadline rank' deadline' : ℕ → ℕ) (inside inside' : ℕ → Option Stay) (a b : ℕ → Activation) : Type 0 where
  pub here : (q : ℕ) → q < n → 1 ≤ (a q).left → 1 ≤ (b q).left
  pub there : (q : ℕ) → q < n → 1 ≤ (b q).left → 1 ≤ (a q).left
  pub release : (q : ℕ) → q < n → (b q).release ≡ (a q).release
  pub had : (q : ℕ) → q < n → (b q).had ≡ (a q).had
  pub rank_is : (q : ℕ) → q < n → rank q ≡ rank' q + 1
  pub deadline_is : (q : ℕ) → q < n → deadline' q ≡ deadline q
  pub stay : (q : ℕ) (s : Stay) → q < n → inside' q ≡ Some s → (r : Stay) × (inside q ≡ Some r) × (s.ceiling ≡ r.ceiling - 1)
  pub stay_back : (q : ℕ) (r : Stay) → q < n → inside q ≡ Some r → (s : Stay) × (inside' q ≡ Some s) × (s.ceiling ≡ r.ceiling - 1)

module _ (n : ℕ) (rank deadline rank' deadline' : ℕ → ℕ) (inside inside' : ℕ → Option Stay) (a b : ℕ → Activation) (s : IsSameSight n rank deadline rank' deadline' inside inside' a b) where
  before : (p q : ℕ) → p < n → q < n → IsBefore rank deadline a p q → IsBefore rank' deadline' b p q
  before p q p_below q_below (inl lt) = inl (omega (arith, s.release p p_below, s.release q q_below, s.deadline_is p p_below, s.deadline_is q q_below))
  before p q p_below q_below (inr tie) = inr (omega (arith, tie.0, s.release p p_below, s.release q q_below, s.deadline_is p p_below, s.deadline_is q q_below), omega (arith, tie.1, s.rank_is p p_below, s.rank_is q q_below))

  first : (p : ℕ) → p < n → IsFirst n rank deadline a p → IsFirst n rank' deadline' b p
  first p p_below f q below other active = before p q p_below below (f q below other (s.there q below active))

  first_begun : (p : ℕ) → p < n → IsFirstBegun n rank deadline a p → IsFirstBegun n rank' deadline' b p
  first_begun p p_below f q below other begun = before p q p_below below (f q below other (record { active = s.there q below begun.active; had = omega (arith, s.had q below, begun.had) }))

  above : (p : ℕ) → p < n → IsAbove n inside (rank p) → IsAbove n inside' (rank' p)
  above p p_below f q stay below is = let r = s.stay q stay below is in let h = f q r.0 below r.1 in omega (arith, r.2, s.rank_is p p_below)

  held : (p : ℕ) → IsHeldBack n rank inside a p → IsHeldBack n rank' inside' b p
  held p h = let r = s.stay_back h.holder h.stay h.holder_of_these h.is_inside in record {
    of_these = h.of_these;
    active = s.here p h.of_these h.active;
    not_begun = s.had p h.of_these ∙ h.not_begun;
    holder = h.holder;
    holder_of_these = h.holder_of_these;
    stay = r.0;
    is_inside = r.1;
    ceiling = omega (arith, r.2, h.ceiling, s.rank_is p h.of_these);
  }

  pub chooses_sight : (o : Option ℕ) → Chooses n rank deadline inside a o → Chooses n rank' deadline' inside' b o
  chooses_sight None none = λ q below active. none q below (s.there q below active)
  chooses_sight (Some p) c = record {
    of_these = c.of_these;
    active = s.here p c.of_these c.active;
    choice = elim c.choice [
      | inl t ↦ inl (record { first = first p c.of_these t.first; may_go = elim t.may_go [ inl had ↦ inl (omega (arith, s.had p c.of_these)) | inr f ↦ inr (above p c.of_these f) ] })
      | inr t ↦ inr (record { begun = omega (arith, s.had p c.of_these, t.begun); first_begun = first_begun p c.of_these t.first_begun; front = t.front; is_first = first t.front t.held_back.of_these t.is_first; held_back = held t.front t.held_back })
    ];
  }
