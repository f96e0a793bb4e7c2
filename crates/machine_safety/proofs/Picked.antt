-- The process that is picked, and what it finds free.
use Rattle.std.proofs.Common.{◌≡◌, ◌≤◌, ◌<◌, ◌+◌, ◌⊎◌, inl, inr, ℕ, zero, suc, List, [], ◌∷◌, Option, Some, None, arith, refl, ap, sym, subst, ◌∙◌, true, false, Bool}
use Rattle.std.specs.Prelude.{ℤ, slice_get, cond, nat_lt, nat_eq, not, ◌&&◌, ◌||◌}
use Rattle.std.proofs.lemmas.Bool.{cases_Bool, ltb-true, ltb-false, eqb-true}
use Rattle.std.proofs.lemmas.Bool.Decides.{nat_tests}
use Rattle.std.proofs.lemmas.Option.{slice_get_within}
use Rattle.base.proofs.Lists.{some_at}
use Rattle.machine_semantics.specs.Image.{Image, Monitor, Process}
use Rattle.machine_semantics.specs.State.{Job, Thread, Idle, Ready, Waiting, State, is_free, is_inside, thread_inside}
use Rattle.machine_semantics.specs.Tick.{ceiling, Candidate, active_rank, outside, is_before, first_of_two, least}
use Rattle.machine_semantics.specs.Part.{Part}
use Rattle.machine_semantics.specs.Walk.{Where}
use Rattle.machine_semantics.specs.Job.{FindsFree}
use Rattle.machine_semantics.specs.Safe.{Parts, own_of}
use Rattle.machine_semantics.specs.Whole.{ceiling_of, StateFits}

-- ---- the order of candidates

is_less : (a b : Candidate) → is_before a b ≡ true → (a.rank < b.rank) ⊎ ((a.rank ≡ b.rank) × (a.outside < b.outside))
is_less a b is =
    elim (cases_Bool (nat_lt a.rank b.rank)) [
      | inl lt ↦ inl (ltb-true _ _ lt)
      | inr no_lt ↦
          let rest : nat_eq a.rank b.rank && nat_lt a.outside b.outside ≡ true = subst (λ (t : Bool). t || (nat_eq a.rank b.rank && nat_lt a.outside b.outside) ≡ true) no_lt is in
          inr (grind (arith, nat_tests, rest), grind (arith, nat_tests, rest))
    ]

is_not_less : (a b : Candidate) → is_before b a ≡ false → (a.rank < b.rank) ⊎ ((a.rank ≡ b.rank) × (a.outside ≤ b.outside))
is_not_less a b is =
    elim (cases_Bool (nat_lt a.rank b.rank)) [
      | inl lt ↦ inl (ltb-true _ _ lt)
      | inr no_lt ↦ inr (grind (arith, nat_tests, is, ltb-false _ _ no_lt), grind (arith, nat_tests, is, ltb-false _ _ no_lt))
    ]

-- ---- the candidate of least active rank

-- it is below the ceiling of each monitor that a ready process is inside, or at it and inside a monitor itself
abbrev pub IsLow : Image → Candidate → ℕ → Type 0
IsLow image c n = (c.rank < ceiling_of image n) ⊎ ((c.rank ≤ ceiling_of image n) × (c.outside ≡ 0))

pub record Lowest (image : Image) (from : ℕ) (ps : List Process) (ts : List Thread) (c : Candidate) : Type 0 where
  pub index : ℕ
  pub place : c.place ≡ from + index
  pub p : Process
  pub job : Job
  pub process : slice_get ps index ≡ Some p
  pub ready : slice_get ts index ≡ Some (Ready job)
  pub rank : c.rank ≡ active_rank image p job.inside
  pub out : c.outside ≡ outside job.inside
  pub low : (j n : ℕ) (q : Process) (other : Job) → slice_get ps j ≡ Some q → slice_get ts j ≡ Some (Ready other) → other.inside ≡ Some n → IsLow image c n

low_trans : (image : Image) (a b : Candidate) (n : ℕ) → (a.rank < b.rank) ⊎ ((a.rank ≡ b.rank) × (a.outside ≤ b.outside)) → IsLow image b n → IsLow image a n
low_trans image a b n (inl lt) (inl low) = inl (omega arith)
low_trans image a b n (inl lt) (inr low) = inl (omega (arith, low.0))
low_trans image a b n (inr same) (inl low) = inl (omega (arith, same.0))
low_trans image a b n (inr same) (inr low) = inr (omega (arith, same.0, low.0), omega (arith, same.1, low.1))

further : (image : Image) (from : ℕ) (p : Process) (ps : List Process) (t : Thread) (ts : List Thread) (c : Candidate) → Lowest image (from + 1) ps ts c
    → ((n : ℕ) (other : Job) → t ≡ Ready other → other.inside ≡ Some n → IsLow image c n) → Lowest image from (p ∷ ps) (t ∷ ts) c
further image from p ps t ts c ch head = record {
  index = suc ch.index;
  place = omega (arith, ch.place);
  p = ch.p;
  job = ch.job;
  process = ch.process;
  ready = ch.ready;
  rank = ch.rank;
  out = ch.out;
  low = λ j n q other at_q at_t inside. at_index j n q other at_q at_t inside;
} where
  at_index : (j n : ℕ) (q : Process) (other : Job) → slice_get (p ∷ ps) j ≡ Some q → slice_get (t ∷ ts) j ≡ Some (Ready other) → other.inside ≡ Some n → IsLow image c n
  at_index zero n q other at_q at_t inside = head n other (cc) inside
  at_index (suc j) n q other at_q at_t inside = ch.low j n q other at_q at_t inside

-- a process inside a monitor is at its ceiling
own_low : (image : Image) (a : Candidate) (p : Process) (job other : Job) (n : ℕ) → a.rank ≡ active_rank image p job.inside → a.outside ≡ outside job.inside → Ready job ≡ Ready other → other.inside ≡ Some n
    → (a.rank ≡ ceiling_of image n) × (a.outside ≡ 0)
own_low image a p job other n rank out same inside =
    let same_job : job ≡ other = cc in
    let is : job.inside ≡ Some n = ap (λ (x : Job). x.inside) same_job ∙ inside in
    (rank ∙ ap (λ (x : Option ℕ). active_rank image p x) is, out ∙ ap (λ (x : Option ℕ). outside x) is)

head_alone : (image : Image) (from : ℕ) (p : Process) (ps : List Process) (job : Job) (ts : List Thread) (a : Candidate) → a.place ≡ from → a.rank ≡ active_rank image p job.inside → a.outside ≡ outside job.inside
    → ((j n : ℕ) (q : Process) (other : Job) → slice_get ps j ≡ Some q → slice_get ts j ≡ Some (Ready other) → other.inside ≡ Some n → IsLow image a n) → Lowest image from (p ∷ ps) (Ready job ∷ ts) a
head_alone image from p ps job ts a place rank out low = record {
  index = 0;
  place = omega (arith, place);
  p = p;
  job = job;
  process = refl;
  ready = refl;
  rank = rank;
  out = out;
  low = at_index;
} where
  at_index : (j n : ℕ) (q : Process) (other : Job) → slice_get (p ∷ ps) j ≡ Some q → slice_get (Ready job ∷ ts) j ≡ Some (Ready other) → other.inside ≡ Some n → IsLow image a n
  at_index zero n q other at_q at_t inside =
      let same : Ready job ≡ Ready other = cc in
      let l : (a.rank ≡ ceiling_of image n) × (a.outside ≡ 0) = own_low image a p job other n rank out same inside in inr (omega (arith, l.0), l.1)
  at_index (suc j) n q other at_q at_t inside = low j n q other at_q at_t inside

-- nobody is lowest only where nobody is ready
abbrev pub NoneReady : List Process → List Thread → Type 0
NoneReady ps ts = (j : ℕ) (q : Process) (other : Job) → slice_get ps j ≡ Some q → slice_get ts j ≡ Some (Ready other) → ⊥

abbrev pub LowestOf : Image → ℕ → List Process → List Thread → Option Candidate → Type 0
LowestOf image from ps ts None = NoneReady ps ts
LowestOf image from ps ts (Some c) = Lowest image from ps ts c

pub lowest : (image : Image) (from : ℕ) (ps : List Process) (ts : List Thread) → LowestOf image from ps ts (least image from ps ts)
lowest image from [] ts = λ j q other at_q at_t. cc
lowest image from (p ∷ ps) [] = λ j q other at_q at_t. cc
lowest image from (p ∷ ps) (Idle ∷ ts) = past Idle (least image (from + 1) ps ts) (λ other same. absurd cc) (lowest image (from + 1) ps ts) where
  past : (t : Thread) (o : Option Candidate) → ((other : Job) → t ≡ Ready other → ⊥) → LowestOf image (from + 1) ps ts o → LowestOf image from (p ∷ ps) (t ∷ ts) o
  past t None no_one none = at_index where
    at_index : (j : ℕ) (q : Process) (other : Job) → slice_get (p ∷ ps) j ≡ Some q → slice_get (t ∷ ts) j ≡ Some (Ready other) → ⊥
    at_index zero q other at_q at_t = no_one other cc
    at_index (suc j) q other at_q at_t = none j q other at_q at_t
  past t (Some c) no_one ch = further image from p ps t ts c ch (λ n other same inside. absurd (no_one other same))
lowest image from (p ∷ ps) (Waiting condition due number job ∷ ts) = past (Waiting condition due number job) (least image (from + 1) ps ts) (λ other same. absurd cc) (lowest image (from + 1) ps ts) where
  past : (t : Thread) (o : Option Candidate) → ((other : Job) → t ≡ Ready other → ⊥) → LowestOf image (from + 1) ps ts o → LowestOf image from (p ∷ ps) (t ∷ ts) o
  past t None no_one none = at_index where
    at_index : (j : ℕ) (q : Process) (other : Job) → slice_get (p ∷ ps) j ≡ Some q → slice_get (t ∷ ts) j ≡ Some (Ready other) → ⊥
    at_index zero q other at_q at_t = no_one other cc
    at_index (suc j) q other at_q at_t = none j q other at_q at_t
  past t (Some c) no_one ch = further image from p ps t ts c ch (λ n other same inside. absurd (no_one other same))
lowest image from (p ∷ ps) (Ready job ∷ ts) = best (least image (from + 1) ps ts) (lowest image (from + 1) ps ts) where
  a : Candidate
  a = record { place = from; rank = active_rank image p job.inside; outside = outside job.inside }

  best : (o : Option Candidate) → LowestOf image (from + 1) ps ts o → LowestOf image from (p ∷ ps) (Ready job ∷ ts) (first_of_two a o)
  best None none = head_alone image from p ps job ts a refl refl refl (λ j n q other at_q at_t inside. absurd (none j q other at_q at_t))
  best (Some b) ch =
      elim (cases_Bool (is_before b a)) [
        | inl before ↦
            subst (λ (t : Bool). LowestOf image from (p ∷ ps) (Ready job ∷ ts) (cond t (Some b) (Some a))) (sym before)
            (further image from p ps (Ready job) ts b ch (λ n other same inside.
            let l : (a.rank ≡ ceiling_of image n) × (a.outside ≡ 0) = own_low image a p job other n refl refl same inside in
            elim (is_less b a before) [ inl lt ↦ inl (omega (arith, l.0)) | inr tie ↦ absurd (omega (arith, tie.1, l.1)) ]))
        | inr not_before ↦
            subst (λ (t : Bool). LowestOf image from (p ∷ ps) (Ready job ∷ ts) (cond t (Some b) (Some a))) (sym not_before)
            (head_alone image from p ps job ts a refl refl refl (λ j n q other at_q at_t inside. low_trans image a b n (is_not_less a b not_before) (ch.low j n q other at_q at_t inside)))
      ]

-- ---- a process that may run

-- the process of a candidate is ready, and where it is inside no monitor its rank is below, as a number, the ceiling of each that a ready process is inside
pub record Chosen (image : Image) (from : ℕ) (ps : List Process) (ts : List Thread) (c : Candidate) : Type 0 where
  pub index : ℕ
  pub place : c.place ≡ from + index
  pub p : Process
  pub job : Job
  pub process : slice_get ps index ≡ Some p
  pub ready : slice_get ts index ≡ Some (Ready job)
  pub free : job.inside ≡ None → (j n : ℕ) (q : Process) (other : Job) → slice_get ps j ≡ Some q → slice_get ts j ≡ Some (Ready other) → other.inside ≡ Some n → p.rank < ceiling_of image n

abbrev pub ChosenOf : Image → ℕ → List Process → List Thread → Option Candidate → Type 0
ChosenOf image from ps ts None = NoneReady ps ts
ChosenOf image from ps ts (Some c) = Chosen image from ps ts c

-- the one of least active rank may
may_run : (image : Image) (from : ℕ) (ps : List Process) (ts : List Thread) (o : Option Candidate) → LowestOf image from ps ts o → ChosenOf image from ps ts o
may_run image from ps ts None none = none
may_run image from ps ts (Some c) l = record {
  index = l.index;
  place = l.place;
  p = l.p;
  job = l.job;
  process = l.process;
  ready = l.ready;
  free = λ outside_it j n q other at_q at_t inside.
      let rank : c.rank ≡ l.p.rank = l.rank ∙ ap (λ (x : Option ℕ). active_rank image l.p x) outside_it in
      let out : c.outside ≡ 1 = l.out ∙ ap (λ (x : Option ℕ). outside x) outside_it in
      elim (l.low j n q other at_q at_t inside) [ inl lt ↦ omega (arith, rank) | inr tie ↦ absurd (omega (arith, tie.1, out)) ];
}

pub chosen : (image : Image) (from : ℕ) (ps : List Process) (ts : List Thread) → ChosenOf image from ps ts (least image from ps ts)
chosen image from ps ts = may_run image from ps ts (least image from ps ts) (lowest image from ps ts)

-- ---- what it finds free

all_outside : (m : ℕ) (ts : List Thread) → ((j : ℕ) (t : Thread) → slice_get ts j ≡ Some t → thread_inside m t ≡ false) → is_free m ts ≡ true
all_outside m [] none = refl
all_outside m (t ∷ ts) none = subst (λ (b : Bool). not b && is_free m ts ≡ true) (sym (none 0 t refl)) (all_outside m ts (λ j u at. none (suc j) u at))

-- each thread has its process
pub process_of : (e : Where) (ps : ℕ → Parts) (s : State) (j : ℕ) (t : Thread) → StateFits e ps s → slice_get s.threads j ≡ Some t → (p : Process) × (slice_get e.image.processes j ≡ Some p)
process_of e ps s j t fits at = some_at e.image.processes j (omega (arith, slice_get_within s.threads j t at, fits.many))

-- the process that is picked, if it is inside no monitor, finds free each monitor whose ceiling is not above its rank
pub finds_free : (e : Where) (ps : ℕ → Parts) (s : State) (c : Candidate) (ch : Chosen e.image 0 e.image.processes s.threads c) (own : Part) (owned : List ℤ) → StateFits e ps s → own.limit ≤ ch.p.rank
    → FindsFree e s own (own_of ch.job owned s.shared)
finds_free e ps s c ch own owned fits low m mon there ceiling_low outside_it =
    all_outside m s.threads (λ j t at. by_thread j t at) where
      by_inside : (j : ℕ) (job : Job) (o : Option ℕ) → slice_get s.threads j ≡ Some (Ready job) → job.inside ≡ o → is_inside m o ≡ false
      by_inside j job None at inside = refl
      by_inside j job (Some n) at inside =
          elim (cases_Bool (nat_eq m n)) [
            | inl is ↦
                let same : m ≡ n = eqb-true m n is in
                let q : (p : Process) × (slice_get e.image.processes j ≡ Some p) = process_of e ps s j (Ready job) fits at in
                let ceil : ceiling_of e.image n ≡ mon.ceiling = ap (λ (x : ℕ). ceiling_of e.image x) (sym same) ∙ ap (λ (x : Option Monitor). ceiling x) there in
                absurd (let lt : ch.p.rank < ceiling_of e.image n = ch.free outside_it j n q.0 job q.1 at inside in omega (arith, ceil))
            | inr not_it ↦ not_it
          ]

      by_thread : (j : ℕ) (t : Thread) → slice_get s.threads j ≡ Some t → thread_inside m t ≡ false
      by_thread j Idle at = refl
      by_thread j (Ready job) at = by_inside j job job.inside at refl
      by_thread j (Waiting condition due number job) at =
          let q : (p : Process) × (slice_get e.image.processes j ≡ Some p) = process_of e ps s j (Waiting condition due number job) fits at in
          ap (λ (x : Option ℕ). is_inside m x) (fits.threads j q.0 (Waiting condition due number job) q.1 at).1.fits.outside
