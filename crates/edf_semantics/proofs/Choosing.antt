-- The choice, as the argument on earliest deadlines sees it.
use Rattle.std.proofs.Common.{◌≡◌, ◌≤◌, ◌<◌, ◌+◌, ◌⊎◌, inl, inr, ℕ, zero, suc, List, [], ◌∷◌, Option, Some, None, length, arith, refl, ap, sym, subst, ◌∙◌, true, false, Bool}
use Rattle.std.specs.Prelude.{slice_get, cond, nat_lt, nat_eq, not, ◌&&◌, ◌||◌}
use Rattle.std.proofs.lemmas.Bool.{cases_Bool, cases_lt, ltb-true, ltb-false}
use Rattle.std.proofs.lemmas.Bool.Decides.{nat_tests}
use Rattle.std.proofs.lemmas.Option.{slice_get_within}
use Rattle.base.proofs.Lists.{some_at}
use Rattle.machine_semantics.specs.Image.{Image, Process}
use Rattle.machine_semantics.specs.State.{Job, Thread, Idle, Ready, Waiting}
use Rattle.machine_semantics.specs.Whole.{ceiling_of}
use Rattle.sched_theorem.specs.Stretches.{flag}
use Rattle.sched_theorem.specs.Dispatched.{Stay}
use Rattle.sched_demand.specs.Activations.{Activation, IsBefore, IsBegun, IsFirst, IsFirstBegun, IsAbove, IsHeldBack, Chooses}
use Rattle.sched_demand.specs.Stacked.{AreStacked, AreDistinct}
use Rattle.edf_semantics.specs.Choice.{Mark, Entry, is_sooner, sooner_of, entry, soonest, lesser, with_inside, least_ceiling, may_go, taken, place_of, choose}
use Rattle.edf_semantics.specs.Safe.{act, inside_of, stay_of, acts, insides, rank_at, deadline_at, rank_of_some, deadline_of_some}

-- ---- the order of entries

abbrev pub IsNotLater : (d r e s : ℕ) → Type 0
IsNotLater d r e s = (d < e) ⊎ ((d ≡ e) × (r ≤ s))

is_less : (a b : Entry) → is_sooner a b ≡ true → (a.due < b.due) ⊎ ((a.due ≡ b.due) × (a.rank < b.rank))
is_less a b is =
    elim (cases_Bool (nat_lt a.due b.due)) [
      | inl lt ↦ inl (ltb-true _ _ lt)
      | inr no_lt ↦
          let rest : nat_eq a.due b.due && nat_lt a.rank b.rank ≡ true = subst (λ (t : Bool). t || (nat_eq a.due b.due && nat_lt a.rank b.rank) ≡ true) no_lt is in
          inr (grind (arith, nat_tests, rest), grind (arith, nat_tests, rest))
    ]

is_not_less : (a b : Entry) → is_sooner b a ≡ false → IsNotLater a.due a.rank b.due b.rank
is_not_less a b is =
    elim (cases_Bool (nat_lt a.due b.due)) [
      | inl lt ↦ inl (ltb-true _ _ lt)
      | inr no_lt ↦ inr (grind (arith, nat_tests, is, ltb-false _ _ no_lt), grind (arith, nat_tests, is, ltb-false _ _ no_lt))
    ]

later_trans : (a b : Entry) (e s : ℕ) → IsNotLater a.due a.rank b.due b.rank → IsNotLater b.due b.rank e s → IsNotLater a.due a.rank e s
later_trans a b e s (inl h) (inl g) = inl (omega arith)
later_trans a b e s (inl h) (inr g) = inl (omega (arith, g.0))
later_trans a b e s (inr h) (inl g) = inl (omega (arith, h.0))
later_trans a b e s (inr h) (inr g) = inr (omega (arith, h.0, g.0), omega (arith, h.1, g.1))

-- ---- the soonest

abbrev pub Counts : Bool → Mark → Type 0
Counts begun m = begun ≡ true → m.begun ≡ true

pub record Soonest (begun : Bool) (from : ℕ) (ps : List Process) (ts : List Thread) (ms : List Mark) (e : Entry) : Type 0 where
  pub index : ℕ
  pub place : e.place ≡ from + index
  pub p : Process
  pub job : Job
  pub m : Mark
  pub process : slice_get ps index ≡ Some p
  pub ready : slice_get ts index ≡ Some (Ready job)
  pub mark : slice_get ms index ≡ Some m
  pub due : e.due ≡ m.release + p.deadline
  pub rank : e.rank ≡ p.rank
  pub begun_is : e.begun ≡ m.begun
  pub counts : Counts begun m
  pub least : (j : ℕ) (q : Process) (other : Job) (mk : Mark) → slice_get ps j ≡ Some q → slice_get ts j ≡ Some (Ready other) → slice_get ms j ≡ Some mk → Counts begun mk → IsNotLater e.due e.rank (mk.release + q.deadline) q.rank

abbrev pub NoneCounts : (begun : Bool) → List Process → List Thread → List Mark → Type 0
NoneCounts begun ps ts ms = (j : ℕ) (q : Process) (other : Job) (mk : Mark) → slice_get ps j ≡ Some q → slice_get ts j ≡ Some (Ready other) → slice_get ms j ≡ Some mk → Counts begun mk → ⊥

abbrev pub SoonestOf : (begun : Bool) → ℕ → List Process → List Thread → List Mark → Option Entry → Type 0
SoonestOf begun from ps ts ms None = NoneCounts begun ps ts ms
SoonestOf begun from ps ts ms (Some e) = Soonest begun from ps ts ms e

further : (begun : Bool) (from : ℕ) (p : Process) (ps : List Process) (t : Thread) (ts : List Thread) (m : Mark) (ms : List Mark) (e : Entry) → Soonest begun (from + 1) ps ts ms e
    → ((other : Job) → t ≡ Ready other → Counts begun m → IsNotLater e.due e.rank (m.release + p.deadline) p.rank) → Soonest begun from (p ∷ ps) (t ∷ ts) (m ∷ ms) e
further begun from p ps t ts m ms e s head = record {
  index = suc s.index;
  place = omega (arith, s.place);
  p = s.p;
  job = s.job;
  m = s.m;
  process = s.process;
  ready = s.ready;
  mark = s.mark;
  due = s.due;
  rank = s.rank;
  begun_is = s.begun_is;
  counts = s.counts;
  least = at_index;
} where
  at_index : (j : ℕ) (q : Process) (other : Job) (mk : Mark) → slice_get (p ∷ ps) j ≡ Some q → slice_get (t ∷ ts) j ≡ Some (Ready other) → slice_get (m ∷ ms) j ≡ Some mk → Counts begun mk → IsNotLater e.due e.rank (mk.release + q.deadline) q.rank
  at_index zero q other mk at_q at_t at_m counts =
      let same_p : p ≡ q = cc in
      let same_m : m ≡ mk = cc in
      let h : IsNotLater e.due e.rank (m.release + p.deadline) p.rank = head other (cc) (subst (λ (x : Mark). Counts begun x) (sym same_m) counts) in
      subst (λ (x : Process). IsNotLater e.due e.rank (mk.release + x.deadline) x.rank) same_p (subst (λ (x : Mark). IsNotLater e.due e.rank (x.release + p.deadline) p.rank) same_m h)
  at_index (suc j) q other mk at_q at_t at_m counts = s.least j q other mk at_q at_t at_m counts

alone : (begun : Bool) (from : ℕ) (p : Process) (ps : List Process) (job : Job) (ts : List Thread) (m : Mark) (ms : List Mark) → Counts begun m
    → ((j : ℕ) (q : Process) (other : Job) (mk : Mark) → slice_get ps j ≡ Some q → slice_get ts j ≡ Some (Ready other) → slice_get ms j ≡ Some mk → Counts begun mk → IsNotLater (m.release + p.deadline) p.rank (mk.release + q.deadline) q.rank)
    → Soonest begun from (p ∷ ps) (Ready job ∷ ts) (m ∷ ms) (entry from p m)
alone begun from p ps job ts m ms counts least = record {
  index = 0;
  place = omega arith;
  p = p;
  job = job;
  m = m;
  process = refl;
  ready = refl;
  mark = refl;
  due = refl;
  rank = refl;
  begun_is = refl;
  counts = counts;
  least = at_index;
} where
  at_index : (j : ℕ) (q : Process) (other : Job) (mk : Mark) → slice_get (p ∷ ps) j ≡ Some q → slice_get (Ready job ∷ ts) j ≡ Some (Ready other) → slice_get (m ∷ ms) j ≡ Some mk → Counts begun mk → IsNotLater (m.release + p.deadline) p.rank (mk.release + q.deadline) q.rank
  at_index zero q other mk at_q at_t at_m counts =
      let same_p : p ≡ q = cc in
      let same_m : m ≡ mk = cc in
      inr (ap (λ (x : Mark). x.release + p.deadline) same_m ∙ ap (λ (x : Process). mk.release + x.deadline) same_p, omega (arith, ap (λ (x : Process). x.rank) same_p))
  at_index (suc j) q other mk at_q at_t at_m counts = least j q other mk at_q at_t at_m counts

past : (begun : Bool) (from : ℕ) (p : Process) (ps : List Process) (t : Thread) (ts : List Thread) (m : Mark) (ms : List Mark) (o : Option Entry) → ((other : Job) → t ≡ Ready other → Counts begun m → ⊥) → SoonestOf begun (from + 1) ps ts ms o → SoonestOf begun from (p ∷ ps) (t ∷ ts) (m ∷ ms) o
past begun from p ps t ts m ms None no_one none = at_index where
  at_index : (j : ℕ) (q : Process) (other : Job) (mk : Mark) → slice_get (p ∷ ps) j ≡ Some q → slice_get (t ∷ ts) j ≡ Some (Ready other) → slice_get (m ∷ ms) j ≡ Some mk → Counts begun mk → ⊥
  at_index zero q other mk at_q at_t at_m counts = let same_m : m ≡ mk = cc in no_one other (cc) (subst (λ (x : Mark). Counts begun x) (sym same_m) counts)
  at_index (suc j) q other mk at_q at_t at_m counts = none j q other mk at_q at_t at_m counts
past begun from p ps t ts m ms (Some e) no_one s = further begun from p ps t ts m ms e s (λ other same counts. absurd (no_one other same counts))

-- a mark counts where the test says so
test_counts : (begun : Bool) (m : Mark) → (m.begun || not begun) ≡ true → Counts begun m
test_counts true m is same = elim (cases_Bool m.begun) [
  | inl h ↦ h
  | inr h ↦ absurd (let g : (false || not true) ≡ true = subst (λ (b : Bool). (b || not true) ≡ true) h is in cc)
]
test_counts false m is same = absurd (cc)

test_not : (begun : Bool) (m : Mark) → (m.begun || not begun) ≡ false → Counts begun m → ⊥
test_not true m is counts = let h : m.begun ≡ true = counts refl in let g : (true || not true) ≡ false = subst (λ (b : Bool). (b || not true) ≡ false) h is in absurd (cc)
test_not false m is counts = elim (cases_Bool m.begun) [
  | inl h ↦ (let g : (true || not false) ≡ false = subst (λ (b : Bool). (b || not false) ≡ false) h is in absurd (cc))
  | inr h ↦ (let g : (false || not false) ≡ false = subst (λ (b : Bool). (b || not false) ≡ false) h is in absurd (cc))
]

pub soonest_is : (begun : Bool) (from : ℕ) (ps : List Process) (ts : List Thread) (ms : List Mark) → SoonestOf begun from ps ts ms (soonest begun from ps ts ms)
soonest_is begun from [] ts ms = λ j q other mk at_q at_t at_m counts. cc
soonest_is begun from (p ∷ ps) [] ms = λ j q other mk at_q at_t at_m counts. cc
soonest_is begun from (p ∷ ps) (t ∷ ts) [] = λ j q other mk at_q at_t at_m counts. cc
soonest_is begun from (p ∷ ps) (Idle ∷ ts) (m ∷ ms) = past begun from p ps Idle ts m ms (soonest begun (from + 1) ps ts ms) (λ other same counts. absurd cc) (soonest_is begun (from + 1) ps ts ms)
soonest_is begun from (p ∷ ps) (Waiting condition due number job ∷ ts) (m ∷ ms) = past begun from p ps (Waiting condition due number job) ts m ms (soonest begun (from + 1) ps ts ms) (λ other same counts. absurd cc) (soonest_is begun (from + 1) ps ts ms)
soonest_is begun from (p ∷ ps) (Ready job ∷ ts) (m ∷ ms) =
    elim (cases_Bool (m.begun || not begun)) [
      | inl is ↦ subst (λ (b : Bool). SoonestOf begun from (p ∷ ps) (Ready job ∷ ts) (m ∷ ms) (cond b (sooner_of (entry from p m) (soonest begun (from + 1) ps ts ms)) (soonest begun (from + 1) ps ts ms))) (sym is)
          (best (test_counts begun m is) (soonest begun (from + 1) ps ts ms) (soonest_is begun (from + 1) ps ts ms))
      | inr is ↦ subst (λ (b : Bool). SoonestOf begun from (p ∷ ps) (Ready job ∷ ts) (m ∷ ms) (cond b (sooner_of (entry from p m) (soonest begun (from + 1) ps ts ms)) (soonest begun (from + 1) ps ts ms))) (sym is)
          (past begun from p ps (Ready job) ts m ms (soonest begun (from + 1) ps ts ms) (λ other same counts. test_not begun m is counts) (soonest_is begun (from + 1) ps ts ms))
    ]
  where
    best : Counts begun m → (o : Option Entry) → SoonestOf begun (from + 1) ps ts ms o → SoonestOf begun from (p ∷ ps) (Ready job ∷ ts) (m ∷ ms) (sooner_of (entry from p m) o)
    best counts None none = alone begun from p ps job ts m ms counts (λ j q other mk at_q at_t at_m also. absurd (none j q other mk at_q at_t at_m also))
    best counts (Some b) s = elim (cases_Bool (is_sooner b (entry from p m))) [
      | inl sooner ↦ subst (λ (t : Bool). SoonestOf begun from (p ∷ ps) (Ready job ∷ ts) (m ∷ ms) (cond t (Some b) (Some (entry from p m)))) (sym sooner)
          (further begun from p ps (Ready job) ts m ms b s (λ other same also. elim (is_less b (entry from p m) sooner) [ inl lt ↦ inl lt | inr tie ↦ inr (tie.0, omega (arith, tie.1)) ]))
      | inr not_sooner ↦ subst (λ (t : Bool). SoonestOf begun from (p ∷ ps) (Ready job ∷ ts) (m ∷ ms) (cond t (Some b) (Some (entry from p m)))) (sym not_sooner)
          (alone begun from p ps job ts m ms counts (λ j q other mk at_q at_t at_m also. later_trans (entry from p m) b (mk.release + q.deadline) q.rank (is_not_less (entry from p m) b not_sooner) (s.least j q other mk at_q at_t at_m also)))
    ]

-- ---- the least ceiling

pub record Least (image : Image) (ts : List Thread) (c : ℕ) : Type 0 where
  pub index : ℕ
  pub job : Job
  pub m : ℕ
  pub ready : slice_get ts index ≡ Some (Ready job)
  pub inside : job.inside ≡ Some m
  pub here : c ≡ ceiling_of image m
  pub low : (j : ℕ) (other : Job) (n : ℕ) → slice_get ts j ≡ Some (Ready other) → other.inside ≡ Some n → c ≤ ceiling_of image n

abbrev pub LeastOf : Image → List Thread → Option ℕ → Type 0
LeastOf image ts None = (j : ℕ) (other : Job) (n : ℕ) → slice_get ts j ≡ Some (Ready other) → other.inside ≡ Some n → ⊥
LeastOf image ts (Some c) = Least image ts c

least_past : (image : Image) (t : Thread) (ts : List Thread) (o : Option ℕ) → ((other : Job) (n : ℕ) → t ≡ Ready other → other.inside ≡ Some n → ⊥) → LeastOf image ts o → LeastOf image (t ∷ ts) o
least_past image t ts None no_one none = at_index where
  at_index : (j : ℕ) (other : Job) (n : ℕ) → slice_get (t ∷ ts) j ≡ Some (Ready other) → other.inside ≡ Some n → ⊥
  at_index zero other n at inside = no_one other n (cc) inside
  at_index (suc j) other n at inside = none j other n at inside
least_past image t ts (Some c) no_one l = record { index = suc l.index; job = l.job; m = l.m; ready = l.ready; inside = l.inside; here = l.here; low = at_index } where
  at_index : (j : ℕ) (other : Job) (n : ℕ) → slice_get (t ∷ ts) j ≡ Some (Ready other) → other.inside ≡ Some n → c ≤ ceiling_of image n
  at_index zero other n at inside = absurd (no_one other n (cc) inside)
  at_index (suc j) other n at inside = l.low j other n at inside

pub least_is : (image : Image) (ts : List Thread) → LeastOf image ts (least_ceiling image ts)
least_is image [] = λ j other n at inside. cc
least_is image (Idle ∷ ts) = least_past image Idle ts (least_ceiling image ts) (λ other n same inside. absurd cc) (least_is image ts)
least_is image (Waiting condition due number job ∷ ts) = least_past image (Waiting condition due number job) ts (least_ceiling image ts) (λ other n same inside. absurd cc) (least_is image ts)
least_is image (Ready job ∷ ts) = by job.inside refl (least_is image ts) where
  own : (m : ℕ) (other : Job) (n : ℕ) → job.inside ≡ Some m → Ready job ≡ Ready other → other.inside ≡ Some n → ceiling_of image m ≡ ceiling_of image n
  own m other n is same inside =
      let same_job : job ≡ other = cc in
      let both : Some m ≡ Some n = sym is ∙ ap (λ (x : Job). x.inside) same_job ∙ inside in
      let one : m ≡ n = cc in
      ap (λ (x : ℕ). ceiling_of image x) one

  head : (m : ℕ) → job.inside ≡ Some m → ((j : ℕ) (other : Job) (n : ℕ) → slice_get ts j ≡ Some (Ready other) → other.inside ≡ Some n → ceiling_of image m ≤ ceiling_of image n) → Least image (Ready job ∷ ts) (ceiling_of image m)
  head m is low = record { index = 0; job = job; m = m; ready = refl; inside = is; here = refl; low = at_index } where
    at_index : (j : ℕ) (other : Job) (n : ℕ) → slice_get (Ready job ∷ ts) j ≡ Some (Ready other) → other.inside ≡ Some n → ceiling_of image m ≤ ceiling_of image n
    at_index zero other n at inside = let e = own m other n is (cc) inside in omega (arith, e)
    at_index (suc j) other n at inside = low j other n at inside

  tail : (m c : ℕ) → job.inside ≡ Some m → c < ceiling_of image m → Least image ts c → Least image (Ready job ∷ ts) c
  tail m c is less l = record { index = suc l.index; job = l.job; m = l.m; ready = l.ready; inside = l.inside; here = l.here; low = at_index } where
    at_index : (j : ℕ) (other : Job) (n : ℕ) → slice_get (Ready job ∷ ts) j ≡ Some (Ready other) → other.inside ≡ Some n → c ≤ ceiling_of image n
    at_index zero other n at inside = let e = own m other n is (cc) inside in omega (arith, e)
    at_index (suc j) other n at inside = l.low j other n at inside

  best : (m : ℕ) → job.inside ≡ Some m → (o : Option ℕ) → LeastOf image ts o → LeastOf image (Ready job ∷ ts) (lesser (ceiling_of image m) o)
  best m is None none = head m is (λ j other n at inside. absurd (none j other n at inside))
  best m is (Some c) l = elim (cases_Bool (nat_lt c (ceiling_of image m))) [
    | inl lt ↦ subst (λ (t : Bool). LeastOf image (Ready job ∷ ts) (cond t (Some c) (Some (ceiling_of image m)))) (sym lt) (tail m c is (ltb-true _ _ lt) l)
    | inr ge ↦ subst (λ (t : Bool). LeastOf image (Ready job ∷ ts) (cond t (Some c) (Some (ceiling_of image m)))) (sym ge) (head m is (λ j other n at inside. let h = l.low j other n at inside in let g = ltb-false _ _ ge in omega (arith, h, g)))
  ]

  by : (o : Option ℕ) → job.inside ≡ o → LeastOf image ts (least_ceiling image ts) → LeastOf image (Ready job ∷ ts) (with_inside image o (least_ceiling image ts))
  by None is rest = least_past image (Ready job) ts (least_ceiling image ts) (λ other n same inside. absurd (let same_job : job ≡ other = cc in let both : None ≡ Some n = sym is ∙ ap (λ (x : Job). x.inside) same_job ∙ inside in cc)) rest
  by (Some m) is rest = best m is (least_ceiling image ts) rest

-- ---- as the argument sees it

-- who has an activation is ready, with a mark
pub act_active : (o : Option Thread) (n : Option Mark) → 1 ≤ (act o n).left → (job : Job) × (m : Mark) × (o ≡ Some (Ready job)) × (n ≡ Some m)
act_active (Some (Ready job)) (Some m) active = (job, m, refl, refl)
act_active (Some (Ready job)) None active = absurd (omega arith)
act_active (Some Idle) n active = absurd (omega arith)
act_active (Some (Waiting c due number job)) n active = absurd (omega arith)
act_active None n active = absurd (omega arith)

flag_begun : (m : Mark) (job : Job) → 1 ≤ (act (Some (Ready job)) (Some m)).had → m.begun ≡ true
flag_begun m job had = elim (cases_Bool m.begun) [
  | inl h ↦ h
  | inr h ↦ absurd (let e = ap (flag) h in omega arith)
]

begun_flag : (m : Mark) (job : Job) → m.begun ≡ true → (act (Some (Ready job)) (Some m)).had ≡ 1
begun_flag m job is = ap (flag) is

not_begun_flag : (m : Mark) (job : Job) → m.begun ≡ false → (act (Some (Ready job)) (Some m)).had ≡ 0
not_begun_flag m job is = ap (flag) is

-- who is inside a monitor is ready
pub inside_ready : (image : Image) (o : Option Thread) (s : Stay) → stay_of image (inside_of o) ≡ Some s → (job : Job) × (m : ℕ) × (o ≡ Some (Ready job)) × (job.inside ≡ Some m) × (s.ceiling ≡ ceiling_of image m)
inside_ready image (Some (Ready job)) s is = by job.inside refl where
  by : (x : Option ℕ) → job.inside ≡ x → (j : Job) × (m : ℕ) × (Some (Ready job) ≡ Some (Ready j)) × (j.inside ≡ Some m) × (s.ceiling ≡ ceiling_of image m)
  by None at = absurd (let none : stay_of image None ≡ Some s = subst (λ (x : Option ℕ). stay_of image x ≡ Some s) at is in cc)
  by (Some m) at = (job, m, refl, at, (let some : stay_of image (Some m) ≡ Some s = subst (λ (x : Option ℕ). stay_of image x ≡ Some s) at is in sym (ap ceiling_in some)))
    where
      ceiling_in : Option Stay → ℕ
      ceiling_in None = 0
      ceiling_in (Some x) = x.ceiling
inside_ready image (Some Idle) s is = absurd cc
inside_ready image (Some (Waiting c due number job)) s is = absurd cc
inside_ready image None s is = absurd cc

module _ (image : Image) (ts : List Thread) (ms : List Mark) (now : ℕ)
    (distinct : AreDistinct (length image.processes) (rank_at image))
    (stack : AreStacked (length image.processes) (rank_at image) (deadline_at image) now (acts ts ms) (insides image ts))
    (many : length ts ≡ length image.processes) where
  rank_is : (k : ℕ) (p : Process) → slice_get image.processes k ≡ Some p → rank_at image k ≡ p.rank
  rank_is k p at = ap (λ (x : Option Process). rank_of_some x) at

  deadline_is : (k : ℕ) (p : Process) → slice_get image.processes k ≡ Some p → deadline_at image k ≡ p.deadline
  deadline_is k p at = ap (λ (x : Option Process). deadline_of_some x) at

  act_is : (k : ℕ) (job : Job) (m : Mark) → slice_get ts k ≡ Some (Ready job) → slice_get ms k ≡ Some m → acts ts ms k ≡ act (Some (Ready job)) (Some m)
  act_is k job m at_t at_m = ap (λ (x : Option Thread). act x (slice_get ms k)) at_t ∙ ap (λ (x : Option Mark). act (Some (Ready job)) x) at_m

  -- a soonest entry is before any other that counts
  before_other : (begun : Bool) (e : Entry) (s : Soonest begun 0 image.processes ts ms e) (q : ℕ) → q < length image.processes → (e.place ≡ q → ⊥) → 1 ≤ (acts ts ms q).left → ((m : Mark) → slice_get ms q ≡ Some m → Counts begun m)
      → IsBefore (rank_at image) (deadline_at image) (acts ts ms) e.place q
  before_other begun e s q below other active counts =
      let index : s.index ≡ e.place = omega (arith, s.place) in
      let a = act_active (slice_get ts q) (slice_get ms q) active in
      let process = some_at image.processes q below in
      let h : IsNotLater e.due e.rank (a.1.release + process.0.deadline) process.0.rank = s.least q process.0 a.0 a.1 process.1 a.2 a.3 (counts a.1 a.3) in
      let own_p : slice_get image.processes e.place ≡ Some s.p = ap (λ (x : ℕ). slice_get image.processes x) (sym index) ∙ s.process in
      let own_t : slice_get ts e.place ≡ Some (Ready s.job) = ap (λ (x : ℕ). slice_get ts x) (sym index) ∙ s.ready in
      let own_m : slice_get ms e.place ≡ Some s.m = ap (λ (x : ℕ). slice_get ms x) (sym index) ∙ s.mark in
      let e_release : (acts ts ms e.place).release ≡ s.m.release = ap (λ (x : Activation). x.release) (act_is e.place s.job s.m own_t own_m) in
      let q_release : (acts ts ms q).release ≡ a.1.release = ap (λ (x : Activation). x.release) (act_is q a.0 a.1 a.2 a.3) in
      let e_rank = rank_is e.place s.p own_p in
      let q_rank = rank_is q process.0 process.1 in
      let e_deadline = deadline_is e.place s.p own_p in
      let q_deadline = deadline_is q process.0 process.1 in
      elim h [
        | inl lt ↦ inl (omega (arith, s.due))
        | inr tie ↦ elim (cases_lt (rank_at image e.place) (rank_at image q)) [
          | inl less ↦ inr (omega (arith, s.due, tie.0), less)
          | inr ge ↦ absurd (other (distinct e.place q (slice_get_within image.processes e.place s.p own_p) below (omega (arith, s.rank, tie.1))))
        ]
      ]

  -- the entry's own
  entry_active : (begun : Bool) (e : Entry) (s : Soonest begun 0 image.processes ts ms e) → (e.place < length image.processes) × (acts ts ms e.place ≡ act (Some (Ready s.job)) (Some s.m)) × (rank_at image e.place ≡ e.rank)
  entry_active begun e s =
      let index : s.index ≡ e.place = omega (arith, s.place) in
      let own_p : slice_get image.processes e.place ≡ Some s.p = ap (λ (x : ℕ). slice_get image.processes x) (sym index) ∙ s.process in
      let own_t : slice_get ts e.place ≡ Some (Ready s.job) = ap (λ (x : ℕ). slice_get ts x) (sym index) ∙ s.ready in
      let own_m : slice_get ms e.place ≡ Some s.m = ap (λ (x : ℕ). slice_get ms x) (sym index) ∙ s.mark in
      (slice_get_within image.processes e.place s.p own_p, act_is e.place s.job s.m own_t own_m, rank_is e.place s.p own_p ∙ sym s.rank)

  -- who has begun has a mark that counts
  begun_counts : (q : ℕ) → IsBegun (acts ts ms q) → (m : Mark) → slice_get ms q ≡ Some m → m.begun ≡ true
  begun_counts q begun m at =
      let a = act_active (slice_get ts q) (slice_get ms q) begun.active in
      let had : 1 ≤ (act (Some (Ready a.0)) (Some m)).had = subst (λ (x : Activation). 1 ≤ x.had) (act_is q a.0 m a.2 at) begun.had in
      flag_begun m a.0 had

  is_first : (e : Entry) (s : Soonest false 0 image.processes ts ms e) → IsFirst (length image.processes) (rank_at image) (deadline_at image) (acts ts ms) e.place
  is_first e s q below other active = before_other false e s q below other active (λ m at same. absurd (cc))

  is_first_begun : (e : Entry) (s : Soonest true 0 image.processes ts ms e) → IsFirstBegun (length image.processes) (rank_at image) (deadline_at image) (acts ts ms) e.place
  is_first_begun e s q below other begun = before_other true e s q below other begun.active (λ m at same. begun_counts q begun m at)

  -- the first may go
  first_goes : (e : Entry) (s : Soonest false 0 image.processes ts ms e) (o : Option ℕ) → LeastOf image ts o → may_go e o ≡ true → (1 ≤ (acts ts ms e.place).had) ⊎ IsAbove (length image.processes) (insides image ts) (rank_at image e.place)
  first_goes e s None none is = inr (λ q stay below inside. let r = inside_ready image (slice_get ts q) stay inside in absurd (none q r.0 r.1 r.2 r.3))
  first_goes e s (Some c) l is = elim (cases_Bool e.begun) [
    | inl begun ↦
        let own = entry_active false e s in
        let had : (act (Some (Ready s.job)) (Some s.m)).had ≡ 1 = begun_flag s.m s.job (sym s.begun_is ∙ begun) in
        inl (omega (arith, ap (λ (x : Activation). x.had) own.1))
    | inr not_begun ↦
        let own = entry_active false e s in
        let test : nat_lt e.rank c ≡ true = subst (λ (b : Bool). (b || nat_lt e.rank c) ≡ true) not_begun is in
        let less : e.rank < c = ltb-true _ _ test in
        inr (λ q stay below inside.
        let r = inside_ready image (slice_get ts q) stay inside in
        let low = l.low q r.0 r.1 r.2 r.3 in
        omega (arith, own.2, r.4))
  ]

  -- or it is held back
  first_held : (e : Entry) (s : Soonest false 0 image.processes ts ms e) (o : Option ℕ) → LeastOf image ts o → may_go e o ≡ false → IsHeldBack (length image.processes) (rank_at image) (insides image ts) (acts ts ms) e.place
  first_held e s None none is = absurd cc
  first_held e s (Some c) l is =
      let own = entry_active false e s in
      let parts : (e.begun ≡ false) × (nat_lt e.rank c ≡ false) = neither e.begun (nat_lt e.rank c) is in
      let none : (act (Some (Ready s.job)) (Some s.m)).had ≡ 0 = not_begun_flag s.m s.job (sym s.begun_is ∙ parts.0) in
      let ge = ltb-false _ _ parts.1 in
      let stay : Stay = record { ceiling = ceiling_of image l.m; left = 0 } in
      record {
        of_these = own.0;
        active = omega (arith, ap (λ (x : Activation). x.left) own.1);
        not_begun = ap (λ (x : Activation). x.had) own.1 ∙ none;
        holder = l.index;
        holder_of_these = omega (arith, slice_get_within ts l.index (Ready l.job) l.ready, many);
        stay = record { ceiling = ceiling_of image l.m; left = 0 };
        is_inside = ap (λ (x : Option Thread). stay_of image (inside_of x)) l.ready ∙ ap (λ (x : Option ℕ). stay_of image x) l.inside;
        ceiling = omega (arith, l.here, ge, own.2);
      }
    where
      neither : (a b : Bool) → (a || b) ≡ false → (a ≡ false) × (b ≡ false)
      neither true b is = absurd cc
      neither false b is = (refl, is)

  chosen_of : (e : Entry) (s : Soonest false 0 image.processes ts ms e) (o : Option ℕ) → LeastOf image ts o → (f : Option Entry) → SoonestOf true 0 image.processes ts ms f
      → Chooses (length image.processes) (rank_at image) (deadline_at image) (insides image ts) (acts ts ms) (cond (may_go e o) (Some e.place) (place_of f))
  chosen_of e s o l f b = elim (cases_Bool (may_go e o)) [
    | inl goes ↦
        let own = entry_active false e s in
        subst (λ (t : Bool). Chooses (length image.processes) (rank_at image) (deadline_at image) (insides image ts) (acts ts ms) (cond t (Some e.place) (place_of f))) (sym goes)
        (record { of_these = own.0; active = omega (arith, ap (λ (x : Activation). x.left) own.1); choice = inl (record { first = is_first e s; may_go = first_goes e s o l goes }) })
    | inr held ↦
        subst (λ (t : Bool). Chooses (length image.processes) (rank_at image) (deadline_at image) (insides image ts) (acts ts ms) (cond t (Some e.place) (place_of f))) (sym held)
        (second (first_held e s o l held) f b)
  ]
    where
      second : IsHeldBack (length image.processes) (rank_at image) (insides image ts) (acts ts ms) e.place → (f : Option Entry) → SoonestOf true 0 image.processes ts ms f
          → Chooses (length image.processes) (rank_at image) (deadline_at image) (insides image ts) (acts ts ms) (place_of f)
      second back None none =
          let begun = stack.begun back.holder back.stay back.holder_of_these back.is_inside in
          let a = act_active (slice_get ts back.holder) (slice_get ms back.holder) begun.active in
          let process = some_at image.processes back.holder back.holder_of_these in
          absurd (none back.holder process.0 a.0 a.1 process.1 a.2 a.3 (λ same. begun_counts back.holder begun a.1 a.3))
      second back (Some g) b =
          let own = entry_active true g b in
          let had : (act (Some (Ready b.job)) (Some b.m)).had ≡ 1 = begun_flag b.m b.job (b.counts refl) in
          record {
            of_these = own.0;
            active = omega (arith, ap (λ (x : Activation). x.left) own.1);
            choice = inr (record { begun = omega (arith, ap (λ (x : Activation). x.had) own.1); first_begun = is_first_begun g b; front = e.place; is_first = is_first e s; held_back = back });
          }

  chooses_by : (o : Option Entry) → SoonestOf false 0 image.processes ts ms o → Chooses (length image.processes) (rank_at image) (deadline_at image) (insides image ts) (acts ts ms) (taken (least_ceiling image ts) (place_of (soonest true 0 image.processes ts ms)) o)
  chooses_by None none = λ q below active.
      let a = act_active (slice_get ts q) (slice_get ms q) active in
      let process = some_at image.processes q below in
      none q process.0 a.0 a.1 process.1 a.2 a.3 (λ same. absurd (cc))
  chooses_by (Some e) s = chosen_of e s (least_ceiling image ts) (least_is image ts) (soonest true 0 image.processes ts ms) (soonest_is true 0 image.processes ts ms)

  -- the choice is that of earliest deadlines
  pub chooses : Chooses (length image.processes) (rank_at image) (deadline_at image) (insides image ts) (acts ts ms) (choose image ts ms)
  unfolding choose
  chooses = chooses_by (soonest false 0 image.processes ts ms) (soonest_is false 0 image.processes ts ms)
