-- A run that is played by choosing who acts at which tick, and tested as it goes, is a source run.
use Rattle.std.specs.Prelude.{◌≡◌, ℕ, zero, suc, ◌+◌, ◌-◌, ◌≤◌, ◌<◌, Bool, true, false, cond, ◌&&◌, not, List, [], ◌∷◌, Option, Some, None, nat_eq, nat_lt, nat_le, slice_get}
use Rattle.std.proofs.Common.{refl, sym, subst, inl, inr, arith}
use Rattle.std.proofs.lemmas.Bool.Decides.{nat_tests}
use Rattle.std.proofs.Math.Nat.{eq-or-lt_of_le}
use Rattle.std.proofs.lemmas.Bool.{and_parts, eqb-true, not-true}
use Rattle.base.specs.declared.event.Event.{Event}
use Rattle.base.specs.declared.event.Act.{Act}
use Rattle.base.specs.declared.event.Act.TheVariants as act
use Rattle.syntax_tree.specs.Plain.{Program, Process}
use Rattle.source_semantics.specs.Names.{processes}
use Rattle.source_semantics.specs.Config.{Config, Job, Doing, idle, active, waiting, is_ready, start}
use Rattle.source_semantics.specs.Starts.{Script, due, NoneMissing}
use Rattle.source_semantics.specs.Next.{Next}
use Rattle.source_semantics.specs.Source.{Step, Starts, Acts, after_start, acts, job_next, MayStart, before, ready_from, may_act, RunFrom, IsSourceRun}

-- a choice: the first start event of a tick, or the next action of process k at a tick
pub data Choice : Type 0 where
  begins : (tick : ℕ) → Choice
  acts_at : (tick k : ℕ) → Choice

abbrev pub empty : {A : Type 0} → List A → Bool
empty [] = true
empty (x ∷ xs) = false

abbrev pub none_from : Program → Script → Config → ℕ → ℕ → Bool
none_from g s c u zero = true
none_from g s c u (suc n) = empty (due g s c u) && none_from g s c (suc u) n

abbrev pub is_idle : Doing → Bool
is_idle idle = true
is_idle _ = false

abbrev pub can_start : Act → Option Job → Bool
can_start act.Release (Some j) = is_idle j.doing
can_start act.Release None = false
can_start _ j = true

-- an event that a choice leads to, whether it is allowed, and what comes after it
pub record Played : Type 0 where
  pub event : Event
  pub allowed : Bool
  pub config : Config

abbrev pub played_start : Program → Script → Config → ℕ → List Event → Played
played_start g s c t [] = record { event = record { tick = 0; proc = 0; act = act.Release }; allowed = false; config = c }
played_start g s c t (e ∷ later) = record { event = e; allowed = nat_eq e.tick t && can_start e.act (slice_get c.jobs e.proc); config = after_start g c e }

abbrev pub played_next : Program → Script → Config → ℕ → ℕ → Job → Next → Played
played_next g s c t k j n = record {
  event = record { tick = t; proc = k; act = (acts g s c t k n).act };
  allowed = is_ready j.doing && (empty (before g c k (ready_from 0 c.jobs)) && may_act c n.action);
  config = (acts g s c t k n).config;
}

abbrev pub played_act : Program → Script → Config → ℕ → ℕ → Option Process → Option Job → Played
played_act g s c t k (Some p) (Some j) = played_next g s c t k j (job_next c k p j g)
played_act g s c t k _ _ = record { event = record { tick = 0; proc = 0; act = act.Release }; allowed = false; config = c }

abbrev pub played : Program → Script → Config → Choice → Played
played g s c (begins t) = played_start g s c t (due g s c t)
played g s c (acts_at t k) =
    let p : Played = played_act g s c t k (slice_get (processes g) k) (slice_get c.jobs k) in
    record { event = p.event; allowed = p.allowed && (empty (due g s c t) && not (c.acted && nat_eq c.tick t)); config = p.config }

abbrev pub tick_of : Choice → ℕ
tick_of (begins t) = t
tick_of (acts_at t k) = t

abbrev pub in_time : Program → Script → Config → ℕ → Bool
in_time g s c t = nat_lt t s.end_tick && (nat_le c.tick t && none_from g s c c.tick (t - c.tick))

abbrev pub continued : Bool → Event → Option (List Event) → Option (List Event)
continued false e o = None
continued true e None = None
continued true e (Some es) = Some (e ∷ es)

-- the events that choices lead to, where each is allowed and none is missing at the end
abbrev pub play : Program → Script → Config → List Choice → Option (List Event)
play g s c [] = cond (none_from g s c c.tick (s.end_tick - c.tick)) (Some []) None
play g s c (x ∷ xs) =
    let p : Played = played g s c x in
    continued (p.allowed && in_time g s c (tick_of x)) p.event (play g s p.config xs)

of_empty : {A : Type 0} (xs : List A) → empty xs ≡ true → xs ≡ []
of_empty [] h = refl
of_empty (x ∷ xs) h = absurd cc

none_missing : (g : Program) (s : Script) (c : Config) (n u : ℕ) → none_from g s c u n ≡ true → (v : ℕ) → u ≤ v → v < u + n → due g s c v ≡ []
none_missing g s c zero u h v low high = absurd (omega arith)
none_missing g s c (suc n) u h v low high =
    let parts : (empty (due g s c u) ≡ true) × (none_from g s c (suc u) n ≡ true) = and_parts (empty (due g s c u)) (none_from g s c (suc u) n) h in
    elim (eq-or-lt_of_le low) [
      | inl same ↦ subst (λ w. due g s c w ≡ []) same (of_empty (due g s c u) parts.0)
      | inr above ↦ none_missing g s c n (suc u) parts.1 v above (omega arith)
    ]

in_time_facts : (g : Program) (s : Script) (c : Config) (t : ℕ) → in_time g s c t ≡ true → (t < s.end_tick) × (c.tick ≤ t) × NoneMissing g s c t
in_time_facts g s c t h =
    let first : (nat_lt t s.end_tick ≡ true) × (nat_le c.tick t && none_from g s c c.tick (t - c.tick) ≡ true) = and_parts _ _ h in
    let second : (nat_le c.tick t ≡ true) × (none_from g s c c.tick (t - c.tick) ≡ true) = and_parts _ _ first.1 in
    let below : t < s.end_tick = grind (arith, nat_tests, first.0) in
    let above : c.tick ≤ t = grind (arith, nat_tests, second.0) in
    (below, above, λ u low high. none_missing g s c (t - c.tick) c.tick second.1 u low (omega arith))

of_idle : (d : Doing) → is_idle d ≡ true → d ≡ idle
of_idle idle h = refl
of_idle (active r) h = absurd cc
of_idle (waiting r x u n e) h = absurd cc

may : (a : Act) (j : Option Job) → can_start a j ≡ true → MayStart a j
may act.Release (Some j) h = of_idle j.doing h
may act.Release None h = absurd cc
may (act.TimeOut x n) j h = tt
may (act.Get d v) j h = tt
may (act.Put d v) j h = tt
may (act.Enter m) j h = tt
may (act.Leave m) j h = tt
may (act.Wait x) j h = tt
may (act.Signal x k) j h = tt
may (act.Broadcast x n) j h = tt
may (act.Empty x b) j h = tt
may (act.Raise n) j h = tt
may act.End j h = tt

starts_of : (g : Program) (s : Script) (c : Config) (t : ℕ) (es : List Event) → due g s c t ≡ es → (played_start g s c t es).allowed ≡ true
    → Starts g s c (played_start g s c t es).event (played_start g s c t es).config
starts_of g s c t [] is h = absurd cc
starts_of g s c t (e ∷ later) is h =
    let parts : (nat_eq e.tick t ≡ true) × (can_start e.act (slice_get c.jobs e.proc) ≡ true) = and_parts _ _ h in
    record { later = later; first = subst (λ u. due g s c u ≡ e ∷ later) (sym (eqb-true e.tick t parts.0)) is; may_start = may e.act (slice_get c.jobs e.proc) parts.1; after = refl }

acts_of : (g : Program) (s : Script) (c : Config) (t k : ℕ) (p : Option Process) (j : Option Job) → slice_get (processes g) k ≡ p → slice_get c.jobs k ≡ j
    → due g s c t ≡ [] → c.acted && nat_eq c.tick t ≡ false → (played_act g s c t k p j).allowed ≡ true
    → Acts g s c (played_act g s c t k p j).event (played_act g s c t k p j).config
acts_of g s c t k (Some p) (Some j) text state none nobody h =
    let first : (is_ready j.doing ≡ true) × (empty (before g c k (ready_from 0 c.jobs)) && may_act c (job_next c k p j g).action ≡ true) = and_parts _ _ h in
    let second : (empty (before g c k (ready_from 0 c.jobs)) ≡ true) × (may_act c (job_next c k p j g).action ≡ true) = and_parts _ _ first.1 in
    record {
      none_due = none;
      nobody_acted = nobody;
      process = p;
      text = text;
      job = j;
      state = state;
      ready = first.0;
      first = of_empty (before g c k (ready_from 0 c.jobs)) second.0;
      free = second.1;
      told = refl;
      after = refl;
    }
acts_of g s c t k None j text state none nobody h = absurd cc
acts_of g s c t k (Some p) None text state none nobody h = absurd cc

start_tick : (g : Program) (s : Script) (c : Config) (t : ℕ) (es : List Event) → (played_start g s c t es).allowed ≡ true → (played_start g s c t es).event.tick ≡ t
start_tick g s c t [] h = absurd cc
start_tick g s c t (e ∷ later) h = eqb-true e.tick t (and_parts (nat_eq e.tick t) (can_start e.act (slice_get c.jobs e.proc)) h).0

act_tick : (g : Program) (s : Script) (c : Config) (t k : ℕ) (p : Option Process) (j : Option Job) → (played_act g s c t k p j).allowed ≡ true → (played_act g s c t k p j).event.tick ≡ t
act_tick g s c t k (Some p) (Some j) h = refl
act_tick g s c t k None j h = absurd cc
act_tick g s c t k (Some p) None h = absurd cc

step_of : (g : Program) (s : Script) (c : Config) (x : Choice) → (played g s c x).allowed ≡ true → in_time g s c (tick_of x) ≡ true
    → Step g s c (played g s c x).event (played g s c x).config
step_of g s c (begins t) h timely =
    let facts : (t < s.end_tick) × (c.tick ≤ t) × NoneMissing g s c t = in_time_facts g s c t timely in
    let at : (played_start g s c t (due g s c t)).event.tick ≡ t = start_tick g s c t (due g s c t) h in
    record {
      before_end = subst (λ u. u < s.end_tick) (sym at) facts.0;
      reached = subst (λ u. c.tick ≤ u) (sym at) facts.1;
      none_missing = subst (λ u. NoneMissing g s c u) (sym at) facts.2;
      comes = inl (starts_of g s c t (due g s c t) refl h);
    }
step_of g s c (acts_at t k) h timely =
    let facts : (t < s.end_tick) × (c.tick ≤ t) × NoneMissing g s c t = in_time_facts g s c t timely in
    let p : Option Process = slice_get (processes g) k in
    let j : Option Job = slice_get c.jobs k in
    let first : ((played_act g s c t k p j).allowed ≡ true) × (empty (due g s c t) && not (c.acted && nat_eq c.tick t) ≡ true) = and_parts _ _ h in
    let second : (empty (due g s c t) ≡ true) × (not (c.acted && nat_eq c.tick t) ≡ true) = and_parts _ _ first.1 in
    let at : (played_act g s c t k p j).event.tick ≡ t = act_tick g s c t k p j first.0 in
    record {
      before_end = subst (λ u. u < s.end_tick) (sym at) facts.0;
      reached = subst (λ u. c.tick ≤ u) (sym at) facts.1;
      none_missing = subst (λ u. NoneMissing g s c u) (sym at) facts.2;
      comes = inr (acts_of g s c t k p j refl refl (of_empty (due g s c t) second.0) (not-true (c.acted && nat_eq c.tick t) second.1) first.0);
    }

ended : (b : Bool) (es : List Event) → cond b (Some []) None ≡ Some es → (b ≡ true) × (es ≡ [])
ended true es h = (refl, cc)
ended false es h = absurd cc

went_on : (b : Bool) (e : Event) (o : Option (List Event)) (es : List Event) → continued b e o ≡ Some es → (later : List Event) × (b ≡ true) × (o ≡ Some later) × (es ≡ e ∷ later)
went_on false e o es h = absurd cc
went_on true e None es h = absurd cc
went_on true e (Some later) es h = (later, refl, refl, cc)

-- Where the choices can be played, their events are a run.
pub sound : (g : Program) (s : Script) (xs : List Choice) (c : Config) (es : List Event) → play g s c xs ≡ Some es → RunFrom g s c es
sound g s [] c es h =
    let parts : (none_from g s c c.tick (s.end_tick - c.tick) ≡ true) × (es ≡ []) = ended _ es h in
    subst (λ l. RunFrom g s c l) (sym parts.1) (λ u low high. none_missing g s c (s.end_tick - c.tick) c.tick parts.0 u low (omega arith))
sound g s (x ∷ xs) c es h =
    let p : Played = played g s c x in
    let facts : (later : List Event) × (p.allowed && in_time g s c (tick_of x) ≡ true) × (play g s p.config xs ≡ Some later) × (es ≡ p.event ∷ later) =
    went_on (p.allowed && in_time g s c (tick_of x)) p.event (play g s p.config xs) es h in
    let ok : (p.allowed ≡ true) × (in_time g s c (tick_of x) ≡ true) = and_parts _ _ facts.1 in
    subst (λ l. RunFrom g s c l) (sym facts.3) (p.config, step_of g s c x ok.0 ok.1, sound g s xs p.config facts.0 facts.2)

pub is_run : (g : Program) (s : Script) (xs : List Choice) (es : List Event) → play g s (start g) xs ≡ Some es → IsSourceRun g s es
is_run g s xs es h = sound g s xs (start g) es h
