-- A list of events is a run exactly where its events, chosen one by one, can be played.
use Rattle.std.specs.Prelude.{◌≡◌, ℕ, zero, suc, ◌+◌, ◌-◌, ◌≤◌, ◌<◌, true, cond, ◌&&◌, not, List, [], ◌∷◌, Option, Some, None, nat_eq, nat_lt, nat_le, slice_get}
use Rattle.std.proofs.Common.{refl, sym, ◌∙◌, ap, inl, inr, arith}
use Rattle.std.proofs.lemmas.Bool.Decides.{nat_tests}
use Rattle.base.proofs.Numbers.{itself}
use Rattle.base.specs.declared.event.Event.{Event}
use Rattle.base.specs.declared.event.Act.{Act}
use Rattle.base.specs.declared.event.Act.TheVariants as act
use Rattle.syntax_tree.specs.Plain.{Program}
use Rattle.source_semantics.specs.Names.{processes}
use Rattle.source_semantics.specs.Config.{Config, Job, start}
use Rattle.source_semantics.specs.Starts.{Script, due, NoneMissing}
use Rattle.source_semantics.specs.Source.{Step, Starts, Acts, job_next, MayStart, before, ready_from, may_act, RunFrom, IsSourceRun}
use Rattle.source_semantics_law.proofs.Plays.{Choice, begins, acts_at, Played, played, played_start, played_act, played_next, none_from, in_time, tick_of, can_start, is_idle, continued, empty}

-- an event is the first start event where one is due, else an act of its process
abbrev pub chosen : Event → List Event → Choice
chosen e [] = acts_at e.tick e.proc
chosen e (d ∷ ds) = begins e.tick

abbrev pub replay : Program → Script → Config → List Event → Option (List Event)
replay g s c [] = cond (none_from g s c c.tick (s.end_tick - c.tick)) (Some []) None
replay g s c (e ∷ es) =
    let x : Choice = chosen e (due g s c e.tick) in
    let p : Played = played g s c x in
    continued (p.allowed && in_time g s c (tick_of x)) p.event (replay g s p.config es)

none_is : (g : Program) (s : Script) (c : Config) (n u : ℕ) → ((v : ℕ) → u ≤ v → v < u + n → due g s c v ≡ []) → none_from g s c u n ≡ true
none_is g s c zero u none = refl
none_is g s c (suc n) u none =
    ap (λ l. empty l && none_from g s c (suc u) n) (none u (omega arith) (omega arith)) ∙ none_is g s c n (suc u) (λ v low high. none v (omega arith) (omega arith))

timely : (g : Program) (s : Script) (c : Config) (t : ℕ) → t < s.end_tick → c.tick ≤ t → NoneMissing g s c t → in_time g s c t ≡ true
timely g s c t below reached none =
    let a : nat_lt t s.end_tick ≡ true = grind (arith, nat_tests) in
    let b : nat_le c.tick t ≡ true = grind (arith, nat_tests) in
    rw (a, b, none_is g s c (t - c.tick) c.tick (λ v low high. none v low (omega arith))) refl

can : (a : Act) (j : Option Job) → MayStart a j → can_start a j ≡ true
can act.Release (Some j) h = ap is_idle h
can act.Release None h = absurd h
can (act.TimeOut x n) j h = refl
can (act.Get d v) j h = refl
can (act.Put d v) j h = refl
can (act.Enter m) j h = refl
can (act.Leave m) j h = refl
can (act.Wait x) j h = refl
can (act.Signal x k) j h = refl
can (act.Broadcast x n) j h = refl
can (act.Empty x b) j h = refl
can (act.Raise n) j h = refl
can act.End j h = refl

-- what the choice of an allowed event comes to
record Replayed (g : Program) (s : Script) (c : Config) (e : Event) (new : Config) : Type 0 where
  tick : tick_of (chosen e (due g s c e.tick)) ≡ e.tick
  allowed : (played g s c (chosen e (due g s c e.tick))).allowed ≡ true
  event : (played g s c (chosen e (due g s c e.tick))).event ≡ e
  config : (played g s c (chosen e (due g s c e.tick))).config ≡ new

start_replayed : (g : Program) (s : Script) (c : Config) (e : Event) (new : Config) → Starts g s c e new → Replayed g s c e new
start_replayed g s c e new h =
    let as_begins : chosen e (due g s c e.tick) ≡ begins e.tick = ap (chosen e) h.first in
    let ok : nat_eq e.tick e.tick && can_start e.act (slice_get c.jobs e.proc) ≡ true = rw (itself e.tick, can e.act (slice_get c.jobs e.proc) h.may_start) refl in
    record {
      tick = ap tick_of as_begins;
      allowed = ap (λ x. (played g s c x).allowed) as_begins ∙ (ap (λ l. (played_start g s c e.tick l).allowed) h.first ∙ ok);
      event = ap (λ x. (played g s c x).event) as_begins ∙ ap (λ l. (played_start g s c e.tick l).event) h.first;
      config = ap (λ x. (played g s c x).config) as_begins ∙ (ap (λ l. (played_start g s c e.tick l).config) h.first ∙ sym h.after);
    }

act_replayed : (g : Program) (s : Script) (c : Config) (e : Event) (new : Config) → Acts g s c e new → Replayed g s c e new
act_replayed g s c e new h =
    let as_act : chosen e (due g s c e.tick) ≡ acts_at e.tick e.proc = ap (chosen e) h.none_due in
    let found : played_act g s c e.tick e.proc (slice_get (processes g) e.proc) (slice_get c.jobs e.proc) ≡ played_next g s c e.tick e.proc h.job (job_next c e.proc h.process h.job g) =
    ap (λ p. played_act g s c e.tick e.proc p (slice_get c.jobs e.proc)) h.text ∙ ap (λ j. played_act g s c e.tick e.proc (Some h.process) j) h.state in
    let ok : (played_next g s c e.tick e.proc h.job (job_next c e.proc h.process h.job g)).allowed ≡ true =
    ap (λ b. b && (empty (before g c e.proc (ready_from 0 c.jobs)) && may_act c (job_next c e.proc h.process h.job g).action)) h.ready
    ∙ (ap (λ l. empty l && may_act c (job_next c e.proc h.process h.job g).action) h.first ∙ h.free) in
    record {
      tick = ap tick_of as_act;
      allowed = ap (λ x. (played g s c x).allowed) as_act
          ∙ (ap (λ p. p.allowed && (empty (due g s c e.tick) && not (c.acted && nat_eq c.tick e.tick))) found
          ∙ (ap (λ b. b && (empty (due g s c e.tick) && not (c.acted && nat_eq c.tick e.tick))) ok
          ∙ (ap (λ l. empty l && not (c.acted && nat_eq c.tick e.tick)) h.none_due ∙ ap not h.nobody_acted)));
      event = ap (λ x. (played g s c x).event) as_act
          ∙ (ap (λ p. p.event) found ∙ ap (λ a. record { tick = e.tick; proc = e.proc; act = a }) (sym h.told));
      config = ap (λ x. (played g s c x).config) as_act ∙ (ap (λ p. p.config) found ∙ sym h.after);
    }

replayed : (g : Program) (s : Script) (c : Config) (e : Event) (new : Config) → Step g s c e new → Replayed g s c e new
replayed g s c e new h = elim h.comes [ inl a ↦ start_replayed g s c e new a | inr a ↦ act_replayed g s c e new a ]

pub complete : (g : Program) (s : Script) (es : List Event) (c : Config) → RunFrom g s c es → replay g s c es ≡ Some es
complete g s [] c h = ap (λ b. cond b (Some []) None) (none_is g s c (s.end_tick - c.tick) c.tick (λ v low high. h v low (omega arith)))
complete g s (e ∷ es) c h =
    let x : Choice = chosen e (due g s c e.tick) in
    let r : Replayed g s c e h.0 = replayed g s c e h.0 h.1 in
    let in_order : in_time g s c (tick_of x) ≡ true = ap (in_time g s c) r.tick ∙ timely g s c e.tick h.1.before_end h.1.reached h.1.none_missing in
    ap (λ b. continued (b && in_time g s c (tick_of x)) (played g s c x).event (replay g s (played g s c x).config es)) r.allowed
    ∙ (ap (λ b. continued b (played g s c x).event (replay g s (played g s c x).config es)) in_order
    ∙ (ap (λ f. continued true f (replay g s (played g s c x).config es)) r.event
    ∙ (ap (λ d. continued true e (replay g s d es)) r.config
    ∙ ap (continued true e) (complete g s es h.0 h.2))))

-- Where the events cannot be played, they are no run.
pub no_run : (g : Program) (s : Script) (es : List Event) → replay g s (start g) es ≡ None → IsSourceRun g s es → ⊥
no_run g s es none h = let e : replay g s (start g) es ≡ Some es = complete g s es (start g) h in absurd cc

-- Where other events are played in their place, they are no run either.
pub other_run : (g : Program) (s : Script) (es others : List Event) → replay g s (start g) es ≡ Some others → (others ≡ es → ⊥) → IsSourceRun g s es → ⊥
other_run g s es others is differ h = let e : replay g s (start g) es ≡ Some es = complete g s es (start g) h in differ cc
