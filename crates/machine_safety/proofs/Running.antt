-- Whole runs, and the stack.
use Rattle.std.proofs.Common.{◌≡◌, ◌≤◌, ◌+◌, inl, inr, ℕ, zero, suc, List, [], ◌∷◌, Option, Some, None, length, map, arith, refl, ap, sym, subst, true, false, Bool}
use Rattle.std.specs.Prelude.{ℤ, pos, slice_get}
use Rattle.std.proofs.lemmas.Option.{slice_get_within}
use Rattle.std.proofs.lemmas.List.{length-map}
use Rattle.base.proofs.Lists.{some_at}
use Rattle.machine_semantics.specs.Image.{Process, Script}
use Rattle.machine_semantics.specs.State.{Operand, Job, Caller, Thread, Idle, Ready, Waiting, State, zeros, stack_below, stack_of}
use Rattle.machine_semantics.specs.Effect.{Own}
use Rattle.machine_semantics.specs.Tick.{owned_of}
use Rattle.machine_semantics.specs.Run.{words_of, at_start, state_at}
use Rattle.machine_semantics.specs.Part.{Part, Kind, kinds}
use Rattle.machine_semantics.specs.Walk.{Where, WalkCost}
use Rattle.machine_semantics.specs.Job.{Chain, Stands, Comes}
use Rattle.machine_semantics.specs.Safe.{Parts, ProcessFits, ImageFits, own_of, part_of}
use Rattle.machine_semantics.specs.Whole.{ThreadFits, StateFits, StackFits, held_by, InsideIsReady, EveryRunIsSafe}
use Rattle.machine_safety.proofs.Settling.{every_tick_is_safe}
use Rattle.machine_safety.proofs.Jobs.{length-zeros}

-- ---- the stack

length-kinds : (os : List Operand) → length (kinds os) ≡ length os
length-kinds [] = refl
length-kinds (x ∷ os) = ap suc (length-kinds os)

stack_chain : (e : Where) (own part : Part) (ks : List Caller) (inside : Option ℕ) (c : WalkCost) → Chain e own part ks inside c → part.locals + part.depth + stack_below ks ≤ own.locals + own.depth
stack_chain e own part [] inside c chain = omega (arith, ap (λ (p : Part). p.locals) chain.0, ap (λ (p : Part). p.depth) chain.0)
stack_chain e own part (k ∷ ks) inside c chain =
    omega (arith, chain.room, chain.locals, ap (λ (xs : List Kind). length xs) chain.operands, length-kinds k.operands, stack_chain e own chain.caller ks chain.below chain.later chain.more)

stack_stands : (e : Where) (own : Part) (o : Own) (c : WalkCost) → Stands e own o c → stack_of o.job ≤ own.locals + own.depth
stack_stands e own o c st =
    omega (arith, st.frame.room, st.frame.words.locals, ap (λ (xs : List Kind). length xs) st.frame.operands, length-kinds o.job.operands, stack_chain e own st.part o.job.callers st.below st.later st.chain)

stack_comes : (e : Where) (own : Part) (o : Own) (c : WalkCost) → Comes e own o c → stack_of o.job ≤ own.locals + own.depth
stack_comes e own o c k =
    omega (arith, k.back.room, k.back.words.locals, ap (λ (xs : List Kind). length xs) k.back.operands, length-kinds o.job.operands, stack_chain e own k.part o.job.callers None k.later k.chain)

own_stack : (e : Where) (p : Process) (ps : Parts) (h : Bool) → ProcessFits e p ps → (part_of ps h).locals + (part_of ps h).depth ≤ p.stack
own_stack e p ps false f = f.body.stack
own_stack e p ps true f = f.handler.stack

pub stack_fits : (e : Where) (p : Process) (ps : Parts) (t : Thread) (owned shared : List ℤ) → ProcessFits e p ps → ThreadFits e p ps t owned shared → StackFits p t
stack_fits e p ps Idle owned shared fits f = tt
stack_fits e p ps (Ready job) owned shared fits f =
    elim f.1.fits [
      | inl st ↦ omega (arith, stack_stands e (part_of ps job.handling) (own_of job owned shared) f.1.cost st, own_stack e p ps job.handling fits)
      | inr k ↦ omega (arith, stack_comes e (part_of ps job.handling) (own_of job owned shared) f.1.cost k, own_stack e p ps job.handling fits)
    ]
stack_fits e p ps (Waiting c due n job) owned shared fits f =
    omega (arith, stack_comes e (part_of ps job.handling) (own_of job owned shared) f.1.cost f.1.fits, own_stack e p ps job.handling fits)

-- ---- who is inside a monitor

ready_inside : (e : Where) (p : Process) (ps : Parts) (t : Thread) (owned shared : List ℤ) (m : ℕ) → ThreadFits e p ps t owned shared → held_by t ≡ Some m → (job : Job) × (t ≡ Ready job)
ready_inside e p ps Idle owned shared m f inside = absurd cc
ready_inside e p ps (Ready job) owned shared m f inside = (job, refl)
ready_inside e p ps (Waiting c due n job) owned shared m f inside = absurd (let outside : job.inside ≡ None = f.1.fits.outside in cc)

pub inside_is_ready : (e : Where) (ps : ℕ → Parts) (s : State) → StateFits e ps s → InsideIsReady s.threads
inside_is_ready e ps s fits k m t at inside =
    let p = some_at e.image.processes k (omega (arith, fits.many, slice_get_within s.threads k t at)) in
    ready_inside e p.0 (ps k) t (owned_of (slice_get s.owned k)) s.shared m (fits.threads k p.0 t p.1 at) inside

-- ---- runs

all_idle : (qs : List Process) (k : ℕ) (t : Thread) → slice_get (map (λ (p : Process). Idle) qs) k ≡ Some t → t ≡ Idle
all_idle [] k t at = absurd cc
all_idle (q ∷ qs) zero t at = cc
all_idle (q ∷ qs) (suc k) t at = all_idle qs k t at

own_words : (qs : List Process) (k : ℕ) (p : Process) → slice_get qs k ≡ Some p → p.words ≤ length (owned_of (slice_get (map (λ (q : Process). zeros q.words) qs) k))
own_words [] k p at = absurd cc
own_words (q ∷ qs) zero p at = let same : q ≡ p = cc in omega (arith, ap (λ (x : Process). x.words) same, length-zeros q.words)
own_words (q ∷ qs) (suc k) p at = own_words qs k p at

pub start_fits : (e : Where) (ps : ℕ → Parts) → ImageFits e ps → StateFits e ps (at_start e.image)
unfolding at_start
start_fits e ps fits = record {
  sized = record {
    queues = length-map e.image.conditions (λ (c : ℕ). []);
    devices = length-map e.image.devices (λ (d : Bool). pos 0);
    shared = λ m mon there. omega (arith, fits.bases m mon there, length-zeros (words_of e.image.monitors));
  };
  many = length-map e.image.processes (λ (p : Process). Idle);
  threads = λ k p t at_p at_t. subst (λ (u : Thread). ThreadFits e p (ps k) u (owned_of (slice_get (map (λ (q : Process). zeros q.words) e.image.processes) k)) (zeros (words_of e.image.monitors)))
      (sym (all_idle e.image.processes k t at_t)) (own_words e.image.processes k p at_p);
  apart = λ j k m n p q differ a b. absurd (let no_one : Ready a.job ≡ Idle = all_idle e.image.processes j (Ready a.job) a.ready in cc);
}

pub state_fits : (e : Where) (ps : ℕ → Parts) (script : Script) (t : ℕ) → ImageFits e ps → StateFits e ps (state_at e.image script t)
unfolding state_at
state_fits e ps script zero fits = start_fits e ps fits
state_fits e ps script (suc t) fits = (every_tick_is_safe e ps script t (state_at e.image script t) fits (state_fits e ps script t fits)).1

pub every_run_is_safe : EveryRunIsSafe
every_run_is_safe e ps script t fits =
    let s : StateFits e ps (state_at e.image script t) = state_fits e ps script t fits in (
      (every_tick_is_safe e ps script t (state_at e.image script t) fits s).0,
      (λ k p th at_p at_t. stack_fits e p (ps k) th (owned_of (slice_get (state_at e.image script t).owned k)) (state_at e.image script t).shared (fits.processes k p at_p) (s.threads k p th at_p at_t)),
      s.apart,
      inside_is_ready e ps (state_at e.image script t) s,
    )
