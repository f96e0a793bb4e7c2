-- Turns in runs.
use Rattle.std.proofs.Common.{◌≡◌, ◌≤◌, ◌<◌, ◌+◌, ◌-◌, ◌++◌, ◌⊎◌, inl, inr, ℕ, zero, suc, List, [], ◌∷◌, Option, Some, None, arith, refl, ap, sym, subst, ◌∙◌, true, false, Bool, append_assoc}
use Rattle.base.specs.declared.event.Event.{Event}
use Rattle.machine_semantics.specs.Image.{Image, Script}
use Rattle.machine_semantics.specs.State.{State}
use Rattle.machine_semantics.specs.Starts.{Started, starts, unchanged}
use Rattle.machine_semantics.specs.Tick.{Candidate, Ticked, Passed, pick, run_picked, tick}
use Rattle.machine_semantics.specs.Run.{state_at, events_from}
use Rattle.vm_stretch.specs.Stretch.{pass, FitsIn, place_of}
use Rattle.vm_stretch.specs.Quiet.{IsQuiet, AreQuiet}
use Rattle.vm_stretch.specs.StretchLaws.{state_from, turn, IsTurn, TurnKeepsState, TurnKeepsEvents, TurnStaysInRun, TurnIsStuck}
use Rattle.vm_stretch.proofs.Quiet.{quiet_starts_nothing}
use Rattle.vm_stretch.proofs.Turning.{one_tick, Goes_on, goes_on}

-- what passes in a tick, of what its start events and the process that runs come to
abbrev passed : Started → Ticked → Passed
passed a r = record { state = r.state; events = a.events ++ r.events; stuck = r.stuck; overrun = a.overrun }

pub tick_is : (image : Image) (script : Script) (t : ℕ) (s : State) → tick image script t s ≡ passed (starts image script t s) (pass image t 1 (starts image script t s).state (place_of (pick image (starts image script t s).state.threads)))
unfolding tick
tick_is image script t s =
    let a : Started = starts image script t s in
    ap (λ (r : Ticked). passed a r) (one_tick image t a.state (pick image a.state.threads))

-- a quiet tick of the process that is picked
quiet_tick : (image : Image) (script : Script) (t : ℕ) (s : State) (who : Option ℕ) → IsQuiet image script t s → place_of (pick image s.threads) ≡ who → tick image script t s ≡ passed (unchanged s) (pass image t 1 s who)
quiet_tick image script t s who quiet is =
    tick_is image script t s
    ∙ ap (λ (a : Started). passed a (pass image t 1 a.state (place_of (pick image a.state.threads)))) (quiet_starts_nothing image script t s quiet)
    ∙ ap (λ (w : Option ℕ). passed (unchanged s) (pass image t 1 s w)) is

-- n more ticks after one whose start events are done
after_state : (image : Image) (script : Script) (n t : ℕ) (s : State) (who : Option ℕ) → place_of (pick image s.threads) ≡ who → FitsIn image (suc n) s who → AreQuiet image script t (suc n) s → (pass image t (suc n) s who).stuck ≡ false
    → state_from image script n (t + 1) (pass image t 1 s who).state ≡ (pass image t (suc n) s who).state
after_state image script zero t s who is fits quiet free = refl
after_state image script (suc n) t s who is fits quiet free =
    let g : Goes_on image script t (suc n) s who = goes_on image script t (suc n) s who (omega arith) fits in
    let next : State = g.next in
    let is' : place_of (pick image next.threads) ≡ who = ap (λ (c : Option Candidate). place_of c) g.picked ∙ is in
    let at : (pass image t 1 s who).state ≡ next = ap (λ (x : Ticked). x.state) g.one in
    let ticked : tick image script (t + 1) next ≡ passed (unchanged next) (pass image (t + 1) 1 next who) = quiet_tick image script (t + 1) next who (g.quiet (t + 1) (quiet (t + 1) (omega arith) (omega arith))) is' in
    let rest : state_from image script n (t + 1 + 1) (pass image (t + 1) 1 next who).state ≡ (pass image (t + 1) (suc n) next who).state =
    after_state image script n (t + 1) next who is' g.fits (λ u low high. g.quiet u (quiet u (omega arith) (omega arith))) (g.stuck ∙ free) in
    ap (λ (x : State). state_from image script (suc n) (t + 1) x) at
    ∙ ap (λ (x : Passed). state_from image script n (t + 1 + 1) x.state) ticked
    ∙ rest
    ∙ ap (λ (x : Ticked). x.state) (g.same free)

after_events : (image : Image) (script : Script) (n m t : ℕ) (s : State) (who : Option ℕ) → place_of (pick image s.threads) ≡ who → FitsIn image (suc n) s who → AreQuiet image script t (suc n) s → (pass image t (suc n) s who).stuck ≡ false
    → (pass image t 1 s who).events ++ events_from image script (n + m) (t + 1) (pass image t 1 s who).state
    ≡ (pass image t (suc n) s who).events ++ events_from image script m (t + (suc n)) (pass image t (suc n) s who).state
unfolding events_from
after_events image script zero m t s who is fits quiet free =
    let e : 0 + m ≡ m = omega arith in
    ap (λ (k : ℕ). (pass image t 1 s who).events ++ events_from image script k (t + 1) (pass image t 1 s who).state) e
after_events image script (suc n) m t s who is fits quiet free =
    let g : Goes_on image script t (suc n) s who = goes_on image script t (suc n) s who (omega arith) fits in
    let next : State = g.next in
    let is' : place_of (pick image next.threads) ≡ who = ap (λ (c : Option Candidate). place_of c) g.picked ∙ is in
    let ticked : tick image script (t + 1) next ≡ passed (unchanged next) (pass image (t + 1) 1 next who) = quiet_tick image script (t + 1) next who (g.quiet (t + 1) (quiet (t + 1) (omega arith) (omega arith))) is' in
    let rest : (pass image (t + 1) 1 next who).events ++ events_from image script (n + m) (t + 1 + 1) (pass image (t + 1) 1 next who).state
    ≡ (pass image (t + 1) (suc n) next who).events ++ events_from image script m (t + 1 + (suc n)) (pass image (t + 1) (suc n) next who).state =
    after_events image script n m (t + 1) next who is' g.fits (λ u low high. g.quiet u (quiet u (omega arith) (omega arith))) (g.stuck ∙ free) in
    let time : t + 1 + (suc n) ≡ t + (suc (suc n)) = omega arith in
    let count : suc n + m ≡ suc (n + m) = omega arith in
    ap (λ (x : Ticked). x.events ++ events_from image script (suc n + m) (t + 1) x.state) g.one
    ∙ ap (λ (k : ℕ). events_from image script k (t + 1) next) count
    ∙ ap (λ (x : Passed). x.events ++ events_from image script (n + m) (t + 1 + 1) x.state) ticked
    ∙ rest
    ∙ ap (λ (x : Ticked). x.events ++ events_from image script m (t + 1 + (suc n)) x.state) (g.same free)
    ∙ ap (λ (u : ℕ). (pass image t (suc (suc n)) s who).events ++ events_from image script m u (pass image t (suc (suc n)) s who).state) time

-- ---- the laws

-- n ticks are one and others
pub turn_keeps_state : TurnKeepsState
turn_keeps_state image script t zero s may free = absurd (let some = may.some in omega arith)
turn_keeps_state image script t (suc n) s may free =
    let a : Started = starts image script t s in
    let who : Option ℕ = place_of (pick image a.state.threads) in
    ap (λ (x : Passed). state_from image script n (t + 1) x.state) (tick_is image script t s)
    ∙ after_state image script n t a.state who refl may.fits may.quiet free

pub turn_keeps_events : TurnKeepsEvents
unfolding events_from
turn_keeps_events image script t zero m s may free = absurd (let some = may.some in omega arith)
turn_keeps_events image script t (suc n) m s may free =
    let a : Started = starts image script t s in
    let who : Option ℕ = place_of (pick image a.state.threads) in
    let one : Ticked = pass image t 1 a.state who in
    let all : Ticked = pass image t (suc n) a.state who in
    let count : suc n + m ≡ suc (n + m) = omega arith in
    ap (λ (k : ℕ). events_from image script k t s) count
    ∙ ap (λ (x : Passed). x.events ++ events_from image script (n + m) (t + 1) x.state) (tick_is image script t s)
    ∙ append_assoc a.events one.events (events_from image script (n + m) (t + 1) one.state)
    ∙ ap (λ (es : List Event). a.events ++ es) (after_events image script n m t a.state who refl may.fits may.quiet free)
    ∙ sym (append_assoc a.events all.events (events_from image script m (t + suc n) all.state))

-- the state of a run, some ticks on
pub on_from : (image : Image) (script : Script) (n t : ℕ) → state_at image script (t + n) ≡ state_from image script n t (state_at image script t)
unfolding state_at
on_from image script zero t = let e : t + 0 ≡ t = omega arith in ap (λ (u : ℕ). state_at image script u) e
on_from image script (suc n) t =
    let e : t + suc n ≡ suc t + n = omega arith in
    let f : suc t ≡ t + 1 = omega arith in
    ap (λ (u : ℕ). state_at image script u) e ∙ on_from image script n (suc t) ∙ ap (λ (u : ℕ). state_from image script n u (tick image script t (state_at image script t)).state) f

-- suc n quiet ticks, of which the last is stuck where they are all at once
rest_stuck : (image : Image) (script : Script) (n t : ℕ) (s : State) (who : Option ℕ) (u : ℕ) → u ≡ t + n → place_of (pick image s.threads) ≡ who → FitsIn image (suc n) s who → AreQuiet image script t (suc n) s → IsQuiet image script t s
    → (tick image script u (state_from image script n t s)).stuck ≡ (pass image t (suc n) s who).stuck
rest_stuck image script zero t s who u time is fits quiet now =
    let e : u ≡ t = omega arith in
    ap (λ (v : ℕ). (tick image script v s).stuck) e ∙ ap (λ (x : Passed). x.stuck) (quiet_tick image script t s who now is)
rest_stuck image script (suc n) t s who u time is fits quiet now =
    let g : Goes_on image script t (suc n) s who = goes_on image script t (suc n) s who (omega arith) fits in
    let next : State = g.next in
    let is' : place_of (pick image next.threads) ≡ who = ap (λ (c : Option Candidate). place_of c) g.picked ∙ is in
    let ticked : tick image script t s ≡ passed (unchanged s) (pass image t 1 s who) = quiet_tick image script t s who now is in
    let at : (tick image script t s).state ≡ next = ap (λ (x : Passed). x.state) ticked ∙ ap (λ (x : Ticked). x.state) g.one in
    ap (λ (x : State). (tick image script u (state_from image script n (t + 1) x)).stuck) at
    ∙ rest_stuck image script n (t + 1) next who u (omega arith) is' g.fits (λ v low high. g.quiet v (quiet v (omega arith) (omega arith))) (g.quiet (t + 1) (quiet (t + 1) (omega arith) (omega arith)))
    ∙ g.stuck

-- the last of suc n ticks is stuck where they are all at once
after_stuck : (image : Image) (script : Script) (n t : ℕ) (s : State) (who : Option ℕ) → place_of (pick image s.threads) ≡ who → FitsIn image (suc (suc n)) s who → AreQuiet image script t (suc (suc n)) s
    → (tick image script (t + suc n) (state_from image script n (t + 1) (pass image t 1 s who).state)).stuck ≡ (pass image t (suc (suc n)) s who).stuck
after_stuck image script n t s who is fits quiet =
    let g : Goes_on image script t (suc n) s who = goes_on image script t (suc n) s who (omega arith) fits in
    let next : State = g.next in
    let is' : place_of (pick image next.threads) ≡ who = ap (λ (c : Option Candidate). place_of c) g.picked ∙ is in
    let at : (pass image t 1 s who).state ≡ next = ap (λ (x : Ticked). x.state) g.one in
    ap (λ (x : State). (tick image script (t + suc n) (state_from image script n (t + 1) x)).stuck) at
    ∙ rest_stuck image script n (t + 1) next who (t + suc n) (omega arith) is' g.fits (λ u low high. g.quiet u (quiet u (omega arith) (omega arith))) (g.quiet (t + 1) (quiet (t + 1) (omega arith) (omega arith)))
    ∙ g.stuck

pub turn_is_stuck : TurnIsStuck
turn_is_stuck image script t zero s is =
    let e : t + 0 ≡ t = omega arith in
    ap (λ (u : ℕ). (tick image script u s).stuck) e ∙ ap (λ (x : Passed). x.stuck) (tick_is image script t s)
turn_is_stuck image script t (suc n) s is =
    let a : Started = starts image script t s in
    let who : Option ℕ = place_of (pick image a.state.threads) in
    ap (λ (x : Passed). (tick image script (t + suc n) (state_from image script n (t + 1) x.state)).stuck) (tick_is image script t s)
    ∙ after_stuck image script n t a.state who refl is.fits is.quiet

pub turn_stays_in_run : TurnStaysInRun
turn_stays_in_run image script safe t zero is = absurd (let some = is.some in omega arith)
turn_stays_in_run image script safe t (suc n) is =
    let s : State = state_at image script t in
    let there : state_at image script (t + n) ≡ state_from image script n t s = on_from image script n t in
    let free : (turn image script t (suc n) s).stuck ≡ false =
    sym (turn_is_stuck image script t n s is) ∙ ap (λ (x : State). (tick image script (t + n) x).stuck) (sym there) ∙ safe (t + n) in
    (free, on_from image script (suc n) t ∙ turn_keeps_state image script t (suc n) s is free)
