-- Rows of instructions in runs.
use Rattle.std.proofs.Common.{◌≡◌, ◌≤◌, ◌<◌, ◌+◌, ◌-◌, ◌++◌, ◌⊎◌, inl, inr, ℕ, List, [], Option, Some, None, arith, refl, ap, sym, subst, ◌∙◌, true, false, Bool, append_assoc}
use Rattle.std.specs.Prelude.{ℤ, slice_get, slice_set, nat_lt, cond}
use Rattle.std.proofs.lemmas.Bool.{cases_lt}
use Rattle.std.proofs.lemmas.List.{append-nil}
use Rattle.std.proofs.lemmas.Bool.Decides.{nat_tests}
use Rattle.base.proofs.Lists.{set_same, get_set}
use Rattle.machine_isa.specs.declared.instr.Instr.{Instr}
use Rattle.machine_isa.specs.declared.instr.Instr.TheVariants as i
use Rattle.machine_isa.specs.Ticks.{ticks}
use Rattle.base.specs.declared.event.Event.{Event}
use Rattle.machine_semantics.specs.Image.{Image, Process, Script}
use Rattle.machine_semantics.specs.State.{Job, Thread, Idle, Ready, Waiting, State}
use Rattle.machine_semantics.specs.Effect.{Own, Outcome, Goes, Does, Signals, Broadcasts, Waits, Raises, Ends, Stuck, effect}
use Rattle.machine_semantics.specs.Starts.{Started, starts, unchanged}
use Rattle.machine_semantics.specs.Tick.{Candidate, Ticked, Passed, at_next, owned_of, pick, settle, tick}
use Rattle.machine_semantics.specs.Run.{state_at, events_from}
use Rattle.vm_stretch.specs.Stretch.{FitsIn, FitsThread, left, left_of, left_at, outcome_at_once, outcomes, pass, pass_thread, place_of}
use Rattle.vm_stretch.specs.Quiet.{IsQuiet, AreQuiet}
use Rattle.vm_stretch.specs.Silent.{GoesTo, IsAt, Leads, Begins, Follows, is_silent, next_own, nowhere, CanGo, IsWithin, with_process}
use Rattle.vm_stretch.specs.StretchLaws.{IsTurn, turn, turned, turn_events}
use Rattle.vm_stretch.specs.RowLaws.{IsPicked, RowIsTurn, RowIsSafe, IsInStack, RowKeepsEvents, RowStaysInRun, SilentAnywhere, begun}
use Rattle.vm_stretch.proofs.StretchMoving.{pick_same, quiet_same, set_set}
use Rattle.vm_stretch.proofs.Quiet.{quiet_starts_nothing}
use Rattle.vm_stretch.proofs.Runs.{on_from, tick_is, turn_keeps_state, turn_keeps_events, turn_stays_in_run}

pub silent_anywhere : SilentAnywhere
silent_anywhere image s (i.Enter m) o silent = absurd cc
silent_anywhere image s (i.Reenter m) o silent = absurd cc
silent_anywhere image s (i.Signal c) o silent = absurd cc
silent_anywhere image s (i.Broadcast c) o silent = absurd cc
silent_anywhere image s (i.Empty c) o silent = absurd cc
silent_anywhere image s (i.In d) o silent = absurd cc
silent_anywhere image s (i.Out d) o silent = absurd cc
silent_anywhere image s _ o silent = refl

pub inside_same : (image : Image) (first : Own) (n : ℕ) (o : Own) → Leads image first n o → o.job.inside ≡ first.job.inside
inside_same image first n o Begins = refl
inside_same image first n o (Follows before instr next step m time) = step.inside ∙ inside_same image first _ _ before

-- the quiet of a state is that of its threads
pub quiet_with : (image : Image) (script : Script) (u k : ℕ) (o : Own) (s : State) → IsQuiet image script u s → IsQuiet image script u (with_process k o s)
quiet_with image script u k o s quiet = let q : IsQuiet image script u _ = quiet_same image script u s k o.job quiet in record { lines = q.lines; releases = q.releases; waits = q.waits }

-- all ticks that are left of an instruction, at once
pub passes_to : (image : Image) (t k m : ℕ) (p : Process) (first o : Own) (instr : Instr) (s : State) → slice_get image.processes k ≡ Some p → slice_get s.threads k ≡ Some (Ready first.job) → slice_get s.owned k ≡ Some first.owned
    → IsAt image o instr → m ≡ ticks instr - o.job.done → pass image t m (with_process k o s) (Some k) ≡ settle image (t + (m - 1)) k p o.job (with_process k o s) (effect image (with_process k o s) instr (next_own o))
passes_to image t k m p first o instr s process ready owned at time =
    let w : State = with_process k o s in
    let there : slice_get w.threads k ≡ Some (Ready o.job) = get_set s.threads k (Ready o.job) (Ready first.job) ready in
    let words : owned_of (slice_get w.owned k) ≡ o.owned = ap (λ (x : Option (List ℤ)). owned_of x) (get_set s.owned k o.owned first.owned owned) in
    let last : nat_lt (o.job.done + m) (ticks instr) ≡ false = let early = at.early in grind (arith, nat_tests) in
    let out : outcomes image w o.job (owned_of (slice_get w.owned k)) m o.job.dispatch_ticks ≡ effect image w instr (next_own o) =
    ap (λ (b : ℕ). outcomes image w o.job (owned_of (slice_get w.owned k)) m b) at.burnt
    ∙ ap (λ (x : Option Instr). outcome_at_once image w o.job (owned_of (slice_get w.owned k)) m x) at.here
    ∙ ap (λ (b : Bool). cond b (Goes (record { job = record (o.job) { done = o.job.done + m }; owned = owned_of (slice_get w.owned k); shared = w.shared })) (effect image w instr (record { job = at_next o.job; owned = owned_of (slice_get w.owned k); shared = w.shared }))) last
    ∙ ap (λ (ws : List ℤ). effect image w instr (record { job = at_next o.job; owned = ws; shared = w.shared })) words in
    ap (λ (x : Option Process). pass_thread image t m k w x (slice_get w.threads k)) process
    ∙ ap (λ (x : Option Thread). pass_thread image t m k w (Some p) x) there
    ∙ ap (λ (r : Outcome). settle image (t + (m - 1)) k p o.job w r) out

pub passes : (image : Image) (t k m : ℕ) (p : Process) (first o next : Own) (instr : Instr) (s : State) → slice_get image.processes k ≡ Some p → slice_get s.threads k ≡ Some (Ready first.job) → slice_get s.owned k ≡ Some first.owned
    → IsAt image o instr → effect image (with_process k o s) instr (next_own o) ≡ Goes next → m ≡ ticks instr - o.job.done → pass image t m (with_process k o s) (Some k) ≡ record { state = with_process k next s; events = []; stuck = false }
passes image t k m p first o next instr s process ready owned at goes time =
    let w : State = with_process k o s in
    passes_to image t k m p first o instr s process ready owned at time
    ∙ ap (λ (r : Outcome). settle image (t + (m - 1)) k p o.job w r) goes
    ∙ ap (λ (ts : List Thread). record { state = record w { threads = ts; owned = slice_set w.owned k next.owned; shared = next.shared }; events = []; stuck = false }) (set_set s.threads k (Ready o.job) (Ready next.job))
    ∙ ap (λ (ws : List (List ℤ)). record { state = record s { threads = slice_set s.threads k (Ready next.job); owned = ws; shared = next.shared }; events = []; stuck = false }) (set_set s.owned k o.owned next.owned)

pub fits_left : (image : Image) (o : Own) (instr : Instr) (m : ℕ) → IsAt image o instr → m ≡ ticks instr - o.job.done → m ≤ left image o.job
fits_left image o instr m at time =
    let e : left image o.job ≡ ticks instr - o.job.done = ap (λ (b : ℕ). left_of b o.job.done (slice_get image.code o.job.place)) at.burnt ∙ ap (λ (x : Option Instr). left_at o.job.done x) at.here in
    omega (arith, e)

-- all ticks that are left of an instruction are a turn
row_turn : (image : Image) (script : Script) (t budget k u m : ℕ) (first o : Own) (instr : Instr) (is : IsPicked image script t budget k first) → begun image script u ≡ with_process k o (begun image script t)
    → o.job.inside ≡ first.job.inside → IsAt image o instr → m ≡ ticks instr - o.job.done → t ≤ u → u + m ≤ t + budget
    → IsTurn image script u m (state_at image script u) × (turn image script u m (state_at image script u) ≡ pass image u m (with_process k o (begun image script t)) (Some k))
row_turn image script t budget k u m first o instr is stood inside at time low high =
    let s : State = begun image script t in
    let w : State = with_process k o s in
    let picked : place_of (pick image w.threads) ≡ Some k = ap (λ (c : Option Candidate). place_of c) (pick_same image s.threads k first.job o.job is.ready inside) ∙ is.picked in
    let there : slice_get w.threads k ≡ Some (Ready o.job) = get_set s.threads k (Ready o.job) (Ready first.job) is.ready in (
      record {
        some = let early = at.early in omega arith;
        fits = subst (λ (x : State). FitsIn image m x (place_of (pick image x.threads))) (sym stood)
            (subst (λ (c : Option ℕ). FitsIn image m w c) (sym picked) (subst (λ (x : Option Thread). FitsThread image m x) (sym there) (fits_left image o instr m at time)));
        quiet = λ v after before. subst (λ (x : State). IsQuiet image script v x) (sym stood) (quiet_with image script v k o s (is.quiet v (omega arith) (omega arith)));
      },
      ap (λ (x : State). pass image u m x (place_of (pick image x.threads))) stood
          ∙ ap (λ (c : Option ℕ). pass image u m w c) picked,
    )

-- where n ticks have led
record Led (image : Image) (script : Script) (t budget k n : ℕ) (o : Own) : Type 0 where
  pub at_start : n < budget → begun image script (t + n) ≡ with_process k o (begun image script t)
  pub after : 0 < n → n ≤ budget → state_at image script (t + n) ≡ with_process k o (begun image script t)
  pub told : 0 < n → n ≤ budget → (m : ℕ) → events_from image script (n + m) t (state_at image script t) ≡ (starts image script t (state_at image script t)).events ++ events_from image script m (t + n) (state_at image script (t + n))

led_on : (image : Image) (script : Script) (t budget k n m' : ℕ) (first o next : Own) (instr : Instr) → IsPicked image script t budget k first → Leads image first n o → GoesTo image o instr next → m' ≡ n + (ticks instr - o.job.done)
    → Led image script t budget k n o → Led image script t budget k m' next
led_on image script t budget k n m' first o next instr is before step time was =
    let s : State = begun image script t in
    let m : ℕ = ticks instr - o.job.done in
    let some : 0 < m = let early = step.at.early in omega arith in
    let u : ℕ = t + n in
    let inside : o.job.inside ≡ first.job.inside = inside_same image first n o before in
    let there : t + m' ≡ u + m = omega arith in
    let is_turn : m' ≤ budget → IsTurn image script u m (state_at image script u) × (turn image script u m (state_at image script u) ≡ record { state = with_process k next s; events = []; stuck = false }) =
    λ within.
    let it = row_turn image script t budget k u m first o instr is (was.at_start (omega arith)) inside step.at refl (omega arith) (omega arith) in
    (it.0, it.1 ∙ passes image u k m is.p first o next instr s is.process is.ready is.owned step.at (step.goes (with_process k o s)) refl) in
    let reached : m' ≤ budget → state_at image script (t + m') ≡ with_process k next s =
    λ within.
    let it = is_turn within in
    let free : (turn image script u m (state_at image script u)).stuck ≡ false = ap (λ (x : Ticked). x.stuck) it.1 in
    ap (λ (v : ℕ). state_at image script v) there ∙ on_from image script m u ∙ turn_keeps_state image script u m (state_at image script u) it.0 free ∙ ap (λ (x : Ticked). x.state) it.1 in
    record {
      at_start = λ within.
          let now : IsQuiet image script (t + m') (with_process k next s) = quiet_with image script (t + m') k next s (is.quiet (t + m') (omega arith) (omega arith)) in
          ap (λ (x : State). (starts image script (t + m') x).state) (reached (omega arith))
          ∙ ap (λ (a : Started). a.state) (quiet_starts_nothing image script (t + m') (with_process k next s) now);
      after = λ positive within. reached within;
      told = λ positive within l.
          let it = is_turn within in
          let free : (turn image script u m (state_at image script u)).stuck ≡ false = ap (λ (x : Ticked). x.stuck) it.1 in
          let keeps : events_from image script (m + l) u (state_at image script u) ≡ turn_events image script u m (state_at image script u) ++ events_from image script l (u + m) (turned image script u m (state_at image script u)) =
          turn_keeps_events image script u m l (state_at image script u) it.0 free in
          let to : turned image script u m (state_at image script u) ≡ state_at image script (t + m') = ap (λ (x : Ticked). x.state) it.1 ∙ sym (reached within) in
          let right : events_from image script l (u + m) (turned image script u m (state_at image script u)) ≡ events_from image script l (t + m') (state_at image script (t + m')) =
          ap (λ (x : State). events_from image script l (u + m) x) to ∙ ap (λ (v : ℕ). events_from image script l v (state_at image script (t + m'))) (sym there) in
          let acts : turn_events image script u m (state_at image script u) ≡ (starts image script u (state_at image script u)).events =
          ap (λ (x : Ticked). (starts image script u (state_at image script u)).events ++ x.events) it.1 ∙ append-nil (starts image script u (state_at image script u)).events in
          let here : events_from image script (m + l) u (state_at image script u) ≡ (starts image script u (state_at image script u)).events ++ events_from image script l (t + m') (state_at image script (t + m')) =
          keeps ∙ ap (λ (es : List Event). es ++ events_from image script l (u + m) (turned image script u m (state_at image script u))) acts ∙ ap (λ (es : List Event). (starts image script u (state_at image script u)).events ++ es) right in
          elim (cases_lt 0 n) [
            | inl later ↦
                let count : m' + l ≡ n + (m + l) = omega arith in
                let quiet : IsQuiet image script u (with_process k o s) = quiet_with image script u k o s (is.quiet u (omega arith) (omega arith)) in
                let none : (starts image script u (state_at image script u)).events ≡ [] =
                ap (λ (x : State). (starts image script u x).events) (was.after later (omega arith)) ∙ ap (λ (a : Started). a.events) (quiet_starts_nothing image script u (with_process k o s) quiet) in
                ap (λ (c : ℕ). events_from image script c t (state_at image script t)) count
                ∙ was.told later (omega arith) (m + l)
                ∙ ap (λ (es : List Event). (starts image script t (state_at image script t)).events ++ es) (here ∙ ap (λ (es : List Event). es ++ events_from image script l (t + m') (state_at image script (t + m'))) none)
            | inr none ↦
                let same : u ≡ t = omega arith in
                let count : m' + l ≡ m + l = omega arith in
                ap (λ (c : ℕ). events_from image script c t (state_at image script t)) count
                ∙ ap (λ (v : ℕ). events_from image script (m + l) v (state_at image script v)) (sym same)
                ∙ here
                ∙ ap (λ (v : ℕ). (starts image script v (state_at image script v)).events ++ events_from image script l (t + m') (state_at image script (t + m'))) same
          ];
    }

led : (image : Image) (script : Script) (t budget k : ℕ) (first : Own) → IsPicked image script t budget k first → (n : ℕ) (o : Own) → Leads image first n o → Led image script t budget k n o
led image script t budget k first is n o Begins =
    let e : t + 0 ≡ t = omega arith in
    let s : State = begun image script t in
    record {
      at_start = λ some. ap (λ (u : ℕ). begun image script u) e
          ∙ ap (λ (ts : List Thread). record s { threads = ts }) (sym (set_same s.threads k (Ready first.job) is.ready))
          ∙ ap (λ (ws : List (List ℤ)). record s { threads = slice_set s.threads k (Ready first.job); owned = ws }) (sym (set_same s.owned k first.owned is.owned))
          ∙ ap (λ (ws : List ℤ). record s { threads = slice_set s.threads k (Ready first.job); owned = slice_set s.owned k first.owned; shared = ws }) is.shared;
      after = λ none within. absurd (omega arith);
      told = λ none within m. absurd (omega arith);
    }
led image script t budget k first is m' next (Follows before instr next' step m'' time) = led_on image script t budget k _ m' first _ next instr is before step time (led image script t budget k first is _ _ before)

pub row_stays_in_run : RowStaysInRun
row_stays_in_run image script t budget k first is n o leads some within = (led image script t budget k first is n o leads).after some within

pub row_keeps_events : RowKeepsEvents
row_keeps_events image script t budget k first is n o leads some within = (led image script t budget k first is n o leads).told some within

-- ---- what a run that is never stuck promises

pub burn_same : (image : Image) (first : Own) (n : ℕ) (o : Own) → Leads image first n o → o.job.dispatch_ticks ≡ first.job.dispatch_ticks
burn_same image first n o Begins = refl
burn_same image first n o (Follows before instr next step m time) = step.dispatch_ticks ∙ burn_same image first _ _ before

-- the outcome of the last tick is within the stack, where it was not stuck, and the state after it is
pub within_of : (image : Image) (u k : ℕ) (p : Process) (job : Job) (w after : State) (out : Outcome) → (settle image u k p job w out).stuck ≡ false → after ≡ (settle image u k p job w out).state
    → ((th : Thread) → slice_get after.threads k ≡ Some th → IsInStack p th) → slice_get w.threads k ≡ Some (Ready job) → IsWithin p.stack out
within_of image u k p job w after (Goes o) free is stack there =
    stack (Ready o.job) (ap (λ (x : State). slice_get x.threads k) is ∙ get_set w.threads k (Ready o.job) (Ready job) there)
within_of image u k p job w after Stuck free is stack there = absurd cc
within_of image u k p job w after (Does a o) free is stack there = tt
within_of image u k p job w after (Signals c o) free is stack there = tt
within_of image u k p job w after (Broadcasts c o) free is stack there = tt
within_of image u k p job w after (Waits c limit e o) free is stack there = tt
within_of image u k p job w after (Raises e) free is stack there = tt
within_of image u k p job w after Ends free is stack there = tt

-- an instruction is there, where the tick is not stuck
pub there_is : (image : Image) (u k : ℕ) (p : Process) (job : Job) (w : State) (owned : List ℤ) (at : Option Instr) → (settle image u k p job w (outcome_at_once image w job owned 1 at)).stuck ≡ false → (instr : Instr) × (at ≡ Some instr)
there_is image u k p job w owned None free = absurd cc
there_is image u k p job w owned (Some instr) free = (instr, refl)

pub row_is_safe : RowIsSafe
row_is_safe image script t budget k first is burnt never n o leads within =
    let s : State = begun image script t in
    let w : State = with_process k o s in
    let u : ℕ = t + n in
    let was : Led image script t budget k n o = led image script t budget k first is n o leads in
    let stood : begun image script u ≡ w = was.at_start within in
    let inside : o.job.inside ≡ first.job.inside = inside_same image first n o leads in
    let dispatch_ticks : o.job.dispatch_ticks ≡ 0 = burn_same image first n o leads ∙ burnt in
    let picked : place_of (pick image w.threads) ≡ Some k = ap (λ (c : Option Candidate). place_of c) (pick_same image s.threads k first.job o.job is.ready inside) ∙ is.picked in
    let there : slice_get w.threads k ≡ Some (Ready o.job) = get_set s.threads k (Ready o.job) (Ready first.job) is.ready in
    let free : (pass image u 1 w (Some k)).stuck ≡ false =
    sym (ap (λ (x : Passed). x.stuck) (tick_is image script u (state_at image script u)) ∙ ap (λ (x : State). (pass image u 1 x (place_of (pick image x.threads))).stuck) stood ∙ ap (λ (c : Option ℕ). (pass image u 1 w c).stuck) picked) ∙ never.unstuck u in
    let settled : pass image u 1 w (Some k) ≡ settle image (u + (1 - 1)) k is.p o.job w (outcome_at_once image w o.job (owned_of (slice_get w.owned k)) 1 (slice_get image.code o.job.place)) =
    ap (λ (x : Option Process). pass_thread image u 1 k w x (slice_get w.threads k)) is.process
    ∙ ap (λ (x : Option Thread). pass_thread image u 1 k w (Some is.p) x) there
    ∙ ap (λ (b : ℕ). settle image (u + (1 - 1)) k is.p o.job w (outcomes image w o.job (owned_of (slice_get w.owned k)) 1 b)) dispatch_ticks in
    let found : (instr : Instr) × (slice_get image.code o.job.place ≡ Some instr) =
    there_is image (u + (1 - 1)) k is.p o.job w (owned_of (slice_get w.owned k)) (slice_get image.code o.job.place) (ap (λ (x : Ticked). x.stuck) (sym settled) ∙ free) in
    let at : IsAt image o found.0 = record {
      burnt = dispatch_ticks;
      here = found.1;
      early = never.early u k o.job found.0 (ap (λ (x : State). slice_get x.threads k) stood ∙ there) found.1;
    } in
    record {
      instr = found.0;
      at = at;
      safe = λ enough silent.
          let d : ℕ = ticks found.0 - o.job.done in
          let it = row_turn image script t budget k u d first o found.0 is stood inside at refl (omega arith) (omega arith) in
          let stays = turn_stays_in_run image script never.unstuck u d it.0 in
          let all : turn image script u d (state_at image script u) ≡ settle image (u + (d - 1)) k is.p o.job w (effect image nowhere found.0 (next_own o)) =
          it.1 ∙ passes_to image u k d is.p first o found.0 s is.process is.ready is.owned at refl
          ∙ ap (λ (r : Outcome). settle image (u + (d - 1)) k is.p o.job w r) (silent_anywhere image w found.0 (next_own o) silent) in
          within_of image (u + (d - 1)) k is.p o.job w (state_at image script (u + d)) (effect image nowhere found.0 (next_own o))
          (ap (λ (x : Ticked). x.stuck) (sym all) ∙ stays.0) (stays.1 ∙ ap (λ (x : Ticked). x.state) all) (λ th at_th. never.stack (u + d) k is.p th is.process at_th) there;
    }

-- ---- where a row ends

pub row_is_turn : RowIsTurn
row_is_turn image script t budget k first is n o leads within m some fits all =
    let s : State = begun image script t in
    let w : State = with_process k o s in
    let u : ℕ = t + n in
    let stood : begun image script u ≡ w = (led image script t budget k first is n o leads).at_start within in
    let inside : o.job.inside ≡ first.job.inside = inside_same image first n o leads in
    let picked : place_of (pick image w.threads) ≡ Some k = ap (λ (c : Option Candidate). place_of c) (pick_same image s.threads k first.job o.job is.ready inside) ∙ is.picked in
    let there : slice_get w.threads k ≡ Some (Ready o.job) = get_set s.threads k (Ready o.job) (Ready first.job) is.ready in (
      record {
        some = some;
        fits = subst (λ (x : State). FitsIn image m x (place_of (pick image x.threads))) (sym stood)
            (subst (λ (c : Option ℕ). FitsIn image m w c) (sym picked) (subst (λ (x : Option Thread). FitsThread image m x) (sym there) fits));
        quiet = λ v after before. subst (λ (x : State). IsQuiet image script v x) (sym stood) (quiet_with image script v k o s (is.quiet v (omega arith) (omega arith)));
      },
      ap (λ (x : State). pass image u m x (place_of (pick image x.threads))) stood
          ∙ ap (λ (c : Option ℕ). pass image u m w c) picked,
    )
