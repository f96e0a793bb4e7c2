-- Rows of instructions in runs.
use Rattle.std.proofs.Common.{◌≡◌, ◌≤◌, ◌<◌, ◌+◌, ◌-◌, ◌++◌, inl, inr, ℕ, List, [], Option, Some, length, arith, refl, ap, sym, subst, ◌∙◌, false, append_assoc}
use Rattle.std.specs.Prelude.{ℤ, slice_get, slice_set}
use Rattle.std.proofs.lemmas.Bool.{cases_lt}
use Rattle.std.proofs.lemmas.List.{append-nil, length-set}
use Rattle.base.proofs.Lists.{set_same, get_set}
use Rattle.machine_isa.specs.declared.instr.Instr.{Instr}
use Rattle.machine_isa.specs.Ticks.{ticks}
use Rattle.base.specs.declared.event.Event.{Event}
use Rattle.machine_semantics.specs.Image.{Image, Process, Script}
use Rattle.machine_semantics.specs.State.{Thread, Ready, State}
use Rattle.machine_semantics.specs.Effect.{Own, Outcome, effect}
use Rattle.machine_semantics.specs.Starts.{Started, starts, unchanged}
use Rattle.machine_semantics.specs.Tick.{Ticked, owned_of, settle}
use Rattle.vm_stretch.specs.Stretch.{FitsIn, FitsThread, left, outcome_at_once, outcomes, pass, pass_thread}
use Rattle.vm_stretch.specs.Quiet.{IsQuiet}
use Rattle.vm_stretch.specs.Silent.{Begins, Follows, GoesTo, IsAt, Leads, next_own, nowhere, with_process}
use Rattle.vm_stretch.proofs.Quiet.{quiet_starts_nothing}
use Rattle.vm_stretch.proofs.Rowing.{silent_anywhere, passes_to, passes, fits_left, within_of, inside_same, burn_same, quiet_with, there_is}
use Rattle.edf_semantics.specs.Choice.{Mark, choose}
use Rattle.edf_semantics.specs.Run.{Marked, Passed, begin, begin_some, events_from, marks_of, state_at}
use Rattle.edf_semantics.specs.Turn.{IsTaken, IsTurn, IsUnstuck, begun, chosen, marked, started, turn}
use Rattle.edf_semantics.specs.Rows.{HasLed, IsChosen, IsRowTaken, RowIsSafe, RowIsTaken, RowStaysInRun}
use Rattle.edf_semantics.proofs.Staying.{begin_twice, choice_stays, marks_few, marks_same}
use Rattle.edf_semantics.proofs.Turning.{both, tick_is, turn_stays_in_run}
use Rattle.edf_semantics.proofs.Marking.{length_begin}

-- ---- where n ticks have led

-- the process stands so at the start of tick t + n, and is chosen in it
record Stood (image : Image) (script : Script) (t k n : ℕ) (o : Own) : Type 0 where
  pub stood : begun image script (t + n) ≡ with_process k o (begun image script t)
  pub chosen : chosen image script (t + n) ≡ Some k
  pub marks : begin k (marked image script (t + n)) ≡ begin k (marked image script t)

record Led (image : Image) (script : Script) (t budget k n : ℕ) (o : Own) : Type 0 where
  pub stood : n < budget → Stood image script t k n o
  pub led : 0 < n → n ≤ budget → HasLed image script t k n o

-- m ticks from there are a turn
record IsRowTurn (image : Image) (script : Script) (t k n m : ℕ) (o : Own) : Type 0 where
  pub is_turn : IsTurn image script (t + n) m
  pub turns : turn image script (t + n) m ≡ pass image (t + n) m (with_process k o (begun image script t)) (Some k)
  pub marks : begin_some (chosen image script (t + n)) (marked image script (t + n)) ≡ begin k (marked image script t)

row_turn : (image : Image) (script : Script) (t budget k n m : ℕ) (first o : Own) → IsChosen image script t budget k first → Stood image script t k n o → 1 ≤ m → m ≤ left image o.job → n + m ≤ budget → IsRowTurn image script t k n m o
row_turn image script t budget k n m first o is st some fits within =
    let s : State = begun image script t in
    let w : State = with_process k o s in
    let there : slice_get w.threads k ≡ Some (Ready o.job) = get_set s.threads k (Ready o.job) (Ready first.job) is.ready in
    record {
      is_turn = record {
        some = some;
        fits = subst (λ (c : Option ℕ). FitsIn image m (begun image script (t + n)) c) (sym st.chosen)
            (subst (λ (x : State). FitsIn image m x (Some k)) (sym st.stood) (subst (λ (x : Option Thread). FitsThread image m x) (sym there) fits));
        quiet = λ v after before. subst (λ (x : State). IsQuiet image script v x) (sym st.stood) (quiet_with image script v k o s (is.quiet v (omega arith) (omega arith)));
      };
      turns = ap (λ (c : Option ℕ). pass image (t + n) m (begun image script (t + n)) c) st.chosen ∙ ap (λ (x : State). pass image (t + n) m x (Some k)) st.stood;
      marks = ap (λ (c : Option ℕ). begin_some c (marked image script (t + n))) st.chosen ∙ st.marks;
    }

-- a quiet tick at which the process stands so and its activation has begun
stood_again : (image : Image) (script : Script) (t budget k n : ℕ) (first o : Own) → IsChosen image script t budget k first → o.job.inside ≡ first.job.inside → 0 < n → n < budget
    → state_at image script (t + n) ≡ both (with_process k o (begun image script t)) (begin k (marked image script t)) → Stood image script t k n o
stood_again image script t budget k n first o is inside some below at =
    let s : State = begun image script t in
    let w : State = with_process k o s in
    let ms : List Mark = begin k (marked image script t) in
    let u : ℕ = t + n in
    let calm : IsQuiet image script u w = quiet_with image script u k o s (is.quiet u (omega arith) (omega arith)) in
    let nothing : starts image script u w ≡ unchanged w = quiet_starts_nothing image script u w calm in
    let few : length ms ≤ length w.threads = (let a = length_begin k (marked image script t) in let b = length-set s.threads k (Ready o.job) in let c = marks_few t (state_at image script t).state.threads s.threads (state_at image script t).marks in omega (arith, a, b, c)) in
    let stood : begun image script u ≡ w = ap (λ (x : Marked). (starts image script u x.state).state) at ∙ ap (λ (a : Started). a.state) nothing in
    let marks : marked image script u ≡ ms =
    ap (λ (x : Marked). marks_of u x.state.threads (starts image script u x.state).state.threads x.marks) at
    ∙ ap (λ (a : Started). marks_of u w.threads a.state.threads ms) nothing
    ∙ marks_same u w.threads ms few in
    record {
      stood = stood;
      chosen = ap (λ (x : State). choose image x.threads (marked image script u)) stood ∙ ap (λ (xs : List Mark). choose image w.threads xs) marks
          ∙ choice_stays image s.threads (marked image script t) k first.job o.job is.ready inside is.chosen;
      marks = ap (λ (xs : List Mark). begin k xs) marks ∙ begin_twice k (marked image script t);
    }

-- what a turn from there comes to, in the run
row_taken : (image : Image) (script : Script) (t budget k n m : ℕ) (first o : Own) → IsUnstuck image script → IsChosen image script t budget k first → Led image script t budget k n o → n < budget → 1 ≤ m → m ≤ left image o.job → n + m ≤ budget
    → IsRowTaken image script t k n m (pass image (t + n) m (with_process k o (begun image script t)) (Some k))
row_taken image script t budget k n m first o safe is was below some fits within =
    let u : ℕ = t + n in
    let s : State = begun image script t in
    let w : State = with_process k o s in
    let all : Ticked = pass image u m w (Some k) in
    let it : IsRowTurn image script t k n m o = row_turn image script t budget k n m first o is (was.stood below) some fits within in
    let taken : IsTaken image script u m = turn_stays_in_run image script safe u m it.is_turn in
    let there : u + m ≡ t + (n + m) = omega arith in
    let more : (l : ℕ) → events_from image script (m + l) u (state_at image script u) ≡ (started image script u ++ all.events) ++ events_from image script l (t + (n + m)) (state_at image script (t + (n + m))) =
    λ l. taken.events l ∙ ap (λ (x : Ticked). (started image script u ++ x.events) ++ events_from image script l (u + m) (state_at image script (u + m))) it.turns
    ∙ ap (λ (v : ℕ). (started image script u ++ all.events) ++ events_from image script l v (state_at image script v)) there in
    record {
      free = ap (λ (x : Ticked). x.stuck) (sym it.turns) ∙ taken.free;
      state = ap (λ (v : ℕ). state_at image script v) (sym there) ∙ taken.state ∙ ap (λ (x : Ticked). both x.state (begin_some (chosen image script u) (marked image script u))) it.turns ∙ ap (λ (xs : List Mark). both all.state xs) it.marks;
      events = λ l. elim (cases_lt 0 n) [
        | inl later ↦
            let count : n + m + l ≡ n + (m + l) = omega arith in
            let led : HasLed image script t k n o = was.led later (omega arith) in
            let quiet : IsQuiet image script u w = quiet_with image script u k o s (is.quiet u (omega arith) (omega arith)) in
            let none : started image script u ≡ [] = ap (λ (x : Marked). (starts image script u x.state).events) led.state ∙ ap (λ (a : Started). a.events) (quiet_starts_nothing image script u w quiet) in
            ap (λ (c : ℕ). events_from image script c t (state_at image script t)) count
            ∙ led.events (m + l)
            ∙ ap (λ (es : List Event). started image script t ++ es) (more l ∙ ap (λ (es : List Event). (es ++ all.events) ++ events_from image script l (t + (n + m)) (state_at image script (t + (n + m)))) none)
            ∙ sym (append_assoc (started image script t) all.events (events_from image script l (t + (n + m)) (state_at image script (t + (n + m)))))
        | inr none ↦
            let same : u ≡ t = omega arith in
            let count : n + m + l ≡ m + l = omega arith in
            ap (λ (c : ℕ). events_from image script c t (state_at image script t)) count
            ∙ ap (λ (v : ℕ). events_from image script (m + l) v (state_at image script v)) (sym same)
            ∙ more l
            ∙ ap (λ (v : ℕ). (started image script v ++ all.events) ++ events_from image script l (t + (n + m)) (state_at image script (t + (n + m)))) same
      ];
    }

led_on : (image : Image) (script : Script) (t budget k n m' : ℕ) (first o next : Own) (instr : Instr) → IsUnstuck image script → IsChosen image script t budget k first → Leads image first n o → GoesTo image o instr next → m' ≡ n + (ticks instr - o.job.done)
    → Led image script t budget k n o → Led image script t budget k m' next
led_on image script t budget k n m' first o next instr safe is before step time was =
    let s : State = begun image script t in
    let m : ℕ = ticks instr - o.job.done in
    let some : 0 < m = let early = step.at.early in omega arith in
    let all : n + m ≡ m' = sym time in
    let goes : pass image (t + n) m (with_process k o s) (Some k) ≡ record { state = with_process k next s; events = []; stuck = false } =
    passes image (t + n) k m is.p first o next instr s is.process is.ready is.owned step.at (step.goes (with_process k o s)) refl in
    let taken : m' ≤ budget → IsRowTaken image script t k n m (pass image (t + n) m (with_process k o s) (Some k)) =
    λ within. row_taken image script t budget k n m first o safe is was (omega arith) some (fits_left image o instr m step.at refl) (omega arith) in
    let here : m' ≤ budget → state_at image script (t + m') ≡ both (with_process k next s) (begin k (marked image script t)) =
    λ within. ap (λ (v : ℕ). state_at image script (t + v)) (sym all) ∙ (taken within).state ∙ ap (λ (x : Ticked). both x.state (begin k (marked image script t))) goes in
    record {
      stood = λ within. stood_again image script t budget k m' first next is (step.inside ∙ inside_same image first n o before) (omega arith) within (here (omega arith));
      led = λ positive within. record {
        state = here within;
        events = λ l.
            ap (λ (v : ℕ). events_from image script (v + l) t (state_at image script t)) (sym all)
            ∙ (taken within).events l
            ∙ ap (λ (x : Ticked). (started image script t ++ x.events) ++ events_from image script l (t + (n + m)) (state_at image script (t + (n + m)))) goes
            ∙ ap (λ (es : List Event). es ++ events_from image script l (t + (n + m)) (state_at image script (t + (n + m)))) (append-nil (started image script t))
            ∙ ap (λ (v : ℕ). started image script t ++ events_from image script l (t + v) (state_at image script (t + v))) all;
      };
    }

led : (image : Image) (script : Script) (t budget k : ℕ) (first : Own) → IsUnstuck image script → IsChosen image script t budget k first → (n : ℕ) (o : Own) → Leads image first n o → Led image script t budget k n o
led image script t budget k first safe is n o Begins =
    let e : t + 0 ≡ t = omega arith in
    let s : State = begun image script t in
    record {
      stood = λ some. record {
        stood = ap (λ (u : ℕ). begun image script u) e
            ∙ ap (λ (ts : List Thread). record s { threads = ts }) (sym (set_same s.threads k (Ready first.job) is.ready))
            ∙ ap (λ (ws : List (List ℤ)). record s { threads = slice_set s.threads k (Ready first.job); owned = ws }) (sym (set_same s.owned k first.owned is.owned))
            ∙ ap (λ (ws : List ℤ). record s { threads = slice_set s.threads k (Ready first.job); owned = slice_set s.owned k first.owned; shared = ws }) is.shared;
        chosen = ap (λ (u : ℕ). chosen image script u) e ∙ is.chosen;
        marks = ap (λ (u : ℕ). begin k (marked image script u)) e;
      };
      led = λ none within. absurd (omega arith);
    }
led image script t budget k first safe is m' next (Follows before instr next' step m'' time) = led_on image script t budget k _ m' first _ next instr safe is before step time (led image script t budget k first safe is _ _ before)

pub row_stays_in_run : RowStaysInRun
row_stays_in_run image script t budget k first safe is n o leads some within = (led image script t budget k first safe is n o leads).led some within

pub row_is_taken : RowIsTaken
row_is_taken image script t budget k first safe is n o leads within m some fits all = row_taken image script t budget k n m first o safe is (led image script t budget k first safe is n o leads) within some fits all

-- ---- what a run that is never stuck promises

pub row_is_safe : RowIsSafe
row_is_safe image script t budget k first is burnt never n o leads within =
    let s : State = begun image script t in
    let w : State = with_process k o s in
    let u : ℕ = t + n in
    let was : Led image script t budget k n o = led image script t budget k first never.unstuck is n o leads in
    let st : Stood image script t k n o = was.stood within in
    let dispatch_ticks : o.job.dispatch_ticks ≡ 0 = burn_same image first n o leads ∙ burnt in
    let there : slice_get w.threads k ≡ Some (Ready o.job) = get_set s.threads k (Ready o.job) (Ready first.job) is.ready in
    let free : (pass image u 1 w (Some k)).stuck ≡ false =
    sym (ap (λ (x : Passed). x.stuck) (tick_is image script u (state_at image script u)) ∙ ap (λ (c : Option ℕ). (pass image u 1 (begun image script u) c).stuck) st.chosen ∙ ap (λ (x : State). (pass image u 1 x (Some k)).stuck) st.stood) ∙ never.unstuck u in
    let settled : pass image u 1 w (Some k) ≡ settle image (u + (1 - 1)) k is.p o.job w (outcome_at_once image w o.job (owned_of (slice_get w.owned k)) 1 (slice_get image.code o.job.place)) =
    ap (λ (x : Option Process). pass_thread image u 1 k w x (slice_get w.threads k)) is.process
    ∙ ap (λ (x : Option Thread). pass_thread image u 1 k w (Some is.p) x) there
    ∙ ap (λ (b : ℕ). settle image (u + (1 - 1)) k is.p o.job w (outcomes image w o.job (owned_of (slice_get w.owned k)) 1 b)) dispatch_ticks in
    let found : (instr : Instr) × (slice_get image.code o.job.place ≡ Some instr) =
    there_is image (u + (1 - 1)) k is.p o.job w (owned_of (slice_get w.owned k)) (slice_get image.code o.job.place) (ap (λ (x : Ticked). x.stuck) (sym settled) ∙ free) in
    let at : IsAt image o found.0 = record {
      burnt = dispatch_ticks;
      here = found.1;
      early = never.early u k o.job found.0 (ap (λ (x : State). slice_get x.threads k) st.stood ∙ there) found.1;
    } in
    record {
      instr = found.0;
      at = at;
      safe = λ enough silent.
          let d : ℕ = ticks found.0 - o.job.done in
          let early = at.early in
          let taken : IsRowTaken image script t k n d (pass image u d w (Some k)) = row_taken image script t budget k n d first o never.unstuck is was within (omega arith) (fits_left image o found.0 d at refl) (omega arith) in
          let all : pass image u d w (Some k) ≡ settle image (u + (d - 1)) k is.p o.job w (effect image nowhere found.0 (next_own o)) =
          passes_to image u k d is.p first o found.0 s is.process is.ready is.owned at refl
          ∙ ap (λ (r : Outcome). settle image (u + (d - 1)) k is.p o.job w r) (silent_anywhere image w found.0 (next_own o) silent) in
          within_of image (u + (d - 1)) k is.p o.job w (state_at image script (t + (n + d))).state (effect image nowhere found.0 (next_own o))
          (ap (λ (x : Ticked). x.stuck) (sym all) ∙ taken.free) (ap (λ (x : Marked). x.state) taken.state ∙ ap (λ (x : Ticked). x.state) all) (λ th at_th. never.stack (t + (n + d)) k is.p th is.process at_th) there;
    }
