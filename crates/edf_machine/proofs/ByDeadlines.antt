-- Runs under earliest deadline first go by turns and rows.
use Rattle.std.proofs.Common.{◌≡◌, ◌≤◌, ◌+◌, ◌++◌, inl, inr, ℕ, zero, suc, List, [], Option, Some, length, arith, refl, ap, sym, subst, ◌∙◌, append_assoc}
use Rattle.std.specs.Prelude.{slice_set}
use Rattle.std.proofs.lemmas.List.{append-nil, length-set}
use Rattle.base.specs.declared.event.Event.{Event}
use Rattle.machine_semantics.specs.Image.{Image, Script}
use Rattle.machine_semantics.specs.State.{Ready, State, Thread}
use Rattle.machine_semantics.specs.Starts.{starts}
use Rattle.machine_semantics.specs.Run.{at_start}
use Rattle.machine_semantics.specs.Tick.{Ticked}
use Rattle.machine_semantics.specs.Effect.{Own}
use Rattle.vm_runner.specs.Course as course
use Rattle.vm_runner.specs.Course.{ComeTo, GoesBySteps, IsRow, IsStep, IsThere}
use Rattle.edf_semantics.specs.Choice.{Mark, choose}
use Rattle.edf_semantics.specs.Run.{Marked, begin, begin_some, events_from, first_marks, marks_of, state_at, tick}
use Rattle.edf_semantics.specs.Rows.{IsChosen, IsRowTaken, IsSafeRun}
use Rattle.edf_semantics.specs.Turn.{IsTaken, IsTurn, begun, chosen, marked, started}
use Rattle.edf_semantics.proofs.Rowing.{row_is_safe, row_is_taken}
use Rattle.edf_semantics.proofs.Marking.{length_begin}
use Rattle.edf_semantics.proofs.Staying.{IsReady, begin_twice, choice_stays, chosen_ready, marks_few, marks_same}
use Rattle.edf_semantics.proofs.Turning.{more_events, next_state, turn_stays_in_run}
use Rattle.vm_releases.proofs.Boards.{cells_count}
use Rattle.vm_releases.proofs.Joining.{threads_count}
use Rattle.vm_state.specs.declared.decoded_image.DecodedImage.{DecodedImage}
use Rattle.vm_state.specs.declared.machine_state.MachineState.{MachineState}
use Rattle.vm_runner.specs.Dispatching.{At, Begun, GoesOn, InRow, Plans, Rests}
use Rattle.edf_machine.specs.ByDeadlines.{Knows, by_deadlines, deadlines}
use Rattle.edf_machine.specs.Marks.{AreMarks}
use Rattle.edf_machine.specs.declared.deadlines.Deadlines.{Deadlines}
use Rattle.edf_machine.specs.Runnable.{IsRunnable}

module _ (image : Image) (script : Script) where
  -- ---- states

  pub at_start_is : state_at image script 0 ≡ record { state = at_start image; marks = first_marks image }
  unfolding state_at
  at_start_is = refl

  tick_overrun : (t : ℕ) (s : Marked) → (tick image script t s).overrun ≡ (starts image script t s.state).overrun
  unfolding tick
  tick_overrun t s = refl

  -- ---- events

  no_events : (t : ℕ) (s : Marked) → events_from image script zero t s ≡ []
  unfolding events_from
  no_events t s = refl

  pub cut : (n m t : ℕ) → events_from image script (n + m) t (state_at image script t) ≡ events_from image script n t (state_at image script t) ++ events_from image script m (t + n) (state_at image script (t + n))
  cut zero m t =
      let same : t ≡ t + 0 = omega arith in
      let none : 0 + m ≡ m = omega arith in
      ap (λ (k : ℕ). events_from image script k t (state_at image script t)) none
      ∙ (ap (λ (u : ℕ). events_from image script m u (state_at image script u)) same
      ∙ ap (λ (es : List Event). es ++ events_from image script m (t + 0) (state_at image script (t + 0))) (sym (no_events t (state_at image script t))))
  cut (suc n) m t =
      let s : Marked = state_at image script t in
      let first : List Event = (tick image script t s).events in
      let count : suc n + m ≡ suc (n + m) = omega arith in
      let there : t + 1 + n ≡ t + suc n = omega arith in
      let rest : events_from image script (n + m) (t + 1) (state_at image script (t + 1)) ≡ events_from image script n (t + 1) (state_at image script (t + 1)) ++ events_from image script m (t + 1 + n) (state_at image script (t + 1 + n)) =
      cut n m (t + 1) in
      ap (λ (k : ℕ). events_from image script k t s) count
      ∙ (more_events image script (n + m) t s
      ∙ (ap (λ (x : Marked). first ++ events_from image script (n + m) (t + 1) x) (next_state image script t)
      ∙ (ap (λ (es : List Event). first ++ es) rest
      ∙ (sym (append_assoc first (events_from image script n (t + 1) (state_at image script (t + 1))) (events_from image script m (t + 1 + n) (state_at image script (t + 1 + n))))
      ∙ (ap (λ (x : Marked). (first ++ events_from image script n (t + 1) x) ++ events_from image script m (t + 1 + n) (state_at image script (t + 1 + n))) (sym (next_state image script t))
      ∙ (ap (λ (es : List Event). es ++ events_from image script m (t + 1 + n) (state_at image script (t + 1 + n))) (sym (more_events image script n t s))
      ∙ ap (λ (u : ℕ). events_from image script (suc n) t s ++ events_from image script m u (state_at image script u)) there))))))

  -- events up to before a tick, with nothing after them
  alone : (t n : ℕ) (es : List Event) → ((m : ℕ) → events_from image script (n + m) t (state_at image script t) ≡ es ++ events_from image script m (t + n) (state_at image script (t + n))) → events_from image script n t (state_at image script t) ≡ es
  alone t n es all =
      let count : n ≡ n + 0 = omega arith in
      ap (λ (k : ℕ). events_from image script k t (state_at image script t)) count
      ∙ all 0
      ∙ ap (λ (xs : List Event). es ++ xs) (no_events (t + n) (state_at image script (t + n)))
      ∙ append-nil es

  -- ---- turns and rows

  abbrev is_turn : (t n : ℕ) → course.IsTurn (by_deadlines image script) t n → IsTurn image script t n
  is_turn t n is = record { some = is.some; fits = is.fits; quiet = is.quiet }

  abbrev is_chosen : (t budget k : ℕ) (first : Own) → course.IsChosen (by_deadlines image script) t budget k first → IsChosen image script t budget k first
  is_chosen t budget k first is = record { p = is.p; process = is.process; chosen = is.chosen; ready = is.ready; owned = is.owned; shared = is.shared; quiet = is.quiet }

  taken : IsSafeRun image script → (t n : ℕ) (is : IsRow (by_deadlines image script) t n) → IsRowTaken image script t is.k is.led is.m (course.row (by_deadlines image script) t n is)
  taken safe t n is =
      let all : is.led + is.m ≡ n = is.all in
      let within : n ≤ is.budget = is.within in
      let some : 1 ≤ is.m = is.some in
      row_is_taken image script t is.budget is.k is.first safe.unstuck (is_chosen t is.budget is.k is.first is.chosen) is.led is.o is.leads (omega (arith, all, within, some)) is.m is.some is.fits (omega (arith, all, within))

  turns : IsSafeRun image script → (t n : ℕ) → course.IsTurn (by_deadlines image script) t n → ComeTo (by_deadlines image script) t n (course.turn (by_deadlines image script) t n)
  turns safe t n is =
      let all : Ticked = course.turn (by_deadlines image script) t n in
      let taken_so : IsTaken image script t n = turn_stays_in_run image script safe.unstuck t n (is_turn t n is) in
      record {
        free = taken_so.free;
        state = ap (λ (x : Marked). x.state) taken_so.state;
        events = alone t n (started image script t ++ all.events) taken_so.events;
      }

  rows : IsSafeRun image script → (t n : ℕ) (is : IsRow (by_deadlines image script) t n) → ComeTo (by_deadlines image script) t n (course.row (by_deadlines image script) t n is)
  rows safe t n is =
      let all : Ticked = course.row (by_deadlines image script) t n is in
      let r : IsRowTaken image script t is.k is.led is.m all = taken safe t n is in
      record {
        free = r.free;
        state = ap (λ (m : ℕ). (state_at image script (t + m)).state) (sym is.all) ∙ ap (λ (x : Marked). x.state) r.state;
        events = ap (λ (m : ℕ). events_from image script m t (state_at image script t)) (sym is.all) ∙ alone t (is.led + is.m) (started image script t ++ all.events) r.events;
      }

  -- the marks after them: the process that was chosen has begun
  pub marks_after : IsSafeRun image script → (t n : ℕ) → IsStep (by_deadlines image script) t n → (state_at image script (t + n)).marks ≡ begin_some (chosen image script t) (marked image script t)
  marks_after safe t n step = elim step [
    | inl turn ↦ ap (λ (x : Marked). x.marks) (turn_stays_in_run image script safe.unstuck t n (is_turn t n turn)).state
    | inr row ↦
        ap (λ (m : ℕ). (state_at image script (t + m)).marks) (sym row.all)
        ∙ ap (λ (x : Marked). x.marks) (taken safe t n row).state
        ∙ sym (ap (λ (o : Option ℕ). begin_some o (marked image script t)) row.chosen.chosen)
  ]

  -- where the start events of a tick change nothing, nor do the marks
  pub marks_rest : (t : ℕ) → begun image script t ≡ (state_at image script t).state → length (state_at image script t).marks ≤ length (state_at image script t).state.threads → marked image script t ≡ (state_at image script t).marks
  marks_rest t still few =
      let old : Marked = state_at image script t in
      ap (λ (x : State). marks_of t old.state.threads x.threads old.marks) still ∙ marks_same t old.state.threads old.marks few

  pub there : (t k : ℕ) → chosen image script t ≡ Some k → IsThere image (begun image script t) k
  there t k at =
      let r : IsReady image (begun image script t).threads k = chosen_ready image (begun image script t).threads (marked image script t) k at in
      record { p = r.p; process = r.process; job = r.job; ready = r.ready }

  pub goes_by_steps : IsRunnable image script → GoesBySteps (by_deadlines image script)
  goes_by_steps runs = record {
    first = ap (λ (x : Marked). x.state) at_start_is;
    chosen = there;
    turns = turns runs.safe;
    rows = rows runs.safe;
    none = λ t. no_events t (state_at image script t);
    cut = cut;
    safe = λ t budget k first is burnt. row_is_safe image script t budget k first (is_chosen t budget k first is) burnt runs.safe;
    stack = runs.safe.stack;
    early = runs.safe.early;
    calm = λ t before. sym (tick_overrun t (state_at image script t)) ∙ runs.calm t before;
    queued = runs.queued;
    still_queued = runs.still_queued;
    ranks = runs.ranks;
    order = runs.order;
    fits = runs.fits;
    short = runs.short;
  }

  -- ---- a process that goes on as it stood

  -- at the next tick the marks are those of its row
  marks_on : IsRunnable image script → (t n k : ℕ) → GoesOn (by_deadlines image script) t n k → marked image script (t + n) ≡ begin k (marked image script t)
  marks_on can t n k on =
      let ts : List Thread = (begun image script t).threads in
      let ms : List Mark = begin k (marked image script t) in
      let after : (state_at image script (t + n)).marks ≡ ms = marks_after can.safe t n on.step ∙ ap (λ (o : Option ℕ). begin_some o (marked image script t)) on.chosen in
      let few : length (state_at image script (t + n)).marks ≤ length (state_at image script (t + n)).state.threads =
      (let a = length_begin k (marked image script t) in
      let b = length-set ts k (Ready on.new) in
      let c = marks_few t (state_at image script t).state.threads ts (state_at image script t).marks in
      let d : length (state_at image script (t + n)).marks ≡ length ms = ap (λ (xs : List Mark). length xs) after in
      let e : length (state_at image script (t + n)).state.threads ≡ length (slice_set ts k (Ready on.new)) = ap (λ (xs : List Thread). length xs) on.threads in
      omega (arith, a, b, c, d, e)) in
      marks_rest (t + n) on.calm few ∙ after

  pub chosen_again : IsRunnable image script → (t n k : ℕ) → GoesOn (by_deadlines image script) t n k → chosen image script (t + n) ≡ Some k
  chosen_again can t n k on =
      let ts : List Thread = (begun image script t).threads in
      let stood : (begun image script (t + n)).threads ≡ slice_set ts k (Ready on.new) = ap (λ (s : State). s.threads) on.calm ∙ on.threads in
      ap (λ (xs : List Thread). choose image xs (marked image script (t + n))) stood
      ∙ ap (λ (ms : List Mark). choose image (slice_set ts k (Ready on.new)) ms) (marks_on can t n k on)
      ∙ choice_stays image ts (marked image script t) k on.job on.new on.ready on.inside on.chosen

  pub known_again : IsRunnable image script → (t n k : ℕ) → GoesOn (by_deadlines image script) t n k → (d : Deadlines) → Knows image script (InRow t) d → Knows image script (InRow (t + n)) d
  known_again can t n k on d is can' m step =
      let ms : List Mark = marked image script t in
      let first : (state_at image script (t + n)).marks ≡ begin k ms = marks_after can.safe t n on.step ∙ ap (λ (o : Option ℕ). begin_some o ms) on.chosen in
      let next : (state_at image script (t + n + m)).marks ≡ begin k ms =
      marks_after can.safe (t + n) m step
      ∙ ap (λ (o : Option ℕ). begin_some o (marked image script (t + n))) (chosen_again can t n k on)
      ∙ ap (λ (xs : List Mark). begin k xs) (marks_on can t n k on)
      ∙ begin_twice k ms in
      subst (λ (xs : List Mark). AreMarks image d.marks.items xs) (first ∙ sym next) (is can n on.step)

-- ---- the dispatch at a tick at which nothing is due

-- it knows the marks after the start events of the tick
pub resting : (plan : DecodedImage) (board : MachineState) (d : Deadlines) (at : At) → Rests deadlines Knows plan board d at → Plans deadlines Knows Begun plan board d at
resting plan board d at it =
    let image = at.image in
    let sees = it.plans.sees in
    let count : length (state_at image at.script at.tick).state.threads ≡ length image.processes = sym (ap (λ (s : State). length s.threads) sees.state) ∙ threads_count board.cells.items ∙ cells_count image board.cells.items sees.board.rooms in
    let marks = sees.knows.count in
    record {
      plan = it.plans.plan;
      sees = record {
        board = sees.board;
        state = sees.state ∙ sym it.calm;
        knows = subst (λ (ms : List Mark). AreMarks image d.marks.items ms) (sym (marks_rest image at.script at.tick it.calm (omega (arith, count, marks)))) sees.knows;
      };
    }
