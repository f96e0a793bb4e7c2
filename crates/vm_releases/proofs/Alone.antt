-- A tick at which lines are due alone.
use Rattle.std.proofs.Common.{◌≡◌, ◌≢◌, ◌≤◌, ◌+◌, ◌*◌, ◌++◌, inl, inr, ℕ, List, [], Option, Some, None, length, drop, arith, ap, sym, ◌∙◌}
use Rattle.std.specs.Prelude.{slice_get, slice_set}
use Rattle.std.proofs.lemmas.Bool.{cases_lt}
use Rattle.std.proofs.lemmas.List.{append-nil, length-set}
use Rattle.std.proofs.lemmas.Option.{slice_get_within}
use Rattle.base.proofs.Lists.{get_other, get_set, some_at}
use Rattle.base.specs.declared.event.Event.{Event}
use Rattle.machine_semantics.specs.Image.{Image, Script, Line}
use Rattle.machine_semantics.specs.State.{State, Thread, Waiting}
use Rattle.machine_semantics.specs.Starts.{Started, followed, lines, periodic, time_outs, unchanged}
use Rattle.vm_stretch.specs.Due.{least}
use Rattle.vm_stretch.specs.Quiet.{IsQuiet, line_tick}
use Rattle.vm_stretch.specs.Steps.{HasStarted, HasWaits}
use Rattle.vm_stretch.specs.StretchDue.{HasSlots, NoneBefore, first_tick, time_out_of}
use Rattle.vm_stretch.specs.StartLawsDue.{AreDone, HasDue}
use Rattle.vm_stretch.proofs.Leading.{started_then}
use Rattle.vm_stretch.proofs.Quiet.{quiet_starts_nothing}
use Rattle.vm_releases.proofs.Joining.{AllStarted, first_of, first_past, starts_are, tell_releases, waits_after_lines}
use Rattle.vm_releases.proofs.Least.{none_up_to}
use Rattle.vm_releases.proofs.Resting.{next_from, release_later}

abbrev no_lines : Script
no_lines = record { lines = []; end_tick = 0 }

-- the tick of the line that comes next is above that of the lines that are done
first_above : (t done r : ℕ) (ls : List Line) → AreDone t done ls → first_tick (drop done ls) ≡ Some r → t ≤ r
first_above t done r ls are is =
    elim (cases_lt done (length ls)) [
      | inl some ↦ (let l = some_at ls done some in
          let low = are.coming done l.0 l.1 (omega arith) in
          let same : line_tick l.0 ≡ r = (let both : Some (line_tick l.0) ≡ Some r = sym (first_of ls done l.0 l.1) ∙ is in cc) in
          omega (arith, low, same))
      | inr none ↦ (let both : None ≡ Some r = sym (first_past ls done none) ∙ is in absurd cc)
    ]

module _ (image : Image) (script : Script) (t done done' : ℕ) (s : State) (slots set : List (Option ℕ)) (has : HasDue image script t done s slots) (is : set ≡ slice_set slots (2 * length image.processes) (first_tick (drop done' script.lines)))
    (are : AreDone t done' script.lines) where
  many : length set ≡ 2 * length image.processes + 1
  many = ap length is ∙ length-set slots (2 * length image.processes) (first_tick (drop done' script.lines)) ∙ has.count

  line_slot : slice_get set (2 * length image.processes) ≡ Some (first_tick (drop done' script.lines))
  line_slot =
      let n = length image.processes in
      let old = some_at slots (2 * n) (omega (arith, has.count)) in
      ap (λ (xs : List (Option ℕ)). slice_get xs (2 * n)) is ∙ get_set slots (2 * n) (first_tick (drop done' script.lines)) old.0 old.1

  other_slot : (k : ℕ) (o : Option ℕ) → 2 * length image.processes ≢ k → slice_get set k ≡ Some o → slice_get slots k ≡ Some o
  other_slot k o other slot =
      let n = length image.processes in
      sym (get_other slots (2 * n) k (first_tick (drop done' script.lines)) other) ∙ ap (λ (xs : List (Option ℕ)). slice_get xs k) (sym is) ∙ slot

  -- the slots are not late once the lines are done
  pub none_late : NoneBefore t set
  none_late i r slot =
      let n = length image.processes in
      elim (cases_lt i (2 * n)) [
        | inl low ↦ has.none_late i r (other_slot i (Some r) (λ same. absurd (omega (arith, same, low))) slot)
        | inr high ↦ (let within = slice_get_within set i (Some r) slot in
            let here : i ≡ 2 * n = omega (arith, high, within, many) in
            let both : Some (first_tick (drop done' script.lines)) ≡ Some (Some r) = sym line_slot ∙ ap (λ (k : ℕ). slice_get set k) (sym here) ∙ slot in
            let same : first_tick (drop done' script.lines) ≡ Some r = cc in
            first_above t done' r script.lines are same)
      ]

  module _ (a : State) (differ : least set ≢ Some t) (after : a ≡ (lines image t script.lines s).state) (threads : length a.threads ≡ length image.processes) where
    none : NoneBefore (t + 1) set
    none = none_up_to set t none_late differ

    waits : HasWaits (length image.processes) a set
    waits = waits_after_lines image script t done s a slots set (first_tick (drop done' script.lines)) has is after

    quiet : IsQuiet image no_lines t a
    quiet = record {
      lines = λ i l at. absurd cc;
      releases = λ k p at.
          let within = slice_get_within image.processes k p at in
          let tick = some_at set k (omega (arith, within, many)) in
          (tell_releases image script t done s slots set (first_tick (drop done' script.lines)) has is k p tick.0 at tick.1).1
          (λ same. (let low = none k t (tick.1 ∙ ap (λ (x : Option ℕ). Some x) same) in absurd (omega (arith, low))));
      waits = λ k c e job at.
          let within = slice_get_within a.threads k (Waiting c t e job) at in
          let tick = some_at set (length image.processes + k) (omega (arith, within, threads, many)) in
          let same : tick.0 ≡ Some t = waits k tick.0 (omega (arith, within, threads)) tick.1 ∙ ap (λ (o : Option Thread). time_out_of o) at in
          let low = none (length image.processes + k) t (tick.1 ∙ ap (λ (x : Option ℕ). Some x) same) in
          absurd (omega (arith, low));
    }

    -- neither a release nor a time-out
    no_more : followed (periodic image t 0 image.processes a) (time_outs image t 1 (length image.processes)) ≡ unchanged a
    no_more = sym (starts_are image no_lines t a) ∙ quiet_starts_nothing image no_lines t a quiet

    pub alone_slots : HasSlots image script t done' a set
    alone_slots = record {
      count = many;
      releases = λ k p tick at slot.
          let within = slice_get_within image.processes k p at in
          let old = other_slot k tick (λ same. absurd (omega (arith, same, within))) slot in
          next_from t p tick (release_later t p tick (has.releases k p tick at old) (λ r same. none k r (slot ∙ ap (λ (x : Option ℕ). Some x) same)));
      waits = waits;
      line = line_slot;
      order = has.order;
      past = are.past;
      threads = λ k x at. (let within = slice_get_within a.threads k x at in omega (arith, within, threads));
    }

    pub alone_started : (es0 es1 : List Event) → es0 ≡ [] → HasStarted (lines image t script.lines) s es0 a es1 → AllStarted image script t s a es1
    alone_started es0 es1 empty first =
        let go : State → Started = λ x. followed (periodic image t 0 image.processes x) (time_outs image t 1 (length image.processes)) in
        let later : HasStarted go a es1 a es1 = record {
          state = sym (ap (λ (x : Started). x.state) no_more);
          events = sym (ap (λ (x : Started). es1 ++ x.events) no_more ∙ append-nil es1);
          calm = ap (λ (x : Started). x.overrun) no_more;
        } in
        let all = started_then (lines image t script.lines) go s a a es0 es1 es1 first later in
        record {
          state = all.state ∙ sym (ap (λ (x : Started). x.state) (starts_are image script t s));
          events = all.events ∙ ap (λ (xs : List Event). xs ++ (followed (lines image t script.lines s) go).events) empty ∙ sym (ap (λ (x : Started). x.events) (starts_are image script t s));
        }
