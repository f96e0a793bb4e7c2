-- Slots before and after a turn, and the machine in its run.
use Rattle.std.proofs.Common.{◌≡◌, ◌≤◌, ◌<◌, ◌+◌, ◌-◌, ◌*◌, inl, inr, ℕ, false, List, Option, Some, length, get_or, arith, refl, ap, sym, subst, ◌∙◌}
use Rattle.std.specs.Prelude.{slice_get, slice_set}
use Rattle.std.proofs.lemmas.Bool.{cases_lt}
use Rattle.std.proofs.lemmas.List.{length-set}
use Rattle.std.proofs.lemmas.Option.{slice_get_within}
use Rattle.base.proofs.Lists.{get_other, get_set, some_at}
use Rattle.machine_semantics.specs.Image.{Image, Script}
use Rattle.machine_semantics.specs.State.{Thread, State}
use Rattle.machine_semantics.specs.Starts.{starts}
use Rattle.machine_semantics.specs.Tick.{tick}
use Rattle.machine_semantics.specs.Run.{at_start, state_at}
use Rattle.vm_stretch.specs.StretchDue.{HasSlots, NoneBefore, time_out_of}
use Rattle.vm_stretch.specs.Steps.{HasWaits}
use Rattle.vm_stretch.proofs.Lists.{same_or_not}
use Rattle.vm_state.specs.declared.threads.ControlBlock.{ControlBlock}
use Rattle.vm_state.specs.Threads.{thread_of, threads_of}
use Rattle.vm_releases.specs.Begin.{WaitsAlone}
use Rattle.vm_runner.specs.Waits.{WaitsFrom}
use Rattle.machine_semantics.specs.Whole.{HasNoOverrun}
use Rattle.vm_runner.proofs.Waiting.{is_waiting}
use Rattle.vm_state.proofs.Waking.{thread_at}

-- ---- slots

-- where the waits of the new state are noted and no other slot changes, the slots are right of the new state
pub noted_slots : (image : Image) (script : Script) (t done : ℕ) (s s' : State) (slots slots' : List (Option ℕ)) → HasSlots image script t done s slots → WaitsAlone (length image.processes) slots slots' → HasWaits (length image.processes) s' slots' → length s'.threads ≡ length image.processes
    → HasSlots image script t done s' slots'
noted_slots image script t done s s' slots slots' has alone waits threads = record {
  count = alone.count ∙ has.count;
  releases = λ k p tick at slot. has.releases k p tick at (sym (alone.releases k (slice_get_within image.processes k p at)) ∙ slot);
  waits = waits;
  line = alone.line ∙ has.line;
  order = has.order;
  past = has.past;
  threads = λ k x at. (let within = slice_get_within s'.threads k x at in omega (arith, within, threads));
}

-- where no wait times out otherwise, what was noted holds
pub same_waits : (image : Image) (script : Script) (t done : ℕ) (s s' : State) (slots : List (Option ℕ)) → HasSlots image script t done s slots → ((j : ℕ) → time_out_of (slice_get s'.threads j) ≡ time_out_of (slice_get s.threads j)) → HasWaits (length image.processes) s' slots
same_waits image script t done s s' slots has same k tick below slot = has.waits k tick below slot ∙ sym (same k)

-- where nothing was due before v, and no wait of the new state times out before it, nothing is
pub still_none : (image : Image) (script : Script) (t done v most : ℕ) (s s' : State) (slots slots' : List (Option ℕ)) → HasSlots image script t done s slots → WaitsAlone (length image.processes) slots slots' → HasWaits (length image.processes) s' slots'
    → NoneBefore most slots → v ≤ most → WaitsFrom v s.threads s'.threads → NoneBefore v slots'
still_none image script t done v most s s' slots slots' has alone waits none low from i r at =
    let n : ℕ = length image.processes in
    let within : i < 2 * n + 1 = (let w = slice_get_within slots' i (Some r) at in omega (arith, w, alone.count, has.count)) in
    elim (cases_lt i n) [
      | inl release ↦ (let le = none i r (sym (alone.releases i release) ∙ at) in omega (arith, le, low))
      | inr above ↦ elim (cases_lt i (2 * n)) [
        | inl wait ↦
            let k : ℕ = i - n in
            let here : i ≡ n + k = omega (arith, above) in
            let below : k < n = omega (arith, wait, above) in
            let at' : slice_get slots' (n + k) ≡ Some (Some r) = subst (λ (x : ℕ). slice_get slots' x ≡ Some (Some r)) here at in
            let w = is_waiting (slice_get s'.threads k) r (sym (waits k (Some r) below at')) in
            elim (from k w.0 r w.1.0 w.1.1.0 w.1.1.1) [
              | inl old ↦
                  let was = some_at slots (n + k) (omega (arith, has.count, below)) in
                  let slot : slice_get slots (n + k) ≡ Some (Some r) = was.1 ∙ ap (λ (x : Option ℕ). Some x) (has.waits k was.0 below was.1 ∙ ap (λ (o : Option Thread). time_out_of o) old) in
                  let le = none (n + k) r slot in omega (arith, le, low)
              | inr later ↦ later
            ]
        | inr line ↦
            let here : i ≡ 2 * n = omega (arith, within, line) in
            let at' : slice_get slots' (2 * n) ≡ Some (Some r) = subst (λ (x : ℕ). slice_get slots' x ≡ Some (Some r)) here at in
            let le = none (2 * n) r (sym alone.line ∙ at') in omega (arith, le, low)
      ]
    ]

-- the waits of the first m processes are noted
abbrev pub AreNoted : ℕ → ℕ → List Thread → List (Option ℕ) → Type 0
AreNoted n m threads slots = (k : ℕ) → k < m → slice_get slots (n + k) ≡ Some (time_out_of (slice_get threads k))

-- the wait of one more is noted
pub record OneNoted (n m : ℕ) (threads : List Thread) (start slots : List (Option ℕ)) : Type 0 where
  pub waits : AreNoted n m threads slots
  pub others : WaitsAlone n start slots

pub note_one : (n place : ℕ) (cs : List ControlBlock) (cell : ControlBlock) (start slots new : List (Option ℕ)) (due : Option ℕ) → place < n → place < length cs → cell ≡ get_or cs place cell → due ≡ time_out_of (Some (thread_of cell)) → length start ≡ 2 * n + 1
    → WaitsAlone n start slots → AreNoted n place (threads_of cs) slots → new ≡ slice_set slots (n + place) due → OneNoted n (place + 1) (threads_of cs) start new
note_one n place cs cell start slots new due below within at due_is count alone noted is =
    let there = some_at slots (n + place) (omega (arith, alone.count, count, below)) in
    let here : slice_get new (n + place) ≡ Some (time_out_of (slice_get (threads_of cs) place)) =
    ap (λ (xs : List (Option ℕ)). slice_get xs (n + place)) is ∙ get_set slots (n + place) due there.0 there.1
    ∙ ap (λ (o : Option ℕ). Some o) (due_is ∙ sym (ap (λ (o : Option Thread). time_out_of o) (thread_at cs place cell within at))) in
    record {
      waits = λ k early. elim (same_or_not place k) [
        | inl same ↦ subst (λ (j : ℕ). slice_get new (n + j) ≡ Some (time_out_of (slice_get (threads_of cs) j))) same here
        | inr differ ↦
            let apart : k < place = omega (arith, early, differ) in
            ap (λ (xs : List (Option ℕ)). slice_get xs (n + k)) is ∙ get_other slots (n + place) (n + k) due (λ e. absurd (omega (arith, e, apart))) ∙ noted k apart
      ];
      others = record {
        count = ap length is ∙ length-set slots (n + place) due ∙ alone.count;
        releases = λ k low. ap (λ (xs : List (Option ℕ)). slice_get xs k) is ∙ get_other slots (n + place) k due (λ e. absurd (omega (arith, e, low))) ∙ alone.releases k low;
        line = ap (λ (xs : List (Option ℕ)). slice_get xs (2 * n)) is ∙ get_other slots (n + place) (2 * n) due (λ e. absurd (omega (arith, e, below))) ∙ alone.line;
      };
    }

-- ---- the run

pub at_start_is : (image : Image) (script : Script) → state_at image script 0 ≡ at_start image
unfolding state_at
at_start_is image script = refl

tick_overrun : (image : Image) (script : Script) (t : ℕ) (s : State) → (tick image script t s).overrun ≡ (starts image script t s).overrun
unfolding tick
tick_overrun image script t s = refl

-- no start event of the tick is an overrun
pub starts_calm : (image : Image) (script : Script) (t : ℕ) (s : State) → HasNoOverrun image script → t < script.end_tick → s ≡ state_at image script t → (starts image script t s).overrun ≡ false
starts_calm image script t s calm before is = ap (λ (x : State). (starts image script t x).overrun) is ∙ sym (tick_overrun image script t (state_at image script t)) ∙ calm t before
