-- A tick at which nothing is due.
use Rattle.std.proofs.Common.{◌≡◌, ◌≤◌, ◌<◌, ◌+◌, inl, inr, ℕ, List, Option, Some, None, length, arith, refl, ap, ◌∙◌}
use Rattle.std.proofs.lemmas.Bool.{cases_lt}
use Rattle.std.proofs.lemmas.Option.{slice_get_within}
use Rattle.base.proofs.Lists.{some_at}
use Rattle.machine_semantics.specs.Image.{Image, Process, Script}
use Rattle.machine_semantics.specs.State.{Thread, Waiting, State}
use Rattle.machine_semantics.specs.Starts.{starts, unchanged}
use Rattle.vm_stretch.specs.Quiet.{IsQuiet}
use Rattle.vm_stretch.specs.StretchDue.{HasSlots, IsNextRelease, NoneBefore, time_out_of}
use Rattle.vm_stretch.proofs.Quiet.{quiet_starts_nothing}
use Rattle.vm_stretch.specs.StartLawsDue.{AreDone, HasDue, IsReleaseFrom}
use Rattle.vm_stretch.proofs.StartLawsMoving.{due_are_released}
use Rattle.vm_releases.specs.Begin.{AreToCome}
use Rattle.vm_releases.proofs.Joining.{lines_to_come}

-- what is not released at a tick is released from the next on
pub release_later : (t : ℕ) (p : Process) (tick : Option ℕ) → IsReleaseFrom t p tick → ((r : ℕ) → tick ≡ Some r → t + 1 ≤ r) → IsReleaseFrom (t + 1) p tick
release_later t p None is low = λ u from. is u (omega (arith, from))
release_later t p (Some r) is low = (is.0, low r refl, λ u from before. is.2 u (omega (arith, from)) before)

pub next_from : (t : ℕ) (p : Process) (tick : Option ℕ) → IsReleaseFrom (t + 1) p tick → IsNextRelease t p tick
next_from t p None is = λ u after. is u (omega (arith, after))
next_from t p (Some r) is = let from : t + 1 ≤ r = is.1 in (is.0, omega (arith, from), λ u after before. is.2 u (omega (arith, after)) before)

-- the slots are right before the next tick too
due_later : (image : Image) (script : Script) (t done : ℕ) (s : State) (slots : List (Option ℕ)) → HasDue image script t done s slots → NoneBefore (t + 1) slots → HasDue image script (t + 1) done s slots
due_later image script t done s slots has none = record {
  count = has.count;
  releases = λ k p tick at slot. release_later t p tick (has.releases k p tick at slot) (λ r same. none k r (slot ∙ ap (λ (x : Option ℕ). Some x) same));
  waits = has.waits;
  line = has.line;
  order = has.order;
  past = λ i l at early. (let low = has.past i l at early in omega (arith, low));
  threads = has.threads;
  none_late = none;
}

-- what holds of such a tick
pub record Rests (image : Image) (script : Script) (t done : ℕ) (s : State) (slots : List (Option ℕ)) : Type 0 where
  pub starts : starts image script t s ≡ unchanged s
  pub next : HasSlots image script t done s slots
  pub lines : AreDone t done script.lines

pub rests : (image : Image) (script : Script) (t done : ℕ) (s : State) (slots : List (Option ℕ)) → HasDue image script t done s slots → done ≤ length script.lines → NoneBefore (t + 1) slots → Rests image script t done s slots
rests image script t done s slots has within none =
    let later : HasDue image script (t + 1) done s slots = due_later image script t done s slots has none in
    let come : AreToCome (t + 1) done script.lines = lines_to_come image script (t + 1) done s slots later within in
    let n : ℕ = length image.processes in
    let quiet : IsQuiet image script t s = record {
      lines = λ i l at same. elim (cases_lt i done) [
        | inl early ↦ (let low = has.past i l at early in absurd (omega (arith, low, same)))
        | inr late ↦ (let low = come.coming i l at late in absurd (omega (arith, low, same)))
      ];
      releases = λ k p at.
          let tick = some_at slots k (let low = slice_get_within image.processes k p at in omega (arith, low, has.count)) in
          (due_are_released image script t done k s slots p tick.0 has at tick.1).1 (λ same. (let low = none k t (tick.1 ∙ ap (λ (x : Option ℕ). Some x) same) in absurd (omega (arith, low))));
      waits = λ k c e job at.
          let below : k < n = has.threads k (Waiting c t e job) at in
          let tick = some_at slots (n + k) (omega (arith, below, has.count)) in
          let same : tick.0 ≡ Some t = has.waits k tick.0 below tick.1 ∙ ap (λ (o : Option Thread). time_out_of o) at in
          let low = none (n + k) t (tick.1 ∙ ap (λ (x : Option ℕ). Some x) same) in
          absurd (omega (arith, low));
    } in
    record {
      starts = quiet_starts_nothing image script t s quiet;
      next = record {
        count = has.count;
        releases = λ k p tick at slot. next_from t p tick (later.releases k p tick at slot);
        waits = has.waits;
        line = has.line;
        order = has.order;
        past = λ i l at early. (let low = has.past i l at early in omega (arith, low));
        threads = has.threads;
      };
      lines = record {
        past = λ i l at early. (let low = has.past i l at early in omega (arith, low));
        coming = λ i l at late. (let low = come.coming i l at late in omega (arith, low));
      };
    }
