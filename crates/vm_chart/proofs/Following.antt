-- The run and what is kept of its processes, from tick to tick.
use Rattle.std.proofs.Common.{◌≡◌, ◌≤◌, ◌<◌, ◌+◌, ◌*◌, ◌^◌, ℕ, List, length, Result, Ok, Err, OnOk, arith, ap, sym, subst, ◌∙◌}
use Rattle.base.specs.declared.event.Event.{Event}
use Rattle.run_chart.specs.declared.columns.Columns.{Columns}
use Rattle.run_chart.specs.Spans.{columns_of, first_tick}
use Rattle.run_chart.specs.declared.trace.Trace.{Trace}
use Rattle.run_chart.specs.Columns.{AreFew, end_of}
use Rattle.vm_stretch.specs.StartLawsDue.{HasOwnRanks}
use Rattle.vm_runner.specs.Alike.{StayAlike}
use Rattle.vm_runner.specs.Standing.{StandsIn, events_between}
use Rattle.vm_chart.specs.declared.course.Course.{Course}
use Rattle.vm_chart.specs.Follows.{AreColumns, Drawing, Each, Follows, IsDrawnTo, begins, events_before}
use Rattle.vm_chart.proofs.Ending.{begins_before}
use Rattle.vm_chart.proofs.Few.{before_few}
use Rattle.vm_chart.proofs.Tracing.{all_alike, still_unseen}

module _ (d : Drawing) where
  pub each_unseen : (t u : ℕ) (traces : List Trace) → t ≤ begins d → u ≤ begins d → Each (IsDrawnTo d t t) traces → Each (IsDrawnTo d u t) traces
  each_unseen t u traces early also each = λ k x at. still_unseen d k t u x early also (each k x at)

  pub each_alike : (t u : ℕ) (traces : List Trace) → begins d ≤ t → t < u → StayAlike d.image d.script t u → Each (IsDrawnTo d (t + 1) t) traces → Each (IsDrawnTo d u t) traces
  each_alike t u traces from later alike each = λ k x at. all_alike d k t u x from later alike (each k x at)

  pub few_events : (t : ℕ) → HasOwnRanks d.image → length d.image.processes ≤ 64 → t ≤ 1000000000 → length (events_before d.image d.script t) < 2 ^ 63
  few_events t ranks many short = (let few = before_few d.image d.script ranks t many in omega (arith, few, short))

  pub follows_to : (t : ℕ) (course : Course) → course.machine.tick ≡ t → StandsIn d.image d.script course.machine → length course.traces.items ≡ length d.image.processes → Each (IsDrawnTo d t t) course.traces.items → Follows d course
  follows_to t course here stands count each = record {
    stands = stands;
    count = count;
    each = subst (λ (u : ℕ). Each (IsDrawnTo d u u) course.traces.items) (sym here) each;
  }

  pub each_at : (t : ℕ) (course : Course) → course.machine.tick ≡ t → Follows d course → Each (IsDrawnTo d t t) course.traces.items
  each_at t course here follows = subst (λ (u : ℕ). Each (IsDrawnTo d u u) course.traces.items) here follows.each

  -- what fell between two ticks, each of which is told twice
  pub fell_between : (t u from to : ℕ) (es : List Event) → from ≡ t → to ≡ u → es ≡ events_between d.image d.script t u → es ≡ events_between d.image d.script from to
  fell_between t u from to es begin end is =
      is ∙ (ap (λ (n : ℕ). events_between d.image d.script n u) (sym begin) ∙ ap (λ (n : ℕ). events_between d.image d.script from n) (sym end))

-- ---- results

pub on_ok : {A E : Type 0} (r : Result A E) (P : Type 0) → P → OnOk r P
on_ok (Ok x) P p = p
on_ok (Err e) P p = tt

pub on_ok_both : {A E : Type 0} (r : Result A E) (P Q S : Type 0) → (P → Q → S) → OnOk r P → OnOk r Q → OnOk r S
on_ok_both (Ok x) P Q S to p q = to p q
on_ok_both (Err e) P Q S to p q = tt

-- ---- columns

pub columns_are : (columns : Columns) (first end : ℕ) → columns ≡ columns_of first end → AreFew columns → AreColumns columns
columns_are columns first end is few = record { are = is ∙ sym (ap (λ (x : Columns). columns_of x.first x.end) is); few = few }

-- a column ends by the end of all, and no later than the next begins
pub end_within : (columns : Columns) (is : AreColumns columns) (c : ℕ) → c < columns.count → end_of columns c ≤ columns.end
end_within columns is c low = (let before = begins_before columns is c low in omega (arith, before))

pub end_by_next : (columns : Columns) (c : ℕ) → end_of columns c ≤ first_tick columns (c + 1)
end_by_next columns c = (let more : (c + 1) * columns.width ≡ c * columns.width + columns.width = omega arith in omega (arith, more))
