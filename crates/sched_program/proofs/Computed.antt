-- The example, computed.
use Rattle.std.proofs.Common.{◌≡◌, ◌≤◌, ◌-◌, inl, inr, ℕ, zero, suc, Some, arith, refl, ap, sym, ◌∙◌, true}
use Rattle.std.specs.Prelude.{slice_get}
use Rattle.std.proofs.lemmas.Bool.{false≢true}
use Rattle.std.proofs.lemmas.Option.{same_Some, none-some}
use Rattle.base.specs.Capped.{cap}
use Rattle.syntax_tree.specs.Plain.{Process}
use Rattle.source_semantics.specs.Names.{processes, frame_of, deadline_of}
use Rattle.source_semantics.specs.Ranks.{rank, reached}
use Rattle.source_semantics_law.specs.Example.{signalled_wait}
use Rattle.code_spec.specs.Layout.{by_monitor}
use Rattle.code_spec.specs.Numbering.{Text, numbered, visit, number_of}
use Rattle.code_cost_spec.specs.Levels.{calls_at, cost_of_process, stay_of_entry}
use Rattle.sched_response.specs.Demand.{task_at}
use Rattle.sched_program.specs.Tasks.{comes_to, process_comes_to, IsLowerStay, IsBlock, IsTaskOf, with_dispatches}
use Rattle.sched_program.specs.Example.{example_tasks, ExampleHasItsTasks}

comes_same : (x p : Process) (t goal : Text) → x ≡ p → t ≡ goal → process_comes_to signalled_wait t 1 x ≡ process_comes_to signalled_wait goal 1 p
comes_same x p t goal e h = ap (λ (y : Process). process_comes_to signalled_wait t 1 y) e ∙ ap (λ u. process_comes_to signalled_wait u 1 p) h

-- the one that signals comes to the entry of the signal, and to no other
stay_of_second : (goal : Text) (at : ℕ) (p : Process) → slice_get (processes signalled_wait) 1 ≡ Some p → slice_get (numbered signalled_wait) at ≡ Some goal
    → process_comes_to signalled_wait goal 1 p ≡ true → cap (stay_of_entry signalled_wait goal) ≡ 8
unfolding numbered visit number_of calls_at comes_to
stay_of_second goal zero p is there comes =
    absurd (false≢true (comes_same _ p _ goal (same_Some _ p is) (same_Some _ goal there) ∙ comes))
stay_of_second goal (suc zero) p is there comes = sym (ap (λ t. cap (stay_of_entry signalled_wait t)) (same_Some _ goal there))
stay_of_second goal (suc (suc at)) p is there comes = absurd (none-some goal there)

-- the first is held up by the second alone, the second by none
first_most : (n k : ℕ) (l : IsLowerStay signalled_wait 1 n) → l.number ≡ k → n ≤ 8
first_most n zero l is = absurd (omega (arith, l.lower, ap (λ k. rank signalled_wait k) is))
first_most n (suc zero) l is =
    let goal : Text = record { owner = by_monitor l.monitor; routine = l.entry } in
    let there : slice_get (processes signalled_wait) 1 ≡ Some l.process = ap (λ k. slice_get (processes signalled_wait) k) (sym is) ∙ l.there in
    let called : process_comes_to signalled_wait goal 1 l.process ≡ true = ap (λ k. process_comes_to signalled_wait goal k l.process) (sym is) ∙ l.called in
    omega (arith, stay_of_second goal l.at l.process there l.declared called, l.stays)
first_most n (suc (suc k)) l is = absurd (none-some l.process (ap (λ k. slice_get (processes signalled_wait) k) (sym is) ∙ l.there))

second_most : (n k : ℕ) (l : IsLowerStay signalled_wait 2 n) → l.number ≡ k → n ≤ 0
second_most n zero l is = absurd (omega (arith, l.lower, ap (λ k. rank signalled_wait k) is))
second_most n (suc zero) l is = absurd (omega (arith, l.lower, ap (λ k. rank signalled_wait k) is))
second_most n (suc (suc k)) l is = absurd (none-some l.process (ap (λ k. slice_get (processes signalled_wait) k) (sym is) ∙ l.there))

first_block : IsBlock signalled_wait 1 8
unfolding numbered visit number_of calls_at comes_to reached
first_block = record {
  most = λ n l. first_most n l.number l refl;
  one = inr (record {
    number = 1;
    process = _;
    there = refl;
    lower = omega arith;
    monitor = 0;
    reaches_up = omega arith;
    entry = _;
    at = 1;
    declared = refl;
    called = refl;
    stays = refl;
  });
}

second_block : IsBlock signalled_wait 2 0
second_block = record { most = λ n l. second_most n l.number l refl; one = inl refl }

pub example_has_its_tasks : ExampleHasItsTasks
unfolding calls_at
example_has_its_tasks over = record { one_each = refl; each = λ k p at. each k p at } where
  each : (k : ℕ) (p : Process) → slice_get (processes signalled_wait) k ≡ Some p → IsTaskOf signalled_wait over k p (task_at (example_tasks over) (rank signalled_wait k - 1))
  each zero p at = let same = same_Some _ p at in record {
    frame = ap (λ (x : Process). frame_of signalled_wait x.activation) same;
    deadline = ap (λ (x : Process). deadline_of signalled_wait x.activation) same;
    run = ap (λ (x : Process). cap (with_dispatches over (cost_of_process signalled_wait 0 x))) same;
    susp = ap (λ (x : Process). cap (cost_of_process signalled_wait 0 x).susp) same;
    waits = ap (λ (x : Process). cap (cost_of_process signalled_wait 0 x).waits) same;
    block = first_block;
  }
  each (suc zero) p at = let same = same_Some _ p at in record {
    frame = ap (λ (x : Process). frame_of signalled_wait x.activation) same;
    deadline = ap (λ (x : Process). deadline_of signalled_wait x.activation) same;
    run = ap (λ (x : Process). cap (with_dispatches over (cost_of_process signalled_wait 1 x))) same;
    susp = ap (λ (x : Process). cap (cost_of_process signalled_wait 1 x).susp) same;
    waits = ap (λ (x : Process). cap (cost_of_process signalled_wait 1 x).waits) same;
    block = second_block;
  }
  each (suc (suc k)) p at = absurd (none-some p at)
