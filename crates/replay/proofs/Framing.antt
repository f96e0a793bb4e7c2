-- No frame of a well-formed program is 0.
use Rattle.std.proofs.Common.{◌≡◌, ◌≤◌, ℕ, true, ℤ, pos, negsuc, arith}
use Rattle.std.specs.Prelude.{◌&&◌, int_le}
use Rattle.std.proofs.lemmas.Bool.Decides.{nat_tests}
use Rattle.std.proofs.lemmas.List.Elements.{All-weaker}
use Rattle.base.specs.Words.{within}
use Rattle.syntax_tree.specs.Plain.{Trigger, periodic, at_event, Program}
use Rattle.source_semantics.specs.Names.{as_count, constant_value, count_value, processes}
use Rattle.replay_due_events.specs.NextDue.{FramePasses, FramesPass}
use Rattle.static_semantics.specs.WellFormed.{ActivationFits, IsWellFormed, ProcessFits}

not_below : (low high n : ℕ) → int_le (pos low) (pos n) && int_le (pos n) (pos high) ≡ true → low ≤ n
not_below low high n is = grind (arith, nat_tests, is)

at_least : (low high : ℕ) (v : ℤ) → within (pos low) (pos high) v ≡ true → low ≤ as_count v
at_least low high (pos n) is = not_below low high n is
at_least low high (negsuc n) is = absurd (first_of (cc, grind (arith, nat_tests, is)))

frame_passes : (g : Program) (a : Trigger) → ActivationFits g a → FramePasses g a
frame_passes g (periodic frame deadline first) fits =
    let low : 10 ≤ count_value g frame = at_least 10 1000000000 (constant_value g frame) fits.0.limits in
    omega (arith, low)
frame_passes g (at_event e frame deadline) fits = tt

pub all_pass : (g : Program) → IsWellFormed g → FramesPass g
all_pass g fits = All-weaker (ProcessFits g) (λ p. FramePasses g p.activation) (λ p one. frame_passes g p.activation one.activation) (processes g) fits.processes_fit
