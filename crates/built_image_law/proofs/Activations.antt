-- The frame and the deadline of a process are in their limits.
use Rattle.std.proofs.Common.{◌≡◌, ◌≤◌, ℕ, true, ℤ, pos, negsuc, Option, Some, None, arith}
use Rattle.std.specs.Prelude.{◌&&◌, int_le}
use Rattle.std.proofs.lemmas.Bool.Decides.{nat_tests}
use Rattle.base.specs.Words.{within}
use Rattle.syntax_tree.specs.Plain.{Constant, Trigger, periodic, at_event, Program}
use Rattle.source_semantics.specs.Names.{as_count, constant_value, count_value, frame_of, deadline_or, deadline_of}
use Rattle.static_semantics.specs.WellFormed.{DeadlineFits, ActivationFits}

not_below : (low high n : ℕ) → int_le (pos low) (pos n) && int_le (pos n) (pos high) ≡ true → low ≤ n
not_below low high n is = grind (arith, nat_tests, is)

not_above : (low high n : ℕ) → int_le (pos low) (pos n) && int_le (pos n) (pos high) ≡ true → n ≤ high
not_above low high n is = grind (arith, nat_tests, is)

between : (low high : ℕ) (v : ℤ) → within (pos low) (pos high) v ≡ true → (low ≤ as_count v) × (as_count v ≤ high)
between low high (pos n) is = (not_below low high n is, not_above low high n is)
between low high (negsuc n) is = absurd (first_of (cc, grind (arith, nat_tests, is)))

in_order : (m n : ℕ) → int_le (pos m) (pos n) ≡ true → m ≤ n
in_order m n is = grind (arith, nat_tests, is)

no_less : (low : ℕ) (v : ℤ) → int_le (pos low) v ≡ true → low ≤ as_count v
no_less low (pos n) is = in_order low n is
no_less low (negsuc n) is = absurd (first_of (cc, grind (arith, nat_tests, is)))

no_more : (v w : ℤ) → int_le (pos 10) v ≡ true → int_le v w ≡ true → as_count v ≤ as_count w
no_more (pos m) (pos n) low is = in_order m n is
no_more (pos m) (negsuc n) low is = absurd (first_of (cc, grind (arith, nat_tests, is)))
no_more (negsuc m) w low is = absurd (first_of (cc, grind (arith, nat_tests, low)))

pub record InLimits (g : Program) (a : Trigger) : Type 0 where
  pub frame_low : 10 ≤ frame_of g a
  pub frame_high : frame_of g a ≤ 1000000000
  pub deadline_low : 10 ≤ deadline_of g a
  pub deadline_high : deadline_of g a ≤ frame_of g a

deadlines : (g : Program) (frame : Constant) (deadline : Option Constant) → 10 ≤ count_value g frame → DeadlineFits g frame deadline
    → (10 ≤ deadline_or g (count_value g frame) deadline) × (deadline_or g (count_value g frame) deadline ≤ count_value g frame)
deadlines g frame None low fits = (low, omega arith)
deadlines g frame (Some d) low fits =
    (no_less 10 (constant_value g d) fits.1, no_more (constant_value g d) (constant_value g frame) fits.1 fits.2)

pub in_limits : (g : Program) (a : Trigger) → ActivationFits g a → InLimits g a
in_limits g (periodic frame deadline first) fits =
    let f = between 10 1000000000 (constant_value g frame) fits.0.limits in
    let d = deadlines g frame deadline f.0 fits.1 in
    record { frame_low = f.0; frame_high = f.1; deadline_low = d.0; deadline_high = d.1 }
in_limits g (at_event e frame deadline) fits =
    let f = between 10 1000000000 (constant_value g frame) fits.1.limits in
    let d = deadlines g frame deadline f.0 fits.2 in
    record { frame_low = f.0; frame_high = f.1; deadline_low = d.0; deadline_high = d.1 }
