-- What the levels cost, from the last on: 31 evaluations of each that lessens the spare ticks, one of each other.
use Rattle.std.proofs.Common.{◌≡◌, ◌≤◌, ◌<◌, ◌+◌, ◌*◌, ℕ, List, length, arith}
use Rattle.sched_response.specs.declared.tasks.Task.{Task}
use Rattle.sched_sensitivity.specs.Slack.{evaluations, evaluations_at}
use Rattle.sched_sensitivity.proofs.Lighter.{evaluations_more, evaluations_up}

-- the levels from one on are done; those before may still cost one evaluation each, and those before the one that fails one more
pub record Paid (ts : List Task) (from fails spent most : ℕ) : Type 0 where
  pub paid : ℕ
  pub reached : evaluations ts from ≤ paid
  pub covers : evaluations ts fails ≤ paid
  pub cost : spent + 30 * paid + evaluations ts from ≤ most

pub paid_first : (ts : List Task) (level spent : ℕ) → level < length ts → Paid ts (length ts) level spent (spent + 31 * evaluations ts (length ts))
paid_first ts level spent below = record {
  paid = evaluations ts (length ts);
  reached = omega arith;
  covers = evaluations_up ts level (length ts) (omega (arith, below));
  cost = omega arith;
}

pub paid_one : (ts : List Task) (from fails spent now most : ℕ) → Paid ts (from + 1) fails spent most → now ≤ spent + evaluations_at ts from → Paid ts from fails now most
paid_one ts from fails spent now most p one =
    let more : evaluations ts (from + 1) ≡ evaluations ts from + evaluations_at ts from = evaluations_more ts from in
    record { paid = p.paid; reached = omega (arith, more, p.reached); covers = p.covers; cost = omega (arith, more, p.cost, one) }

pub paid_many : (ts : List Task) (from fails spent now most : ℕ) → Paid ts (from + 1) fails spent most → now ≤ spent + 31 * evaluations_at ts from → Paid ts from from now most
paid_many ts from fails spent now most p many =
    let more : evaluations ts (from + 1) ≡ evaluations ts from + evaluations_at ts from = evaluations_more ts from in
    record { paid = evaluations ts from; reached = omega arith; covers = omega arith; cost = omega (arith, more, p.reached, p.cost, many) }

pub paid_last : (ts : List Task) (from fails spent most : ℕ) → Paid ts from fails spent most → spent + evaluations ts fails ≤ most
paid_last ts from fails spent most p = omega (arith, p.covers, p.cost)
