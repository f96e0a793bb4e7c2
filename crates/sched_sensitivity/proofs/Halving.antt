-- A pass of the bisection halves what is between.
use Rattle.std.proofs.Common.{◌≡◌, ◌≤◌, ◌<◌, ◌+◌, ◌-◌, ◌*◌, ◌/◌, ◌^◌, ℕ, zero, suc, arith}
use Rattle.std.proofs.Math.Nat.{pow-suc, suc-mul}

-- so many passes are left, each of at most e evaluations, for what is between the middle and either end
pub record Pass (low high e spent most : ℕ) : Type 0 where
  pub left : ℕ
  pub upper : high ≤ (low + (high - low) / 2) + 2 ^ left
  pub lower : low + (high - low) / 2 ≤ low + 2 ^ left
  pub cost : spent + left * e ≤ most

pub next_pass : (left low high e steps spent most : ℕ) → low + 1 < high → high ≤ low + 2 ^ left → steps + left * e ≤ most → spent ≤ steps + e → Pass low high e spent most
next_pass zero low high e steps spent most wide near cost one = absurd (omega arith)
next_pass (suc left) low high e steps spent most wide near cost one =
    let double : 2 ^ suc left ≡ 2 ^ left * 2 = pow-suc 2 left in
    let split : suc left * e ≡ left * e + e = suc-mul left e in
    record {
      left = left;
      upper = omega (arith, double, near);
      lower = omega (arith, double, near);
      cost = omega (arith, split, cost, one);
    }
