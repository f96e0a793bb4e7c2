-- The image with a monitor, a wait, a signal and a handler meets the premises.
use Rattle.std.proofs.Common.{◌≡◌, ◌≤◌, ◌<◌, ◌⊎◌, inl, inr, ℕ, zero, suc, List, Some, None, arith, refl, ap, sym, true, false, Bool}
use Rattle.std.specs.Prelude.{IsTrue, slice_get, slice_index, slice_index_or}
use Rattle.machine_isa.specs.declared.instr.Instr.{Instr}
use Rattle.sched_response.specs.Ranked.{use_at, outranks, AreRanks, IsLowerStay, IsBlocking}
use Rattle.machine_semantics.specs.Image.{Monitor}
use Rattle.machine_semantics.specs.Safe.{part_of}
use Rattle.machine_safety.specs.Example.{meeting, meeting_place, meeting_parts}
use Rattle.sched_timing.specs.Timed.{ImageIsTimed}
use Rattle.sched_timing.proofs.TimedMeeting.{meeting_is_timed, each}
use Rattle.sched_timing.specs.Defined.{shown, IsTold}
use Rattle.sched_timing.specs.TimedUsesExample.{meeting_uses, meeting_ranks, meeting_ceilings, MeetingIsDefined}

are_ranks : AreRanks meeting_uses meeting_ranks
are_ranks = record { one_each = refl; low = low; high = high; ordered = ordered } where
  low : (p : ℕ) → p < 2 → 1 ≤ slice_index meeting_ranks p
  low zero below = omega arith
  low (suc zero) below = omega arith
  low (suc (suc p)) below = absurd (omega (arith, below))

  high : (p : ℕ) → p < 2 → slice_index meeting_ranks p ≤ 2
  high zero below = omega arith
  high (suc zero) below = omega arith
  high (suc (suc p)) below = absurd (omega (arith, below))

  ordered : (p q : ℕ) → p < 2 → q < 2 → IsTrue (outranks meeting_uses p q) → slice_index meeting_ranks p < slice_index meeting_ranks q
  ordered zero zero below_p below_q higher = absurd cc
  ordered zero (suc zero) below_p below_q higher = omega arith
  ordered (suc zero) zero below_p below_q higher = absurd cc
  ordered (suc zero) (suc zero) below_p below_q higher = absurd cc
  ordered (suc (suc p)) q below_p below_q higher = absurd (omega (arith, below_p))
  ordered zero (suc (suc q)) below_p below_q higher = absurd (omega (arith, below_q))
  ordered (suc zero) (suc (suc q)) below_p below_q higher = absurd (omega (arith, below_q))

-- the first process is blocked by the one stay of the second, which nothing blocks
blocks_first : IsBlocking meeting_uses meeting_ranks meeting_ceilings 1 8
blocks_first = record { most = most; one = inr (1, omega arith, omega arith, (0, omega arith, omega arith, refl)) } where
  most : (n : ℕ) → IsLowerStay 2 meeting_uses meeting_ranks meeting_ceilings 1 n → n ≤ 8
  most n (zero, below, lower, stay) = absurd (omega (arith, lower))
  most n (suc zero, below, lower, (zero, within, reaches, ticks)) = omega (arith, ticks)
  most n (suc zero, below, lower, (suc k, within, reaches, ticks)) = absurd (omega (arith, within))
  most n (suc (suc p), below, lower, stay) = absurd (omega (arith, below))

blocks_second : IsBlocking meeting_uses meeting_ranks meeting_ceilings 2 0
blocks_second = record { most = most; one = inl refl } where
  most : (n : ℕ) → IsLowerStay 2 meeting_uses meeting_ranks meeting_ceilings 2 n → n ≤ 0
  most n (zero, below, lower, stay) = absurd (omega (arith, lower))
  most n (suc zero, below, lower, stay) = absurd (omega (arith, lower))
  most n (suc (suc p), below, lower, stay) = absurd (omega (arith, below))

pub meeting_is_defined : (code : List Instr) → MeetingIsDefined code
meeting_is_defined code = record {
  defined = record {
    many = refl;
    deadlines = each code (λ k p. (use_at meeting_uses k).deadline ≡ p.deadline) refl refl;
    stays = λ k m p monitor h at there. each code (λ i x. ((part_of (meeting_parts i) h).stays m ≡ 0) ⊎ IsTold (use_at meeting_uses i) m ((part_of (meeting_parts i) h).stays m)) (inr (first_told m h monitor there)) (inr (second_told m h monitor there)) k p at;
    ranked = are_ranks;
    shown_rank = each code (λ k p. p.rank ≡ slice_index meeting_ranks k) refl refl;
    shown_ceiling = ceilings;
    blocks = each code (λ k p. (b : ℕ) × IsBlocking meeting_uses meeting_ranks meeting_ceilings p.rank b × (b ≤ p.block)) (8, blocks_first, omega arith) (0, blocks_second, omega arith);
  };
  tested = (let t : ImageIsTimed (meeting_place 0 code) meeting_parts = meeting_is_timed code in record { some = t.some; few = t.few; limits = t.limits; covered = t.covered; solved = t.solved });
} where
  only_monitor : (m : ℕ) (monitor : Monitor) → slice_get (meeting 0 code).monitors m ≡ Some monitor → 0 ≡ m
  only_monitor zero monitor there = refl
  only_monitor (suc m) monitor there = absurd cc

  first_told : (m : ℕ) (h : Bool) (monitor : Monitor) → slice_get (meeting 0 code).monitors m ≡ Some monitor → IsTold (use_at meeting_uses 0) m ((part_of (meeting_parts 0) h).stays m)
  first_told m true monitor there = record { index = 0; within = omega arith; monitor = only_monitor m monitor there; enough = omega arith }
  first_told m false monitor there = record { index = 0; within = omega arith; monitor = only_monitor m monitor there; enough = omega arith }

  second_told : (m : ℕ) (h : Bool) (monitor : Monitor) → slice_get (meeting 0 code).monitors m ≡ Some monitor → IsTold (use_at meeting_uses 1) m ((part_of (meeting_parts 1) h).stays m)
  second_told m true monitor there = record { index = 0; within = omega arith; monitor = only_monitor m monitor there; enough = omega arith }
  second_told m false monitor there = record { index = 0; within = omega arith; monitor = only_monitor m monitor there; enough = omega arith }

  ceilings : (m : ℕ) (monitor : Monitor) → slice_get (meeting 0 code).monitors m ≡ Some monitor → monitor.ceiling ≡ shown (slice_index_or meeting_ceilings m None)
  ceilings zero monitor there = let is : record { base = 0; words = 0; ceiling = 1 } ≡ monitor = cc in sym (ap (λ (x : Monitor). x.ceiling) is)
  ceilings (suc m) monitor there = absurd cc
