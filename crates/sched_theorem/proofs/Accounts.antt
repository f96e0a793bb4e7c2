-- The account of a stretch: what its ticks were charged with, beside what is left of its activations.
use Rattle.std.proofs.Common.{◌≡◌, ℕ, zero, suc, ◌+◌, ◌*◌, ◌<◌, ◌≤◌, inl, inr, List, [], ◌∷◌, length, refl, arith, sym, subst}
use Rattle.std.specs.Prelude.{Bool}
use Rattle.std.proofs.lemmas.Bool.{cases_lt}
use Rattle.sched_theorem.specs.Charges.{Charge, Execution, Suspension, Blocking, executes, suspends, blocks, ticks_of, total, ChargedCost, Paid}
use Rattle.sched_theorem.specs.Stretches.{Life, IsLife, flag, Opens, Acts, NoneActive, SomeActive, IsCharged, Trace, IsRun, AreCharged, releases}
use Rattle.sched_theorem.proofs.Totals.{total_mono, total_less, total_add, total_zero, total_of_some, none_of_total}

-- charges made and what is left are paid for; `ended` pieces have ended, each by a wait
pub record Account (n : ℕ) (cost : ℕ → ChargedCost) (most : ℕ) (count : ℕ → ℕ) (cs : List Charge) (lives : ℕ → Life) (stay ended : ℕ) : Type 0 where
  pub execution : ticks_of executes cs + total n (λ j. (lives j).run_left) ≤ total n (λ j. count j * (cost j).run)
  pub suspension : ticks_of suspends cs + total n (λ j. (lives j).suspension_left) ≤ total n (λ j. count j * (cost j).susp)
  pub waits : ended + total n (λ j. (lives j).waits_left) ≤ total n (λ j. count j * (cost j).waits)
  -- in a piece the stay that is left is paid for, and while somebody waits that of the next piece
  pub piece : ticks_of blocks cs + stay ≤ (1 + ended) * most
  pub waited : 1 ≤ total n (λ j. (lives j).waiting) → ticks_of blocks cs + most ≤ (1 + ended) * most

one_more : (k m r : ℕ) → (k + r) * m ≡ k * m + r * m
one_more k m r = grind arith

-- what the releases of a tick add
added : (n : ℕ) (count gain : ℕ → ℕ) (most : ℕ → ℕ) (a b : ℕ → ℕ) (spent : ℕ) → ((j : ℕ) → j < n → b j ≤ a j + gain j * most j) → spent + total n a ≤ total n (λ j. count j * most j) → spent + total n b ≤ total n (λ j. (count j + gain j) * most j)
added zero count gain most a b spent each paid = paid
added (suc n) count gain most a b spent each paid =
    let rise : total n b ≤ total n (λ j. a j + gain j * most j) = total_mono n b (λ j. a j + gain j * most j) (λ j below. each j (omega arith)) in
    let parts = total_add n a (λ j. gain j * most j) in
    let last : b n ≤ a n + gain n * most n = each n (omega arith) in
    let sums : total (suc n) (λ j. (count j + gain j) * most j) ≡ total (suc n) (λ j. count j * most j) + total (suc n) (λ j. gain j * most j) = gains (suc n) count gain most in
    omega arith
  where
    gains : (n : ℕ) (count gain most : ℕ → ℕ) → total n (λ j. (count j + gain j) * most j) ≡ total n (λ j. count j * most j) + total n (λ j. gain j * most j)
    gains zero count gain most = refl
    gains (suc n) count gain most = let rest = gains n count gain most in let here = one_more (count n) (most n) (gain n) in omega arith

-- the start events of a tick keep the account
pub open_account : (n : ℕ) (cost : ℕ → ChargedCost) (most : ℕ) (count : ℕ → ℕ) (cs : List Charge) (a b : ℕ → Life) (stay ended : ℕ) (released : ℕ → Bool) → ((j : ℕ) → j < n → Opens (released j) (cost j) (a j) (b j)) → Account n cost most count cs a stay ended → Account n cost most (λ j. count j + flag (released j)) cs b stay ended
open_account n cost most count cs a b stay ended released opens account = record {
  execution = added n count (λ j. flag (released j)) (λ j. (cost j).run) (λ j. (a j).run_left) (λ j. (b j).run_left) _ (λ j below. (opens j below).run) account.execution;
  suspension = added n count (λ j. flag (released j)) (λ j. (cost j).susp) (λ j. (a j).suspension_left) (λ j. (b j).suspension_left) _ (λ j below. (opens j below).susp) account.suspension;
  waits = added n count (λ j. flag (released j)) (λ j. (cost j).waits) (λ j. (a j).waits_left) (λ j. (b j).waits_left) _ (λ j below. (opens j below).waits) account.waits;
  piece = account.piece;
  waited = λ some.
      let fewer = total_mono n (λ j. (b j).waiting) (λ j. (a j).waiting) (λ j below. (opens j below).waiting) in
      account.waited (omega arith);
}

-- what the acts of a tick leave, summed
record Sums (n : ℕ) (a b : ℕ → Life) : Type 0 where
  run : total n (λ j. (b j).run_left) ≤ total n (λ j. (a j).run_left)
  susp : total n (λ j. (b j).suspension_left) + total n (λ j. (a j).waiting) ≤ total n (λ j. (a j).suspension_left)
  waits : total n (λ j. (b j).waits_left) ≤ total n (λ j. (a j).waits_left)
  begins : total n (λ j. (b j).waits_left) + total n (λ j. (b j).waiting) ≤ total n (λ j. (a j).waits_left) + total n (λ j. (a j).waiting)

sums : (n : ℕ) (a b : ℕ → Life) → ((j : ℕ) → j < n → Acts (a j) (b j)) → Sums n a b
sums n a b acts =
    let susp = total_mono n (λ j. (b j).suspension_left + (a j).waiting) (λ j. (a j).suspension_left) (λ j below. (acts j below).susp) in
    let susp_parts = total_add n (λ j. (b j).suspension_left) (λ j. (a j).waiting) in
    let begins = total_mono n (λ j. (b j).waits_left + (b j).waiting) (λ j. (a j).waits_left + (a j).waiting) (λ j below. (acts j below).begins) in
    let before_parts = total_add n (λ j. (b j).waits_left) (λ j. (b j).waiting) in
    let after_parts = total_add n (λ j. (a j).waits_left) (λ j. (a j).waiting) in
    record {
      run = total_mono n (λ j. (b j).run_left) (λ j. (a j).run_left) (λ j below. (acts j below).run);
      susp = omega arith;
      waits = total_mono n (λ j. (b j).waits_left) (λ j. (a j).waits_left) (λ j below. (acts j below).waits);
      begins = omega arith;
    }

-- a tick in numbers: what its charge spends, and what is left before and after it
record Step (ran susp blocked left_a left_b susp_a susp_b waits_a waits_b stay_a stay_b waiting_a waiting_b most : ℕ) : Type 0 where
  execution : ran + left_b ≤ left_a
  suspension : susp + susp_b ≤ susp_a
  waits : waits_b ≤ waits_a
  begins : waits_b + waiting_b ≤ waits_a + waiting_a
  short : stay_b ≤ most
  piece : waiting_a ≡ 0 → blocked + stay_b ≤ stay_a
  free : 1 ≤ waiting_a → blocked ≡ 0

-- the charge of a tick, in numbers
stepped : (n : ℕ) (c : Charge) (a b : ℕ → Life) (stay stay_after most : ℕ) → ((j : ℕ) → j < n → Acts (a j) (b j)) → stay_after ≤ most → IsCharged n a b stay stay_after c →
    Step (executes c) (suspends c) (blocks c) (total n (λ j. (a j).run_left)) (total n (λ j. (b j).run_left)) (total n (λ j. (a j).suspension_left)) (total n (λ j. (b j).suspension_left)) (total n (λ j. (a j).waits_left)) (total n (λ j. (b j).waits_left)) stay stay_after (total n (λ j. (a j).waiting)) (total n (λ j. (b j).waiting)) most
stepped n (Execution rank) a b stay stay_after most acts short charged =
    let s = sums n a b acts in
    let falls = total_less n rank (λ j. (b j).run_left) (λ j. (a j).run_left) (λ j below. (acts j below).run) charged.of_these charged.falls in
    record {
      execution = omega arith;
      suspension = omega (arith, s.susp);
      waits = s.waits;
      begins = s.begins;
      short = short;
      piece = λ none. let h = charged.held (none_of_total n (λ j. (a j).waiting) none) in omega arith;
      free = λ some. refl;
    }
stepped n Suspension a b stay stay_after most acts short charged =
    let s = sums n a b acts in
    let some : 1 ≤ total n (λ j. (a j).waiting) = total_of_some n (λ j. (a j).waiting) charged in
    record {
      execution = omega (arith, s.run);
      suspension = omega (arith, s.susp);
      waits = s.waits;
      begins = s.begins;
      short = short;
      piece = λ none. absurd (omega arith);
      free = λ some. refl;
    }
stepped n Blocking a b stay stay_after most acts short charged =
    let s = sums n a b acts in
    let none : total n (λ j. (a j).waiting) ≡ 0 = total_zero n (λ j. (a j).waiting) charged.none_wait in
    let falls : stay_after + 1 ≤ stay = charged.falls in
    record {
      execution = omega (arith, s.run);
      suspension = omega (arith, s.susp);
      waits = s.waits;
      begins = s.begins;
      short = short;
      piece = λ none. omega arith;
      free = λ some. absurd (omega arith);
    }

-- the rest of a tick keeps the account, with its charge; a piece ends where somebody begins to wait while nobody did
pub act_account : (n : ℕ) (cost : ℕ → ChargedCost) (most : ℕ) (count : ℕ → ℕ) (cs : List Charge) (c : Charge) (a b : ℕ → Life) (stay stay_after ended : ℕ) → ((j : ℕ) → j < n → Acts (a j) (b j)) → stay_after ≤ most → IsCharged n a b stay stay_after c → Account n cost most count cs a stay ended → (new : ℕ) × Account n cost most count (c ∷ cs) b stay_after new
act_account n cost most count cs c a b stay stay_after ended acts short charged account =
    let s = stepped n c a b stay stay_after most acts short charged in
    let execution : executes c + ticks_of executes cs + total n (λ j. (b j).run_left) ≤ total n (λ j. count j * (cost j).run) = omega (arith, account.execution, s.execution) in
    let suspension : suspends c + ticks_of suspends cs + total n (λ j. (b j).suspension_left) ≤ total n (λ j. count j * (cost j).susp) = omega (arith, account.suspension, s.suspension) in
    let same : ended + total n (λ j. (b j).waits_left) ≤ total n (λ j. count j * (cost j).waits) = omega (arith, account.waits, s.waits) in
    elim (cases_lt 0 (total n (λ j. (a j).waiting))) [
      | inl some ↦
          let free : blocks c ≡ 0 = s.free (omega arith) in
          let paid : ticks_of blocks cs + most ≤ (1 + ended) * most = account.waited (omega arith) in (
            ended,
            record {
              execution = execution;
              suspension = suspension;
              waits = same;
              piece = omega (arith, s.short);
              waited = λ still. omega arith;
            },
          )
      | inr none ↦
          let nobody : total n (λ j. (a j).waiting) ≡ 0 = omega arith in
          let piece : blocks c + stay_after ≤ stay = s.piece nobody in
          let was : ticks_of blocks cs + stay ≤ (1 + ended) * most = account.piece in
          elim (cases_lt 0 (total n (λ j. (b j).waiting))) [
            | inl begun ↦
                let more : (1 + (ended + 1)) * most ≡ (1 + ended) * most + most = grind arith in (
                  ended + 1,
                  record {
                    execution = execution;
                    suspension = suspension;
                    waits = omega (arith, account.waits, s.begins);
                    piece = omega arith;
                    waited = λ still. omega arith;
                  },
                )
            | inr quiet ↦ (
              ended,
              record {
                execution = execution;
                suspension = suspension;
                waits = same;
                piece = omega arith;
                waited = λ still. absurd (omega arith);
              },
            )
          ]
    ]

-- the account at the start of a stretch
first_account : (n : ℕ) (cost : ℕ → ChargedCost) (most : ℕ) (lives : ℕ → Life) (stay : ℕ) → ((j : ℕ) → j < n → IsLife (lives j)) → NoneActive n lives → stay ≤ most → Account n cost most (λ j. 0) [] lives stay 0
first_account n cost most lives stay whole clear short =
    let run = total_zero n (λ j. (lives j).run_left) clear in
    let susp = total_zero n (λ j. (lives j).suspension_left) (λ j below. (whole j below).no_susp (clear j below)) in
    let waits = total_zero n (λ j. (lives j).waits_left) (λ j below. (whole j below).no_waits (clear j below)) in
    let waiting = total_zero n (λ j. (lives j).waiting) (λ j below. (whole j below).no_waiting (clear j below)) in
    record {
      execution = omega arith;
      suspension = omega arith;
      waits = omega arith;
      piece = omega arith;
      waited = λ some. absurd (omega arith);
    }

-- who is active before a tick is so after its start events
pub still_active : (n : ℕ) (cost : ℕ → ChargedCost) (a b : ℕ → Life) (released : ℕ → Bool) → ((j : ℕ) → j < n → Opens (released j) (cost j) (a j) (b j)) → SomeActive n a → SomeActive n b
still_active n cost a b released opens some = (some.0, some.1, (opens some.0 some.1).goes_on some.2)

-- so many charges, and an account of them
pub record Accounted (n : ℕ) (cost : ℕ → ChargedCost) (most : ℕ) (count : ℕ → ℕ) (ticks : ℕ) (lives : ℕ → Life) (stay : ℕ) : Type 0 where
  pub charges : List Charge
  pub many : length charges ≡ ticks
  pub ended : ℕ
  pub account : Account n cost most count charges lives stay ended

-- the account of the first ticks of a stretch
pub account_of : (n : ℕ) (cost : ℕ → ChargedCost) (most end : ℕ) (t : Trace) (stay : ℕ → ℕ) (start : ℕ) → IsRun n cost end t → AreCharged n most end t stay → NoneActive n (t.before start) → SomeActive n (t.after start) →
    (ticks : ℕ) → start + ticks ≤ end → ((k : ℕ) → 0 < k → k < ticks → SomeActive n (t.before (start + k))) →
    Accounted n cost most (λ j. releases (λ k. t.released k j) start ticks) ticks (t.before (start + ticks)) (stay (start + ticks))
account_of n cost most end t stay start run charged clear busy zero within goes_on =
    let e : start + 0 ≡ start = omega arith in
    let P : ℕ → Type 0 = λ k. Accounted n cost most (λ j. 0) 0 (t.before k) (stay k) in
    subst P (sym e) (record {
      charges = [];
      many = refl;
      ended = 0;
      account = first_account n cost most (t.before start) (stay start) (λ j below. run.whole start j (omega arith) below) clear (charged.stays start (omega arith));
    })
account_of n cost most end t stay start run charged clear busy (suc ticks) within goes_on =
    let was = account_of n cost most end t stay start run charged clear busy ticks (omega arith) (λ k pos below. goes_on k pos (omega arith)) in
    let here : start + ticks < end = omega arith in
    let opens : (j : ℕ) → j < n → Opens (t.released (start + ticks) j) (cost j) (t.before (start + ticks) j) (t.after (start + ticks) j) = λ j below. run.opens (start + ticks) j here below in
    let acts : (j : ℕ) → j < n → Acts (t.after (start + ticks) j) (t.before (suc (start + ticks)) j) = λ j below. run.acts (start + ticks) j here below in
    let active : SomeActive n (t.after (start + ticks)) = elim (cases_lt 0 ticks) [
      | inl later ↦ still_active n cost (t.before (start + ticks)) (t.after (start + ticks)) (t.released (start + ticks)) opens (goes_on ticks later (omega arith))
      | inr first ↦ let e : start ≡ start + ticks = omega arith in let P : ℕ → Type 0 = λ k. SomeActive n (t.after k) in subst P e busy
    ] in
    let charge = charged.charged (start + ticks) here active in
    let opened = open_account n cost most (λ j. releases (λ k. t.released k j) start ticks) was.charges (t.before (start + ticks)) (t.after (start + ticks)) (stay (start + ticks)) was.ended (t.released (start + ticks)) opens was.account in
    let acted = act_account n cost most (λ j. releases (λ k. t.released k j) start (suc ticks)) was.charges charge.0 (t.after (start + ticks)) (t.before (suc (start + ticks))) (stay (start + ticks)) (stay (suc (start + ticks))) was.ended acts (charged.stays (suc (start + ticks)) (omega arith)) charge.1 opened in
    let e : suc (start + ticks) ≡ start + suc ticks = omega arith in
    let P : ℕ → Type 0 = λ k. Accounted n cost most (λ j. releases (λ k. t.released k j) start (suc ticks)) (suc ticks) (t.before k) (stay k) in
    let many : length (charge.0 ∷ was.charges) ≡ suc ticks = omega (arith, was.many) in
    subst P e (record { charges = charge.0 ∷ was.charges; many = many; ended = acted.0; account = acted.1 })

-- an account is paid for
pub paid_of : (n : ℕ) (cost : ℕ → ChargedCost) (most : ℕ) (count : ℕ → ℕ) (cs : List Charge) (lives : ℕ → Life) (stay ended : ℕ) → Account n cost most count cs lives stay ended → Paid n count cost most (1 + ended) (total n (λ j. (lives j).run_left)) cs
paid_of n cost most count cs lives stay ended account = record {
  execution = account.execution;
  suspension = omega (arith, account.suspension);
  parted = omega (arith, account.waits);
  blocking = omega (arith, account.piece);
}
