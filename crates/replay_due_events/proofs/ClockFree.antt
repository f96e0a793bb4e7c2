-- Ticks at which the clock releases nobody.
use Rattle.std.specs.Prelude.{◌≡◌, ◌≤◌, ◌<◌, ◌+◌, ℕ, zero, suc, Bool, true, false, cond, ◌&&◌, List, [], ◌∷◌, ◌++◌, Option, Some, None, length, nat_le, slice_get}
use Rattle.std.proofs.Common.{refl, sym, ◌∙◌, ap, subst, arith, inl, inr, drop, get_or}
use Rattle.std.proofs.lemmas.List.{at_drop_more}
use Rattle.std.proofs.lemmas.Bool.{cases_lt}
use Rattle.std.proofs.lemmas.Bool.Decides.{nat_tests}
use Rattle.source_semantics.specs.Config.{Job}
use Rattle.base.specs.declared.event.Event.{Event}
use Rattle.source_semantics.specs.Starts.{release_missing, was_released_at}
use Rattle.replay_due_events.specs.NextDue.{is_after, release_from, sooner}
use Rattle.replay_due_events.specs.Next.{timing_due, timings_due}
use Rattle.replay_due_events.specs.Timings.{FrameCounts, FramesCount, IsClockFree, clocked, first_in, is_clocked}
use Rattle.replay_due_events.specs.declared.timetable.Timing.{Timing}
use Rattle.replay_due_events.specs.declared.timetable.Timing.TheVariants as timing_is
use Rattle.replay_due_events.proofs.Nexting.{after_sooner}
use Rattle.replay_due_events.proofs.Periodic.{from_falls, from_low}

timing_rests : (from until : ℕ) (x : Timing) (j : Option Job) → FrameCounts x → ((u : ℕ) → from ≤ u → u < until → is_clocked u x ≡ false) → is_after until (timing_due from x j) ≡ true
timing_rests from until (timing_is.AtEvent e) j counts free = refl
timing_rests from until (timing_is.Periodic frame first) None counts free = refl
timing_rests from until (timing_is.Periodic frame first) (Some j) counts free = by_case (was_released_at r j.doing)
  where
    r : ℕ
    r = release_from first frame from

    late : until ≤ r
    late = elim (cases_lt r until) [
      | inl lt ↦
          let no : is_clocked r (timing_is.Periodic frame first) ≡ false = free r (from_low first frame from counts) lt in
          let yes : is_clocked r (timing_is.Periodic frame first) ≡ true = from_falls first frame from in
          absurd cc
      | inr ge ↦ ge
    ]

    by_case : (b : Bool) → nat_le until (cond b (r + frame) r) ≡ true
    by_case true = let low : until ≤ r + frame = omega (arith, late) in grind (arith, nat_tests)
    by_case false = let low : until ≤ r = late in grind (arith, nat_tests)

-- where the clock releases nobody, no periodic release is missing
pub timings_rest : (js : List Job) (from until k : ℕ) (xs : List Timing) → FramesCount xs → IsClockFree xs from until → is_after until (timings_due js from k xs) ≡ true
timings_rest js from until k [] counts free = refl
timings_rest js from until k (x ∷ xs) counts free =
    let here : is_after until (timing_due from x (slice_get js k)) ≡ true = timing_rests from until x (slice_get js k) (counts 0 x (omega arith)) (λ u low high. free u 0 x low high refl) in
    let rest : is_after until (timings_due js from (suc k) xs) ≡ true =
    timings_rest js from until (suc k) xs (λ i d lt. counts (suc i) d (omega (arith, lt))) (λ u i y low high at. free u (suc i) y low high at) in
    after_sooner until (timing_due from x (slice_get js k)) (timings_due js from (suc k) xs) ∙ (ap (λ (b : Bool). b && is_after until (timings_due js from (suc k) xs)) here ∙ rest)

-- it also releases nobody from later on, and before an earlier tick
pub free_within : (xs : List Timing) (from until later sooner : ℕ) → from ≤ later → sooner ≤ until → IsClockFree xs from until → IsClockFree xs later sooner
free_within xs from until later sooner low high free = λ u k x after before at. free u k x (omega (arith, low, after)) (omega (arith, high, before)) at

abbrev pub some_timing : Timing
some_timing = timing_is.Periodic 0 0

at_get : (xs : List Timing) (k : ℕ) (x : Timing) (d : Timing) → slice_get xs k ≡ Some x → get_or xs k d ≡ x
at_get [] k x d at = absurd cc
at_get (y ∷ ys) zero x d at = cc
at_get (y ∷ ys) (suc k) x d at = at_get ys k x d at

-- the same of the first timings, so many, and of one more
abbrev pub IsFreeOf : List Timing → (count from until : ℕ) → Type 0
IsFreeOf ts count from until = (u k : ℕ) (x : Timing) → from ≤ u → u < until → k < count → slice_get ts k ≡ Some x → is_clocked u x ≡ false

pub free_of_more : (ts : List Timing) (i from a b : ℕ) (d : Timing) → IsFreeOf ts i from a → ((u : ℕ) → from ≤ u → u < b → is_clocked u (get_or ts i d) ≡ false) → (least : ℕ) → least ≤ a → least ≤ b → IsFreeOf ts (i + 1) from least
free_of_more ts i from a b d free one least below_a below_b = λ u k x low high within at. elim (cases_lt k i) [
  | inl lt ↦ free u k x low (omega (arith, high, below_a)) lt at
  | inr ge ↦
      let is : k ≡ i = omega (arith, ge, within) in
      let at_i : slice_get ts i ≡ Some x = subst (λ (n : ℕ). slice_get ts n ≡ Some x) is at in
      subst (λ (y : Timing). is_clocked u y ≡ false) (at_get ts i x d at_i) (one u low (omega (arith, high, below_b)))
]

-- ---- the release of a process that is not missing is passed over

pub none_if : {A : Type 0} (b : Bool) (xs : List A) → xs ≡ [] → cond b xs [] ≡ []
none_if true xs none = none
none_if false xs none = refl

pub past_one : (js : List Job) (t p : ℕ) (ts : List Timing) → p < length ts → cond (is_clocked t (get_or ts p some_timing)) (release_missing t p (slice_get js p)) [] ≡ []
    → first_in (clocked js t p (drop p ts)) ≡ first_in (clocked js t (p + 1) (drop (p + 1) ts))
past_one js t p ts below none =
    let one : suc p ≡ p + 1 = omega arith in
    at_drop_more (λ l. first_in (clocked js t p l)) ts p some_timing below
    ∙ (ap (λ (l : List Event). first_in (l ++ clocked js t (suc p) (drop (p + 1) ts))) none
    ∙ ap (λ (n : ℕ). first_in (clocked js t n (drop (p + 1) ts))) one)
