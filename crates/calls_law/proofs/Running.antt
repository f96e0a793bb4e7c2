-- Who runs.
use Rattle.std.proofs.Common.{◌≡◌, ◌-◌, ℕ, zero, suc, Bool, true, false, Option, Some, None, arith, refl, ap, sym, ◌∙◌}
use Rattle.std.specs.Prelude.{min, nat_eq, slice_get}
use Rattle.std.proofs.lemmas.Bool.Decides.{nat_tests}
use Rattle.machine_semantics.specs.State.{Thread, Idle, Ready, Waiting}
use Rattle.machine_semantics.specs.Tick.{pick}
use Rattle.vm_stretch.specs.Stretch.{place_of}
use Rattle.vm_runner.proofs.Passing.{IsReady, is_ready}
use Rattle.run_chart.specs.Letters.{is_picked, letter_at, letter_in, letter_of, letter_of_picked}
use Rattle.run_chart.specs.declared.letter.Letter.{Letter}
use Rattle.run_chart.specs.Spans.{first_tick, shown}
use Rattle.calls_law.specs.Charts.{NoneRunsInIdleTick, OneRuns, ShowsWhatRan, ShowsWhatRanInside, runs}
use Rattle.calls_law.proofs.Orders.{Somewhere, inside_low, low_in, low_inside, low_of, low_runs, runs_low}

runs_picked : (thread : Option Thread) (picked : Bool) → runs (letter_of thread picked) ≡ true → picked ≡ true
runs_picked (Some (Ready job)) true is = refl
runs_picked (Some (Ready job)) false is = absurd cc
runs_picked (Some (Waiting condition due number job)) picked is = absurd cc
runs_picked (Some Idle) picked is = absurd cc
runs_picked None picked is = absurd cc

stays : (thread : Option Thread) → runs (letter_of thread false) ≡ false
stays (Some (Ready job)) = refl
stays (Some (Waiting condition due number job)) = refl
stays (Some Idle) = refl
stays None = refl

picked_runs : (dispatch_ticks : ℕ) (inside : Option ℕ) → runs (letter_of_picked dispatch_ticks inside) ≡ true
picked_runs (suc n) inside = refl
picked_runs zero (Some m) = refl
picked_runs zero None = refl

-- the one that is picked
picked_is : (o : Option ℕ) (k : ℕ) → is_picked o k ≡ true → o ≡ Some k
picked_is (Some j) k is = let same : j ≡ k = grind (arith, nat_tests, is) in ap (λ (n : ℕ). Some n) same
picked_is None k is = absurd cc

pub one_runs : OneRuns
one_runs image s j k one other =
    let who : Option ℕ = place_of (pick image s.threads) in
    let first : who ≡ Some j = picked_is who j (runs_picked (slice_get s.threads j) (is_picked who j) one) in
    let second : who ≡ Some k = picked_is who k (runs_picked (slice_get s.threads k) (is_picked who k) other) in
    let both : Some j ≡ Some k = sym first ∙ second in
    cc

pub none_runs_in_idle_tick : NoneRunsInIdleTick
none_runs_in_idle_tick image s = (to, from (place_of (pick image s.threads)) refl) where
  to : place_of (pick image s.threads) ≡ None → (k : ℕ) → runs (letter_in image s k) ≡ false
  to none k = ap (λ (o : Option ℕ). runs (letter_of (slice_get s.threads k) (is_picked o k))) none ∙ stays (slice_get s.threads k)

  from : (who : Option ℕ) → place_of (pick image s.threads) ≡ who → ((k : ℕ) → runs (letter_in image s k) ≡ false) → place_of (pick image s.threads) ≡ None
  from None is none = is
  from (Some k) is none =
      let r : IsReady image s k = is_ready image s k is in
      let same : nat_eq k k ≡ true = grind (arith, nat_tests) in
      let letter : runs (letter_in image s k) ≡ true =
      ap (λ (o : Option ℕ). runs (letter_of (slice_get s.threads k) (is_picked o k))) is
      ∙ (ap (λ (b : Bool). runs (letter_of (slice_get s.threads k) b)) same
      ∙ (ap (λ (o : Option Thread). runs (letter_of o true)) r.ready ∙ picked_runs r.job.dispatch_ticks r.job.inside)) in
      let no : runs (letter_in image s k) ≡ false = none k in
      absurd (let both : true ≡ false = sym letter ∙ no in cc)

pub shows_what_ran : ShowsWhatRan
shows_what_ran image script columns k c =
    let a : ℕ = first_tick columns c in
    let n : ℕ = min columns.width (columns.end - first_tick columns c) in
    let f : ℕ → Letter = letter_at image script k in (
      λ shows. (
          let some : Somewhere f 2 a n = low_in f 2 a n (omega arith) (runs_low (shown image script columns k c) shows) in
          (some.t, record { from = some.from; to = some.to }, low_runs (f some.t) some.low)),
      λ ran. low_runs (shown image script columns k c) (low_of f 2 a n (record { t = ran.0; from = ran.1.from; to = ran.1.to; low = runs_low (f ran.0) ran.2 })),
    )

pub shows_what_ran_inside : ShowsWhatRanInside
shows_what_ran_inside image script columns k c =
    let a : ℕ = first_tick columns c in
    let n : ℕ = min columns.width (columns.end - first_tick columns c) in
    let f : ℕ → Letter = letter_at image script k in (
      λ shows. (
          let some : Somewhere f 0 a n = low_in f 0 a n (omega arith) (inside_low (shown image script columns k c) shows) in
          (some.t, record { from = some.from; to = some.to }, low_inside (f some.t) some.low)),
      λ ran. low_inside (shown image script columns k c) (low_of f 0 a n (record { t = ran.0; from = ran.1.from; to = ran.1.to; low = inside_low (f ran.0) ran.2 })),
    )
