-- The instruction that a turn completes is the one whose effect comes in its last tick.
use Rattle.std.proofs.Common.{◌≡◌, ◌≢◌, ◌≤◌, ◌<◌, ◌+◌, ◌-◌, ◌⊎◌, inl, inr, ℕ, zero, suc, Bool, true, false, List, Option, Some, None, arith, refl, ap, sym, subst, ◌∙◌}
use Rattle.std.specs.Prelude.{ℤ, slice_get, slice_set, cond, min, nat_le, nat_lt}
use Rattle.std.proofs.lemmas.Bool.{cases_lt}
use Rattle.std.proofs.lemmas.Bool.Decides.{nat_tests}
use Rattle.base.proofs.Lists.{get_other, get_set}
use Rattle.machine_isa.specs.declared.instr.Instr.{Instr}
use Rattle.machine_isa.specs.Ticks.{ticks}
use Rattle.machine_semantics.specs.Image.{Image}
use Rattle.machine_semantics.specs.State.{Job, Thread, Idle, Ready, Waiting, State}
use Rattle.machine_semantics.specs.Effect.{Outcome, Goes}
use Rattle.machine_semantics.specs.Starts.{Started, starts}
use Rattle.machine_semantics.specs.Tick.{Candidate, Ticked, owned_of, pick, settle}
use Rattle.machine_semantics.specs.Run.{state_at}
use Rattle.vm_stretch.specs.Stretch.{left, left_at, left_of, outcome_at_once, outcomes, place_of}
use Rattle.vm_stretch.specs.Quiet.{AreQuiet, IsQuiet}
use Rattle.vm_stretch.specs.RowLaws.{IsSafeRun, begun}
use Rattle.vm_stretch.specs.StretchDue.{HasSlots, NoneBefore}
use Rattle.vm_stretch.proofs.Jumping.{slots_are_quiet}
use Rattle.vm_stretch.proofs.Lists.{same_or_not}
use Rattle.vm_stretch.proofs.StretchMoving.{moved, pick_same, quiet_same, set_owned}
use Rattle.vm_stretch.proofs.Quiet.{quiet_starts_nothing}
use Rattle.vm_stretch.proofs.Runs.{turn_stays_in_run}
use Rattle.vm_turn.specs.Settled.{CanPass}
use Rattle.vm_turn.proofs.Safely.{turn_can_pass}
use Rattle.vm_stretch.specs.declared.completed.Completed.{Completed}
use Rattle.vm_stretch.specs.Completed.{completed_at, completed_by, completed_in, completed_picked, completes, is_last_next, last_completed}
use Rattle.vm_runner.specs.Turn.{Run}
use Rattle.vm_runner.specs.Alike.{AreAlike, StandsAlike, StayAlike, burns}
use Rattle.vm_runner.specs.Ends.{lasts, lasts_picked, lasts_thread}
use Rattle.vm_runner.specs.Completing.{NoneBetween, completed_within_by, completed_within_picked, completes_within, is_last_within}
use Rattle.vm_runner.proofs.Passing.{IsReady, IsTurn, fits_in, idle_turn, is_ready, picked_turn, settled, turn_from}

-- ---- one activation

-- the activation after m ticks at once of what it is at, where it had so many to burn
abbrev later : ℕ → Job → ℕ → Job
later m job zero = record job { done = job.done + m }
later m job (suc b) = record job { dispatch_ticks = suc b - m }

same_inside : (m : ℕ) (job : Job) (b : ℕ) → (later m job b).inside ≡ job.inside
same_inside m job zero = refl
same_inside m job (suc b) = refl

same_place : (m : ℕ) (job : Job) (b : ℕ) → (later m job b).place ≡ job.place
same_place m job zero = refl
same_place m job (suc b) = refl

-- fewer ticks than are left go on within what it is at
goes_within : (image : Image) (s : State) (job : Job) (words : List ℤ) (m b : ℕ) → 1 ≤ m → m < left_of b job.done (slice_get image.code job.place)
    → outcomes image s job words m b ≡ Goes (record { job = later m job b; owned = words; shared = s.shared })
goes_within image s job words m (suc b) some below = refl
goes_within image s job words m zero some below = by (slice_get image.code job.place) below where
  by : (o : Option Instr) → m < left_at job.done o → outcome_at_once image s job words m o ≡ Goes (record { job = later m job zero; owned = words; shared = s.shared })
  by None low = absurd (omega (arith, some, low))
  by (Some instr) low =
      let test : nat_lt (job.done + m) (ticks instr) ≡ true = (let l : job.done + m < ticks instr = omega (arith, low) in grind (arith, nat_tests, l)) in
      rw test refl

-- whether it completes its instruction then in one tick
completes_later : (image : Image) (job : Job) (m b : ℕ) → job.dispatch_ticks ≡ b → m < left_of b job.done (slice_get image.code job.place) → completes image (later m job b) (later m job b).dispatch_ticks ≡ completes_within image (m + 1) job b
completes_later image job m (suc b) is below =
    let burning : suc b - m ≡ suc (b - m) = omega (arith, below) in
    ap (λ (x : ℕ). completes image (later m job (suc b)) x) burning
completes_later image job m zero is below = ap (λ (x : ℕ). completes image (later m job zero) x) is ∙ by (slice_get image.code job.place) where
  by : (o : Option Instr) → is_last_next (job.done + m) o ≡ is_last_within (m + 1) job.done o
  by None = refl
  by (Some instr) = let e : job.done + m + 1 ≡ job.done + (m + 1) = omega arith in ap (λ (x : ℕ). nat_le (ticks instr) x) e

-- whether it completes its instruction in one tick now
completes_now : (image : Image) (job : Job) (b : ℕ) → completes image job b ≡ completes_within image 1 job b
completes_now image job (suc b) = refl
completes_now image job zero = by (slice_get image.code job.place) where
  by : (o : Option Instr) → is_last_next job.done o ≡ is_last_within 1 job.done o
  by None = refl
  by (Some instr) = refl

-- it completes nothing in fewer ticks than are left
none_yet : (image : Image) (job : Job) (m b : ℕ) → m < left_of b job.done (slice_get image.code job.place) → completes_within image m job b ≡ false
none_yet image job m (suc b) below = refl
none_yet image job m zero below = by (slice_get image.code job.place) below where
  by : (o : Option Instr) → m < left_at job.done o → is_last_within m job.done o ≡ false
  by None low = refl
  by (Some instr) low = let l : job.done + m < ticks instr = omega (arith, low) in grind (arith, nat_tests, l)

-- it burns as long as it has ticks to burn, and does not where it has none
burns_later : (image : Image) (job : Job) (m b : ℕ) → job.dispatch_ticks ≡ b → m < left_of b job.done (slice_get image.code job.place) → burns (later m job b) ≡ burns job
burns_later image job m zero is below = refl
burns_later image job m (suc b) is below =
    let some : 0 < suc b - m = omega (arith, below) in
    let was : 0 < job.dispatch_ticks = omega (arith, is) in
    let new : nat_lt 0 (suc b - m) ≡ true = grind (arith, nat_tests, some) in
    let old : nat_lt 0 job.dispatch_ticks ≡ true = grind (arith, nat_tests, was) in
    new ∙ sym old

-- more ticks than are left complete no more
all_within : (image : Image) (job : Job) (most b : ℕ) → completes_within image (min most (left_of b job.done (slice_get image.code job.place))) job b ≡ completes_within image most job b
all_within image job most (suc b) = refl
all_within image job most zero = by (slice_get image.code job.place) where
  by : (o : Option Instr) → is_last_within (min most (left_at job.done o)) job.done o ≡ is_last_within most job.done o
  by None = refl
  by (Some instr) = elim (cases_lt most (ticks instr - job.done)) [
    | inl less ↦ (let e : min most (ticks instr - job.done) ≡ most = omega (arith, less) in ap (λ (x : ℕ). nat_le (ticks instr) (job.done + x)) e)
    | inr more ↦
        let there : ticks instr ≤ job.done + min most (ticks instr - job.done) = omega (arith, more) in
        let all : ticks instr ≤ job.done + most = omega (arith, more) in
        let one : nat_le (ticks instr) (job.done + min most (ticks instr - job.done)) ≡ true = grind (arith, nat_tests, there) in
        let other : nat_le (ticks instr) (job.done + most) ≡ true = grind (arith, nat_tests, all) in
        one ∙ sym other
  ]

-- ---- all processes

-- each stands as it does
alike_itself : (thread : Option Thread) → StandsAlike thread thread
alike_itself (Some (Ready job)) = (refl, refl)
alike_itself (Some (Waiting condition due number job)) = refl
alike_itself (Some Idle) = refl
alike_itself None = refl

same_alike : (image : Image) (s after : State) → after ≡ s → AreAlike image s after
same_alike image s after same = subst (λ (x : State). AreAlike image s x) (sym same) (record { picked = refl; threads = λ k. alike_itself (slice_get s.threads k) })

-- where one activation goes on within what it is at, all stand alike
moved_alike : (image : Image) (s : State) (k : ℕ) (job new : Job) → slice_get s.threads k ≡ Some (Ready job) → new.inside ≡ job.inside → burns new ≡ burns job → AreAlike image s (moved k new s)
moved_alike image s k job new ready inside burning = record {
  picked = ap (λ (c : Option Candidate). place_of c) (pick_same image s.threads k job new ready inside);
  threads = λ j. by j (same_or_not j k);
} where
  by : (j : ℕ) → (j ≡ k) ⊎ (j ≢ k) → StandsAlike (slice_get s.threads j) (slice_get (slice_set s.threads k (Ready new)) j)
  by j (inl same) =
      let there : slice_get (slice_set s.threads k (Ready new)) k ≡ Some (Ready new) = get_set s.threads k (Ready new) (Ready job) ready in
      subst (λ (i : ℕ). StandsAlike (slice_get s.threads i) (slice_get (slice_set s.threads k (Ready new)) i)) (sym same)
      (subst (λ (o : Option Thread). StandsAlike o (slice_get (slice_set s.threads k (Ready new)) k)) (sym ready)
      (subst (λ (o : Option Thread). StandsAlike (Some (Ready job)) o) (sym there) (inside, burning)))
  by j (inr other) = subst (λ (o : Option Thread). StandsAlike (slice_get s.threads j) o) (sym (get_other s.threads k j (Ready new) (λ same. other (sym same)))) (alike_itself (slice_get s.threads j))

-- ---- the process that is picked

-- what it completes, if it does
abbrev told : ℕ → Job → Bool → Option Completed
told k job does = cond does (Some (record { process = k; at = job.place })) None

abbrev start : Run → ℕ → State
start run t = begun run.image run.script t

module _ (run : Run) (safe : IsSafeRun run.image run.script) (t k : ℕ) (job : Job) (is : place_of (pick run.image (start run t).threads) ≡ Some k) (ready : slice_get (start run t).threads k ≡ Some (Ready job)) (most : ℕ) (quiet : AreQuiet run.image run.script t most (start run t)) where
  -- after fewer ticks than are left all is as it was, but for the activation
  stays : (m : ℕ) → 1 ≤ m → m ≤ most → m < left run.image job → state_at run.image run.script (t + m) ≡ moved k (later m job job.dispatch_ticks) (start run t)
  stays m some less below =
      let s : State = start run t in
      let it : IsTurn run t m = picked_turn run t m most k s refl is some less (fits_in run.image m k s job ready (omega (arith, below))) quiet in
      let can : CanPass run.image m k s = turn_can_pass run.image run.script t m k safe it is in
      let both : Some (Ready can.job) ≡ Some (Ready job) = sym can.ready ∙ ready in
      let same : can.job ≡ job = cc in
      let words : List ℤ = owned_of (slice_get s.owned k) in
      (turn_stays_in_run run.image run.script safe.unstuck t m it).1
      ∙ ap (λ (x : Ticked). x.state) (settled run t m k can is)
      ∙ ap (λ (x : Job). (settle run.image (t + (m - 1)) k can.p x s (outcomes run.image s x words m x.dispatch_ticks)).state) same
      ∙ ap (λ (o : Outcome). (settle run.image (t + (m - 1)) k can.p job s o).state) (goes_within run.image s job words m job.dispatch_ticks some below)
      ∙ ap (λ (ws : List (List ℤ)). record (moved k (later m job job.dispatch_ticks) s) { owned = ws }) (set_owned s.owned k)

  -- the start events of a tick between change nothing
  begins : (m : ℕ) → 1 ≤ m → m < most → m < left run.image job → begun run.image run.script (t + m) ≡ moved k (later m job job.dispatch_ticks) (start run t)
  begins m some less below =
      let after : State = moved k (later m job job.dispatch_ticks) (start run t) in
      let calm : IsQuiet run.image run.script (t + m) after = quiet_same run.image run.script (t + m) (start run t) k (later m job job.dispatch_ticks) (quiet (t + m) (omega (arith, some)) (omega (arith, less))) in
      ap (λ (x : State). (starts run.image run.script (t + m) x).state) (stays m some (omega (arith, less)) below)
      ∙ ap (λ (x : Started). x.state) (quiet_starts_nothing run.image run.script (t + m) after calm)

  -- in a tick of the turn all stand alike
  alike_in_tick : (m : ℕ) → m < most → m < left run.image job → AreAlike run.image (start run t) (begun run.image run.script (t + m))
  alike_in_tick zero less below =
      let here : t + 0 ≡ t = omega arith in
      same_alike run.image (start run t) (begun run.image run.script (t + 0)) (ap (λ (u : ℕ). begun run.image run.script u) here)
  alike_in_tick (suc m) less below =
      subst (λ (x : State). AreAlike run.image (start run t) x) (sym (begins (suc m) (omega arith) less below))
      (moved_alike run.image (start run t) k job (later (suc m) job job.dispatch_ticks) ready (same_inside (suc m) job job.dispatch_ticks) (burns_later run.image job (suc m) job.dispatch_ticks refl below))

  -- what a tick of the turn completes
  in_tick : (m : ℕ) → m < most → m < left run.image job → completed_at run.image run.script (t + m) ≡ told k job (completes_within run.image (m + 1) job job.dispatch_ticks)
  in_tick zero less below =
      let here : t + 0 ≡ t = omega arith in
      ap (λ (u : ℕ). completed_at run.image run.script u) here
      ∙ ap (λ (o : Option ℕ). completed_picked run.image (start run t) o) is
      ∙ ap (λ (o : Option Thread). completed_by run.image k o) ready
      ∙ ap (λ (b : Bool). told k job b) (completes_now run.image job job.dispatch_ticks)
  in_tick (suc m) less below =
      let new : Job = later (suc m) job job.dispatch_ticks in
      let after : State = moved k new (start run t) in
      let picked : place_of (pick run.image after.threads) ≡ Some k = ap (λ (c : Option Candidate). place_of c) (pick_same run.image (start run t).threads k job new ready (same_inside (suc m) job job.dispatch_ticks)) ∙ is in
      let there : slice_get after.threads k ≡ Some (Ready new) = get_set (start run t).threads k (Ready new) (Ready job) ready in
      ap (λ (x : State). completed_in run.image x) (begins (suc m) (omega arith) less below)
      ∙ ap (λ (o : Option ℕ). completed_picked run.image after o) picked
      ∙ ap (λ (o : Option Thread). completed_by run.image k o) there
      ∙ ap (λ (n : ℕ). cond (completes run.image new new.dispatch_ticks) (Some (record { process = k; at = n })) None) (same_place (suc m) job job.dispatch_ticks)
      ∙ ap (λ (b : Bool). told k job b) (completes_later run.image job (suc m) job.dispatch_ticks refl below)

  -- the last tick completes what all at once do
  picked_last : (n : ℕ) → 1 ≤ n → n ≡ min most (left run.image job) → last_completed run.image run.script (t + n) ≡ told k job (completes_within run.image most job job.dispatch_ticks)
  picked_last n some same =
      let before : t + n ≡ suc (t + (n - 1)) = omega (arith, some) in
      let count : (n - 1) + 1 ≡ min most (left run.image job) = omega (arith, some, same) in
      ap (λ (u : ℕ). last_completed run.image run.script u) before
      ∙ in_tick (n - 1) (omega (arith, some, same)) (omega (arith, some, same))
      ∙ ap (λ (x : ℕ). told k job (completes_within run.image x job job.dispatch_ticks)) count
      ∙ ap (λ (b : Bool). told k job b) (all_within run.image job most job.dispatch_ticks)

  -- those before complete nothing
  picked_sole : (n : ℕ) → n ≡ min most (left run.image job) → NoneBetween run.image run.script t (t + n)
  picked_sole n same u low high =
      let m : ℕ = u - t - 1 in
      let before : u ≡ suc (t + m) = omega (arith, low) in
      let below : m + 1 < left run.image job = omega (arith, low, high, same) in
      ap (λ (x : ℕ). last_completed run.image run.script x) before
      ∙ in_tick m (omega (arith, low, high, same)) (omega (arith, below))
      ∙ ap (λ (b : Bool). told k job b) (none_yet run.image job (m + 1) job.dispatch_ticks below)

-- ---- nobody

module _ (run : Run) (safe : IsSafeRun run.image run.script) (t : ℕ) (none : place_of (pick run.image (start run t).threads) ≡ None) (most : ℕ) (quiet : AreQuiet run.image run.script t most (start run t)) where
  -- all stay as they are
  rests : (m : ℕ) → m < most → begun run.image run.script (t + m) ≡ start run t
  rests zero less = let here : t + 0 ≡ t = omega arith in ap (λ (u : ℕ). begun run.image run.script u) here
  rests (suc m) less =
      let s : State = start run t in
      let it : IsTurn run t (suc m) = idle_turn run t (suc m) s refl none (omega arith) (λ u low high. quiet u low (omega (arith, high, less))) in
      let there : state_at run.image run.script (t + suc m) ≡ s =
      (turn_stays_in_run run.image run.script safe.unstuck t (suc m) it).1 ∙ ap (λ (x : Ticked). x.state) (sym (turn_from run t (suc m) None s refl none)) in
      ap (λ (x : State). (starts run.image run.script (t + suc m) x).state) there
      ∙ ap (λ (x : Started). x.state) (quiet_starts_nothing run.image run.script (t + suc m) s (quiet (t + suc m) (omega arith) (omega (arith, less))))

  idles : (m : ℕ) → m < most → completed_at run.image run.script (t + m) ≡ None
  idles m less = ap (λ (x : State). completed_in run.image x) (rests m less) ∙ ap (λ (o : Option ℕ). completed_picked run.image (start run t) o) none

  idle_last : (n : ℕ) → 1 ≤ n → n ≤ most → last_completed run.image run.script (t + n) ≡ None
  idle_last n some less =
      let before : t + n ≡ suc (t + (n - 1)) = omega (arith, some) in
      ap (λ (u : ℕ). last_completed run.image run.script u) before ∙ idles (n - 1) (omega (arith, some, less))

-- ---- the turn

-- n ticks at once from tick t on, of so many in which nothing starts, end where the turn does
pub record IsWhole (run : Run) (t n most : ℕ) : Type 0 where
  pub safe : IsSafeRun run.image run.script
  pub quiet : AreQuiet run.image run.script t most (begun run.image run.script t)
  pub some : 1 ≤ n
  pub within : n ≤ most
  pub lasts : n ≡ lasts_picked run.image (begun run.image run.script t) most (place_of (pick run.image (begun run.image run.script t).threads))

pub is_whole : (run : Run) (t n most done : ℕ) (slots : List (Option ℕ)) → IsSafeRun run.image run.script → HasSlots run.image run.script t done (begun run.image run.script t) slots → NoneBefore (t + most) slots → 1 ≤ n → n ≤ most → n ≡ lasts run.image (begun run.image run.script t) most → IsWhole run t n most
is_whole run t n most done slots safe has clear some within lasts_so = record {
  safe = safe;
  quiet = slots_are_quiet run.image run.script t most done (begun run.image run.script t) slots has clear;
  some = some;
  within = within;
  lasts = lasts_so;
}

pub turn_completes : (run : Run) (t n most : ℕ) → IsWhole run t n most → last_completed run.image run.script (t + n) ≡ completed_within_picked run.image most (begun run.image run.script t) (place_of (pick run.image (begun run.image run.script t).threads))
turn_completes run t n most whole = by (place_of (pick run.image (start run t).threads)) refl whole.lasts where
  by : (who : Option ℕ) → place_of (pick run.image (start run t).threads) ≡ who → n ≡ lasts_picked run.image (start run t) most who → last_completed run.image run.script (t + n) ≡ completed_within_picked run.image most (start run t) who
  by None none same = idle_last run whole.safe t none most whole.quiet n whole.some whole.within
  by (Some k) is same =
      let r : IsReady run.image (start run t) k = is_ready run.image (start run t) k is in
      picked_last run whole.safe t k r.job is r.ready most whole.quiet n whole.some (same ∙ ap (λ (o : Option Thread). lasts_thread run.image most o) r.ready)
      ∙ sym (ap (λ (o : Option Thread). completed_within_by run.image most k o) r.ready)

pub turn_completes_alone : (run : Run) (t n most : ℕ) → IsWhole run t n most → NoneBetween run.image run.script t (t + n)
turn_completes_alone run t n most whole = by (place_of (pick run.image (start run t).threads)) refl whole.lasts where
  by : (who : Option ℕ) → place_of (pick run.image (start run t).threads) ≡ who → n ≡ lasts_picked run.image (start run t) most who → NoneBetween run.image run.script t (t + n)
  by None none same = λ u low high. (let within = whole.within in let m : ℕ = u - t in let here : u ≡ t + m = omega (arith, low) in
      ap (λ (x : ℕ). last_completed run.image run.script x) here ∙ idle_last run whole.safe t none most whole.quiet m (omega (arith, low)) (omega (arith, high, within, low)))
  by (Some k) is same =
      let r : IsReady run.image (start run t) k = is_ready run.image (start run t) k is in
      picked_sole run whole.safe t k r.job is r.ready most whole.quiet n (same ∙ ap (λ (o : Option Thread). lasts_thread run.image most o) r.ready)

pub turn_stays_alike : (run : Run) (t n most : ℕ) → IsWhole run t n most → StayAlike run.image run.script t (t + n)
turn_stays_alike run t n most whole = by (place_of (pick run.image (start run t).threads)) refl whole.lasts where
  by : (who : Option ℕ) → place_of (pick run.image (start run t).threads) ≡ who → n ≡ lasts_picked run.image (start run t) most who → StayAlike run.image run.script t (t + n)
  by None none same = λ v low high. (
      let within = whole.within in
      let m : ℕ = v - t in
      let here : v ≡ t + m = omega (arith, low) in
      same_alike run.image (start run t) (begun run.image run.script v) (ap (λ (x : ℕ). begun run.image run.script x) here ∙ rests run whole.safe t none most whole.quiet m (omega (arith, high, within, low))))
  by (Some k) is same = λ v low high. (
      let within = whole.within in
      let r : IsReady run.image (start run t) k = is_ready run.image (start run t) k is in
      let n_is : n ≡ min most (left run.image r.job) = same ∙ ap (λ (o : Option Thread). lasts_thread run.image most o) r.ready in
      let m : ℕ = v - t in
      let here : t + m ≡ v = omega (arith, low) in
      subst (λ (x : ℕ). AreAlike run.image (start run t) (begun run.image run.script x)) here
      (alike_in_tick run whole.safe t k r.job is r.ready most whole.quiet m (omega (arith, high, low, within)) (omega (arith, high, low, n_is))))
