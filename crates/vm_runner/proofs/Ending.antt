-- Where a turn ends.
use Rattle.std.proofs.Common.{◌≡◌, ◌≤◌, ◌<◌, ◌+◌, ◌-◌, ◌*◌, ◌⊎◌, inl, inr, ℕ, zero, suc, true, false, List, Option, Some, None, length, drop, arith, refl, ap, sym, subst, ◌∙◌}
use Rattle.std.specs.Prelude.{ℤ, slice_get, nat_lt, min}
use Rattle.std.proofs.lemmas.Bool.{cases_lt}
use Rattle.std.proofs.lemmas.Bool.Decides.{nat_tests}
use Rattle.std.proofs.lemmas.Option.{slice_get_within}
use Rattle.base.proofs.Lists.{some_at}
use Rattle.vm_stretch.specs.Due.{least}
use Rattle.machine_isa.specs.declared.instr.Instr.{Instr}
use Rattle.machine_isa.specs.Ticks.{ticks}
use Rattle.machine_semantics.specs.Image.{Image, Process, Script}
use Rattle.machine_semantics.specs.State.{Job, Thread, Ready, State}
use Rattle.machine_semantics.specs.Starts.{is_periodic_due}
use Rattle.machine_semantics.specs.Tick.{Ticked, owned_of, pick, settle}
use Rattle.machine_semantics.specs.Run.{state_at}
use Rattle.vm_stretch.specs.Stretch.{left, left_at, left_of, outcome_at_once, outcomes, place_of}
use Rattle.vm_stretch.specs.StretchDue.{HasSlots, NoneBefore, first_tick, time_out_of}
use Rattle.vm_stretch.specs.Quiet.{AreQuiet, IsQuiet}
use Rattle.vm_stretch.specs.RowLaws.{IsSafeRun, begun}
use Rattle.vm_stretch.proofs.Jumping.{slots_are_quiet}
use Rattle.vm_stretch.proofs.Runs.{turn_stays_in_run}
use Rattle.vm_releases.proofs.Least.{least_there}
use Rattle.vm_turn.specs.Settled.{CanPass}
use Rattle.vm_turn.proofs.Safely.{turn_can_pass}
use Rattle.vm_runner.specs.Turn.{Run}
use Rattle.vm_runner.specs.Waits.{is_some_at_queue}
use Rattle.vm_runner.specs.Ends.{EndsAt, IsDone, IsTurnEnd, lasts, lasts_picked, lasts_thread}
use Rattle.vm_runner.proofs.Due.{first_there}
use Rattle.vm_runner.proofs.Passing.{IsReady, IsTurn, fits_in, idle_turn, is_ready, keeps_waits, picked_turn, settled, turn_from, turn_of}
use Rattle.vm_runner.proofs.Waiting.{is_waiting}

-- ---- ticks before the last of what the process is at

-- they have no event
none_at_once : (image : Image) (t k : ℕ) (p : Process) (job : Job) (s : State) (words : List ℤ) (m : ℕ) (o : Option Instr) → m < left_at job.done o → is_some_at_queue (settle image t k p job s (outcome_at_once image s job words m o)).events ≡ false
none_at_once image t k p job s words m None below = refl
none_at_once image t k p job s words m (Some instr) below =
    let test : nat_lt (job.done + m) (ticks instr) ≡ true = (let low : job.done + m < ticks instr = omega (arith, below) in grind (arith, nat_tests, low)) in
    rw test refl

none_yet : (image : Image) (t k : ℕ) (p : Process) (job : Job) (s : State) (words : List ℤ) (m : ℕ) → m < left image job → is_some_at_queue (settle image t k p job s (outcomes image s job words m job.dispatch_ticks)).events ≡ false
none_yet image t k p job s words m below = by job.dispatch_ticks below where
  by : (b : ℕ) → m < left_of b job.done (slice_get image.code job.place) → is_some_at_queue (settle image t k p job s (outcomes image s job words m b)).events ≡ false
  by (suc b) low = refl
  by zero low = none_at_once image t k p job s words m (slice_get image.code job.place) low

-- each wait times out in them as after the start events
pub same_within : (run : Run) (t m k : ℕ) (job : Job) → IsSafeRun run.image run.script → IsTurn run t m → place_of (pick run.image (begun run.image run.script t).threads) ≡ Some k → slice_get (begun run.image run.script t).threads k ≡ Some (Ready job) → m < left run.image job
    → (j : ℕ) → time_out_of (slice_get (state_at run.image run.script (t + m)).threads j) ≡ time_out_of (slice_get (begun run.image run.script t).threads j)
same_within run t m k job safe it is ready below j =
    let s : State = begun run.image run.script t in
    let can : CanPass run.image m k s = turn_can_pass run.image run.script t m k safe it is in
    let both : Some (Ready can.job) ≡ Some (Ready job) = sym can.ready ∙ ready in
    let same : can.job ≡ job = cc in
    let low : m < left run.image can.job = subst (λ (x : Job). m < left run.image x) (sym same) below in
    let quiet : is_some_at_queue (turn_of run t m).events ≡ false =
    ap (λ (x : Ticked). is_some_at_queue x.events) (settled run t m k can is) ∙ none_yet run.image (t + (m - 1)) k can.p can.job s (owned_of (slice_get s.owned k)) m low in
    ap (λ (x : State). time_out_of (slice_get x.threads j)) (turn_stays_in_run run.image run.script safe.unstuck t m it).1
    ∙ (keeps_waits run t m k safe it is).same quiet j

same_idle : (run : Run) (t m : ℕ) → IsSafeRun run.image run.script → IsTurn run t m → place_of (pick run.image (begun run.image run.script t).threads) ≡ None
    → (j : ℕ) → time_out_of (slice_get (state_at run.image run.script (t + m)).threads j) ≡ time_out_of (slice_get (begun run.image run.script t).threads j)
same_idle run t m safe it none j =
    ap (λ (x : State). time_out_of (slice_get x.threads j)) ((turn_stays_in_run run.image run.script safe.unstuck t m it).1 ∙ ap (λ (x : Ticked). x.state) (sym (turn_from run t m None (begun run.image run.script t) refl none)))

-- ---- what is due

-- waits time out alike in two states
abbrev WaitAlike : State → State → Type 0
WaitAlike s s' = (j : ℕ) → time_out_of (slice_get s'.threads j) ≡ time_out_of (slice_get s.threads j)

-- a tick that is quiet in the one is quiet in the other
quiet_alike : (image : Image) (script : Script) (v : ℕ) (s s' : State) → WaitAlike s s' → IsQuiet image script v s → IsQuiet image script v s'
quiet_alike image script v s s' alike quiet = record {
  lines = quiet.lines;
  releases = quiet.releases;
  waits = λ k c e job at.
      let w = is_waiting (slice_get s.threads k) v (sym (alike k) ∙ ap (λ (o : Option Thread). time_out_of o) at) in
      quiet.waits k w.0 w.1.0 w.1.1.0 w.1.1.1;
}

-- the least of the slots is not quiet
least_is_due : (image : Image) (script : Script) (t done v : ℕ) (s s' : State) (slots : List (Option ℕ)) → HasSlots image script t done s slots → WaitAlike s s' → least slots ≡ Some v → IsQuiet image script v s' → ⊥
least_is_due image script t done v s s' slots has alike is quiet =
    let n : ℕ = length image.processes in
    let there = least_there slots v is in
    let i : ℕ = there.0 in
    let within : i < 2 * n + 1 = (let w = slice_get_within slots i (Some v) there.1 in omega (arith, w, has.count)) in
    elim (cases_lt i n) [
      | inl release ↦
          let p = some_at image.processes i release in
          let due : is_periodic_due v p.0 ≡ true = (has.releases i p.0 (Some v) p.1 there.1).0 in
          absurd (let both : true ≡ false = sym due ∙ quiet.releases i p.0 p.1 in cc)
      | inr above ↦ elim (cases_lt i (2 * n)) [
        | inl wait ↦
            let k : ℕ = i - n in
            let here : i ≡ n + k = omega (arith, above) in
            let below : k < n = omega (arith, wait, above) in
            let slot : slice_get slots (n + k) ≡ Some (Some v) = subst (λ (x : ℕ). slice_get slots x ≡ Some (Some v)) here there.1 in
            let w = is_waiting (slice_get s'.threads k) v (alike k ∙ sym (has.waits k (Some v) below slot)) in
            quiet.waits k w.0 w.1.0 w.1.1.0 w.1.1.1
        | inr line ↦
            let here : i ≡ 2 * n = omega (arith, within, line) in
            let slot : slice_get slots (2 * n) ≡ Some (Some v) = subst (λ (x : ℕ). slice_get slots x ≡ Some (Some v)) here there.1 in
            let both : Some (first_tick (drop done script.lines)) ≡ Some (Some v) = sym has.line ∙ slot in
            let first = first_there script.lines done v (let e : first_tick (drop done script.lines) ≡ Some v = cc in e) in
            quiet.lines done first.0 first.1.0 first.1.1
      ]
    ]

-- ---- the end

-- n ticks, of which none is due, lead to a tick that is due or the limit, or to the end of what the picked process is at
pub record GoesOn (run : Run) (limit t most n : ℕ) (done : ℕ) (slots : List (Option ℕ)) : Type 0 where
  pub safe : IsSafeRun run.image run.script
  pub has : HasSlots run.image run.script t done (begun run.image run.script t) slots
  pub clear : NoneBefore (t + most) slots
  pub reach : (t + most ≡ limit) ⊎ (least slots ≡ Some (t + most))
  pub within : t + most ≤ limit
  pub some : 1 ≤ n
  pub n_most : n ≤ most

abbrev quiet_to : (run : Run) (limit t most n done : ℕ) (slots : List (Option ℕ)) → GoesOn run limit t most n done slots → AreQuiet run.image run.script t most (begun run.image run.script t)
quiet_to run limit t most n done slots g = slots_are_quiet run.image run.script t most done (begun run.image run.script t) slots g.has g.clear

-- a tick between is neither the limit nor due
between : (run : Run) (limit t most n done : ℕ) (slots : List (Option ℕ)) (g : GoesOn run limit t most n done slots) (v : ℕ) → t < v → v < t + n → WaitAlike (begun run.image run.script t) (state_at run.image run.script v)
    → (IsDone run.image run.script t v → ⊥) → EndsAt run.image run.script limit t v → ⊥
between run limit t most n done slots g v low high alike not_done ends = elim ends [
  | inl limited ↦ (let within = g.within in let less = g.n_most in absurd (omega (arith, limited, within, less, high)))
  | inr rest ↦ elim rest [
    | inl due ↦ due (quiet_alike run.image run.script v (begun run.image run.script t) (state_at run.image run.script v) alike (quiet_to run limit t most n done slots g v low (let less = g.n_most in omega (arith, less, high))))
    | inr is_done ↦ not_done is_done
  ]
]

-- where all the clear ticks pass, the end is the limit, or something is due at it
all_pass : (run : Run) (limit t most n done : ℕ) (slots : List (Option ℕ)) (g : GoesOn run limit t most n done slots) → n ≡ most → WaitAlike (begun run.image run.script t) (state_at run.image run.script (t + n)) → EndsAt run.image run.script limit t (t + n)
all_pass run limit t most n done slots g same alike = elim g.reach [
  | inl limited ↦ inl (omega (arith, limited, same))
  | inr due ↦ inr (inl (λ quiet. least_is_due run.image run.script t done (t + n) (begun run.image run.script t) (state_at run.image run.script (t + n)) slots g.has alike (due ∙ (let e : t + most ≡ t + n = omega (arith, same) in ap (λ (x : ℕ). Some x) e)) quiet))
]

-- the end of a turn in which nobody runs
idle_end : (run : Run) (limit t most n done : ℕ) (slots : List (Option ℕ)) (g : GoesOn run limit t most n done slots) → place_of (pick run.image (begun run.image run.script t).threads) ≡ None → n ≡ most → IsTurnEnd run.image run.script limit t (t + n)
idle_end run limit t most n done slots g none same =
    let s : State = begun run.image run.script t in
    let quiet = quiet_to run limit t most n done slots g in
    let alike : (m : ℕ) → 1 ≤ m → m ≤ most → WaitAlike s (state_at run.image run.script (t + m)) = λ m some less j.
    same_idle run t m g.safe (idle_turn run t m s refl none some (λ u low high. quiet u low (omega (arith, high, less)))) none j in
    record {
      after = (let some = g.some in omega (arith, some));
      ends = all_pass run limit t most n done slots g same (alike n g.some g.n_most);
      least = λ v low high.
          let m : ℕ = v - t in
          let there : v ≡ t + m = omega (arith, low) in
          between run limit t most n done slots g v low high
          (subst (λ (x : ℕ). WaitAlike s (state_at run.image run.script x)) (sym there) (alike m (omega (arith, low)) (let less = g.n_most in omega (arith, high, less, low))))
          (λ is_done. absurd (let both : None ≡ Some is_done.k = sym none ∙ is_done.picked in cc));
    }

-- the end of a turn of the process that is picked
picked_end : (run : Run) (limit t most n done : ℕ) (slots : List (Option ℕ)) (g : GoesOn run limit t most n done slots) (k : ℕ) (job : Job) → place_of (pick run.image (begun run.image run.script t).threads) ≡ Some k
    → slice_get (begun run.image run.script t).threads k ≡ Some (Ready job) → n ≡ min most (left run.image job) → IsTurnEnd run.image run.script limit t (t + n)
picked_end run limit t most n done slots g k job is ready same =
    let s : State = begun run.image run.script t in
    let quiet = quiet_to run limit t most n done slots g in
    let alike : (m : ℕ) → 1 ≤ m → m ≤ most → m < left run.image job → WaitAlike s (state_at run.image run.script (t + m)) = λ m some less below j.
    same_within run t m k job g.safe (picked_turn run t m most k s refl is some less (fits_in run.image m k s job ready (omega (arith, below))) quiet) is ready below j in
    record {
      after = (let some = g.some in omega (arith, some));
      ends = elim (cases_lt n (left run.image job)) [
        | inl early ↦ all_pass run limit t most n done slots g (omega (arith, same, early)) (alike n g.some g.n_most early)
        | inr whole ↦ inr (inr (record { k = k; job = job; picked = is; ready = ready; last = omega (arith, same, whole) }))
      ];
      least = λ v low high.
          let m : ℕ = v - t in
          let there : v ≡ t + m = omega (arith, low) in
          let short : m < left run.image job = omega (arith, low, high, same) in
          between run limit t most n done slots g v low high
          (subst (λ (x : ℕ). WaitAlike s (state_at run.image run.script x)) (sym there) (alike m (omega (arith, low)) (let less = g.n_most in omega (arith, high, less, low)) short))
          (λ is_done.
          let both : Some k ≡ Some is_done.k = sym is ∙ is_done.picked in
          let same_k : k ≡ is_done.k = cc in
          let jobs : Some (Ready job) ≡ Some (Ready is_done.job) = sym ready ∙ subst (λ (x : ℕ). slice_get s.threads x ≡ Some (Ready is_done.job)) (sym same_k) is_done.ready in
          let same_job : job ≡ is_done.job = cc in
          let last : t + left run.image job ≡ v = ap (λ (x : Job). t + left run.image x) same_job ∙ is_done.last in
          absurd (omega (arith, last, short, there)));
    }

-- the end of a turn
pub turn_end : (run : Run) (limit t most n done : ℕ) (slots : List (Option ℕ)) → GoesOn run limit t most n done slots → n ≡ lasts run.image (begun run.image run.script t) most → IsTurnEnd run.image run.script limit t (t + n)
turn_end run limit t most n done slots g is = by (place_of (pick run.image (begun run.image run.script t).threads)) refl is where
  s : State
  s = begun run.image run.script t

  by : (who : Option ℕ) → place_of (pick run.image s.threads) ≡ who → n ≡ lasts_picked run.image s most who → IsTurnEnd run.image run.script limit t (t + n)
  by None none same = idle_end run limit t most n done slots g none same
  by (Some k) at same =
      let r : IsReady run.image s k = is_ready run.image s k at in
      picked_end run limit t most n done slots g k r.job at r.ready (same ∙ ap (λ (o : Option Thread). lasts_thread run.image most o) r.ready)
