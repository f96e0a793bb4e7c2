-- A turn of the process that is picked, by ranks.
use Rattle.std.proofs.Common.{◌≡◌, ◌≤◌, ◌<◌, ◌+◌, ◌-◌, ◌++◌, ℕ, false, List, [], Option, Some, None, length, arith, refl, ap, sym, subst, ◌∙◌}
use Rattle.std.specs.Prelude.{slice_get}
use Rattle.std.proofs.lemmas.List.{append-nil}
use Rattle.std.proofs.lemmas.Option.{slice_get_within}
use Rattle.base.specs.declared.event.Event.{Event}
use Rattle.machine_semantics.specs.Image.{Image, Process, Script}
use Rattle.machine_semantics.specs.State.{Job, Thread, Ready, State}
use Rattle.machine_semantics.specs.Tick.{Ticked, owned_of, pick, settle}
use Rattle.machine_semantics.specs.Run.{events_from, state_at}
use Rattle.vm_stretch.specs.Stretch.{FitsIn, FitsThread, left, outcomes, pass, pass_thread, place_of}
use Rattle.vm_stretch.specs.StretchDue.{time_out_of}
use Rattle.vm_stretch.specs.StretchLaws.{IsTurnOfRun, turn, turn_events, turned}
use Rattle.vm_stretch.specs.Quiet.{AreQuiet}
use Rattle.vm_stretch.specs.RowLaws.{IsSafeRun, begun}
use Rattle.vm_stretch.proofs.Runs.{turn_keeps_events, turn_stays_in_run}
use Rattle.vm_turn.specs.Settled.{CanPass}
use Rattle.vm_turn.proofs.Safely.{Found, picked, turn_can_pass}
use Rattle.vm_runner.specs.Turn.{Run}
use Rattle.vm_runner.specs.Waits.{WaitsFrom, is_some_at_queue}
use Rattle.vm_runner.proofs.Waiting.{settle_alone, settle_from, settle_same}

-- the turn of n ticks from tick t on in the run, after the start events of t
abbrev pub turn_of : Run → ℕ → ℕ → Ticked
turn_of run t n = turn run.image run.script t n (state_at run.image run.script t)

-- it may be taken at once
abbrev pub IsTurn : Run → ℕ → ℕ → Type 0
IsTurn run t n = IsTurnOfRun run.image run.script t n

-- ---- who is picked, and how long

-- the process that is picked is there, and ready
pub record IsReady (image : Image) (s : State) (k : ℕ) : Type 0 where
  pub job : Job
  pub ready : slice_get s.threads k ≡ Some (Ready job)
  pub below : k < length s.threads

pub is_ready : (image : Image) (s : State) (k : ℕ) → place_of (pick image s.threads) ≡ Some k → IsReady image s k
is_ready image s k is =
    let f : Found image.processes s.threads 0 k = picked image s.threads k is in
    let same : f.i ≡ k = omega (arith, f.place_is) in
    let ready : slice_get s.threads k ≡ Some (Ready f.job) = subst (λ (m : ℕ). slice_get s.threads m ≡ Some (Ready f.job)) same f.ready in
    record { job = f.job; ready = ready; below = slice_get_within s.threads k (Ready f.job) ready }

pub fits_in : (image : Image) (n k : ℕ) (s : State) (job : Job) → slice_get s.threads k ≡ Some (Ready job) → n ≤ left image job → FitsIn image n s (Some k)
fits_in image n k s job ready fits = subst (λ (x : Option Thread). FitsThread image n x) (sym ready) fits

-- ---- the turn

pub turn_is : (run : Run) (t n : ℕ) (who : Option ℕ) → place_of (pick run.image (begun run.image run.script t).threads) ≡ who → turn_of run t n ≡ pass run.image t n (begun run.image run.script t) who
turn_is run t n who is = ap (λ (c : Option ℕ). pass run.image t n (begun run.image run.script t) c) is

pub may_turn : (run : Run) (t n : ℕ) (who : Option ℕ) → place_of (pick run.image (begun run.image run.script t).threads) ≡ who → 1 ≤ n → FitsIn run.image n (begun run.image run.script t) who → AreQuiet run.image run.script t n (begun run.image run.script t) → IsTurn run t n
may_turn run t n who is some fits quiet = record {
  some = some;
  fits = subst (λ (c : Option ℕ). FitsIn run.image n (begun run.image run.script t) c) (sym is) fits;
  quiet = quiet;
}

-- the turn of process k
pub settled : (run : Run) (t n k : ℕ) (can : CanPass run.image n k (begun run.image run.script t)) → place_of (pick run.image (begun run.image run.script t).threads) ≡ Some k
    → turn_of run t n ≡ settle run.image (t + (n - 1)) k can.p can.job (begun run.image run.script t) (outcomes run.image (begun run.image run.script t) can.job (owned_of (slice_get (begun run.image run.script t).owned k)) n can.job.dispatch_ticks)
settled run t n k can is =
    let s : State = begun run.image run.script t in
    turn_is run t n (Some k) is
    ∙ ap (λ (x : Option Process). pass_thread run.image t n k s x (slice_get s.threads k)) can.process
    ∙ ap (λ (x : Option Thread). pass_thread run.image t n k s (Some can.p) x) can.ready

-- what the turn of process k leaves of the waits, and of the others
pub record KeepsWaits (run : Run) (t n k : ℕ) : Type 0 where
  pub later : WaitsFrom (t + n) (begun run.image run.script t).threads (turn_of run t n).state.threads
  pub same : is_some_at_queue (turn_of run t n).events ≡ false → (j : ℕ) → time_out_of (slice_get (turn_of run t n).state.threads j) ≡ time_out_of (slice_get (begun run.image run.script t).threads j)
  pub alone : is_some_at_queue (turn_of run t n).events ≡ false → (j : ℕ) → (k ≡ j → ⊥) → slice_get (turn_of run t n).state.threads j ≡ slice_get (begun run.image run.script t).threads j

pub keeps_waits : (run : Run) (t n k : ℕ) → IsSafeRun run.image run.script → IsTurn run t n → place_of (pick run.image (begun run.image run.script t).threads) ≡ Some k → KeepsWaits run t n k
keeps_waits run t n k safe it is =
    let s : State = begun run.image run.script t in
    let can : CanPass run.image n k s = turn_can_pass run.image run.script t n k safe it is in
    let out = outcomes run.image s can.job (owned_of (slice_get s.owned k)) n can.job.dispatch_ticks in
    let all = settled run t n k can is in
    let last : t + n ≤ (t + (n - 1)) + 1 = (let some = it.some in omega (arith, some)) in
    record {
      later = subst (λ (x : Ticked). WaitsFrom (t + n) s.threads x.state.threads) (sym all) (settle_from run.image (t + (n - 1)) k can.p can.job s out (t + n) last);
      same = λ quiet j.
          ap (λ (x : Ticked). time_out_of (slice_get x.state.threads j)) all
          ∙ settle_same run.image (t + (n - 1)) k can.p can.job s out j (sym (ap (λ (x : Ticked). is_some_at_queue x.events) all) ∙ quiet) can.ready;
      alone = λ quiet j apart.
          ap (λ (x : Ticked). slice_get x.state.threads j) all
          ∙ settle_alone run.image (t + (n - 1)) k can.p can.job s out j (sym (ap (λ (x : Ticked). is_some_at_queue x.events) all) ∙ quiet) apart;
    }

pub picked_at : (run : Run) (t : ℕ) (who : Option ℕ) (s : State) → s ≡ begun run.image run.script t → place_of (pick run.image s.threads) ≡ who → place_of (pick run.image (begun run.image run.script t).threads) ≡ who
picked_at run t who s is at = sym (ap (λ (x : State). place_of (pick run.image x.threads)) is) ∙ at

-- the process that is picked has a turn of as many ticks as are left of what it is at, while nothing starts
pub picked_turn : (run : Run) (t n most k : ℕ) (s : State) → s ≡ begun run.image run.script t → place_of (pick run.image s.threads) ≡ Some k → 1 ≤ n → n ≤ most → FitsIn run.image n s (Some k) → AreQuiet run.image run.script t most s → IsTurn run t n
picked_turn run t n most k s is who some within fits quiet =
    may_turn run t n (Some k) (picked_at run t (Some k) s is who) some (subst (λ (x : State). FitsIn run.image n x (Some k)) is fits)
    (subst (λ (x : State). AreQuiet run.image run.script t n x) is (λ u low high. quiet u low (omega (arith, high, within))))

-- where none is picked, ticks in which nothing starts are a turn
pub idle_turn : (run : Run) (t n : ℕ) (s : State) → s ≡ begun run.image run.script t → place_of (pick run.image s.threads) ≡ None → 1 ≤ n → AreQuiet run.image run.script t n s → IsTurn run t n
idle_turn run t n s is who some quiet = may_turn run t n None (picked_at run t None s is who) some tt (subst (λ (x : State). AreQuiet run.image run.script t n x) is quiet)

-- what it comes to
pub turn_from : (run : Run) (t n : ℕ) (who : Option ℕ) (s : State) → s ≡ begun run.image run.script t → place_of (pick run.image s.threads) ≡ who → pass run.image t n s who ≡ turn_of run t n
turn_from run t n who s is at = ap (λ (x : State). pass run.image t n x who) is ∙ sym (turn_is run t n who (picked_at run t who s is at))

-- ---- its events

pub none_from : (image : Image) (script : Script) (t : ℕ) (s : State) → events_from image script 0 t s ≡ []
unfolding events_from
none_from image script t s = refl

-- the events of a turn and no more
pub turn_alone : (image : Image) (script : Script) (t n : ℕ) → IsSafeRun image script → IsTurnOfRun image script t n → events_from image script n t (state_at image script t) ≡ turn_events image script t n (state_at image script t)
turn_alone image script t n safe it =
    let at : State = state_at image script t in
    let free = (turn_stays_in_run image script safe.unstuck t n it).0 in
    let count : n ≡ n + 0 = omega arith in
    ap (λ (k : ℕ). events_from image script k t at) count
    ∙ turn_keeps_events image script t n 0 at it free
    ∙ ap (λ (xs : List Event). turn_events image script t n at ++ xs) (none_from image script (t + n) (turned image script t n at))
    ∙ append-nil (turn_events image script t n at)
