-- A process that is idle before a tick: it stays idle, or it is released.
use Rattle.std.proofs.Common.{◌≡◌, ◌*◌, ◌⊎◌, inl, inr, ℕ, Option, Some, None, arith, ap, sym, subst, ◌∙◌, true, false, Bool}
use Rattle.std.specs.Prelude.{ℤ, slice_get, slice_set, cond, nat_eq}
use Rattle.std.proofs.lemmas.Bool.{cases_eq}
use Rattle.base.proofs.Lists.{get_other}
use Rattle.base.specs.declared.event.Act.TheVariants as act
use Rattle.machine_semantics.specs.Image.{Image, Process, Script}
use Rattle.machine_semantics.specs.State.{Thread, Idle, Ready, Waiting, State}
use Rattle.machine_semantics.specs.Starts.{unchanged, told, released, release, release_thread, time_out, raised, without, queue_of, starts}
use Rattle.machine_semantics.specs.Tick.{Candidate, least, pick, run_picked, tick}
use Rattle.machine_semantics.specs.Walk.{Where}
use Rattle.machine_semantics.specs.Safe.{Parts, ImageFits}
use Rattle.machine_semantics.specs.Whole.{StateFits}
use Rattle.machine_semantics.specs.Work.{Owes, IsBusy, worst_of, activation, WorkBegins}
use Rattle.machine_semantics.specs.Waits.{Suspends, SuspensionBegins}
use Rattle.machine_safety.proofs.Picked.{ChosenOf, chosen}
use Rattle.machine_safety.proofs.Starting.{starts_pass, release_keeps, time_out_keeps, device_keeps}
use Rattle.machine_safety.proofs.Working.{release_owes}
use Rattle.machine_safety.proofs.Working as work
use Rattle.machine_safety.proofs.Suspending.{Left, IsWoken, run_left, starts_not_due, release_suspends}
use Rattle.machine_safety.proofs.Suspending as wait

-- ---- an idle process

-- it is idle until its release
time_out_idle : (image : Image) (t j k : ℕ) (p : Process) (s : State) → slice_get s.threads k ≡ Some Idle → slice_get (time_out image t j p s (slice_get s.threads j)).state.threads k ≡ Some Idle
time_out_idle image t j k p s idle = elim (cases_eq j k) [ inl same ↦ at_k same | inr differ ↦ past_k differ (slice_get s.threads j) ] where
  at_k : j ≡ k → slice_get (time_out image t j p s (slice_get s.threads j)).state.threads k ≡ Some Idle
  at_k same = subst (λ (x : Option Thread). slice_get (time_out image t j p s x).state.threads k ≡ Some Idle) (sym (ap (λ (x : ℕ). slice_get s.threads x) same ∙ idle)) idle

  past_k : (j ≡ k → ⊥) → (x : Option Thread) → slice_get (time_out image t j p s x).state.threads k ≡ Some Idle
  past_k differ None = idle
  past_k differ (Some Idle) = idle
  past_k differ (Some (Ready job)) = idle
  past_k differ (Some (Waiting c due number job)) = by_due (nat_eq due t) where
    new : Thread
    new = Ready (record (raised p number job) { dispatch_ticks = 2 * image.over })

    by_due : (d : Bool) → slice_get (cond d (told t j (act.TimeOut c number) (record s { queues = slice_set s.queues c (without j (queue_of s.queues c)) }) new) (unchanged s)).state.threads k ≡ Some Idle
    by_due false = idle
    by_due true = get_other s.threads j k new differ ∙ idle

release_idle : (image : Image) (t j k : ℕ) (p : Process) (s : State) → (j ≡ k → ⊥) → slice_get s.threads k ≡ Some Idle → slice_get (release image t j p s).state.threads k ≡ Some Idle
release_idle image t j k p s differ idle = by (slice_get s.threads j) where
  by : (x : Option Thread) → slice_get (release_thread image t j p s x).state.threads k ≡ Some Idle
  by None = idle
  by (Some Idle) = get_other s.threads j k (Ready (released image p)) differ ∙ idle
  by (Some (Ready job)) = idle
  by (Some (Waiting c due number job)) = idle

module _ (e : Where) (ps : ℕ → Parts) (image_fits : ImageFits e ps) (k : ℕ) (B : State → Type 0)
    (on_release : (t j : ℕ) (p : Process) (s : State) → B s → slice_get e.image.processes j ≡ Some p → B (release e.image t j p s).state)
    (on_time_out : (t j : ℕ) (p : Process) (s : State) → B s → slice_get e.image.processes j ≡ Some p → B (time_out e.image t j p s (slice_get s.threads j)).state)
    (on_device : (d : ℕ) (v : ℤ) (s : State) → B s → B (record s { devices = slice_set s.devices d v }))
    (released_so : (t : ℕ) (p : Process) (s : State) → StateFits e ps s → slice_get e.image.processes k ≡ Some p → slice_get s.threads k ≡ Some Idle → B (release e.image t k p s).state) where
  -- it is still idle, or it is not and this holds
  abbrev Begun : State → Type 0
  Begun s = StateFits e ps s × ((slice_get s.threads k ≡ Some Idle) ⊎ B s)

  begun_release : (t j : ℕ) (p : Process) (s : State) → Begun s → slice_get e.image.processes j ≡ Some p → Begun (release e.image t j p s).state
  begun_release t j p s (fits, inl idle) process = (
    release_keeps e ps image_fits t j p s fits process,
    elim (cases_eq j k) [
      | inl same ↦ inr (subst (λ (x : ℕ). B (release e.image t x p s).state) (sym same) (released_so t p s fits (ap (λ (x : ℕ). slice_get e.image.processes x) (sym same) ∙ process) idle))
      | inr differ ↦ inl (release_idle e.image t j k p s differ idle)
    ],
  )
  begun_release t j p s (fits, inr busy) process = (release_keeps e ps image_fits t j p s fits process, inr (on_release t j p s busy process))

  begun_time_out : (t j : ℕ) (p : Process) (s : State) → Begun s → slice_get e.image.processes j ≡ Some p → Begun (time_out e.image t j p s (slice_get s.threads j)).state
  begun_time_out t j p s (fits, inl idle) process = (time_out_keeps e ps image_fits t j p s fits process, inl (time_out_idle e.image t j k p s idle))
  begun_time_out t j p s (fits, inr busy) process = (time_out_keeps e ps image_fits t j p s fits process, inr (on_time_out t j p s busy process))

  begun_device : (d : ℕ) (v : ℤ) (s : State) → Begun s → Begun (record s { devices = slice_set s.devices d v })
  begun_device d v s (fits, inl idle) = (device_keeps e ps image_fits d v s fits, inl idle)
  begun_device d v s (fits, inr busy) = (device_keeps e ps image_fits d v s fits, inr (on_device d v s busy))

  pub begins_pass : (script : Script) (t : ℕ) (s : State) → StateFits e ps s → slice_get s.threads k ≡ Some Idle → (slice_get (starts e.image script t s).state.threads k ≡ Some Idle) ⊎ B (starts e.image script t s).state
  begins_pass script t s fits idle = (starts_pass e Begun begun_release begun_time_out begun_device script t s (fits, inl idle)).1

-- who is idle after the start events is idle after the tick
still_idle : (image : Image) (t : ℕ) (s : State) (k : ℕ) → slice_get s.threads k ≡ Some Idle → (x : Option Candidate) → ChosenOf image 0 image.processes s.threads x → slice_get (run_picked image t s x).state.threads k ≡ Some Idle
still_idle image t s k idle None none = idle
still_idle image t s k idle (Some c) ch = elim (cases_eq c.place k) [
  | inl same ↦ absurd (let index : ch.index ≡ k = omega (arith, ch.place, same) in
      let both : Some Idle ≡ Some (Ready ch.job) = sym idle ∙ (ap (λ (x : ℕ). slice_get s.threads x) (sym index) ∙ ch.ready) in cc)
  | inr differ ↦
      let left : Left image s (run_picked image t s (Some c)).state k Idle = run_left image t s c.place k (slice_get image.processes c.place) (slice_get s.threads c.place) Idle differ idle in
      elim left.thread.2 [ inl old ↦ left.thread.1 ∙ ap (λ (x : Thread). Some x) old | inr new ↦ left.thread.1 ∙ ap (λ (x : Thread). Some x) new ]
]

pub work_begins : WorkBegins
unfolding tick pick work.Unfinished
work_begins e ps script t s k image_fits fits idle =
    let n : ℕ = activation e.image.over (worst_of (ps k)) in
    let s1 : State = (starts e.image script t s).state in
    let picked : ChosenOf e.image 0 e.image.processes s1.threads (least e.image 0 e.image.processes s1.threads) = chosen e.image 0 e.image.processes s1.threads in
    elim (begins_pass e ps image_fits k (work.Unfinished e ps image_fits k n) (work.release_busy e ps image_fits k n) (work.time_out_busy e ps image_fits k n) (work.device_busy e ps image_fits k n)
    (λ u p v ok process at. (
      release_keeps e ps image_fits u k p v ok process,
      subst (λ (x : Option Thread). (o : Owes e ps (release_thread e.image u k p v x).state k n) × IsBusy o.thread) (sym at) (work.fresh e ps image_fits u k p v ok process at),
    )) script t s fits idle) [
      | inl still ↦ inl (still_idle e.image t s1 k still (least e.image 0 e.image.processes s1.threads) picked)
      | inr busy ↦ inr (work.work_of_tick e ps image_fits t s1 k n busy.1.0 busy.0 (least e.image 0 e.image.processes s1.threads) picked)
    ]

pub suspension_begins : SuspensionBegins
unfolding tick pick wait.Unfinished
suspension_begins e ps script t s k image_fits ranked fits idle =
    let n : ℕ = (worst_of (ps k)).susp in
    let w : ℕ = (worst_of (ps k)).waits in
    let s1 : State = (starts e.image script t s).state in
    let picked : ChosenOf e.image 0 e.image.processes s1.threads (least e.image 0 e.image.processes s1.threads) = chosen e.image 0 e.image.processes s1.threads in
    elim (begins_pass e ps image_fits k (wait.Unfinished e ps image_fits t k n w) (wait.release_unfinished e ps image_fits t k n w) (wait.time_out_unfinished e ps image_fits t k n w) (wait.device_unfinished e ps image_fits t k n w)
    (λ u p v ok process at. (
      release_keeps e ps image_fits u k p v ok process,
      subst (λ (x : Option Thread). (o : Suspends e ps (release_thread e.image u k p v x).state t k n w) × IsBusy o.thread) (sym at) (wait.fresh e ps image_fits t u k p v ok process at),
    )) script t s fits idle) [
      | inl still ↦ inl (still_idle e.image t s1 k still (least e.image 0 e.image.processes s1.threads) picked)
      | inr busy ↦ inr (wait.tick_spends e ps image_fits t s1 k n w busy.1.0 busy.1.1 (starts_not_due e.image script t k busy.1.0.p s ranked busy.1.0.process) busy.0 (least e.image 0 e.image.processes s1.threads) picked)
    ]
