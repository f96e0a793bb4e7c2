-- What the devices of the machine hold is what the script set last.
use Rattle.std.proofs.Common.{◌≡◌, ◌≤◌, ◌+◌, ◌*◌, inl, inr, ℕ, zero, suc, List, [], ◌∷◌, Option, Some, None, length, arith, refl, ap, sym, subst, ◌∙◌, true, false, Bool, map}
use Rattle.std.specs.Prelude.{ℤ, pos, slice_get, slice_set, cond, nat_eq, nat_lt, nat_le, ◌&&◌}
use Rattle.std.proofs.lemmas.Bool.{cases_Bool, cases_lt, cases_eq}
use Rattle.std.proofs.lemmas.Bool.Decides.{nat_tests}
use Rattle.base.proofs.Lists.{one_some, get_other}
use Rattle.base.specs.declared.event.Act.TheVariants as act
use Rattle.source_semantics.specs.Starts.{Script, Line, sets, occurs, value_set, device_value}
use Rattle.machine_semantics.specs.Image.{Image, Process}
use Rattle.machine_semantics.specs.State.{Thread, Idle, Ready, Waiting, State}
use Rattle.machine_semantics.specs.State as target
use Rattle.machine_semantics.specs.Effect.{Outcome, Goes, Does, Signals, Broadcasts, Waits, Raises, Ends, Stuck}
use Rattle.machine_semantics.specs.Starts.{Started, release, release_thread, time_out, at_rank, time_outs, starts}
use Rattle.machine_semantics.specs.Starts as start
use Rattle.machine_semantics.specs.Tick.{Candidate, settle, outcome, owned_of, run_thread, run_picked}
use Rattle.code_lifting.specs.Compiled.{line_of, script_of, IsFrom}

-- the value set last before a tick, or the one before where there is none
abbrev pub value_before : ℕ → ℕ → ℤ → List Line → ℤ
value_before t d v [] = v
value_before t d v (sets u e x ∷ ls) = value_before t d (cond (nat_eq e d && nat_lt u t) x v) ls
value_before t d v (occurs u e ∷ ls) = value_before t d v ls

-- the value after the lines of tick t
abbrev value_after : ℕ → ℕ → ℤ → List Line → ℤ
value_after t d v [] = v
value_after t d v (sets u e x ∷ ls) = value_after t d (cond (nat_eq e d && nat_eq u t) x v) ls
value_after t d v (occurs u e ∷ ls) = value_after t d v ls

-- ---- values

none_before : (t d a : ℕ) (v : ℤ) (ls : List Line) → IsFrom a ls → t ≤ a → value_before t d v ls ≡ v
none_before t d a v [] from low = refl
none_before t d a v (sets u e x ∷ ls) from low =
    let late : nat_lt u t ≡ false = (let le : a ≤ u = from.0 in grind (arith, nat_tests, low, le)) in
    ap (λ (b : Bool). value_before t d (cond (nat_eq e d && b) x v) ls) late ∙ ap (λ (b : Bool). value_before t d (cond b x v) ls) (never (nat_eq e d)) ∙ none_before t d u v ls from.1 (omega (arith, from.0, low)) where
      never : (b : Bool) → b && false ≡ false
      never true = refl
      never false = refl
none_before t d a v (occurs u e ∷ ls) from low = none_before t d u v ls from.1 (omega (arith, from.0, low))

pub in_order : (t d a : ℕ) (v : ℤ) (ls : List Line) → IsFrom a ls → value_after t d (value_before t d v ls) ls ≡ value_set t d v ls
in_order t d a v [] from = refl
in_order t d a v (occurs u e ∷ ls) from = in_order t d u v ls from.1
in_order t d a v (sets u e x ∷ ls) from = elim (cases_lt u t) [
  | inl lt ↦
      let before : nat_lt u t ≡ true = grind (arith, nat_tests, lt) in
      let not_now : nat_eq u t ≡ false = grind (arith, nat_tests, lt) in
      let by_now : nat_le u t ≡ true = grind (arith, nat_tests, lt) in
      ap (λ (b : Bool). value_after t d (cond (nat_eq e d && nat_eq u t) x (value_before t d (cond (nat_eq e d && b) x v) ls)) ls) before
      ∙ ap (λ (b : Bool). value_after t d (cond (nat_eq e d && b) x (value_before t d (cond (nat_eq e d && true) x v) ls)) ls) not_now
      ∙ ap (λ (b : Bool). value_after t d (cond b x (value_before t d (cond (nat_eq e d && true) x v) ls)) ls) (never (nat_eq e d))
      ∙ in_order t d u (cond (nat_eq e d && true) x v) ls from.1
      ∙ ap (λ (b : Bool). value_set t d (cond (nat_eq e d && b) x v) ls) (sym by_now)
  | inr ge ↦
      let not_before : nat_lt u t ≡ false = grind (arith, nat_tests, ge) in
      let alike : nat_eq u t ≡ nat_le u t = same_test u t ge in
      ap (λ (b : Bool). value_after t d (cond (nat_eq e d && nat_eq u t) x (value_before t d (cond (nat_eq e d && b) x v) ls)) ls) not_before
      ∙ ap (λ (b : Bool). value_after t d (cond (nat_eq e d && nat_eq u t) x (value_before t d (cond b x v) ls)) ls) (never (nat_eq e d))
      ∙ ap (λ (y : ℤ). value_after t d (cond (nat_eq e d && nat_eq u t) x y) ls) (none_before t d u v ls from.1 ge)
      ∙ ap (λ (b : Bool). value_after t d (cond (nat_eq e d && b) x v) ls) alike
      ∙ ap (λ (y : ℤ). value_after t d y ls) (sym (none_before t d u (cond (nat_eq e d && nat_le u t) x v) ls from.1 ge))
      ∙ in_order t d u (cond (nat_eq e d && nat_le u t) x v) ls from.1
] where
  never : (b : Bool) → b && false ≡ false
  never true = refl
  never false = refl

  same_test : (u t : ℕ) → t ≤ u → nat_eq u t ≡ nat_le u t
  same_test u t ge = grind (arith, nat_tests, ge)

pub before_next : (t d : ℕ) (v : ℤ) (ls : List Line) → value_before (t + 1) d v ls ≡ value_set t d v ls
before_next t d v [] = refl
before_next t d v (occurs u e ∷ ls) = before_next t d v ls
before_next t d v (sets u e x ∷ ls) = ap (λ (b : Bool). value_before (t + 1) d (cond (nat_eq e d && b) x v) ls) (same_test u t) ∙ before_next t d (cond (nat_eq e d && nat_le u t) x v) ls where
  same_test : (u t : ℕ) → nat_lt u (t + 1) ≡ nat_le u t
  same_test u t = grind (arith, nat_tests)

pub before_all : (d : ℕ) (v : ℤ) (ls : List Line) → value_before 0 d v ls ≡ v
before_all d v [] = refl
before_all d v (occurs u e ∷ ls) = before_all d v ls
before_all d v (sets u e x ∷ ls) = ap (λ (b : Bool). value_before 0 d (cond b x v) ls) (never (nat_eq e d) u) ∙ before_all d v ls where
  never : (b : Bool) (u : ℕ) → b && nat_lt u 0 ≡ false
  never true u = grind (arith, nat_tests)
  never false u = refl

-- ---- the devices after the start events

abbrev set_lines : ℕ → List Line → List ℤ → List ℤ
set_lines t [] ds = ds
set_lines t (sets u d v ∷ ls) ds = set_lines t ls (cond (nat_eq u t) (slice_set ds d v) ds)
set_lines t (occurs u e ∷ ls) ds = set_lines t ls ds

module _ (image : Image) (t : ℕ) where
  release_devices : (k : ℕ) (p : Process) (s : State) → (release image t k p s).state.devices ≡ s.devices
  release_devices k p s = by (slice_get s.threads k) where
    by : (o : Option Thread) → (release_thread image t k p s o).state.devices ≡ s.devices
    by None = refl
    by (Some Idle) = refl
    by (Some (Ready job)) = refl
    by (Some (Waiting c due number job)) = refl

  time_out_devices : (k : ℕ) (p : Process) (s : State) (o : Option Thread) → (time_out image t k p s o).state.devices ≡ s.devices
  time_out_devices k p s None = refl
  time_out_devices k p s (Some Idle) = refl
  time_out_devices k p s (Some (Ready job)) = refl
  time_out_devices k p s (Some (Waiting c due number job)) = by (nat_eq due t) where
    by : (b : Bool) → (cond b (start.told t k (act.TimeOut c number) (record s { queues = slice_set s.queues c (start.without k (start.queue_of s.queues c)) }) (Ready (record (start.raised p number job) { dispatch_ticks = 2 * image.over }))) (start.unchanged s)).state.devices ≡ s.devices
    by true = refl
    by false = refl

  either : (b : Bool) (x y : Started) (ds : List ℤ) → x.state.devices ≡ ds → y.state.devices ≡ ds → (cond b x y).state.devices ≡ ds
  either true x y ds p q = p
  either false x y ds p q = q

  occurs_devices : (e k : ℕ) (ps : List Process) (s : State) → (start.occurs image t e k ps s).state.devices ≡ s.devices
  occurs_devices e k [] s = refl
  occurs_devices e k (p ∷ ps) s =
      let first : Started = cond (nat_eq p.kind 1 && nat_eq p.event e) (release image t k p s) (start.unchanged s) in
      occurs_devices e (k + 1) ps first.state ∙ either (nat_eq p.kind 1 && nat_eq p.event e) (release image t k p s) (start.unchanged s) s.devices (release_devices k p s) refl

  lines_devices : (ls : List Line) (s : State) → (start.lines image t (map line_of ls) s).state.devices ≡ set_lines t ls s.devices
  lines_devices [] s = refl
  lines_devices (sets u d v ∷ ls) s =
      lines_devices ls (start.line image t (line_of (sets u d v)) s).state ∙ ap (λ (ds : List ℤ). set_lines t ls ds) (by (nat_eq u t)) where
        by : (b : Bool) → (cond b (start.unchanged (record s { devices = slice_set s.devices d v })) (start.unchanged s)).state.devices ≡ cond b (slice_set s.devices d v) s.devices
        by true = refl
        by false = refl
  lines_devices (occurs u e ∷ ls) s =
      lines_devices ls (start.line image t (line_of (occurs u e)) s).state
      ∙ ap (λ (ds : List ℤ). set_lines t ls ds) (either (nat_eq u t) (start.occurs image t e 0 image.processes s) (start.unchanged s) s.devices (occurs_devices e 0 image.processes s) refl)

  periodic_devices : (k : ℕ) (ps : List Process) (s : State) → (start.periodic image t k ps s).state.devices ≡ s.devices
  periodic_devices k [] s = refl
  periodic_devices k (p ∷ ps) s =
      let first : Started = cond (start.is_periodic_due t p) (release image t k p s) (start.unchanged s) in
      periodic_devices (k + 1) ps first.state ∙ either (start.is_periodic_due t p) (release image t k p s) (start.unchanged s) s.devices (release_devices k p s) refl

  rank_devices : (rank k : ℕ) (ps : List Process) (s : State) → (at_rank image t rank k ps s).state.devices ≡ s.devices
  rank_devices rank k [] s = refl
  rank_devices rank k (p ∷ ps) s =
      let first : Started = cond (nat_eq p.rank rank) (time_out image t k p s (slice_get s.threads k)) (start.unchanged s) in
      rank_devices rank (k + 1) ps first.state ∙ either (nat_eq p.rank rank) (time_out image t k p s (slice_get s.threads k)) (start.unchanged s) s.devices (time_out_devices k p s (slice_get s.threads k)) refl

  ranks_devices : (rank n : ℕ) (s : State) → (time_outs image t rank n s).state.devices ≡ s.devices
  ranks_devices rank zero s = refl
  ranks_devices rank (suc n) s = ranks_devices (rank + 1) n (at_rank image t rank 0 image.processes s).state ∙ rank_devices rank 0 image.processes s

  pub starts_devices : (script : Script) (s : State) → (starts image (script_of script) t s).state.devices ≡ set_lines t script.lines s.devices
  unfolding starts
  starts_devices script s =
      let a : State = (start.lines image t (map line_of script.lines) s).state in
      let b : State = (start.periodic image t 0 image.processes a).state in
      ranks_devices 1 (length image.processes) b ∙ periodic_devices 0 image.processes a ∙ lines_devices script.lines s

set_here : (xs : List ℤ) (d : ℕ) (y x : ℤ) → slice_get (slice_set xs d y) d ≡ Some x → y ≡ x
set_here [] d y x at = absurd cc
set_here (z ∷ zs) zero y x at = one_some refl at
set_here (z ∷ zs) (suc d) y x at = set_here zs d y x at

set_lines_at : (t d : ℕ) (w : ℤ) (ls : List Line) (ds : List ℤ) → ((x : ℤ) → slice_get ds d ≡ Some x → w ≡ x) → (x : ℤ) → slice_get (set_lines t ls ds) d ≡ Some x → value_after t d w ls ≡ x
set_lines_at t d w [] ds now x at = now x at
set_lines_at t d w (occurs u e ∷ ls) ds now x at = set_lines_at t d w ls ds now x at
set_lines_at t d w (sets u e v ∷ ls) ds now x at = set_lines_at t d (cond (nat_eq e d && nat_eq u t) v w) ls (cond (nat_eq u t) (slice_set ds e v) ds) (λ y at_y. by (nat_eq u t) y at_y) x at where
  itself : (n : ℕ) → nat_eq n n ≡ true
  itself n = grind (arith, nat_tests)

  unlike : (m n : ℕ) → (m ≡ n → ⊥) → nat_eq m n ≡ false
  unlike m n differ = elim (cases_Bool (nat_eq m n)) [ inl is ↦ absurd (differ (grind (arith, nat_tests, is))) | inr is ↦ is ]

  never : (b : Bool) → b && false ≡ false
  never true = refl
  never false = refl

  by : (b : Bool) (y : ℤ) → slice_get (cond b (slice_set ds e v) ds) d ≡ Some y → cond (nat_eq e d && b) v w ≡ y
  by false y at_y = ap (λ (b : Bool). cond b v w) (never (nat_eq e d)) ∙ now y at_y
  by true y at_y = elim (cases_eq e d) [
    | inl same ↦
        ap (λ (n : ℕ). cond (nat_eq n d && true) v w) same ∙ ap (λ (b : Bool). cond (b && true) v w) (itself d)
        ∙ set_here ds d v y (subst (λ (n : ℕ). slice_get (slice_set ds n v) d ≡ Some y) same at_y)
    | inr differ ↦ ap (λ (b : Bool). cond (b && true) v w) (unlike e d differ) ∙ now y (sym (get_other ds e d v differ) ∙ at_y)
  ]

-- after the start events of tick t the devices hold what the script set last
pub devices_now : (image : Image) (script : Script) (t : ℕ) (s : State) → IsFrom 0 script.lines → ((d : ℕ) (x : ℤ) → slice_get s.devices d ≡ Some x → value_before t d (pos 0) script.lines ≡ x)
    → (d : ℕ) (x : ℤ) → slice_get (starts image (script_of script) t s).state.devices d ≡ Some x → device_value script t d ≡ x
devices_now image script t s from before d x at =
    sym (in_order t d 0 (pos 0) script.lines from)
    ∙ set_lines_at t d (value_before t d (pos 0) script.lines) script.lines s.devices (λ y at_y. before d y at_y) x (ap (λ (ds : List ℤ). slice_get ds d) (sym (starts_devices image t script s)) ∙ at)

-- ---- the tick of the process that runs changes no device

settle_devices : (image : Image) (t k : ℕ) (p : Process) (job : target.Job) (s : State) (out : Outcome) → (settle image t k p job s out).state.devices ≡ s.devices
settle_devices image t k p job s (Goes o) = refl
settle_devices image t k p job s (Does a o) = refl
settle_devices image t k p job s (Signals c o) = refl
settle_devices image t k p job s (Broadcasts c o) = refl
settle_devices image t k p job s (Waits c limit e o) = refl
settle_devices image t k p job s (Raises e) = refl
settle_devices image t k p job s Ends = refl
settle_devices image t k p job s Stuck = refl

thread_devices : (image : Image) (t k : ℕ) (s : State) (p : Option Process) (o : Option Thread) → (run_thread image t k s p o).state.devices ≡ s.devices
thread_devices image t k s None None = refl
thread_devices image t k s None (Some th) = refl
thread_devices image t k s (Some p) None = refl
thread_devices image t k s (Some p) (Some Idle) = refl
thread_devices image t k s (Some p) (Some (Waiting c due number job)) = refl
thread_devices image t k s (Some p) (Some (Ready job)) = settle_devices image t k p job s (outcome image s job (owned_of (slice_get s.owned k)) job.dispatch_ticks)

pub picked_devices : (image : Image) (t : ℕ) (s : State) (o : Option Candidate) → (run_picked image t s o).state.devices ≡ s.devices
picked_devices image t s None = refl
picked_devices image t s (Some c) = thread_devices image t c.place s (slice_get image.processes c.place) (slice_get s.threads c.place)
