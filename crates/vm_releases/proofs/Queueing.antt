-- Start events begin no wait, and keep the queues.
use Rattle.std.proofs.Common.{◌≡◌, ◌≢◌, ◌+◌, ◌*◌, ℕ, zero, suc, List, [], ◌∷◌, Option, Some, None, length, arith, refl, sym, subst, ◌∙◌, true, false, Bool, inl, inr}
use Rattle.std.specs.Prelude.{slice_get, slice_set, cond, nat_eq, ◌&&◌}
use Rattle.std.proofs.lemmas.List.{length-set}
use Rattle.base.proofs.Lists.{get_other}
use Rattle.base.specs.declared.event.Act.TheVariants as act
use Rattle.machine_semantics.specs.Image.{Image, Process, Line, Sets, Occurs}
use Rattle.machine_semantics.specs.State.{Job, Thread, Idle, Ready, Waiting, State}
use Rattle.machine_semantics.specs.Starts.{Started, is_periodic_due, line, lines, occurs, periodic, queue_of, raised, release, release_thread, released, time_out, told, unchanged, without}
use Rattle.vm_stretch.proofs.Lists.{same_or_not}
use Rattle.vm_releases.specs.Begin.{HaveQueues}

get_set : {X : Type 0} (xs : List X) (k : ℕ) (x y : X) → slice_get (slice_set xs k x) k ≡ Some y → y ≡ x
get_set [] k x y at = absurd cc
get_set (z ∷ zs) zero x y at = cc
get_set (z ∷ zs) (suc k) x y at = get_set zs k x y at

ready_keeps : (s : State) (k : ℕ) (job : Job) (qs : List (List ℕ)) → HaveQueues s → length qs ≡ length s.queues → HaveQueues (record s { threads = slice_set s.threads k (Ready job); queues = qs })
ready_keeps s k job qs have same = λ j c due e job' at. elim (same_or_not k j) [
  | inl is ↦ absurd (let here : Waiting c due e job' ≡ Ready job = get_set s.threads k (Ready job) (Waiting c due e job') (subst (λ (i : ℕ). slice_get (slice_set s.threads k (Ready job)) i ≡ Some (Waiting c due e job')) (sym is) at) in cc)
  | inr differ ↦ (let old = have j c due e job' (sym (get_other s.threads k j (Ready job) differ) ∙ at) in omega (arith, old, same))
]

release_keeps : (image : Image) (t k : ℕ) (p : Process) (s : State) → HaveQueues s → HaveQueues (release image t k p s).state
release_keeps image t k p s have = by (slice_get s.threads k) where
  by : (o : Option Thread) → HaveQueues (release_thread image t k p s o).state
  by None = have
  by (Some (Ready job)) = have
  by (Some (Waiting c due e job)) = have
  by (Some Idle) = ready_keeps s k (released image p) s.queues have refl

either : (b : Bool) (x y : Started) → HaveQueues x.state → HaveQueues y.state → HaveQueues (cond b x y).state
either true x y p q = p
either false x y p q = q

occurs_keep : (image : Image) (t e k : ℕ) (ps : List Process) (s : State) → HaveQueues s → HaveQueues (occurs image t e k ps s).state
occurs_keep image t e k [] s have = have
occurs_keep image t e k (p ∷ ps) s have =
    occurs_keep image t e (k + 1) ps (cond (nat_eq p.kind 1 && nat_eq p.event e) (release image t k p s) (unchanged s)).state
    (either (nat_eq p.kind 1 && nat_eq p.event e) (release image t k p s) (unchanged s) (release_keeps image t k p s have) have)

line_keeps : (image : Image) (t : ℕ) (l : Line) (s : State) → HaveQueues s → HaveQueues (line image t l s).state
line_keeps image t (Sets u d v) s have = either (nat_eq u t) (unchanged (record s { devices = slice_set s.devices d v })) (unchanged s) have have
line_keeps image t (Occurs u e) s have = either (nat_eq u t) (occurs image t e 0 image.processes s) (unchanged s) (occurs_keep image t e 0 image.processes s have) have

pub lines_keep : (image : Image) (t : ℕ) (ls : List Line) (s : State) → HaveQueues s → HaveQueues (lines image t ls s).state
lines_keep image t [] s have = have
lines_keep image t (l ∷ ls) s have = lines_keep image t ls (line image t l s).state (line_keeps image t l s have)

pub periodic_keeps : (image : Image) (t k : ℕ) (ps : List Process) (s : State) → HaveQueues s → HaveQueues (periodic image t k ps s).state
periodic_keeps image t k [] s have = have
periodic_keeps image t k (p ∷ ps) s have =
    periodic_keeps image t (k + 1) ps (cond (is_periodic_due t p) (release image t k p s) (unchanged s)).state
    (either (is_periodic_due t p) (release image t k p s) (unchanged s) (release_keeps image t k p s have) have)

pub time_out_keeps : (image : Image) (t k : ℕ) (p : Process) (s : State) → HaveQueues s → HaveQueues (time_out image t k p s (slice_get s.threads k)).state
time_out_keeps image t k p s have = by (slice_get s.threads k) where
  by : (o : Option Thread) → HaveQueues (time_out image t k p s o).state
  by None = have
  by (Some Idle) = have
  by (Some (Ready job)) = have
  by (Some (Waiting c due e job)) =
      either (nat_eq due t) (told t k (act.TimeOut c e) (record s { queues = slice_set s.queues c (without k (queue_of s.queues c)) }) (Ready (record (raised p e job) { dispatch_ticks = 2 * image.over }))) (unchanged s)
      (ready_keeps s k (record (raised p e job) { dispatch_ticks = 2 * image.over }) (slice_set s.queues c (without k (queue_of s.queues c))) have (length-set s.queues c (without k (queue_of s.queues c)))) have

-- no other process changes at a time-out
pub time_out_others : (image : Image) (t k j : ℕ) (p : Process) (s : State) → k ≢ j → slice_get (time_out image t k p s (slice_get s.threads k)).state.threads j ≡ slice_get s.threads j
time_out_others image t k j p s differ = by (slice_get s.threads k) where
  by : (o : Option Thread) → slice_get (time_out image t k p s o).state.threads j ≡ slice_get s.threads j
  by None = refl
  by (Some Idle) = refl
  by (Some (Ready job)) = refl
  by (Some (Waiting c due e job)) = by_due (nat_eq due t) where
    by_due : (d : Bool) → slice_get (cond d (told t k (act.TimeOut c e) (record s { queues = slice_set s.queues c (without k (queue_of s.queues c)) }) (Ready (record (raised p e job) { dispatch_ticks = 2 * image.over }))) (unchanged s)).state.threads j ≡ slice_get s.threads j
    by_due true = get_other s.threads k j (Ready (record (raised p e job) { dispatch_ticks = 2 * image.over })) differ
    by_due false = refl
