-- The events of the machine's run are a run of the source meaning in which any ready process may act.
use Rattle.std.proofs.Common.{◌≡◌, ◌<◌, ◌+◌, ◌++◌, ℕ, zero, suc, List, [], ◌∷◌, Option, Some, None, arith, refl, ap, sym, subst, ◌∙◌, false, Bool, append_assoc, map}
use Rattle.std.specs.Prelude.{ℤ, pos, slice_get, replicate, option_map}
use Rattle.std.proofs.lemmas.Option.{slice_get-map}
use Rattle.std.proofs.lemmas.List.{length-map}
use Rattle.base.proofs.Lists.{one_some}
use Rattle.base.specs.declared.event.Event.{Event}
use Rattle.syntax_tree.specs.Plain as tree
use Rattle.syntax_tree.specs.Plain.{Program}
use Rattle.source_semantics.specs.Names.{processes, monitors}
use Rattle.source_semantics.specs.Config.{Hold, Config, idle_job, free_hold}
use Rattle.source_semantics.specs.Config as config
use Rattle.source_semantics.specs.Starts.{Script, device_value, NoneMissing}
use Rattle.machine_semantics.specs.Image.{Process}
use Rattle.machine_semantics.specs.State.{Thread, Idle, State, zeros}
use Rattle.machine_semantics.specs.Starts.{starts}
use Rattle.machine_semantics.specs.Tick.{Candidate, owned_of, run_picked}
use Rattle.machine_semantics.specs.Run.{words_of, at_start}
use Rattle.machine_semantics.specs.Queues.{AreQueued}
use Rattle.source_semantics.specs.Any.{RunAnyFrom, IsAnySourceRun}
use Rattle.code_lifting.specs.Related.{Whole, Relations, inside_of, Same, IsSame}
use Rattle.code_lifting.specs.Compiled.{IsProcessOf, IsCompiled, IsFrom, script_of}
use Rattle.code_lifting.proofs.Lists.{none_some}
use Rattle.code_lifting.proofs.Ticks.{At}
use Rattle.code_lifting.proofs.Devices.{value_before, before_next, before_all, devices_now, picked_devices}
use Rattle.edf_semantics.specs.Run.{Marked, candidate, chosen_at, first_marks, tick, state_at, events_from, events}
use Rattle.edf_semantics.specs.Runs.{NobodyWaits, IsKept}
use Rattle.edf_semantics.proofs.Starts.{starts_run}
use Rattle.edf_semantics.proofs.Ticks.{picked_runs}
use Rattle.code_lifting.proofs.Run.{no_queues}

-- ---- at the start

module _ (w : Whole) (r : Relations) (compiled : IsCompiled w r) where
  abbrev g : Program
  g = w.program

  abbrev holds : List Hold
  holds = map (free_hold g) (monitors g)

  same_first : (k : ℕ) (p : Option Process) (x : Option tree.Process) → IsProcessOf w r k p x
      → Same w r k holds (owned_of (option_map (λ (q : Process). zeros q.words) p)) (zeros (words_of w.image.monitors)) (option_map (λ (q : Process). Idle) p) (option_map (idle_job g) x)
  same_first k None None is = tt
  same_first k None (Some x) is = is
  same_first k (Some p) None is = is
  same_first k (Some p) (Some x) is = (refl, is.faithful.begins)

  nowhere : (o : Option Process) → inside_of (option_map (λ (q : Process). Idle) o) ≡ None
  nowhere None = refl
  nowhere (Some p) = refl

  free_first : (x : Option tree.Monitor) (m : ℕ) (h : Hold) → slice_get (monitors g) m ≡ x → option_map (free_hold g) x ≡ Some h → (h.occupant ≡ None) × r.free m (zeros (words_of w.image.monitors)) h.vars
  free_first None m h at is = absurd cc
  free_first (Some x) m h at is =
      let same : free_hold g x ≡ h = one_some refl is in
      subst (λ (y : Hold). (y.occupant ≡ None) × r.free m (zeros (words_of w.image.monitors)) y.vars) same (refl, compiled.free_first m x at)

  starts_same : IsSame w r (at_start w.image) (config.start g)
  unfolding at_start
  starts_same = record {
    related = record {
      same = λ k. rw (slice_get-map (λ (q : Process). zeros q.words) w.image.processes k, slice_get-map (λ (q : Process). Idle) w.image.processes k, slice_get-map (idle_job g) (processes g) k)
          (same_first k (slice_get w.image.processes k) (slice_get (processes g) k) (compiled.processes_agree k));
      inside = λ k m in_m. absurd (none_some (nobody k) in_m);
      occupants = λ m k h at occupant. absurd (none_some (hold_first m h at).0 occupant);
      free = λ m h at nobody_in. (hold_first m h at).1;
      reaches = λ k m text in_m at. absurd (none_some (nobody k) in_m);
      many_threads = length-map w.image.processes (λ (q : Process). Idle);
      many_holds = length-map (monitors g) (free_hold g) ∙ sym compiled.monitors_agree;
      many_owned = length-map w.image.processes (λ (q : Process). zeros q.words);
    };
    queues = no_queues w.image.conditions ∙ ap (λ (n : ℕ). replicate n []) compiled.conditions;
  } where
    nobody : (k : ℕ) → inside_of (slice_get (map (λ (q : Process). Idle) w.image.processes) k) ≡ None
    nobody k = ap (λ (o : Option Thread). inside_of o) (slice_get-map (λ (q : Process). Idle) w.image.processes k) ∙ nowhere (slice_get w.image.processes k)

    hold_first : (m : ℕ) (h : Hold) → slice_get holds m ≡ Some h → (h.occupant ≡ None) × r.free m (zeros (words_of w.image.monitors)) h.vars
    hold_first m h at = free_first (slice_get (monitors g) m) m h refl (sym (slice_get-map (free_hold g) (monitors g) m) ∙ at)

  -- ---- tick by tick

  module _ (script : Script) (ordered : IsFrom 0 script.lines) (kept : IsKept w.image (script_of script)) where
    abbrev now : ℕ → Marked
    now t = state_at w.image (script_of script) t

    -- before tick t
    record Before (t : ℕ) (s : State) (c : Config) : Type 0 where
      pub at : At w r script t t s c
      pub devices : (d : ℕ) (x : ℤ) → slice_get s.devices d ≡ Some x → value_before t d (pos 0) script.lines ≡ x

    next_is : (t : ℕ) (s : Marked) → s ≡ now t → (tick w.image (script_of script) t s).state ≡ now (t + 1)
    unfolding state_at
    next_is t s same = ap (λ (x : Marked). (tick w.image (script_of script) t x).state) same ∙ (let z : suc t ≡ t + 1 = omega arith in ap (λ (x : ℕ). state_at w.image (script_of script) x) z)

    whole : (n t : ℕ) (s : Marked) (c : Config) → t + n ≡ script.end_tick → s ≡ now t → Before t s.state c → RunAnyFrom g script c (events_from w.image (script_of script) n t s)
    unfolding events_from tick
    whole zero t s c is same before = let e : t ≡ script.end_tick = omega (arith, is) in subst (λ (x : ℕ). NoneMissing g script c x) e before.at.none
    whole (suc n) t s c is same before =
        let below : t < script.end_tick = omega (arith, is) in
        let started : State = (starts w.image (script_of script) t s.state).state in
        let picked : Option Candidate = candidate (chosen_at w.image (script_of script) t s) in
        let rest : List Event = events_from w.image (script_of script) n (t + 1) (tick w.image (script_of script) t s).state in
        let calm : NobodyWaits s.state = subst (λ (x : Marked). NobodyWaits x.state) (sym same) (kept.calm t below) in
        let queued : AreQueued started = subst (λ (x : Marked). AreQueued (starts w.image (script_of script) t x.state).state) (sym same) (kept.queued_started t below) in
        let no_overrun : (tick w.image (script_of script) t s).overrun ≡ false = subst (λ (x : Marked). (tick w.image (script_of script) t x).overrun ≡ false) (sym same) (kept.no_overrun t below) in
        let not_stuck : (tick w.image (script_of script) t s).stuck ≡ false = subst (λ (x : Marked). (tick w.image (script_of script) t x).stuck ≡ false) (sym same) (kept.never_stuck t below) in
        let devices : (d : ℕ) (x : ℤ) → slice_get started.devices d ≡ Some x → device_value script t d ≡ x = devices_now w.image script t s.state ordered before.devices in
        subst (λ (es : List Event). RunAnyFrom g script c es) (sym (append_assoc (starts w.image (script_of script) t s.state).events (run_picked w.image t started picked).events rest))
        (starts_run w r compiled script t below s.state c before.at calm no_overrun ((run_picked w.image t started picked).events ++ rest)
        (λ c' at'. picked_runs w r compiled script t below started c' queued devices at' rest picked not_stuck
        (λ c'' same'' reached fresh none. whole n (t + 1) (tick w.image (script_of script) t s).state c'' (omega (arith, is)) (next_is t s same) (record {
          at = record { same = same''; reached = omega (arith, reached); fresh = fresh; none = none };
          devices = λ d x at_d. before_next t d (pos 0) script.lines ∙ devices d x (ap (λ (ds : List ℤ). slice_get ds d) (sym (picked_devices w.image t started picked)) ∙ at_d);
        }))))

    first_is : record { state = at_start w.image; marks = first_marks w.image } ≡ now 0
    unfolding state_at
    first_is = refl

    none_set : (ds : List Bool) (d : ℕ) (x : ℤ) → slice_get (map (λ (b : Bool). pos 0) ds) d ≡ Some x → pos 0 ≡ x
    none_set [] d x at = absurd cc
    none_set (b ∷ bs) zero x at = one_some refl at
    none_set (b ∷ bs) (suc d) x at = none_set bs d x at

    zero_is : (d : ℕ) (x : ℤ) → slice_get (at_start w.image).devices d ≡ Some x → pos 0 ≡ x
    unfolding at_start
    zero_is d x at_d = none_set w.image.devices d x at_d

    -- the law of whole runs
    pub run_is_any_run : IsAnySourceRun g script (events w.image (script_of script))
    unfolding events
    run_is_any_run = whole script.end_tick 0 (record { state = at_start w.image; marks = first_marks w.image }) (config.start g) (omega arith) first_is (record {
      at = record { same = starts_same; reached = omega arith; fresh = refl; none = λ u low lt. absurd (omega (arith, lt)) };
      devices = λ d x at_d. before_all d (pos 0) script.lines ∙ zero_is d x at_d;
    })
