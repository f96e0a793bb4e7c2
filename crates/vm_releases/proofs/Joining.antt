-- The groups of start events joined.
use Rattle.std.proofs.Common.{◌≡◌, ◌≤◌, ◌<◌, ◌+◌, ◌*◌, ◌++◌, ℕ, zero, suc, List, [], ◌∷◌, Option, Some, None, length, drop, arith, refl, ap, sym, subst, ◌∙◌, false, length-append}
use Rattle.std.specs.Prelude.{slice_get, slice_set}
use Rattle.std.proofs.lemmas.List.{length-set}
use Rattle.std.proofs.lemmas.Option.{slice_get_within}
use Rattle.base.proofs.Lists.{get_drop, get_other, get_set, some_at}
use Rattle.base.specs.declared.event.Event.{Event}
use Rattle.machine_semantics.specs.Image.{Image, Process as Whole, Script, Line}
use Rattle.machine_semantics.specs.State.{State}
use Rattle.machine_semantics.specs.Starts.{Started, followed, lines, periodic, starts, time_outs}
use Rattle.vm_stretch.specs.Quiet.{line_tick}
use Rattle.vm_stretch.specs.StretchDue.{HasSlots, IsNextRelease, first_tick}
use Rattle.vm_state.specs.declared.threads.ControlBlock.{ControlBlock}
use Rattle.vm_state.specs.Threads.{threads_of}
use Rattle.vm_state.specs.declared.decoded_image.DecodedProcess.{DecodedProcess}
use Rattle.vm_state.specs.declared.decoded_image.Release.{Release}
use Rattle.vm_state.specs.declared.decoded_image.Release.TheVariants as release
use Rattle.vm_state.specs.Plan.{AreProcesses, IsRelease}
use Rattle.vm_stretch.specs.StartLawsDue.{AreDone, HasDue, moved_on}
use Rattle.vm_stretch.specs.Steps.{HasStarted, HasWaits}
use Rattle.vm_stretch.proofs.Counting.{starts_are_few}
use Rattle.vm_stretch.proofs.Leading.{calm_first, calm_second, started_then}
use Rattle.vm_stretch.proofs.StartLawsMoving.{due_are_released, next_release}
use Rattle.vm_stretch.proofs.Waiting.{due_of, lines_keep_waits, periodic_keeps_waits}
use Rattle.vm_releases.specs.Begin.{AreToCome, MovedBelow, TellReleases, WaitsAlone}

-- ---- no overrun, and room

-- the start events in their groups
pub record Parts (image : Image) (script : Script) (t : ℕ) (s : State) : Type 0 where
  pub lines_calm : (lines image t script.lines s).overrun ≡ false
  pub releases_calm : (periodic image t 0 image.processes (lines image t script.lines s).state).overrun ≡ false
  pub time_outs_calm : (time_outs image t 1 (length image.processes) (periodic image t 0 image.processes (lines image t script.lines s).state).state).overrun ≡ false
  pub few : length (lines image t script.lines s).events + (length (periodic image t 0 image.processes (lines image t script.lines s).state).events
      + length (time_outs image t 1 (length image.processes) (periodic image t 0 image.processes (lines image t script.lines s).state).state).events) ≤ length s.threads

abbrev all_of : Image → Script → ℕ → State → Started
all_of image script t s = followed (lines image t script.lines s) (λ a. followed (periodic image t 0 image.processes a) (time_outs image t 1 (length image.processes)))

pub starts_are : (image : Image) (script : Script) (t : ℕ) (s : State) → starts image script t s ≡ all_of image script t s
unfolding starts
starts_are image script t s = refl

pub parts : (image : Image) (script : Script) (t : ℕ) (s : State) → (starts image script t s).overrun ≡ false → Parts image script t s
parts image script t s calm =
    let first : Started = lines image t script.lines s in
    let outs : State → Started = time_outs image t 1 (length image.processes) in
    let next : State → Started = λ a. followed (periodic image t 0 image.processes a) outs in
    let whole : (followed first next).overrun ≡ false = sym (ap (λ (a : Started). a.overrun) (starts_are image script t s)) ∙ calm in
    let later : (next first.state).overrun ≡ false = calm_second first next whole in
    record {
      lines_calm = calm_first first next whole;
      releases_calm = calm_first (periodic image t 0 image.processes first.state) outs later;
      time_outs_calm = calm_second (periodic image t 0 image.processes first.state) outs later;
      few =
          let second : Started = periodic image t 0 image.processes first.state in
          let third : Started = outs second.state in
          let all : length (starts image script t s).events ≡ length (first.events ++ (second.events ++ third.events)) = ap (λ (a : Started). length a.events) (starts_are image script t s) in
          omega (arith, starts_are_few image script t s, all, length-append first.events (second.events ++ third.events), length-append second.events third.events);
    }

-- all start events are done
pub record AllStarted (image : Image) (script : Script) (t : ℕ) (s s' : State) (es : List Event) : Type 0 where
  pub state : s' ≡ (starts image script t s).state
  pub events : es ≡ (starts image script t s).events

pub all_started : (image : Image) (script : Script) (t : ℕ) (s a b c : State) (es0 es1 es2 es3 : List Event) → es0 ≡ [] → HasStarted (lines image t script.lines) s es0 a es1 → HasStarted (periodic image t 0 image.processes) a es1 b es2
    → HasStarted (time_outs image t 1 (length image.processes)) b es2 c es3 → AllStarted image script t s c es3
all_started image script t s a b c es0 es1 es2 es3 none first second third =
    let outs : State → Started = time_outs image t 1 (length image.processes) in
    let later : HasStarted (λ (x : State). followed (periodic image t 0 image.processes x) outs) a es1 c es3 = started_then (periodic image t 0 image.processes) outs a b c es1 es2 es3 second third in
    let all = started_then (lines image t script.lines) (λ (x : State). followed (periodic image t 0 image.processes x) outs) s a c es0 es1 es3 first later in
    record {
      state = all.state ∙ sym (ap (λ (x : Started). x.state) (starts_are image script t s));
      events = all.events ∙ ap (λ (xs : List Event). xs ++ (all_of image script t s).events) none ∙ sym (ap (λ (x : Started). x.events) (starts_are image script t s));
    }

-- ---- lines

pub lines_to_come : (image : Image) (script : Script) (t done : ℕ) (s : State) (slots : List (Option ℕ)) → HasDue image script t done s slots → done ≤ length script.lines → AreToCome t done script.lines
lines_to_come image script t done s slots has within = record {
  within = within;
  order = has.order;
  past = has.past;
  coming = λ i l at late.
      let rest = some_at script.lines done (let below = slice_get_within script.lines i l at in omega (arith, below, late)) in
      let zero_more : done + 0 ≡ done = omega arith in
      let first : slice_get (drop done script.lines) 0 ≡ Some rest.0 = get_drop script.lines done 0 ∙ ap (λ (n : ℕ). slice_get script.lines n) zero_more ∙ rest.1 in
      let slot : slice_get slots (2 * length image.processes) ≡ Some (Some (line_tick rest.0)) = has.line ∙ ap (λ (o : Option ℕ). Some o) (first_is (drop done script.lines) rest.0 first) in
      let low = has.none_late (2 * length image.processes) (line_tick rest.0) slot in
      let up = has.order done i rest.0 l rest.1 at late in
      omega (arith, low, up);
} where
  first_is : (ls : List Line) (m : Line) → slice_get ls 0 ≡ Some m → first_tick ls ≡ Some (line_tick m)
  first_is [] m at = absurd cc
  first_is (l ∷ ls) m at = let same : l ≡ m = cc in ap (λ (x : Line). Some (line_tick x)) same

pub first_of : (ls : List Line) (k : ℕ) (l : Line) → slice_get ls k ≡ Some l → first_tick (drop k ls) ≡ Some (line_tick l)
first_of [] k l at = absurd cc
first_of (m ∷ ls) zero l at = let same : m ≡ l = cc in ap (λ (x : Line). Some (line_tick x)) same
first_of (m ∷ ls) (suc k) l at = first_of ls k l at

pub first_past : (ls : List Line) (k : ℕ) → length ls ≤ k → first_tick (drop k ls) ≡ None
first_past [] zero past = refl
first_past [] (suc k) past = refl
first_past (m ∷ ls) zero past = absurd (omega arith)
first_past (m ∷ ls) (suc k) past = first_past ls k (omega (arith, past))

-- ---- slots once the lines are done

pub tell_releases : (image : Image) (script : Script) (t done : ℕ) (s : State) (slots slots' : List (Option ℕ)) (next : Option ℕ) → HasDue image script t done s slots → slots' ≡ slice_set slots (2 * length image.processes) next → TellReleases image t slots'
tell_releases image script t done s slots slots' next has set k p tick at slot =
    let below = slice_get_within image.processes k p at in
    let old : slice_get slots k ≡ Some tick = sym (get_other slots (2 * length image.processes) k next (λ same. absurd (omega (arith, same, below)))) ∙ ap (λ (xs : List (Option ℕ)). slice_get xs k) (sym set) ∙ slot in
    due_are_released image script t done k s slots p tick has at old

pub waits_after_lines : (image : Image) (script : Script) (t done : ℕ) (s s' : State) (slots slots' : List (Option ℕ)) (next : Option ℕ) → HasDue image script t done s slots → slots' ≡ slice_set slots (2 * length image.processes) next
    → s' ≡ (lines image t script.lines s).state → HasWaits (length image.processes) s' slots'
waits_after_lines image script t done s s' slots slots' next has set is k tick below slot =
    let n = length image.processes in
    let old : slice_get slots (n + k) ≡ Some tick = sym (get_other slots (2 * n) (n + k) next (λ same. absurd (omega (arith, same, below)))) ∙ ap (λ (xs : List (Option ℕ)). slice_get xs (n + k)) (sym set) ∙ slot in
    has.waits k tick below old ∙ sym (ap (λ (x : State). due_of k x) is ∙ (lines_keep_waits image t script.lines s).waits k)

pub waits_after_releases : (image : Image) (t : ℕ) (s s' : State) (slots slots' : List (Option ℕ)) → HasWaits (length image.processes) s slots → MovedBelow image t (length image.processes) slots slots'
    → s' ≡ (periodic image t 0 image.processes s).state → HasWaits (length image.processes) s' slots'
waits_after_releases image t s s' slots slots' has moved is k tick below slot =
    let old = sym (moved.others (length image.processes + k) (omega arith)) ∙ slot in
    has k tick below old ∙ sym (ap (λ (x : State). due_of k x) is ∙ (periodic_keeps_waits image t 0 image.processes s).waits k)

-- ---- slots in the end

has_frame : (w : Whole) (r : Release) → IsRelease w r → w.kind ≡ 0 → 0 < w.frame
has_frame w (release.Periodic first frame) of kind = let some : 0 < frame = of.3 in omega (arith, some, of.2)
has_frame w (release.Event event) of kind = absurd (omega (arith, of.0, kind))

pub has_frames : (ws : List Whole) (ps : List DecodedProcess) (k : ℕ) (w : Whole) → AreProcesses ws ps → slice_get ws k ≡ Some w → w.kind ≡ 0 → 0 < w.frame
has_frames [] ps k w are at = absurd cc
has_frames (v ∷ ws) [] k w are at = absurd are
has_frames (v ∷ ws) (p ∷ ps) zero w are at = let same : v ≡ w = cc in subst (λ (x : Whole). x.kind ≡ 0 → 0 < x.frame) same (has_frame v p.release are.0.release)
has_frames (v ∷ ws) (p ∷ ps) (suc k) w are at = has_frames ws ps k w are.1 at

pub slots_again : (image : Image) (script : Script) (t done done' : ℕ) (s s' : State) (ps : List DecodedProcess) (slots set moved slots' : List (Option ℕ)) → AreProcesses image.processes ps → HasDue image script t done s slots
    → set ≡ slice_set slots (2 * length image.processes) (first_tick (drop done' script.lines)) → MovedBelow image t (length image.processes) set moved → WaitsAlone (length image.processes) moved slots' → HasWaits (length image.processes) s' slots'
    → AreDone t done' script.lines → length s'.threads ≡ length image.processes → HasSlots image script t done' s' slots'
slots_again image script t done done' s s' ps slots set moved slots' are has is below alone waits lines_are threads = record {
  count = alone.count ∙ below.count ∙ ap length is ∙ length-set slots (2 * length image.processes) (first_tick (drop done' script.lines)) ∙ has.count;
  releases = λ k p tick at slot.
      let n = length image.processes in
      let lt = slice_get_within image.processes k p at in
      let old = some_at slots k (omega (arith, has.count, lt)) in
      let same : slice_get set k ≡ Some old.0 = ap (λ (xs : List (Option ℕ)). slice_get xs k) is ∙ get_other slots (2 * n) k (first_tick (drop done' script.lines)) (λ e. absurd (omega (arith, e, lt))) ∙ old.1 in
      let both : Some tick ≡ Some (moved_on t (Some (t + p.frame)) old.0) = sym slot ∙ alone.releases k lt ∙ below.moved k p old.0 lt at same in
      let new : tick ≡ moved_on t (Some (t + p.frame)) old.0 = cc in
      subst (λ (x : Option ℕ). IsNextRelease t p x) (sym new) (next_release t p old.0 (has_frames image.processes ps k p are at) (has.releases k p old.0 at old.1));
  waits = waits;
  line =
      let n = length image.processes in
      let old = some_at slots (2 * n) (omega (arith, has.count)) in
      alone.line ∙ below.others (2 * n) (omega arith) ∙ ap (λ (xs : List (Option ℕ)). slice_get xs (2 * n)) is ∙ get_set slots (2 * n) (first_tick (drop done' script.lines)) old.0 old.1;
  order = has.order;
  past = lines_are.past;
  threads = λ k x at. (let within = slice_get_within s'.threads k x at in omega (arith, within, threads));
}

pub threads_count : (cs : List ControlBlock) → length (threads_of cs) ≡ length cs
threads_count [] = refl
threads_count (c ∷ cs) = ap suc (threads_count cs)
