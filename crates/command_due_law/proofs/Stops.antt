-- A run stops before one tick, and what is due of `watch` is one.
use Rattle.std.proofs.Common.{◌≡◌, ◌<◌, ◌+◌, ℕ, List, Option, Some, None, inl, inr, ap, sym, subst, ◌∙◌, arith}
use Rattle.std.proofs.lemmas.Bool.{cases_lt}
use Rattle.image.specs.Named.{NamedImage}
use Rattle.image.specs.Raw.{named_of}
use Rattle.image.specs.declared.names.ImageNames.{ImageNames}
use Rattle.image.specs.declared.raw.RawImage.{RawImage}
use Rattle.machine_semantics.specs.Image.{Image, Script}
use Rattle.script.specs.declared.script.ScriptLine.{ScriptLine}
use Rattle.script.specs.declared.fault.ScriptFault.{ScriptFault}
use Rattle.script.specs.Scripts.{IsScript}
use Rattle.script.specs.Faults.{IsFault}
use Rattle.script.specs.Script.{IsOneScript}
use Rattle.script.specs.OneAnswer.{NoScriptIsFaulty, FaultsAreOne}
use Rattle.command_due.specs.Script.{run_of}
use Rattle.command_due.specs.CommandsDue.{Outcome, told, bad_script, IsImageFile, IsImageRefused}
use Rattle.command_due.specs.Stops.{IsStop, IsFirstEffect}
use Rattle.command_due.specs.Text.{stop_text}
use Rattle.command_due.specs.StopDue.{IsStopText, IsWatchDue, watch_refused, watch_bad_script, watched}
use Rattle.command_words.specs.declared.stop.Breakpoint.{Breakpoint}
use Rattle.command_words.specs.declared.stop.Breakpoint.TheVariants.{Tick, Effect}
use Rattle.command_due_law.specs.DueOnce.{ImagesHeldAreOne, ImageFilesAreNotRefused, ImageRefusalsAreOne, StopsAreOne, WatchIsOne}
use Rattle.command_due_law.proofs.DueOnceScripts.{text_once}

-- two ticks of a first effect are one
first_once : (image : Image) (script : Script) (address t other : ℕ) → IsFirstEffect image script address t → IsFirstEffect image script address other → t ≡ other
first_once image script address t other one two = elim (cases_lt t other) [
  | inl below ↦ absurd (two.first t below one.is)
  | inr above ↦ elim (cases_lt other t) [
    | inl below ↦ absurd (one.first other below two.is)
    | inr also ↦ omega (arith, above, also)
  ]
]

pub stops_are_one : StopsAreOne
stops_are_one image script (Tick tick) t other one two = one ∙ sym two
stops_are_one image script (Effect address) t other (inl one) (inl two) =
    one.2 ∙ (ap (λ x. x + 1) (first_once image script address one.0 two.0 one.1 two.1) ∙ sym two.2)
stops_are_one image script (Effect address) t other (inl one) (inr two) = absurd (two.0 one.0 one.1.before one.1.is)
stops_are_one image script (Effect address) t other (inr one) (inl two) = absurd (one.0 two.0 two.1.before two.1.is)
stops_are_one image script (Effect address) t other (inr one) (inr two) = one.1 ∙ sym two.1

stop_text_once : StopsAreOne → (n : NamedImage) (lines : List ScriptLine) (end : ℕ) (stop : Breakpoint) (text other : List ℕ) → IsStopText n lines end stop text → IsStopText n lines end stop other → text ≡ other
stop_text_once stops n lines end stop text other one two =
    one.2 ∙ (ap (stop_text n (run_of lines end)) (stops n.image (run_of lines end) stop one.0 two.0 one.1 two.1) ∙ sym two.2)

-- what comes of an image that is valid, by the script's text
data Seen (stop : Breakpoint) (n : NamedImage) (script : Option (List ℕ)) (outcome : Outcome) : Type 0 where
  faulty : (other : List ℕ) (fault : ScriptFault) → script ≡ Some other → IsFault n.names other fault → outcome ≡ bad_script fault → Seen stop n script outcome
  seen : (other : List ℕ) (lines : List ScriptLine) (end : ℕ) (text : List ℕ) → script ≡ Some other → IsScript n.names other lines end
      → IsStopText n lines end stop text → outcome ≡ told 0 text → Seen stop n script outcome

seen_once : IsOneScript → NoScriptIsFaulty → FaultsAreOne → StopsAreOne → (stop : Breakpoint) (n : NamedImage) (script : Option (List ℕ)) (outcome other : Outcome)
    → Seen stop n script outcome → Seen stop n script other → outcome ≡ other
seen_once scripts apart faults stops stop n script outcome other first second = by first second
  where
    by : Seen stop n script outcome → Seen stop n script other → outcome ≡ other
    by (faulty text fault held is was) (faulty text' fault' held' is' was') =
        let same : fault ≡ fault' = faults n.names text fault fault' is (subst (λ t. IsFault n.names t fault') (text_once script text' text held' held) is') in
        was ∙ (ap bad_script same ∙ sym was')
    by (faulty text fault held is was) (seen text' lines end lines_told held' script_is tells was') =
        absurd (apart n.names text' lines end fault script_is (subst (λ t. IsFault n.names t fault) (text_once script text text' held held') is))
    by (seen text lines end lines_told held script_is tells was) (faulty text' fault held' is' was') =
        absurd (apart n.names text lines end fault script_is (subst (λ t. IsFault n.names t fault) (text_once script text' text held' held) is'))
    by (seen text lines end shown held is tells was) (seen text' lines' end' shown' held' is' tells' was') =
        let same = scripts n.names text lines lines' end end' is (subst (λ t. IsScript n.names t lines' end') (text_once script text' text held' held) is') in
        let moved : IsStopText n lines' end' stop shown =
        subst (λ (e : ℕ). IsStopText n lines' e stop shown) same.1 (subst (λ (ls : List ScriptLine). IsStopText n ls end stop shown) same.0 tells) in
        was ∙ (ap (told 0) (stop_text_once stops n lines' end' stop shown shown' moved tells') ∙ sym was')

-- bytes are refused, or this comes of their image
data Tried (stop : Breakpoint) (bytes : List ℕ) (script : Option (List ℕ)) (outcome : Outcome) : Type 0 where
  unfit : IsImageRefused bytes outcome → Tried stop bytes script outcome
  fit : (raw : RawImage) → IsImageFile bytes raw → Seen stop (named_of raw) script outcome → Tried stop bytes script outcome

module _ (images : ImagesHeldAreOne) (apart : ImageFilesAreNotRefused) (refusals : ImageRefusalsAreOne) where
  tried_once : IsOneScript → NoScriptIsFaulty → FaultsAreOne → StopsAreOne → (stop : Breakpoint) (bytes : List ℕ) (script : Option (List ℕ)) (outcome other : Outcome)
      → Tried stop bytes script outcome → Tried stop bytes script other → outcome ≡ other
  tried_once scripts never faults stops stop bytes script outcome other (unfit one) (unfit two) = refusals bytes outcome other one two
  tried_once scripts never faults stops stop bytes script outcome other (unfit one) (fit raw is comes) = absurd (apart bytes raw outcome is one)
  tried_once scripts never faults stops stop bytes script outcome other (fit raw is comes) (unfit two) = absurd (apart bytes raw other is two)
  tried_once scripts never faults stops stop bytes script outcome other (fit raw one comes) (fit raw' two came) =
      seen_once scripts never faults stops stop (named_of raw) script outcome other comes
      (subst (λ (i : NamedImage). Seen stop i script other) (images bytes raw' raw two one) came)

  pub watch_is_one : IsOneScript → NoScriptIsFaulty → FaultsAreOne → StopsAreOne → WatchIsOne
  watch_is_one scripts never faults stops stop image script outcome other first second =
      let one = tried outcome first in
      let two = tried other second in
      tried_once scripts never faults stops stop one.0 script outcome other one.2
      (subst (λ bs. Tried stop bs script other) (text_once image two.0 one.0 two.1 one.1) two.2)
    where
      tried : (o : Outcome) → IsWatchDue stop image script o → (bytes : List ℕ) × (image ≡ Some bytes) × Tried stop bytes script o
      tried o (watch_refused bytes held is) = (bytes, held, unfit is)
      tried o (watch_bad_script bytes other raw fault held is script_held fault_is was) = (bytes, held, fit raw is (faulty other fault script_held fault_is.is was))
      tried o (watched bytes other raw lines end text held is script_held script_is tells was) = (bytes, held, fit raw is (seen other lines end text script_held script_is tells was))
