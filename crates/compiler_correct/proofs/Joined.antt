-- The image that is built of a program is faithful to it.
use Rattle.std.proofs.Common.{◌≡◌, ℕ, List, sym, subst}
use Rattle.syntax_tree.specs.Placed.{Prog, plain}
use Rattle.syntax_tree.specs.declared.place.Place.{Place}
use Rattle.source_semantics.specs.Source.{IsSourceRun}
use Rattle.machine_semantics.specs.Image.{Image}
use Rattle.machine_semantics.specs.Run.{events}
use Rattle.image.specs.declared.names.ImageNames.{ImageNames}
use Rattle.image.specs.Named.{NamedImage}
use Rattle.valid_image.specs.Valid.{IsValid, HasLimits}
use Rattle.valid_image_law.specs.ValidLaw.{MeetsPremises, ValidMeetsPremises, EveryValidImageIsSafeAndInTime}
use Rattle.sched_timing.specs.Timed.{RespectsFrames}
use Rattle.static_semantics.specs.Static.{IsChecked}
use Rattle.code_lifting.specs.Image.{IsImageOf, whole}
use Rattle.built_image_law.specs.Ready.{IsImageMade, CheckedProgramsAreReady}
use Rattle.code_correct.specs.Ready.{CheckedProgramsRun}
use Rattle.built_valid_law.specs.Checked.{CheckedImagesAreValid}
use Rattle.built_tasks_law.specs.Images.{CheckedImagesAreImages}
use Rattle.built_image_law.specs.Runs.{IsSmallEnough}
use Rattle.built_image_law.specs.Small.{ProgramsThatKeepSizesAreSmall}
use Rattle.script.specs.declared.script.ScriptLine.{ScriptLine}
use Rattle.script.specs.Scripts.{IsScript}
use Rattle.built_image.specs.Named.{names_of}
use Rattle.built_valid_law.specs.Made.{BuiltImagesAreMade}
use Rattle.built_image_law.specs.Limits.{BuiltImagesAreInLimits}
use Rattle.built_image_law.specs.Suits.{ScriptsAreInOrder, ScriptsForTheNamesSuit}
use Rattle.vm_law.specs.Suits.{Suits}
use Rattle.script.specs.Meaning.{said}
use Rattle.command_due.specs.Script.{run_of}
use Rattle.command_due.specs.Runs.{IsKept, IsFaithful, BuiltImagesAreFaithful}
use Rattle.compiler_correct.specs.Made.{MadeImagesAreFaithful}

module _ (ready : CheckedProgramsAreReady) (valid_law : CheckedImagesAreValid) (images : CheckedImagesAreImages) (run_law : CheckedProgramsRun)
    (premises_law : ValidMeetsPremises) (safe_law : EveryValidImageIsSafeAndInTime) (suit_law : ScriptsForTheNamesSuit) (order_law : ScriptsAreInOrder)
    (g : Prog Place) (n : NamedImage) (checked : IsChecked g) (names : n.names ≡ names_of (plain g)) (made : IsImageMade (plain g) n.image) (limits : HasLimits n.image) where
  is_valid : IsValid n.image
  is_valid = valid_law g n.image checked made

  premises : MeetsPremises n.image
  premises = premises_law n.image limits is_valid

  suits : (text : List ℕ) (lines : List ScriptLine) (end : ℕ) → IsScript n.names text lines end → Suits n.image (run_of lines end)
  suits text lines end script =
      suit_law (plain g) n.image text lines end (ready g checked).formed made.code
      (subst (λ (x : ImageNames). IsScript x text lines end) names script)

  runs : (text : List ℕ) (lines : List ScriptLine) (end : ℕ) → IsScript n.names text lines end
      → IsSourceRun (plain g) (said lines end) (events n.image (run_of lines end))
  runs text lines end script =
      let m : MeetsPremises n.image = premises in
      let s : Suits n.image (run_of lines end) = suits text lines end script in
      let is : IsImageOf (whole m.e.image (plain g)) = subst (λ (x : Image). IsImageOf (whole x (plain g))) (sym m.of) (images g n.image checked made) in
      let frames : RespectsFrames m.e.image (run_of lines end) = subst (λ (x : Image). RespectsFrames x (run_of lines end)) (sym m.of) s.frames in
      subst (λ (x : Image). IsSourceRun (plain g) (said lines end) (events x (run_of lines end))) m.of
      (run_law m.e m.ps g (said lines end) m.fits m.timed is checked (order_law n.names text lines end script) frames).0

  keeps : (text : List ℕ) (lines : List ScriptLine) (end : ℕ) → IsScript n.names text lines end → IsKept n.image lines end
  keeps text lines end script =
      let s : Suits n.image (run_of lines end) = suits text lines end script in
      let both = safe_law n.image limits is_valid in
      record { in_time = both.1 (run_of lines end) s.frames; safe = both.0 (run_of lines end) }

  is_faithful : IsFaithful (plain g) n
  is_faithful = record { valid = is_valid; runs = runs; keeps = keeps }

pub made_images_are_faithful : CheckedProgramsAreReady → CheckedImagesAreValid → CheckedImagesAreImages → CheckedProgramsRun
    → ValidMeetsPremises → EveryValidImageIsSafeAndInTime → ScriptsForTheNamesSuit → ScriptsAreInOrder → MadeImagesAreFaithful
made_images_are_faithful = is_faithful

pub built_images_are_faithful : CheckedProgramsAreReady → ProgramsThatKeepSizesAreSmall → BuiltImagesAreMade → BuiltImagesAreInLimits → MadeImagesAreFaithful → BuiltImagesAreFaithful
built_images_are_faithful ready small_law made_law limits_law faithful text g over n written built =
    let small : IsSmallEnough g = small_law g written.program.checked written.fits in
    let made : IsImageMade (plain g) n.image = made_law g over n small built in
    faithful g n written.program.checked built.names made (limits_law text g over n written (ready g written.program.checked).formed built made.code)
