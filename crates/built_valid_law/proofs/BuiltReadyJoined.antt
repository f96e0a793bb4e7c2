-- The image that is built of a program can be run and stored.
use Rattle.std.proofs.Common.{◌≡◌, ◌≤◌, ℕ, length, arith, sym, subst}
use Rattle.syntax_tree.specs.Placed.{plain}
use Rattle.syntax_tree.specs.Plain.{Program}
use Rattle.machine_semantics.specs.Image.{Image}
use Rattle.image.specs.Named.{NamedImage}
use Rattle.valid_image.specs.Valid.{HasLimits, IsValid, Shape, Sizes}
use Rattle.valid_image_law.specs.ValidLaw.{ValidMeetsPremises}
use Rattle.vm_law.specs.Operands.{ValidOperandsAreThere}
use Rattle.code_cost_spec.specs.Levels.{code_length}
use Rattle.code_measures.specs.Whole.{CodeHasItsLength}
use Rattle.built_image_law.specs.Ready as checked_of
use Rattle.built_image_law.specs.Ready.{CheckedProgramsAreReady, IsImageMade}
use Rattle.built_valid_law.specs.Checked.{CheckedImagesAreValid}
use Rattle.built_image_law.specs.Runs.{IsSmallEnough}
use Rattle.built_image_law.specs.Small.{ProgramsThatKeepSizesAreSmall}
use Rattle.built_image.specs.Built.{IsBuilt}
use Rattle.built_image.specs.Named.{names_of}
use Rattle.built_valid_law.specs.Made.{BuiltImagesAreMade}
use Rattle.built_image_law.specs.Limits.{BuiltImagesAreInLimits}
use Rattle.built_image_law.specs.Suits.{NamesHaveFrames}
use Rattle.vm_law.specs.Suits.{HasFrames}
use Rattle.built_image_law.specs.Short.{NamesAreShort, NamesOfTextsAreShort}
use Rattle.built_valid_law.specs.Ready.{BuiltImagesAreReady, IsReady}
use Rattle.built_valid_law.proofs.Counts.{Counted, counted}
use Rattle.built_valid_law.proofs.Plans.{has_plan}
use Rattle.built_valid_law.proofs.Names.{are_names}
use Rattle.built_valid_law.proofs.Ranges.{in_range}
use Rattle.vm_plan.proofs.Planned.{stands as standing}

-- the image that is built of a program is its image, with its names
same_image : (g : Program) (over : ℕ) (n : NamedImage) → IsBuilt g over n → ◌≡◌ {A = NamedImage} (record { program = g.name; names = names_of g; image = n.image }) n
same_image g over n built = λ i. record { program = sym built.program i; names = sym built.names i; image = n.image }

pub built_images_are_ready : CheckedProgramsAreReady → ProgramsThatKeepSizesAreSmall → BuiltImagesAreMade → BuiltImagesAreInLimits → CheckedImagesAreValid
    → ValidOperandsAreThere → ValidMeetsPremises → CodeHasItsLength → NamesOfTextsAreShort → NamesHaveFrames → BuiltImagesAreReady
built_images_are_ready ready_law small_law made_law limits_law valid_law operands_law premises_law length_law short_law frames_law text g over n written built =
    let p : Program = plain g in
    let m : Image = n.image in
    let ready : checked_of.IsReady p = ready_law g written.program.checked in
    let small : IsSmallEnough g = small_law g written.program.checked written.fits in
    let made : IsImageMade p m = made_law g over n small built in
    let limits : HasLimits m = limits_law text g over n written ready.formed built made.code in
    let valid : IsValid m = valid_law g m written.program.checked made in
    let many : length m.code ≡ code_length p = length_law p m made.code ready.sound in
    let short : length m.code ≤ 65535 = omega (arith, many, small.code) in
    let names : NamesAreShort p = short_law text g written.program.tree in
    let counts : Counted p m = counted p m ready.formed.counts_fit ready.sound.few made.code in
    let frames : HasFrames (names_of p) m = frames_law p m ready.formed made.code in
    let of_program : IsReady (record { program = p.name; names = names_of p; image = m }) = record {
      limits = limits;
      valid = valid;
      plan = has_plan p m counts made.code limits (valid Sizes) (operands_law m limits valid) (standing m (premises_law m limits valid));
      names = are_names p m counts names;
      range = in_range p m ready.formed made.code (valid Shape) short counts names;
      frames = frames;
      devices = omega (arith, counts.device_names, counts.devices);
      events = omega (arith, counts.events);
    } in
    subst (λ (x : NamedImage). IsReady x) (same_image p over n built) of_program
