-- The image of a program, all but its bounds.
use Rattle.std.proofs.Common.{◌≡◌, ◌≤◌, ◌∙◌, ℕ, suc, List, [], ◌∷◌, length, map, Some, arith, refl, ap, subst}
use Rattle.std.specs.Prelude.{slice_get}
use Rattle.std.proofs.lemmas.List.{length-map}
use Rattle.std.proofs.lemmas.Option.{slice_get_within, get_or_from_slice_get}
use Rattle.syntax_tree.specs.declared.place.Place.{Place}
use Rattle.syntax_tree.specs.Placed as placed
use Rattle.syntax_tree.specs.Placed.{plain}
use Rattle.syntax_tree.specs.Plain.{Process, Program}
use Rattle.source_semantics.specs.Names.{processes}
use Rattle.machine_semantics.specs.Image as image
use Rattle.image.specs.declared.raw.RawImage.{RawImage}
use Rattle.image.specs.Raw.{image_of, named_of, process_of}
use Rattle.codegen_spec.specs.declared.code.ProcessParts.{ProcessParts}
use Rattle.codegen_spec.specs.Parts.{program_made}
use Rattle.codegen_spec.specs.Held.{HoldProcesses}
use Rattle.code_spec.specs.Compiled.{IsCodeOf}
use Rattle.code_cost_spec.specs.Levels.{code_length}
use Rattle.code_measures.specs.Whole.{HasRanks, CodeHasItsLength}
use Rattle.static_semantics.specs.WellFormed.{ProcessFits, IsWellFormed}
use Rattle.built_image_law.specs.Ready.{IsReady, CheckedProgramsAreReady}
use Rattle.built_image_law.specs.Runs.{IsSmallEnough}
use Rattle.built_image_law.specs.Small.{GeneratedCodeIsCode, ProgramsThatKeepSizesAreSmall}
use Rattle.front_end.specs.Program.{IsProgramOf}
use Rattle.built_image.specs.Built.{IsShaped}
use Rattle.built_image.specs.Filled.{DiffersInRanks}
use Rattle.built_image_law.specs.Filled.{Each}
use Rattle.built_image_law.specs.FilledLaws.{RankedImagesAreShaped}
use Rattle.built_image_law.proofs.Texts.{Emitted, emitted}
use Rattle.built_image_law.specs.Limits.{ShapedImagesAreInLimits}
use Rattle.built_image_law.proofs.Activations.{InLimits, in_limits}
use Rattle.compile.specs.Build.{KeepsSizes}
use Rattle.compile.specs.Steps.{IsAssembled, IsRanked}

-- ---- processes

as_many : (g : Program) (ts : List Process) (xs : List ProcessParts) (ps : List image.Process) → HoldProcesses g ts xs ps → length ps ≡ length ts
as_many g [] [] [] h = refl
as_many g [] [] (p ∷ ps) h = absurd h
as_many g [] (x ∷ xs) ps h = absurd h
as_many g (t ∷ ts) [] ps h = absurd h
as_many g (t ∷ ts) (x ∷ xs) [] h = absurd h
as_many g (t ∷ ts) (x ∷ xs) (p ∷ ps) h = ap (λ (n : ℕ). suc n) (as_many g ts xs ps h.1)

pub few_processes : (g : placed.Prog Place) (over : ℕ) (raw : RawImage) → IsReady (plain g) → IsAssembled g over raw → length raw.processes ≤ 64
few_processes g over raw ready put =
    let many : length (map process_of raw.processes) ≡ length (processes (plain g)) =
    as_many (plain g) (processes (plain g)) (program_made (plain g)).processes (map process_of raw.processes) put.holds.bodies in
    omega (arith, many, length-map raw.processes process_of, ready.formed.counts_fit.few_processes)

-- ---- bounds

-- a deadline is at least 10
pub no_bound_is_0 : (g : Program) (m : image.Image) → IsWellFormed g → IsCodeOf g m → Each (λ k p. p.bound ≡ p.deadline) m.processes
    → (k : ℕ) (p : image.Process) → slice_get m.processes k ≡ Some p → 1 ≤ p.bound
no_bound_is_0 g m formed code bounds k p at =
    let e : Emitted g m.code (processes g) k p = emitted g m.code 0 code.between (length m.code) (processes g) m.processes code.process_code k p at in
    let fits : ProcessFits g e.text =
    subst (ProcessFits g) (get_or_from_slice_get (processes g) k e.text e.text e.there)
    (formed.processes_fit k e.text (slice_get_within (processes g) k e.text e.there)) in
    let l : InLimits g e.text.activation = in_limits g e.text.activation fits.activation in
    omega (arith, l.deadline_low, e.emits.deadline, bounds k p at)

-- ---- the whole

pub is_ranked : CheckedProgramsAreReady → ProgramsThatKeepSizesAreSmall → GeneratedCodeIsCode → CodeHasItsLength → RankedImagesAreShaped → ShapedImagesAreInLimits
    → (text : List ℕ) (g : placed.Prog Place) (over : ℕ) (before now : RawImage) → IsProgramOf text g → KeepsSizes g → IsAssembled g over before
    → DiffersInRanks (named_of before) (named_of now) → HasRanks (image_of now) → Each (λ k p. p.bound ≡ p.deadline) (image_of now).processes → IsRanked g over now
is_ranked ready_law small_law code_law length_law shape_law limit_law text g over before now written fits put same ranks bounds =
    let ready : IsReady (plain g) = ready_law g written.checked in
    let small : IsSmallEnough g = small_law g written.checked fits in
    let shaped : IsShaped (plain g) over (image_of now) = shape_law (plain g) over (image_of before) (image_of now) put.overhead put.holds put.declares same.image ranks in
    let code : IsCodeOf (plain g) (image_of now) = code_law g (image_of now) written.checked fits shaped.code in
    let long : length now.code ≡ code_length (plain g) = length_law (plain g) (image_of now) code ready.sound in
    record {
      fits = fits;
      program = same.program ∙ put.program;
      names = same.names ∙ put.names;
      shaped = shaped;
      limits = limit_law text g over (image_of now) (record { program = written; fits = fits }) ready.formed shaped code (no_bound_is_0 (plain g) (image_of now) ready.formed code bounds);
      code = omega (arith, long, small.code);
    }
