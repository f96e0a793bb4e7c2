-- The image of a program without waits is a shape, and where its demand is met it is admitted and can be run.
use Rattle.std.proofs.Common.{◌≡◌, ◌≤◌, ℕ, Some, None, length, arith, ap, subst, sym}
use Rattle.std.specs.Prelude.{slice_get}
use Rattle.std.proofs.lemmas.Option.{slice_get_within, get_or_from_slice_get}
use Rattle.syntax_tree.specs.Placed.{plain}
use Rattle.syntax_tree.specs.Plain.{Program}
use Rattle.source_semantics.specs.Names.{processes}
use Rattle.static_semantics.specs.WellFormed.{ProcessFits, IsWellFormed}
use Rattle.machine_semantics.specs.Image.{Image, Process}
use Rattle.machine_semantics.specs.Safe.{ImageFits}
use Rattle.image.specs.InRange.{IsInRange}
use Rattle.image.specs.Named.{NamedImage}
use Rattle.image.specs.declared.names.ImageNames.{ImageNames}
use Rattle.image_loaded.specs.Shape.{IsShape}
use Rattle.valid_image.specs.Valid.{Operands, Shape, Handlers, Costs, Sizes, Ranks, fault_of_part, shown_of}
use Rattle.valid_image_law.proofs.Parts.{no_part, where_in}
use Rattle.valid_image_law.proofs.Processes.{image_fits, parts_in}
use Rattle.valid_image_law.proofs.Ranking.{within_rank}
use Rattle.loader.specs.Verified.{fault_before_bounds}
use Rattle.loader.proofs.Order.{HasNoFaultBefore, none_before}
use Rattle.script.specs.Scripts.{IsScript}
use Rattle.code_spec.specs.Compiled.{IsCodeOf}
use Rattle.code_cost_spec.specs.Levels.{code_length}
use Rattle.code_measures.specs.Whole.{CodeHasItsLength}
use Rattle.code_measures.proofs.CostPart.{both_none, no_cost_fault}
use Rattle.code_measures.proofs.HandlerPart.{no_handler_fault}
use Rattle.code_measures.proofs.ShapePart.{no_shape_fault}
use Rattle.code_measures.proofs.SizePart.{no_size_fault}
use Rattle.code_measures.proofs.Valid.{no_rank_fault}
use Rattle.built_image.specs.Named.{names_of}
use Rattle.built_image_law.specs.Limits.{ShapedImagesAreInLimits}
use Rattle.built_image_law.specs.Ready.{IsReady, CheckedProgramsAreReady}
use Rattle.built_image_law.specs.Runs.{IsSmallEnough}
use Rattle.built_image_law.specs.Short.{NamesOfTextsAreShort}
use Rattle.built_image_law.specs.Small.{GeneratedCodeIsCode, ProgramsThatKeepSizesAreSmall}
use Rattle.built_image_law.specs.Suits.{ScriptsForTheNamesSuit}
use Rattle.built_image_law.proofs.Activations.{in_limits}
use Rattle.built_image_law.proofs.Texts.{Emitted, emitted}
use Rattle.built_valid_law.specs.Checked.{CheckedOperandsAreInRange}
use Rattle.built_valid_law.specs.Made.{WordsAreFew}
use Rattle.built_valid_law.proofs.Counts.{Counted, counted}
use Rattle.built_valid_law.proofs.Names.{are_names}
use Rattle.built_valid_law.proofs.Plans.{has_plan, stands}
use Rattle.built_valid_law.proofs.Ranges.{in_range}
use Rattle.vm_law.specs.Logged.{AreNamesOf}
use Rattle.vm_law.proofs.There.{all_there}
use Rattle.command_due.specs.Image.{IsEdfImage}
use Rattle.edf_correct.specs.Admitted.{EdfImagesAreAdmitted, EdfImagesAreShapes, EdfImagesCanBeRun, EdfScriptsSuit, WaitlessImagesHaveNoWait}
use Rattle.edf_correct.proofs.WaitFreeCode.{code_free}

-- ---- shapes

-- no deadline of a well-formed program is 0, so no bound of its image
bounds_pass : (g : Program) (m : Image) → IsWellFormed g → IsCodeOf g m → ((k : ℕ) (p : Process) → slice_get m.processes k ≡ Some p → p.bound ≡ p.deadline)
    → (k : ℕ) (p : Process) → slice_get m.processes k ≡ Some p → 1 ≤ p.bound
bounds_pass g m formed code bounds k p at =
    let e : Emitted g m.code (processes g) k p = emitted g m.code 0 code.between (length m.code) (processes g) m.processes code.process_code k p at in
    let fits : ProcessFits g e.text = subst (ProcessFits g) (get_or_from_slice_get (processes g) k e.text e.text e.there) (formed.processes_fit k e.text (slice_get_within (processes g) k e.text e.there)) in
    omega (arith, bounds k p at, e.emits.deadline, (in_limits g e.text.activation fits.activation).deadline_low)

no_fault : (m : Image) → HasNoFaultBefore m → fault_before_bounds m ≡ None
no_fault m none =
    both_none _ _ (ap (λ f. shown_of Operands f) none.operands)
    (both_none _ _ (ap (λ f. shown_of Shape f) none.shape)
    (both_none _ _ (ap (λ f. shown_of Handlers f) none.handlers)
    (both_none _ _ (ap (λ f. shown_of Costs f) none.costs)
    (both_none _ _ (ap (λ f. shown_of Sizes f) none.sizes) (ap (λ f. shown_of Ranks f) none.ranks)))))

-- the image of the program, with its names
same_image : (g : Program) (n : NamedImage) → IsEdfImage g n → ◌≡◌ {A = NamedImage} (record { program = g.name; names = names_of g; image = n.image }) n
same_image g n edf = λ i. record { program = sym edf.program i; names = sym edf.names i; image = n.image }

pub edf_images_are_shapes : CheckedProgramsAreReady → GeneratedCodeIsCode → WordsAreFew → CheckedOperandsAreInRange → ProgramsThatKeepSizesAreSmall → CodeHasItsLength → ShapedImagesAreInLimits → NamesOfTextsAreShort
    → EdfImagesAreShapes
edf_images_are_shapes ready_law code_law words_law operands_law small_law length_law limits_law short_law text g n written edf =
    let p : Program = plain g in
    let m : Image = n.image in
    let checked = written.program.checked in
    let ready : IsReady p = ready_law g checked in
    let code : IsCodeOf p m = code_law g m checked written.fits edf.shaped.code in
    let declares = edf.shaped.declares in
    let shape : fault_of_part m Shape ≡ None = no_shape_fault p m code ready.sound declares in
    let none : HasNoFaultBefore m = record {
      operands = operands_law g m checked code;
      shape = shape;
      handlers = no_handler_fault p m code ready.sound declares _ ready.quiet;
      costs = no_cost_fault p m code ready.sound declares;
      sizes = no_size_fault p m code ready.sound declares (words_law p m ready.formed code);
      ranks = no_rank_fault m edf.shaped.ranks;
    } in
    let counts : Counted p m = counted p m ready.formed.counts_fit ready.sound.few code in
    let small : IsSmallEnough g = small_law g checked written.fits in
    let many : length m.code ≡ code_length p = length_law p m code ready.sound in
    let short : length m.code ≤ 65535 = omega (arith, many, small.code) in
    record {
      limits = limits_law text g 0 m written ready.formed edf.shaped code (bounds_pass p m ready.formed code edf.bounds);
      written = subst IsInRange (same_image p n edf) (in_range p m ready.formed code shape short counts (short_law text g written.program.tree));
      valid = no_fault m none;
    }

-- ---- admitted images

pub waitless_images_have_no_wait : CheckedProgramsAreReady → GeneratedCodeIsCode → WaitlessImagesHaveNoWait
waitless_images_have_no_wait ready_law code_law text g n written none edf =
    let checked = written.program.checked in
    code_free (plain g) none n.image (ready_law g checked) (code_law g n.image checked written.fits edf.shaped.code)

pub edf_images_are_admitted : WaitlessImagesHaveNoWait → EdfImagesAreAdmitted
edf_images_are_admitted law text g n count written none edf answer = record { waitless = law text g n written none edf; over = edf.shaped.overhead; points = count; feasible = answer }

-- ---- their runs

pub edf_images_can_be_run : CheckedProgramsAreReady → GeneratedCodeIsCode → NamesOfTextsAreShort → EdfImagesAreShapes → EdfImagesCanBeRun
edf_images_can_be_run ready_law code_law short_law shape_law text g n written edf =
    let p : Program = plain g in
    let m : Image = n.image in
    let checked = written.program.checked in
    let ready : IsReady p = ready_law g checked in
    let code : IsCodeOf p m = code_law g m checked written.fits edf.shaped.code in
    let is : IsShape n = shape_law text g n written edf in
    let none : HasNoFaultBefore m = none_before m is.valid in
    let counts : Counted p m = counted p m ready.formed.counts_fit ready.sound.few code in
    let fits : ImageFits (where_in m no_part) (parts_in m)
    = image_fits m none.operands none.shape none.handlers none.costs none.sizes is.limits.owners (λ k q at. (let l = is.limits.processes k q at in (l.stack, l.handler, within_rank m none.ranks k q at))) in
    record {
      plan = has_plan p m counts code is.limits none.sizes (all_there m is.limits.owners none.operands none.shape) (stands (where_in m no_part) (parts_in m) fits);
      names = subst (λ (x : ImageNames). AreNamesOf x m) (sym edf.names) (are_names p m counts (short_law text g written.program.tree));
    }

pub edf_scripts_suit : CheckedProgramsAreReady → GeneratedCodeIsCode → ScriptsForTheNamesSuit → EdfScriptsSuit
edf_scripts_suit ready_law code_law suit_law text g n script lines end written edf is =
    let checked = written.program.checked in
    suit_law (plain g) n.image script lines end (ready_law g checked).formed (code_law g n.image checked written.fits edf.shaped.code)
    (subst (λ (x : ImageNames). IsScript x script lines end) edf.names is)
