-- From a text without waits to its runs under earliest deadline first.
use Rattle.syntax_tree.specs.Placed.{plain}
use Rattle.machine_semantics.specs.Image.{Image}
use Rattle.code_lifting.specs.Compiled.{script_of}
use Rattle.code_spec.specs.Compiled.{IsCodeOf}
use Rattle.code_correct.specs.Headline.{WellFormedCodeIsRight}
use Rattle.code_lifting.specs.Image.{IsImageOf, AreRight, whole}
use Rattle.built_tasks_law.specs.Images.{CheckedCodeIsAnImage}
use Rattle.built_image_law.specs.Ready.{IsReady, CheckedProgramsAreReady}
use Rattle.built_image_law.specs.Small.{GeneratedCodeIsCode}
use Rattle.built_image_law.specs.Suits.{ScriptsAreInOrder}
use Rattle.image_loaded.specs.Shape.{IsShape}
use Rattle.loader.proofs.Order.{HasNoFaultBefore, none_before}
use Rattle.valid_image_law.proofs.Parts.{no_part, where_in}
use Rattle.valid_image_law.proofs.Processes.{parts_in}
use Rattle.vm_law.specs.Suits.{Suits}
use Rattle.script.specs.Meaning.{said}
use Rattle.command_due.specs.Script.{run_of}
use Rattle.edf_semantics.specs.InTime.{MeetsDeadlines}
use Rattle.edf_admission.specs.Admitted.{IsAdmitted}
use Rattle.edf_admission.specs.Runs.{EveryAdmittedShapeMeetsDeadlines, IsEdfSafe}
use Rattle.edf_admission.proofs.Premises.{fits, is_waitless}
use Rattle.edf_correct.specs.Admitted.{EdfImagesAreAdmitted, EdfImagesAreShapes, EdfScriptsSuit}
use Rattle.edf_correct.specs.EdfLaws.{CompiledRunsAreRuns, EdfRunsAreRight, EdfImagesKeepTheirWord}

pub edf_runs_are_right : CheckedProgramsAreReady → GeneratedCodeIsCode → CheckedCodeIsAnImage → WellFormedCodeIsRight → EdfImagesAreShapes → EdfImagesAreAdmitted → EveryAdmittedShapeMeetsDeadlines → CompiledRunsAreRuns
    → EdfRunsAreRight
edf_runs_are_right ready_law code_law image_law right_law shape_law admitted_law meets_law runs_law text g n count script written no_wait edf answer ordered frames short =
    let m : Image = n.image in
    let checked = written.program.checked in
    let ready : IsReady (plain g) = ready_law g checked in
    let code : IsCodeOf (plain g) m = code_law g m checked written.fits edf.shaped.code in
    let is : IsImageOf (whole m (plain g)) = image_law g m checked code edf.shaped.ranks in
    let right : AreRight (whole m (plain g)) = right_law (whole m (plain g)) is ready.formed ready.apart in
    let shape : IsShape n = shape_law text g n written edf in
    let admitted : IsAdmitted m = admitted_law text g n count written no_wait edf answer in
    let none : HasNoFaultBefore m = none_before m shape.valid in
    let runs = meets_law n shape admitted in
    let safe : IsEdfSafe m (script_of script) = runs.0 (script_of script) in
    let met : MeetsDeadlines m (script_of script) = runs.1 (script_of script) frames short in
    record {
      never_stuck = safe.never_stuck;
      stacks = safe.stacks;
      words = safe.words;
      apart = safe.apart;
      ready = safe.ready;
      deadlines = met;
      run = runs_law (where_in m no_part) (parts_in m) (plain g) script (fits m none shape.limits admitted.over admitted.waitless) (is_waitless m none shape.limits admitted.over admitted.waitless)
          is right ordered met.no_overrun;
    }

pub edf_images_keep_their_word : EdfScriptsSuit → ScriptsAreInOrder → EdfRunsAreRight → EdfImagesKeepTheirWord
edf_images_keep_their_word suit_law order_law runs_law text g n count written no_wait edf answer script lines end is_script =
    let s : Suits n.image (run_of lines end) = suit_law text g n script lines end written edf is_script in
    runs_law text g n count (said lines end) written no_wait edf answer (order_law n.names script lines end is_script) s.frames s.end
