-- The runs of the image of a program under earliest deadline first are runs of the program in which any ready process may act.
use Rattle.code_lifting.specs.Related.{Whole}
use Rattle.code_lifting.specs.Compiled.{script_of}
use Rattle.code_lifting.specs.Image.{whole}
use Rattle.code_lifting.proofs.Assembled.{r, is_compiled}
use Rattle.edf_semantics.proofs.Kept.{waitless_runs_are_kept}
use Rattle.edf_semantics.proofs.Run.{run_is_any_run}
use Rattle.edf_correct.specs.EdfLaws.{CompiledRunsAreRuns}
use Rattle.code_lifting.proofs.Runs.{faithful, stands}

pub compiled_runs_are_runs : CompiledRunsAreRuns
compiled_runs_are_runs e ps g script fits waitless is right ordered no_overrun =
    let w : Whole = whole e.image g in
    run_is_any_run w (r w (stands w)) (is_compiled w (stands w) is (faithful w right)) script ordered (waitless_runs_are_kept e ps (script_of script) fits waitless no_overrun)
