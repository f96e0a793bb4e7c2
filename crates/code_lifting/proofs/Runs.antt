-- The runs of the image of a program are source runs of the program.
use Rattle.std.proofs.Common.{ℕ, Option, Some, None, sym, subst}
use Rattle.std.specs.Prelude.{slice_get}
use Rattle.syntax_tree.specs.Plain as tree
use Rattle.source_semantics.specs.Names.{processes}
use Rattle.machine_semantics.specs.Image.{Process}
use Rattle.machine_semantics.specs.Effect.{Own}
use Rattle.code_spec.specs.Boundary.{View, IsFaithful}
use Rattle.code_lifting.specs.Related.{Whole}
use Rattle.code_lifting.specs.Compiled.{script_of}
use Rattle.code_spec.proofs.Following.{Always, right_is_faithful}
use Rattle.code_lifting.proofs.Kept.{valid_runs_are_kept}
use Rattle.code_lifting.proofs.Run.{run_is_source_run}
use Rattle.code_lifting.specs.Image.{FreeHolds, RestHolds, compiled_of, AreRight, whole, RunsAreSourceRuns}
use Rattle.code_lifting.proofs.Assembled.{r, AreFaithful, is_compiled}

-- process k follows the source meaning for any number of ticks, where both have such a process
abbrev pub stands_of : Whole → ℕ → Option Process → Option tree.Process → Own → View → Type 0
stands_of w k (Some p) (Some text) o v = Always (compiled_of w k p text) (FreeHolds w) (RestHolds w k) o v
stands_of w k None text o v = ⊥
stands_of w k (Some p) None o v = ⊥

abbrev pub stands : Whole → ℕ → Own → View → Type 0
stands w k o v = stands_of w k (slice_get w.image.processes k) (slice_get (processes w.program) k) o v

pub faithful : (w : Whole) → AreRight w → AreFaithful w (stands w)
faithful w right k p text a b at_p at_text emits =
    subst (λ (x : Option Process). IsFaithful (compiled_of w k p text) (λ o v. stands_of w k x (slice_get (processes w.program) k) o v) (FreeHolds w) (RestHolds w k)) (sym at_p)
    (subst (λ (x : Option tree.Process). IsFaithful (compiled_of w k p text) (λ o v. stands_of w k (Some p) x o v) (FreeHolds w) (RestHolds w k)) (sym at_text)
    (right_is_faithful (compiled_of w k p text) (FreeHolds w) (RestHolds w k) (right k p text a b at_p at_text emits)))

pub runs_are_source_runs : RunsAreSourceRuns
runs_are_source_runs e ps g script fits is right ordered no_overrun =
    let w : Whole = whole e.image g in
    run_is_source_run w (r w (stands w)) (is_compiled w (stands w) is (faithful w right)) script ordered (valid_runs_are_kept e ps (script_of script) fits no_overrun)
