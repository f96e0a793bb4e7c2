use Rattle.std.proofs.Common.{◌≡◌, ℕ, List, subst}
use Rattle.image_loaded.specs.Answers.{IsRead, LoadsShape}
use Rattle.image_loaded.proofs.Loaded.{misshapen, of_residual}
use Rattle.image_loaded.proofs.shape.Shape.load.Goals as goal

pub returns-in_err-shape_of : goal.returns-in_err-shape_of
returns-in_err-shape_of c =
    let e : c.as_slice.result.now ≡ c.args.bytes.items = cc in
    let read = subst (λ (bytes : List ℕ). IsRead bytes c.in_ok-raw.raw) e c.in_ok-raw.ensures in
    of_residual (LoadsShape c.args.bytes.items) c.from_residual-in_err-shape_of.result _ c.from_residual-in_err-shape_of.ensures.1
    (misshapen c.args.bytes.items c.in_ok-raw.raw c.in_err-shape_of.field-0.0 read c.in_err-shape_of.ensures)
