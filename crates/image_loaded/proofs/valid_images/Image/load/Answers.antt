use Rattle.std.proofs.Common.{◌≡◌, ℕ, List, Err, sym, subst}
use Rattle.std.specs.Prelude.{Result}
use Rattle.image.specs.Named.{NamedImage}
use Rattle.image_loaded.specs.Answers.{IsRead, Loads}
use Rattle.image_loaded.specs.declared.fault.FileFault.{FileFault}
use Rattle.image_loaded.proofs.Loaded.{loads_fault, of_residual}
use Rattle.image_loaded.proofs.valid_images.Image.load.Goals as goal

pub returns-in_err-verified : goal.returns-in_err-verified
returns-in_err-verified c =
    let e : c.as_slice.result.now ≡ c.args.bytes.items = cc in
    let read = subst (λ (bytes : List ℕ). IsRead bytes c.in_ok-raw.raw) e c.in_ok-raw.ensures in
    of_residual (Loads c.args.bytes.items) c.from_residual-in_err-verified.result _ c.from_residual-in_err-verified.ensures.1
    (loads_fault c.args.bytes.items c.in_ok-raw.raw c.in_err-verified.field-0.0 read c.in_err-verified.ensures)
