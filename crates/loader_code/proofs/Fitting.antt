-- Code that fits a tree has a cost and a depth.
use Rattle.std.proofs.Common.{◌≡◌, ℕ, Bool, true, List, Option, Some, None, refl}
use Rattle.machine_isa.specs.declared.instr.Instr.{Instr}
use Rattle.machine_semantics.specs.Trees.{Segs}
use Rattle.loader_code.specs.Whole.{is_fitting, whole}
use Rattle.valid_image.specs.Found.{Found, Known, ended}
use Rattle.valid_image.specs.Shape.{is_found}
use Rattle.valid_image.specs.Tables.{count}

pub found_before_its_end : (n : ℕ) (x : Option Found) → is_found (ended n x) ≡ true → is_found x ≡ true
found_before_its_end n None is = is
found_before_its_end n (Some f) is = refl

pub fitting_is_found : (code : List Instr) (known : List Known) (gives : Bool) (tree : Segs) (at : ℕ) → is_fitting code known gives tree at ≡ true → is_found (whole code known tree at) ≡ true
fitting_is_found code known gives tree at fits = found_before_its_end (count gives) (whole code known tree at) fits
