-- What is told of a call that reads an image and a script.
use Rattle.std.proofs.Common.{ℕ, List, Bool, Ok, Err, ap, ◌≢◌}
use Rattle.std.specs.Prelude.{IfOk, IsSomeAnd, Result}
use Rattle.std.specs.Bool.{OnTrue}
use Rattle.image.specs.Named.{NamedImage}
use Rattle.outside.specs.Outside.{AllStay}
use Rattle.image_loaded.specs.Shape.{AreOfValid}
use Rattle.command_answers.specs.declared.act.PreparedCall.{PreparedCall}
use Rattle.command_answers.specs.Acts.{number_of, outcome_of}
use Rattle.command_answers.specs.Files.{Held}
use Rattle.command_refusals.specs.Refusals.{Explains, HasImageNames, IsScriptedTold}
use Rattle.command_refusals.specs.Told.{IsImageTold, IsScriptTold}
use Rattle.command_refusals.proofs.Explaining.{explained_script}
use Rattle.command_images.proofs.Files.{image_file}

-- what is told of an act
abbrev pub IsReadTold : (image script : List ℕ) → Held → (message : List ℕ) → PreparedCall → Type 0
IsReadTold image script held message act =
    Explains (IsScriptedTold (λ bytes. IsImageTold image bytes (outcome_of act) message) HasImageNames script (held image) (held script) (outcome_of act) message) act

-- the image is valid, and the script is told for its names
pub script_explained : {E : Type 0} (tells : Bool) (image script : List ℕ) (before mid : Held) (message : List ℕ) (P : List ℕ → Type 0) (n : NamedImage) (made : Result PreparedCall E)
    → OnTrue tells (IsSomeAnd (before image) P) → ((bytes : List ℕ) → P bytes → AreOfValid bytes n) → AllStay before mid
    → IfOk made (λ act. OnTrue tells (IsSomeAnd (mid script) (λ text. Explains (IsScriptTold n.names script text (outcome_of act) message) act)))
    → IfOk made (λ act. OnTrue tells (IsReadTold image script before message act))
script_explained tells image script before mid message P n (Ok act) is loads stays told =
    explained_script (λ bytes. IsImageTold image bytes (outcome_of act) message) HasImageNames script (outcome_of act) message tells (before image) (before script) (mid script) P n.names
    (number_of act.status ≢ 0) is (λ bytes p. ((loads bytes p).file.raw, image_file bytes n (loads bytes p), ap (λ (x : NamedImage). x.names) (loads bytes p).file.image)) told (stays script)
script_explained tells image script before mid message P n (Err why) is loads stays told = tt
