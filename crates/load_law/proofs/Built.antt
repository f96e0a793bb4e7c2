-- The names of the image that is built of the load, and the number of its instructions.
use Rattle.std.proofs.Common.{length, ap, subst, ◌∙◌}
use Rattle.built_image_law.specs.Ready.{CheckedProgramsAreReady, IsReady}
use Rattle.built_image.specs.Built.{IsBuilt}
use Rattle.built_image.specs.Named.{names_of}
use Rattle.codegen_law.specs.Whole.{MadeHasItsLength}
use Rattle.syntax_tree.specs.Plain.{Program}
use Rattle.syntax_tree.specs.Placed.{plain}
use Rattle.load.specs.Program.{load_program}
use Rattle.load_text_law.specs.Lines.{HasDevice, IsScriptOfLoad}
use Rattle.load_text_law.specs.Size.{HasLength, IsSameProgram}
use Rattle.load_text_law.specs.Tree.{KeepsLoadTree}
use Rattle.load_law.specs.Texts.{HasInstructions, HasScript}
use Rattle.load_law.proofs.Faults.{same_program}

-- the names are those of the load, whose device `src` is the first
pub has_script : IsScriptOfLoad → HasDevice → KeepsLoadTree → IsSameProgram → HasScript
has_script lines device keeps same key count some few n t =
    let names = t.built.names ∙ ap names_of (same_program keeps same key count few t.tree t.written.program.tree) in
    rw (← names) at (lines (names_of (plain (load_program key count))) 0 key count (device key count) some few)

-- the code is what is made of the program, which is as long as the text says
pub has_instructions : CheckedProgramsAreReady → MadeHasItsLength → KeepsLoadTree → IsSameProgram → HasLength → HasInstructions
has_instructions ready made keeps same long key count some few n t =
    let program = same_program keeps same key count few t.tree t.written.program.tree in
    let built = subst (λ (g : Program). IsBuilt g 0 n) program t.built in
    let of_load = subst (λ (g : Program). IsReady g) program (ready t.tree t.written.program.checked) in
    ap length built.shaped.code.code ∙ made (plain (load_program key count)) of_load.sound ∙ long key count
