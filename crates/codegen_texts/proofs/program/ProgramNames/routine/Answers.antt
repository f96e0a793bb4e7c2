use Rattle.std.proofs.Common.{◌∙◌, ap, sym}
use Rattle.syntax_tree.specs.Placed.{placed, plain}
use Rattle.syntax_tree.specs.declared.decl.Program.{Program}
use Rattle.code_spec.specs.Numbering.{routine_in}
use Rattle.codegen_spec.specs.Told.{told_callee}
use Rattle.code_names.specs.Texts.{owner_of, text_of}
use Rattle.codegen_texts.proofs.Found.{routine-found}
use Rattle.codegen_texts.proofs.program.ProgramNames.routine.Goals as goal

pub returns-in-Some : goal.returns-in-Some
returns-in-Some c =
    let g = plain (placed c.args.self.now) in
    let named = λ (t : Program). routine_in (plain (placed t)) (owner_of c.args.owner) c.args.name.now in
    let found = c.in-Some.ensures ∙ ap named (c.directory.ensures ∙ c.numbering.ensures) in
    c.callee.ensures
    ∙ routine-found g (owner_of c.args.owner) c.args.name.now (text_of c.in-Some.text) (sym found)
    ∙ ap (told_callee g) found
