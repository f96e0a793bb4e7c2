use Rattle.std.proofs.Common.{◌∙◌, ap, sym}
use Rattle.syntax_tree.specs.Placed.{placed, plain}
use Rattle.syntax_tree.specs.declared.decl.Program.{Program}
use Rattle.code_spec.specs.Numbering.{entry_in}
use Rattle.codegen_spec.specs.Told.{told_callee}
use Rattle.code_names.specs.Texts.{text_of}
use Rattle.codegen_texts.proofs.Found.{entry-found}
use Rattle.codegen_texts.proofs.program.ProgramNames.entry.Goals as goal

pub returns-in-Some : goal.returns-in-Some
returns-in-Some c =
    let g = plain (placed c.args.self.now) in
    let named = λ (t : Program). entry_in (plain (placed t)) c.args.monitor.now c.args.name.now in
    let found = c.in-Some.ensures ∙ ap named (c.directory.ensures ∙ c.numbering.ensures) in
    c.callee.ensures
    ∙ entry-found g c.args.monitor.now c.args.name.now (text_of c.in-Some.text) (sym found)
    ∙ ap (told_callee g) found
