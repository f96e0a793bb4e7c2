use Rattle.std.proofs.Common.{◌∙◌, ap}
use Rattle.syntax_tree.specs.Placed.{placed, plain}
use Rattle.source_semantics.specs.Names.{routines}
use Rattle.source_semantics.specs.Run.{or_else}
use Rattle.code_spec.specs.Layout.{by_program}
use Rattle.code_spec.specs.Numbering.{routine_of}
use Rattle.code_names.proofs.Meaning.{process-own}
use Rattle.code_names.proofs.directory.Directory.in_process.Goals as goal

pub returns-in-Some : goal.returns-in-Some
returns-in-Some c =
    let g = plain (placed c.args.self.now) in
    ap (λ x. or_else x (routine_of by_program (routines g) c.args.name.now)) (c.in-Some.ensures ∙ process-own g c.args.number c.args.name.now)

pub returns-in-None : goal.returns-in-None
returns-in-None c =
    let g = plain (placed c.args.self.now) in
    c.in_program.ensures ∙ ap (λ x. or_else x (routine_of by_program (routines g) c.args.name.now)) (c.in-None.ensures ∙ process-own g c.args.number c.args.name.now)
