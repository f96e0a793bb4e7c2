use Rattle.std.proofs.Common.{Err, subst}
use Rattle.syntax_tree.specs.Placed.{placed}
use Rattle.compile.specs.Build.{Builds}
use Rattle.compile.specs.declared.built.BuildFault.{BuildFault}
use Rattle.analysis_command.proofs.Untimely.{never_built, never_large}
use Rattle.analysis_command.proofs.late.late_program.Goals as goal

pub build-requires : goal.build-requires
build-requires g c = (c.requires.1.0.program, c.requires.0)

pub returns-in-Err-Untimely : goal.returns-in-Err-Untimely
returns-in-Err-Untimely g c =
    subst (λ (why : BuildFault). Builds (placed c.args.program.now) c.args.over (Err why)) c.in-Err-Untimely.field-0-is c.in-Err-Untimely.ensures

pub unreachable-requires : goal.unreachable-requires
unreachable-requires g c =
    never_large g.text (placed c.args.program.now) c.args.over c.requires.1.0 c.in-Err-TooLarge.field-0 c.in-Err-TooLarge.field-0-0 c.in-Err-TooLarge.field-0-1
    c.in-Err-TooLarge.field-0-is c.in-Err-TooLarge.ensures

pub unreachable-requires-in-Ok : goal.unreachable-requires-in-Ok
unreachable-requires-in-Ok g c =
    never_built g.text (placed c.args.program.now) c.args.over c.requires.1.0 c.built_is_in_time.ensures c.in-Ok.field-0 c.in-Ok.ensures c.requires.1.1
