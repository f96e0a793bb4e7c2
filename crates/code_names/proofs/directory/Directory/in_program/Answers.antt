use Rattle.std.proofs.Common.{◌∙◌}
use Rattle.syntax_tree.specs.Placed.{placed, plain}
use Rattle.code_names.proofs.Meaning.{of-program}
use Rattle.code_names.proofs.directory.Directory.in_program.Goals as goal

pub returns : goal.returns
returns c = c.own.ensures ∙ of-program c.args.name.now 0 0 (plain (placed c.args.self.now)).decls
