-- What contracts see of the names of a text.
use Rattle.syntax_tree.specs.Plain.{Program}
use Rattle.syntax_tree.specs.Placed.{placed, plain}
use Rattle.code_spec.specs.Layout.{Scope}
use Rattle.codegen_texts.specs.declared.names.Names.{Names}
use Rattle.codegen_texts.specs.Sites.{scope_at}

-- the program whose text it is
abbrev pub program_of : Names → Program
program_of n = plain (placed n.program.now)

-- where the text stands
abbrev pub scope_of : Names → Scope
scope_of n = scope_at (program_of n) n.site
