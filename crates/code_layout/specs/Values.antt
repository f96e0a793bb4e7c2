-- What the table of constants says.
use Rattle.std.specs.Prelude.{◌≡◌, List, map}
use Rattle.std.specs.Borrow.{Bor}
use Rattle.syntax_tree.specs.Plain.{Name}
use Rattle.syntax_tree.specs.Placed.{placed_decl, plain_decl}
use Rattle.syntax_tree.specs.declared.decl.Program.{Program as Tree}
use Rattle.static_declarations.specs.declared.values.Number.{Number}
use Rattle.static_declarations.specs.Seen.{kept_worth, with_decls, no_worth}

-- the table is that of the program
pub record IsKept (p : Tree) (entries : List (Bor Name × Number)) : Type 0 where
  pub values_are : kept_worth entries ≡ with_decls no_worth (map plain_decl (map placed_decl p.decls))
