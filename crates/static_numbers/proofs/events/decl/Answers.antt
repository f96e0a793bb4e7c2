use Rattle.std.proofs.Common.{◌+◌, ◌∷◌, ap, sym, ◌∙◌}
use Rattle.syntax_tree.specs.Placed.{placed, placed_decl}
use Rattle.static_names.specs.Occurrences.{names, declared_at}
use Rattle.syntax_tree.specs.Parts.{processes}
use Rattle.static_numbers.specs.Processes.{users}
use Rattle.static_numbers.specs.Seen.{held, known_uses}
use Rattle.static_numbers.proofs.events.decl.Goals as goal

pub returns-in_ok-process : goal.returns-in_ok-process
returns-in_ok-process c e rest =
    c.in_ok-process.ensures e (processes rest)
    ∙ ap (λ d. held (known_uses c.args.uses.now.entries e + users (declared_at (names (placed c.args.declarations.now))) e (processes (placed_decl d ∷ rest)))) (sym c.in-Process.is)
