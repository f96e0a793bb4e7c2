use Rattle.std.proofs.Common.{◌∙◌, ap, sym, map}
use Rattle.syntax_tree.specs.Placed.{placed, plain}
use Rattle.source_semantics.specs.Names.{monitors}
use Rattle.code_names.specs.First.{index_of}
use Rattle.syntax_tree.specs.declared.decl.Program.{Program}
use Rattle.code_names.proofs.Meaning.{entry-meant, entry-none}
use Rattle.code_names.proofs.directory.Directory.entry.Goals as goal

pub returns-in-Some : goal.returns-in-Some
returns-in-Some c =
    let g = plain (placed c.args.self.now) in
    let m = c.args.monitor.now in
    c.own.ensures
    ∙ entry-meant g m c.args.name.now c.in-Some.number
    (ap (λ (t : Program). index_of m (map (λ k. k.name) (monitors (plain (placed t))))) (sym c.self.view_is) ∙ ap (index_of m) (sym c.self.invariant.names_are) ∙ sym c.in-Some.ensures)

pub returns-in-None : goal.returns-in-None
returns-in-None c =
    let g = plain (placed c.args.self.now) in
    let m = c.args.monitor.now in
    entry-none g m c.args.name.now
    (ap (λ (t : Program). index_of m (map (λ k. k.name) (monitors (plain (placed t))))) (sym c.self.view_is) ∙ ap (index_of m) (sym c.self.invariant.names_are) ∙ sym c.in-None.ensures)
