use Rattle.std.proofs.Common.{◌≡◌, ◌∙◌, ap, sym, subst}
use Rattle.syntax_tree.specs.Placed.{placed}
use Rattle.syntax_tree.specs.declared.decl.Program.{Program}
use Rattle.front_end.specs.Source.{IsTreeOf}
use Rattle.front_end.specs.Program.{IsFaultOf}
use Rattle.front_end.proofs.ProgramPrograms.{name_only, rule_only, rule_fault_is}
use Rattle.front_end.proofs.program.read.Goals as goal

pub returns-in-Err-clause-only : goal.returns-in-Err-clause-only
returns-in-Err-clause-only c = λ g is.
    c.of_names.ensures ∙ name_only c.one_tree.ensures c.args.text.now (placed c.in_ok-tree.tree) g c.in-Err.fault c.in_ok-tree.ensures.found c.in-Err.ensures.fault is

pub returns-in-Ok-check-clause-only : goal.returns-in-Ok-check-clause-only
returns-in-Ok-check-clause-only c = λ g is.
    let same : c.in-Ok-check.checked ≡ c.in_ok-tree.tree = c.in-Ok-check.ensures.same ∙ c.in-Ok.ensures.same in
    ap placed same ∙ c.one_tree.ensures c.args.text.now (placed c.in_ok-tree.tree) g c.in_ok-tree.ensures.found is.tree

pub returns-in-Err-check-clause-only : goal.returns-in-Err-check-clause-only
returns-in-Err-check-clause-only c = λ g is.
    let P : Program → Type 0 = λ t. IsTreeOf c.args.text.now (placed t) in
    let tree = subst P (sym c.in-Ok.ensures.same) c.in_ok-tree.ensures.found in
    c.of_rules.ensures ∙ rule_only c.one_tree.ensures c.args.text.now (placed c.in-Ok.named) g c.in-Err-check.fault tree c.in-Err-check.ensures.fault is

pub returns-in-Err-check-clause-fault : goal.returns-in-Err-check-clause-fault
returns-in-Err-check-clause-fault c =
    let P : Program → Type 0 = λ t. IsTreeOf c.args.text.now (placed t) in
    let tree = subst P (sym c.in-Ok.ensures.same) c.in_ok-tree.ensures.found in
    subst (IsFaultOf c.args.text.now) (sym c.of_rules.ensures) (rule_fault_is c.args.text.now (placed c.in-Ok.named) c.in-Err-check.fault tree c.in-Ok.ensures.named c.in-Err-check.ensures.fault)
