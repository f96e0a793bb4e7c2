use Rattle.std.proofs.Common.{IfSome, Option, subst}
use Rattle.std.proofs.lemmas.Result.{IfOk-weaker}
use Rattle.front_end.specs.Source.{IsTreeOf}
use Rattle.static_names.specs.Resolved.{IsNamed}
use Rattle.syntax_tree.specs.Placed.{placed, Prog}
use Rattle.syntax_tree.specs.declared.decl.Program.{Program}
use Rattle.syntax_tree.specs.declared.place.Place.{Place}
use Rattle.message_program.proofs.rules.program.Goals as goal

pub returns-in_default-clause-none : goal.returns-in_default-clause-none
returns-in_default-clause-none c = λ none g is named. c.in_ok-tree.ensures.none c.in_default.is g is

pub returns-clause-none : goal.returns-clause-none
returns-clause-none c =
    IfOk-weaker c.resolved.result _ _
    (λ found none is_none g is named. none is_none
    (subst (λ (h : Prog Place). IsNamed h)
    (c.one_tree.ensures c.args.text.now g (placed c.in-Some.tree) is (subst (λ (o : Option Program). IfSome o (λ h. IsTreeOf c.args.text.now (placed h))) c.in-Some.is c.in_ok-tree.ensures.some))
    named))
    c.resolved.ensures.none
