use Rattle.std.proofs.Common.{IfSome, Option, subst}
use Rattle.std.proofs.lemmas.Result.{IfOk-weaker}
use Rattle.front_end.specs.Source.{IsTreeOf}
use Rattle.syntax_tree.specs.Placed.{placed}
use Rattle.syntax_tree.specs.declared.decl.Program.{Program}
use Rattle.message_program.proofs.Lists.{named_of_tree}
use Rattle.message_program.proofs.names.name_message.Goals as goal

pub returns-in_default : goal.returns-in_default
returns-in_default c =
    IfOk-weaker c.word_message.result _ _ (λ message told g is. absurd (c.in_ok-tree.ensures.none c.in_default.is g is)) c.word_message.ensures

pub returns : goal.returns
returns c =
    IfOk-weaker c.told_of_tree.result _ _
    (λ message told g is. named_of_tree c.args.file.now c.args.text.now c.args.number c.args.place message (placed c.in-Some.tree) g c.one_tree.ensures
    (subst (λ (o : Option Program). IfSome o (λ h. IsTreeOf c.args.text.now (placed h))) c.in-Some.is c.in_ok-tree.ensures.some)
    is told)
    c.told_of_tree.ensures
