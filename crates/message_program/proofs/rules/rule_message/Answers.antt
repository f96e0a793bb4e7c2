use Rattle.std.proofs.Common.{IfSome, Option, subst}
use Rattle.std.proofs.lemmas.Result.{IfOk-weaker}
use Rattle.front_end.specs.Source.{IsTreeOf}
use Rattle.syntax_tree.specs.Placed.{placed}
use Rattle.syntax_tree.specs.declared.decl.Program.{Program}
use Rattle.message_program.proofs.Lists.{told_of_tree}
use Rattle.message_program.proofs.rules.rule_message.Goals as goal

pub returns-in_default : goal.returns-in_default
returns-in_default c =
    IfOk-weaker c.word_message.result _ _ (λ message told g is named. absurd (c.in_ok-program.ensures.none c.in_default.is g is named)) c.word_message.ensures

pub returns : goal.returns
returns c =
    IfOk-weaker c.with_sentence.result _ _
    (λ message told g is named. told_of_tree c.args.file.now c.args.text.now c.args.number c.args.place message (placed c.in-Some.program) g c.in_ok-said.said c.one_tree.ensures
    (subst (λ (o : Option Program). IfSome o (λ h. IsTreeOf c.args.text.now (placed h))) c.in-Some.is c.in_ok-program.ensures.some)
    c.in_ok-said.ensures is told)
    c.with_sentence.ensures
