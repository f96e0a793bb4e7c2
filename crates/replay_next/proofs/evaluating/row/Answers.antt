use Rattle.std.specs.Prelude.{List, ◌∷◌, ℤ}
use Rattle.std.proofs.Common.{◌≡◌, ◌∙◌, ap, sym, rules, to_z, of_z, w64}
use Rattle.std.proofs.lemmas.Int.{to_z-of_z}
use Rattle.base.specs.Words.{with_word}
use Rattle.source_semantics.specs.Run as run
use Rattle.syntax_tree.specs.declared.expr.Op.{Op}
use Rattle.syntax_tree.specs.declared.expr.Expr.{Expr}
use Rattle.replay_calls.specs.declared.words.Answer.{Answer}
use Rattle.replay_calls.specs.Seen.{answer_of}
use Rattle.replay_next.specs.Remains.{operands_of, told}
use Rattle.replay_next.proofs.Oks.{ok_all}
use Rattle.replay_next.proofs.evaluating.row.Goals as goal

pub returns-in-Some-clause-run : goal.returns-in-Some-clause-run
returns-in-Some-clause-run c =
    let some = c.in-Some.ensures.cases in
    let first = c.in-Some.operand-is in
    let others = c.in-Some.rest-is in
    let all : c.args.rest.now ≡ c.in-Some.operand.now ∷ c.in-Some.rest.now = cc in
    let same : to_z w64 (of_z w64 c.in-Word.word) ≡ c.in-Word.word = to_z-of_z w64 c.in-Word.word (search rules) in
    ok_all c.deeper.result _ _ (λ step h. λ s m.
    let left = λ (a : Answer). with_word (answer_of a) (λ v. run.row_value s m (operands_of c.args.rest.now) v) in
    let from = λ (l : List (Op × Expr)) (v : ℤ). run.row_value s m (operands_of l) v in
    h s m
    ∙ ap (told s m c.args.remains) (ap (from (c.in-Some.operand.now ∷ c.in-Some.rest.now)) same ∙ sym (ap left c.in-Word.is ∙ ap (λ (l : List (Op × Expr)). from l c.in-Word.word) all))) c.deeper.ensures.run
