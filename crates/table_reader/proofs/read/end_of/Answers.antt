use Rattle.std.proofs.Common.{◌≢◌, ◌+◌, ◌∙◌, ℕ, List, [], length, ap, eq-eqb, refl, arith}
use Rattle.std.proofs.lemmas.Bool.{false≢true}
use Rattle.table_reader.proofs.Answered.{empty_answer, behind_answer}
use Rattle.table_reader.proofs.read.end_of.Goals as goal

pub returns-then-is_empty : goal.returns-then-is_empty
returns-then-is_empty c =
    empty_answer c.args.table c.args.rest.now c.bad.result (c.len-line.result + 2) c.requires.short c.requires.begun (c.if-is_empty.ensures.0 refl) c.bad.ensures (omega arith)

pub returns-then-not-is_empty : goal.returns-then-not-is_empty
returns-then-not-is_empty c =
    let more : c.args.rest.now ≢ [] = λ none. false≢true (c.if-not-is_empty.ensures ∙ eq-eqb (length c.args.rest.now) 0 (ap (λ (xs : List ℕ). length xs) none)) in
    behind_answer c.args.table c.args.rest.now c.bad-then-not-is_empty.result (c.len-line.result + 2 + 1) c.requires.short c.requires.begun (λ none. false≢true (c.if-is_empty.ensures.1 none)) more
    c.bad-then-not-is_empty.ensures (omega arith)
