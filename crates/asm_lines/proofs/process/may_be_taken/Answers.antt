use Rattle.std.proofs.Common.{◌∙◌, arith, inl, inr, refl}
use Rattle.std.proofs.lemmas.Bool.{le-leb, lt-leb}
use Rattle.asm_lines.proofs.process.may_be_taken.Goals as goal
use Rattle.asm_lines.proofs.process.may_be_taken.Goals.{then-number-ge1, else-number-ge1}

pub returns-then-number-le4 : goal.returns-then-number-le4
returns-then-number-le4 c =
    let n = c.args.number in
    let h = c.if-number-le4.true in
    elim c.if-number-ge1.branch [
      | then-number-ge1 w ↦ rw (le-leb 1 n h.0, le-leb n 4 h.1) (w.t-3-is ∙ le-leb n 4 h.1)
      | else-number-ge1 w ↦ absurd (omega arith)
    ]

pub returns-then-number-ge10 : goal.returns-then-number-ge10
returns-then-number-ge10 c =
    let n = c.args.number in
    rw (le-leb 1 n (omega arith), lt-leb n 4 (omega arith), le-leb 10 n c.if-number-ge10.true) refl

pub returns-else-number-ge10 : goal.returns-else-number-ge10
returns-else-number-ge10 c =
    let n = c.args.number in
    elim c.if-number-le4.either [
      | inl between ↦ rw (le-leb 1 n between.0, lt-leb n 4 between.1, lt-leb 10 n c.if-number-ge10.false) refl
      | inr zero ↦ rw (lt-leb 1 n zero, lt-leb 10 n c.if-number-ge10.false) refl
    ]
