use Rattle.std.proofs.Common.{◌≡◌, ◌-◌, ◌+◌, ℕ, List, Some, ap, arith, drop, length, sym, ◌∙◌, length-drop, take_all}
use Rattle.message_script.specs.Forms.{behind_blanks}
use Rattle.message_script.proofs.Pairs.{few_bytes, no_pair, pair_found}
use Rattle.message_script.proofs.forms.behind_blanks.Goals as goal

pub returns-then-are_blanks-clause-value : goal.returns-then-are_blanks-clause-value
returns-then-are_blanks-clause-value c =
    let line = c.args.line.now in
    let at = c.loop-at.at in
    ap (λ (bs : List ℕ). Some bs) (take_all (length line - (at + 1)) (drop (at + 1) line) (omega (arith, length-drop (at + 1) line)))
    ∙ sym (pair_found line at c.are_blanks.result (omega arith) c.loop-at-test.true c.are_blanks.ensures c.if-are_blanks.true)
    ∙ c.loop-at.invariant

pub loop-at-preserved : goal.loop-at-preserved
loop-at-preserved c =
    let line = c.args.line.now in
    let at = c.loop-at.at in
    let e : at + 1 - 1 ≡ at = omega arith in
    ap (λ (k : ℕ). behind_blanks (drop k line)) e
    ∙ sym (no_pair line at c.are_blanks.result (omega arith) c.loop-at-test.true c.are_blanks.ensures c.if-are_blanks.false)
    ∙ c.loop-at.invariant

pub returns-clause-value : goal.returns-clause-value
returns-clause-value c =
    let line = c.args.line.now in
    let at = c.loop-at.at in
    sym (few_bytes (drop (at - 1) line) (omega (arith, length-drop (at - 1) line, c.loop-at-test.false)))
    ∙ c.loop-at.invariant
