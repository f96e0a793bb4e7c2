use Rattle.std.proofs.Common.{◌≡◌, rules, to_z, of_z, w64}
use Rattle.std.proofs.lemmas.Int.{to_z-of_z}
use Rattle.message_rules.proofs.sentences.add_sentence.Goals as goal

pub returns-in-Number : goal.returns-in-Number
returns-in-Number c =
    let same : to_z w64 (of_z w64 c.in-Number.value) ≡ c.in-Number.value = to_z-of_z w64 c.in-Number.value (search rules) in
    rw c.in-Number.is (rw (same, c.words_before.ensures, c.words_behind.ensures) at c.add_among.ensures)

pub returns-in-CrossedBounds : goal.returns-in-CrossedBounds
returns-in-CrossedBounds c =
    let same : to_z w64 (of_z w64 c.in-CrossedBounds.low) ≡ c.in-CrossedBounds.low = to_z-of_z w64 c.in-CrossedBounds.low (search rules) in
    let other : to_z w64 (of_z w64 c.in-CrossedBounds.high) ≡ c.in-CrossedBounds.high = to_z-of_z w64 c.in-CrossedBounds.high (search rules) in
    rw c.in-CrossedBounds.is (rw (same, other) at c.add_crossed.ensures)

pub returns-in-Deadline : goal.returns-in-Deadline
returns-in-Deadline c =
    let same : to_z w64 (of_z w64 c.in-Deadline.ticks) ≡ c.in-Deadline.ticks = to_z-of_z w64 c.in-Deadline.ticks (search rules) in
    let other : to_z w64 (of_z w64 c.in-Deadline.frame) ≡ c.in-Deadline.frame = to_z-of_z w64 c.in-Deadline.frame (search rules) in
    rw c.in-Deadline.is (rw (same, other) at c.add_deadline.ensures)

pub returns-in-EndlessLoop : goal.returns-in-EndlessLoop
returns-in-EndlessLoop c = rw c.in-EndlessLoop.is c.extend.ensures.ok

pub returns-in-NoProcess : goal.returns-in-NoProcess
returns-in-NoProcess c = rw c.in-NoProcess.is c.extend-in-NoProcess.ensures.ok
