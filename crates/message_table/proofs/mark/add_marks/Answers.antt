use Rattle.std.proofs.Common.{◌≡◌, ℕ, List, IfOk, OnOk, ap, arith, map, subst, sym, ◌∙◌}
use Rattle.message_table.specs.Marks.{Mark}
use Rattle.message_table.specs.Seen.{mark_of}
use Rattle.message_table.specs.declared.part.Wanted.{Wanted}
use Rattle.message_table.proofs.Splits.{IsRead, read_byte, read_first, read_marks, read_wanted, read_word}
use Rattle.message_table.proofs.mark.add_marks.Goals.{then-bytes-at-eq32+in_ok-wanted, else-bytes-at-eq32}
use Rattle.message_table.proofs.mark.add_marks.Goals as goal

pub loop-at-init : goal.loop-at-init
loop-at-init c =
    subst (λ (w : Wanted). IsRead c.args.bytes.now c.args.number (map mark_of c.args.marks.now.items) 0 0 (map mark_of c.args.marks.now.items) w) (sym c.at_first-wanted.ensures)
    (read_first c.args.bytes.now c.args.number (map mark_of c.args.marks.now.items))

pub loop-at-preserved : goal.loop-at-preserved
loop-at-preserved c =
    let bytes = c.args.bytes.now in
    let old = map mark_of c.args.marks.now.items in
    let marks = map mark_of c.loop-at.marks.items in
    let new = map mark_of c.if-bytes-at-eq32.marks.items in
    elim c.if-bytes-at-eq32.branch [
      | then-bytes-at-eq32+in_ok-wanted w ↦
          read_word bytes c.args.number old c.loop-at.start c.loop-at.at c.if-bytes-at-eq32.start marks new c.loop-at.wanted c.if-bytes-at-eq32.wanted c.loop-at.invariant
          c.loop-at-test.true w.if-bytes-at-eq32.true w.start-is (ap (λ m. map mark_of m.items) w.marks-is ∙ w.in_ok-wanted.ensures.marks) (w.wanted-is ∙ w.in_ok-wanted.ensures.wanted)
      | else-bytes-at-eq32 w ↦
          read_byte bytes c.args.number old c.loop-at.start c.loop-at.at c.if-bytes-at-eq32.start marks new c.loop-at.wanted c.if-bytes-at-eq32.wanted c.loop-at.invariant
          c.loop-at-test.true w.if-bytes-at-eq32.false w.start-is (ap (λ m. map mark_of m.items) w.marks-is) w.wanted-is
    ]

pub returns-clause-marks : goal.returns-clause-marks
returns-clause-marks c =
    subst (λ (t : List Mark). OnOk c.add_mark-2.result (map mark_of c.add_mark-2.new.marks.items ≡ t))
    (read_marks c.args.bytes.now c.args.number (map mark_of c.args.marks.now.items) c.loop-at.start c.loop-at.at (map mark_of c.loop-at.marks.items) c.loop-at.wanted c.loop-at.invariant
    (omega (arith, c.loop-at-test.false))) c.add_mark-2.ensures.marks

pub returns-clause-wanted : goal.returns-clause-wanted
returns-clause-wanted c =
    subst (λ (w : Wanted). IfOk c.add_mark-2.result (λ behind. behind ≡ w))
    (read_wanted c.args.bytes.now c.args.number (map mark_of c.args.marks.now.items) c.loop-at.start c.loop-at.at (map mark_of c.loop-at.marks.items) c.loop-at.wanted c.loop-at.invariant
    (omega (arith, c.loop-at-test.false))) c.add_mark-2.ensures.wanted
