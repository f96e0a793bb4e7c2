use Rattle.std.proofs.Common.{◌+◌, inr, sym, subst, arith}
use Rattle.script.specs.Scripts.{most_lines}
use Rattle.script.specs.Reading.{IsNext, IsReadTo}
use Rattle.script.proofs.Endings.{right_within, read_more, few_more, fault_rest, fault_here, here_no_end}
use Rattle.script.proofs.read.read_lines.Goals as goal

pub add-requires-clause-within : goal.add-requires-clause-within
add-requires-clause-within c =
    let next = subst (λ n. IsNext c.args.names.now c.loop-rest.past.lines c.loop-rest.rest.now n) c.in-Ok-Line.field-0-is c.in-Ok-Line.ensures.next in
    right_within c.args.names.now next.0 c.in-Ok-Line.line next.2

pub loop-rest-preserved : goal.loop-rest-preserved
loop-rest-preserved c = record {
  past = c.in_ok-add-in-Ok-Line.ensures.past;
  read = subst (λ lines. IsReadTo c.args.names.now c.args.text.now lines c.in-Ok-Line.after.now) (sym c.in_ok-add-in-Ok-Line.ensures.lines)
      (read_more c.args.names.now c.args.text.now c.loop-rest.past.lines c.loop-rest.rest.now c.in-Ok-Line.after.now c.in-Ok-Line.line c.loop-rest.past.last c.loop-rest.past.occurred.items
      c.loop-rest.invariant.past c.loop-rest.invariant.read
      (subst (λ n. IsNext c.args.names.now c.loop-rest.past.lines c.loop-rest.rest.now n) c.in-Ok-Line.field-0-is c.in-Ok-Line.ensures.next));
  few = few_more c.loop-rest.past.lines c.add.new.self.lines c.in-Ok-Line.line most_lines c.in_ok-add-in-Ok-Line.ensures.lines c.in-Ok-Line.ensures.few;
}

pub returns-in-Err-end_with-clause-fault : goal.returns-in-Err-end_with-clause-fault
returns-in-Err-end_with-clause-fault c =
    inr (fault_rest c.args.names.now c.args.text.now c.loop-rest.past.lines c.loop-rest.rest.now c.in-Ok-End.after.now c.in-Err-end_with.fault (c.len.result + 2) c.in-Ok-End.tick
    c.requires.short c.in-Ok-End.ensures.few c.loop-rest.invariant.read
    (subst (λ n. IsNext c.args.names.now c.loop-rest.past.lines c.loop-rest.rest.now n) c.in-Ok-End.field-0-is c.in-Ok-End.ensures.next) (omega arith) c.in-Err-end_with.ensures.fault)

pub returns-clause-fault : goal.returns-clause-fault
returns-clause-fault c =
    inr (fault_here c.args.names.now c.args.text.now c.loop-rest.past.lines c.loop-rest.rest.now c.bad.result c.requires.short c.loop-rest.invariant.few c.loop-rest.invariant.read
    (here_no_end c.args.names.now c.loop-rest.past.lines c.loop-rest.rest.now c.bad.result (c.len-2.result + 1) (omega arith) (grind arith) c.bad.ensures))
