use Rattle.image_bytes.specs.Standing.{numbers_in}
use Rattle.image_bytes.proofs.Later.{process_read, trees_read}
use Rattle.image_bytes.proofs.ManyNumbers.{many}
use Rattle.image_bytes.proofs.process.process_at.Goals as goal

pub invariant_of-result : goal.invariant_of-result
unfolding numbers_in
invariant_of-result c =
    let r = c.in-Ok.release in
    let t = c.in-Ok-five_at.time in
    let m = c.in-Ok-five_at-2.room in
    let n = c.in-Ok-numbers_at.numbers in
    record {
      are_read = trees_read c.args.bytes.now c.in-Ok.rest.now c.in-Ok-five_at.rest.now c.in-Ok-five_at-2.rest.now c.in-Ok-numbers_at.trees.now
          (r.kind, (r.frame, (r.deadline, (r.first, (r.event, r.rank))))) (t.first, (t.second, (t.third, (t.fourth, t.fifth)))) (m.first, (m.second, (m.third, (m.fourth, m.fifth)))) (numbers_in n)
          c.in-Ok.ensures c.in-Ok-five_at.ensures c.in-Ok-five_at-2.ensures c.in-Ok-numbers_at.ensures c.requires n.count (many n.count n.bytes.now n.are_read);
    }

pub returns : goal.returns
unfolding numbers_in
returns c =
    let r = c.in-Ok.release in
    let t = c.in-Ok-five_at.time in
    let m = c.in-Ok-five_at-2.room in
    let n = c.in-Ok-numbers_at.numbers in
    process_read c.args.bytes.now c.in-Ok.rest.now c.in-Ok-five_at.rest.now c.in-Ok-five_at-2.rest.now c.in-Ok-numbers_at.trees.now
    (r.kind, (r.frame, (r.deadline, (r.first, (r.event, r.rank))))) (t.first, (t.second, (t.third, (t.fourth, t.fifth)))) (m.first, (m.second, (m.third, (m.fourth, m.fifth)))) (numbers_in n)
    c.in-Ok.ensures c.in-Ok-five_at.ensures c.in-Ok-five_at-2.ensures c.in-Ok-numbers_at.ensures c.requires n.count (many n.count n.bytes.now n.are_read)
