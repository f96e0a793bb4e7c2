use Rattle.std.proofs.Common.{◌≡◌, ◌&&◌, [], ℕ, List, Ok, ap, ◌∙◌}
use Rattle.image_format.specs.Format.{Format, checked, each_read, u16}
use Rattle.image_reader.specs.Grammar.{is_taken, wrong_number}
use Rattle.image_reader.proofs.EachLoop.{fails, goes_on, is_done}
use Rattle.image_reader.proofs.Rising.{above_last, after_last}
use Rattle.image_reader.proofs.process.numbers_at.Goals as goal

abbrev f : List ℕ → Format ℕ
f = λ earlier. checked u16 (wrong_number earlier)

pub returns-in-Err : goal.returns-in-Err
returns-in-Err c =
    fails f c.in-Err.fault c.loop.numbers c.args.count c.loop.counter c.loop.rest.now (each_read f [] c.args.count c.args.bytes.now) c.loop-test.true (after_last c.loop.numbers c.loop.last c.loop.rest.now c.loop.invariant.above ∙ c.in-Err.ensures) c.loop.invariant.so_far

pub loop-preserved : goal.loop-preserved
loop-preserved c =
    let n = c.in-Ok.it.0 in
    let front = c.loop.numbers in
    let read : (f front).read c.loop.rest.now ≡ Ok (n, c.in-Ok.it.1.now) = after_last front c.loop.last c.loop.rest.now c.loop.invariant.above ∙ c.in-Ok.ensures in
    rw c.in-Ok-push.ensures.ok (record {
      so_far = goes_on f front c.args.count c.loop.counter c.loop.rest.now n c.in-Ok.it.1.now (each_read f [] c.args.count c.args.bytes.now) c.loop-test.true read c.loop.invariant.so_far;
      above = λ m. ap (λ b. b && is_taken m) (above_last front n m);
    })

pub returns : goal.returns
returns c = is_done f c.loop.numbers c.args.count c.loop.counter c.loop.rest.now (each_read f [] c.args.count c.args.bytes.now) c.loop-test.false c.loop.invariant.so_far
