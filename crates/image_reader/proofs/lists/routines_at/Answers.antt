use Rattle.std.proofs.Common.{[], List, map}
use Rattle.std.proofs.lemmas.List.{map_push}
use Rattle.image_format.specs.Format.{Format, each_read}
use Rattle.image_reader.proofs.EachLoop.{ends, goes_on, is_done}
use Rattle.machine_semantics.specs.Image.{Routine}
use Rattle.image.specs.Raw.{routine_of}
use Rattle.image_reader.specs.Grammar.{routine_format}
use Rattle.image_reader.proofs.lists.routines_at.Goals as goal

pub returns-in-Err : goal.returns-in-Err
returns-in-Err c =
    let f : List Routine → Format Routine = λ earlier. routine_format c.args.counts.now in
    ends f c.in-Err.error (map routine_of c.loop.routines) c.args.counts.now.routines c.loop.counter c.loop.rest.now (each_read f [] c.args.counts.now.routines c.args.bytes.now) c.loop-test.true c.in-Err.ensures c.loop.invariant

pub loop-preserved : goal.loop-preserved
loop-preserved c =
    let f : List Routine → Format Routine = λ earlier. routine_format c.args.counts.now in
    let x = c.in-Ok.it.0 in
    rw (c.in-Ok-push.ensures.ok, map_push routine_of c.loop.routines x) (goes_on f (map routine_of c.loop.routines) c.args.counts.now.routines c.loop.counter c.loop.rest.now (routine_of x) c.in-Ok.it.1.now (each_read f [] c.args.counts.now.routines c.args.bytes.now) c.loop-test.true c.in-Ok.ensures c.loop.invariant)

pub returns : goal.returns
returns c =
    let f : List Routine → Format Routine = λ earlier. routine_format c.args.counts.now in
    is_done f (map routine_of c.loop.routines) c.args.counts.now.routines c.loop.counter c.loop.rest.now (each_read f [] c.args.counts.now.routines c.args.bytes.now) c.loop-test.false c.loop.invariant
