use Rattle.std.proofs.Common.{Some, None, cond, ap, ◌∙◌}
use Rattle.script.specs.Scripts.{same_name}
use Rattle.image.specs.NameMaps.{number_in}
use Rattle.script.specs.Reading.{or_else}
use Rattle.script.proofs.Lookups.{numbers_more}
use Rattle.script.proofs.numbers.event_numbers.Goals as goal

pub loop-k-preserved : goal.loop-k-preserved
loop-k-preserved c =
    numbers_more (λ q e. same_name q e.name) c.as_slice-events.result.now c.loop-k.k c.index-events-k.result
    c.loop-k.numbers.entries c.add.new.numbers.entries c.loop-k-test.true c.index-events-k.is c.loop-k.invariant
    (λ q. c.in_ok-add.ensures q ∙ ap (λ name. or_else (number_in c.loop-k.numbers.entries q) (cond (same_name q name) (Some c.loop-k.k) None)) c.as_bytes.ensures)
