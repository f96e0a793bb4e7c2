use Rattle.std.proofs.Common.{[], ◌∙◌}
use Rattle.std.specs.Prelude.{slice_get, unwrap_or}
use Rattle.event_log.proofs.Finding.{numbers_more, name_at}
use Rattle.event_log.proofs.numbers.numbers_of.Goals as goal

pub loop-k-preserved : goal.loop-k-preserved
loop-k-preserved c =
    numbers_more c.as_bytes.result c.loop-k.k (λ i. unwrap_or (slice_get c.args.list.now i) []) c.loop-k.numbers.entries c.insert.new.self.entries c.loop-k.invariant
    (c.as_bytes.ensures ∙ name_at c.args.list.now c.loop-k.k c.index-list-k.result c.loop-k-test.true c.index-list-k.is) c.in_ok-insert.ensures.updates.0
