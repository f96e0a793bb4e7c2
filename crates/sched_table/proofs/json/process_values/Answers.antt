use Rattle.std.proofs.Common.{◌<◌, IsUtf8, length, subst, sym}
use Rattle.sched_table.proofs.json.process_values.Goals as goal

pub process_value-requires : goal.process_value-requires
process_value-requires c =
    let within : c.loop-at.at < length c.args.names.now = subst (λ n. c.loop-at.at < n) (sym c.requires.one_each) c.loop-at-test.true in
    subst IsUtf8 (sym c.index-names-at.is) (c.requires.utf8 c.loop-at.at c.index-names-at.result within)
