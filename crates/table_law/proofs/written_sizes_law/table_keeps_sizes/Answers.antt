use Rattle.table_law.proofs.WrittenSizes.{sizes_kept}
use Rattle.table_law.proofs.written_sizes_law.table_keeps_sizes.Goals as goal

pub returns : goal.returns
returns c =
    let costs = c.table_costs.ensures in
    let sizes = c.table_sizes.ensures in
    sizes_kept (record { processes = costs.processes; short = sizes.short; low_processes = sizes.processes; low_entries = sizes.entries })
