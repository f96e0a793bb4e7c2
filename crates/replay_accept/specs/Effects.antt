-- The effect of a broadcast.
use Rattle.std.specs.Prelude.{ℕ, []}
use Rattle.source_semantics.specs.Config.{Config, changed, queue, wake_all, with_jobs, with_queues}

-- all in the queue of the condition are ready again, and it is empty
abbrev pub broadcast : ℕ → Config → Config
broadcast x c = with_queues (with_jobs c (wake_all (queue c x) c.jobs)) (changed (λ q. []) x c.queues)
