use Rattle.std.proofs.Common.{ℕ, ap, sym, ◌∙◌}
use Rattle.std.specs.Prelude.{min}
use Rattle.image.specs.Raw.{monitor_of}
use Rattle.vm_watch.proofs.Telling.{monitor_declared}
use Rattle.vm_watch.proofs.told.shown_of_monitor.Goals as goal

pub returns : goal.returns
returns c = λ image s same has.
    c.min.ensures ∙ ap (λ (n : ℕ). min n 16) (sym (monitor_declared c.args.image.now.image image s c.args.monitor (monitor_of c.monitor-count.result) same has c.monitor-count.ensures))
