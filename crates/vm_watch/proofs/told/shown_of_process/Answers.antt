use Rattle.std.proofs.Common.{ℕ, ap, sym, ◌∙◌}
use Rattle.std.specs.Prelude.{min}
use Rattle.image_bytes.specs.Standing.{process_in}
use Rattle.vm_watch.proofs.Telling.{process_declared}
use Rattle.vm_watch.proofs.told.shown_of_process.Goals as goal

pub returns : goal.returns
returns c = λ image s same has.
    c.min.ensures ∙ ap (λ (n : ℕ). min n 16) (sym (process_declared c.args.image.now.image image s c.args.process (process_in c.process.result) same has c.process.ensures))
