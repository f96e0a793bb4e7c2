-- The configuration after a start event, from what was changed in turn.
use Rattle.std.specs.Prelude.{◌≡◌, ℕ, false, List, Some, slice_get}
use Rattle.std.proofs.Common.{sym, ◌∙◌, ap}
use Rattle.base.specs.declared.event.Act.TheVariants as act
use Rattle.syntax_tree.specs.Plain.{Process, Program}
use Rattle.source_semantics.specs.Names.{processes}
use Rattle.source_semantics.specs.Config.{Config, Job, at_tick, changed, with_jobs}
use Rattle.source_semantics.specs.Source.{after_start, on_text, released}

pub begun : (g : Program) (c : Config) (t k : ℕ) (p : Process) (js : List Job) → slice_get (processes g) k ≡ Some p → js ≡ changed (released t p) k c.jobs
    → with_jobs (at_tick c t false) js ≡ after_start g c (record { tick = t; proc = k; act = act.Release })
begun g c t k p js text is =
    ap (with_jobs (at_tick c t false)) is
    ∙ sym (ap (λ o. on_text (released t) o k (at_tick c t false)) text)
