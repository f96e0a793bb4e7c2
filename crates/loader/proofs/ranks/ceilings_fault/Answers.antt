use Rattle.std.proofs.Common.{◌∙◌, ap, ℕ, List, get_or}
use Rattle.image.specs.declared.raw.RawMonitor.{RawMonitor}
use Rattle.loader_code.proofs.Seeking.{any_default, stops_in, goes_on_in}
use Rattle.image.specs.Raw.{image_of, monitor_of}
use Rattle.valid_image.specs.Sizes.{other}
use Rattle.valid_image.specs.Times.{ceiling_of}
use Rattle.loader.proofs.ranks.ceilings_fault.Goals as goal

abbrev nothing : RawMonitor
nothing = record { base = 0; words = 0; ceiling = 0 }

abbrev here : List RawMonitor → ℕ → RawMonitor
here ms m = get_or ms m nothing

pub returns-in-Some : goal.returns-in-Some
returns-in-Some c = stops_in monitor_of (λ m x. other x.ceiling (ceiling_of (image_of c.args.image.now) m)) c.args.image.now.monitors c.as_slice-monitors.result.now c.loop-number.number (here c.as_slice-monitors.result.now c.loop-number.number) _ _ c.as_slice-monitors.ensures c.loop-number-test.true (any_default c.as_slice-monitors.result.now c.loop-number.number nothing _ c.loop-number-test.true) (c.in-Some.ensures ∙ ap (λ d. other (here c.as_slice-monitors.result.now c.loop-number.number).ceiling d) c.ceiling_of-due.ensures) c.loop-number.invariant

pub loop-number-preserved : goal.loop-number-preserved
loop-number-preserved c = goes_on_in monitor_of (λ m x. other x.ceiling (ceiling_of (image_of c.args.image.now) m)) c.args.image.now.monitors c.as_slice-monitors.result.now c.loop-number.number (here c.as_slice-monitors.result.now c.loop-number.number) _ c.as_slice-monitors.ensures c.loop-number-test.true (any_default c.as_slice-monitors.result.now c.loop-number.number nothing _ c.loop-number-test.true) (c.in-None.ensures ∙ ap (λ d. other (here c.as_slice-monitors.result.now c.loop-number.number).ceiling d) c.ceiling_of-due.ensures) c.loop-number.invariant
