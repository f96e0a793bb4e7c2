use Rattle.std.proofs.Common.{◌∙◌, ap, ℕ, List, get_or}
use Rattle.image.specs.declared.raw.RawMonitor.{RawMonitor}
use Rattle.image.specs.Raw.{image_of, monitor_of}
use Rattle.valid_image.specs.Sizes.{other}
use Rattle.loader_code.proofs.Seeking.{any_default, stops_in, goes_on_in}
use Rattle.faulty_part.specs.declared.part.FaultyPart.TheVariants as part
use Rattle.faulty_part.specs.declared.part.Subject.TheVariants as subject
use Rattle.faulty_part.specs.Parts.{of, ceiling_of_monitor}
use Rattle.validity_parts.proofs.Coding.{starts_in}
use Rattle.validity_parts.proofs.ranks.ceilings_fault.Goals as goal

abbrev nothing : RawMonitor
nothing = record { base = 0; words = 0; ceiling = 0 }

abbrev here : List RawMonitor → ℕ → RawMonitor
here ms m = get_or ms m nothing

pub loop-number-init : goal.loop-number-init
loop-number-init c = starts_in monitor_of (ceiling_of_monitor (image_of c.args.raw.now)) c.args.raw.now.monitors

pub returns-in-Some : goal.returns-in-Some
returns-in-Some c =
    let raw = c.args.raw.now in
    let ms = c.as_slice-monitors.result.now in
    let m = c.loop-number.number in
    stops_in monitor_of (ceiling_of_monitor (image_of raw)) raw.monitors ms m (here ms m) _ _ c.as_slice-monitors.ensures c.loop-number-test.true (any_default ms m nothing _ c.loop-number-test.true)
    (c.in-Some.ensures ∙ ap (λ d. of (part.Monitor m) subject.Ceiling (other (here ms m).ceiling d)) c.ceiling_of-due.ensures) c.loop-number.invariant

pub loop-number-preserved : goal.loop-number-preserved
loop-number-preserved c =
    let raw = c.args.raw.now in
    let ms = c.as_slice-monitors.result.now in
    let m = c.loop-number.number in
    goes_on_in monitor_of (ceiling_of_monitor (image_of raw)) raw.monitors ms m (here ms m) _ c.as_slice-monitors.ensures c.loop-number-test.true (any_default ms m nothing _ c.loop-number-test.true)
    (c.in-None.ensures ∙ ap (λ d. of (part.Monitor m) subject.Ceiling (other (here ms m).ceiling d)) c.ceiling_of-due.ensures) c.loop-number.invariant
