use Rattle.std.proofs.Common.{◌≡◌, ◌+◌, ℕ, suc, List, get_or, Some, arith, refl, ap, sym, ◌∙◌, map}
use Rattle.std.specs.Prelude.{slice_get}
use Rattle.base.proofs.Lists.{map_get}
use Rattle.image.specs.declared.raw.RawMonitor.{RawMonitor}
use Rattle.image.specs.Raw.{image_of, monitor_of}
use Rattle.valid_image.specs.Sizes.{due_base, end_of_words, other}
use Rattle.loader_code.proofs.Seeking.{any_default, stops_in, goes_on_in}
use Rattle.loader.proofs.Needs.{read}
use Rattle.faulty_part.specs.declared.part.FaultyPart.TheVariants as part
use Rattle.faulty_part.specs.declared.part.Subject.TheVariants as subject
use Rattle.faulty_part.specs.Parts.{of, base_of_monitor}
use Rattle.validity_parts.proofs.Coding.{starts_in}
use Rattle.validity_parts.proofs.sizes.monitors_fault.Goals as goal

abbrev nothing : RawMonitor
nothing = record { base = 0; words = 0; ceiling = 0 }

abbrev here : List RawMonitor → ℕ → RawMonitor
here ms m = get_or ms m nothing

pub loop-m-init : goal.loop-m-init
loop-m-init c = record {
  search = starts_in monitor_of (base_of_monitor (image_of c.args.raw.now)) c.args.raw.now.monitors;
  due = refl;
}

pub returns-in-Some : goal.returns-in-Some
returns-in-Some c =
    let raw = c.args.raw.now in
    let ms = c.as_slice-monitors.result.now in
    let m = c.loop-m.m in
    stops_in monitor_of (base_of_monitor (image_of raw)) raw.monitors ms m (here ms m) _ _ c.as_slice-monitors.ensures c.loop-m-test.true (any_default ms m nothing _ c.loop-m-test.true)
    (c.in-Some.ensures ∙ ap (λ d. of (part.Monitor m) subject.Base (other (here ms m).base d)) c.loop-m.invariant.due) c.loop-m.invariant.search

pub loop-m-preserved : goal.loop-m-preserved
loop-m-preserved c =
    let raw = c.args.raw.now in
    let ms = c.as_slice-monitors.result.now in
    let m = c.loop-m.m in
    let is = any_default ms m nothing (here ms m) c.loop-m-test.true in
    let x : slice_get raw.monitors m ≡ Some (here ms m) = read ms raw.monitors m (here ms m) c.as_slice-monitors.ensures c.loop-m-test.true is in
    let next : suc m ≡ m + 1 = omega arith in
    record {
      search = goes_on_in monitor_of (base_of_monitor (image_of raw)) raw.monitors ms m (here ms m) _ c.as_slice-monitors.ensures c.loop-m-test.true is
          (c.in-None.ensures ∙ ap (λ d. of (part.Monitor m) subject.Base (other (here ms m).base d)) c.loop-m.invariant.due) c.loop-m.invariant.search;
      due = sym (ap (λ n. due_base (map monitor_of raw.monitors) n) (sym next) ∙ ap end_of_words (map_get monitor_of raw.monitors m (here ms m) x));
    }
