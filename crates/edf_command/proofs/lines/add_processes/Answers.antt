use Rattle.std.proofs.Common.{◌≡◌, ◌<◌, ◌∙◌, ℕ, List, Some, length, sym, ap, arith}
use Rattle.std.specs.Prelude.{get_or, slice_get}
use Rattle.std.proofs.lemmas.Option.{slice_get-get_or}
use Rattle.image.specs.declared.names.ImageNames.{ImageNames}
use Rattle.image_bytes.specs.Standing.{process_in}
use Rattle.edf_command.proofs.Reported.{one_more_line}
use Rattle.edf_command.proofs.lines.add_processes.Goals as goal

pub loop-number-preserved : goal.loop-number-preserved
loop-number-preserved c =
    let names : List (List ℕ) = c.args.image.now.names.processes in
    let k : ℕ = c.loop-number.number in
    let name : List ℕ = c.index-names-number.result in
    let same : c.as_slice-names.result.now ≡ names = c.as_slice-names.ensures ∙ ap (λ (n : ImageNames). n.processes) c.names.ensures in
    let low : k < length names = omega (arith, c.loop-number-test.true, c.processes-number-end.ensures, c.requires) in
    let named : slice_get names k ≡ Some name = slice_get-get_or names k name low ∙ ap (λ (x : List ℕ). Some x) (sym (c.index-names-number.is ∙ ap (λ (xs : List (List ℕ)). get_or xs k name) same)) in
    one_more_line k names c.args.image.now.image.processes name (process_in c.process.result) c.loop-number.text c.add_process.new.text _
    named c.process.ensures c.in_ok-add_process.ensures c.loop-number.invariant
