use Rattle.std.proofs.Common.{◌≡◌, Some, true, false, nat_eq, sym, ◌∙◌, ap}
use Rattle.std.specs.Cmp.Lexicographic.{pointwise}
use Rattle.std.proofs.lemmas.Cmp.{nat_list_eq_equiv}
use Rattle.std.proofs.lemmas.Option.{same_Some}
use Rattle.machine_isa.specs.Bytes.{instr_bytes}
use Rattle.machine_isa.specs.Numbered.{named_by}
use Rattle.machine_isa.proofs.Back.{named_by-instr_bytes}
use Rattle.machine_isa.proofs.bytes.read_instr.Goals as goal

pub returns-in_err-instr-clause-only : goal.returns-in_err-instr-clause-only
returns-in_err-instr-clause-only c = λ instr fit same. c.from_residual.ensures ∙ c.in_err-instr.ensures ∙ ap named_by same ∙ named_by-instr_bytes instr fit

pub returns-then-eq-clause-only : goal.returns-then-eq-clause-only
returns-then-eq-clause-only c = λ instr fit same. c.in_ok-instr.ensures ∙ ap named_by same ∙ named_by-instr_bytes instr fit

pub returns-else-eq-clause-only : goal.returns-else-eq-clause-only
returns-else-eq-clause-only c = λ instr fit same.
    let found : Some c.in_ok-instr.instr ≡ Some instr = c.in_ok-instr.ensures ∙ ap named_by same ∙ named_by-instr_bytes instr fit in
    let bytes_are : c.args.bytes.now ≡ c.as_slice.result.now = same ∙ ap instr_bytes (sym (same_Some _ _ found)) ∙ sym c.write_instr.ensures ∙ sym c.as_slice.ensures in
    let equal : pointwise nat_eq c.args.bytes.now c.as_slice.result.now ≡ true = rw bytes_are (nat_list_eq_equiv.refl c.as_slice.result.now) in
    let differ : true ≡ false = sym equal ∙ sym c.if-eq.ensures in
    cc
