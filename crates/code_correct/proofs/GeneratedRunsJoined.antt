-- The laws joined.
use Rattle.std.specs.Prelude.{◌≡◌, Some, slice_get}
use Rattle.std.proofs.Common.{sym, subst}
use Rattle.source_semantics.specs.Names.{processes}
use Rattle.code_spec.specs.Compiled.{IsCodeOf}
use Rattle.static_semantics.specs.WellFormed.{IsWellFormed}
use Rattle.codegen_law.specs.Ruled.{NamesApart}
use Rattle.code_correct.specs.Ruled.{ProgramIsFaithful}
use Rattle.built_image_law.specs.Ready.{CheckedProgramsAreReady}
use Rattle.built_image_law.specs.Generated.{GeneratedIsCode}
use Rattle.code_correct.specs.Runs.{CheckedCodeIsFaithful}
use Rattle.built_image_law.proofs.GeneratedRunsJoined.{made_is_code}

pub made_is_faithful : CheckedProgramsAreReady → GeneratedIsCode → ProgramIsFaithful → CheckedCodeIsFaithful
made_is_faithful ready code faithful g m c small holds at =
    let r = ready g small.checked in
    faithful c (subst IsWellFormed (sym at.program) r.formed) (subst NamesApart (sym at.program) r.apart)
    (subst (λ i. IsCodeOf c.program i) (sym at.image) (subst (λ p. IsCodeOf p m) (sym at.program) (made_is_code ready code g m small holds)))
    (subst (λ p. slice_get (processes p) c.number ≡ Some c.text) (sym at.program) at.text)
    (subst (λ i. slice_get i.processes c.number ≡ Some c.process) (sym at.image) at.process)
