use Rattle.std.proofs.Common.{pos, ◌+◌, ◌-◌, List, sym, ap, ◌∙◌}
use Rattle.machine_isa.specs.declared.instr.Instr.{Instr}
use Rattle.codegen_spec.specs.Told.{fit}
use Rattle.codegen_spec.specs.Made.{Out, aims}
use Rattle.codegen.proofs.Steps.{aims_turned}
use Rattle.codegen.proofs.code_builder.CodeBuilder.aim_all.Goals as goal

pub loop-at-preserved : goal.loop-at-preserved
loop-at-preserved c =
    let to = fit (pos c.args.to) in
    let at = c.loop-at.at in
    let end = c.args.end in
    ap {B = Out} (λ (o : Out). record o { code = aims to (at + 1) (end - (at + 1)) o.code }) c.aim_one.ensures
    ∙ ap {B = Out} (λ (k : List Instr). record (c.loop-at.self) { code = k }) (sym (aims_turned to at end c.loop-at.self.code c.loop-at-test.true))
    ∙ c.loop-at.invariant
