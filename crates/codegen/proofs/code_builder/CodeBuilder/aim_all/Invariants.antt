use Rattle.std.proofs.Common.{◌≡◌, ◌-◌, pos}
use Rattle.codegen_spec.specs.Told.{fit}
use Rattle.codegen_spec.specs.Made.{aims}
use Rattle.codegen.proofs.code_builder.CodeBuilder.aim_all.Given as goal

abbrev pub invariant-loop-at : goal.invariant-loop-at
invariant-loop-at l = record (l.self) { code = aims (fit (pos l.to)) l.at (l.end - l.at) l.self.code } ≡ record (l.fn.self) { code = aims (fit (pos l.to)) l.start (l.end - l.start) l.fn.self.code }
