use Rattle.std.proofs.Common.{◌≡◌, ◌≤◌, length, subst, sym}
use Rattle.built_image.specs.Named.{names_of}
use Rattle.source_semantics.specs.Names.{monitors}
use Rattle.syntax_tree.specs.declared.decl.Program.{Program}
use Rattle.syntax_tree.specs.Placed.{placed, plain}
use Rattle.replay.proofs.Few.{names_for}
use Rattle.replay.proofs.names.program_names.Goals as goal

pub image_names-requires : goal.image_names-requires
image_names-requires c = record {
  few = subst (λ (p : Program). length (monitors (plain (placed p))) ≤ 64) (sym c.prog.ensures.tree)
      (c.checked_programs_are_ready.ensures (placed c.args.program.now) c.prog.ensures.checked).formed.counts_fit.few_monitors;
}

pub returns : goal.returns
returns c =
    names_for (placed c.args.program.now) (c.checked_programs_are_ready.ensures (placed c.args.program.now) c.prog.ensures.checked).formed.counts_fit c.in_ok-names.names
    (subst (λ (p : Program). c.in_ok-names.names ≡ names_of (plain (placed p))) c.prog.ensures.tree c.in_ok-names.ensures)
