use Rattle.std.proofs.Common.{◌≡◌, true, false, subst}
use Rattle.syntax_tree.specs.Placed.{placed}
use Rattle.syntax_tree.specs.declared.decl.Program.{Program as Tree}
use Rattle.compile.specs.Build.{IsBuiltOf, IsLateOf}
use Rattle.compile.proofs.Answered.{is_built, is_late}
use Rattle.compile.proofs.building.build.Goals as goal

pub returns-then-all_there : goal.returns-then-all_there
returns-then-all_there g c =
    subst (λ (p : Tree). IsBuiltOf (placed p) c.args.over c.in_ok-built.built) c.prog.ensures.tree
    (is_built c.bounded_images_are_built.ensures c.tables_are_named.ensures (placed c.prog.result.now) c.args.over c.in_ok-image.image c.in_ok-least.least c.in_ok-built.built
    c.in_ok-image.ensures.image c.in_ok-least.ensures c.in_ok-built.ensures)

pub returns : goal.returns
returns g c =
    subst (λ (p : Tree). IsLateOf (placed p) c.args.over c.in_ok-late.late) c.prog.ensures.tree
    (is_late c.late_where_one_is_none.ensures c.tables_are_named.ensures (placed c.prog.result.now) c.args.over c.in_ok-image.image c.in_ok-least.least c.in_ok-late.late
    c.in_ok-image.ensures.image c.in_ok-least.ensures
    (λ all. (
    let there : c.all_there.result ≡ true = c.all_there.ensures.1 all in
    let missing : c.all_there.result ≡ false = c.if-all_there.false in cc
    )) c.in_ok-late.ensures)
