use Rattle.std.proofs.Common.{◌≡◌, Option, None, subst}
use Rattle.syntax_tree.specs.Placed.{placed}
use Rattle.syntax_tree.specs.declared.decl.Program.{Program}
use Rattle.static_rule.specs.declared.violation.Violation.{Violation}
use Rattle.static_rule.specs.First.{IsFirstOf}
use Rattle.static_names.specs.Resolved.{IsRead, IsNamed}
use Rattle.static_semantics.specs.Static.{Fails, IsChecked}
use Rattle.static_semantics.proofs.rules.check.Goals as goal

-- a program that was read, whose names are in order, and of which no static rule fails
keeps : (p q : Program) (first : Option Violation) → p ≡ q → IsRead (placed p) → IsNamed (placed p) → IsFirstOf (Fails (placed q)) first → first ≡ None → IsChecked (placed q)
keeps p q first same read named fails none =
    let R : Program → Type 0 = λ t. IsRead (placed t) in
    let N : Program → Type 0 = λ t. IsNamed (placed t) in
    record {
      read = subst R same read;
      named = subst N same named;
      checked = subst (IsFirstOf (Fails (placed q))) none fails;
    }

pub invariant_of-result : goal.invariant_of-result
invariant_of-result c = keeps c.named.inside.prog c.args.named c.in-Ok-None.field-0 c.named.view_is c.named.invariant.read c.named.invariant.named c.in-Ok-None.ensures c.in-Ok-None.field-0-is

pub returns-in-Ok-None-clause-checked : goal.returns-in-Ok-None-clause-checked
returns-in-Ok-None-clause-checked c = keeps c.named.inside.prog c.args.named c.in-Ok-None.field-0 c.named.view_is c.named.invariant.read c.named.invariant.named c.in-Ok-None.ensures c.in-Ok-None.field-0-is
