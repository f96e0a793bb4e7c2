use Rattle.std.proofs.Common.{None, map, sym, ap, subst, ◌∙◌}
use Rattle.syntax_tree.specs.Placed.{placed, placed_decl, plain}
use Rattle.static_rule.specs.First.{IsFirstOf, sooner}
use Rattle.static_rule.specs.Parts.{noted}
use Rattle.code_cost.specs.Rules.{SizeFails}
use Rattle.code_cost.specs.Told.{parts_from, stack_rules}
use Rattle.code_cost.proofs.Told.{sizes_first}
use Rattle.code_cost.proofs.rules.too_large.Goals as goal

pub returns : goal.returns
returns c =
    let program = c.args.program.now in
    let measures = c.args.measures.now in
    let list = c.as_slice.result.now in
    let stack = c.first_large-stack.ensures
    ∙ ap (λ q. noted (stack_rules (plain (placed q)) measures) None (parts_from 0 0 (map placed_decl list))) c.in_ok-numbering.ensures
    ∙ ap (λ l. noted (stack_rules (plain (placed program)) measures) None (parts_from 0 0 (map placed_decl l))) c.as_slice.ensures in
    subst (IsFirstOf (SizeFails (placed program))) (sym (c.sooner.ensures ∙ (λ i. sooner (c.long_code.ensures i) (stack i))))
    (sizes_first (placed program) measures c.requires.numbers c.requires.defined)
