use Rattle.std.proofs.Common.{◌≡◌, subst}
use Rattle.syntax_tree.specs.Placed.{placed}
use Rattle.syntax.specs.Grammar.{tree}
use Rattle.front_end.proofs.Texts.{only_lexical, only_syntactic, stands_as, syntactic_fault}
use Rattle.front_end.proofs.source.read_tree.Goals as goal

pub returns-in_err-tokens-clause-only : goal.returns-in_err-tokens-clause-only
returns-in_err-tokens-clause-only c = λ g is.
    only_lexical c.from_residual.result (λ p. placed p ≡ g) c.in_err-tokens.field-0.0 c.from_residual.ensures.1 (c.in_err-tokens.ensures.only is.toks is.listed)

pub returns-in_err-tree-clause-only : goal.returns-in_err-tree-clause-only
returns-in_err-tree-clause-only c = λ g is.
    let grown = subst (λ toks. tree c.args.text.now toks g) (c.one_list.ensures c.args.text.now is.toks c.in_ok-tokens.tokens.list is.listed c.in_ok-tokens.ensures.list) is.grown in
    only_syntactic c.from_residual-in_err-tree.result (λ p. placed p ≡ g) c.in_err-tree.field-0.0 c.from_residual-in_err-tree.ensures.1 (c.in_err-tree.ensures.only g grown)

pub returns-in_err-tree-clause-fault : goal.returns-in_err-tree-clause-fault
returns-in_err-tree-clause-fault c =
    syntactic_fault c.from_residual-in_err-tree.result c.args.text.now c.in_ok-tokens.tokens c.in_err-tree.field-0.0 c.from_residual-in_err-tree.ensures.1
    c.in_ok-tokens.ensures.list c.in_ok-tokens.ensures.end c.in_err-tree.ensures.only
    (stands_as c.args.text.now c.in_ok-tokens.tokens c.in_err-tree.field-0.0 c.in_err-tree.ensures.syntax c.in_err-tree.ensures.nesting c.in_err-tree.ensures.too_deep)

pub returns-clause-only : goal.returns-clause-only
returns-clause-only c = λ g is.
    let grown = subst (λ toks. tree c.args.text.now toks g) (c.one_list.ensures c.args.text.now is.toks c.in_ok-tokens.tokens.list is.listed c.in_ok-tokens.ensures.list) is.grown in
    c.in_ok-tree.ensures.only g grown
