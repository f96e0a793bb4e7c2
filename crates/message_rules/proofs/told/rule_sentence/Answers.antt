use Rattle.std.proofs.Common.{◌≡◌, ◌++◌, map, option_map, Some, sym, ap, ◌∙◌}
use Rattle.syntax_tree.specs.Placed.{placed, placed_decl}
use Rattle.static_rule.specs.declared.violation.Violation.{Violation}
use Rattle.message_rules.specs.Sentences.{sentence}
use Rattle.message_rules.specs.Findings.{findings, first_wrong, rule_sentence}
use Rattle.message_rules.proofs.told.rule_sentence.Goals as goal

pub returns-in_default : goal.returns-in_default
unfolding rule_sentence
returns-in_default c =
    let broken : Violation = record { number = c.args.number; place = c.args.place } in
    ap (option_map (sentence (map placed_decl c.args.program.now.decls)))
    (sym c.in_default.is ∙ c.in_ok-fault.ensures ∙ ap (λ p. first_wrong broken (findings (placed p))) c.in_ok-declarations.ensures)

pub returns : goal.returns
unfolding rule_sentence
returns c =
    let broken : Violation = record { number = c.args.number; place = c.args.place } in
    let said : c.add_sentence.new.text ≡ sentence (map placed_decl c.args.program.now.decls) c.in-Some.fault =
    c.in_ok-add_sentence.ensures ∙ ap (λ t. t ++ sentence (map placed_decl c.as_slice.result.now) c.in-Some.fault) c.new-sentence.ensures
    ∙ ap (λ ds. sentence (map placed_decl ds) c.in-Some.fault) (c.as_slice.ensures ∙ ap (λ p. p.decls) c.prog.ensures.tree) in
    ap Some said
    ∙ ap (option_map (sentence (map placed_decl c.args.program.now.decls)))
    (sym c.in-Some.is ∙ c.in_ok-fault.ensures ∙ ap (λ p. first_wrong broken (findings (placed p))) c.in_ok-declarations.ensures)
