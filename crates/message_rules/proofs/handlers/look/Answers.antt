use Rattle.std.proofs.Common.{map, sym, ap, ◌∙◌, arith}
use Rattle.syntax_tree.specs.Placed.{placed, placed_decl}
use Rattle.syntax_tree.specs.Parts.{processes}
use Rattle.static_declarations.specs.Values.{value}
use Rattle.static_numbers.specs.Processes.{all_handled}
use Rattle.message_rules.specs.Findings.{handled_findings}
use Rattle.message_rules.specs.Seen.{left}
use Rattle.static_numbers.proofs.Walks.{finish}
use Rattle.message_rules.proofs.Walks.{left-nothing}
use Rattle.message_rules.proofs.handlers.look.Goals as goal

pub returns : goal.returns
returns c =
    let of = handled_findings (value (placed c.args.declarations.now)) in
    let list = c.as_slice-one-items.result.now in
    sym (left-nothing of c.args.broken c.loop-one.known)
    ∙ finish (λ s xs. left of c.args.broken s (all_handled (processes (map placed_decl xs)))) (left of c.args.broken c.args.known.now (all_handled (processes (map placed_decl list)))) list c.loop-one.one-index c.loop-one.known (omega arith) c.loop-one.invariant
    ∙ ap (λ ds. left of c.args.broken c.args.known.now (all_handled (processes (map placed_decl ds)))) (c.as_slice-one-items.ensures ∙ ap (λ p. p.decls) c.program.ensures)
