use Rattle.std.proofs.Common.{◌≡◌, List, [], ◌∷◌, ap, ◌∙◌}
use Rattle.syntax_tree.specs.Placed.{placed}
use Rattle.static_names.specs.Reach.{first}
use Rattle.static_names.specs.Occurrences.{Occurrence, closes, entries_at, program_name, decls_names}
use Rattle.static_names.specs.Findings.{noted}
use Rattle.static_names.specs.Seen.{nothing}
use Rattle.static_names.proofs.program.findings.Goals as goal

pub returns : goal.returns
returns c =
    let g = placed c.args.program.now in
    let last : List Occurrence = closes g.close g.close_place g.name ∷ [] in
    let start : c.new-findings.result ≡ nothing = λ i. record { first = c.new-findings.ensures.first i; ties = c.new-findings.ensures.ties i } in
    c.close.ensures
    ∙ c.in-Ok.ensures last
    ∙ ap (λ f. noted f (decls_names (λ place. first (entries_at g.decls place)) (program_name g ∷ []) g.decls last)) start
