use Rattle.std.proofs.Common.{◌≡◌, ◌∙◌}
use Rattle.syntax_tree.specs.Placed.{placed}
use Rattle.static_names.specs.Occurrences.{names}
use Rattle.static_names.specs.Findings.{Found, noted}
use Rattle.static_names.specs.Seen.{nothing}
use Rattle.static_names.proofs.Failing.{first-fault, resolved}
use Rattle.static_names.proofs.named.name.Goals as goal

pub returns-in-Some-clause-fault : goal.returns-in-Some-clause-fault
returns-in-Some-clause-fault c =
    let f : Found = record { first = c.found.inside.first; ties = c.found.inside.ties.entries } in
    let is : f ≡ noted nothing (names (placed c.args.p)) = c.found.view_is ∙ c.in-Ok.ensures in
    first-fault (placed c.args.p) f c.in-Some.broken is c.in-Some.is

pub invariant_of-result : goal.invariant_of-result
invariant_of-result c =
    let f : Found = record { first = c.found.inside.first; ties = c.found.inside.ties.entries } in
    let is : f ≡ noted nothing (names (placed c.args.p)) = c.found.view_is ∙ c.in-Ok.ensures in
    resolved (placed c.args.p) f c.requires.read is c.in-None.is

pub returns-in-None-clause-named : goal.returns-in-None-clause-named
returns-in-None-clause-named c =
    let f : Found = record { first = c.found.inside.first; ties = c.found.inside.ties.entries } in
    let is : f ≡ noted nothing (names (placed c.args.p)) = c.found.view_is ∙ c.in-Ok.ensures in
    (resolved (placed c.args.p) f c.requires.read is c.in-None.is).named
