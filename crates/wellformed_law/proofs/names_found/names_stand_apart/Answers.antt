use Rattle.std.proofs.Common.{◌≤◌, sym, subst, arith}
use Rattle.syntax.specs.Words.{toks_of}
use Rattle.static_names.specs.Occurrences.{names}
use Rattle.wellformed_law.proofs.WellformedNamesCounts.{count-standing}
use Rattle.wellformed_law.proofs.DeclParts.{program-keeps}
use Rattle.wellformed_law.proofs.TokenPlaces.{one-named}
use Rattle.wellformed_law.proofs.names_found.names_stand_apart.Goals as goal

pub returns : goal.returns
returns c g read q =
    let few = program-keeps q g (toks_of read.text read.toks) read.reads in
    let one = one-named q read.text read.toks (c.tokens_in_order.ensures read.text read.toks read.listed) in
    subst (λ n. n ≤ 1) (sym (count-standing q (names g))) (omega (arith, few, one))
