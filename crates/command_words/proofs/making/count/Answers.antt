use Rattle.std.proofs.Common.{arith, sym, ◌∙◌}
use Rattle.std.proofs.lemmas.Fmt.{decimal_injective}
use Rattle.command_words.proofs.making.count.Goals as goal

pub returns-then-count-eq0-clause-none : goal.returns-then-count-eq0-clause-none
returns-then-count-eq0-clause-none c n some few e =
    let same = decimal_injective c.in-Some.count n (omega arith) (omega arith) (sym c.in-Some.ensures.found ∙ e) in
    omega (arith, same)
