use Rattle.std.proofs.Common.{refl, sym, ◌∙◌}
use Rattle.std.proofs.lemmas.Bool.{false≢true}
use Rattle.syntax_tree.specs.Placed.{placed_routine}
use Rattle.static_calls.proofs.Returning.{one-more, none-more, not-first-more}
use Rattle.static_calls.proofs.rounds.next_round.Goals as goal

pub returns-then-not-comes_first : goal.returns-then-not-comes_first
returns-then-not-comes_first c rs h =
    not-first-more c.args.numbers.now.keys c.args.cycles.now rs (placed_routine c.args.routine.now) c.args.first (λ e. false≢true (c.if-not-comes_first.ensures.1 e)) h

pub returns-then-branch : goal.returns-then-branch
returns-then-branch c rs h =
    one-more c.args.numbers.now.keys c.args.cycles.now rs (placed_routine c.args.routine.now) c.args.first (c.in_ok-comes_back.ensures.0 c.if-branch.true) (c.if-not-comes_first.ensures.0 refl) h

pub returns-else-branch : goal.returns-else-branch
returns-else-branch c rs h =
    none-more c.args.numbers.now.keys c.args.cycles.now rs (placed_routine c.args.routine.now) c.args.first (λ back. false≢true (sym c.if-branch.false ∙ c.in_ok-comes_back.ensures.1 back)) h
