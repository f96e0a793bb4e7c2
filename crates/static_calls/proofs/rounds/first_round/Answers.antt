use Rattle.std.proofs.Common.{◌≡◌, ◌+◌, ◌++◌, ◌∷◌, [], take, ap, sym, ◌∙◌, subst, arith}
use Rattle.std.proofs.lemmas.List.{map_more, take_all}
use Rattle.syntax_tree.specs.Placed.{placed_routine}
use Rattle.static_rule.specs.First.{IsFirstOf}
use Rattle.static_calls.specs.Tables.{seen_routines, OneComesBack}
use Rattle.static_calls.proofs.rounds.first_round.Goals as goal

pub loop-routine-preserved : goal.loop-routine-preserved
loop-routine-preserved c =
    let rs = c.args.routines.now in
    let i = c.loop-routine.routine-index in
    let r = c.routine-item.result in
    let more : seen_routines (take (i + 1) rs) ≡ seen_routines (take i rs) ++ placed_routine r.now ∷ [] = map_more (λ q. placed_routine q.now) rs i r (omega arith) ∙ ap (λ q. seen_routines (take i rs) ++ placed_routine q.now ∷ []) (sym c.routine-item.is) in
    subst (λ l. IsFirstOf (OneComesBack c.args.numbers.now.keys c.args.cycles.now l) c.in_ok-first.first) (sym more) (c.in_ok-first.ensures (seen_routines (take i rs)) c.loop-routine.invariant)

pub returns : goal.returns
returns c = subst (λ l. IsFirstOf (OneComesBack c.args.numbers.now.keys c.args.cycles.now (seen_routines l)) c.loop-routine.first) (take_all c.loop-routine.routine-index c.args.routines.now (omega arith)) c.loop-routine.invariant
