use Rattle.std.proofs.Common.{Option, Some, None, refl, ap, subst}
use Rattle.syntax_tree.specs.Placed.{placed}
use Rattle.syntax_tree.specs.declared.place.Place.{Place}
use Rattle.static_calls.specs.Reaching.{IsWayBack}
use Rattle.message_conduct.proofs.call_told.round_told.Goals as goal

pub returns-in_default : goal.returns-in_default
returns-in_default c =
    record {
      callee = None;
      way = subst (λ (o : Option Place). IsWayBack (placed c.args.declarations.now) c.args.place o) c.in_default.is c.in_ok-callee.ensures;
      is = refl;
    }

pub returns : goal.returns
returns c =
    record {
      callee = Some c.in-Some.callee;
      way = subst (λ (o : Option Place). IsWayBack (placed c.args.declarations.now) c.args.place o) c.in-Some.is c.in_ok-callee.ensures;
      is = ap Some c.in_ok-sentence.ensures;
    }
