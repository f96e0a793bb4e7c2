use Rattle.std.proofs.Common.{◌∙◌}
use Rattle.syntax_tree.specs.Placed.{placed, plain}
use Rattle.source_semantics.specs.Run as run
use Rattle.replay_state.specs.View.{vars_of}
use Rattle.replay_calls.specs.Seen.{answer_of}
use Rattle.replay_next.specs.Remains.{exprs_of, param_of, params_of}
use Rattle.replay_next.proofs.Arguments.{bind_goes, bind_stops}
use Rattle.replay_next.proofs.binding.bind.Goals as goal

pub returns-in-Raised-clause-bound : goal.returns-in-Raised-clause-bound
returns-in-Raised-clause-bound c = λ s m same.
    let b = c.args.binding in
    let rest = run.arguments s m (exprs_of b.args.now) (params_of b.params.now) in
    bind_stops (plain (placed c.args.scope.now.declarations.now)) s.program (param_of b.param.now) (answer_of c.args.answer) rest (vars_of b.own.items) c.param_variable.result c.in-Raised.number
    c.in-Raised.is (c.param_variable.ensures rest) same

pub returns-clause-bound : goal.returns-clause-bound
returns-clause-bound c = λ s m same.
    let b = c.args.binding in
    let rest = run.arguments s m (exprs_of b.args.now) (params_of b.params.now) in
    c.next_argument.ensures.bound s m
    ∙ bind_goes (plain (placed c.args.scope.now.declarations.now)) s.program (param_of b.param.now) (answer_of c.args.answer) rest b.own.items c.push.new.self.items c.param_variable.result c.in-To.slot
    c.in-To.is c.in_ok-push-in-To.ensures.items (c.param_variable.ensures rest) same
