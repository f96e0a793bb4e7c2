use Rattle.std.specs.Prelude.{◌-◌}
use Rattle.std.proofs.Common.{◌∙◌, ap, sym, arith}
use Rattle.replay_calls.specs.Reach.{memory_of, site_of}
use Rattle.replay_next.specs.Driving.{answer_within, callers_run, end_answer, end_weight, others_in, others_of}
use Rattle.replay_next.specs.Weights.{costs}
use Rattle.replay_next.specs.declared.remains.FunctionEnd.{FunctionEnd}
use Rattle.replay_next.proofs.Oks.{ok_all}
use Rattle.replay_next.proofs.driving.function_over.Goals as goal

pub returns-in-Answers-clause-run : goal.returns-in-Answers-clause-run
returns-in-Answers-clause-run c = λ s.
    let p = c.args.running.now in
    let f = c.args.caller in
    let m = memory_of c.args.memory.now in
    let now = others_of p.kept c.args.memory.now in
    let site = site_of s f.callee (f.depth - 1) in
    let told = sym (ap (λ (e : FunctionEnd). end_answer site e m) c.in-Answers.is) ∙ c.function_end.ensures.run site m in
    c.answer_given.ensures.run s ∙ ap (λ a. callers_run s p.callers.items (others_in f.kept now) (answer_within s f now a)) told

pub returns-in-Answers-clause-falls : goal.returns-in-Answers-clause-falls
returns-in-Answers-clause-falls c = λ s.
    let less = c.answer_given.ensures.falls s in
    omega (arith, less)

pub returns-in-Evaluates-clause-run : goal.returns-in-Evaluates-clause-run
returns-in-Evaluates-clause-run c =
    let p = c.args.running.now in
    let f = c.args.caller in
    let m = memory_of c.args.memory.now in
    let now = others_of p.kept c.args.memory.now in
    ok_all c.evaluate_result.result _ _ (λ step h. λ s.
    let site = site_of s f.callee (f.depth - 1) in
    let told = sym (ap (λ (e : FunctionEnd). end_answer site e m) c.in-Evaluates.is) ∙ c.function_end.ensures.run site m in
    h s ∙ ap (λ a. callers_run s p.callers.items (others_in f.kept now) (answer_within s f now a)) told) c.evaluate_result.ensures.run

pub returns-in-Evaluates-clause-falls : goal.returns-in-Evaluates-clause-falls
returns-in-Evaluates-clause-falls c =
    ok_all c.evaluate_result.result _ _ (λ step h. λ s.
    let k = costs s (c.args.caller.depth - 1) in
    let is = ap (λ (e : FunctionEnd). end_weight k e) c.in-Evaluates.is in
    let end = c.function_end.ensures.falls k in
    let less = h s in
    omega (arith, is, end, less)) c.evaluate_result.ensures.falls
