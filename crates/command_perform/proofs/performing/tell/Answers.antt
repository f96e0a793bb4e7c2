use Rattle.std.proofs.Common.{◌≡◌, ◌≢◌, ◌++◌, [], Option, Some, OnOk, OnErr, sym, subst}
use Rattle.command_answers.specs.Acts.{log_due}
use Rattle.outside.specs.Outside.{Appends, AppendsFront, AppendsFront-more}
use Rattle.command_perform.specs.declared.ready.Ready.{Ready}
use Rattle.command_perform.specs.Ready.{run_of}
use Rattle.command_perform.proofs.Ends.{on_err, all_told, front_told, some_before, some_log}
use Rattle.command_perform.proofs.performing.tell.Goals as goal

pub returns-in_err-put_text-clause-front : goal.returns-in_err-put_text-clause-front
returns-in_err-put_text-clause-front g c =
    on_err c.from_residual.result _
    (AppendsFront-more (g.O.Sink.state c.args.out.now).taken (g.O.Sink.state c.put_text.new.out).taken c.args.text.now (log_due (run_of c.args.run)) c.in_err-put_text.ensures.front)

pub returns-in-Some-clause-whole : goal.returns-in-Some-clause-whole
returns-in-Some-clause-whole g c =
    let same : c.args.run ≡ Some c.in-Some.run' = cc in
    subst (λ (run : Option Ready). OnOk c.put_log.result (Appends (g.O.Sink.state c.args.out.now).taken (g.O.Sink.state c.put_log.new.out).taken (c.args.text.now ++ log_due (run_of run)))) (sym same)
    (all_told c.put_log.result (g.O.Sink.state c.args.out.now).taken (g.O.Sink.state c.put_text.new.out).taken (g.O.Sink.state c.put_log.new.out).taken c.args.text.now (log_due (run_of (Some c.in-Some.run')))
    c.in_ok-put_text.ensures.whole c.put_log.ensures.whole)

pub returns-in-Some-clause-front : goal.returns-in-Some-clause-front
returns-in-Some-clause-front g c =
    let same : c.args.run ≡ Some c.in-Some.run' = cc in
    subst (λ (run : Option Ready). OnErr c.put_log.result (AppendsFront (g.O.Sink.state c.args.out.now).taken (g.O.Sink.state c.put_log.new.out).taken (c.args.text.now ++ log_due (run_of run)))) (sym same)
    (front_told c.put_log.result (g.O.Sink.state c.args.out.now).taken (g.O.Sink.state c.put_text.new.out).taken (g.O.Sink.state c.put_log.new.out).taken c.args.text.now (log_due (run_of (Some c.in-Some.run')))
    c.in_ok-put_text.ensures.whole c.put_log.ensures.front)

pub returns-in_err-put_text-clause-some : goal.returns-in_err-put_text-clause-some
returns-in_err-put_text-clause-some g c =
    on_err c.from_residual.result _ (some_before c.args.text.now (log_due (run_of c.args.run)) c.in_err-put_text.ensures.some)

pub returns-in-Some-clause-some : goal.returns-in-Some-clause-some
returns-in-Some-clause-some g c =
    let same : c.args.run ≡ Some c.in-Some.run' = cc in
    subst (λ (run : Option Ready). OnErr c.put_log.result (c.args.text.now ++ log_due (run_of run) ≢ [])) (sym same)
    (some_log c.put_log.result c.args.text.now (log_due (run_of (Some c.in-Some.run'))) c.put_log.ensures.some)
