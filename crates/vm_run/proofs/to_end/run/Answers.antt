use Rattle.std.proofs.Common.{◌≡◌, ◌<◌, ◌++◌, List, ℕ, All, Result, Ok, Err, OnErr, ap, sym, subst, ◌∙◌, arith, append_assoc}
use Rattle.std.proofs.lemmas.List.{append-nil}
use Rattle.base.specs.declared.event.Event.{Event}
use Rattle.outside.specs.Outside.{Appends-append, AppendsFront-append, AppendsFront-more}
use Rattle.event_log.specs.InRange.{AreIn}
use Rattle.event_log.specs.Line.{log_of}
use Rattle.vm_releases.specs.Begin.{script_of}
use Rattle.vm_runner.specs.Course.{course}
use Rattle.vm_run.specs.Coming.{log_to_come}
use Rattle.vm_run.proofs.Lines.{some_before, some_behind}
use Rattle.vm_run.proofs.Rest.{lines_now, lines_later, log_ends, split}
use Rattle.vm_run.proofs.to_end.run.Goals as goal

-- what holds of every result holds where it is an error
on_err : {A E : Type 0} (r : Result A E) (P : Type 0) → P → OnErr r P
on_err (Ok x) P p = tt
on_err (Err e) P p = p

pub put_all-requires : goal.put_all-requires
put_all-requires g c =
    let all_of = course g.D.Dispatch.behaviour g.image (script_of c.args.script.now) in
    let goes = c.goes_by_steps.ensures.steps g.image (script_of c.args.script.now) c.requires.1.1.1.0 in
    let t = c.loop-text.machine.tick in
    let u = c.advance_row.new.self.tick in
    let later : t < u = c.advance_row.ensures.passed (λ e. absurd (omega (arith, c.advance_row.ensures.done.0 e))) in
    let told = c.events.ensures ∙ c.advance_row.ensures.fell (λ e. absurd (omega (arith, c.advance_row.ensures.done.0 e))) in
    subst (λ (es : List Event). All (AreIn c.args.names.now) es) (sym told)
    (lines_now all_of goes.cut c.args.names.now t u (omega (arith, later)) c.advance_row.ensures.stands.within c.loop-text.invariant.lines)

pub loop-text-preserved : goal.loop-text-preserved
loop-text-preserved g c =
    let all_of = course g.D.Dispatch.behaviour g.image (script_of c.args.script.now) in
    let goes = c.goes_by_steps.ensures.steps g.image (script_of c.args.script.now) c.requires.1.1.1.0 in
    let names = c.args.names.now in
    let t = c.loop-text.machine.tick in
    let u = c.advance_row.new.self.tick in
    let later : t < u = c.advance_row.ensures.passed (λ e. absurd (omega (arith, c.advance_row.ensures.done.0 e))) in
    let told = c.events.ensures ∙ c.advance_row.ensures.fell (λ e. absurd (omega (arith, c.advance_row.ensures.done.0 e))) in
    let taken = c.loop-text.invariant.taken in
    let all : log_to_come all_of names c.args.machine.now.tick ≡ taken.0 ++ (log_of names c.events.result.now ++ log_to_come all_of names u) =
    split all_of goes.cut names c.args.machine.now.tick t u taken.0 c.events.result.now (omega (arith, later)) c.advance_row.ensures.stands.within told taken.2 in
    record {
      stands = c.advance_row.ensures.stands;
      lines = lines_later all_of goes.cut names t u (omega (arith, later)) c.advance_row.ensures.stands.within c.loop-text.invariant.lines;
      end = c.loop-text.invariant.end;
      taken = (taken.0 ++ log_of names c.events.result.now, Appends-append _ _ _ _ _ taken.1 c.in_ok-put_all.ensures.whole, all ∙ sym (append_assoc taken.0 (log_of names c.events.result.now) (log_to_come all_of names u)));
      count = omega (arith, c.loop-text.invariant.count, c.put_all.ensures.count);
      quiet = c.in_ok-put_all.ensures.quiet ∙ c.loop-text.invariant.quiet;
    }

pub returns-in_err-put_all-clause-front : goal.returns-in_err-put_all-clause-front
returns-in_err-put_all-clause-front g c =
    let all_of = course g.D.Dispatch.behaviour g.image (script_of c.args.script.now) in
    let goes = c.goes_by_steps.ensures.steps g.image (script_of c.args.script.now) c.requires.1.1.1.0 in
    let names = c.args.names.now in
    let t = c.loop-text.machine.tick in
    let u = c.advance_row.new.self.tick in
    let later : t < u = c.advance_row.ensures.passed (λ e. absurd (omega (arith, c.advance_row.ensures.done.0 e))) in
    let told = c.events.ensures ∙ c.advance_row.ensures.fell (λ e. absurd (omega (arith, c.advance_row.ensures.done.0 e))) in
    let taken = c.loop-text.invariant.taken in
    let all : log_to_come all_of names c.args.machine.now.tick ≡ taken.0 ++ (log_of names c.events.result.now ++ log_to_come all_of names u) =
    split all_of goes.cut names c.args.machine.now.tick t u taken.0 c.events.result.now (omega (arith, later)) c.advance_row.ensures.stands.within told taken.2 in
    on_err c.from_residual.result _
    (rw all (AppendsFront-append _ _ _ taken.0 _ taken.1 (AppendsFront-more _ _ (log_of names c.events.result.now) (log_to_come all_of names u) c.in_err-put_all.ensures.front)))

pub returns-in_err-put_all-clause-some : goal.returns-in_err-put_all-clause-some
returns-in_err-put_all-clause-some g c =
    let all_of = course g.D.Dispatch.behaviour g.image (script_of c.args.script.now) in
    let goes = c.goes_by_steps.ensures.steps g.image (script_of c.args.script.now) c.requires.1.1.1.0 in
    let names = c.args.names.now in
    let t = c.loop-text.machine.tick in
    let u = c.advance_row.new.self.tick in
    let later : t < u = c.advance_row.ensures.passed (λ e. absurd (omega (arith, c.advance_row.ensures.done.0 e))) in
    let told = c.events.ensures ∙ c.advance_row.ensures.fell (λ e. absurd (omega (arith, c.advance_row.ensures.done.0 e))) in
    let taken = c.loop-text.invariant.taken in
    let all : log_to_come all_of names c.args.machine.now.tick ≡ taken.0 ++ (log_of names c.events.result.now ++ log_to_come all_of names u) =
    split all_of goes.cut names c.args.machine.now.tick t u taken.0 c.events.result.now (omega (arith, later)) c.advance_row.ensures.stands.within told taken.2 in
    on_err c.from_residual.result _
    (rw all (some_behind taken.0 _ (some_before (log_of names c.events.result.now) (log_to_come all_of names u) c.in_err-put_all.ensures.some)))

pub returns-clause-whole : goal.returns-clause-whole
returns-clause-whole g c =
    let all_of = course g.D.Dispatch.behaviour g.image (script_of c.args.script.now) in
    let goes = c.goes_by_steps.ensures.steps g.image (script_of c.args.script.now) c.requires.1.1.1.0 in
    let names = c.args.names.now in
    let taken = c.loop-text.invariant.taken in
    let all : log_to_come all_of names c.args.machine.now.tick ≡ taken.0 =
    taken.2 ∙ (ap (λ (bytes : List ℕ). taken.0 ++ bytes) (log_ends all_of goes.cut names goes.none c.loop-text.machine.tick (omega arith)) ∙ append-nil taken.0) in
    rw all taken.1
