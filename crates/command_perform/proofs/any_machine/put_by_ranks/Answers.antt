use contract.BorrowLft.{⊑_static}
use Rattle.std.proofs.Common.{◌≢◌, [], List, ℕ, OnOk, OnErr, subst, sym}
use Rattle.outside.specs.Outside.{Appends, AppendsFront}
use Rattle.machine_semantics.specs.Image.{Image}
use Rattle.vm_runner.specs.Standing.{StandsIn}
use Rattle.vm_releases.specs.Begin.{script_of}
use Rattle.command_perform.proofs.Plans.{called}
use Rattle.command_perform.proofs.Running.{is_runnable, lines_first, log_first}
use Rattle.command_perform.proofs.any_machine.put_by_ranks.Goals as goal

pub run-requires : goal.run-requires
run-requires g c = λ κs lives.
    let same = c.requires.1.0 in
    let ready = c.requires.1.1.1 in
    let machine = c.args.machine.now in
    let run = c.args.run.now in (
      ⊑_static _,
      (
        lives,
        (
          c.requires.1.1.0,
          (
            is_runnable run g.image same ready.can,
            (subst (λ (image : Image). StandsIn image (script_of run.script) machine) (sym same) ready.stands, lines_first run g.image same c.names.result.now machine.tick (called c.names.ensures c.image.ensures) ready.can ready.start),
          ),
        ),
      ),
    )

pub returns-clause-whole : goal.returns-clause-whole
returns-clause-whole g c =
    let ready = c.requires.1.1.1 in
    subst (λ (log : List ℕ). OnOk c.run.result (Appends (g.O.Sink.state c.args.out.now).taken (g.O.Sink.state c.run.new.out).taken log))
    (log_first c.args.run.now g.image c.requires.1.0 c.names.result.now c.args.machine.now.tick (called c.names.ensures c.image.ensures) ready.dispatch ready.start) c.run.ensures.whole

pub returns-clause-front : goal.returns-clause-front
returns-clause-front g c =
    let ready = c.requires.1.1.1 in
    subst (λ (log : List ℕ). OnErr c.run.result (AppendsFront (g.O.Sink.state c.args.out.now).taken (g.O.Sink.state c.run.new.out).taken log))
    (log_first c.args.run.now g.image c.requires.1.0 c.names.result.now c.args.machine.now.tick (called c.names.ensures c.image.ensures) ready.dispatch ready.start) c.run.ensures.front

pub returns-clause-some : goal.returns-clause-some
returns-clause-some g c =
    let ready = c.requires.1.1.1 in
    subst (λ (log : List ℕ). OnErr c.run.result (log ≢ []))
    (log_first c.args.run.now g.image c.requires.1.0 c.names.result.now c.args.machine.now.tick (called c.names.ensures c.image.ensures) ready.dispatch ready.start) c.run.ensures.some
