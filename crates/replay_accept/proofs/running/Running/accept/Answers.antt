use Rattle.std.proofs.Common.{◌≤◌, ℕ, arith, subst, sym}
use Rattle.replay_state.specs.View.{config_of}
use Rattle.replay_due_events.specs.Next.{AreOthersAfter}
use Rattle.replay_due_events.proofs.Nexting.{frames_count}
use Rattle.replay_script.specs.Cursors.{script_in}
use Rattle.replay_accept.specs.Running.{program_of}
use Rattle.replay_accept.proofs.Fitting.{Goes, goes_with, later_with}
use Rattle.replay_accept.proofs.Kept.{kept_first}
use Rattle.replay_accept.proofs.Quiet.{others_after}
use Rattle.replay_accept.proofs.running.Running.accept.Goals as goal

pub pass-requires : goal.pass-requires
pass-requires c =
    let old = config_of c.args.self.now.config in
    let new = config_of c.accept_by-accepted.new.config in
    let later : old.tick ≤ new.tick =
    later_with (program_of c.args.self.now.rules) (script_in c.args.script.now) old c.args.event.now c.accept_by-accepted.result new c.accept_by-accepted.ensures.accepts c.accept_by-accepted.ensures.err
    c.requires.stands.fits in
    record { cursor = record { cursor = c.requires.script.cursor; reached = omega (arith, later, c.requires.script.reached) } }

pub next_start_after-self-requires : goal.next_start_after-self-requires
next_start_after-self-requires c =
    let g = program_of c.args.self.now.rules in
    let old = config_of c.args.self.now.config in
    let new = config_of c.accept_by-accepted.new.config in
    let s = script_in c.args.script.now in
    let before : Goes g old = record { fits = c.requires.stands.fits; tick = c.requires.stands.tick } in
    let after : Goes g new =
    goes_with g s old c.args.event.now c.accept_by-accepted.result new c.accept_by-accepted.ensures.accepts c.accept_by-accepted.ensures.err before c.requires.end in
    let later : old.tick ≤ new.tick =
    later_with g s old c.args.event.now c.accept_by-accepted.result new c.accept_by-accepted.ensures.accepts c.accept_by-accepted.ensures.err c.requires.stands.fits in
    record {
      frames = frames_count g c.args.self.now.rules.table.timings.items c.requires.stands.rules.table.timings c.requires.stands.rules.frames;
      tick = after.tick;
      clock = λ u k x low high at. c.requires.stands.quiet.clock u k x (omega (arith, low, later)) high at;
      others =
          subst (λ (i : ℕ). AreOthersAfter i c.args.self.now.next_start new.jobs) (sym c.from-process.ensures)
          (others_after g s old c.args.event.now c.accept_by-accepted.result new c.args.self.now.next_start c.accept_by-accepted.ensures.accepts c.accept_by-accepted.ensures.err c.requires.stands.quiet.waits);
    }

pub returns-clause-stands : goal.returns-clause-stands
returns-clause-stands c =
    let g = program_of c.args.self.now.rules in
    let old = config_of c.args.self.now.config in
    let new = config_of c.accept_by-accepted.new.config in
    let s = script_in c.args.script.now in
    let before : Goes g old = record { fits = c.requires.stands.fits; tick = c.requires.stands.tick } in
    let after : Goes g new =
    goes_with g s old c.args.event.now c.accept_by-accepted.result new c.accept_by-accepted.ensures.accepts c.accept_by-accepted.ensures.err before c.requires.end in
    record {
      rules = c.requires.stands.rules;
      fits = after.fits;
      tick = after.tick;
      quiet = c.next_start_after-self.ensures;
      first = kept_first g s old c.args.event.now c.accept_by-accepted.result new c.first_after-self.result c.accept_by-accepted.ensures.accepts c.first_after-self.ensures;
    }
