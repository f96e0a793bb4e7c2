use Rattle.std.proofs.Common.{◌≡◌, ◌<◌, ◌∙◌, false, length, arith, ap, refl, sym, subst}
use Rattle.machine_semantics.specs.Image.{Script}
use Rattle.machine_semantics.specs.State.{State}
use Rattle.machine_semantics.specs.Starts.{starts}
use Rattle.machine_semantics.specs.Queues.{AreQueued}
use Rattle.vm_stretch.specs.StartLawsDue.{HasDue}
use Rattle.vm_stretch.proofs.Counting.{starts_are_few}
use Rattle.vm_state.specs.Board.{state_of}
use Rattle.vm_stretch.specs.StretchDue.{HasSlots}
use Rattle.vm_releases.specs.Begin.{script_of}
use Rattle.vm_releases.proofs.Boards.{cells_count}
use Rattle.vm_releases.proofs.Joining.{threads_count}
use Rattle.vm_releases.proofs.Saying.{as_many_lines}
use Rattle.vm_runner.specs.Course.{begun, course}
use Rattle.vm_runner.specs.Dispatching.{At}
use Rattle.vm_runner.proofs.Due.{starts_later}
use Rattle.vm_runner.proofs.Waiting.{queued_have}
use Rattle.vm_runner.proofs.machine.Machine.begin_turn.Goals as goal

-- requires: plan, script, runnable, stands, before

pub before_starts-requires : goal.before_starts-requires
before_starts-requires g c =
    let stands = c.requires.1.1.1.1.0 in
    record { sees = (record { image = g.run.image; script = g.run.script; tick = c.args.self.now.tick }, record { board = stands.board; state = stands.state; knows = stands.knows }) }

pub begin-requires : goal.begin-requires
begin-requires g c =
    let image = g.run.image in
    let same = c.requires.1.1.0 in
    let goes = c.goes_by_steps.ensures.steps image g.run.script c.requires.1.1.1.0 in
    let stands = c.requires.1.1.1.1.0 in
    let t = c.args.self.now.tick in
    let s = state_of c.args.self.now.board in
    let end : g.run.script.end_tick ≡ c.args.script.now.end = ap (λ (x : Script). x.end_tick) same in
    let before : t < g.run.script.end_tick = omega (arith, end, c.requires.1.1.1.1.1) in
    let many : length g.run.script.lines ≡ length c.args.script.now.lines = ap (λ (x : Script). length x.lines) same ∙ as_many_lines c.args.script.now.lines in (
      c.requires.1.0,
      (
        stands.order,
        (
          stands.board,
          (
            subst (λ (x : Script). HasDue image x t c.args.self.now.agenda.done s c.args.self.now.agenda.slots) same stands.due,
            (
              omega (arith, stands.done, many),
              (
                queued_have s (subst (λ (x : State). AreQueued x) (sym stands.state) (goes.queued t)),
                (
                  goes.fits t before,
                  (
                    subst (λ (x : Script). (starts image x t s).overrun ≡ false) same (subst (λ (x : State). (starts image g.run.script t x).overrun ≡ false) (sym stands.state) (goes.calm t before)),
                    c.clear.ensures,
                  ),
                ),
              ),
            ),
          ),
        ),
      ),
    )

pub after_starts-requires : goal.after_starts-requires
after_starts-requires g c =
    let image = g.run.image in
    let same = c.requires.1.1.0 in
    let goes = c.goes_by_steps.ensures.steps image g.run.script c.requires.1.1.1.0 in
    let stands = c.requires.1.1.1.1.0 in
    let t = c.args.self.now.tick in
    let s = state_of c.args.self.now.board in
    let at : At = record { image = image; script = g.run.script; tick = t } in
    let end : g.run.script.end_tick ≡ c.args.script.now.end = ap (λ (x : Script). x.end_tick) same in
    let short = goes.short in
    let knows = c.before_starts.ensures at (record { board = stands.board; state = stands.state; knows = stands.knows }) in
    let state : state_of c.begin.new.board ≡ begun (course g.D.Dispatch.behaviour image g.run.script) t =
    c.begin.ensures.state ∙ ap (λ (x : Script). (starts image x t s).state) (sym same) ∙ ap (λ (x : State). (starts image g.run.script t x).state) stands.state in
    record { sees = (at, record { board = c.begin.ensures.board; state = state; knows = knows }); tick = omega (arith, end, short, c.requires.1.1.1.1.1) }

pub returns-clause-begun : goal.returns-clause-begun
returns-clause-begun g c =
    let image = g.run.image in
    let same = c.requires.1.1.0 in
    let goes = c.goes_by_steps.ensures.steps image g.run.script c.requires.1.1.1.0 in
    let stands = c.requires.1.1.1.1.0 in
    let t = c.args.self.now.tick in
    let s = state_of c.args.self.now.board in
    let at : At = record { image = image; script = g.run.script; tick = t } in
    let script = script_of c.args.script.now in
    let end : g.run.script.end_tick ≡ c.args.script.now.end = ap (λ (x : Script). x.end_tick) same in
    let many : length g.run.script.lines ≡ length c.args.script.now.lines = ap (λ (x : Script). length x.lines) same ∙ as_many_lines c.args.script.now.lines in
    let done = c.begin.ensures.within in
    let fewest = starts_are_few image script t s in
    let threads : length s.threads ≡ length image.processes = threads_count c.args.self.now.board.cells.items ∙ cells_count image c.args.self.now.board.cells.items stands.board.rooms in
    let filled : length c.begin.new.fired.items ≡ length (starts image script t s).events = ap length c.begin.ensures.events in
    let knows = c.before_starts.ensures at (record { board = stands.board; state = stands.state; knows = stands.knows }) in
    let state : state_of c.begin.new.board ≡ begun (course g.D.Dispatch.behaviour image g.run.script) t =
    c.begin.ensures.state ∙ ap (λ (x : Script). (starts image x t s).state) (sym same) ∙ ap (λ (x : State). (starts image g.run.script t x).state) stands.state in
    record {
      before = omega (arith, end, c.requires.1.1.1.1.1);
      state = state;
      board = c.begin.ensures.board;
      slots = subst (λ (x : Script). HasSlots image x t c.begin.new.self.done (state_of c.begin.new.board) c.begin.new.self.slots) (sym same) c.begin.ensures.slots;
      later =
          starts_later image script t c.args.self.now.agenda.done c.begin.new.self.done s c.args.self.now.agenda.slots c.begin.new.self.slots goes.ranks
          (subst (λ (x : Script). HasDue image x t c.args.self.now.agenda.done s c.args.self.now.agenda.slots) same stands.due)
          (subst (λ (x : State). HasSlots image script t c.begin.new.self.done x c.begin.new.self.slots) c.begin.ensures.state c.begin.ensures.slots) c.begin.ensures.lines;
      done = omega (arith, done, many);
      order = c.begin.ensures.order;
      few = omega (arith, fewest, threads, filled, c.requires.1.0.few);
      fell = c.begin.ensures.events ∙ ap (λ (x : Script). (starts image x t s).events) (sym same) ∙ ap (λ (x : State). (starts image g.run.script t x).events) stands.state;
      knows = c.after_starts.ensures at refl (record { board = c.begin.ensures.board; state = state; knows = knows });
    }
