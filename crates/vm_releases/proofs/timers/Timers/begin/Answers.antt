use Rattle.std.proofs.Common.{◌≡◌, ◌+◌, ◌*◌, arith, ap, sym, subst, ◌∙◌, length, drop, length-append}
use Rattle.std.proofs.lemmas.List.{length-set}
use Rattle.machine_semantics.specs.State.{State}
use Rattle.machine_semantics.specs.Starts.{Started, lines, periodic, time_outs}
use Rattle.vm_stretch.specs.StretchDue.{NoneBefore, first_tick}
use Rattle.vm_state.specs.Board.{state_of}
use Rattle.vm_stretch.specs.Steps.{HasWaits}
use Rattle.vm_releases.specs.Begin.{HaveQueues, lines_of, script_of}
use Rattle.vm_releases.specs.Order.{IsOrderOf}
use Rattle.vm_releases.specs.declared.order.StartOrder.{StartOrder}
use Rattle.vm_releases.proofs.Alone.{alone_slots, alone_started, none_late}
use Rattle.vm_releases.proofs.Boards.{cells_count}
use Rattle.vm_releases.proofs.Joining.{all_started, parts, slots_again, tell_releases, threads_count, waits_after_lines, waits_after_releases}
use Rattle.vm_releases.proofs.Queueing.{lines_keep, periodic_keeps}
use Rattle.vm_releases.proofs.Saying.{as_many_lines}
use Rattle.vm_releases.proofs.Least.{none_up_to}
use Rattle.vm_releases.proofs.Resting.{Rests, rests}
use Rattle.vm_releases.proofs.Untimed.{none_alone, untimed_started}
use Rattle.vm_releases.proofs.timers.Timers.begin.Goals as goal

pub returns-then-not-is_due-clause-state : goal.returns-then-not-is_due-clause-state
returns-then-not-is_due-clause-state g c =
    let t = c.args.tick in
    let s = state_of c.args.board.now in
    let none = none_up_to c.args.self.now.slots t c.requires.1.1.1.0.none_late (c.is_due.ensures c.if-not-is_due.true) in
    let all : Rests g.image (script_of c.args.script.now) t c.args.self.now.done s c.args.self.now.slots =
    rests g.image (script_of c.args.script.now) t c.args.self.now.done s c.args.self.now.slots c.requires.1.1.1.0 (omega (arith, c.requires.1.1.1.1.0, as_many_lines c.args.script.now.lines)) none in
    sym (ap (λ (a : Started). a.state) all.starts)

pub returns-then-not-is_due-clause-events : goal.returns-then-not-is_due-clause-events
returns-then-not-is_due-clause-events g c =
    let t = c.args.tick in
    let s = state_of c.args.board.now in
    let none = none_up_to c.args.self.now.slots t c.requires.1.1.1.0.none_late (c.is_due.ensures c.if-not-is_due.true) in
    let all : Rests g.image (script_of c.args.script.now) t c.args.self.now.done s c.args.self.now.slots =
    rests g.image (script_of c.args.script.now) t c.args.self.now.done s c.args.self.now.slots c.requires.1.1.1.0 (omega (arith, c.requires.1.1.1.1.0, as_many_lines c.args.script.now.lines)) none in
    c.requires.1.1.1.1.1.1.1.1 ∙ sym (ap (λ (a : Started). a.events) all.starts)

pub returns-then-not-is_due-clause-slots : goal.returns-then-not-is_due-clause-slots
returns-then-not-is_due-clause-slots g c =
    let t = c.args.tick in
    let s = state_of c.args.board.now in
    let none = none_up_to c.args.self.now.slots t c.requires.1.1.1.0.none_late (c.is_due.ensures c.if-not-is_due.true) in
    let all : Rests g.image (script_of c.args.script.now) t c.args.self.now.done s c.args.self.now.slots =
    rests g.image (script_of c.args.script.now) t c.args.self.now.done s c.args.self.now.slots c.requires.1.1.1.0 (omega (arith, c.requires.1.1.1.1.0, as_many_lines c.args.script.now.lines)) none in
    all.next

pub returns-then-not-is_due-clause-lines : goal.returns-then-not-is_due-clause-lines
returns-then-not-is_due-clause-lines g c =
    let t = c.args.tick in
    let s = state_of c.args.board.now in
    let none = none_up_to c.args.self.now.slots t c.requires.1.1.1.0.none_late (c.is_due.ensures c.if-not-is_due.true) in
    let all : Rests g.image (script_of c.args.script.now) t c.args.self.now.done s c.args.self.now.slots =
    rests g.image (script_of c.args.script.now) t c.args.self.now.done s c.args.self.now.slots c.requires.1.1.1.0 (omega (arith, c.requires.1.1.1.1.0, as_many_lines c.args.script.now.lines)) none in
    all.lines

pub begin_lines-requires : goal.begin_lines-requires
begin_lines-requires g c =
    let t = c.args.tick in
    let s = state_of c.args.board.now in
    let n = length g.image.processes in
    let groups = parts g.image (script_of c.args.script.now) t s c.requires.1.1.1.1.1.1.1.0 in
    let none : length c.args.fired.now.items ≡ 0 = ap length c.requires.1.1.1.1.1.1.1.1 in
    let threads : length s.threads ≡ n = threads_count c.args.board.now.cells.items ∙ cells_count g.image c.args.board.now.cells.items c.requires.1.1.0.rooms in
    (c.requires.0, (c.requires.1.0, (c.requires.1.1.0, (c.requires.1.1.1.0, (c.requires.1.1.1.1.0, (groups.lines_calm, omega (arith, none, groups.few, threads, c.requires.0.few)))))))

pub returns-then-not-is_due-2-clause-state : goal.returns-then-not-is_due-2-clause-state
returns-then-not-is_due-2-clause-state g c =
    let t = c.args.tick in
    let s = state_of c.args.board.now in
    let n = length g.image.processes in
    let a = state_of c.begin_lines.new.board in
    let threads : length a.threads ≡ n = threads_count c.begin_lines.new.board.cells.items ∙ cells_count g.image c.begin_lines.new.board.cells.items c.begin_lines.ensures.board.rooms in
    (alone_started g.image (script_of c.args.script.now) t c.args.self.now.done c.begin_lines.new.self.done s c.args.self.now.slots c.begin_lines.new.self.slots c.requires.1.1.1.0 c.begin_lines.ensures.slots c.begin_lines.ensures.done a
    (c.is_due-2.ensures c.if-not-is_due-2.true) c.begin_lines.ensures.started.state threads c.args.fired.now.items c.begin_lines.new.fired.items c.requires.1.1.1.1.1.1.1.1 c.begin_lines.ensures.started).state

pub returns-then-not-is_due-2-clause-events : goal.returns-then-not-is_due-2-clause-events
returns-then-not-is_due-2-clause-events g c =
    let t = c.args.tick in
    let s = state_of c.args.board.now in
    let n = length g.image.processes in
    let a = state_of c.begin_lines.new.board in
    let threads : length a.threads ≡ n = threads_count c.begin_lines.new.board.cells.items ∙ cells_count g.image c.begin_lines.new.board.cells.items c.begin_lines.ensures.board.rooms in
    (alone_started g.image (script_of c.args.script.now) t c.args.self.now.done c.begin_lines.new.self.done s c.args.self.now.slots c.begin_lines.new.self.slots c.requires.1.1.1.0 c.begin_lines.ensures.slots c.begin_lines.ensures.done a
    (c.is_due-2.ensures c.if-not-is_due-2.true) c.begin_lines.ensures.started.state threads c.args.fired.now.items c.begin_lines.new.fired.items c.requires.1.1.1.1.1.1.1.1 c.begin_lines.ensures.started).events

pub returns-then-not-is_due-2-clause-slots : goal.returns-then-not-is_due-2-clause-slots
returns-then-not-is_due-2-clause-slots g c =
    let t = c.args.tick in
    let s = state_of c.args.board.now in
    let n = length g.image.processes in
    let a = state_of c.begin_lines.new.board in
    let threads : length a.threads ≡ n = threads_count c.begin_lines.new.board.cells.items ∙ cells_count g.image c.begin_lines.new.board.cells.items c.begin_lines.ensures.board.rooms in
    alone_slots g.image (script_of c.args.script.now) t c.args.self.now.done c.begin_lines.new.self.done s c.args.self.now.slots c.begin_lines.new.self.slots c.requires.1.1.1.0 c.begin_lines.ensures.slots c.begin_lines.ensures.done a
    (c.is_due-2.ensures c.if-not-is_due-2.true) c.begin_lines.ensures.started.state threads

pub returns-then-not-is_due-2-clause-order : goal.returns-then-not-is_due-2-clause-order
returns-then-not-is_due-2-clause-order g c = subst (λ (o : StartOrder). IsOrderOf g.image o) (sym c.begin_lines.ensures.order) c.requires.1.0

pub returns-then-not-is_due-2-clause-queues : goal.returns-then-not-is_due-2-clause-queues
returns-then-not-is_due-2-clause-queues g c =
    subst (λ (x : State). HaveQueues x) (sym c.begin_lines.ensures.started.state) (lines_keep g.image c.args.tick (lines_of c.args.script.now.lines) (state_of c.args.board.now) c.requires.1.1.1.1.1.0)

pub do_releases-requires : goal.do_releases-requires
do_releases-requires g c =
    let t = c.args.tick in
    let s = state_of c.args.board.now in
    let n = length g.image.processes in
    let ls = lines_of c.args.script.now.lines in
    let groups = parts g.image (script_of c.args.script.now) t s c.requires.1.1.1.1.1.1.1.0 in
    let none : length c.args.fired.now.items ≡ 0 = ap length c.requires.1.1.1.1.1.1.1.1 in
    let threads : length s.threads ≡ n = threads_count c.args.board.now.cells.items ∙ cells_count g.image c.args.board.now.cells.items c.requires.1.1.0.rooms in
    let a = state_of c.begin_lines.new.board in
    let first = c.begin_lines.ensures.started in
    let next = first_tick (drop c.begin_lines.new.self.done ls) in
    let set = c.begin_lines.ensures.slots in
    let filled : length c.begin_lines.new.fired.items ≡ length (lines g.image t ls s).events = (let all = ap length first.events in omega (arith, all, none, length-append c.args.fired.now.items (lines g.image t ls s).events)) in
    let more : length (periodic g.image t 0 g.image.processes a).events ≡ length (periodic g.image t 0 g.image.processes (lines g.image t ls s).state).events =
    ap (λ (x : State). length (periodic g.image t 0 g.image.processes x).events) first.state in (
      c.requires.0,
      (
        c.begin_lines.ensures.board,
        (
          ap length set ∙ length-set c.args.self.now.slots (2 * n) next ∙ c.requires.1.1.1.0.count,
          (
            tell_releases g.image (script_of c.args.script.now) t c.args.self.now.done s c.args.self.now.slots c.begin_lines.new.self.slots next c.requires.1.1.1.0 set,
            (
              c.requires.1.1.1.1.1.1.0,
              (ap (λ (x : State). (periodic g.image t 0 g.image.processes x).overrun) first.state ∙ groups.releases_calm, omega (arith, filled, more, groups.few, threads, c.requires.0.few)),
            ),
          ),
        ),
      ),
    )

pub do_time_outs-requires : goal.do_time_outs-requires
do_time_outs-requires g c =
    let t = c.args.tick in
    let s = state_of c.args.board.now in
    let n = length g.image.processes in
    let ls = lines_of c.args.script.now.lines in
    let groups = parts g.image (script_of c.args.script.now) t s c.requires.1.1.1.1.1.1.1.0 in
    let none : length c.args.fired.now.items ≡ 0 = ap length c.requires.1.1.1.1.1.1.1.1 in
    let threads : length s.threads ≡ n = threads_count c.args.board.now.cells.items ∙ cells_count g.image c.args.board.now.cells.items c.requires.1.1.0.rooms in
    let a = state_of c.begin_lines.new.board in
    let first = c.begin_lines.ensures.started in
    let next = first_tick (drop c.begin_lines.new.self.done ls) in
    let set = c.begin_lines.ensures.slots in
    let filled : length c.begin_lines.new.fired.items ≡ length (lines g.image t ls s).events = (let all = ap length first.events in omega (arith, all, none, length-append c.args.fired.now.items (lines g.image t ls s).events)) in
    let more : length (periodic g.image t 0 g.image.processes a).events ≡ length (periodic g.image t 0 g.image.processes (lines g.image t ls s).state).events =
    ap (λ (x : State). length (periodic g.image t 0 g.image.processes x).events) first.state in
    let b = state_of c.do_releases.new.board in
    let second = c.do_releases.ensures.started in
    let after : b ≡ (periodic g.image t 0 g.image.processes (lines g.image t ls s).state).state = second.state ∙ ap (λ (x : State). (periodic g.image t 0 g.image.processes x).state) first.state in
    let have : HaveQueues b =
    subst (λ (x : State). HaveQueues x) (sym second.state) (periodic_keeps g.image t 0 g.image.processes a (subst (λ (x : State). HaveQueues x) (sym first.state) (lines_keep g.image t ls s c.requires.1.1.1.1.1.0))) in
    let waits : HasWaits n b c.do_releases.new.slots =
    waits_after_releases g.image t a b c.begin_lines.new.self.slots c.do_releases.new.slots (waits_after_lines g.image (script_of c.args.script.now) t c.args.self.now.done s a c.args.self.now.slots c.begin_lines.new.self.slots next c.requires.1.1.1.0 set first.state)
    c.do_releases.ensures.moved second.state in
    let last : length (time_outs g.image t 1 n b).events ≡ length (time_outs g.image t 1 n (periodic g.image t 0 g.image.processes (lines g.image t ls s).state).state).events =
    ap (λ (x : State). length (time_outs g.image t 1 n x).events) after in
    let full : length c.do_releases.new.fired.items ≡ length c.begin_lines.new.fired.items + length (periodic g.image t 0 g.image.processes a).events =
    ap length second.events ∙ length-append c.begin_lines.new.fired.items (periodic g.image t 0 g.image.processes a).events in (
      c.requires.0,
      (
        subst (λ (o : StartOrder). IsOrderOf g.image o) (sym c.begin_lines.ensures.order) c.requires.1.0,
        (
          c.do_releases.ensures.board,
          (
            c.do_releases.ensures.moved.count ∙ ap length set ∙ length-set c.args.self.now.slots (2 * n) next ∙ c.requires.1.1.1.0.count,
            (
              have,
              (
                waits,
                (ap (λ (x : State). (time_outs g.image t 1 n x).overrun) after ∙ groups.time_outs_calm, omega (arith, filled, more, last, full, groups.few, threads, c.requires.0.few)),
              ),
            ),
          ),
        ),
      ),
    )

pub returns-then-is_due-clause-state : goal.returns-then-is_due-clause-state
returns-then-is_due-clause-state g c =
    let t = c.args.tick in
    let s = state_of c.args.board.now in
    let n = length g.image.processes in
    let ls = lines_of c.args.script.now.lines in
    let groups = parts g.image (script_of c.args.script.now) t s c.requires.1.1.1.1.1.1.1.0 in
    let none : length c.args.fired.now.items ≡ 0 = ap length c.requires.1.1.1.1.1.1.1.1 in
    let threads : length s.threads ≡ n = threads_count c.args.board.now.cells.items ∙ cells_count g.image c.args.board.now.cells.items c.requires.1.1.0.rooms in
    let a = state_of c.begin_lines.new.board in
    let first = c.begin_lines.ensures.started in
    (all_started g.image (script_of c.args.script.now) t s a (state_of c.do_releases.new.board) (state_of c.do_time_outs.new.board) c.args.fired.now.items c.begin_lines.new.fired.items c.do_releases.new.fired.items c.do_time_outs.new.fired.items
    c.requires.1.1.1.1.1.1.1.1 first c.do_releases.ensures.started c.do_time_outs.ensures.started).state

pub returns-then-is_due-clause-events : goal.returns-then-is_due-clause-events
returns-then-is_due-clause-events g c =
    let t = c.args.tick in
    let s = state_of c.args.board.now in
    let n = length g.image.processes in
    let ls = lines_of c.args.script.now.lines in
    let groups = parts g.image (script_of c.args.script.now) t s c.requires.1.1.1.1.1.1.1.0 in
    let none : length c.args.fired.now.items ≡ 0 = ap length c.requires.1.1.1.1.1.1.1.1 in
    let threads : length s.threads ≡ n = threads_count c.args.board.now.cells.items ∙ cells_count g.image c.args.board.now.cells.items c.requires.1.1.0.rooms in
    let a = state_of c.begin_lines.new.board in
    let first = c.begin_lines.ensures.started in
    (all_started g.image (script_of c.args.script.now) t s a (state_of c.do_releases.new.board) (state_of c.do_time_outs.new.board) c.args.fired.now.items c.begin_lines.new.fired.items c.do_releases.new.fired.items c.do_time_outs.new.fired.items
    c.requires.1.1.1.1.1.1.1.1 first c.do_releases.ensures.started c.do_time_outs.ensures.started).events

pub returns-then-is_due-clause-slots : goal.returns-then-is_due-clause-slots
returns-then-is_due-clause-slots g c =
    let t = c.args.tick in
    let s = state_of c.args.board.now in
    let n = length g.image.processes in
    let ls = lines_of c.args.script.now.lines in
    let groups = parts g.image (script_of c.args.script.now) t s c.requires.1.1.1.1.1.1.1.0 in
    let none : length c.args.fired.now.items ≡ 0 = ap length c.requires.1.1.1.1.1.1.1.1 in
    let threads : length s.threads ≡ n = threads_count c.args.board.now.cells.items ∙ cells_count g.image c.args.board.now.cells.items c.requires.1.1.0.rooms in
    let a = state_of c.begin_lines.new.board in
    let first = c.begin_lines.ensures.started in
    let next = first_tick (drop c.begin_lines.new.self.done ls) in
    let set = c.begin_lines.ensures.slots in
    let filled : length c.begin_lines.new.fired.items ≡ length (lines g.image t ls s).events = (let all = ap length first.events in omega (arith, all, none, length-append c.args.fired.now.items (lines g.image t ls s).events)) in
    let more : length (periodic g.image t 0 g.image.processes a).events ≡ length (periodic g.image t 0 g.image.processes (lines g.image t ls s).state).events =
    ap (λ (x : State). length (periodic g.image t 0 g.image.processes x).events) first.state in
    let done = c.begin_lines.ensures.done in
    slots_again g.image (script_of c.args.script.now) t c.args.self.now.done c.begin_lines.new.self.done s (state_of c.do_time_outs.new.board) c.args.plan.now.processes.items c.args.self.now.slots c.begin_lines.new.self.slots c.do_releases.new.slots c.do_time_outs.new.slots
    c.requires.0.processes c.requires.1.1.1.0 set c.do_releases.ensures.moved c.do_time_outs.ensures.others c.do_time_outs.ensures.waits done
    (threads_count c.do_time_outs.new.board.cells.items ∙ cells_count g.image c.do_time_outs.new.board.cells.items c.do_time_outs.ensures.board.rooms)

pub returns-then-is_due-clause-order : goal.returns-then-is_due-clause-order
returns-then-is_due-clause-order g c = subst (λ (o : StartOrder). IsOrderOf g.image o) (sym c.begin_lines.ensures.order) c.requires.1.0

pub returns-else-is_due-clause-state : goal.returns-else-is_due-clause-state
returns-else-is_due-clause-state g c =
    let t = c.args.tick in
    let s = state_of c.args.board.now in
    let n = length g.image.processes in
    let a = state_of c.begin_lines.new.board in
    let b = state_of c.do_releases.new.board in
    let has = c.requires.1.1.1.0 in
    let set = c.begin_lines.ensures.slots in
    let next = first_tick (drop c.begin_lines.new.self.done (lines_of c.args.script.now.lines)) in
    let first = c.begin_lines.ensures.started in
    let second = c.do_releases.ensures.started in
    let threads : length b.threads ≡ n = threads_count c.do_releases.new.board.cells.items ∙ cells_count g.image c.do_releases.new.board.cells.items c.do_releases.ensures.board.rooms in
    let waits : HasWaits n b c.do_releases.new.slots =
    waits_after_releases g.image t a b c.begin_lines.new.self.slots c.do_releases.new.slots (waits_after_lines g.image (script_of c.args.script.now) t c.args.self.now.done s a c.args.self.now.slots c.begin_lines.new.self.slots next has set first.state)
    c.do_releases.ensures.moved second.state in
    let late : NoneBefore t c.begin_lines.new.self.slots = none_late g.image (script_of c.args.script.now) t c.args.self.now.done c.begin_lines.new.self.done s c.args.self.now.slots c.begin_lines.new.self.slots has set c.begin_lines.ensures.done in
    let count : length c.begin_lines.new.self.slots ≡ 2 * n + 1 = ap length set ∙ length-set c.args.self.now.slots (2 * n) next ∙ has.count in
    let third = untimed_started g.image t c.begin_lines.new.self.slots c.do_releases.new.slots count late c.do_releases.ensures.moved (c.is_due-3.ensures c.if-is_due.false) b waits threads c.do_releases.new.fired.items in
    (all_started g.image (script_of c.args.script.now) t s a b b c.args.fired.now.items c.begin_lines.new.fired.items c.do_releases.new.fired.items c.do_releases.new.fired.items c.requires.1.1.1.1.1.1.1.1 first second third).state

pub returns-else-is_due-clause-events : goal.returns-else-is_due-clause-events
returns-else-is_due-clause-events g c =
    let t = c.args.tick in
    let s = state_of c.args.board.now in
    let n = length g.image.processes in
    let a = state_of c.begin_lines.new.board in
    let b = state_of c.do_releases.new.board in
    let has = c.requires.1.1.1.0 in
    let set = c.begin_lines.ensures.slots in
    let next = first_tick (drop c.begin_lines.new.self.done (lines_of c.args.script.now.lines)) in
    let first = c.begin_lines.ensures.started in
    let second = c.do_releases.ensures.started in
    let threads : length b.threads ≡ n = threads_count c.do_releases.new.board.cells.items ∙ cells_count g.image c.do_releases.new.board.cells.items c.do_releases.ensures.board.rooms in
    let waits : HasWaits n b c.do_releases.new.slots =
    waits_after_releases g.image t a b c.begin_lines.new.self.slots c.do_releases.new.slots (waits_after_lines g.image (script_of c.args.script.now) t c.args.self.now.done s a c.args.self.now.slots c.begin_lines.new.self.slots next has set first.state)
    c.do_releases.ensures.moved second.state in
    let late : NoneBefore t c.begin_lines.new.self.slots = none_late g.image (script_of c.args.script.now) t c.args.self.now.done c.begin_lines.new.self.done s c.args.self.now.slots c.begin_lines.new.self.slots has set c.begin_lines.ensures.done in
    let count : length c.begin_lines.new.self.slots ≡ 2 * n + 1 = ap length set ∙ length-set c.args.self.now.slots (2 * n) next ∙ has.count in
    let third = untimed_started g.image t c.begin_lines.new.self.slots c.do_releases.new.slots count late c.do_releases.ensures.moved (c.is_due-3.ensures c.if-is_due.false) b waits threads c.do_releases.new.fired.items in
    (all_started g.image (script_of c.args.script.now) t s a b b c.args.fired.now.items c.begin_lines.new.fired.items c.do_releases.new.fired.items c.do_releases.new.fired.items c.requires.1.1.1.1.1.1.1.1 first second third).events

pub returns-else-is_due-clause-slots : goal.returns-else-is_due-clause-slots
returns-else-is_due-clause-slots g c =
    let t = c.args.tick in
    let s = state_of c.args.board.now in
    let n = length g.image.processes in
    let a = state_of c.begin_lines.new.board in
    let b = state_of c.do_releases.new.board in
    let has = c.requires.1.1.1.0 in
    let set = c.begin_lines.ensures.slots in
    let next = first_tick (drop c.begin_lines.new.self.done (lines_of c.args.script.now.lines)) in
    let first = c.begin_lines.ensures.started in
    let second = c.do_releases.ensures.started in
    let threads : length b.threads ≡ n = threads_count c.do_releases.new.board.cells.items ∙ cells_count g.image c.do_releases.new.board.cells.items c.do_releases.ensures.board.rooms in
    let waits : HasWaits n b c.do_releases.new.slots =
    waits_after_releases g.image t a b c.begin_lines.new.self.slots c.do_releases.new.slots (waits_after_lines g.image (script_of c.args.script.now) t c.args.self.now.done s a c.args.self.now.slots c.begin_lines.new.self.slots next has set first.state)
    c.do_releases.ensures.moved second.state in
    slots_again g.image (script_of c.args.script.now) t c.args.self.now.done c.begin_lines.new.self.done s b c.args.plan.now.processes.items c.args.self.now.slots c.begin_lines.new.self.slots c.do_releases.new.slots c.do_releases.new.slots
    c.requires.0.processes has set c.do_releases.ensures.moved (none_alone n c.do_releases.new.slots) waits c.begin_lines.ensures.done threads

pub returns-else-is_due-clause-order : goal.returns-else-is_due-clause-order
returns-else-is_due-clause-order g c = subst (λ (o : StartOrder). IsOrderOf g.image o) (sym c.begin_lines.ensures.order) c.requires.1.0

pub returns-else-is_due-clause-queues : goal.returns-else-is_due-clause-queues
returns-else-is_due-clause-queues g c =
    let t = c.args.tick in
    let a = state_of c.begin_lines.new.board in
    subst (λ (x : State). HaveQueues x) (sym c.do_releases.ensures.started.state)
    (periodic_keeps g.image t 0 g.image.processes a
    (subst (λ (x : State). HaveQueues x) (sym c.begin_lines.ensures.started.state) (lines_keep g.image t (lines_of c.args.script.now.lines) (state_of c.args.board.now) c.requires.1.1.1.1.1.0)))
