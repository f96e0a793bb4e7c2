use Rattle.std.proofs.Common.{◌≡◌, ◌*◌, ℕ, List, Option, None, arith, ap, sym, subst, ◌∙◌, length, drop, get_or}
use Rattle.std.specs.Prelude.{slice_get, slice_set}
use Rattle.std.proofs.lemmas.Option.{slice_get-get_or}
use Rattle.base.proofs.Lists.{one_some, set_same}
use Rattle.machine_semantics.specs.Starts.{Started, lines}
use Rattle.script.specs.declared.script.ScriptLine.{ScriptLine}
use Rattle.vm_stretch.specs.StretchDue.{first_tick}
use Rattle.vm_stretch.specs.StartLawsDue.{AreDone}
use Rattle.vm_stretch.specs.Steps.{HasStarted}
use Rattle.vm_state.specs.Board.{state_of}
use Rattle.vm_releases.specs.Begin.{AreToCome, lines_of, script_of}
use Rattle.vm_releases.proofs.Boards.{as_many}
use Rattle.vm_releases.proofs.Joining.{lines_to_come}
use Rattle.vm_releases.proofs.Saying.{as_many_lines, lines_begin, lines_done, none_due}
use Rattle.vm_releases.proofs.timers.Timers.begin_lines.Goals as goal

-- requires: plan, order, board, due, within, calm, room

pub is_due-requires : goal.is_due-requires
is_due-requires g c =
    let count = as_many g.image.processes c.args.plan.now.processes.items c.requires.0.processes in
    omega (arith, c.len-line_slot.ensures, count, c.requires.1.1.1.0.count, c.args.plan.now.processes.ok.0)

pub do_lines-requires : goal.do_lines-requires
do_lines-requires g c =
    let t = c.args.tick in
    let s = state_of c.args.board.now in
    let ls = lines_of c.args.script.now.lines in
    let same : c.as_slice-lines.result.now ≡ c.args.script.now.lines = c.as_slice-lines.ensures ∙ c.lines.ensures in
    let come : AreToCome t c.args.self.now.done (lines_of c.as_slice-lines.result.now) =
    subst (λ (xs : List ScriptLine). AreToCome t c.args.self.now.done (lines_of xs)) (sym same)
    (lines_to_come g.image (script_of c.args.script.now) t c.args.self.now.done s c.args.self.now.slots c.requires.1.1.1.0 (omega (arith, c.requires.1.1.1.1.0, as_many_lines c.args.script.now.lines))) in
    let alike : lines g.image t (lines_of c.as_slice-lines.result.now) s ≡ lines g.image t ls s = ap (λ (xs : List ScriptLine). lines g.image t (lines_of xs) s) same in
    let few : length (lines g.image t (lines_of c.as_slice-lines.result.now) s).events ≡ length (lines g.image t ls s).events = ap (λ (x : Started). length x.events) alike in
    (c.requires.0, (c.requires.1.0, (c.requires.1.1.0, (come, (ap (λ (x : Started). x.overrun) alike ∙ c.requires.1.1.1.1.1.0, omega (arith, few, c.requires.1.1.1.1.1.1))))))

pub returns-then-is_due-clause-started : goal.returns-then-is_due-clause-started
returns-then-is_due-clause-started g c =
    let same : c.as_slice-lines.result.now ≡ c.args.script.now.lines = c.as_slice-lines.ensures ∙ c.lines.ensures in
    subst (λ (xs : List ScriptLine). HasStarted (lines g.image c.args.tick (lines_of xs)) (state_of c.args.board.now) c.args.fired.now.items (state_of c.do_lines.new.board) c.do_lines.new.fired.items) same c.do_lines.ensures.started

pub returns-then-is_due-clause-done : goal.returns-then-is_due-clause-done
returns-then-is_due-clause-done g c =
    let same : c.as_slice-lines.result.now ≡ c.args.script.now.lines = c.as_slice-lines.ensures ∙ c.lines.ensures in
    subst (λ (xs : List ScriptLine). AreDone c.args.tick c.do_lines.new.done (lines_of xs)) same c.do_lines.ensures.done

pub returns-then-is_due-clause-slots : goal.returns-then-is_due-clause-slots
returns-then-is_due-clause-slots g c =
    let n = length g.image.processes in
    let same : c.as_slice-lines.result.now ≡ c.args.script.now.lines = c.as_slice-lines.ensures ∙ c.lines.ensures in
    let many : c.len-line_slot.result ≡ n = c.len-line_slot.ensures ∙ (let count = as_many g.image.processes c.args.plan.now.processes.items c.requires.0.processes in omega (arith, count, c.args.plan.now.processes.ok.0)) in
    c.set.ensures ∙ ap (λ (k : ℕ). slice_set c.args.self.now.slots (2 * k) c.next_line.result) many
    ∙ ap (λ (o : Option ℕ). slice_set c.args.self.now.slots (2 * n) o) (c.next_line.ensures ∙ ap (λ (xs : List ScriptLine). first_tick (drop c.do_lines.new.done (lines_of xs))) same)

pub returns-else-is_due-clause-done : goal.returns-else-is_due-clause-done
returns-else-is_due-clause-done g c =
    let t = c.args.tick in
    let n = length g.image.processes in
    let slots = c.args.self.now.slots in
    let ls = lines_of c.args.script.now.lines in
    let has = c.requires.1.1.1.0 in
    let many : c.len-line_slot.result ≡ n = c.len-line_slot.ensures ∙ (let count = as_many g.image.processes c.args.plan.now.processes.items c.requires.0.processes in omega (arith, count, c.args.plan.now.processes.ok.0)) in
    let there = slice_get-get_or slots (2 * c.len-line_slot.result) None (omega (arith, many, has.count)) in
    let next : get_or slots (2 * c.len-line_slot.result) None ≡ first_tick (drop c.args.self.now.done ls) = one_some there (ap (λ (k : ℕ). slice_get slots (2 * k)) many ∙ has.line) in
    none_due t c.args.self.now.done ls (lines_to_come g.image (script_of c.args.script.now) t c.args.self.now.done (state_of c.args.board.now) slots has (omega (arith, c.requires.1.1.1.1.0, as_many_lines c.args.script.now.lines)))
    (λ is. c.is_due.ensures.no c.if-is_due.false (next ∙ is))

pub returns-else-is_due-clause-started : goal.returns-else-is_due-clause-started
returns-else-is_due-clause-started g c =
    let t = c.args.tick in
    let s = state_of c.args.board.now in
    let done = c.args.self.now.done in
    let ls = lines_of c.args.script.now.lines in
    let come = lines_to_come g.image (script_of c.args.script.now) t done s c.args.self.now.slots c.requires.1.1.1.0 (omega (arith, c.requires.1.1.1.1.0, as_many_lines c.args.script.now.lines)) in
    lines_done g.image t done ls s s c.args.fired.now.items c.args.fired.now.items (returns-else-is_due-clause-done g c) c.requires.1.1.1.1.1.0 (lines_begin g.image t done ls s c.args.fired.now.items come)

pub returns-else-is_due-clause-slots : goal.returns-else-is_due-clause-slots
returns-else-is_due-clause-slots g c = sym (set_same c.args.self.now.slots (2 * length g.image.processes) (first_tick (drop c.args.self.now.done (lines_of c.args.script.now.lines))) c.requires.1.1.1.0.line)
