use Rattle.std.proofs.Common.{◌≡◌, [], ℕ, List, arith, ap, sym, subst, ◌∙◌, length}
use Rattle.machine_semantics.specs.Starts.{Started, line, queue_of}
use Rattle.vm_state.specs.Board.{state_of}
use Rattle.vm_stretch.specs.Steps.{named, releases}
use Rattle.vm_releases.specs.Begin.{AreBelow, line_of}
use Rattle.vm_releases.specs.Order.{rows_of}
use Rattle.vm_releases.proofs.Saying.{named_are_below, none_started, occur_releases, row_at, row_past, started_same}
use Rattle.vm_releases.proofs.lines.do_line.Goals as goal

pub release_row-requires : goal.release_row-requires
release_row-requires g c =
    let rows = c.args.order.now.by_event.items in
    let s = state_of c.args.board.now in
    let event : queue_of (rows_of rows) c.from-event.result ≡ named c.in-Occur.event 0 g.image.processes =
    ap (λ (n : ℕ). queue_of (rows_of rows) n) c.from-event.ensures ∙ c.requires.1.0.events c.in-Occur.event in
    let is : c.as_slice-row.result.now ≡ named c.in-Occur.event 0 g.image.processes =
    c.as_slice-row.ensures.value ∙ sym (row_at rows c.from-event.result c.index.result.now (omega arith) c.index.ensures) ∙ event in
    let same : line g.image c.args.tick (line_of c.args.said.now) s ≡ releases g.image c.args.tick c.as_slice-row.result.now s =
    occur_releases g.image c.args.tick c.in-Occur.tick c.in-Occur.event (line_of c.args.said.now) c.as_slice-row.result.now s (ap line_of c.in-Occur.is) c.requires.1.1.1.0 is in
    let few : length (line g.image c.args.tick (line_of c.args.said.now) s).events ≡ length (releases g.image c.args.tick c.as_slice-row.result.now s).events = ap (λ (a : Started). length a.events) same in (
      c.requires.0,
      (
        c.requires.1.1.0,
        (
          subst (λ (ks : List ℕ). AreBelow (length g.image.processes) ks) (sym is) (named_are_below c.in-Occur.event g.image.processes),
          (sym (ap (λ (a : Started). a.overrun) same) ∙ c.requires.1.1.1.1.0, omega (arith, few, c.requires.1.1.1.1.1)),
        ),
      ),
    )

pub returns-then-event-len-clause-started : goal.returns-then-event-len-clause-started
returns-then-event-len-clause-started g c =
    let rows = c.args.order.now.by_event.items in
    let s = state_of c.args.board.now in
    let event : queue_of (rows_of rows) c.from-event.result ≡ named c.in-Occur.event 0 g.image.processes =
    ap (λ (n : ℕ). queue_of (rows_of rows) n) c.from-event.ensures ∙ c.requires.1.0.events c.in-Occur.event in
    let is : c.as_slice-row.result.now ≡ named c.in-Occur.event 0 g.image.processes =
    c.as_slice-row.ensures.value ∙ sym (row_at rows c.from-event.result c.index.result.now (omega arith) c.index.ensures) ∙ event in
    let same : line g.image c.args.tick (line_of c.args.said.now) s ≡ releases g.image c.args.tick c.as_slice-row.result.now s =
    occur_releases g.image c.args.tick c.in-Occur.tick c.in-Occur.event (line_of c.args.said.now) c.as_slice-row.result.now s (ap line_of c.in-Occur.is) c.requires.1.1.1.0 is in
    started_same (releases g.image c.args.tick c.as_slice-row.result.now) (line g.image c.args.tick (line_of c.args.said.now)) s _ c.args.fired.now.items _ (sym same) c.release_row.ensures.started

pub returns-else-event-len-clause-started : goal.returns-else-event-len-clause-started
returns-else-event-len-clause-started g c =
    let rows = c.args.order.now.by_event.items in
    let s = state_of c.args.board.now in
    let none : [] ≡ named c.in-Occur.event 0 g.image.processes =
    sym (row_past rows c.in-Occur.event (omega (arith, c.from-event.ensures))) ∙ c.requires.1.0.events c.in-Occur.event in
    none_started (line g.image c.args.tick (line_of c.args.said.now)) s c.args.fired.now.items
    (occur_releases g.image c.args.tick c.in-Occur.tick c.in-Occur.event (line_of c.args.said.now) [] s (ap line_of c.in-Occur.is) c.requires.1.1.1.0 none)
