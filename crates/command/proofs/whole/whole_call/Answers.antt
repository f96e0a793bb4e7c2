use Rattle.std.proofs.Common.{inl, inr, ◌∙◌, subst, ◌<◌}
use Rattle.command.proofs.Complete.{completes}
use Rattle.command.proofs.Calls.{quiet_settled, read_settled, status_settled, written_settled}
use Rattle.command.proofs.Clauses.{went_whole, made_whole, usage_whole, done_whole, late_whole, cause_whole}
use Rattle.command_words.specs.Calls as call
use Rattle.command.proofs.Explained.{right_whole}
use Rattle.command.proofs.Tabled.{tells_numbers}
use Rattle.command.proofs.whole.whole_call.Goals as goal

pub returns-clause-went : goal.returns-clause-went
returns-clause-went g c = λ call is.
    went_whole _ _ _ _ _ _ _ _ c.new-out.ensures.taken c.new-out.ensures.faults c.requires.nothing c.settle-sink.ensures.settled g.F.Files.tells call (c.rte-status.ensures.went call is)

pub returns-clause-complete : goal.returns-clause-complete
returns-clause-complete g c = λ call is.
    completes g.F.Files.tells call _ _ _
    (went_whole _ _ _ _ _ _ _ _ c.new-out.ensures.taken c.new-out.ensures.faults c.requires.nothing c.settle-sink.ensures.settled g.F.Files.tells call (c.rte-status.ensures.went call is))

pub returns-clause-made : goal.returns-clause-made
returns-clause-made g c = λ load is.
    made_whole _ _ _ _ _ _ _ _ c.new-out.ensures.taken c.new-out.ensures.faults c.requires.nothing c.settle-sink.ensures.settled g.F.Files.tells load (c.rte-status.ensures.made load is)

pub returns-clause-usage : goal.returns-clause-usage
returns-clause-usage g c = λ no_call no_load.
    usage_whole _ _ _ _ _ _ _ _ c.new-out.ensures.taken c.new-out.ensures.faults c.requires.nothing c.settle-sink.ensures.settled (c.rte-status.ensures.usage no_call no_load)

pub returns-clause-kept : goal.returns-clause-kept
returns-clause-kept g c = λ none more other. elim (status_settled _ _ _ _ c.settle-sink.ensures.settled) [
  | inl is ↦ c.rte-status.ensures.kept none (subst (λ k. 0 < k) is more) (λ e. other (is ∙ e))
  | inr is ↦ absurd (other is)
]

pub returns-clause-stored : goal.returns-clause-stored
returns-clause-stored g c = λ none name changed. elim (status_settled _ _ _ _ c.settle-sink.ensures.settled) [
  | inl is ↦ elim (c.rte-status.ensures.stored none name changed) [ inl zero ↦ inl (is ∙ zero) | inr seven ↦ inr (is ∙ seven) ]
  | inr is ↦ inr is
]

pub returns-clause-quiet : goal.returns-clause-quiet
returns-clause-quiet g c =
    quiet_settled _ _ _ _ _ (λ other. c.rte-status.ensures.quiet other ∙ c.new-out.ensures.faults) c.settle-sink.ensures.settled

pub returns-clause-done : goal.returns-clause-done
returns-clause-done g c = λ call is.
    done_whole _ _ _ _ _ _ _ _ c.new-out.ensures.taken c.new-out.ensures.faults c.requires.nothing c.settle-sink.ensures.settled g.F.Files.tells call (c.rte-status.ensures.went call is) (c.rte-status.ensures.done call is)

pub returns-clause-late : goal.returns-clause-late
returns-clause-late g c = λ call is.
    late_whole _ _ _ _ _ _ _ c.new-out.ensures.taken c.new-out.ensures.faults c.settle-sink.ensures.settled g.F.Files.tells call (c.rte-status.ensures.late call is)

pub returns-clause-reads : goal.returns-clause-reads
returns-clause-reads g c = read_settled _ _ _ _ _ _ _ c.rte-status.ensures.reads c.settle-sink.ensures.settled

pub returns-clause-writes : goal.returns-clause-writes
returns-clause-writes g c = written_settled _ _ _ _ _ _ _ c.rte-status.ensures.writes c.settle-sink.ensures.settled

pub returns-clause-cause : goal.returns-clause-cause
returns-clause-cause g c =
    cause_whole _ _ _ _ _ _ _ _ c.new-out.ensures.taken c.new-out.ensures.faults c.settle-sink.ensures.cause c.args.words.now c.rte-status.ensures.quiet c.rte-status.ensures.cause

pub returns-clause-numbers : goal.returns-clause-numbers
returns-clause-numbers g c = λ tasks program is.
    let asked = call.table tasks program in
    tells_numbers
    (record {
      processes = c.table_costs.ensures.processes;
      costs = c.table_costs.ensures.costs;
      ranks = c.table_ranks.ensures;
      ceilings = c.table_ceilings.ensures;
      blocks = c.table_blocks.ensures;
      in_time = c.table_in_time.ensures;
      bounds = c.table_bounds.ensures;
      written = c.table_text_is_written.ensures;
    })
    g.F.Files.tells tasks program _ _ _
    (done_whole _ _ _ _ _ _ _ _ c.new-out.ensures.taken c.new-out.ensures.faults c.requires.nothing c.settle-sink.ensures.settled g.F.Files.tells asked (c.rte-status.ensures.went asked is) (c.rte-status.ensures.done asked is))

-- what a person was told
pub returns-clause-told : goal.returns-clause-told
returns-clause-told g c = record {
  refusal = c.rte-status.new.message;
  told = c.tell.ensures;
  right = λ call is.
      right_whole _ _ _ _ _ _ _ _ _ c.new-out.ensures.taken c.new-out.ensures.faults c.settle-sink.ensures.settled c.settle-sink.ensures.cause g.F.Files.tells call (c.rte-status.ensures.told call is);
}
