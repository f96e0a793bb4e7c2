use Rattle.std.proofs.Common.{◌∙◌, ap, length, map}
use Rattle.syntax_tree.specs.Placed.{placed, plain}
use Rattle.source_semantics.specs.Ranks.{numbers_from}
use Rattle.replay_due_events.specs.Timings.{timing_of}
use Rattle.replay.specs.Parts.{places_of, seen_processes}
use Rattle.replay.proofs.Ordering.{in_rank_order}
use Rattle.replay.proofs.tables.timetable_of.Goals as goal

pub returns : goal.returns
returns c =
    let g = plain (placed c.args.text.now.declarations.now) in
    record {
      timings =
          c.in_ok-timings.ensures
          ∙ (ap (λ ps. map (λ p. timing_of g p.activation) (seen_processes ps)) c.as_slice.ensures.value
          ∙ ap (λ ps. map (λ p. timing_of g p.activation) ps) c.requires.text);
      by_rank =
          c.in_ok-by_rank.ensures
          ∙ (ap (λ rs. places_of rs (numbers_from (length rs) 1)) c.as_slice-2.ensures.value
          ∙ in_rank_order g c.args.ranks.now c.requires.ranks);
    }
