use Rattle.image.specs.Raw.{image_of}
use Rattle.compile_schedule.proofs.Filling.{stays_stand, differs, has_ranks}
use Rattle.compile_schedule.proofs.ranks.rank.Goals as goal

pub with_blocks-requires : goal.with_blocks-requires
with_blocks-requires c = stays_stand (image_of c.args.image) (image_of c.in_ok-numbered.numbered) _ c.in_ok-numbered.ensures.same c.in_ok-stays.ensures

pub returns : goal.returns
returns c = record {
  same = differs c.args.image c.in_ok-numbered.numbered c.in_ok-filled.filled c.in_ok-numbered.ensures c.in_ok-filled.ensures;
  ranks = has_ranks c.args.image c.in_ok-numbered.numbered c.in_ok-filled.filled c.in_ok-numbered.ensures c.in_ok-filled.ensures;
  bounds = c.in_ok-filled.ensures.bounds;
}
