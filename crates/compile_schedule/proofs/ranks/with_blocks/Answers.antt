use Rattle.std.proofs.Common.{ℕ, List, subst}
use Rattle.compile_schedule.specs.Ranking.{HaveBlocks}
use Rattle.compile_schedule.proofs.Filling.{image_blocked}
use Rattle.compile_schedule.proofs.ranks.with_blocks.Goals as goal

pub returns : goal.returns
returns c =
    image_blocked c.args.image c.in_ok-blocks.blocks.items c.blocked.result c.in_ok-blocks.ensures
    (subst (λ (blocks : List ℕ). HaveBlocks blocks c.args.image.processes c.blocked.result) c.deref.ensures.value c.blocked.ensures)
