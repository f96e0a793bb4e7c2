use Rattle.std.proofs.Common.{refl}
use Rattle.command_perform.proofs.Running.{can_by_ranks, is_runnable, made_by_ranks}
use Rattle.command_perform.proofs.any_machine.by_ranks.Goals as goal

pub by_ranks-requires : goal.by_ranks-requires
by_ranks-requires g c =
    let run = c.args.run.now in
    let can = can_by_ranks run c.requires.1.1.0 c.requires.1.1.1 in (
      c.requires.1.0,
      (refl, is_runnable run g.image c.requires.0 can),
    )

pub returns : goal.returns
returns g c =
    let run = c.args.run.now in
    let can = can_by_ranks run c.requires.1.1.0 c.requires.1.1.1 in
    made_by_ranks run g.image c.requires.0 c.by_ranks.result c.requires.1.1.0 can c.by_ranks.ensures.start c.by_ranks.ensures.stands
