use Rattle.std.proofs.Common.{ℕ, List, refl, subst, sym}
use Rattle.edf_machine.specs.Marks.{HasDeadlines}
use Rattle.command_perform.proofs.Earliest.{can_by_deadlines, has_deadlines, is_runnable, made_by_deadlines}
use Rattle.command_perform.proofs.any_machine.by_deadlines.Goals as goal

pub machine_by_deadlines-requires : goal.machine_by_deadlines-requires
machine_by_deadlines-requires g c =
    let run = c.args.run.now in
    let deadlines = c.in_ok-deadlines.deadlines.items in
    let can = can_by_deadlines run c.requires.1.1.0 c.requires.1.1.1 in
    let has = has_deadlines run g.image c.requires.0 c.image.result.now deadlines c.image.ensures c.in_ok-deadlines.ensures in (
      c.requires.1.0,
      (refl, (subst (λ (ds : List ℕ). HasDeadlines g.image ds) (sym c.as_slice.ensures.value) has, is_runnable run g.image c.requires.0 can)),
    )

pub returns : goal.returns
returns g c =
    let run = c.args.run.now in
    let can = can_by_deadlines run c.requires.1.1.0 c.requires.1.1.1 in
    made_by_deadlines run g.image c.requires.0 c.machine_by_deadlines.result c.requires.1.1.0 can c.machine_by_deadlines.ensures.start c.machine_by_deadlines.ensures.stands
