use Rattle.std.proofs.Common.{◌≡◌, ◌∙◌, length, map, sym, arith}
use Rattle.std.proofs.lemmas.List.{length-map}
use Rattle.image.specs.Raw.{process_of}
use Rattle.command_programs.proofs.Growing.{all_bounds, no_bounds, one_bound}
use Rattle.command_programs.proofs.Ranks.{became_at, level_at}
use Rattle.command_programs.proofs.bounds.least_bounds.Goals as goal

pub least_bound-bound-requires-clause-level : goal.least_bound-bound-requires-clause-level
least_bound-bound-requires-clause-level c =
    level_at c.args.processes.now c.args.set.now c.loop-number.number c.level_of.result c.index-processes-number.result c.requires.levels c.loop-number-test.true c.index-processes-number.is c.level_of.ensures

pub loop-number-init : goal.loop-number-init
loop-number-init c = no_bounds (map process_of c.args.processes.now) c.args.set.now c.new-all.result c.new-all.ensures

pub loop-number-preserved : goal.loop-number-preserved
loop-number-preserved c =
    one_bound (map process_of c.args.processes.now) c.args.set.now c.loop-number.number c.loop-number.all c.push.new.self (process_of c.index-processes-number.result) c.least_bound-bound.result c.level_of.result
    (became_at c.args.processes.now c.loop-number.number c.index-processes-number.result c.loop-number-test.true c.index-processes-number.is) c.level_of.ensures c.least_bound-bound.ensures c.in_ok-push.ensures.ok c.loop-number.invariant

pub returns : goal.returns
returns c =
    let past : c.loop-number.number ≡ length c.args.processes.now = omega arith in
    all_bounds (map process_of c.args.processes.now) c.args.set.now c.loop-number.number c.loop-number.all (past ∙ sym (length-map c.args.processes.now process_of)) c.loop-number.invariant
