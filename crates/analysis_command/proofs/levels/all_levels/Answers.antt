use Rattle.std.proofs.Common.{◌≡◌, length, arith}
use Rattle.base.proofs.Lists.{one_longer, one_more}
use Rattle.syntax_tree.specs.Placed.{placed}
use Rattle.analysis_command.specs.Analysed.{IsLevel}
use Rattle.analysis_command.proofs.Analysed as analysed
use Rattle.analysis_command.proofs.levels.all_levels.Goals as goal

pub loop-number-preserved : goal.loop-number-preserved
loop-number-preserved c =
    let old = c.loop-number.invariant in
    record {
      one_each = one_longer c.loop-number.all c.push.new.self c.in_ok-one.one c.loop-number.number old.one_each c.in_ok-push.ensures.ok;
      each = one_more (λ level l. IsLevel (placed c.args.numbering.now) c.args.image.now level l) c.loop-number.all c.push.new.self c.in_ok-one.one _ c.loop-number.number old.one_each c.in_ok-push.ensures.ok old.each c.in_ok-one.ensures;
    }

pub returns : goal.returns
returns c =
    let many = analysed.as_long c.ranks_are_of_the_meaning.ensures (placed c.args.numbering.now) c.args.image.now c.args.graph.now c.args.set.now c.requires in
    let end : c.loop-number.number ≡ length c.args.image.now.processes = omega (arith, many, c.levels-number-end.ensures.value, c.loop-number.auto.number-end, c.loop-number-test.false) in
    record {
      one_each = omega (arith, c.loop-number.invariant.one_each, end);
      each = λ level low. c.loop-number.invariant.each level (omega (arith, low, end));
    }
