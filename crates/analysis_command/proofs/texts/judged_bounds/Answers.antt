use Rattle.std.proofs.Common.{Bool, subst}
use Rattle.syntax_tree.specs.Placed.{placed, plain}
use Rattle.analysis_command.specs.Told.{IsJudged}
use Rattle.analysis_command.proofs.texts.judged_bounds.Goals as goal

pub late_program-requires : goal.late_program-requires
late_program-requires g c =
    (c.requires.0, (c.requires.1, subst (λ (b : Bool). IsJudged (plain (placed c.args.program.now)) c.args.over b) c.if-why.false c.in_ok-why.ensures.judged))

pub returns-then-why : goal.returns-then-why
returns-then-why g c = record {
  tree = placed c.args.program.now;
  written = c.requires.1;
  parts = c.in_ok-why.ensures.text;
  late = subst (λ (b : Bool). IsJudged (plain (placed c.args.program.now)) c.args.over b) c.if-why.true c.in_ok-why.ensures.judged;
}

pub returns-in_ok-late : goal.returns-in_ok-late
returns-in_ok-late g c = record {
  tree = placed c.args.program.now;
  written = c.requires.1;
  parts = c.in_ok-why.ensures.text;
  late = (subst (λ (b : Bool). IsJudged (plain (placed c.args.program.now)) c.args.over b) c.if-why.false c.in_ok-why.ensures.judged, c.in_ok-late.ensures);
}
