use Rattle.std.proofs.Common.{subst}
use Rattle.std.specs.Prelude.{IfOk}
use Rattle.image.specs.declared.names.ImageNames.{ImageNames}
use Rattle.script.specs.Meaning.{said}
use Rattle.source_semantics.specs.Config.{start}
use Rattle.syntax_tree.specs.Placed.{placed, plain}
use Rattle.replay.specs.Judging.{IsFoundOf}
use Rattle.replay.specs.declared.logs.JudgedLog.{JudgedLog}
use Rattle.replay.proofs.logs.judge_text.Goals as goal

pub returns-clause-found : goal.returns-clause-found
returns-clause-found c =
    subst (λ (names : ImageNames). IfOk c.judge_lines.result (λ (it : JudgedLog). IsFoundOf (plain (placed c.args.source.now.program)) (said c.args.script.now.lines c.args.script.now.end) (start (plain (placed c.args.source.now.program))) names c.args.text.now it.finding it.count))
    c.in_ok-index.ensures.names c.judge_lines.ensures.found
