use Rattle.std.proofs.Common.{ℕ, List, arith, ap, subst, sym}
use Rattle.std.specs.Prelude.{IfErr, IfOk}
use Rattle.image.specs.declared.names.ImageNames.{ImageNames}
use Rattle.command_images.proofs.Named.{all_faults, all_scripts, can_run_all}
use Rattle.command_images.proofs.scripts.script_for.Goals as goal

pub returns-clause-can : goal.returns-clause-can
returns-clause-can c = can_run_all c.args.image.now c.names.result.now c.judge_script.result c.names.ensures c.valid_images_can_be_run.ensures c.judge_script.ensures.some

pub returns-clause-script : goal.returns-clause-script
returns-clause-script c = all_scripts c.args.content.now c.names.result.now c.args.image.now.names c.judge_script.result c.names.ensures c.judge_script.ensures.script

pub returns-clause-fault : goal.returns-clause-fault
returns-clause-fault c = all_faults c.args.content.now c.names.result.now c.args.image.now.names c.judge_script.result c.names.ensures c.judge_script.ensures.fault
