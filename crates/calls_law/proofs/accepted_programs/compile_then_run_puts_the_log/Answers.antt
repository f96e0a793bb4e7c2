use Rattle.calls_law.proofs.Accepted.{compile_then_run}
use Rattle.calls_law.proofs.accepted_programs.compile_then_run_puts_the_log.Goals as goal

pub returns : goal.returns
returns c = compile_then_run c.timely_texts_have_one_image.ensures c.go_then_run_puts_the_log.ensures
