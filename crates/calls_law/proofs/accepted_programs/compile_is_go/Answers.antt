use Rattle.calls_law.proofs.Accepted.{compile_is}
use Rattle.calls_law.proofs.accepted_programs.compile_is_go.Goals as goal

pub returns : goal.returns
returns c = compile_is c.timely_texts_have_one_image.ensures c.compile_is_one.ensures
