use Rattle.code_correct.proofs.Assembled.{program_is_faithful}
use Rattle.code_correct.proofs.process_code_law.program_code_is_faithful.Goals as goal

pub returns : goal.returns
returns c = λ k form names code at ip. program_is_faithful k form names code at ip
