use Rattle.calls_law.proofs.Printed.{compile_is_same}
use Rattle.calls_law.proofs.printed_programs.print_then_compile_is_the_same.Goals as goal

pub returns : goal.returns
returns c = compile_is_same c.written_once.ensures c.written_or_faulty.ensures c.printed_texts_have_the_program.ensures
