use Rattle.calls_law.proofs.Printed.{print_again}
use Rattle.calls_law.proofs.printed_programs.print_then_print_keeps.Goals as goal

pub returns : goal.returns
returns c = print_again c.written_once.ensures c.written_or_faulty.ensures c.printed_texts_have_the_program.ensures c.print_is_one.ensures
