use Rattle.calls_law.proofs.Printed.{report_is_same}
use Rattle.calls_law.proofs.printed_programs.print_then_report_is_the_same.Goals as goal

pub returns : goal.returns
returns c = report_is_same c.written_once.ensures c.written_or_faulty.ensures c.printed_texts_have_the_program.ensures
