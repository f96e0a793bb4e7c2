use Rattle.command.proofs.Judged.{no_bad_script}
use Rattle.command.proofs.texts.read_load.Goals as goal

pub unreachable-requires : goal.unreachable-requires
unreachable-requires c =
    no_bad_script c.one_answer.ensures.script c.load_texts.ensures.script c.args.built.now c.args.text.now c.requires
    c.in-Err-Bad.field-0 c.in-Err-Bad.field-0-0 c.in-Err-Bad.field-0-1 c.in-Err-Bad.field-0-2 c.in-Err-Bad.field-0-3 c.in-Err-Bad.field-0-is c.in-Err-Bad.ensures.fault
