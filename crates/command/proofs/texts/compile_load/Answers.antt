use Rattle.std.proofs.Common.{Err, ap, ◌∙◌}
use Rattle.command.proofs.Judged.{no_fault, never_late}
use Rattle.command.proofs.texts.compile_load.Goals as goal

pub unreachable-requires : goal.unreachable-requires
unreachable-requires c =
    no_fault c.load_texts.ensures.faultless c.args.text.now c.requires c.compile_text.result c.in-Err-Text.field-0-0 c.in-Err-Text.field-0-1
    (c.in-Err-Text.is ∙ ap Err c.in-Err-Text.field-0-is) c.compile_text.ensures.compiles

pub unreachable-requires-in-Err-Untimely : goal.unreachable-requires-in-Err-Untimely
unreachable-requires-in-Err-Untimely c =
    never_late c.load_texts.ensures.timely c.args.text.now c.requires c.compile_text.result c.in-Err-Untimely.field-0-0
    (c.in-Err-Untimely.is ∙ ap Err c.in-Err-Untimely.field-0-is) c.compile_text.ensures.compiles
