use Rattle.std.proofs.Common.{◌∙◌, length, ap, arith, subst, sym}
use Rattle.command_answers.specs.Acts.{CanRunByRanks}
use Rattle.command_due.specs.CommandsDue.{log}
use Rattle.image.specs.Named.{NamedImage}
use Rattle.image.specs.Raw.{named_of}
use Rattle.load.specs.Summary.{marked_by}
use Rattle.command.specs.Due.{lines_in}
use Rattle.command.proofs.Summed.{summed}
use Rattle.command.proofs.summing.summary_of.Goals as goal

pub log_of-requires : goal.log_of-requires
log_of-requires c = subst (λ (n : NamedImage). CanRunByRanks n c.args.script) (sym c.in_ok-image.ensures) c.requires.script.runs

pub returns : goal.returns
returns c =
    let instructions = c.load_texts.ensures.instructions c.args.key c.args.count c.requires.some c.requires.few (named_of c.args.built.image) c.requires.built.timely in
    summed c.load_texts.ensures.instructions c.args.key c.args.count c.requires.some c.requires.few c.args.built c.args.script c.in_ok-log.log.items
    c.requires.built c.requires.script (c.in_ok-log.ensures ∙ ap (λ (n : NamedImage). log n c.args.script.lines c.args.script.end) c.in_ok-image.ensures)
    (omega (arith, c.len-code.ensures, instructions, c.requires.few))
    (c.lines_in.ensures ∙ ap lines_in c.as_slice-bytes.ensures.value)
    (ap length c.as_slice-bytes.ensures.value)
    (c.mark_after.ensures ∙ ap (marked_by 0) c.as_slice-bytes.ensures.value)
    c.summary_line.result c.summary_line.ensures
