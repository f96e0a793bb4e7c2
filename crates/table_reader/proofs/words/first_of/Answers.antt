use Rattle.std.proofs.Common.{ap, sym, ◌∙◌}
use Rattle.table_reader.specs.Words.{first_word, split}
use Rattle.table_reader.proofs.Splits.{split_lacks, split_cut}
use Rattle.table_reader.proofs.words.first_of.Goals as goal

pub returns-in-None : goal.returns-in-None
returns-in-None c = ap first_word (sym (split_lacks c.args.bytes.now c.in-None.ensures.none))

pub returns-in-Some : goal.returns-in-Some
returns-in-Some c =
    let cut = c.in-Some.ensures.found in
    ap first_word (sym (ap split cut.whole ∙ split_cut c.in-Some.cut.before.now c.in-Some.cut.after.now cut.first))
