use Rattle.std.proofs.Common.{◌≤◌, length, sym, ◌∙◌, arith}
use Rattle.std.proofs.lemmas.Bool.{leb-true}
use Rattle.syntax.specs.Spellings.{keywords}
use Rattle.table_reader.proofs.Tests.{name_is}
use Rattle.table_reader.proofs.form.is_name.Goals as goal
use Rattle.table_reader.proofs.form.is_name.Goals.{then-word-le-LONGEST_NAME, else-word-le-LONGEST_NAME}

pub returns-then-is_identifier : goal.returns-then-is_identifier
returns-then-is_identifier c =
    elim c.if-word-le-LONGEST_NAME.branch [
      | then-word-le-LONGEST_NAME w ↦
          name_is keywords c.args.word.now c.is_keyword.result (sym w.is_identifier.ensures ∙ (sym w.value-is ∙ c.if-is_identifier.true)) (omega arith) c.is_keyword.ensures
      | else-word-le-LONGEST_NAME w ↦
          let short : length c.args.word.now ≤ 63 = leb-true (length c.args.word.now) 63 (sym w.value-is ∙ c.if-is_identifier.true) in
          absurd (omega arith)
    ]
