use Rattle.std.proofs.Common.{◌≡◌, ap, subst, sym, ◌∙◌}
use Rattle.std.specs.Prelude.{◌↔◌, Bool, IsTrue}
use Rattle.std.proofs.lemmas.Bool.{false≢true}
use Rattle.table_format.specs.Rules.{IsOneActivation, names_of_line}
use Rattle.table_format.specs.Faults.{IsFormed, meant}
use Rattle.table_reader.specs.Reading.{seen, line_seen}
use Rattle.table_reader.proofs.Tests.{formed_is, not_formed}
use Rattle.table_reader.proofs.form.is_formed.Goals as goal
use Rattle.table_reader.proofs.form.is_formed.Goals.{then-are_words, else-are_words}

pub returns : goal.returns
returns c =
    let s = line_seen c.args.line.now in
    let one : IsOneActivation (meant s) = c.is_one_activation.ensures.0 c.if-not-is_one_activation.false in
    let names = seen c.as_slice.result.now in
    let names_are : names ≡ names_of_line (meant s) = ap seen c.as_slice.ensures.value ∙ c.in_ok-names.ensures in
    elim c.if-are_words.branch [
      | then-are_words w ↦
          subst (λ (r : Bool). IsTrue r ↔ IsFormed s) (sym w.result-is)
          (formed_is s names (seen w.as_slice-then-are_words.result.now) w.are_numerals.result one names_are (ap seen w.as_slice-then-are_words.ensures.value ∙ c.in_ok-numbers.ensures)
          (c.are_words.ensures.0 w.if-are_words.true) w.are_numerals.ensures)
      | else-are_words w ↦
          subst (λ (r : Bool). IsTrue r ↔ IsFormed s) (sym (w.result-is ∙ w.if-are_words.false))
          (not_formed s names names_are (λ all. false≢true (sym w.if-are_words.false ∙ c.are_words.ensures.1 all)))
    ]
