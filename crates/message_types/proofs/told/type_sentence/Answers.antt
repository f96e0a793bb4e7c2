use Rattle.std.proofs.Common.{◌≡◌, ◌++◌, option_map, Some, sym, ap, ◌∙◌}
use Rattle.syntax_tree.specs.Placed.{placed}
use Rattle.message_types.specs.Sentences.{sentence}
use Rattle.message_types.specs.Seen.{mismatch_of, seen}
use Rattle.message_types.proofs.Failing.{of-this, of-other}
use Rattle.message_types.proofs.told.type_sentence.Goals as goal

pub returns-then-number-ne-WRONG_TYPE : goal.returns-then-number-ne-WRONG_TYPE
returns-then-number-ne-WRONG_TYPE c = of-other (placed c.args.declarations.now) c.args.number c.args.place c.if-number-ne-WRONG_TYPE.true

pub returns-in_default : goal.returns-in_default
returns-in_default c =
    ap (option_map sentence) (ap seen (sym c.in_default.is) ∙ c.first_mismatch.ensures)
    ∙ of-this (placed c.args.declarations.now) c.args.number c.args.place c.if-number-ne-WRONG_TYPE.false

pub returns : goal.returns
returns c =
    let said : c.add_sentence.new.text ≡ sentence (mismatch_of c.in-Some.mismatch) =
    c.in_ok-add_sentence.ensures ∙ ap (λ t. t ++ sentence (mismatch_of c.in-Some.mismatch)) c.new-sentence.ensures in
    ap Some said ∙ ap (option_map sentence) (ap seen (sym c.in-Some.is) ∙ c.first_mismatch.ensures)
    ∙ of-this (placed c.args.declarations.now) c.args.number c.args.place c.if-number-ne-WRONG_TYPE.false
