-- One part is put behind another.
use Rattle.std.proofs.Common.{◌≡◌, ◌++◌, ℕ, List, ap, ◌∙◌, append_assoc}
use Rattle.syntax.specs.declared.token.Token.{Token}
use Rattle.syntax_tree.specs.declared.place.Place.{Place}
use Rattle.message_unexpected.specs.Unexpected.{Notes, unexpected_notes}
use Rattle.message_program.specs.Program.{UnexpectedTold, begun, word_sentence}

pub joined : (old part more text : List ℕ) → text ≡ old ++ part → text ++ more ≡ old ++ (part ++ more)
joined old part more text is = ap (λ (t : List ℕ). t ++ more) is ∙ append_assoc old part more

-- a message that was begun, and got its notes
pub notes_told : (file text : List ℕ) (place : Place) (toks : List Token) (old new : List ℕ) → old ≡ begun file text 10 place (word_sentence text 10 place) → Notes text toks place old new
    → UnexpectedTold file text place toks new
notes_told file text place toks old new is notes =
    record {
      found = notes.found;
      all = notes.all;
      is = notes.is ∙ ap (λ (t : List ℕ). t ++ unexpected_notes text toks place notes.found) is;
    }
