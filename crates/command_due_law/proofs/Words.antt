-- What the test says of a text, by the laws of their images.
use Rattle.std.proofs.Common.{◌≡◌, subst}
use Rattle.syntax_tree.specs.declared.place.Place.{Place}
use Rattle.syntax_tree.specs.Placed as placed
use Rattle.syntax_tree.specs.Placed.{plain}
use Rattle.image.specs.Named.{NamedImage}
use Rattle.command_due_law.specs.DueOnce.{WrittenOnce}
use Rattle.command_due_law.specs.EdfDueOnce.{AnswersAreOne, EdfImagesAreOne}
use Rattle.command_due.specs.Image.{IsEdfImage}
use Rattle.command_due.specs.Tasks.{IsAnswer}
use Rattle.command_due_law.specs.Word.{AnswersOfTextsAreOne}

pub answers_one : WrittenOnce → EdfImagesAreOne → AnswersAreOne → AnswersOfTextsAreOne
answers_one once images answers text m n answer other a b =
    let tree : b.tree ≡ a.tree = once text b.tree a.tree b.written a.written in
    let image : IsEdfImage (plain a.tree) n = subst (λ (g : placed.Prog Place). IsEdfImage (plain g) n) tree b.image in
    let same : n ≡ m = images (plain a.tree) n m image a.image in
    answers m.image answer other a.image.shaped.ranks a.answered (subst (λ (x : NamedImage). IsAnswer x.image other) same b.answered)
