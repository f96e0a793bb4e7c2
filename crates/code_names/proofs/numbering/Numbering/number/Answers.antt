use Rattle.std.proofs.Common.{◌≡◌, ◌∙◌, ap, sym, subst, length, Some, None}
use Rattle.syntax_tree.specs.Placed.{placed, plain}
use Rattle.syntax_tree.specs.declared.decl.Program.{Program}
use Rattle.code_spec.specs.Numbering.{number_of}
use Rattle.code_names.specs.Texts.{text_of, texts_of}
use Rattle.code_names.proofs.NumberingTable.{texts-length}
use Rattle.code_names.proofs.Visiting.{number-found}
use Rattle.code_names.proofs.numbering.Numbering.number.Goals as goal

pub returns-in-Some : goal.returns-in-Some
returns-in-Some c =
    let P : Program → Type 0 = λ t. c.in-Some.number ≡ number_of (plain (placed t)) (text_of c.args.text) in
    subst P c.self.view_is
    (number-found (plain (placed c.self.inside.directory)) (text_of c.args.text) (texts_of c.self.inside.order) (Some c.in-Some.number) c.in-Some.ensures c.self.invariant.order_is)

pub returns-in-None : goal.returns-in-None
returns-in-None c =
    let P : Program → Type 0 = λ t. length c.as_slice.result.now ≡ number_of (plain (placed t)) (text_of c.args.text) in
    subst P c.self.view_is
    (ap length c.as_slice.ensures ∙ sym (texts-length c.self.inside.order)
    ∙ number-found (plain (placed c.self.inside.directory)) (text_of c.args.text) (texts_of c.self.inside.order) None c.in-None.ensures c.self.invariant.order_is)
