use Rattle.std.proofs.Common.{◌∙◌, List, ap}
use Rattle.syntax_tree.specs.Placed.{placed, plain}
use Rattle.syntax_tree.specs.declared.decl.Program.{Program}
use Rattle.code_names.specs.declared.text.Body.{Body}
use Rattle.code_names.specs.Parts.{all_texts}
use Rattle.code_names.specs.Texts.{texts_of}
use Rattle.analysis_command.proofs.Places.{places_are}
use Rattle.analysis_command.proofs.graph.places.Goals as goal

pub returns : goal.returns
returns c =
    c.in_ok-places.ensures
    ∙ places_are (plain (placed c.args.numbering.now)) (texts_of c.texts-texts.result.now) c.as_slice.result.now
    (c.texts-texts.ensures ∙ ap (λ (t : Program). all_texts (plain (placed t))) c.directory.ensures)
    (ap (λ (bs : List Body). texts_of bs) c.as_slice.ensures ∙ c.order.ensures)
