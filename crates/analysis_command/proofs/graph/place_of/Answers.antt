use Rattle.std.proofs.Common.{◌∙◌, ap, length, sym, Some, None}
use Rattle.code_names.specs.Texts.{text_of, texts_of}
use Rattle.code_names.proofs.NumberingTable.{texts-length}
use Rattle.analysis_command.proofs.Places.{place_found}
use Rattle.analysis_command.proofs.graph.place_of.Goals as goal

pub returns-in-Some : goal.returns-in-Some
returns-in-Some c = place_found (text_of c.args.text) (texts_of c.args.texts.now) (Some c.in-Some.place) c.in-Some.ensures

pub returns-in-None : goal.returns-in-None
returns-in-None c = ap length c.as_slice.ensures ∙ (sym (texts-length c.args.texts.now) ∙ place_found (text_of c.args.text) (texts_of c.args.texts.now) None c.in-None.ensures)
