use Rattle.std.proofs.Common.{◌∙◌, ap}
use Rattle.std.specs.Prelude.{option_map}
use Rattle.code_names.proofs.NameListTable.{get_some}
use Rattle.code_names.specs.Texts.{texts_of, text_of, owner_of}
use Rattle.code_names.proofs.NumberingTable.{text-index, text-got}
use Rattle.code_names.proofs.text_list.TextList.find.Goals as goal

pub returns-in_err-index : goal.returns-in_err-index
returns-in_err-index c =
    let ts = texts_of c.args.self.now in
    ap (option_map text_of) c.from_residual.ensures ∙ ap (get_some ts) c.in_err-index.ensures ∙ text-index (owner_of c.args.owner) c.args.name.now ts

pub returns : goal.returns
returns c =
    let ts = texts_of c.args.self.now in
    ap (option_map text_of) c.get.ensures ∙ text-got c.args.self.now c.in_ok-index.index ∙ ap (get_some ts) c.in_ok-index.ensures ∙ text-index (owner_of c.args.owner) c.args.name.now ts
