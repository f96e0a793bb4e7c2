use Rattle.std.proofs.Common.{◌∙◌, sym}
use Rattle.code_names.proofs.NameListTable.{first-put, first-kept}
use Rattle.code_names.proofs.name_list.keep.Goals as goal

pub returns : goal.returns
returns c = first-put c.args.name c.args.index c.args.first.now.entries c.insert.new.self.entries c.in_ok-insert.ensures.updates.0 (sym c.contains_key.ensures ∙ c.if-contains_key.false)

pub returns-then-contains_key : goal.returns-then-contains_key
returns-then-contains_key c = first-kept c.args.name.now c.args.index c.args.first.now.entries (sym c.contains_key.ensures ∙ c.if-contains_key.true)
