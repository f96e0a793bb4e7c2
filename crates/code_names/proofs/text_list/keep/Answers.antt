use Rattle.std.proofs.Common.{◌∙◌, sym, ap, subst}
use Rattle.std.specs.Prelude.{is_some}
use Rattle.code_names.proofs.NumberingTable.{first-put, first-kept, Key, Puts, keys-are, found-by}
use Rattle.code_names.proofs.text_list.keep.Goals as goal

pub returns-then-contains_key-clause-ok : goal.returns-then-contains_key-clause-ok
returns-then-contains_key-clause-ok c =
    first-kept c.args.owner c.args.name.now c.args.index c.args.first.now.entries
    (ap is_some (sym (found-by (c.args.owner, c.args.name) c.args.first.now.entries)) ∙ sym c.contains_key.ensures ∙ c.if-contains_key.true)

pub returns-clause-ok : goal.returns-clause-ok
returns-clause-ok c =
    let k : Key = (c.args.owner, c.args.name) in
    first-put k c.args.index c.args.first.now.entries c.insert.new.self.entries
    (subst (Puts k c.args.index c.args.first.now.entries c.insert.new.self.entries) keys-are c.in_ok-insert.ensures.updates.0)
    (ap is_some (sym (found-by k c.args.first.now.entries)) ∙ sym c.contains_key.ensures ∙ c.if-contains_key.false)
