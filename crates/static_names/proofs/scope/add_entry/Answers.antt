use Rattle.std.proofs.Common.{◌≡◌, ◌∙◌, sym, ap, None, true, is_some}
use Rattle.static_names.specs.Seen.{entry_meaning}
use Rattle.static_names.proofs.Scopes.{none-of, add_entry-meaning, add_entry-present}
use Rattle.static_names.proofs.scope.add_entry.Goals as goal

pub returns-then-is_some : goal.returns-then-is_some
returns-then-is_some c =
    let there : is_some (entry_meaning c.args.entries.now.entries c.args.monitor c.args.name.now) ≡ true = ap is_some (sym c.find_entry.ensures) ∙ sym c.is_some.ensures ∙ c.if-is_some.true in
    add_entry-present c.args.monitor c.args.name c.args.declared c.args.entries.now.entries c.args.entries.now.entries there

pub returns : goal.returns
returns c =
    let none : entry_meaning c.args.entries.now.entries c.args.monitor c.args.name.now ≡ None = sym c.find_entry.ensures ∙ none-of c.find_entry.result (sym c.is_some.ensures ∙ c.if-is_some.false) in
    add_entry-meaning c.args.monitor c.args.name c.args.declared c.args.entries.now.entries c.insert.new.self.entries c.in_ok-insert.ensures.updates.0 none
