use Rattle.std.proofs.Common.{◌≡◌, ◌∙◌, sym, ap, None, true, is_some, map}
use Rattle.std.proofs.lemmas.Result.{on_ok_weaker}
use Rattle.static_names.specs.Seen.{meaning, entry_of}
use Rattle.static_names.proofs.Scopes.{none-of, put-added, add-present, first-same}
use Rattle.static_names.proofs.scope.add_unless.Goals as goal

pub returns-then-taken : goal.returns-then-taken
returns-then-taken c =
    let there : is_some (meaning c.args.scope.now.entries c.args.name.now) ≡ true = sym c.requires ∙ c.if-taken.true in
    add-present (meaning c.args.scope.now.entries) (c.args.name.now, c.args.declared) (λ n e. first-same (map entry_of c.args.scope.now.entries) n c.args.name.now e) there

pub returns : goal.returns
returns c =
    let none : meaning c.args.scope.now.entries c.args.name.now ≡ None = none-of (meaning c.args.scope.now.entries c.args.name.now) (sym c.requires ∙ c.if-taken.false) in
    on_ok_weaker c.set.result (λ h. h ∙ put-added c.args.name c.args.declared c.args.scope.now.entries none) c.set.ensures
