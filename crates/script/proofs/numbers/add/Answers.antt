use Rattle.std.proofs.Common.{◌≡◌, ◌∙◌, sym, ap, None, true, is_some}
use Rattle.image.specs.NameMaps.{number_in}
use Rattle.script.proofs.Lookups.{adds_kept, adds_new, none_of}
use Rattle.script.proofs.numbers.add.Goals as goal

pub returns-then-is_some : goal.returns-then-is_some
returns-then-is_some c =
    let there : is_some (number_in c.args.numbers.now.entries c.args.name.now) ≡ true = ap is_some (sym c.find.ensures) ∙ sym c.is_some.ensures ∙ c.if-is_some.true in
    adds_kept c.args.numbers.now.entries c.args.name.now c.args.number there

pub returns : goal.returns
returns c =
    let none : number_in c.args.numbers.now.entries c.args.name.now ≡ None = sym c.find.ensures ∙ none_of c.find.result (sym c.is_some.ensures ∙ c.if-is_some.false) in
    adds_new c.args.name c.args.number c.args.numbers.now.entries c.insert.new.self.entries c.in_ok-insert.ensures.updates.0 none
