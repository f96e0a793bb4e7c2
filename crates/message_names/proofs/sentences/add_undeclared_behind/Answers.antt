use Rattle.std.proofs.Common.{◌≡◌, ◌++◌, ℕ, List, Option, OnOk, ap, subst, sym, ◌∙◌}
use Rattle.std.specs.Prelude.{codes}
use Rattle.message_text.specs.Words.{quoted}
use Rattle.syntax_tree.specs.declared.place.Place.{Place}
use Rattle.message_names.specs.Told.{undeclared_behind}
use Rattle.message_names.proofs.Joined.{four}
use Rattle.message_names.proofs.sentences.add_undeclared_behind.Goals as goal

pub returns-in_ok-extend-in-Some-2 : goal.returns-in_ok-extend-in-Some-2
returns-in_ok-extend-in-Some-2 c =
    let old = c.args.text.now in
    subst (λ (t : List ℕ). OnOk c.add_quoted-in-Some.result (c.add_quoted-in-Some.new.text ≡ t))
    (four old (codes "the monitor ") (quoted c.name_at.result.now) (codes " has no entry ") (quoted c.args.name.now) c.extend.new.self c.add_quoted.new.text c.extend-in-Some.new.self
    c.in_ok-extend-in-Some.ensures.ok c.in_ok-add_quoted-in-Some.ensures c.in_ok-extend-in-Some-2.ensures.ok
    ∙ ap (λ (n : List ℕ). old ++ (codes "the monitor " ++ (quoted n ++ (codes " has no entry " ++ quoted c.args.name.now)))) c.name_at.ensures
    ∙ ap (λ (o : Option Place). old ++ undeclared_behind c.args.mentions.now c.args.name.now o) (sym c.in-Some.is)) c.add_quoted-in-Some.ensures
