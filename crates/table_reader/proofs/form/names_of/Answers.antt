use Rattle.std.proofs.Common.{List, [], ◌∷◌, ◌++◌, map, ap, ◌∙◌}
use Rattle.std.specs.Borrow.{Bor}
use Rattle.table_format.specs.Spelling.{Word}
use Rattle.table_reader.specs.Reading.{seen}
use Rattle.table_reader.proofs.Places.{monitor_seen, names_are}
use Rattle.table_reader.proofs.form.names_of.Goals as goal

pub returns : goal.returns
returns c =
    let name = c.args.line.now.head.name in
    names_are c.args.line.now (seen c.push.new.self.items) (seen c.add_if.new.all.items) (seen c.add_monitors.new.all.items)
    (ap seen (c.in_ok-push.ensures.items ∙ ap (λ (xs : List (Bor Word)). xs ++ name ∷ []) c.new-names.ensures.items))
    c.in_ok-add_if.ensures (c.in_ok-add_monitors.ensures ∙ ap (λ xs. seen c.add_if.new.all.items ++ map monitor_seen xs) c.as_slice.ensures.value)
