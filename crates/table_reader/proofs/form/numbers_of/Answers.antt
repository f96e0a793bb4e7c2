use Rattle.std.proofs.Common.{List, [], ◌∷◌, ◌++◌, map, ap, ◌∙◌}
use Rattle.std.specs.Borrow.{Bor}
use Rattle.table_format.specs.Spelling.{Word}
use Rattle.table_reader.specs.Reading.{seen}
use Rattle.table_reader.proofs.Places.{ticks_seen, numbers_are}
use Rattle.table_reader.proofs.form.numbers_of.Goals as goal

pub returns : goal.returns
returns c =
    let head = c.args.line.now.head in
    let frame = c.in_ok-push.ensures.items ∙ ap (λ (xs : List (Bor Word)). xs ++ head.frame ∷ []) c.new-words.ensures.items in
    numbers_are c.args.line.now (seen c.push-2.new.self.items) (seen c.add_if.new.all.items) (seen c.add_if-2.new.all.items) (seen c.add_ticks.new.all.items)
    (ap seen (c.in_ok-push-2.ensures.items ∙ ap (λ (xs : List (Bor Word)). xs ++ head.cost ∷ []) frame))
    c.in_ok-add_if.ensures c.in_ok-add_if-2.ensures
    (c.in_ok-add_ticks.ensures ∙ ap (λ xs. seen c.add_if-2.new.all.items ++ map ticks_seen xs) c.as_slice.ensures.value)
