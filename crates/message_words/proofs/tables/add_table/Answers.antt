use Rattle.std.proofs.Common.{◌≡◌, ◌++◌, ℕ, List, OnOk, map, subst, ◌∙◌}
use Rattle.std.specs.Prelude.{flat_map}
use Rattle.message_words.specs.Seen.{row_of}
use Rattle.message_words.specs.Usage.{key_line, overhead_line, row_line, stop_line, ticks_line}
use Rattle.message_words.proofs.Told.{joined}
use Rattle.message_words.proofs.tables.add_table.Goals as goal

pub returns : goal.returns
returns c =
    let shown = map row_of c.args.rows.now in
    let key = key_line shown in
    let ticks = ticks_line shown in
    let stop = stop_line shown in
    subst (λ (t : List ℕ). OnOk c.add_explained-4.result (c.add_explained-4.new.text ≡ t))
    (joined c.add_explained-2.new.text ticks key c.add_explained-3.new.text c.in_ok-add_explained-3.ensures
    ∙ joined c.add_explained.new.text stop (ticks ++ key) c.add_explained-2.new.text c.in_ok-add_explained-2.ensures
    ∙ joined c.add_rows.new.text (overhead_line shown) (stop ++ (ticks ++ key)) c.add_explained.new.text c.in_ok-add_explained.ensures
    ∙ joined c.args.text.now (flat_map row_line shown) (overhead_line shown ++ (stop ++ (ticks ++ key))) c.add_rows.new.text c.in_ok-add_rows.ensures)
    c.add_explained-4.ensures
