use Rattle.std.proofs.Common.{◌≡◌, ◌∷◌, map, rules, sym, ap, ◌∙◌}
use Rattle.std.specs.Option.{option_or}
use Rattle.syntax_tree.specs.Placed.{placed_routine, placed_decl}
use Rattle.syntax_tree.specs.Parts.{routines}
use Rattle.message_conduct.specs.Sentences.{name_at}
use Rattle.message_conduct.proofs.Names.{name-append}
use Rattle.message_conduct.proofs.sentences.name_in.Goals as goal

pub returns-in-Monitor : goal.returns-in-Monitor
returns-in-Monitor c rest =
    let entries : c.as_slice.result.now ≡ c.in-Monitor.monitor.entries = search rules in
    ap (λ n. option_or n (name_at c.args.place (routines rest))) (c.name_among.ensures ∙ ap (λ rs. name_at c.args.place (map placed_routine rs)) entries)
    ∙ sym (name-append c.args.place (map placed_routine c.in-Monitor.monitor.entries) (routines rest))
    ∙ ap (λ d. name_at c.args.place (routines (placed_decl d ∷ rest))) (sym c.in-Monitor.is)

pub returns-in-Process : goal.returns-in-Process
returns-in-Process c rest =
    let routines_are : c.as_slice-in-Process.result.now ≡ c.in-Process.process.routines = search rules in
    ap (λ n. option_or n (name_at c.args.place (routines rest))) (c.name_among-in-Process.ensures ∙ ap (λ rs. name_at c.args.place (map placed_routine rs)) routines_are)
    ∙ sym (name-append c.args.place (map placed_routine c.in-Process.process.routines) (routines rest))
    ∙ ap (λ d. name_at c.args.place (routines (placed_decl d ∷ rest))) (sym c.in-Process.is)
