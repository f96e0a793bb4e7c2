use Rattle.std.proofs.Common.{◌∷◌, map, ap, ◌∙◌}
use Rattle.syntax_tree.specs.Placed.{placed_member, placed_routine}
use Rattle.static_names.specs.Occurrences.{closes, members_names, routines_names}
use Rattle.static_names.specs.Findings.{noted}
use Rattle.static_names.specs.Seen.{outer_site}
use Rattle.static_names.proofs.part.monitor_parts.Goals as goal

pub returns : goal.returns
returns c more =
    let m = c.args.monitor.now in
    let here = outer_site c.args.around.now.outer in
    let after_entries = closes m.close m.close_place m.name ∷ more in
    let after_members = routines_names here (map placed_routine m.entries) after_entries in
    ap (λ f. noted f more) c.close.ensures
    ∙ c.in-Ok-routines.ensures after_entries
    ∙ ap (λ l. noted c.members.new.findings (routines_names here (map placed_routine l) after_entries)) c.as_slice-2.ensures
    ∙ c.in-Ok.ensures after_members
    ∙ ap (λ w. noted c.args.findings.now (members_names w (map placed_member c.as_slice.result.now) after_members)) c.requires
    ∙ ap (λ l. noted c.args.findings.now (members_names here (map placed_member l) after_members)) c.as_slice.ensures
