use Rattle.table_law.proofs.Kept.{events_kept}
use Rattle.table_law.proofs.checked_law.table_events.Goals as goal

pub returns : goal.returns
returns c t is g read same number place fails =
    events_kept t is g same (c.names_stand_apart.ensures g read) (c.names_are_found.ensures g read (c.table_names.ensures t is g same))
    (c.declarations_are_listed.ensures.names g) number place fails
