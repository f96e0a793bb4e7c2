-- Rows whose text is known: a process that waits and one that signals, and one whose cost is past
-- counting.
use Rattle.std.specs.Prelude.{◌≡◌, [], ◌∷◌, Some, None, codes}
use Rattle.sched_sensitivity.specs.Lines.{fits_text}

abbrev pub WaitIsShown : Type 0
WaitIsShown =
    fits_text (Some 16)
    (record { name = codes "p"; cost = 43; cost_fits = Some 143; suspension = Some (record { ticks = 30; fits = Some 130 }) }
    ∷ record { name = codes "q"; cost = 27; cost_fits = Some 154; suspension = None } ∷ [])
    ≡ codes "overhead 16\nprocess p cost 43 fits 143 suspend 30 fits 130\nprocess q cost 27 fits 154\n"

abbrev pub OverIsShown : Type 0
OverIsShown =
    fits_text None (record { name = codes "p"; cost = 1000000001; cost_fits = Some 1000000000; suspension = None } ∷ record { name = codes "p2"; cost = 15; cost_fits = None; suspension = None } ∷ [])
    ≡ codes "overhead none\nprocess p cost over fits 1000000000\nprocess p2 cost 15 fits none\n"
