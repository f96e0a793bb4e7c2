-- The text that tells what fits: the overhead, and a line for each process.
use Rattle.std.specs.Prelude.{◌++◌, ℕ, List, [], ◌∷◌, Option, Some, None, codes}
use Rattle.sched_table.specs.Report.{with_number, with_optional}
use Rattle.sched_sensitivity.specs.declared.rows.SuspensionFit.{SuspensionFit}
use Rattle.sched_sensitivity.specs.declared.rows.ProcessFit.{ProcessFit}

-- a suspension, and what fits in its place
unfoldable pub suspension_text : Option SuspensionFit → List ℕ
suspension_text None = []
suspension_text (Some s) = with_number (codes " suspend ") s.ticks ++ with_optional (codes " fits ") s.fits

-- a process with its cost, and what fits in its place
unfoldable pub process_line : ProcessFit → List ℕ
process_line p =
    (codes "process " ++ p.name) ++ (with_number (codes " cost ") p.cost ++ (with_optional (codes " fits ") p.cost_fits
    ++ (suspension_text p.suspension ++ codes "\n")))

abbrev pub process_lines : List ProcessFit → List ℕ
process_lines [] = []
process_lines (p ∷ ps) = process_line p ++ process_lines ps

-- The text on an overhead that fits, if any does, and on processes.
unfoldable pub fits_text : Option ℕ → List ProcessFit → List ℕ
fits_text overhead ps = with_optional (codes "overhead ") overhead ++ (codes "\n" ++ process_lines ps)
