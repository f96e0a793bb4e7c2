-- The report on a program under earliest deadline first: one line for each process, the length of
-- the code, the points, and what the test of the demand says.
use Rattle.std.specs.Prelude.{◌++◌, ℕ, List, [], ◌∷◌, codes, length}
use Rattle.machine_semantics.specs.Image.{Process}
use Rattle.image.specs.Named.{NamedImage}
use Rattle.sched_table.specs.Report.{with_number}
use Rattle.sched_demand.specs.declared.judging.Judgement.{Judgement}
use Rattle.sched_demand.specs.declared.judging.Judgement.TheVariants as judgement

-- the frame, the deadline and the cost of a process, in ticks
unfoldable pub times_text : Process → List ℕ
times_text p = with_number (codes " frame ") p.frame ++ (with_number (codes " deadline ") p.deadline ++ with_number (codes " cost ") p.run)

-- a process, with its words of data and of stack
unfoldable pub process_line : List ℕ → Process → List ℕ
process_line name p = (codes "process " ++ name) ++ (times_text p ++ (with_number (codes " data ") p.words ++ (with_number (codes " stack ") p.stack ++ codes "\n")))

abbrev pub processes_lines : List (List ℕ) → List Process → List ℕ
processes_lines (name ∷ names) (p ∷ ps) = process_line name p ++ processes_lines names ps
processes_lines names ps = []

-- how many points there are, or that they are too many
abbrev pub points_text : Judgement → List ℕ
points_text (judgement.Feasible points) = with_number (codes "points ") points
points_text (judgement.Late points at demand) = with_number (codes "points ") points
points_text judgement.Many = codes "points over"

-- feasible; the first point at which the demand is not met, and the demand there; or too many
-- points to tell
abbrev pub verdict_text : Judgement → List ℕ
verdict_text (judgement.Feasible points) = codes "feasible"
verdict_text (judgement.Late points at demand) = with_number (codes "late ") at ++ with_number (codes " demand ") demand
verdict_text judgement.Many = codes "too many"

unfoldable pub judgement_lines : Judgement → List ℕ
judgement_lines answer = points_text answer ++ (codes "\n" ++ (verdict_text answer ++ codes "\n"))

-- The report on an image of which the test says this.
unfoldable pub edf_report : NamedImage → Judgement → List ℕ
edf_report n answer =
    (codes "program " ++ n.program) ++ (codes "\n" ++ (processes_lines n.names.processes n.image.processes
    ++ (with_number (codes "code ") (length n.image.code) ++ (codes "\n" ++ judgement_lines answer))))
