-- The tasks of levels.
use Rattle.std.proofs.Common.{◌≡◌, ◌≤◌, ◌<◌, ◌+◌, ◌*◌, ℕ, zero, suc, List, [], ◌∷◌, All, get_or, length, take, ap, ◌∙◌, arith, refl, subst}
use Rattle.std.specs.Prelude.{sum_by}
use Rattle.std.proofs.lemmas.List.{take_all}
use Rattle.std.proofs.lemmas.List.Sums.{sum_by_more}
use Rattle.std.proofs.lemmas.List.Elements.{All-get_or}
use Rattle.base.specs.Capped.{cap}
use Rattle.sched_response.proofs.Caps as caps
use Rattle.sched_response.specs.declared.tasks.Task.{Task}
use Rattle.sched_response.specs.Demand.{activation, demand_at, task_at, IsTask}
use Rattle.sched_sections.specs.Load.{load, share}
use Rattle.sched_sections.specs.Parts.{all_of_first}
use Rattle.sched_sections.proofs.Adding.{capped}
use Rattle.sched_sections.specs.declared.levels.Level.{Level}
use Rattle.sched_sections.specs.Levels.{tasks_in}

abbrev nobody : Task
nobody = record { frame = 0; deadline = 0; run = 0; susp = 0; waits = 0; block = 0 }

pub task_of : (ls : List Level) (k : ℕ) (d : Level) → k < length ls → (get_or ls k d).task ≡ task_at (tasks_in ls) k
task_of [] k d below = absurd (omega (arith, below))
task_of (l ∷ ls) zero d below = refl
task_of (l ∷ ls) (suc k) d below = task_of ls k d (omega (arith, below))

pub many : (ls : List Level) → length (tasks_in ls) ≡ length ls
many [] = refl
many (l ∷ ls) = ap (λ n. suc n) (many ls)

pub is_task : (ls : List Level) (k : ℕ) → k < length ls → All IsTask (tasks_in ls) → IsTask (task_at (tasks_in ls) k)
is_task ls k below all = All-get_or IsTask (tasks_in ls) k nobody (omega (arith, below, many ls)) all

-- the sum of all parts is the demand
pub whole_sum : (ls : List Level) (level r total : ℕ) (own : Task) → level < length ls → own ≡ task_at (tasks_in ls) level
    → total ≡ cap ((own.block + activation own.block own) + all_of_first (tasks_in ls) level r level) → total ≡ demand_at (tasks_in ls) level r
whole_sum ls level r total own below is sum =
    let e = capped (tasks_in ls) level r (omega (arith, below, many ls)) in
    let same : total ≡ cap (((task_at (tasks_in ls) level).block + activation (task_at (tasks_in ls) level).block (task_at (tasks_in ls) level)) + all_of_first (tasks_in ls) level r level) =
    subst (λ (t : Task). total ≡ cap ((t.block + activation t.block t) + all_of_first (tasks_in ls) level r level)) is sum in
    omega (arith, e, same)

pub next_share : (ls : List Level) (n total s : ℕ) → n < length ls → total ≡ sum_by (λ t. share t) (take n (tasks_in ls)) → s ≡ share (task_at (tasks_in ls) n)
    → total + s ≡ sum_by (λ t. share t) (take (n + 1) (tasks_in ls))
next_share ls n total s below so_far is =
    let more = sum_by_more (λ t. share t) (tasks_in ls) n nobody (omega (arith, below, many ls)) in
    omega (arith, so_far, is, more)

pub all_shares : (ls : List Level) (n total : ℕ) → length ls ≤ n → total ≡ sum_by (λ t. share t) (take n (tasks_in ls)) → total ≡ load (tasks_in ls)
all_shares ls n total over is = is ∙ ap (λ (ts : List Task). sum_by (λ t. share t) ts) (take_all n (tasks_in ls) (omega (arith, over, many ls)))

pub cap_times : (n a : ℕ) → cap (n * cap a) ≡ cap (n * a)
cap_times n a = caps.cap-mul n a

pub cap_more : (total a : ℕ) → cap (total + cap a) ≡ cap (total + a)
cap_more total a = caps.cap-add total a
