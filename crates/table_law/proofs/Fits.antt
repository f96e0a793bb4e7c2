-- What the parts of a table keep to.
use Rattle.std.proofs.Common.{◌≡◌, ◌≤◌, ◌+◌, ◌-◌, ◌⊎◌, inl, inr, ℕ, List, [], ◌∷◌, Option, Some, None, map, arith}
use Rattle.std.specs.Prelude.{IfSome, option_to_list}
use Rattle.table_format.specs.declared.table.TaskStay.{TaskStay}
use Rattle.table_format.specs.declared.table.TaskLine.{TaskLine}
use Rattle.table_format.specs.declared.table.TaskTable.{TaskTable}
use Rattle.table_format.specs.Rules.{IsName, task_names, monitors_named, names_of_line, stays, names_of_monitors, monitors, same_name, least_cost, IsTaskLine, IsBegun}
use Rattle.table_format.specs.Program.{stays_in}
use Rattle.table_law.specs.Ticks.{IsMet}
use Rattle.table_law.proofs.Lists.{Every, every_of, weaker, left_of, right_of, every_map, of_map, every_flat, every_filter, every_distinct}

pub record TicksFit (ticks : ℕ) : Type 0 where
  pub some : 3 ≤ ticks
  pub few : ticks ≤ 1000000000
  pub met : IsMet (ticks - 3)

pub record StayFits (s : TaskStay) : Type 0 where
  pub monitor : IsName s.monitor
  pub ticks : TicksFit s.ticks

abbrev pub OptionFits : (low high : ℕ) → Option ℕ → Type 0
OptionFits low high None = Unit {0}
OptionFits low high (Some n) = (low ≤ n) × (n ≤ high)

abbrev pub EventFits : Option (List ℕ) → Type 0
EventFits None = Unit {0}
EventFits (Some e) = IsName e

pub record LineFits (p : TaskLine) : Type 0 where
  pub name : IsName p.name
  pub event : EventFits p.event
  pub frame_some : 10 ≤ p.frame
  pub frame_few : p.frame ≤ 1000000000
  pub deadline : OptionFits 10 p.frame p.deadline
  pub first : OptionFits 0 1000000000 p.first
  pub cost_few : p.cost ≤ 1000000000
  pub least : least_cost p ≤ p.cost
  pub met : IsMet (p.cost - least_cost p)
  pub stays : Every StayFits p.stays

-- ---- those of a table fit

of_event : (o : Option (List ℕ)) → Every IsName (option_to_list o) → EventFits o
of_event None all = tt
of_event (Some e) all = all.0

of_deadline : (frame : ℕ) (o : Option ℕ) → IfSome o (λ d. (10 ≤ d) × (d ≤ frame)) → OptionFits 10 frame o
of_deadline frame None fits = tt
of_deadline frame (Some d) fits = fits

of_first : (o : Option ℕ) → IfSome o (λ n. n ≤ 1000000000) → OptionFits 0 1000000000 o
of_first None fits = tt
of_first (Some n) fits = (omega arith, fits)

ticks_fit : (ticks : ℕ) → (3 ≤ ticks) × (ticks ≤ 1000000000) → (ticks ≡ 3) ⊎ (6 ≤ ticks) → TicksFit ticks
ticks_fit ticks range (inl three) = record { some = range.0; few = range.1; met = inl (omega (arith, three)) }
ticks_fit ticks range (inr more) = record { some = range.0; few = range.1; met = inr (omega (arith, more)) }

stays_fit : (ss : List TaskStay) → Every (λ s. IsName s.monitor) ss → Every (λ s. (3 ≤ s.ticks) × (s.ticks ≤ 1000000000)) ss → Every (λ s. (s.ticks ≡ 3) ⊎ (6 ≤ s.ticks)) ss → Every StayFits ss
stays_fit [] names ranges met = tt
stays_fit (s ∷ ss) names ranges met =
    (record { monitor = names.0; ticks = ticks_fit s.ticks ranges.0 met.0 }, stays_fit ss names.1 ranges.1 met.1)

left_met : (p : TaskLine) → (p.cost ≡ least_cost p) ⊎ (least_cost p + 3 ≤ p.cost) → (least_cost p ≤ p.cost) × IsMet (p.cost - least_cost p)
left_met p (inl same) = (omega (arith, same), inl (omega (arith, same)))
left_met p (inr more) = (omega (arith, more), inr (omega (arith, more)))

pub line_fits : (p : TaskLine) → IsTaskLine p → LineFits p
line_fits p is =
    let names = every_of IsName (names_of_line p) is.names in
    let own = left_of IsName (task_names p) (monitors_named p) names in
    let named = of_map IsName (λ s. s.monitor) p.stays (right_of IsName (task_names p) (monitors_named p) names) in
    let left = left_met p is.met.cost in
    record {
      name = own.0;
      event = of_event p.event own.1;
      frame_some = is.ranges.frame.0;
      frame_few = is.ranges.frame.1;
      deadline = of_deadline p.frame p.deadline is.ranges.deadline;
      first = of_first p.first is.ranges.first;
      cost_few = is.ranges.cost.1;
      least = left.0;
      met = left.1;
      stays = stays_fit p.stays named (every_of (λ s. (3 ≤ s.ticks) × (s.ticks ≤ 1000000000)) p.stays is.ranges.stay)
          (every_of (λ s. (s.ticks ≡ 3) ⊎ (6 ≤ s.ticks)) p.stays is.met.stay);
    }

pub record TableFits (t : TaskTable) : Type 0 where
  pub name : IsName t.name
  pub tasks : Every LineFits t.tasks

pub table_fits : (t : TaskTable) → IsBegun t → TableFits t
table_fits t is = record { name = is.name; tasks = weaker IsTaskLine LineFits line_fits t.tasks (every_of IsTaskLine t.tasks is.tasks) }

-- ---- of all stays, and of those in a monitor

pub all_stays : (t : TaskTable) → TableFits t → Every StayFits (stays t)
all_stays t fits = every_flat StayFits (λ p. p.stays) t.tasks (weaker LineFits (λ p. Every StayFits p.stays) (λ p fit. fit.stays) t.tasks fits.tasks)

pub monitors_fit : (t : TaskTable) → TableFits t → Every IsName (monitors t)
monitors_fit t fits = every_distinct IsName same_name (names_of_monitors t)
    (every_map IsName (λ s. s.monitor) (stays t) (weaker StayFits (λ s. IsName s.monitor) (λ s fit. fit.monitor) (stays t) (all_stays t fits)))

pub stays_in_fit : (t : TaskTable) → TableFits t → (name : List ℕ) → Every TicksFit (stays_in t name)
stays_in_fit t fits name = every_distinct TicksFit _ (map (λ s. s.ticks) _)
    (every_map TicksFit (λ s. s.ticks) _ (every_filter (λ s. TicksFit s.ticks) (λ s. same_name name s.monitor) (stays t)
    (weaker StayFits (λ s. TicksFit s.ticks) (λ s fit. fit.ticks) (stays t) (all_stays t fits))))
