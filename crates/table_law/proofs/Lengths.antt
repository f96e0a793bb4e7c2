-- How long the made names are.
use Rattle.std.proofs.Common.{◌≤◌, ◌<◌, ℕ, zero, suc, List, [], ◌∷◌, ◌++◌, length, length-append, map, subst, ap, arith}
use Rattle.std.specs.Prelude.{Contains}
use Rattle.std.proofs.lemmas.Fmt.{length-decimal-le}
use Rattle.syntax_tree.specs.Plain.{Name}
use Rattle.table_format.specs.declared.table.TaskStay.{TaskStay}
use Rattle.table_format.specs.declared.table.TaskTable.{TaskTable}
use Rattle.table_format.specs.Rules.{stays, IsBegun}
use Rattle.table_format.specs.Program.{stay_name, made_names, tail_of, made_tail}
use Rattle.table_law.proofs.Lists.{Every}
use Rattle.table_law.proofs.Fits.{StayFits, TableFits, table_fits, all_stays}
use Rattle.table_law.proofs.Tails.{has_tail}

abbrev IsShort : Name → Type 0
IsShort name = length name ≤ 14

one_of_all : (xs : List Name) (x : Name) → Every IsShort xs → Contains xs x → IsShort x
one_of_all [] x all (k, below, is) = absurd (omega (arith, below))
one_of_all (y ∷ xs) x all (zero, below, is) = subst IsShort is all.0
one_of_all (y ∷ xs) x all (suc k, below, is) = one_of_all xs x all.1 (k, omega (arith, below), is)

stays_short : (ss : List TaskStay) → Every StayFits ss → Every IsShort (map (λ s. stay_name s.ticks) ss)
stays_short [] fits = tt
stays_short (s ∷ ss) fits =
    let few = fits.0.ticks.few in
    (omega (arith, length-decimal-le 10 s.ticks (omega arith) (omega (arith, few)) (omega (arith, few))), stays_short ss fits.1)

all_short : (t : TaskTable) → TableFits t → Every IsShort (made_names t)
all_short t fits = (omega arith, (omega arith, (omega arith, stays_short (stays t) (all_stays t fits))))

tail_short : (number : ℕ) → number < 1000 → length (tail_of number) ≤ 4
tail_short zero few = omega arith
tail_short (suc number) few = omega (arith, length-decimal-le 3 (suc number) (omega arith) (omega (arith, few)) (omega (arith, few)))

pub made_short : (t : TaskTable) → IsBegun t → (made : Name) → Contains (made_names t) made → length (made ++ made_tail t) ≤ 18
made_short t is made in_made =
    let has = has_tail t is in
    omega (
      arith,
      one_of_all (made_names t) made (all_short t (table_fits t is)) in_made,
      tail_short has.number has.few,
      length-append made (made_tail t),
      ap (λ (tail : List ℕ). length tail) has.is,
    )
