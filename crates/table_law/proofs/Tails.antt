-- The tail that is chosen has a number of three digits at most.
use Rattle.std.proofs.Common.{◌≡◌, ◌≤◌, ◌<◌, ◌+◌, ◌*◌, ℕ, zero, suc, List, [], ◌∷◌, Option, Some, None, length, length-append, map, arith}
use Rattle.std.specs.Prelude.{flat_map, option_to_list}
use Rattle.std.specs.List.{prefix_len, range_with_len}
use Rattle.std.proofs.lemmas.List.Sums.{prefix_len-le-length}
use Rattle.table_format.specs.declared.table.TaskLine.{TaskLine}
use Rattle.table_format.specs.declared.table.TaskTable.{TaskTable}
use Rattle.table_format.specs.Rules.{task_names, names_of_tasks, names_of_monitors, names, stays, IsBegun}
use Rattle.table_format.specs.Program.{tail_of, is_in_the_way, made_tail}

pub length-range : (a n : ℕ) → length (range_with_len a n) ≡ n
length-range a zero = omega arith
length-range a (suc n) = omega (arith, length-range (a + 1) n)

length-map : {A B : Type 0} (f : A → B) (xs : List A) → length (map f xs) ≡ length xs
length-map f [] = omega arith
length-map f (x ∷ xs) = omega (arith, length-map f xs)

one_or_none : {A : Type 0} (o : Option A) → length (option_to_list o) ≤ 1
one_or_none None = omega arith
one_or_none (Some x) = omega arith

two_names : (ps : List TaskLine) → length (flat_map task_names ps) ≤ 2 * length ps
two_names [] = omega arith
two_names (p ∷ ps) = omega (arith, one_or_none p.event, two_names ps, length-append (task_names p) (flat_map task_names ps))

pub few_names : (t : TaskTable) → IsBegun t → length (names t) ≤ 641
few_names t is =
    omega (arith, is.small.tasks, is.small.stays, two_names t.tasks, length-map (λ s. s.monitor) (stays t), length-append (names_of_tasks t) (names_of_monitors t))

-- the tail of a table is one of the first 642
pub record HasTail (t : TaskTable) : Type 0 where
  pub number : ℕ
  pub few : number < 1000
  pub is : made_tail t ≡ tail_of number

pub has_tail : (t : TaskTable) → IsBegun t → HasTail t
unfolding made_tail
has_tail t is =
    let all = range_with_len 0 (length (names t) + 1) in
    record {
      number = prefix_len (is_in_the_way t) all;
      few = omega (arith, prefix_len-le-length (is_in_the_way t) all, length-range 0 (length (names t) + 1), few_names t is);
      is = λ i. tail_of (prefix_len (is_in_the_way t) all);
    }
