-- The cost of each process of the load, and how long each entry stays.
use Rattle.std.proofs.Common.{◌≡◌, ◌≤◌, ◌<◌, ◌+◌, ◌-◌, ◌*◌, ℕ, suc, Bool, true, false, Some, pos, negsuc, refl, ap, sym, subst, ◌∙◌, arith}
use Rattle.std.specs.Prelude.{◌-ℤ◌, cond}
use Rattle.std.proofs.lemmas.Bool.{le-ltb}
use Rattle.source_semantics.specs.Store.{up_to}
use Rattle.valid_image.specs.Found.{amount}
use Rattle.base.specs.declared.capped.Cost.{Cost}
use Rattle.code_cost_spec.specs.Costs.{process_cost}
use Rattle.code_cost_spec.specs.Levels.{process_names, calls_at, cost_of_process, stay_of_entry}
use Rattle.load.specs.declared.program.DrawnProcess.{DrawnProcess}
use Rattle.load.specs.Program.{is_even, drawn}
use Rattle.load_text_law.proofs.Lists.{load, process_of, there, add_text, pause_text, two_routines}
use Rattle.load_text_law.proofs.Lengths.{names_seen, with_pause}
use Rattle.load_text_law.proofs.Numbers.{few_turns}

-- ---- the entries

pub add_stays : (key count : ℕ) → stay_of_entry (load key count) add_text ≡ 13
add_stays key count = refl

pub pause_stays : (key count : ℕ) → stay_of_entry (load key count) pause_text ≡ 13
pause_stays key count = refl

-- ---- a process

-- what one with so many turns beyond one costs
abbrev cost_with : Bool → (turns : ℕ) → Cost
cost_with true turns = amount (132 + 30 * turns) 50 1
cost_with false turns = amount (104 + 30 * turns) 0 0

abbrev cost_of : (even : Bool) (key count k number : ℕ) → DrawnProcess → Cost
cost_of even key count k number d = process_cost (load key count) (names_seen (load key count) k (Some (with_pause even count number d))) (calls_at 2 (load key count)) (with_pause even count number d)

-- from 1 to this
turns_are : (turns : ℕ) → up_to (pos (1 + turns) -ℤ pos 1) ≡ 1 + turns
turns_are turns = ap (λ less. up_to (cond less (negsuc (1 - suc (1 + turns))) (pos (1 + turns - 1)))) (le-ltb (1 + turns) 1 (omega arith)) ∙ omega arith

module _ (key count k number : ℕ) (d : DrawnProcess) where
  runs : (even : Bool) → (cost_of even key count k number d).run ≡ (cost_with even d.turns).run
  unfolding calls_at
  runs true = omega (arith, turns_are d.turns)
  runs false = omega (arith, turns_are d.turns)

  suspended : (even : Bool) → (cost_of even key count k number d).susp ≡ (cost_with even d.turns).susp
  unfolding calls_at
  suspended true = omega arith
  suspended false = omega arith

  waits : (even : Bool) → (cost_of even key count k number d).waits ≡ (cost_with even d.turns).waits
  unfolding calls_at
  waits true = omega arith
  waits false = omega arith

-- with ten turns at most
pub record IsSmall (c : Cost) : Type 0 where
  pub run : c.run ≤ 402
  pub susp : c.susp ≤ 50
  pub waits : c.waits ≤ 1

small_with : (even : Bool) (key count k number : ℕ) (d : DrawnProcess) → d.turns < 10 → IsSmall (cost_of even key count k number d)
small_with true key count k number d few = record { run = omega (arith, runs key count k number d true, few); susp = omega (arith, suspended key count k number d true); waits = omega (arith, waits key count k number d true) }
small_with false key count k number d few = record { run = omega (arith, runs key count k number d false, few); susp = omega (arith, suspended key count k number d false); waits = omega (arith, waits key count k number d false) }

pub is_small : (key count at : ℕ) → at < count → IsSmall (cost_of_process (load key count) at (process_of key count at))
is_small key count at within =
    let g = load key count in
    let p = process_of key count at in
    let counted : cost_of_process g at p ≡ process_cost g (process_names g at p) (calls_at 2 g) p = ap (λ n. process_cost g (process_names g at p) (calls_at n g) p) (two_routines key count) in
    let seen : process_cost g (process_names g at p) (calls_at 2 g) p ≡ cost_of (is_even (suc at)) key count at (suc at) (drawn key at) = ap (λ q. process_cost g (names_seen g at q) (calls_at 2 g) p) (there key count at within) in
    subst (λ c. IsSmall c) (sym (counted ∙ seen)) (small_with (is_even (suc at)) key count at (suc at) (drawn key at) (few_turns key at))
