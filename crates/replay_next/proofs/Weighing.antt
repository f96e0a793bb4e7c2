-- How much is left to do, by forms of texts.
use Rattle.std.specs.Prelude.{◌≡◌, ℕ, zero, suc, ◌+◌, ◌*◌, ◌-◌, ◌<◌, ◌≢◌}
use Rattle.std.proofs.Common.{refl, arith}
use Rattle.syntax_tree.specs.Plain.{Process, Program}
use Rattle.source_semantics.specs.Run.{Found, Item, do_all, enter_again, give, leave_with, receive, store, turns_left}
use Rattle.replay_next.specs.Weights.{Costs, answers_weight, found_weight, item_weight, stmts_weight}

pub found_none : (g : Program) (p : Process) (d : ℕ) (f : Found) → 0 < found_weight g p d f
unfolding found_weight
found_none g p zero f = omega arith
found_none g p (suc d) f = omega arith

abbrev pub deeper_costs : Program → Process → ℕ → Costs
deeper_costs g p d = record { program = g; process = p; found = found_weight g p d }

-- a routine weighs more than its text
pub found_deeper : (g : Program) (p : Process) (d : ℕ) (f : Found) → d ≢ 0
    → suc (suc (suc (suc (stmts_weight (deeper_costs g p (d - 1)) f.routine.body + answers_weight (deeper_costs g p (d - 1)) f.routine.answers)))) ≡ found_weight g p d f
unfolding found_weight
found_deeper g p zero f ne = absurd (ne refl)
found_deeper g p (suc d) f ne =
    let less : suc d - 1 ≡ d = omega arith in
    rw less refl

-- a turn, and those that are left after it
pub turn_falls : (a n u : ℕ) → n ≢ 0 → (a + suc (suc ((n - 1) * suc (suc (suc (suc u)))))) + suc u < a + suc (n * suc (suc (suc (suc u))))
turn_falls a zero u some = absurd (some refl)
turn_falls a (suc n) u some =
    let less : suc n - 1 ≡ n = omega arith in
    rw less (omega arith)

pub item_weighs : (k : Costs) (i : Item) → 0 < item_weight k i
item_weighs k (do_all ss) = omega arith
item_weighs k (turns_left x v n ss) = omega arith
item_weighs k (receive t) = omega arith
item_weighs k (store t v) = omega arith
item_weighs k (enter_again mon) = omega arith
item_weighs k (leave_with a mon) = omega arith
item_weighs k (give v) = omega arith
