-- Names as the costs see them are those of the code.
use Rattle.std.specs.Prelude.{◌≡◌, ℕ, Bool, true, false, cond, Option, Some, None, bytes_eq, option_map}
use Rattle.std.proofs.Common.{refl, ap, ◌∙◌}
use Rattle.syntax_tree.specs.Plain.{Name, Op, or, and, equal, unequal, less, less_equal, greater, greater_equal, add, sub, mul, div, remainder, Program}
use Rattle.source_semantics.specs.Run.{or_else}
use Rattle.machine_isa.specs.Operands.{takes, gives}
use Rattle.valid_image.specs.Found.{in_line}
use Rattle.code_spec.specs.Layout.{in_frame, Spot, Scope, spot_of, place_named, in_area, outer_spot}
use Rattle.code_spec.specs.Emits.{inner, counter_place}
use Rattle.code_spec.specs.Code.{op_instr, range_of_spot}
use Rattle.code_cost_spec.specs.Names.{Names, view_of, names_of, inside, counter, range_seen}

pub record Sees (g : Program) (c : Scope) (n : Names) : Type 0 where
  pub owner : c.owner ≡ n.owner
  pub view : (y : Name) → option_map view_of (spot_of g c y) ≡ n.view y

pub sees : (g : Program) (c : Scope) → Sees g c (names_of g c)
sees g c = record { owner = refl; view = λ y. refl }

pub sees_inside : (g : Program) (c : Scope) (n : Names) (x : Name) (w q : ℕ) → Sees g c n → Sees g (inner c x w q) (inside n x)
sees_inside g c n x w q s = record { owner = s.owner; view = λ y. by_case y (bytes_eq x y) }
  where
    by_case : (y : Name) (b : Bool) → option_map view_of (or_else (in_area in_frame (cond b (Some (counter_place x w)) (place_named y c.own))) (outer_spot g c.owner y)) ≡ cond b (Some counter) (n.view y)
    by_case y true = refl
    by_case y false = s.view y

pub range_is : (g : Program) (c : Scope) (n : Names) (x : Name) → Sees g c n → range_of_spot (spot_of g c x) ≡ range_seen (n.view x)
range_is g c n x s = by_spot (spot_of g c x) ∙ ap range_seen (s.view x)
  where
    by_spot : (o : Option Spot) → range_of_spot o ≡ range_seen (option_map view_of o)
    by_spot None = refl
    by_spot (Some s) = refl

-- ---- the table

pub op_in_line : (op : Op) → in_line (op_instr op) ≡ true
op_in_line or = refl
op_in_line and = refl
op_in_line equal = refl
op_in_line unequal = refl
op_in_line less = refl
op_in_line less_equal = refl
op_in_line greater = refl
op_in_line greater_equal = refl
op_in_line add = refl
op_in_line sub = refl
op_in_line mul = refl
op_in_line div = refl
op_in_line remainder = refl

pub op_takes : (op : Op) → takes (op_instr op) ≡ 2
op_takes or = refl
op_takes and = refl
op_takes equal = refl
op_takes unequal = refl
op_takes less = refl
op_takes less_equal = refl
op_takes greater = refl
op_takes greater_equal = refl
op_takes add = refl
op_takes sub = refl
op_takes mul = refl
op_takes div = refl
op_takes remainder = refl

pub op_gives : (op : Op) → gives (op_instr op) ≡ 1
op_gives or = refl
op_gives and = refl
op_gives equal = refl
op_gives unequal = refl
op_gives less = refl
op_gives less_equal = refl
op_gives greater = refl
op_gives greater_equal = refl
op_gives add = refl
op_gives sub = refl
op_gives mul = refl
op_gives div = refl
op_gives remainder = refl
