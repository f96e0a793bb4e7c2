-- The values of constants, which are those of the meaning of programs, and their limits.
use Rattle.std.specs.Prelude.{ℕ, Bool, ◌&&◌, Option, Some, None, ℤ, pos, int_le, if◌then◌else◌}
use Rattle.syntax_tree.specs.Placed.{Constant, literal_constant, named_constant, plain_constant, Prog, plain}
use Rattle.syntax_tree.specs.declared.place.Place.{Place}
use Rattle.source_semantics.specs.Names.{constant_value}

-- what constants are worth
abbrev pub Worth : Type 0
Worth = Constant Place → ℤ

abbrev pub value : Prog Place → Worth
value g c = constant_value (plain g) (plain_constant c)

-- the place of a constant is that of its first token
abbrev pub constant_place : Constant Place → Place
constant_place (literal_constant p is_minus n q) = p
constant_place (named_constant p is_minus name q) = p

abbrev pub is_within : ℕ → ℕ → ℤ → Bool
is_within low high v = int_le (pos low) v && int_le v (pos high)

-- the place of the constant, where it is not within its limits
abbrev pub out_of : Worth → ℕ → ℕ → Constant Place → Option Place
out_of worth low high c = if is_within low high (worth c) then None else Some (constant_place c)
