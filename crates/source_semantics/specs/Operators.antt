-- What an operator makes of two words.
use Rattle.std.specs.Prelude.{not, ◌&&◌, ◌||◌, ℤ, int_lt, int_le}
use Rattle.base.specs.Words.{Answer, word, of_bool, is_true, same, sum, difference, product, quotient, remainder}
use Rattle.syntax_tree.specs.Plain.{Op, or, and, equal, unequal, less, less_equal, greater, greater_equal, add, sub, mul, div, remainder as modulo}

-- both sides are words that were evaluated before
abbrev pub operated : Op → ℤ → ℤ → Answer
operated or a b = word (of_bool (is_true a || is_true b))
operated and a b = word (of_bool (is_true a && is_true b))
operated equal a b = word (of_bool (same a b))
operated unequal a b = word (of_bool (not (same a b)))
operated less a b = word (of_bool (int_lt a b))
operated less_equal a b = word (of_bool (int_le a b))
operated greater a b = word (of_bool (int_lt b a))
operated greater_equal a b = word (of_bool (int_le b a))
operated add a b = sum a b
operated sub a b = difference a b
operated mul a b = product a b
operated div a b = quotient a b
operated modulo a b = remainder a b
