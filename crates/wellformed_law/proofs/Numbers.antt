-- The numbers in statements are within their limits.
use Rattle.std.proofs.Common.{◌≡◌, ℕ, true, false, None, ℤ, pos, negsuc, ◌+ℤ◌, int_le, int_lt, refl, arith}
use Rattle.std.proofs.lemmas.Bool.Decides.{nat_tests}
use Rattle.base.specs.Words.{is_word, same}
use Rattle.syntax_tree.specs.Placed.{Constant, loop, Stmts, Prog, plain, plain_constant}
use Rattle.syntax_tree.specs.Plain.{Name}
use Rattle.syntax_tree.specs.declared.place.Place.{Place}
use Rattle.static_declarations.specs.Values.{value, is_within, out_of, constant_place}
use Rattle.static_declarations.specs.declared.home.Where.{Where}
use Rattle.static_declarations.specs.Parts.{statement}
use Rattle.source_semantics.specs.Names.{constants}
use Rattle.static_semantics.specs.Statements.{IsConstant, IsWithin, AreTurns}
use Rattle.wellformed_law.proofs.Basics.{KeepsRules, held, not_held}

pub in_order : (a b : ℤ) → int_lt b a ≡ false → int_le a b ≡ true
in_order (pos a) (pos b) e = grind (arith, nat_tests)
in_order (pos a) (negsuc b) e = absurd (cc)
in_order (negsuc a) (pos b) e = refl
in_order (negsuc a) (negsuc b) e = grind (arith, nat_tests)

below : (a b : ℤ) → int_le a b ≡ false → int_lt b a ≡ true
below (pos a) (pos b) e = grind (arith, nat_tests)
below (pos a) (negsuc b) e = refl
below (negsuc a) (pos b) e = absurd (cc)
below (negsuc a) (negsuc b) e = grind (arith, nat_tests)

below_end : (a : ℤ) → is_word a ≡ true → same a (pos 2147483647) ≡ false → int_lt a (pos 2147483647) ≡ true
below_end (pos n) word other = grind (arith, nat_tests)
below_end (negsuc n) word other = refl

pub is_within_limits : (g : Prog Place) (low high : ℕ) (k : Constant Place) → IsConstant (constants (plain g)) (plain_constant k) → out_of (value g) low high k ≡ None → IsWithin (plain g) low high (plain_constant k)
is_within_limits g low high k constant e = record { constant = constant; limits = held (is_within low high (value g k)) (constant_place k) e }

pub are_turns : (g : Prog Place) (w : Where) (p : Place) (name : Name) (q : Place) (low high : Constant Place) (a : Stmts Place) → KeepsRules g (statement w (loop p name q low high a))
    → IsConstant (constants (plain g)) (plain_constant low) → IsConstant (constants (plain g)) (plain_constant high) → AreTurns (plain g) (plain_constant low) (plain_constant high)
are_turns g w p name q low high a keeps l h = record {
  low_constant = l;
  high_constant = h;
  order = in_order (value g low) (value g high) (not_held (int_lt (value g high) (value g low)) (constant_place low) keeps.crossed_loop);
  ends = below_end (value g high) h.word (not_held (same (value g high) (pos 2147483647)) (constant_place high) keeps.endless_loop);
  few = below (value g low +ℤ pos 1000000) (value g high) (not_held (int_le (value g low +ℤ pos 1000000) (value g high)) p keeps.long_loop);
}
