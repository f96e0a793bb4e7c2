-- The first failure of rules is one.
use Rattle.std.proofs.Common.{◌≡◌, ℕ}
use Rattle.syntax_tree.specs.declared.place.Place.{Place}
use Rattle.static_rule.specs.First.{Failures, IsFirst}
use Rattle.front_end.proofs.ProgramLawsPrograms.{the_same}

pub one_first : (fails : Failures) (m n : ℕ) (p q : Place) → IsFirst fails (record { number = m; place = p }) → IsFirst fails (record { number = n; place = q })
    → (m ≡ n) × (p ≡ q)
one_first fails m n p q first second = the_same m n p q (second.none_before m p first.broken) (first.none_before n q second.broken)
