-- Faults of all groups: two of a text are one.
use Rattle.std.proofs.Common.{◌≡◌, ◌<◌, ℕ, inl, inr, sym, subst, arith}
use Rattle.syntax_tree.specs.declared.place.Place.{Place}
use Rattle.static_rule.specs.First as rule
use Rattle.static_names.specs.Rules as names
use Rattle.static_semantics.specs.Static.{Fails}
use Rattle.front_end.specs.Program.{IsProgramFault, of_text, of_names, of_rules}
use Rattle.front_end.specs.ProgramLaws.{HasOneTree}
use Rattle.front_end.proofs.Texts.{HasTreeOrFault}
use Rattle.front_end.proofs.ProgramPrograms.{misnamed}
use Rattle.front_end.specs.OneFault.{HasOneFault}
use Rattle.front_end.proofs.Sources.{HasOneSourceFault}

-- of two failures neither of which comes before the other, both are the same
pub the_same : (m n : ℕ) (p q : Place) → ¬ rule.Before m p n q → ¬ rule.Before n q m p → (m ≡ n) × (p ≡ q)
the_same m n p q a b = (numbers, places)
  where
    lines : p.line ≡ q.line
    lines = let h : ¬ (p.line < q.line) = λ l. a (inl l) in let k : ¬ (q.line < p.line) = λ l. b (inl l) in omega arith

    columns : p.col ≡ q.col
    columns = let h : ¬ (p.col < q.col) = λ l. a (inr (inl (lines, l))) in let k : ¬ (q.col < p.col) = λ l. b (inr (inl (sym lines, l))) in omega arith

    places : p ≡ q
    places = λ i. record { line = lines i; col = columns i }

    numbers : m ≡ n
    numbers = let h : ¬ (m < n) = λ l. a (inr (inr (places, l))) in let k : ¬ (n < m) = λ l. b (inr (inr (sym places, l))) in omega arith

-- of rules the first failure is one
one_first : (fails : ℕ → Place → Type 0) (m n : ℕ) (p q : Place) → rule.IsFirst fails (record { number = m; place = p }) → rule.IsFirst fails (record { number = n; place = q }) → (m ≡ n) × (p ≡ q)
one_first fails m n p q first second = the_same m n p q (second.none_before m p first.broken) (first.none_before n q second.broken)

pub one_fault : HasOneTree → HasTreeOrFault → HasOneSourceFault → HasOneFault
one_fault one apart sources text number other place there first second = by first second
  where
    by : IsProgramFault text number place → IsProgramFault text other there → (number ≡ other) × (place ≡ there)
    by (of_text f) (of_text h) = sources text number other place there f h
    by (of_text f) (of_names m) = absurd (apart text m.program number place m.tree f)
    by (of_text f) (of_rules m) = absurd (apart text m.program number place m.tree f)
    by (of_names m) (of_text f) = absurd (apart text m.program other there m.tree f)
    by (of_rules m) (of_text f) = absurd (apart text m.program other there m.tree f)
    by (of_names m) (of_names n) = (one_first (names.Fails m.program) number other place there m.first (subst (λ h. rule.IsFirst (names.Fails h) (record { number = other; place = there })) (one text n.program m.program n.tree m.tree) n.first))
    by (of_names m) (of_rules n) = absurd (misnamed one text n.program number place n.tree n.named m)
    by (of_rules m) (of_names n) = absurd (misnamed one text m.program other there m.tree m.named n)
    by (of_rules m) (of_rules n) =
        (one_first (Fails m.program) number other place there m.first (subst (λ h. rule.IsFirst (Fails h) (record { number = other; place = there })) (one text n.program m.program n.tree m.tree) n.first))
