-- Faults of tokens, of the grammar and of nesting: two of a text are one.
use Rattle.std.proofs.Common.{◌≡◌, ℕ, List, ap, sym, ◌∙◌, subst}
use Rattle.syntax_tree.specs.declared.place.Place.{Place}
use Rattle.syntax.specs.declared.fault.LexFault.{LexFault}
use Rattle.syntax.specs.declared.fault.LexFault.TheVariants as lex
use Rattle.syntax.specs.declared.token.Token.{Token}
use Rattle.syntax.specs.declared.token.Tokens.{Tokens}
use Rattle.syntax.specs.Faults.{Faulty}
use Rattle.syntax.specs.Lex.{HasOneList, HasTokensOrFault, HasOneFault}
use Rattle.syntax.specs.Tokens.{tokens, IsEnd}
use Rattle.syntax_parser.specs.declared.fault.SyntaxFault.TheVariants as syn
use Rattle.syntax_parser.specs.Faults.{OpensAt, StopsAt}
use Rattle.front_end.specs.declared.fault.SourceFault.{SourceFault}
use Rattle.front_end.specs.declared.fault.SourceFault.TheVariants.{Fault}
use Rattle.front_end.specs.Source.{HasNoTree, IsSourceFault, too_long, bad_byte, large_literal, long_name, no_program, too_deep, lexical}

-- at most one place of each kind in the tokens of a text
abbrev pub HasOneOpening : Type 0
HasOneOpening = (text : List ℕ) (toks : List Token) (p q : Place) → OpensAt text toks p → OpensAt text toks q → p ≡ q

abbrev pub HasOnePlace : Type 0
HasOnePlace = (text : List ℕ) (toks : Tokens) (p q : Place) → StopsAt text toks p → StopsAt text toks q → p ≡ q

-- of these faults two of a text have one number and one place
abbrev pub HasOneSourceFault : Type 0
HasOneSourceFault =
    (text : List ℕ) (number other : ℕ) (place there : Place)
    → IsSourceFault text number place → IsSourceFault text other there → (number ≡ other) × (place ≡ there)

-- a fault of the lexer, or one of the parser
data Kinds (text : List ℕ) (number : ℕ) (place : Place) : Type 0 where
  of_lexer : (fault : LexFault) → Faulty text fault → lexical fault ≡ Fault number place → Kinds text number place
  of_grammar : number ≡ 10 → HasNoTree text (syn.Syntax place) → Kinds text number place
  of_nesting : number ≡ 11 → HasNoTree text (syn.Nesting place) → Kinds text number place

kinds : (text : List ℕ) (number : ℕ) (place : Place) → IsSourceFault text number place → Kinds text number place
kinds text number place (too_long n p fault) = of_lexer lex.Long fault cc
kinds text number place (bad_byte n fault) = of_lexer (lex.Byte place.line place.col) fault cc
kinds text number place (large_literal n fault) = of_lexer (lex.Literal place.line place.col) fault cc
kinds text number place (long_name n fault) = of_lexer (lex.Ident place.line place.col) fault cc
kinds text number place (no_program n none) = of_grammar n none
kinds text number place (too_deep n none) = of_nesting n none

-- where a token opens level 65 there is no other fault
not_both : HasOneList → (text : List ℕ) (place there : Place) → HasNoTree text (syn.Syntax place) → HasNoTree text (syn.Nesting there) → ⊥
not_both one_list text place there none deep =
    none.stands.1 there (subst (λ toks. OpensAt text toks there) (one_list text deep.toks.list none.toks.list deep.listed none.listed) deep.stands)

-- the tokens of a text, with its end, are one
one_tokens : HasOneList → (text : List ℕ) (toks others : Tokens) → tokens text toks.list → tokens text others.list → IsEnd text toks.end → IsEnd text others.end → others ≡ toks
one_tokens one_list text toks others listed listed' end end' =
    let lists : others.list ≡ toks.list = one_list text others.list toks.list listed' listed in
    let lines : others.end.line ≡ toks.end.line = end'.line ∙ sym end.line in
    let cols : others.end.col ≡ toks.end.col = end'.col ∙ sym end.col in
    λ i. record { list = lists i; end = record { line = lines i; col = cols i } }

-- where the tokens stop beginning a program is one place
one_stop : HasOneList → HasOnePlace → (text : List ℕ) (place there : Place) → HasNoTree text (syn.Syntax place) → HasNoTree text (syn.Syntax there) → place ≡ there
one_stop one_list one text place there first second =
    one text first.toks place there first.stands.0
    (subst (λ toks. StopsAt text toks there) (one_tokens one_list text first.toks second.toks first.listed second.listed first.end second.end) second.stands.0)

-- and so is where a token opens level 65
one_opening : HasOneList → HasOneOpening → (text : List ℕ) (place there : Place) → HasNoTree text (syn.Nesting place) → HasNoTree text (syn.Nesting there) → place ≡ there
one_opening one_list one text place there first second =
    one text first.toks.list place there first.stands
    (subst (λ toks. OpensAt text toks there) (one_list text second.toks.list first.toks.list second.listed first.listed) second.stands)

pub one_source_fault : HasOneList → HasTokensOrFault → HasOneFault → HasOneOpening → HasOnePlace → HasOneSourceFault
one_source_fault one_list apart one openings places text number other place there first second = by_kinds (kinds text number place first) (kinds text other there second)
  where
    by_kinds : Kinds text number place → Kinds text other there → (number ≡ other) × (place ≡ there)
    by_kinds (of_lexer fault is told) (of_lexer fault' is' told') =
        let same : ◌≡◌ {A = SourceFault} (Fault number place) (Fault other there) = sym told ∙ (ap lexical (one text fault fault' is is') ∙ told') in
        (cc, cc)
    by_kinds (of_lexer fault is told) (of_grammar n none) = absurd (apart text none.toks.list fault none.listed is)
    by_kinds (of_lexer fault is told) (of_nesting n none) = absurd (apart text none.toks.list fault none.listed is)
    by_kinds (of_grammar n none) (of_lexer fault is told) = absurd (apart text none.toks.list fault none.listed is)
    by_kinds (of_nesting n none) (of_lexer fault is told) = absurd (apart text none.toks.list fault none.listed is)
    by_kinds (of_grammar n none) (of_grammar m none') = (n ∙ sym m, one_stop one_list places text place there none none')
    by_kinds (of_nesting n none) (of_nesting m none') = (n ∙ sym m, one_opening one_list openings text place there none none')
    by_kinds (of_grammar n none) (of_nesting m none') = absurd (not_both one_list text place there none none')
    by_kinds (of_nesting n none) (of_grammar m none') = absurd (not_both one_list text there place none' none)
