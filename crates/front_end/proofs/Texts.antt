-- The tree and the faults of a text, by what the lexer and the parser say of it.
use Rattle.std.proofs.Common.{◌≡◌, ℕ, List, ◌⊎◌, inl, inr, Result, Ok, Err, refl, ap, sym, ◌∙◌, subst}
use Rattle.std.specs.Prelude.{IfErr, IsErrAnd, MatchResult}
use Rattle.out_of_memory.specs.Refused.{refused}
use Rattle.syntax_tree.specs.declared.place.Place.{Place}
use Rattle.syntax_tree.specs.Placed.{Prog}
use Rattle.syntax.specs.declared.fault.LexFault.{LexFault}
use Rattle.syntax.specs.declared.fault.LexFault.TheVariants as lex
use Rattle.syntax.specs.declared.token.Token.{Token}
use Rattle.syntax.specs.declared.token.Tokens.{Tokens}
use Rattle.syntax.specs.Lex.{HasOneList, HasTokensOrFault}
use Rattle.syntax.specs.Tokens.{tokens, IsEnd}
use Rattle.syntax.specs.Grammar.{tree}
use Rattle.syntax_parser.specs.declared.fault.SyntaxFault.{SyntaxFault}
use Rattle.syntax_parser.specs.declared.fault.SyntaxFault.TheVariants as syn
use Rattle.syntax_parser.specs.Faults.{OpensAt, StopsAt}
use Rattle.front_end.specs.declared.fault.SourceFault.{SourceFault}
use Rattle.front_end.specs.declared.fault.SourceFault.TheVariants.{Memory}
use Rattle.front_end.specs.Source.{IsTreeOf, Stands, HasNoTree, IsSourceFault, too_long, bad_byte, large_literal, long_name, no_program, too_deep, IsSourceFaultOf, lexical, syntactic}
use Rattle.front_end.specs.ProgramLaws.{HasOneTree}

-- ---- what `read_tree` answers

pub only_lexical : {X : Type 0} (r : Result X SourceFault) (P : X → Type 0) (fault : LexFault) → IsErrAnd r (λ made. made ≡ lexical fault) → fault ≡ lex.Memory refused → MatchResult r P (λ f. f ≡ Memory refused)
only_lexical (Ok x) P fault made memory = absurd made
only_lexical (Err e) P fault made memory = made ∙ ap lexical memory

pub only_syntactic : {X : Type 0} (r : Result X SourceFault) (P : X → Type 0) (fault : SyntaxFault) → IsErrAnd r (λ made. made ≡ syntactic fault) → fault ≡ syn.Memory refused → MatchResult r P (λ f. f ≡ Memory refused)
only_syntactic (Ok x) P fault made memory = absurd made
only_syntactic (Err e) P fault made memory = made ∙ ap syntactic memory

-- what the parser says of the place of its fault
pub stands_as : {X : Type 0} (text : List ℕ) (toks : Tokens) (fault : SyntaxFault)
    → ((p : Place) → ◌≡◌ {A = Result X SyntaxFault} (Err fault) (Err (syn.Syntax p)) → StopsAt text toks p)
    → ((p : Place) → ◌≡◌ {A = Result X SyntaxFault} (Err fault) (Err (syn.Nesting p)) → OpensAt text toks.list p)
    → ((p : Place) → OpensAt text toks.list p → ◌≡◌ {A = Result X SyntaxFault} (Err fault) (Err (syn.Nesting p)) ⊎ ◌≡◌ {A = Result X SyntaxFault} (Err fault) (Err (syn.Memory refused)))
    → Stands text toks fault
stands_as {X} text toks (syn.Syntax place) stops nesting deep = (stops place refl, λ p opens. by p (deep p opens))
  where
    by : (p : Place) → ◌≡◌ {A = Result X SyntaxFault} (Err (syn.Syntax place)) (Err (syn.Nesting p)) ⊎ ◌≡◌ {A = Result X SyntaxFault} (Err (syn.Syntax place)) (Err (syn.Memory refused)) → ⊥
    by p (inl e) = cc
    by p (inr e) = cc
stands_as text toks (syn.Nesting place) stops nesting deep = nesting place refl
stands_as text toks (syn.Memory _) stops nesting deep = tt

-- the parser's fault is the text's
parser_fault : (text : List ℕ) (toks : Tokens) (fault : SyntaxFault) → tokens text toks.list → IsEnd text toks.end → ((g : Prog Place) → tree text toks.list g → fault ≡ syn.Memory refused)
    → Stands text toks fault → IsSourceFaultOf text (syntactic fault)
parser_fault text toks (syn.Syntax p) listed end only stands =
    no_program refl (record { toks = toks; listed = listed; end = end; none = λ g grown. let e : ◌≡◌ {A = SyntaxFault} (syn.Syntax p) (syn.Memory refused) = only g grown in cc; stands = stands })
parser_fault text toks (syn.Nesting p) listed end only stands =
    too_deep refl (record { toks = toks; listed = listed; end = end; none = λ g grown. let e : ◌≡◌ {A = SyntaxFault} (syn.Nesting p) (syn.Memory refused) = only g grown in cc; stands = stands })
parser_fault text toks (syn.Memory _) listed end only stands = tt

pub syntactic_fault : {X : Type 0} (r : Result X SourceFault) (text : List ℕ) (toks : Tokens) (fault : SyntaxFault) → IsErrAnd r (λ made. made ≡ syntactic fault) → tokens text toks.list → IsEnd text toks.end
    → ((g : Prog Place) → tree text toks.list g → fault ≡ syn.Memory refused) → Stands text toks fault → IfErr r (λ f. IsSourceFaultOf text f)
syntactic_fault (Ok x) text toks fault made listed end only stands = tt
syntactic_fault (Err e) text toks fault made listed end only stands = subst (IsSourceFaultOf text) (sym made) (parser_fault text toks fault listed end only stands)

-- ---- the laws

-- a text that has a tree has no fault of its tokens or of its grammar
abbrev pub HasTreeOrFault : Type 0
HasTreeOrFault =
    (text : List ℕ) (g : Prog Place) (number : ℕ) (place : Place)
    → IsTreeOf text g → IsSourceFault text number place → ⊥

pub one_tree : HasOneList → ((text : List ℕ) (toks : List Token) (g h : Prog Place) → tree text toks g → tree text toks h → g ≡ h) → HasOneTree
one_tree one_list one text g h first second =
    one text first.toks g h first.grown (subst (λ toks. tree text toks h) (one_list text second.toks first.toks second.listed first.listed) second.grown)

no_tree : HasOneList → (text : List ℕ) (g : Prog Place) (fault : SyntaxFault) → IsTreeOf text g → HasNoTree text fault → ⊥
no_tree one_list text g fault is none = none.none g (subst (λ toks. tree text toks g) (one_list text is.toks none.toks.list is.listed none.listed) is.grown)

pub tree_or_fault : HasOneList → HasTokensOrFault → HasTreeOrFault
tree_or_fault one_list apart text g number place is (too_long n p fault) = apart text is.toks lex.Long is.listed fault
tree_or_fault one_list apart text g number place is (bad_byte n fault) = apart text is.toks (lex.Byte place.line place.col) is.listed fault
tree_or_fault one_list apart text g number place is (large_literal n fault) = apart text is.toks (lex.Literal place.line place.col) is.listed fault
tree_or_fault one_list apart text g number place is (long_name n fault) = apart text is.toks (lex.Ident place.line place.col) is.listed fault
tree_or_fault one_list apart text g number place is (no_program n none) = no_tree one_list text g (syn.Syntax place) is none
tree_or_fault one_list apart text g number place is (too_deep n none) = no_tree one_list text g (syn.Nesting place) is none
