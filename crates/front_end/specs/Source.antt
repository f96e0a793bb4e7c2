-- What a text is: its tree, or else its fault, which comes from the first group that has one.
use Rattle.std.specs.Prelude.{◌≡◌, ℕ, List}
use Rattle.syntax_tree.specs.declared.place.Place.{Place}
use Rattle.syntax_tree.specs.Placed.{Prog}
use Rattle.syntax.specs.declared.fault.LexFault.{LexFault}
use Rattle.syntax.specs.declared.fault.LexFault.TheVariants as lex
use Rattle.syntax.specs.declared.token.Token.{Token}
use Rattle.syntax.specs.declared.token.Tokens.{Tokens}
use Rattle.syntax.specs.Faults.{Faulty}
use Rattle.syntax.specs.Tokens.{tokens, IsEnd}
use Rattle.syntax.specs.Grammar.{tree}
use Rattle.syntax_parser.specs.declared.fault.SyntaxFault.{SyntaxFault}
use Rattle.syntax_parser.specs.declared.fault.SyntaxFault.TheVariants as syn
use Rattle.syntax_parser.specs.Faults.{OpensAt, StopsAt}
use Rattle.front_end.specs.declared.fault.SourceFault.{SourceFault}
use Rattle.front_end.specs.declared.fault.SourceFault.TheVariants.{Fault, Memory}

-- the text has tokens, and the tree is theirs
pub record IsTreeOf (text : List ℕ) (g : Prog Place) : Type 0 where
  pub toks : List Token
  pub listed : tokens text toks
  pub grown : tree text toks g

-- a fault of nesting stands at the token that opens level 65; there is another only where no token
-- does, and it stands at the token with which the tokens read no longer begin a program, or at the
-- text's end
abbrev pub Stands : List ℕ → Tokens → SyntaxFault → Type 0
Stands text toks (syn.Syntax place) = StopsAt text toks place × ((p : Place) → ¬ OpensAt text toks.list p)
Stands text toks (syn.Nesting place) = OpensAt text toks.list place
Stands text toks (syn.Memory _) = Unit {0}

-- the text has tokens, they have no tree, and this is what the parser says of them
pub record HasNoTree (text : List ℕ) (fault : SyntaxFault) : Type 0 where
  pub toks : Tokens
  pub listed : tokens text toks.list
  pub end : IsEnd text toks.end
  pub none : (g : Prog Place) → ¬ tree text toks.list g
  pub stands : Stands text toks fault

-- the first line and byte
abbrev pub start : Place
start = record { line = 1; col = 1 }

-- the text has the fault of this number at this place, which is of the first group that has one
pub data IsSourceFault (text : List ℕ) (number : ℕ) (place : Place) : Type 0 where
  -- its length: it has too many bytes
  too_long : number ≡ 4 → place ≡ start → Faulty text lex.Long → IsSourceFault text number place
  -- its tokens: the first piece that is none has a bad byte, a literal that is too large, or an
  -- identifier that is too long
  bad_byte : number ≡ 1 → Faulty text (lex.Byte place.line place.col) → IsSourceFault text number place
  large_literal : number ≡ 2 → Faulty text (lex.Literal place.line place.col) → IsSourceFault text number place
  long_name : number ≡ 3 → Faulty text (lex.Ident place.line place.col) → IsSourceFault text number place
  -- its grammar: a token opens level 65, or else its tokens are no program
  no_program : number ≡ 10 → HasNoTree text (syn.Syntax place) → IsSourceFault text number place
  too_deep : number ≡ 11 → HasNoTree text (syn.Nesting place) → IsSourceFault text number place

-- want of memory is no fault of a text
abbrev pub IsSourceFaultOf : List ℕ → SourceFault → Type 0
IsSourceFaultOf text (Fault number place) = IsSourceFault text number place
IsSourceFaultOf text (Memory _) = Unit {0}

-- ---- what a fault of the tokens and of the tree is told as

abbrev pub lexical : LexFault → SourceFault
lexical (lex.Byte line col) = Fault 1 (record { line = line; col = col })
lexical (lex.Literal line col) = Fault 2 (record { line = line; col = col })
lexical (lex.Ident line col) = Fault 3 (record { line = line; col = col })
lexical lex.Long = Fault 4 start
lexical (lex.Memory e) = Memory e

abbrev pub syntactic : SyntaxFault → SourceFault
syntactic (syn.Syntax place) = Fault 10 place
syntactic (syn.Nesting place) = Fault 11 place
syntactic (syn.Memory e) = Memory e
