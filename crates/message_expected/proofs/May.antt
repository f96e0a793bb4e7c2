-- What may follow a text, by where its words lead.
use Rattle.std.proofs.Common.{◌≡◌, ℕ, ◌≤◌, Bool, true, false, IsTrue, ◌↔◌, inl, inr, List, [], ◌∷◌, ◌++◌, append-nil, length, refl, ap, sym, ◌∙◌, subst}
use Rattle.syntax.proofs.LawLemmas.{one_list}
use Rattle.syntax.specs.Grammar.{MOST_LEVELS}
use Rattle.syntax.specs.Spellings.{HasKind}
use Rattle.syntax.specs.Tokens.{IsCut, longest_text, tokens}
use Rattle.syntax.specs.Words.{Tok, toks_of}
use Rattle.syntax.specs.declared.token.Token.{Token}
use Rattle.syntax.specs.declared.token.TokenKind.{TokenKind}
use Rattle.syntax_tree.specs.declared.place.Place.{Place}
use Rattle.message_expected.specs.Automaton.{Reached, goes_on, is_whole, kinds_in, program, reach, start}
use Rattle.message_expected.specs.Expected.{Begin, BeginsProgram, IsProgram, MayFollow}
use Rattle.message_expected.specs.Kinds.{spelling}
use Rattle.message_expected.specs.Leads.{HasWord, Leads}
use Rattle.message_expected.specs.declared.kinds.Kind.{Kind}
use Rattle.message_expected.proofs.Begins.{begins_unless, is_tree, never_begins, tree_is}
use Rattle.message_expected.proofs.Behind.{Along, along}
use Rattle.message_expected.proofs.CutBack.{tokens_back}
use Rattle.message_expected.proofs.Leading.{Comes, a-fault, comes, no-fault, so-whole, whole-so}
use Rattle.message_expected.proofs.Runs.{Answer, run}

-- a word behind all tokens of a text
along-all : (text : List ℕ) (toks : List Token) (token : TokenKind) (word : List ℕ) → tokens text toks → HasKind word token → length (text ++ 10 ∷ word) ≤ longest_text → Along text toks token word text
along-all text toks token word listed has fits =
    subst (λ l. Along l toks token word text) (append-nil text)
    (along text [] toks token word listed.pieces has fits (subst (λ l. IsCut l 0 (length text) listed.pieces) (sym (append-nil text)) listed.cut) (sym listed.listed))

module _ (text : List ℕ) (reached : Reached) (kind : Kind) (leads : Leads text reached) (has : HasWord kind) where
  abbrev word : List ℕ
  word = spelling kind

  -- what comes of the longer text
  abbrev answer : (toks : List Token) → Answer
  answer toks = run MOST_LEVELS program (toks_of (text ++ 10 ∷ spelling kind) toks)

  came : (toks all : List Token) (w : Tok Place) → reached ≡ reach start (kinds_in text toks) → toks_of (text ++ 10 ∷ spelling kind) all ≡ toks_of text toks ++ w ∷ [] → Comes reached (w ∷ []) (answer all)
  came toks all w same words =
      subst (λ r. Comes r (w ∷ []) (answer all)) (sym same) (subst (λ l. Comes (reach start (kinds_in text toks)) (w ∷ []) (run MOST_LEVELS program l)) (sym words) (comes text toks MOST_LEVELS program (w ∷ [])))

  pub may_go_on : length (text ++ 10 ∷ spelling kind) ≤ longest_text → goes_on reached kind ≡ true → MayFollow text (spelling kind)
  unfolding BeginsProgram
  may_go_on fits goes = elim leads [
    | inl (toks, listed, same) ↦
        let it = along-all text toks has.0 (spelling kind) listed has.1 fits in (
          _,
          it.listed,
          begins_unless (text ++ 10 ∷ spelling kind) _
              (λ n some at. no-fault reached _ (answer _) n (came toks _ _ same it.words) (ap (goes_on reached) has.2 ∙ goes) some at),
        )
    | inr (no-tokens, same) ↦ let both = sym (ap (λ r. goes_on r kind) same) ∙ goes in cc
  ]

  pub must_go_on : MayFollow text (spelling kind) → goes_on reached kind ≡ false → ⊥
  unfolding BeginsProgram
  must_go_on (all, listed-all, begins) goes = elim leads [
    | inl (toks, listed, same) ↦
        let it = along-all text toks has.0 (spelling kind) listed has.1 listed-all.short in
        let (n, some, at) = a-fault reached _ (answer _) (came toks _ _ same it.words) (ap (goes_on reached) has.2 ∙ goes) in
        never_begins (text ++ 10 ∷ spelling kind) _ n some at (subst (Begin (text ++ 10 ∷ spelling kind)) (one_list (text ++ 10 ∷ spelling kind) all _ listed-all it.listed) begins)
    | inr (no-tokens, same) ↦ let back = tokens_back text (spelling kind) all listed-all in no-tokens back.0 back.1
  ]

  pub must_fit : MayFollow text (spelling kind) → length (text ++ 10 ∷ spelling kind) ≤ longest_text
  unfolding BeginsProgram
  must_fit (all, listed-all, begins) = listed-all.short

  pub exactly : (b : Bool) → b ≡ goes_on reached kind → length (text ++ 10 ∷ spelling kind) ≤ longest_text → IsTrue b ↔ MayFollow text (spelling kind)
  exactly true is fits = (λ so. may_go_on fits (sym is), λ may. refl)
  exactly false is fits = (λ so. cc, λ may. absurd (must_go_on may (sym is)))

  pub too_long : (length (text ++ 10 ∷ spelling kind) ≤ longest_text → ⊥) → IsTrue false ↔ MayFollow text (spelling kind)
  too_long none = (λ so. cc, λ may. absurd (none (must_fit may)))

came-all : (text : List ℕ) (reached : Reached) (toks : List Token) → reached ≡ reach start (kinds_in text toks) → Comes reached [] (run MOST_LEVELS program (toks_of text toks))
came-all text reached toks same =
    subst (λ r. Comes r [] (run MOST_LEVELS program (toks_of text toks))) (sym same)
    (subst (λ l. Comes (reach start (kinds_in text toks)) [] (run MOST_LEVELS program l)) (append-nil (toks_of text toks)) (comes text toks MOST_LEVELS program []))

pub whole_program : (text : List ℕ) (reached : Reached) → Leads text reached → is_whole reached ≡ true → IsProgram text
unfolding IsProgram
whole_program text reached leads is = elim leads [
  | inl (toks, listed, same) ↦ (toks, listed, is_tree text toks (whole-so reached _ (came-all text reached toks same) is))
  | inr (no-tokens, same) ↦ let both = sym (ap is_whole same) ∙ is in cc
]

pub program_whole : (text : List ℕ) (reached : Reached) → Leads text reached → is_whole reached ≡ false → IsProgram text → ⊥
unfolding IsProgram
program_whole text reached leads is (others, also, tree) = elim leads [
  | inl (toks, listed, same) ↦ so-whole reached _ (came-all text reached others (same ∙ ap (λ l. reach start (kinds_in text l)) (one_list text toks others listed also))) is (tree_is text others tree)
  | inr (no-tokens, same) ↦ no-tokens others also
]

pub ends : (text : List ℕ) (reached : Reached) (b : Bool) → Leads text reached → b ≡ is_whole reached → IsTrue b ↔ IsProgram text
ends text reached true leads is = (λ so. whole_program text reached leads (sym is), λ it. refl)
ends text reached false leads is = (λ so. cc, λ it. absurd (program_whole text reached leads (sym is) it))
