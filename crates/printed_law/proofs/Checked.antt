-- Two trees that are read and are the same apart from places are one tree with two placings, which
-- are alike; so rules fail of both or of none.
use Rattle.std.proofs.Common.{◌≡◌, ℕ, List, [], ◌∷◌, inl, inr, refl, sym, subst}
use Rattle.syntax_tree.specs.declared.place.Place.{Place}
use Rattle.syntax_tree.specs.Placed.{Prog}
use Rattle.syntax_tree.specs.Bare.{bare}
use Rattle.syntax.specs.declared.token.Token.{Token}
use Rattle.syntax.specs.Lex.{TokensStandInOrder}
use Rattle.syntax.specs.Words.{Tok, toks_of, words_of}
use Rattle.syntax.specs.Grammar.{tree, IsProg}
use Rattle.syntax_printer.proofs.MovedProgs.{prog-moves}
use Rattle.static_names.specs.Rules as names
use Rattle.static_names.specs.Resolved.{IsRead}
use Rattle.static_semantics.specs.Static.{Fails, IsChecked}
use Rattle.printed_law.specs.Moved.{moved}
use Rattle.printed_law.specs.Alike.{AreAlike, Stays}
use Rattle.printed_law.specs.AlikeLaws.{TreesAreCheckedAlike}
use Rattle.printed_law.proofs.GrammarMoved.{program-carries}
use Rattle.printed_law.proofs.TokenPlaces.{tokens-apart}
use Rattle.printed_law.proofs.Pairs.{Pair, both_toks, first-toks, second-toks, both-words, pairs-alike}
use Rattle.printed_law.proofs.NameRules.{names-stay}
use Rattle.printed_law.proofs.Statements.{statements-stay}
use Rattle.printed_law.proofs.Numbers.{limits-stay}
use Rattle.printed_law.proofs.Calls.{reaching-stays}

-- what holds of the tokens of texts and of their trees
pub record Reading : Type 0 where
  pub order : TokensStandInOrder
  pub one_tree : (text : List ℕ) (toks : List Token) (g h : Prog Place) → tree text toks g → tree text toks h → g ≡ h
  pub one_list : (text other : List ℕ) (toks others : List Token) (g h : Prog Place) → tree text toks g → tree other others h → bare g ≡ bare h
      → words_of (toks_of text toks) ≡ words_of (toks_of other others)

no-words : {Q : Type 0} (ts : List (Tok Q)) → words_of ts ≡ [] → ts ≡ []
no-words [] same = refl
no-words (t ∷ ts) same = cc

module _ (laws : Reading) (g h : Prog Place) (first : IsRead g) (second : IsRead h) (same : bare g ≡ bare h) where
  abbrev ts : List (Tok Place)
  ts = toks_of first.text first.toks

  abbrev os : List (Tok Place)
  os = toks_of second.text second.toks

  words : words_of ts ≡ words_of os
  words = laws.one_list first.text second.text first.toks second.toks g h first.reads second.reads same

  abbrev place_one : Pair ts os → Place
  place_one x = x.one

  abbrev place_two : Pair ts os → Place
  place_two x = x.two

  -- the tree over the places of both
  record Joined : Type 0 where
    over : Prog (Pair ts os)
    one : moved place_one over ≡ g
    two : moved place_two over ≡ h

  joined : Joined
  joined =
      let zs = both_toks ts os in
      let it = (prog-moves {P = Place} {Q = Pair ts os} g).move ts [] first.reads zs (both-words ts os words) in
      let none : it.vs ≡ [] = no-words it.vs it.words in
      let grown : IsProg it.y zs [] = subst (λ vs. IsProg it.y zs vs) none it.takes in
      let of_first : IsProg (moved place_one it.y) ts [] = subst (λ us. IsProg (moved place_one it.y) us []) (first-toks ts os words) ((program-carries place_one it.y).carry zs [] grown) in
      let of_second : IsProg (moved place_two it.y) os [] = subst (λ us. IsProg (moved place_two it.y) us []) (second-toks ts os words) ((program-carries place_two it.y).carry zs [] grown) in
      record {
        over = it.y;
        one = laws.one_tree first.text first.toks (moved place_one it.y) g of_first first.reads;
        two = laws.one_tree second.text second.toks (moved place_two it.y) h of_second second.reads;
      }

  alike : AreAlike {X = Pair ts os} place_two place_one
  alike x y = sym (pairs-alike ts os (tokens-apart first.text first.toks (laws.order first.text first.toks first.listed))
      (tokens-apart second.text second.toks (laws.order second.text second.toks second.listed)) x y)

  -- where a rule stays, it fails of neither if it does not fail of the first
  none-fails : (Fail : Prog Place → ℕ → Place → Type 0)
      → ((number : ℕ) (place : Place) → Fail (moved place_two joined.over) number place → Stays place_two place_one place (Fail (moved place_one joined.over) number))
      → ((number : ℕ) (place : Place) → ¬ Fail g number place) → (number : ℕ) (place : Place) → ¬ Fail h number place
  none-fails Fail stays none number place fails =
      let it = stays number place (subst (λ x. Fail x number place) (sym joined.two) fails) in
      none number (place_one it.at) (subst (λ x. Fail x number (place_one it.at)) joined.one it.holds)

  checked : IsChecked g → IsChecked h
  checked is = record {
    read = second;
    named = none-fails names.Fails (names-stay place_two place_one alike joined.over) is.named;
    checked = none-fails Fails rules is.checked;
  }
    where
      rules : (number : ℕ) (place : Place) → Fails (moved place_two joined.over) number place → Stays place_two place_one place (Fails (moved place_one joined.over) number)
      rules number place (inl fails) = let it = statements-stay place_two place_one alike joined.over number place fails in record { at = it.at; is = it.is; holds = inl it.holds }
      rules number place (inr (inl fails)) = let it = limits-stay place_two place_one alike joined.over number place fails in record { at = it.at; is = it.is; holds = inr (inl it.holds) }
      rules number place (inr (inr fails)) = let it = reaching-stays place_two place_one alike joined.over number place fails in record { at = it.at; is = it.is; holds = inr (inr it.holds) }

pub checked-alike : Reading → TreesAreCheckedAlike
checked-alike laws g h first second same is = checked laws g h first second same is
