-- Tokens begin a program unless they stop at one of them, and are one where nothing is at fault.
use Rattle.std.proofs.Common.{◌≡◌, ℕ, ◌<◌, ◌⊎◌, inl, inr, Result, Ok, Err, List, [], ◌∷◌, append-nil, length, refl, ap, sym, ◌∙◌, subst, arith}
use Rattle.syntax.specs.Grammar.{IsProg, MOST_LEVELS, tree}
use Rattle.syntax.specs.Words.{Tok, toks_of}
use Rattle.syntax.specs.declared.token.Token.{Token}
use Rattle.syntax_parser.specs.Faults.{OpensAt, place}
use Rattle.syntax_parser.proofs.Refusals.{opening, stopped}
use Rattle.syntax_reading.specs.Beginning.{BeginsProg}
use Rattle.syntax_reading.specs.ExprReading.{Fault, nesting, syntax}
use Rattle.syntax_reading.specs.Reading.{whole}
use Rattle.syntax_reading.proofs.Again.{whole_again}
use Rattle.syntax_reading.proofs.Sound.{whole_sound}
use Rattle.syntax_reading.proofs.Stops.{fault-stops, no-end}
use Rattle.syntax_tree.specs.Placed.{Prog}
use Rattle.syntax_tree.specs.declared.place.Place.{Place}
use Rattle.message_expected.specs.Automaton.{program}
use Rattle.message_expected.specs.Expected.{Begin, HaveTree}
use Rattle.message_expected.proofs.ProgRuns.{outcome, whole_runs}
use Rattle.message_expected.proofs.Runs.{run}

-- the tokens of a program begin one
tree_begins : (text : List ℕ) (toks : List Token) (g : Prog Place) → tree text toks g → BeginsProg (toks_of text toks)
tree_begins text toks g took = (0, ([], g, subst (λ l. IsProg g l []) (sym (append-nil (toks_of text toks))) took))

fault_of : {A : Type 0} (r : Result A Fault) (f : Fault) → outcome r ≡ Err f → r ≡ Err f
fault_of (Ok x) f is = cc
fault_of (Err g) f is = let same : g ≡ f = cc in ap Err same

tree_of : {A : Type 0} (r : Result A Fault) → outcome r ≡ Ok tt → (x : A) × (r ≡ Ok x)
tree_of (Ok x) is = (x, refl)
tree_of (Err g) is = cc

module _ (text : List ℕ) (toks : List Token) where
  abbrev ts : List (Tok Place)
  ts = toks_of text toks

  by-reading : (r : Result (Prog Place) Fault) → whole MOST_LEVELS (toks_of text toks) ≡ r → ((n : ℕ) → 0 < n → whole MOST_LEVELS (toks_of text toks) ≡ Err (syntax n) → ⊥)
      → BeginsProg (toks_of text toks) ⊎ ((p : Place) × OpensAt text toks p)
  by-reading (Ok g) is not = inl (tree_begins text toks g (whole_sound (toks_of text toks) g is))
  by-reading (Err (syntax n)) is not = elim (fault-stops text toks n is) [ inl (s, left) ↦ absurd (not n (omega (arith, left)) is) | inr (begins, left) ↦ inl begins ]
  by-reading (Err (nesting n)) is not =
      let o = opening text toks n is in inr (place o.token, record { before = o.before; token = o.token; after = o.after; all = o.all; opens = o.opens; stands = refl })

  pub begins_unless : ((n : ℕ) → 0 < n → run MOST_LEVELS program (toks_of text toks) ≡ Err (syntax n) → ⊥) → Begin text toks
  unfolding Begin
  begins_unless not = by-reading (whole MOST_LEVELS (toks_of text toks)) refl (λ n some is. not n some (whole_runs MOST_LEVELS (toks_of text toks) ∙ ap outcome is))

  pub never_begins : (n : ℕ) → 0 < n → run MOST_LEVELS program (toks_of text toks) ≡ Err (syntax n) → Begin text toks → ⊥
  unfolding Begin
  never_begins n some is begins =
      let fault = fault_of (whole MOST_LEVELS (toks_of text toks)) (syntax n) (sym (whole_runs MOST_LEVELS (toks_of text toks)) ∙ is) in
      elim begins [
        | inl begin ↦ elim (fault-stops text toks n fault) [ inl (s, left) ↦ no-end text toks s begin | inr (also, left) ↦ omega (arith, some, left) ]
        | inr (p, o) ↦ let both : ◌≡◌ {A = Result (Prog Place) Fault} (Err (syntax n)) (Err (nesting (length (o.token ∷ o.after)))) = sym fault ∙ stopped text toks p o in cc
      ]

  pub is_tree : run MOST_LEVELS program (toks_of text toks) ≡ Ok tt → HaveTree text toks
  unfolding HaveTree
  is_tree is = let (g, read) = tree_of (whole MOST_LEVELS (toks_of text toks)) (sym (whole_runs MOST_LEVELS (toks_of text toks)) ∙ is) in (g, whole_sound (toks_of text toks) g read)

  pub tree_is : HaveTree text toks → run MOST_LEVELS program (toks_of text toks) ≡ Ok tt
  unfolding HaveTree
  tree_is (g, took) = whole_runs MOST_LEVELS (toks_of text toks) ∙ ap outcome (whole_again MOST_LEVELS (toks_of text toks) g took)
