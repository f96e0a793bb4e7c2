-- What the tokens of a part give: where the literals among them are words, so are those of the tree.
use Rattle.std.proofs.Common.{ℕ, zero, suc, ◌≤◌, List, [], ◌∷◌, subst, arith}
use Rattle.std.specs.Prelude.{All}
use Rattle.std.proofs.lemmas.List.Elements.{All-cons, All-nil}
use Rattle.syntax_tree.specs.declared.place.Place.{Place}
use Rattle.syntax.specs.declared.token.Token.{Token}
use Rattle.syntax.specs.declared.token.TokenKind.{TokenKind}
use Rattle.syntax.specs.declared.token.TokenKind.TheVariants as kind
use Rattle.syntax.specs.Spellings.{HasKind}
use Rattle.syntax.specs.Tokens.{StandsIn, bytes_of}
use Rattle.syntax.specs.Words as w
use Rattle.syntax.specs.Words.{Word, named, number, keyword, sign, Tok, word_of, tok, toks_of}
use Rattle.syntax.specs.ExprGrammar.{at, a, ◌▷◌, nothing, Each, Listed, SomeListed, Deeper}
use Rattle.static_semantics.specs.Written.{greatest}

-- ---- tokens

-- a literal is a word
abbrev pub Fits : Word → Type 0
Fits (named n) = Unit {0}
Fits (number n) = n ≤ greatest
Fits (keyword n) = Unit {0}
Fits (sign n) = Unit {0}

-- the literals among the tokens are words
abbrev pub AllFit : List (Tok Place) → Type 0
AllFit [] = Unit {0}
AllFit (t ∷ ts) = Fits t.word × AllFit ts

fits : (bytes : List ℕ) (k : TokenKind) → HasKind bytes k → Fits (word_of k bytes)
fits bytes kind.Ident h = tt
fits bytes (kind.Keyword n) h = tt
fits bytes (kind.Literal n) h = h.2
fits bytes (kind.Sign n) h = tt

pub tokens-fit : (text : List ℕ) (toks : List Token) → All (StandsIn text) toks → AllFit (toks_of text toks)
tokens-fit text [] stand = tt
tokens-fit text (t ∷ ts) stand = (fits (bytes_of text t) t.kind (stand zero t (omega arith)).kind, tokens-fit text ts (λ k d below. stand (suc k) d (omega arith)))

-- ---- parts

pub record Gives (R : List (Tok Place) → List (Tok Place) → Type 0) (W : Type 0) : Type 0 where
  pub from : (ts us : List (Tok Place)) → R ts us → AllFit ts → W × AllFit us

-- what both parts give
infixr 5 ◌▸◌
pub ◌▸◌ : {R S : List (Tok Place) → List (Tok Place) → Type 0} {V W : Type 0} → Gives R V → Gives S W → Gives (R ▷ S) (V × W)
k ▸ h = record { from = λ ts us t fit. let x = k.from ts t.0 t.1 fit in let y = h.from t.0 us t.2 x.1 in ((x.0, y.0), y.1) }

-- what the other part gives
infixr 5 ◌▹◌
pub ◌▹◌ : {R S : List (Tok Place) → List (Tok Place) → Type 0} {V W : Type 0} → Gives R V → Gives S W → Gives (R ▷ S) W
k ▹ h = record { from = λ ts us t fit. h.from t.0 us t.2 (k.from ts t.0 t.1 fit).1 }

-- what the one part gives
infixr 5 ◌◃◌
pub ◌◃◌ : {R S : List (Tok Place) → List (Tok Place) → Type 0} {V W : Type 0} → Gives R V → Gives S W → Gives (R ▷ S) V
k ◃ h = record { from = λ ts us t fit. let x = k.from ts t.0 t.1 fit in (x.0, (h.from t.0 us t.2 x.1).1) }

pub turn : {R : List (Tok Place) → List (Tok Place) → Type 0} {V W : Type 0} → Gives R V → (V → W) → Gives R W
turn k f = record { from = λ ts us t fit. let x = k.from ts us t fit in (f x.0, x.1) }

pub three : {R : List (Tok Place) → List (Tok Place) → Type 0} {U V W : Type 0} → Gives R (U × (V × W)) → Gives R (U × V × W)
three k = turn k (λ x. (x.0, x.1.0, x.1.1))

pub none : Gives nothing (Unit {0})
none = record { from = λ ts us t fit. (tt, subst AllFit t fit) }

-- any word, at a place that is told or not
pub any_at : (word : Word) (p : Place) → Gives (at word p) (Unit {0})
any_at word p = record { from = λ ts us t fit. (tt, (subst AllFit t fit).1) }

pub any : (word : Word) → Gives (a word) (Unit {0})
any word = record { from = λ ts us t fit. (tt, (subst AllFit t.1 fit).1) }

pub literal_at : (n : ℕ) (p : Place) → Gives (at (number n) p) (n ≤ greatest)
literal_at n p = record { from = λ ts us t fit. subst AllFit t fit }

pub deeper : {R : ℕ → List (Tok Place) → List (Tok Place) → Type 0} {W : Type 0} (depth : ℕ) → ((d : ℕ) → Gives (R d) W) → Gives (Deeper depth R) W
deeper zero k = record { from = λ ts us t fit. absurd t }
deeper (suc depth) k = k depth

-- ---- lists

pub each : {A : Type 0} (R : A → List (Tok Place) → List (Tok Place) → Type 0) (P : A → Type 0) → ((x : A) → Gives (R x) (P x)) → (xs : List A) → Gives (Each R xs) (All P xs)
each R P k [] = turn none (λ x. All-nil P)
each R P k (x ∷ xs) = turn (k x ▸ each R P k xs) (λ y. All-cons P x xs y.0 y.1)

pub listed : {A : Type 0} (R : A → List (Tok Place) → List (Tok Place) → Type 0) (P : A → Type 0) → ((x : A) → Gives (R x) (P x)) → (xs : List A) → Gives (Listed R xs) (All P xs)
listed R P k [] = record { from = λ ts us t fit. absurd t }
listed R P k (x ∷ xs) = turn (k x ▸ each (λ y. a w.COMMA ▷ R y) P (λ y. any w.COMMA ▹ k y) xs) (λ y. All-cons P x xs y.0 y.1)

pub some_listed : {A : Type 0} (R : A → List (Tok Place) → List (Tok Place) → Type 0) (P : A → Type 0) → ((x : A) → Gives (R x) (P x)) → (xs : List A) → Gives (SomeListed R xs) (All P xs)
some_listed R P k [] = turn none (λ x. All-nil P)
some_listed R P k (x ∷ xs) = listed R P k (x ∷ xs)
