-- Tokens with the same words have the same tree, apart from places.
use Rattle.std.proofs.Common.{◌≡◌, List, [], ◌∷◌, map, refl, ap, ◌∙◌}
use Rattle.syntax.specs.Words as w
use Rattle.syntax.specs.Words.{Word, named, number, Tok, words_of}
use Rattle.syntax.specs.ExprGrammar.{at, a, ◌▷◌, nothing, Unsigned, Each, Listed, SomeListed}

-- what takes tokens from the front of a list
abbrev pub Takes : Type 0 → Type 1
Takes P = List (Tok P) → List (Tok P) → Type 0

-- from a list of tokens something like this takes its tokens, and what is left has these words
pub record Taken {Q Y : Type 0} (R : Y → Takes Q) (Like : Y → Type 0) (os : List (Tok Q)) (left : List Word) : Type 0 where
  pub y : Y
  pub vs : List (Tok Q)
  pub takes : R y os vs
  pub words : words_of vs ≡ left
  pub like : Like y

-- where something takes tokens, something like it takes the same words in any other list
pub record Moves {P Q Y : Type 0} (S : Takes P) (R : Y → Takes Q) (Like : Y → Type 0) : Type 0 where
  pub move : (ts us : List (Tok P)) → S ts us → (os : List (Tok Q)) → words_of os ≡ words_of ts → Taken R Like os (words_of us)

-- two parts
pub record Both (A B : Type 0) : Type 0 where
  pub one : A
  pub two : B

-- ---- parts

pub front : {Q : Type 0} (os : List (Tok Q)) (word : Word) (left : List Word) → words_of os ≡ word ∷ left → Taken {Q = Q} {Y = Q} (λ q. at word q) (λ q. Unit {0}) os left
front [] word left same = cc
front (o ∷ os) word left same = record {
  y = o.place;
  vs = os;
  takes = (let first : o.word ≡ word = cc in λ i. record { word = first i; place = o.place } ∷ os);
  words = cc;
  like = tt;
}

module _ {P Q : Type 0} where
  pub at-moves : (word : Word) (p : P) → Moves {P = P} {Q = Q} {Y = Q} (at word p) (λ q. at word q) (λ q. Unit {0})
  at-moves word p = record { move = λ ts us took os same. front os word (words_of us) (same ∙ ap words_of took) }

  pub a-moves : (word : Word) → Moves {P = P} {Q = Q} {Y = Unit {0}} (a word) (λ q. a word) (λ q. Unit {0})
  a-moves word = record {
    move = λ ts us took os same.
        let it = front os word (words_of us) (same ∙ ap words_of took.1) in
        record { y = tt; vs = it.vs; takes = (it.y, it.takes); words = it.words; like = tt };
  }

  pub nothing-moves : Moves {P = P} {Q = Q} {Y = Unit {0}} nothing (λ q. nothing) (λ q. Unit {0})
  nothing-moves = record {
    move = λ ts us took os same. record { y = tt; vs = os; takes = refl; words = same ∙ ap words_of took; like = tt };
  }

  pub unsigned-moves : (word : Word) (p q : P) → Moves {P = P} {Q = Q} {Y = Q} (Unsigned word p q) (λ y. Unsigned word y y) (λ y. Unit {0})
  unsigned-moves word p q = record {
    move = λ ts us took os same.
        let it = front os word (words_of us) (same ∙ ap words_of took.1) in
        record { y = it.y; vs = it.vs; takes = (refl, it.takes); words = it.words; like = tt };
  }

  infixr 5 ◌⋆◌
  pub ◌⋆◌ : {Y Z : Type 0} {S T : Takes P} {R : Y → Takes Q} {U : Z → Takes Q} {A : Y → Type 0} {B : Z → Type 0}
      → Moves S R A → Moves T U B → Moves {P = P} {Q = Q} {Y = Both Y Z} (S ▷ T) (λ y. R y.one ▷ U y.two) (λ y. Both (A y.one) (B y.two))
  m ⋆ n = record {
    move = λ ts us took os same.
        let it = m.move ts took.0 took.1 os same in
        let next = n.move took.0 us took.2 it.vs it.words in
        record { y = record { one = it.y; two = next.y }; vs = next.vs; takes = (it.vs, it.takes, next.takes); words = next.words; like = record { one = it.like; two = next.like } };
  }

  pub never-moves : {Y : Type 0} {S : Takes P} {R : Y → Takes Q} {A : Y → Type 0} → ((ts us : List (Tok P)) → S ts us → ⊥) → Moves S R A
  never-moves never = record { move = λ ts us took os same. absurd (never ts us took) }

  -- the whole that is made of parts
  pub made : {Y Z : Type 0} {S : Takes P} {R : Y → Takes Q} {A : Y → Type 0} {U : Z → Takes Q} {B : Z → Type 0} → Moves S R A → (f : Y → Z)
      → ((y : Y) (os vs : List (Tok Q)) → R y os vs → U (f y) os vs) → ((y : Y) → A y → B (f y)) → Moves S U B
  made m f takes like = record {
    move = λ ts us took os same.
        let it = m.move ts us took os same in
        record { y = f it.y; vs = it.vs; takes = takes it.y os it.vs it.takes; words = it.words; like = like it.y it.like };
  }

  pub each-moves : {X Y Z : Type 0} (S : X → Takes P) (R : Y → Takes Q) (b : X → Z) (d : Y → Z) → ((x : X) → Moves (S x) R (λ y. d y ≡ b x))
      → (xs : List X) → Moves {P = P} {Q = Q} {Y = List Y} (Each S xs) (Each R) (λ ys. map d ys ≡ map b xs)
  each-moves S R b d moves [] = made nothing-moves (λ y. []) (λ y os vs t. t) (λ y l. refl)
  each-moves S R b d moves (x ∷ xs) =
      made (moves x ⋆ each-moves S R b d moves xs) (λ y. y.one ∷ y.two) (λ y os vs t. t) (λ y l. let head = l.one in let rest = l.two in λ i. head i ∷ rest i)

  pub comma-moves : {X Y Z : Type 0} (S : X → Takes P) (R : Y → Takes Q) (b : X → Z) (d : Y → Z) → ((x : X) → Moves (S x) R (λ y. d y ≡ b x))
      → (x : X) → Moves {P = P} {Q = Q} {Y = Y} (a w.COMMA ▷ S x) (λ y. a w.COMMA ▷ R y) (λ y. d y ≡ b x)
  comma-moves S R b d moves x = made (a-moves w.COMMA ⋆ moves x) (λ y. y.two) (λ y os vs t. t) (λ y l. l.two)

  pub listed-moves : {X Y Z : Type 0} (S : X → Takes P) (R : Y → Takes Q) (b : X → Z) (d : Y → Z) → ((x : X) → Moves (S x) R (λ y. d y ≡ b x))
      → (xs : List X) → Moves {P = P} {Q = Q} {Y = List Y} (Listed S xs) (Listed R) (λ ys. map d ys ≡ map b xs)
  listed-moves S R b d moves [] = never-moves (λ ts us took. took)
  listed-moves S R b d moves (x ∷ xs) =
      made (moves x ⋆ each-moves (λ x. a w.COMMA ▷ S x) (λ y. a w.COMMA ▷ R y) b d (comma-moves S R b d moves) xs)
      (λ y. y.one ∷ y.two) (λ y os vs t. t) (λ y l. let head = l.one in let rest = l.two in λ i. head i ∷ rest i)

  pub some-listed-moves : {X Y Z : Type 0} (S : X → Takes P) (R : Y → Takes Q) (b : X → Z) (d : Y → Z) → ((x : X) → Moves (S x) R (λ y. d y ≡ b x))
      → (xs : List X) → Moves {P = P} {Q = Q} {Y = List Y} (SomeListed S xs) (SomeListed R) (λ ys. map d ys ≡ map b xs)
  some-listed-moves S R b d moves [] = made nothing-moves (λ y. []) (λ y os vs t. t) (λ y l. refl)
  some-listed-moves S R b d moves (x ∷ xs) =
      made (moves x ⋆ each-moves (λ x. a w.COMMA ▷ S x) (λ y. a w.COMMA ▷ R y) b d (comma-moves S R b d moves) xs)
      (λ y. y.one ∷ y.two) (λ y os vs t. t) (λ y l. let head = l.one in let rest = l.two in λ i. head i ∷ rest i)
