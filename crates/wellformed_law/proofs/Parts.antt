-- Names are counted part by part: of the names that stand at a place, a tree has at most as many as the tokens that it takes.
use Rattle.std.proofs.Common.{◌≡◌, ◌≤◌, ℕ, zero, suc, ◌+◌, List, [], ◌∷◌, refl, ap, arith}
use Rattle.syntax_tree.specs.Plain.{Name}
use Rattle.syntax_tree.specs.declared.place.Place.{Place}
use Rattle.syntax.specs.Words.{Word, named, number, keyword, sign, Tok}
use Rattle.syntax.specs.ExprGrammar.{at, a, ◌▷◌, nothing, Deeper}
use Rattle.syntax_tree.specs.Parts.{same_place}
use Rattle.static_names.specs.Occurrences.{Occurrence}
use Rattle.static_names.specs.Rules.{place_of}
use Rattle.wellformed_law.proofs.WellformedNamesCounts.{one, standing}

-- ---- names among tokens

-- one where the word is a name, and its place is this one
abbrev pub weigh : Place → Word → Place → ℕ
weigh z (named n) p = one (same_place p z)
weigh z (number n) p = 0
weigh z (keyword n) p = 0
weigh z (sign n) p = 0

-- how many of the tokens are names that stand at the place
abbrev pub named_at : Place → List (Tok Place) → ℕ
named_at z [] = 0
named_at z (t ∷ ts) = weigh z t.word t.place + named_at z ts

-- ---- parts

-- the names that the part gives stand where its tokens do
pub record Keeps (z : Place) (R : List (Tok Place) → List (Tok Place) → Type 0) (f : List Occurrence → List Occurrence) : Type 0 where
  pub counts : (ts us : List (Tok Place)) (more : List Occurrence) → R ts us → standing z (f more) + named_at z us ≤ named_at z ts + standing z more

-- so many of the names among the part's tokens are not among those that it gives
pub record Owes (z : Place) (n : ℕ) (R : List (Tok Place) → List (Tok Place) → Type 0) (f : List Occurrence → List Occurrence) : Type 0 where
  pub counts : (ts us : List (Tok Place)) (more : List Occurrence) → R ts us → n + (standing z (f more) + named_at z us) ≤ named_at z ts + standing z more

infixr 5 ◌▸◌
pub ◌▸◌ : {z : Place} {R S : List (Tok Place) → List (Tok Place) → Type 0} {f g : List Occurrence → List Occurrence}
    → Keeps z R f → Keeps z S g → Keeps z (R ▷ S) (λ more. f (g more))
◌▸◌ {g = g} k h = record { counts = λ ts us more t. let x = k.counts ts t.0 (g more) t.1 in let y = h.counts t.0 us more t.2 in omega arith }

-- the one part owes
pub owe_first : {z : Place} {n : ℕ} {R S : List (Tok Place) → List (Tok Place) → Type 0} {f g : List Occurrence → List Occurrence}
    → Owes z n R f → Keeps z S g → Owes z n (R ▷ S) (λ more. f (g more))
owe_first {g = g} k h = record { counts = λ ts us more t. let x = k.counts ts t.0 (g more) t.1 in let y = h.counts t.0 us more t.2 in omega arith }

-- the other part owes
pub owe_next : {z : Place} {n : ℕ} {R S : List (Tok Place) → List (Tok Place) → Type 0} {f g : List Occurrence → List Occurrence}
    → Keeps z R f → Owes z n S g → Owes z n (R ▷ S) (λ more. f (g more))
owe_next {g = g} k h = record { counts = λ ts us more t. let x = k.counts ts t.0 (g more) t.1 in let y = h.counts t.0 us more t.2 in omega arith }

-- both parts owe
pub owe_both : {z : Place} {m n : ℕ} {R S : List (Tok Place) → List (Tok Place) → Type 0} {f g : List Occurrence → List Occurrence}
    → Owes z m R f → Owes z n S g → Owes z (m + n) (R ▷ S) (λ more. f (g more))
owe_both {g = g} k h = record { counts = λ ts us more t. let x = k.counts ts t.0 (g more) t.1 in let y = h.counts t.0 us more t.2 in omega arith }

-- what a part owes is given before it
pub settle : {z : Place} {R : List (Tok Place) → List (Tok Place) → Type 0} {f : List Occurrence → List Occurrence} (o : Occurrence)
    → Owes z (one (same_place (place_of o) z)) R f → Keeps z R (λ more. o ∷ f more)
settle o k = record { counts = λ ts us more t. let x = k.counts ts us more t in omega arith }

pub none : {z : Place} → Keeps z nothing (λ more. more)
none {z} = record { counts = λ ts us more t. let x = ap (named_at z) t in omega arith }

pub owe_none : {z : Place} → Owes z 0 nothing (λ more. more)
owe_none {z} = record { counts = λ ts us more t. let x = ap (named_at z) t in omega arith }

-- a word that gives no name, at a place that is told or not: a keyword, a sign, a number, or a name that begins a part
pub quiet_at : {z : Place} (word : Word) (p : Place) → Keeps z (at word p) (λ more. more)
quiet_at {z} word p = record { counts = λ ts us more t. let x = ap (named_at z) t in omega arith }

pub quiet : {z : Place} (word : Word) → Keeps z (a word) (λ more. more)
quiet {z} word = record { counts = λ ts us more t. let x = ap (named_at z) t.1 in omega arith }

-- a name that is given where it stands
pub name : {z : Place} (n : Name) (o : Occurrence) → Keeps z (at (named n) (place_of o)) (λ more. o ∷ more)
name {z} n o = record { counts = λ ts us more t. let x = ap (named_at z) t in omega arith }

-- a name that is given elsewhere
pub owed : {z : Place} (n : Name) (p : Place) → Owes z (one (same_place p z)) (at (named n) p) (λ more. more)
owed {z} n p = record { counts = λ ts us more t. let x = ap (named_at z) t in omega arith }

pub deeper : {z : Place} {R : ℕ → List (Tok Place) → List (Tok Place) → Type 0} {f : List Occurrence → List Occurrence} (depth : ℕ)
    → ((d : ℕ) → Keeps z (R d) f) → Keeps z (Deeper depth R) f
deeper zero k = record { counts = λ ts us more t. absurd t }
deeper (suc depth) k = k depth
