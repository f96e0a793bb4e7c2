-- Of two rows of lines that a text begins with, one is the front of the other.
use Rattle.std.proofs.Common.{◌≡◌, ℕ, List, [], ◌∷◌, ◌++◌, map, Some, refl, ap, sym, ◌∙◌, ◌⊎◌, inl, inr, All, append_assoc}
use Rattle.std.proofs.lemmas.List.Elements.{All-head, All-tail}
use Rattle.text_fields.proofs.Cuts.{cut_once}
use Rattle.image.specs.declared.names.ImageNames.{ImageNames}
use Rattle.script.specs.declared.script.ScriptLine.{ScriptLine}
use Rattle.script.specs.Saying.{Said, end, IsInForm, spelled, text_of, Begins}
use Rattle.script.specs.Scripts.{meaning}
use Rattle.script.proofs.Readings.{said_lacks}
use Rattle.script.proofs.Once.{one_saying}

-- the first line of some bytes is one
pub begins_once : (bytes : List ℕ) (a b : Said) (r s : List ℕ) → Begins bytes a r → Begins bytes b s → (a ≡ b) × (r ≡ s)
begins_once bytes a b r s f g =
    let e : spelled a ++ 10 ∷ r ≡ spelled b ++ 10 ∷ s = sym f.text ∙ g.text in
    let cut = cut_once 10 (spelled a) r (spelled b) s (said_lacks a f.form) (said_lacks b g.form) e in
    (one_saying a b f.form g.form cut.0, cut.1)

pub begins_some : (bytes : List ℕ) (a : Said) (r : List ℕ) → Begins bytes a r → bytes ≡ [] → ⊥
begins_some bytes a r f e = nothing (spelled a) (sym e ∙ f.text)
  where
    nothing : (xs : List ℕ) → [] ≡ xs ++ 10 ∷ r → ⊥
    nothing [] q = cc
    nothing (x ∷ xs) q = cc

-- the longer one goes on behind the shorter
pub record Longer (a b : List Said) (r s : List ℕ) : Type 0 where
  pub more : List Said
  pub said : b ≡ a ++ more
  pub bytes : r ≡ text_of more ++ s

pub longer_of : (a b : List Said) (r s : List ℕ) → All IsInForm a → All IsInForm b → text_of a ++ r ≡ text_of b ++ s → Longer a b r s ⊎ Longer b a s r
longer_of [] b r s f g e = inl (record { more = b; said = refl; bytes = e })
longer_of (x ∷ a) [] r s f g e = inr (record { more = x ∷ a; said = refl; bytes = sym e })
longer_of (x ∷ a) (y ∷ b) r s f g e = at (longer_of a b r s (All-tail IsInForm x a f) (All-tail IsInForm y b g) rest)
  where
    in_x : IsInForm x
    in_x = All-head IsInForm x a f

    in_y : IsInForm y
    in_y = All-head IsInForm y b g

    shifted : (z : Said) (c : List Said) (t : List ℕ) → text_of (z ∷ c) ++ t ≡ spelled z ++ 10 ∷ (text_of c ++ t)
    shifted z c t = append_assoc (spelled z) (10 ∷ text_of c) t

    both : spelled x ++ 10 ∷ (text_of a ++ r) ≡ spelled y ++ 10 ∷ (text_of b ++ s)
    both = sym (shifted x a r) ∙ e ∙ shifted y b s

    cut : (spelled x ≡ spelled y) × (text_of a ++ r ≡ text_of b ++ s)
    cut = cut_once 10 (spelled x) (text_of a ++ r) (spelled y) (text_of b ++ s) (said_lacks x in_x) (said_lacks y in_y) both

    rest : text_of a ++ r ≡ text_of b ++ s
    rest = cut.1

    first : x ≡ y
    first = one_saying x y in_x in_y cut.0

    at : Longer a b r s ⊎ Longer b a s r → Longer (x ∷ a) (y ∷ b) r s ⊎ Longer (y ∷ b) (x ∷ a) s r
    at (inl l) = inl (record { more = l.more; said = ap (λ z. z ∷ b) (sym first) ∙ ap (λ t. x ∷ t) l.said; bytes = l.bytes })
    at (inr l) = inr (record { more = l.more; said = ap (λ z. z ∷ a) first ∙ ap (λ t. y ∷ t) l.said; bytes = l.bytes })

-- ---- what the lines mean

abbrev pub Means : ImageNames → List Said → List ScriptLine → Type 0
Means names said lines = map (meaning names) said ≡ map (λ line. Some line) lines

-- lines that mean something say no end
pub no_end : (names : ImageNames) (a c : List Said) (last : ℕ) (lines : List ScriptLine) → Means names (a ++ end last ∷ c) lines → ⊥
no_end names [] c last [] e = cc
no_end names [] c last (l ∷ lines) e = cc
no_end names (x ∷ a) c last [] e = cc
no_end names (x ∷ a) c last (l ∷ lines) e = no_end names a c last lines cc

pub means_once : (names : ImageNames) (said : List Said) (lines others : List ScriptLine) → Means names said lines → Means names said others → lines ≡ others
means_once names [] [] [] e f = refl
means_once names [] [] (m ∷ others) e f = cc
means_once names [] (l ∷ lines) others e f = cc
means_once names (x ∷ said) [] others e f = cc
means_once names (x ∷ said) (l ∷ lines) [] e f = cc
means_once names (x ∷ said) (l ∷ lines) (m ∷ others) e f =
    let first : l ≡ m = cc in
    let left : map (meaning names) said ≡ map (λ (k : ScriptLine). Some k) lines = cc in
    let right : map (meaning names) said ≡ map (λ (k : ScriptLine). Some k) others = cc in
    let rest : lines ≡ others = means_once names said lines others left right in
    cc

-- the line that follows a front of the lines, and what it means
pub record Follows (names : ImageNames) (x : Said) (front lines : List ScriptLine) : Type 0 where
  pub line : ScriptLine
  pub rest : List ScriptLine
  pub means : meaning names x ≡ Some line
  pub is : lines ≡ front ++ line ∷ rest

pub follows : (names : ImageNames) (a c : List Said) (x : Said) (front lines : List ScriptLine) → Means names a front → Means names (a ++ x ∷ c) lines → Follows names x front lines
follows names [] c x [] [] e f = cc
follows names [] c x [] (l ∷ lines) e f = record { line = l; rest = lines; means = cc; is = refl }
follows names [] c x (k ∷ front) lines e f = cc
follows names (y ∷ a) c x [] lines e f = cc
follows names (y ∷ a) c x (k ∷ front) [] e f = cc
follows names (y ∷ a) c x (k ∷ front) (l ∷ lines) e f =
    let first : l ≡ k = cc in
    let left : map (meaning names) a ≡ map (λ (k : ScriptLine). Some k) front = cc in
    let right : map (meaning names) (a ++ x ∷ c) ≡ map (λ (k : ScriptLine). Some k) lines = cc in
    let r = follows names a c x front lines left right in
    let rest : lines ≡ front ++ r.line ∷ r.rest = r.is in
    record { line = r.line; rest = r.rest; means = r.means; is = ap (λ k. k ∷ lines) first ∙ ap (λ t. k ∷ t) rest }
