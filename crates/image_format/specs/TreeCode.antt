-- A segment tree as a list of numbers that gives it back: the code by which proofs tell trees
-- apart.
use Rattle.std.specs.Prelude.{◌≡◌, ℕ, zero, suc, List, [], ◌∷◌}
use Rattle.std.specs.Coded.{Coded, code_by, coded×, coded_ℕ, coded_list}
use Rattle.std.proofs.Common.{refl, ap, ◌∙◌}
use Rattle.machine_semantics.specs.Trees.{Seg, Segs, Line, Fork, Rep, Call, Stay, Wait, Exit, Nil, Cons}

-- a kind, and a number
abbrev pub Token : Type 0
Token = ℕ × ℕ

-- the tokens of a tree, before those of what stands behind it
abbrev mutual
  pub tokens : Segs → List Token → List Token
  tokens Nil rest = (0, 0) ∷ rest
  tokens (Cons head tail) rest = tokens_of head (tokens tail rest)

  pub tokens_of : Seg → List Token → List Token
  tokens_of (Line count) rest = (1, count) ∷ rest
  tokens_of (Fork first second) rest = (2, 0) ∷ tokens first (tokens second rest)
  tokens_of (Rep turns body) rest = (3, turns) ∷ tokens body rest
  tokens_of (Call routine) rest = (4, routine) ∷ rest
  tokens_of (Stay monitor body) rest = (5, monitor) ∷ tokens body rest
  tokens_of Wait rest = (6, 0) ∷ rest
  tokens_of Exit rest = (7, 0) ∷ rest

-- a segment before the first of some trees
abbrev pub onto : Seg → List Segs → List Segs
onto s [] = []
onto s (tree ∷ trees) = Cons s tree ∷ trees

abbrev pub forked : List Segs → List Segs
forked (first ∷ second ∷ trees) = onto (Fork first second) trees
forked trees = []

abbrev pub within : (Segs → Seg) → List Segs → List Segs
within f [] = []
within f (body ∷ trees) = onto (f body) trees

-- the trees with one more token before them
abbrev pub with_token : Token → List Segs → List Segs
with_token (zero, n) trees = Nil ∷ trees
with_token (suc zero, n) trees = onto (Line n) trees
with_token (suc (suc zero), n) trees = forked trees
with_token (suc (suc (suc zero)), n) trees = within (Rep n) trees
with_token (suc (suc (suc (suc zero))), n) trees = onto (Call n) trees
with_token (suc (suc (suc (suc (suc zero)))), n) trees = within (Stay n) trees
with_token (suc (suc (suc (suc (suc (suc zero))))), n) trees = onto Wait trees
with_token (k, n) trees = onto Exit trees

abbrev pub trees_of : List Token → List Segs
trees_of [] = []
trees_of (t ∷ ts) = with_token t (trees_of ts)

abbrev pub first_tree : List Segs → Segs
first_tree [] = Nil
first_tree (tree ∷ trees) = tree

mutual
  pub trees_of-tokens : (tree : Segs) (rest : List Token) → trees_of (tokens tree rest) ≡ tree ∷ trees_of rest
  trees_of-tokens Nil rest = refl
  trees_of-tokens (Cons head tail) rest = trees_of-tokens_of head (tokens tail rest) ∙ ap (onto head) (trees_of-tokens tail rest)

  pub trees_of-tokens_of : (s : Seg) (rest : List Token) → trees_of (tokens_of s rest) ≡ onto s (trees_of rest)
  trees_of-tokens_of (Line count) rest = refl
  trees_of-tokens_of (Fork first second) rest = ap forked (trees_of-tokens first (tokens second rest) ∙ ap (λ trees. first ∷ trees) (trees_of-tokens second rest))
  trees_of-tokens_of (Rep turns body) rest = ap (within (Rep turns)) (trees_of-tokens body rest)
  trees_of-tokens_of (Call routine) rest = refl
  trees_of-tokens_of (Stay monitor body) rest = ap (within (Stay monitor)) (trees_of-tokens body rest)
  trees_of-tokens_of Wait rest = refl
  trees_of-tokens_of Exit rest = refl

abbrev pub coded_segs : Coded Segs
coded_segs = code_by (List Token) (coded_list (coded× coded_ℕ coded_ℕ)) (λ tree. tokens tree []) (λ ts. first_tree (trees_of ts)) (λ tree. ap first_tree (trees_of-tokens tree []))
