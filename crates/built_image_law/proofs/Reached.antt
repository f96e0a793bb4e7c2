-- What a process reaches does not depend on ranks, ceilings, blocks and bounds.
use Rattle.std.specs.Prelude.{◌≡◌, ◌+◌, ◌++◌, ℕ, zero, suc, Bool, not, ◌||◌, cond, List, [], ◌∷◌, Option, None, length, map, nat_eq, slice_get}
use Rattle.std.proofs.Common.{refl, sym, ap, ◌∙◌}
use Rattle.machine_semantics.specs.Image.{Image, Routine, Process}
use Rattle.valid_image.specs.Pieces.{Piece, pieces, piece_of_routine, piece_of_process, belongs, is_owner, closest, called_by, called_from, called, piece_number}
use Rattle.valid_image.specs.Tables.{Reach, table, tree_waits, some_of, bound_at, longer_stay, own_stay, longest_of, stays_at, reach_of, reach, stay_of_process}
use Rattle.built_image.specs.Filled.{without_rank, without_ranks}
use Rattle.built_image_law.proofs.Lists.{through}

table_same : {A B : Type 0} (f h : List B → A → B) → ((done : List B) (x : A) → f done x ≡ h done x) → (done : List B) (xs : List A) → table f done xs ≡ table h done xs
table_same f h same done [] = refl
table_same f h same done (x ∷ xs) = ap (λ y. table f (done ++ (y ∷ [])) xs) (same done x) ∙ table_same f h same (done ++ (h done x ∷ [])) xs

-- what a routine reaches, by the routines that it calls
abbrev reach_by : List Reach → Routine → List ℕ → Reach
reach_by done r calls = record {
  waits = tree_waits done r.tree;
  bound = not (nat_eq r.kind 0) || some_of (bound_at done) calls;
  stays = λ m. longer_stay (own_stay r m) (longest_of (stays_at done m) calls);
}

module _ (m : Image) where
  pieces_same : pieces (without_ranks m) ≡ pieces m
  pieces_same = ap (λ (ps : List Piece). map piece_of_routine m.routines ++ ps) (through without_rank piece_of_process piece_of_process (λ p. refl) m.processes)

  belongs_same : (k a : ℕ) → belongs (without_ranks m) k a ≡ belongs m k a
  belongs_same k a = ap (λ ps. is_owner k (closest ps 0 a None)) pieces_same

  from_same : (k n a : ℕ) → called_from (without_ranks m) k n a ≡ called_from m k n a
  from_same k zero a = refl
  from_same k (suc n) a =
      ap (λ b. cond b (called_by (slice_get m.code a)) [] ++ called_from (without_ranks m) k n (a + 1)) (belongs_same k a)
      ∙ ap (λ (cs : List ℕ). cond (belongs m k a) (called_by (slice_get m.code a)) [] ++ cs) (from_same k n (a + 1))

  called_same : (k : ℕ) → called (without_ranks m) k ≡ called m k
  called_same k = from_same k (length m.code) 0

  reach_same : reach (without_ranks m) ≡ reach m
  reach_same = table_same (reach_of (without_ranks m)) (reach_of m) (λ done r. ap (reach_by done r) (called_same (length done))) [] m.routines

  pub stay_same : (k j : ℕ) → stay_of_process (without_ranks m) k j ≡ stay_of_process m k j
  stay_same k j =
      ap (λ rows. longest_of (stays_at rows j) (called (without_ranks m) (piece_number m k))) reach_same
      ∙ ap (λ (cs : List ℕ). longest_of (stays_at (reach m) j) cs) (called_same (piece_number m k))

pub stays_agree : (n m : Image) → without_ranks n ≡ without_ranks m → (k j : ℕ) → stay_of_process n k j ≡ stay_of_process m k j
stays_agree n m same k j = sym (stay_same n k j) ∙ (ap (λ x. stay_of_process x k j) same ∙ stay_same m k j)
