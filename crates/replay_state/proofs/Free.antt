-- Where nobody is inside a monitor, ranks alone tell which process is taken before another.
use Rattle.std.specs.Prelude.{◌≡◌, ◌+◌, ◌&&◌, ◌||◌, ℕ, Bool, true, false, cond, not, List, [], ◌∷◌, Option, Some, None, is_some, length, nat_eq, nat_lt, position}
use Rattle.std.specs.List.{prefix_len}
use Rattle.std.proofs.Common.{refl, sym, ◌∙◌, ap, arith}
use Rattle.std.proofs.lemmas.Bool.Decides.{nat_tests}
use Rattle.syntax_tree.specs.Plain.{Program}
use Rattle.source_semantics.specs.Config.{Config, Hold, inside, is_process}
use Rattle.source_semantics.specs.Ranks.{comes_before, rank, rank_inside}
use Rattle.replay_state.specs.Tables.{are_free}

-- how many monitors stand before the first that the process is inside
abbrev outside : ℕ → List Hold → ℕ
outside k hs = prefix_len (λ h. not (is_process k h.occupant)) hs

all_outside : (k : ℕ) (hs : List Hold) → are_free hs ≡ true → outside k hs ≡ length hs
all_outside k [] free = refl
all_outside k (h ∷ hs) free = by_occupant h.occupant refl (all_outside k hs)
  where
    by_occupant : (o : Option ℕ) → h.occupant ≡ o → (are_free hs ≡ true → outside k hs ≡ length hs) → outside k (h ∷ hs) ≡ length (h ∷ hs)
    by_occupant None e others =
        let rest : are_free hs ≡ true = sym (ap (λ o. not (is_some o) && are_free hs) e) ∙ free in
        let one : 1 + length hs ≡ length (h ∷ hs) = omega arith in
        ap (λ o. cond (not (is_process k o)) (1 + outside k hs) 0) e ∙ (ap (λ n. 1 + n) (others rest) ∙ one)
    by_occupant (Some i) e others = let is : false ≡ true = sym (ap (λ o. not (is_some o) && are_free hs) e) ∙ free in absurd cc

less_same : (n : ℕ) → nat_lt n n ≡ false
less_same n = by_case (nat_lt n n) refl
  where
    by_case : (b : Bool) → nat_lt n n ≡ b → nat_lt n n ≡ false
    by_case false e = e
    by_case true e = grind (arith, nat_tests)

nobody_inside : (c : Config) (k : ℕ) → are_free c.holds ≡ true → inside c k ≡ None
nobody_inside c k free =
    ap (λ n. cond (nat_lt n (length c.holds)) (Some n) None) (all_outside k c.holds free)
    ∙ ap (λ b. cond b (Some (length c.holds)) None) (less_same (length c.holds))

no_more : (b d : Bool) → (b || (d && false)) ≡ b
no_more true d = refl
no_more false true = refl
no_more false false = refl

pub by_rank_alone : (g : Program) (c : Config) (j k : ℕ) → are_free c.holds ≡ true → comes_before g c j k ≡ nat_lt (rank g j) (rank g k)
by_rank_alone g c j k free =
    ap (λ o. nat_lt (rank_inside g j o) (rank_inside g k (inside c k)) || (nat_eq (rank_inside g j o) (rank_inside g k (inside c k)) && (is_some o && not (is_some (inside c k))))) (nobody_inside c j free)
    ∙ (ap (λ o. nat_lt (rank g j) (rank_inside g k o) || (nat_eq (rank g j) (rank_inside g k o) && false)) (nobody_inside c k free)
    ∙ no_more (nat_lt (rank g j) (rank g k)) (nat_eq (rank g j) (rank g k)))
