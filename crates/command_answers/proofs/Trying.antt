-- Names tried one after the other.
use Rattle.std.proofs.Common.{◌≡◌, ◌≢◌, ◌++◌, ◌∷◌, ◌∙◌, ◌<◌, ℕ, zero, suc, List, [], inl, inr, refl, sym, ap, arith, append_assoc}
use Rattle.std.specs.Prelude.{take}
use Rattle.std.proofs.lemmas.List.{append-nil}
use Rattle.outside.specs.Outside.{IsAdded, IsAddedAtMost}
use Rattle.command_answers.specs.declared.prepare_error.PrepareError.{PrepareError}
use Rattle.command_answers.specs.declared.prepare_error.PrepareError.TheVariants as unready
use Rattle.command_answers.specs.Tried.{HasTried, MayHaveTried, error_status}

-- the first one, and then no other
pub tried_first : (a : List ℕ) (names before now : List (List ℕ)) (status : ℕ) → IsAdded before now a → status ≢ 0 → HasTried (a ∷ names) before now status
tried_first a names before now status added other = record { count = 1; is = added; all = λ none. absurd (other none); some = λ _. omega arith }

-- the only one
pub tried_last : (a : List ℕ) (before now : List (List ℕ)) (status : ℕ) → IsAdded before now a → HasTried (a ∷ []) before now status
tried_last a before now status added = record { count = 1; is = added; all = λ _. added; some = λ _. omega arith }

-- memory was wanting
pub tried_at_most : (a : List ℕ) (names before now : List (List ℕ)) → IsAddedAtMost before now a → HasTried (a ∷ names) before now 8
tried_at_most a names before now (inl added) = tried_first a names before now 8 added (λ none. absurd cc)
tried_at_most a names before now (inr same) = record { count = 0; is = same ∙ sym (append-nil before); all = λ none. absurd cc; some = λ other. absurd (other refl) }

-- the first one, and then as many of the others
pub tried_on : (a : List ℕ) (names before mid now : List (List ℕ)) (status : ℕ) → IsAdded before mid a → HasTried names mid now status → HasTried (a ∷ names) before now status
tried_on a names before mid now status added h =
    let joined : (more : List (List ℕ)) → now ≡ mid ++ more → now ≡ before ++ a ∷ more = λ more is. is ∙ ap (λ l. l ++ more) added ∙ append_assoc before (a ∷ []) more in
    record {
      count = suc h.count;
      is = joined (take h.count names) h.is;
      all = λ none. joined names (h.all none);
      some = λ _. omega arith;
    }

-- the first one, and then the others or none
pub tried_perhaps : (a : List ℕ) (names before mid now : List (List ℕ)) (status : ℕ) → IsAdded before mid a → MayHaveTried names mid now status → HasTried (a ∷ names) before now status
tried_perhaps a names before mid now status added (inl none) = tried_first a names before now status (none.0 ∙ added) none.1
tried_perhaps a names before mid now status added (inr more) = tried_on a names before mid now status added more

not_done : (why : PrepareError) → error_status why ≢ 0
not_done (unready.Unread name) = λ e. absurd cc
not_done (unready.Memory _) = λ e. absurd cc

none_more : (a : List ℕ) (n : ℕ) (names : List (List ℕ)) → a ∷ take n [] ≡ a ∷ take 0 names
none_more a zero names = refl
none_more a (suc n) names = refl

alone : (a : List ℕ) (names before now : List (List ℕ)) (why : PrepareError) (count : ℕ) → now ≡ before ++ take count (a ∷ []) → (error_status why ≢ 8 → 0 < count) → HasTried (a ∷ names) before now (error_status why)
alone a names before now why zero is some = record { count = 0; is = is; all = λ none. absurd (not_done why none); some = some }
alone a names before now why (suc n) is some =
    tried_first a names before now (error_status why) (is ∙ ap (λ l. before ++ l) (none_more a n names)) (not_done why)

-- what failed at the first one tried no other
pub tried_alone : (a : List ℕ) (names before now : List (List ℕ)) (why : PrepareError) → HasTried (a ∷ []) before now (error_status why) → HasTried (a ∷ names) before now (error_status why)
tried_alone a names before now why h = alone a names before now why h.count h.is h.some
