-- What a visit leaves: each text once, behind all that it calls.
use Rattle.std.specs.Prelude.{◌≡◌, ◌<◌, ◌≤◌, ◌⊎◌, ◌||◌, ℕ, zero, suc, Bool, true, false, cond, List, [], ◌∷◌, ◌++◌, Option, Some, None, slice_get, length, count_by, Contains}
use Rattle.std.proofs.Common.{inl, inr, refl, sym, ◌∙◌, ap, subst, arith, length-append}
use Rattle.std.proofs.lemmas.Bool.{false≢true}
use Rattle.base.proofs.Members.{at_front, behind, front_or_behind, none_in}
use Rattle.syntax_tree.specs.Plain.{Program}
use Rattle.code_spec.specs.Numbering.{Text, same_text, Called, called_text, routine_calls, is_among, place_among, visit_some, visit_all, visit, visit_texts}
use Rattle.codegen_law.specs.Kept.{NamesDiffer}
use Rattle.codegen_law.proofs.NameNumbers.{IsText, AllTexts, called_is_text, text_is, among_front, among_back, visit_all_keeps, visit_keeps}
use Rattle.codegen_law.proofs.Rows.{text_same}
use Rattle.codegen_law.specs.Numbered.{texts, CallsText}
use Rattle.codegen_law.proofs.NameLists.{among_at, place_front, place_below, place_last, snoc_cases, among_snoc, count_lt}

-- each text stands once, behind all that it calls, and there are no more than texts of the program
pub record Good (g : Program) (done : List Text) : Type 0 where
  pub once : (k : ℕ) (t : Text) → slice_get done k ≡ Some t → place_among t done ≡ k
  pub behind : (k : ℕ) (t u : Text) → slice_get done k ≡ Some t → CallsText g t u → (is_among u done ≡ true) × (place_among u done < k)
  pub few : length done ≤ count_by (λ u. is_among u done) (texts g)

pub nothing_done : (g : Program) → Good g []
nothing_done g = record {
  once = λ k t e. absurd (none t e);
  behind = λ k t u e. absurd (none t e);
  few = omega arith;
}
  where
    none : (t : Text) → None ≡ Some t → ⊥
    none t e = cc

-- what stands there once all that a text calls is visited
abbrev with_called : ℕ → Program → List Text → Text → List Text
with_called n g done t = visit_all (visit n g) (called_text g t.owner) done (routine_calls t.routine)

-- one that is not there, behind all that it calls
one_more : (g : Program) (done : List Text) (t : Text) → Good g done → Contains (texts g) t → is_among t done ≡ false → ((u : Text) → CallsText g t u → is_among u done ≡ true) → Good g (done ++ t ∷ [])
one_more g done t good listed new calls = record {
  once = λ k v e. once k v (snoc_cases done t v k e);
  behind = λ k v u e called. behind k v u (snoc_cases done t v k e) called;
  few =
      let more = count_lt (λ u. is_among u done) (λ u. is_among u (done ++ t ∷ [])) (λ u h. among_front u done (t ∷ []) h) (texts g) t listed new (among_back t done (t ∷ []) (ap (λ b. b || false) (text_is t))) in
      let le = good.few in
      let len = length-append done (t ∷ []) in
      omega arith;
}
  where
    once : (k : ℕ) (v : Text) → (slice_get done k ≡ Some v) ⊎ ((k ≡ length done) × (t ≡ v)) → place_among v (done ++ t ∷ []) ≡ k
    once k v (inl h) = place_front v done (t ∷ []) (among_at done k v h) ∙ good.once k v h
    once k v (inr h) = subst (λ w. place_among w (done ++ t ∷ []) ≡ k) h.1 (place_last t done new ∙ sym h.0)

    there : (u : Text) (k : ℕ) → (is_among u done ≡ true) × (place_among u done < k) → (is_among u (done ++ t ∷ []) ≡ true) × (place_among u (done ++ t ∷ []) < k)
    there u k h = (among_front u done (t ∷ []) h.0, subst (λ n. n < k) (sym (place_front u done (t ∷ []) h.0)) h.1)

    behind : (k : ℕ) (v u : Text) → (slice_get done k ≡ Some v) ⊎ ((k ≡ length done) × (t ≡ v)) → CallsText g v u → (is_among u (done ++ t ∷ []) ≡ true) × (place_among u (done ++ t ∷ []) < k)
    behind k v u (inl h) called = there u k (good.behind k v u h called)
    behind k v u (inr h) called =
        let a : is_among u done ≡ true = calls u (subst (λ w. CallsText g w u) (sym h.1) called) in
        there u k (a, subst (λ n. place_among u done < n) (sym h.0) (place_below u done a))

module _ (g : Program) (differ : NamesDiffer g) (level : Text → ℕ) (listed : (t : Text) → IsText g t → Contains (texts g) t) (falls : (t u : Text) → IsText g t → CallsText g t u → level u < level t) where
  -- what a visit of a text leaves, with whom it adds
  pub record Visited (done : List Text) (t : Text) (after : List Text) : Type 0 where
    pub good : Good g after
    pub here : is_among t after ≡ true
    pub added : (u : Text) → IsText g u → is_among u after ≡ true → (is_among u done ≡ true) ⊎ (level u ≤ level t)

  -- and a visit of all that is called, below a level
  record AllVisited (done : List Text) (n : ℕ) (means : Called → Option Text) (cs : List Called) (after : List Text) : Type 0 where
    good : Good g after
    here : (c : Called) (u : Text) → Contains cs c → means c ≡ Some u → is_among u after ≡ true
    added : (u : Text) → IsText g u → is_among u after ≡ true → (is_among u done ≡ true) ⊎ (level u < n)

  all_visited : (v : List Text → Text → List Text) (means : Called → Option Text) (n : ℕ)
      → ((done : List Text) (t u : Text) → is_among u done ≡ true → is_among u (v done t) ≡ true)
      → ((done : List Text) (t : Text) → Good g done → IsText g t → level t < n → Visited done t (v done t))
      → (done : List Text) (cs : List Called) → ((c : Called) (u : Text) → Contains cs c → means c ≡ Some u → IsText g u × (level u < n)) → Good g done
      → AllVisited done n means cs (visit_all v means done cs)
  all_visited v means n keeps visits done [] low good = record {
    good = good;
    here = λ c u h. absurd (none_in c h);
    added = λ u is h. inl h;
  }
  all_visited v means n keeps visits done (c ∷ cs) low good = by (means c) refl (λ next h. all_visited v means n keeps visits next cs (λ k u i. low k u (behind c cs k i)) h)
    where
      by : (x : Option Text) → means c ≡ x → ((next : List Text) → Good g next → AllVisited next n means cs (visit_all v means next cs)) → AllVisited done n means (c ∷ cs) (visit_all v means (visit_some v done x) cs)
      by None is rest =
          let r = rest done good in
          record {
            good = r.good;
            here = λ k u i e. here k u (front_or_behind c cs k i) e r;
            added = r.added;
          }
        where
          here : (k : Called) (u : Text) → (c ≡ k) ⊎ Contains cs k → means k ≡ Some u → AllVisited done n means cs (visit_all v means done cs) → is_among u (visit_all v means done cs) ≡ true
          here k u (inl same) e r = absurd (none u (sym is ∙ (ap means same ∙ e)))
            where
              none : (t : Text) → None ≡ Some t → ⊥
              none t e = cc
          here k u (inr i) e r = r.here k u i e
      by (Some t) is rest =
          let k = low c t (at_front c cs) is in
          let first = visits done t good k.0 k.1 in
          let r = rest (v done t) first.good in
          record {
            good = r.good;
            here = λ k u i e. here k u (front_or_behind c cs k i) e first r;
            added = λ u text h. added u text (r.added u text h) first k.1;
          }
        where
          here : (k : Called) (u : Text) → (c ≡ k) ⊎ Contains cs k → means k ≡ Some u → Visited done t (v done t) → AllVisited (v done t) n means cs (visit_all v means (v done t) cs) → is_among u (visit_all v means (v done t) cs) ≡ true
          here k u (inl same) e first r =
              visit_all_keeps v means u (λ d w h. keeps d w u h) (v done t) cs (subst (λ w. is_among w (v done t) ≡ true) (one t u (sym is ∙ (ap means same ∙ e))) first.here)
            where
              one : (a b : Text) → Some a ≡ Some b → a ≡ b
              one a b e = cc
          here k u (inr i) e first r = r.here k u i e

          added : (u : Text) → IsText g u → (is_among u (v done t) ≡ true) ⊎ (level u < n) → Visited done t (v done t) → level t < n → (is_among u done ≡ true) ⊎ (level u < n)
          added u text (inr h) first lt = inr h
          added u text (inl h) first lt = by_first (first.added u text h) lt
            where
              by_first : (is_among u done ≡ true) ⊎ (level u ≤ level t) → level t < n → (is_among u done ≡ true) ⊎ (level u < n)
              by_first (inl h) lt = inl h
              by_first (inr h) lt = inr (omega arith)

  pub visited : (n : ℕ) (done : List Text) (t : Text) → Good g done → IsText g t → level t < n → Visited done t (visit n g done t)
  unfolding visit
  visited zero done t good text lt = absurd (omega arith)
  visited (suc n) done t good text lt =
      by (is_among t done) refl
      (all_visited (visit n g) (called_text g t.owner) (level t) (λ d u w h. visit_keeps n g d u w h)
      (λ d u h is low. visited n d u h is (omega arith)) done (routine_calls t.routine)
      (λ c u i e. (called_is_text g differ t.owner c u e, falls t u text (record { call = c; listed = i; means = e }))) good)
    where
      by : (b : Bool) → is_among t done ≡ b → AllVisited done (level t) (called_text g t.owner) (routine_calls t.routine) (with_called n g done t) → Visited done t (cond b done ((with_called n g done t) ++ t ∷ []))
      by true is a = record { good = good; here = is; added = λ u text h. inl h }
      by false is all_done =
          record {
            good = one_more g (with_called n g done t) t all_done.good (listed t text) (new (is_among t (with_called n g done t)) refl is (all_done.added t text)) (λ u called. all_done.here called.call u called.listed called.means);
            here = among_back t (with_called n g done t) (t ∷ []) (ap (λ b. b || false) (text_is t));
            added = λ u is_text h. added u is_text (among_snoc (with_called n g done t) t u h) (all_done.added u is_text);
          }
        where
          new : (b : Bool) → is_among t (with_called n g done t) ≡ b → is_among t done ≡ false → (is_among t (with_called n g done t) ≡ true → (is_among t done ≡ true) ⊎ (level t < level t)) → is_among t (with_called n g done t) ≡ false
          new false e out h = e
          new true e out h = absurd (by_either (h e))
            where
              by_either : (is_among t done ≡ true) ⊎ (level t < level t) → ⊥
              by_either (inl k) = false≢true (sym out ∙ k)
              by_either (inr k) = omega arith

          added : (u : Text) → IsText g u → (is_among u (with_called n g done t) ≡ true) ⊎ (same_text t u ≡ true) → (is_among u (with_called n g done t) ≡ true → (is_among u done ≡ true) ⊎ (level u < level t)) → (is_among u done ≡ true) ⊎ (level u ≤ level t)
          added u is_text (inl h) k = by_either (k h)
            where
              by_either : (is_among u done ≡ true) ⊎ (level u < level t) → (is_among u done ≡ true) ⊎ (level u ≤ level t)
              by_either (inl k) = inl k
              by_either (inr k) = inr (omega arith)
          added u is_text (inr h) k = inr (subst (λ w. level w ≤ level t) (text_same g t u text is_text h) (self (level t)))
            where
              self : (n : ℕ) → n ≤ n
              self n = omega arith

  pub all_good : (n : ℕ) (done ts : List Text) → Good g done → AllTexts g ts → ((t : Text) → IsText g t → level t < n) → Good g (visit_texts n g done ts)
  all_good n done [] good text few = good
  all_good n done (t ∷ ts) good text few = let v = visited n done t good text.0 (few t text.0) in all_good n (visit n g done t) ts v.good text.1 few
