-- Of ready processes one is the first.
use Rattle.std.specs.Prelude.{◌≡◌, ℕ, suc, ◌+◌, ◌<◌, Bool, true, false, cond, ◌&&◌, ◌||◌, not, List, [], ◌∷◌, Some, length, nat_eq, nat_lt, slice_get}
use Rattle.std.proofs.Common.{refl, sym, ◌∙◌, ap, subst, arith, zero-add}
use Rattle.std.proofs.lemmas.Bool.Decides.{nat_tests}
use Rattle.std.proofs.lemmas.Option.{slice_get_within}
use Rattle.syntax_tree.specs.Plain.{Program}
use Rattle.source_semantics.specs.Config.{Config, Job, is_ready}
use Rattle.source_semantics.specs.Ranks.{active_rank, comes_before, is_inside}
use Rattle.source_semantics.specs.Source.{before, ready_from}
use Rattle.replay_reason_spec.specs.Reasons.{ActsNext}

-- by ranks a and b, and by who is inside a monitor
abbrev sooner : (a : ℕ) (x : Bool) (b : ℕ) (y : Bool) → Bool
sooner a x b y = nat_lt a b || (nat_eq a b && (x && not y))

never_itself : (a : ℕ) (x : Bool) → sooner a x a x ≡ false
never_itself a true = grind (arith, nat_tests)
never_itself a false = grind (arith, nat_tests)

-- what is not sooner than one is not sooner than what is sooner than that one
passes_on : (a : ℕ) (x : Bool) (b : ℕ) (y : Bool) (d : ℕ) (z : Bool) → sooner b y d z ≡ true → sooner a x d z ≡ false → sooner a x b y ≡ false
passes_on a true b true d true p q = grind (arith, nat_tests)
passes_on a true b true d false p q = grind (arith, nat_tests)
passes_on a true b false d true p q = grind (arith, nat_tests)
passes_on a true b false d false p q = grind (arith, nat_tests)
passes_on a false b true d true p q = grind (arith, nat_tests)
passes_on a false b true d false p q = grind (arith, nat_tests)
passes_on a false b false d true p q = grind (arith, nat_tests)
passes_on a false b false d false p q = grind (arith, nat_tests)

abbrev Each : (ℕ → Type 0) → List ℕ → Type 0
Each P [] = Unit {0}
Each P (k ∷ ks) = P k × Each P ks

module _ (g : Program) (c : Config) where
  not_itself : (k : ℕ) → comes_before g c k k ≡ false
  not_itself k = never_itself (active_rank g c k) (is_inside c k)

  not_before : (i j m : ℕ) → comes_before g c j m ≡ true → comes_before g c i m ≡ false → comes_before g c i j ≡ false
  not_before i j m = passes_on (active_rank g c i) (is_inside c i) (active_rank g c j) (is_inside c j) (active_rank g c m) (is_inside c m)

  -- one that is not taken before k is left out
  left_out : (k i : ℕ) (js : List ℕ) → comes_before g c i k ≡ false → before g c k js ≡ [] → before g c k (i ∷ js) ≡ []
  left_out k i js later rest = ap (λ b. cond b (i ∷ before g c k js) (before g c k js)) later ∙ rest

  record IsLeftOut (k i : ℕ) (js : List ℕ) : Type 0 where
    pub head : comes_before g c i k ≡ false
    pub rest : before g c k js ≡ []

  out_of : (k i : ℕ) (js : List ℕ) → before g c k (i ∷ js) ≡ [] → IsLeftOut k i js
  out_of k i js none = by_case (comes_before g c i k) refl none
    where
      by_case : (b : Bool) → comes_before g c i k ≡ b → cond b (i ∷ before g c k js) (before g c k js) ≡ [] → IsLeftOut k i js
      by_case true e h = absurd cc
      by_case false e h = record { head = e; rest = h }

  -- no process is taken before one that is taken before another before which none is
  none_before : (j m : ℕ) (js : List ℕ) → comes_before g c j m ≡ true → before g c m js ≡ [] → before g c j js ≡ []
  none_before j m [] sooner none = refl
  none_before j m (i ∷ js) sooner none =
      let out : IsLeftOut m i js = out_of m i js none in
      left_out j i js (not_before i j m sooner out.head) (none_before j m js sooner out.rest)

  record IsLeast (P : ℕ → Type 0) (js : List ℕ) : Type 0 where
    pub it : ℕ
    pub has : P it
    pub none : before g c it js ≡ []

  least : (P : ℕ → Type 0) (k : ℕ) (js : List ℕ) → Each P (k ∷ js) → IsLeast P (k ∷ js)
  least P k [] all = record { it = k; has = all.0; none = left_out k k [] (not_itself k) refl }
  least P k (j ∷ js) all = one_more (least P j js all.1)
    where
      by_case : (rest : IsLeast P (j ∷ js)) (b : Bool) → comes_before g c k rest.it ≡ b → IsLeast P (k ∷ j ∷ js)
      by_case rest true e = record { it = k; has = all.0; none = left_out k k (j ∷ js) (not_itself k) (none_before k rest.it (j ∷ js) e rest.none) }
      by_case rest false e = record { it = rest.it; has = rest.has; none = left_out rest.it k (j ∷ js) e rest.none }

      one_more : IsLeast P (j ∷ js) → IsLeast P (k ∷ j ∷ js)
      one_more rest = by_case rest (comes_before g c k rest.it) refl

  record IsAtWork (k : ℕ) : Type 0 where
    pub job : Job
    pub state : slice_get c.jobs k ≡ Some job
    pub ready : is_ready job.doing ≡ true

  all_at_work : (k : ℕ) (js : List Job) → ((i : ℕ) → slice_get js i ≡ slice_get c.jobs (k + i)) → Each IsAtWork (ready_from k js)
  all_at_work k [] same = tt
  all_at_work k (j ∷ js) same =
      by_case (all_at_work (suc k) js (λ i. let next : k + suc i ≡ suc k + i = omega arith in same (suc i) ∙ ap (slice_get c.jobs) next)) (is_ready j.doing) refl
    where
      here : slice_get c.jobs k ≡ Some j
      here = let at : k ≡ k + 0 = omega arith in ap (slice_get c.jobs) at ∙ sym (same 0)

      by_case : Each IsAtWork (ready_from (suc k) js) → (b : Bool) → is_ready j.doing ≡ b → Each IsAtWork (cond b (k ∷ ready_from (suc k) js) (ready_from (suc k) js))
      by_case more true e = (record { job = j; state = here; ready = e }, more)
      by_case more false e = more

  -- where none acts next, none is ready
  pub none_ready : ((k : ℕ) → k < length c.jobs → ActsNext g c k → ⊥) → ready_from 0 c.jobs ≡ []
  none_ready none = by_case (ready_from 0 c.jobs) refl
    where
      all : Each IsAtWork (ready_from 0 c.jobs)
      all = all_at_work 0 c.jobs (λ i. ap (slice_get c.jobs) (sym (zero-add i)))

      by_case : (l : List ℕ) → ready_from 0 c.jobs ≡ l → l ≡ []
      by_case [] e = refl
      by_case (k ∷ ks) e =
          let some : IsLeast IsAtWork (k ∷ ks) = least IsAtWork k ks (subst (Each IsAtWork) e all) in
          let it : ActsNext g c some.it = record { job = some.has.job; state = some.has.state; ready = some.has.ready; first = ap (before g c some.it) e ∙ some.none } in
          absurd (none some.it (slice_get_within c.jobs some.it some.has.job some.has.state) it)
