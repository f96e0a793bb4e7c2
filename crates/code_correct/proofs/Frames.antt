-- A new frame holds the arguments and fresh variables.
use Rattle.std.specs.Prelude.{◌≡◌, ◌+◌, ◌<◌, ℕ, zero, suc, false, List, [], ◌∷◌, ◌++◌, Some, ℤ, pos, length, slice_get, map, replicate}
use Rattle.std.proofs.Common.{refl, sym, ◌∙◌, ap, subst, arith, length-append}
use Rattle.std.proofs.lemmas.Bool.{both_ways}
use Rattle.syntax_tree.specs.Plain.{Param, Kind, scalar, array as array_of, Var, Routine, Program}
use Rattle.source_semantics.specs.Store.{Vars, fresh, fresh_held}
use Rattle.source_semantics.specs.Run.{own_vars}
use Rattle.machine_semantics.specs.State.{zeros, Operand, Value}
use Rattle.machine_semantics.specs.Effect as table
use Rattle.code_spec.specs.Layout.{single, size_of, shape_of, Place, places_from, param_places, words_of, count, loops, routine_places}
use Rattle.code_spec.specs.Numbering.{Text}
use Rattle.code_spec.specs.Compiled.{routine_scope}
use Rattle.code_spec.specs.Memory.{HoldsHeld, Holds, KeptAll, FitsFrame}
use Rattle.code_correct.specs.Known.{HoldValues, pushed}

-- ---- words one after another

get_front : (xs ys : List ℤ) (k : ℕ) (v : ℤ) → slice_get xs k ≡ Some v → slice_get (xs ++ ys) k ≡ Some v
get_front [] ys k v e = absurd cc
get_front (x ∷ xs) ys zero v e = e
get_front (x ∷ xs) ys (suc k) v e = get_front xs ys k v e

get_behind : (xs ys : List ℤ) (k : ℕ) → slice_get (xs ++ ys) (length xs + k) ≡ slice_get ys k
get_behind [] ys k = ap (λ n. slice_get ys n) (none k)
  where
    none : (k : ℕ) → 0 + k ≡ k
    none k = omega arith
get_behind (x ∷ xs) ys k = ap (λ n. slice_get (x ∷ (xs ++ ys)) n) (one_more (length xs) k) ∙ get_behind xs ys k
  where
    one_more : (n k : ℕ) → suc n + k ≡ suc (n + k)
    one_more n k = omega arith

get_zero : (n k : ℕ) → k < n → slice_get (zeros n) k ≡ Some (pos 0)
get_zero zero k lt = absurd (omega arith)
get_zero (suc n) zero lt = refl
get_zero (suc n) (suc k) lt = get_zero n k (omega arith)

length_zeros : (n : ℕ) → length (zeros n) ≡ n
length_zeros zero = refl
length_zeros (suc n) = ap (λ k. suc k) (length_zeros n)

get_replicate : (n k : ℕ) → k < n → slice_get (replicate n (pos 0)) k ≡ Some (pos 0)
get_replicate zero k lt = absurd (omega arith)
get_replicate (suc n) zero lt = refl
get_replicate (suc n) (suc k) lt = get_replicate n k (omega arith)

length_replicate : (n : ℕ) → length (replicate n (pos 0)) ≡ n
length_replicate zero = refl
length_replicate (suc n) = ap (λ k. suc k) (length_replicate n)

-- ---- variables as they start

abbrev pub anywhere : ℕ → Type 0
anywhere k = Unit {0}

-- the words from one on, so many, are 0
abbrev pub AreZeros : List ℤ → ℕ → ℕ → Type 0
AreZeros ws w n = (k : ℕ) → k < n → slice_get ws (w + k) ≡ Some (pos 0)

fresh_holds : (g : Program) (ws : List ℤ) (w : ℕ) (k : Kind) → AreZeros ws w (size_of (shape_of g k)) → HoldsHeld anywhere ws w (shape_of g k) (fresh_held g k)
fresh_holds g ws w (scalar s) z = record { holds = subst (λ n. slice_get ws n ≡ Some (pos 0)) (none w) (z 0 (omega arith)); open_to = tt }
  where
    none : (n : ℕ) → n + 0 ≡ n
    none n = omega arith
fresh_holds g ws w (array_of low high s) z = (refl, length_replicate _, λ k lt. (pos 0, get_replicate _ k lt, record { holds = z k lt; open_to = tt }))

pub vars_hold : (g : Program) (ws : List ℤ) (w : ℕ) (vs : List Var) → AreZeros ws w (words_of g vs) → Holds anywhere ws (places_from g w vs) (map (fresh g) vs)
vars_hold g ws w [] z = tt
vars_hold g ws w (v ∷ vs) z = (
  record { name = refl; range = refl; held = fresh_holds g ws w v.kind (λ k lt. z k (omega arith)) },
  vars_hold g ws (w + size_of (shape_of g v.kind)) vs (λ k lt. subst (λ n. slice_get ws n ≡ Some (pos 0)) (further w (size_of (shape_of g v.kind)) k) (z (size_of (shape_of g v.kind) + k) (omega arith))),
)
  where
    further : (a b k : ℕ) → a + (b + k) ≡ a + b + k
    further a b k = omega arith

params_hold : (g : Program) (ws : List ℤ) (w : ℕ) (ps : List Param) (values : List ℤ) (vs : Vars) → HoldValues g ps values vs → ((k : ℕ) (v : ℤ) → slice_get values k ≡ Some v → slice_get ws (w + k) ≡ Some v)
    → Holds anywhere ws (param_places g w ps) vs
params_hold g ws w [] [] [] h z = tt
params_hold g ws w (p ∷ ps) (v ∷ values) (s ∷ vs) h z = (
  record {
    name = ap (λ t. t.name) h.0;
    range = ap (λ t. t.range) h.0;
    held = subst (λ t. HoldsHeld anywhere ws w single t.held) (sym h.0) (record { holds = subst (λ n. slice_get ws n ≡ Some v) (none w) (z 0 v refl); open_to = tt });
  },
  params_hold g ws (suc w) ps values vs h.1 (λ k u is. subst (λ n. slice_get ws n ≡ Some u) (further w k) (z (suc k) u is)),
)
  where
    none : (n : ℕ) → n + 0 ≡ n
    none n = omega arith

    further : (n k : ℕ) → n + suc k ≡ suc n + k
    further n k = omega arith
params_hold g ws w [] [] (s ∷ vs) h z = absurd h
params_hold g ws w [] (v ∷ values) vs h z = absurd h
params_hold g ws w (p ∷ ps) [] vs h z = absurd h
params_hold g ws w (p ∷ ps) (v ∷ values) [] h z = absurd h

holds_both : (ws : List ℤ) (ps qs : List Place) (vs us : Vars) → Holds anywhere ws ps vs → Holds anywhere ws qs us → Holds anywhere ws (ps ++ qs) (vs ++ us)
holds_both ws [] qs [] us h k = k
holds_both ws [] qs (s ∷ vs) us h k = absurd h
holds_both ws (p ∷ ps) qs [] us h k = absurd h
holds_both ws (p ∷ ps) qs (s ∷ vs) us h k = (h.0, holds_both ws ps qs vs us h.1 k)

pub values_count : (g : Program) (ps : List Param) (values : List ℤ) (vs : Vars) → HoldValues g ps values vs → length values ≡ count ps
values_count g [] [] [] h = refl
values_count g (p ∷ ps) (v ∷ values) (s ∷ vs) h = ap (λ k. suc k) (values_count g ps values vs h.1)
values_count g [] [] (s ∷ vs) h = absurd h
values_count g [] (v ∷ values) vs h = absurd h
values_count g (p ∷ ps) [] vs h = absurd h
values_count g (p ∷ ps) (v ∷ values) [] h = absurd h

-- ---- no variable of a new frame is a loop's

abbrev pub AllFree : List Place → Type 0
AllFree [] = Unit {0}
AllFree (p ∷ ps) = (p.fixed ≡ false) × AllFree ps

free_params : (g : Program) (w : ℕ) (ps : List Param) → AllFree (param_places g w ps)
free_params g w [] = tt
free_params g w (p ∷ ps) = (refl, free_params g (suc w) ps)

pub free_vars : (g : Program) (w : ℕ) (vs : List Var) → AllFree (places_from g w vs)
free_vars g w [] = tt
free_vars g w (v ∷ vs) = (refl, free_vars g (w + size_of (shape_of g v.kind)) vs)

free_both : (ps qs : List Place) → AllFree ps → AllFree qs → AllFree (ps ++ qs)
free_both [] qs f k = k
free_both (p ∷ ps) qs f k = (f.0, free_both ps qs f.1 k)

-- anything for each place
abbrev pub no_values : List Place → List ℤ
no_values [] = []
no_values (p ∷ ps) = pos 0 ∷ no_values ps

free_kept : (ws : List ℤ) (ps : List Place) (vs : Vars) → AllFree ps → Holds anywhere ws ps vs → KeptAll ps (no_values ps) vs
free_kept ws [] [] f h = tt
free_kept ws [] (s ∷ vs) f h = absurd h
free_kept ws (p ∷ ps) [] f h = absurd h
free_kept ws (p ∷ ps) (s ∷ vs) f h = ((λ t. absurd (both_ways p.fixed f.0 t)), free_kept ws ps vs f.1 h.1)

-- ---- the new frame

-- how many words stand behind the arguments
abbrev pub behind_params : Program → Routine → ℕ
behind_params g r = words_of g r.vars + loops r.body

abbrev pub new_locals : Program → Routine → List ℤ → List ℤ
new_locals g r values = values ++ zeros (behind_params g r)

pub new_frame : (g : Program) (t : Text) (values : List ℤ) (vs : Vars) → HoldValues g t.routine.params values vs
    → FitsFrame (routine_scope g t) (no_values (routine_places g t.routine)) (new_locals g t.routine values) (own_vars g t.routine vs)
new_frame g t values vs h =
    let many : length values ≡ count t.routine.params = values_count g t.routine.params values vs h in
    let holds : Holds anywhere (new_locals g t.routine values) (routine_places g t.routine) (own_vars g t.routine vs) =
    holds_both (new_locals g t.routine values) (param_places g 0 t.routine.params) (places_from g (count t.routine.params) t.routine.vars) vs (map (fresh g) t.routine.vars)
    (params_hold g (new_locals g t.routine values) 0 t.routine.params values vs h
    (λ k v is. subst (λ n. slice_get (new_locals g t.routine values) n ≡ Some v) (none k) (get_front values (zeros (behind_params g t.routine)) k v is)))
    (vars_hold g (new_locals g t.routine values) (count t.routine.params) t.routine.vars
    (λ k lt. subst (λ n. slice_get (new_locals g t.routine values) (n + k) ≡ Some (pos 0)) many (get_behind values (zeros (behind_params g t.routine)) k ∙ get_zero (behind_params g t.routine) k (omega arith)))) in
    let longer : length (new_locals g t.routine values) ≡ length values + length (zeros (behind_params g t.routine)) = length-append values (zeros (behind_params g t.routine)) in
    let rest : length (zeros (behind_params g t.routine)) ≡ behind_params g t.routine = length_zeros (behind_params g t.routine) in
    record {
      holds = holds;
      size = omega arith;
      kept = free_kept (new_locals g t.routine values) (routine_places g t.routine) (own_vars g t.routine vs)
          (free_both (param_places g 0 t.routine.params) (places_from g (count t.routine.params) t.routine.vars) (free_params g 0 t.routine.params) (free_vars g (count t.routine.params) t.routine.vars)) holds;
    }
  where
    none : (k : ℕ) → k ≡ 0 + k
    none k = omega arith

-- ---- the arguments are taken

pub taken : (values : List ℤ) (below : List Operand) (k : ℕ) (done : List ℤ) → table.arguments (length values + k) (pushed values below) done ≡ table.arguments k below (values ++ done)
taken [] below k done = ap (λ n. table.arguments n below done) (none k)
  where
    none : (k : ℕ) → 0 + k ≡ k
    none k = omega arith
taken (v ∷ values) below k done = ap (λ n. table.arguments n (pushed values (Value v ∷ below)) done) (later (length values) k) ∙ taken values (Value v ∷ below) (suc k) done
  where
    later : (n k : ℕ) → suc n + k ≡ n + suc k
    later n k = omega arith
