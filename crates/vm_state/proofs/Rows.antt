-- Rows of processes that wait.
use Rattle.std.proofs.Common.{◌≡◌, ◌≤◌, ◌<◌, ◌+◌, ◌++◌, inl, inr, ℕ, zero, suc, Bool, true, false, List, [], ◌∷◌, Some, length, get_or, arith, refl, ap, sym, subst, ◌∙◌}
use Rattle.std.specs.Prelude.{slice_set, vec_capacity, replicate, filter, not, nat_eq}
use Rattle.std.specs.Global.{Vec}
use Rattle.std.proofs.lemmas.Option.{slice_get-get_or}
use Rattle.base.proofs.Lists.{get_of_set}
use Rattle.machine_semantics.specs.Starts.{queue_of, without}
use Rattle.vm_state.specs.Queues.{HaveRoom, rows_of}

pub length-rows : (vs : List (Vec ℕ)) → length (rows_of vs) ≡ length vs
length-rows [] = refl
length-rows (v ∷ vs) = ap suc (length-rows vs)

pub row_is : (vs : List (Vec ℕ)) (c : ℕ) (v : Vec ℕ) → c < length vs → v ≡ get_or vs c v → queue_of (rows_of vs) c ≡ v.items
row_is [] c v below is = absurd (omega arith)
row_is (w ∷ vs) zero v below is = ap (λ (x : Vec ℕ). x.items) (sym is)
row_is (w ∷ vs) (suc c) v below is = row_is vs c v (omega arith) is

pub rows_set : (vs : List (Vec ℕ)) (c : ℕ) (v : Vec ℕ) → rows_of (slice_set vs c v) ≡ slice_set (rows_of vs) c v.items
rows_set [] c v = refl
rows_set (w ∷ vs) zero v = refl
rows_set (w ∷ vs) (suc c) v = ap (λ (xs : List (List ℕ)). w.items ∷ xs) (rows_set vs c v)

pub room_set : (vs : List (Vec ℕ)) (c : ℕ) (v : Vec ℕ) → HaveRoom vs → 64 ≤ vec_capacity v → HaveRoom (slice_set vs c v)
room_set vs c v have room k w at = elim (get_of_set vs c v k w at) [ inl same ↦ subst (λ (x : Vec ℕ). 64 ≤ vec_capacity x) same room | inr old ↦ have k w old ]

-- the row that was read has room
pub room_at : (vs : List (Vec ℕ)) (c : ℕ) (v : Vec ℕ) → HaveRoom vs → c < length vs → v ≡ get_or vs c v → 64 ≤ vec_capacity v
room_at vs c v have below is = have c v (slice_get-get_or vs c v below ∙ ap (λ (x : Vec ℕ). Some x) (sym is))

-- one more row, in which nobody stands
more : {X : Type 0} (n : ℕ) (x : X) → replicate n x ++ x ∷ [] ≡ replicate (suc n) x
more zero x = refl
more (suc n) x = ap (λ (xs : List _). x ∷ xs) (more n x)

rows_append : (vs : List (Vec ℕ)) (v : Vec ℕ) → rows_of (vs ++ v ∷ []) ≡ rows_of vs ++ v.items ∷ []
rows_append [] v = refl
rows_append (w ∷ vs) v = ap (λ (xs : List (List ℕ)). w.items ∷ xs) (rows_append vs v)

pub rows_more : (n : ℕ) (vs : List (Vec ℕ)) (v : Vec ℕ) → rows_of vs ≡ replicate n [] → v.items ≡ [] → rows_of (vs ++ v ∷ []) ≡ replicate (n + 1) []
rows_more n vs v are is =
    let e : suc n ≡ n + 1 = omega arith in
    rows_append vs v ∙ rw (are, is) (more n []) ∙ ap (λ (m : ℕ). replicate m []) e

pub room_more : (vs : List (Vec ℕ)) (v : Vec ℕ) → HaveRoom vs → 64 ≤ vec_capacity v → HaveRoom (vs ++ v ∷ [])
room_more [] v have room zero w at = let e : v ≡ w = cc in subst (λ (x : Vec ℕ). 64 ≤ vec_capacity x) e room
room_more [] v have room (suc k) w at = absurd cc
room_more (x ∷ vs) v have room zero w at = have zero w at
room_more (x ∷ vs) v have room (suc k) w at = room_more vs v (λ j y at_j. have (suc j) y at_j) room k w at

-- those who stay are the queue without the one that leaves
stay : (k j : ℕ) (js : List ℕ) (b : Bool) → nat_eq j k ≡ b → filter (λ (i : ℕ). not (nat_eq i k)) js ≡ without k js → filter (λ (i : ℕ). not (nat_eq i k)) (j ∷ js) ≡ without k (j ∷ js)
stay k j js true is others = rw is others
stay k j js false is others = rw is (ap (λ (xs : List ℕ). j ∷ xs) others)

pub without_is : (k : ℕ) (js : List ℕ) → filter (λ (j : ℕ). not (nat_eq j k)) js ≡ without k js
without_is k [] = refl
without_is k (j ∷ js) = stay k j js (nat_eq j k) refl (without_is k js)
