-- Candidates and entries.
use Rattle.std.proofs.Common.{◌≡◌, ◌≤◌, ◌<◌, ◌+◌, ◌*◌, ℕ, zero, suc, Bool, true, false, List, [], ◌∷◌, Option, Some, None, inl, inr, arith, refl, ap, sym, subst, ◌∙◌}
use Rattle.std.specs.Prelude.{nat_lt, nat_eq, cond, ◌&&◌, ◌||◌}
use Rattle.std.proofs.lemmas.Bool.{cases_lt, cases_Bool}
use Rattle.std.proofs.lemmas.Bool.Decides.{nat_tests}
use Rattle.machine_semantics.specs.Image.{Image, Process}
use Rattle.machine_semantics.specs.State.{Job, Thread, Idle, Ready, Waiting}
use Rattle.machine_semantics.specs.Tick.{Candidate, active_rank, first_of_two, is_before, least, outside, pick}
use Rattle.vm_stretch.specs.Stretch.{place_of}
use Rattle.vm_stretch.specs.declared.choice.Contender.{Contender}
use Rattle.vm_stretch.specs.Pick.{Entry, foremost, foremost_from, key, sooner, place_of as entry_place, outside as out_of}
use Rattle.vm_stretch.specs.Picks.{AreStanding, PickIsForemost, Stands, is_inside_one}

-- the candidate is the entry
record Same (c : Candidate) (e : Entry) : Type 0 where
  pub place : c.place ≡ e.place
  pub key : 2 * c.rank + c.outside ≡ e.key
  pub small : c.outside ≤ 1

abbrev Matches : Option Candidate → Option Entry → Type 0
Matches None None = Unit {0}
Matches (Some c) (Some e) = Same c e
Matches c e = ⊥

same_test : (a b : Candidate) (x y : Entry) → Same a x → Same b y → is_before b a ≡ nat_lt y.key x.key
same_test a b x y s t =
    let k = s.key in let l = t.key in let m = s.small in let n = t.small in
    elim (cases_lt y.key x.key) [
      | inl lt ↦
          let right : nat_lt y.key x.key ≡ true = grind (arith, nat_tests) in
          let left : is_before b a ≡ true = grind (arith, nat_tests) in left ∙ sym right
      | inr ge ↦
          let right : nat_lt y.key x.key ≡ false = grind (arith, nat_tests) in
          let left : is_before b a ≡ false = grind (arith, nat_tests) in left ∙ sym right
    ]

matched : (a : Candidate) (x : Entry) (c : Option Candidate) (e : Option Entry) → Same a x → Matches c e → Matches (first_of_two a c) (sooner x e)
matched a x None None s m = s
matched a x (Some b) (Some y) s m =
    subst (λ (t : Bool). Matches (cond t (Some b) (Some a)) (sooner x (Some y))) (sym (same_test a b x y s m)) (by (nat_lt y.key x.key)) where
      by : (t : Bool) → Matches (cond t (Some b) (Some a)) (cond t (Some y) (Some x))
      by true = m
      by false = s
matched a x None (Some y) s m = absurd m
matched a x (Some b) None s m = absurd m

outside_is : (o : Option ℕ) → outside o ≡ out_of (is_inside_one o)
outside_is None = refl
outside_is (Some m) = refl

outside_small : (o : Option ℕ) → outside o ≤ 1
outside_small None = omega arith
outside_small (Some m) = omega arith

all_match : (image : Image) (k : ℕ) (ps : List Process) (ts : List Thread) (all : List Contender) → AreStanding image ps ts all → Matches (least image k ps ts) (foremost_from k all)
all_match image k [] [] [] stand = tt
all_match image k (p ∷ ps) (Ready job ∷ ts) (s ∷ ss) stand =
    let here : Stands image p (Ready job) s = stand.0 in
    subst (λ (b : Bool). Matches (least image k (p ∷ ps) (Ready job ∷ ts)) (cond b (sooner (record { place = k; key = key s }) (foremost_from (k + 1) ss)) (foremost_from (k + 1) ss))) (sym here.0)
    (matched _ _ (least image (k + 1) ps ts) (foremost_from (k + 1) ss)
    (record { place = refl; key = omega (arith, here.1, outside_is job.inside, ap (λ (b : Bool). out_of b) here.2); small = outside_small job.inside })
    (all_match image (k + 1) ps ts ss stand.1))
all_match image k (p ∷ ps) (Idle ∷ ts) (s ∷ ss) stand =
    subst (λ (b : Bool). Matches (least image (k + 1) ps ts) (cond b (sooner (record { place = k; key = key s }) (foremost_from (k + 1) ss)) (foremost_from (k + 1) ss))) (sym stand.0) (all_match image (k + 1) ps ts ss stand.1)
all_match image k (p ∷ ps) (Waiting c due e job ∷ ts) (s ∷ ss) stand =
    subst (λ (b : Bool). Matches (least image (k + 1) ps ts) (cond b (sooner (record { place = k; key = key s }) (foremost_from (k + 1) ss)) (foremost_from (k + 1) ss))) (sym stand.0) (all_match image (k + 1) ps ts ss stand.1)
all_match image k [] [] (s ∷ ss) stand = absurd stand
all_match image k [] (t ∷ ts) all stand = absurd stand
all_match image k (p ∷ ps) [] all stand = absurd stand
all_match image k (p ∷ ps) (t ∷ ts) [] stand = absurd stand

places : (c : Option Candidate) (e : Option Entry) → Matches c e → place_of c ≡ entry_place e
places None None m = refl
places (Some c) (Some e) m = ap (λ (n : ℕ). Some n) m.place
places None (Some e) m = absurd m
places (Some c) None m = absurd m

pub pick_is_foremost : PickIsForemost
unfolding pick
pick_is_foremost image ts all stand = places (least image 0 image.processes ts) (foremost_from 0 all) (all_match image 0 image.processes ts all stand)
