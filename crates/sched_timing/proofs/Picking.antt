-- The process that is picked is of least active rank among all that are ready.
use Rattle.std.proofs.Common.{◌≡◌, ◌≤◌, ◌+◌, inl, inr, ℕ, zero, suc, List, [], ◌∷◌, Option, Some, None, arith, ap, sym, subst, ◌∙◌, true, false, Bool}
use Rattle.std.specs.Prelude.{slice_get, cond, nat_lt, nat_eq, ◌&&◌, ◌||◌}
use Rattle.std.proofs.lemmas.Bool.{cases_Bool, ltb-true, ltb-false}
use Rattle.std.proofs.lemmas.Bool.Decides.{nat_tests}
use Rattle.machine_semantics.specs.Image.{Image, Process}
use Rattle.machine_semantics.specs.State.{Job, Thread, Idle, Ready, Waiting}
use Rattle.machine_semantics.specs.Tick.{Candidate, active_rank, outside, is_before, first_of_two, least}
use Rattle.machine_safety.proofs.Picked.{ChosenOf, chosen}

before_le : (a b : Candidate) → is_before a b ≡ true → a.rank ≤ b.rank
before_le a b is =
    elim (cases_Bool (nat_lt a.rank b.rank)) [
      | inl lt ↦ omega (arith, ltb-true a.rank b.rank lt)
      | inr no_lt ↦
          let rest : nat_eq a.rank b.rank && nat_lt a.outside b.outside ≡ true = subst (λ (t : Bool). t || (nat_eq a.rank b.rank && nat_lt a.outside b.outside) ≡ true) no_lt is in
          let same : a.rank ≡ b.rank = grind (arith, nat_tests, rest) in omega (arith, same)
    ]

not_before_le : (a b : Candidate) → is_before b a ≡ false → a.rank ≤ b.rank
not_before_le a b is =
    elim (cases_Bool (nat_lt b.rank a.rank)) [
      | inl lt ↦ absurd (let both : true ≡ false = sym (ap (λ (t : Bool). t || (nat_eq b.rank a.rank && nat_lt b.outside a.outside)) lt) ∙ is in cc)
      | inr no_lt ↦ ltb-false b.rank a.rank no_lt
    ]

-- no ready process of the lists has an active rank below that of the candidate
abbrev pub IsLeast : Image → List Process → List Thread → Candidate → Type 0
IsLeast image ps ts c = (j : ℕ) (q : Process) (other : Job) → slice_get ps j ≡ Some q → slice_get ts j ≡ Some (Ready other) → c.rank ≤ active_rank image q other.inside

abbrev pub LeastOf : Image → List Process → List Thread → Option Candidate → Type 0
LeastOf image ps ts None = Unit {0}
LeastOf image ps ts (Some c) = IsLeast image ps ts c

at_head : (image : Image) (p : Process) (ps : List Process) (t : Thread) (ts : List Thread) (c : Candidate) → ((other : Job) → t ≡ Ready other → c.rank ≤ active_rank image p other.inside) → IsLeast image ps ts c → IsLeast image (p ∷ ps) (t ∷ ts) c
at_head image p ps t ts c head rest zero q other at_q at_t =
    let same_p : p ≡ q = cc in
    let same_t : t ≡ Ready other = cc in
    omega (arith, head other same_t, ap (λ (x : Process). active_rank image x other.inside) same_p)
at_head image p ps t ts c head rest (suc j) q other at_q at_t = rest j q other at_q at_t

past : (image : Image) (p : Process) (ps : List Process) (t : Thread) (ts : List Thread) (o : Option Candidate) → ((other : Job) → t ≡ Ready other → ⊥) → LeastOf image ps ts o → LeastOf image (p ∷ ps) (t ∷ ts) o
past image p ps t ts None not_ready rest = tt
past image p ps t ts (Some c) not_ready rest = at_head image p ps t ts c (λ other same. absurd (not_ready other same)) rest

pub least_of : (image : Image) (from : ℕ) (ps : List Process) (ts : List Thread) → LeastOf image ps ts (least image from ps ts)
least_of image from [] ts = tt
least_of image from (p ∷ ps) [] = tt
least_of image from (p ∷ ps) (Idle ∷ ts) = past image p ps Idle ts (least image (from + 1) ps ts) (λ other same. absurd cc) (least_of image (from + 1) ps ts)
least_of image from (p ∷ ps) (Waiting c due number job ∷ ts) = past image p ps (Waiting c due number job) ts (least image (from + 1) ps ts) (λ other same. absurd cc) (least_of image (from + 1) ps ts)
least_of image from (p ∷ ps) (Ready job ∷ ts) = best (least image (from + 1) ps ts) (least_of image (from + 1) ps ts) (chosen image (from + 1) ps ts) where
  a : Candidate
  a = record { place = from; rank = active_rank image p job.inside; outside = outside job.inside }

  own : (c : Candidate) → c.rank ≤ a.rank → (other : Job) → Ready job ≡ Ready other → c.rank ≤ active_rank image p other.inside
  own c low other same = let jobs : job ≡ other = cc in omega (arith, low, ap (λ (x : Job). active_rank image p x.inside) jobs)

  best : (o : Option Candidate) → LeastOf image ps ts o → ChosenOf image (from + 1) ps ts o → LeastOf image (p ∷ ps) (Ready job ∷ ts) (first_of_two a o)
  best None rest none = at_head image p ps (Ready job) ts a (λ other same. own a (omega arith) other same) (λ j q other at_q at_t. absurd (none j q other at_q at_t))
  best (Some b) rest ch =
      elim (cases_Bool (is_before b a)) [
        | inl before ↦
            subst (λ (t : Bool). LeastOf image (p ∷ ps) (Ready job ∷ ts) (cond t (Some b) (Some a))) (sym before)
            (at_head image p ps (Ready job) ts b (λ other same. own b (before_le b a before) other same) rest)
        | inr not_before ↦
            subst (λ (t : Bool). LeastOf image (p ∷ ps) (Ready job ∷ ts) (cond t (Some b) (Some a))) (sym not_before)
            (at_head image p ps (Ready job) ts a (λ other same. own a (omega arith) other same) (λ j q other at_q at_t. omega (arith, not_before_le a b not_before, rest j q other at_q at_t)))
      ]
