-- Who waits on a condition stands in its queue once, and the process that runs stands in none: so each queue has room for one more.
use Rattle.std.proofs.Common.{rules, ◌≡◌, ◌≤◌, ◌<◌, ◌+◌, ◌∙◌, ℕ, zero, suc, Bool, true, false, inl, inr, List, [], ◌∷◌, Option, Some, None, length, refl, ap, sym, subst, arith}
use Rattle.std.specs.Prelude.{nat_eq, slice_get}
use Rattle.std.proofs.lemmas.Bool.{cases_lt}
use Rattle.std.proofs.lemmas.Bool.Decides.{nat_tests}
use Rattle.std.proofs.lemmas.Option.{slice_get_within}
use Rattle.machine_semantics.specs.State.{Thread, Idle, Ready, Waiting}
use Rattle.machine_semantics.specs.Starts.{queue_of, without}
use Rattle.machine_semantics.specs.Queues.{QueuesFit, times, waits_on}
use Rattle.vm_state.specs.Threads.{AreBelow}
use Rattle.vm_turn.specs.Settled.{HaveRoom}

-- ---- how often a number stands in a list

pub more_by : (k j : ℕ) (js : List ℕ) (b : Bool) → nat_eq j k ≡ b → times k js ≤ times k (j ∷ js)
more_by k j js true is = rw is (omega arith)
more_by k j js false is = rw is (omega arith)

more : (k j : ℕ) (js : List ℕ) → times k js ≤ times k (j ∷ js)
more k j js = more_by k j js (nat_eq j k) refl

head : (k : ℕ) (q : List ℕ) → times k (k ∷ q) ≡ suc (times k q)
head k q = let e : nat_eq k k ≡ true = grind (arith, nat_tests) in rw e refl

pub length_by : (m j : ℕ) (js : List ℕ) (b : Bool) → nat_eq j m ≡ b → length js ≡ length (without m js) + times m js → length (j ∷ js) ≡ length (without m (j ∷ js)) + times m (j ∷ js)
length_by m j js true is h = rw is (omega (arith, h))
length_by m j js false is h = rw is (omega (arith, h))

pub length_without : (m : ℕ) (q : List ℕ) → length q ≡ length (without m q) + times m q
length_without m [] = refl
length_without m (j ∷ js) = length_by m j js (nat_eq j m) refl (length_without m js)

pub kept_by : (k j : ℕ) (js ks : List ℕ) (b : Bool) → nat_eq j k ≡ b → times k js ≤ times k ks → times k (j ∷ js) ≤ times k (j ∷ ks)
kept_by k j js ks true is h = rw is (omega (arith, h))
kept_by k j js ks false is h = rw is h

pub fewer_by : (m k j : ℕ) (js : List ℕ) (b : Bool) → nat_eq j m ≡ b → times k (without m js) ≤ times k js → times k (without m (j ∷ js)) ≤ times k (j ∷ js)
fewer_by m k j js true is h = let n = more k j js in rw is (omega (arith, h, n))
fewer_by m k j js false is h = let n = kept_by k j (without m js) js (nat_eq j k) refl h in rw is n

pub fewer : (m k : ℕ) (q : List ℕ) → times k (without m q) ≤ times k q
fewer m k [] = omega arith
fewer m k (j ∷ js) = fewer_by m k j js (nat_eq j m) refl (fewer m k js)

pub gone_by : (m j : ℕ) (js : List ℕ) (b : Bool) → nat_eq j m ≡ b → times m (without m js) ≡ 0 → times m (without m (j ∷ js)) ≡ 0
gone_by m j js true is h = rw is h
gone_by m j js false is h = rw (is, is) h

gone : (m : ℕ) (q : List ℕ) → times m (without m q) ≡ 0
gone m [] = refl
gone m (j ∷ js) = gone_by m j js (nat_eq j m) refl (gone m js)

-- numbers below n, each once, are at most n
pub few : (n : ℕ) (q : List ℕ) → ((j : ℕ) → times j q ≤ 1) → ((j : ℕ) → 0 < times j q → j < n) → length q ≤ n
few zero [] once below = omega arith
few zero (x ∷ xs) once below = absurd (omega (arith, below x (omega (arith, head x xs))))
few (suc m) q once below =
    let rest = few m (without m q) (λ j. omega (arith, fewer m j q, once j)) (λ j some. lower j some) in
    omega (arith, rest, length_without m q, once m) where
      lower : (j : ℕ) → 0 < times j (without m q) → j < m
      lower j some = elim (cases_lt j m) [
        | inl lt ↦ lt
        | inr ge ↦
            let e : j ≡ m = omega (arith, ge, below j (omega (arith, some, fewer m j q))) in
            let none = subst (λ (i : ℕ). times i (without m q) ≡ 0) (sym e) (gone m q) in
            absurd (omega (arith, some, none))
      ]

below_all : (n : ℕ) (q : List ℕ) → ((j : ℕ) → 0 < times j q → j < n) → AreBelow n q
below_all n [] below = tt
below_all n (x ∷ xs) below = (below x (omega (arith, head x xs)), below_all n xs (λ j some. below j (omega (arith, some, more j x xs))))

-- ---- queues

pub once_waits : (c : ℕ) (th : Option Thread) → waits_on c th ≤ 1
once_waits c None = omega arith
once_waits c (Some Idle) = omega arith
once_waits c (Some (Ready job)) = omega arith
once_waits c (Some (Waiting d due number job)) = by (nat_eq d c) refl where
  by : (b : Bool) → nat_eq d c ≡ b → waits_on c (Some (Waiting d due number job)) ≤ 1
  by true is = rw is (omega arith)
  by false is = rw is (omega arith)

pub there : (c j : ℕ) (threads : List Thread) → 0 < waits_on c (slice_get threads j) → j < length threads
there c j threads some = by (slice_get threads j) refl some where
  by : (th : Option Thread) → slice_get threads j ≡ th → 0 < waits_on c th → j < length threads
  by None is some' = absurd (omega arith)
  by (Some th) is some' = slice_get_within threads j th is

-- with the process that runs before it, each number stands in a queue once
once_more : (j k : ℕ) (q : List ℕ) (b : Bool) → nat_eq k j ≡ b → times k q ≡ 0 → times j q ≤ 1 → times j (k ∷ q) ≤ 1
once_more j k q true is none once = let e : k ≡ j = search (rules, is) in let h = subst (λ (i : ℕ). times i q ≡ 0) e none in rw is (omega (arith, h))
once_more j k q false is none once = rw is once

below_more : (j k n : ℕ) (q : List ℕ) (b : Bool) → nat_eq k j ≡ b → k < n → (0 < times j q → j < n) → 0 < times j (k ∷ q) → j < n
below_more j k n q true is low below some = let e : k ≡ j = search (rules, is) in omega (arith, e, low)
below_more j k n q false is low below some = let h = rw is at some in below h

pub room_of : (threads : List Thread) (queues : List (List ℕ)) (k n : ℕ) (thread : Thread) → QueuesFit threads queues → slice_get threads k ≡ Some thread → ((c : ℕ) → waits_on c (Some thread) ≡ 0) → length threads ≡ n → n ≤ 64 → HaveRoom n queues
room_of threads queues k n thread fit at ready many small c inside =
    let none : times k (queue_of queues c) ≡ 0 = fit c k ∙ ap (λ (th : Option Thread). waits_on c th) at ∙ ready c in
    let count = few n (k ∷ queue_of queues c) (λ j. once_more j k (queue_of queues c) (nat_eq k j) refl none (once_at j)) (λ j some. below_more j k n (queue_of queues c) (nat_eq k j) refl (omega (arith, many, slice_get_within threads k thread at)) (low_at j) some) in
    (below_all n (queue_of queues c) (λ j some. low_at j some), omega (arith, count, small)) where
      once_at : (j : ℕ) → times j (queue_of queues c) ≤ 1
      once_at j = subst (λ (m : ℕ). m ≤ 1) (sym (fit c j)) (once_waits c (slice_get threads j))

      low_at : (j : ℕ) → 0 < times j (queue_of queues c) → j < n
      low_at j some = let h = there c j threads (subst (λ (m : ℕ). 0 < m) (fit c j) some) in omega (arith, h, many)
