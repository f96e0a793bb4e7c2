-- How all processes stand in the choice, and that the foremost of them is found.
use Rattle.std.proofs.Common.{◌≡◌, ◌≤◌, ◌<◌, ◌+◌, ℕ, zero, suc, true, false, List, [], ◌∷◌, Option, Some, None, length, drop, refl, arith, ap, sym, subst, ◌∙◌}
use Rattle.std.specs.Prelude.{slice_get}
use Rattle.std.proofs.lemmas.List.{drop_all}
use Rattle.vm_stretch.specs.declared.choice.Contender.{Contender}
use Rattle.vm_stretch.specs.Pick.{Entry, foremost, foremost_from, joined, place_of as entry_place}
use Rattle.machine_semantics.specs.Image.{Image, Process}
use Rattle.machine_semantics.specs.State.{Job, Thread, Idle, Ready, Waiting}
use Rattle.machine_semantics.specs.Tick.{active_rank, pick}
use Rattle.vm_stretch.specs.Stretch.{place_of}
use Rattle.vm_stretch.specs.Picks.{AreStanding, Stands, is_inside_one}
use Rattle.vm_stretch.proofs.PicksLemmas.{pick_is_foremost}
use Rattle.vm_state.specs.declared.threads.ControlBlock.{ControlBlock}
use Rattle.vm_state.specs.Threads.{thread_of, threads_of}
use Rattle.vm_state.specs.declared.decoded_image.DecodedProcess.{DecodedProcess as Known}
use Rattle.vm_state.specs.declared.decoded_image.DecodedImage.{DecodedImage}
use Rattle.vm_state.specs.Plan.{AreProcesses, IsOf, IsProcess}
use Rattle.vm_turn.specs.Chosen.{StandsIn}

-- how a process stands, and how all do
abbrev standing : Image → Process → Thread → Contender
standing image p (Ready job) = record { ready = true; active = active_rank image p job.inside; inside = is_inside_one job.inside }
standing image p Idle = record { ready = false; active = 0; inside = false }
standing image p (Waiting c due e job) = record { ready = false; active = 0; inside = false }

abbrev pub standings : Image → List Process → List Thread → List Contender
standings image [] ts = []
standings image (p ∷ ps) [] = []
standings image (p ∷ ps) (t ∷ ts) = standing image p t ∷ standings image ps ts

stands : (image : Image) (p : Process) (t : Thread) → Stands image p t (standing image p t)
stands image p (Ready job) = (refl, refl, refl)
stands image p Idle = refl
stands image p (Waiting c due e job) = refl

all_stand : (image : Image) (ps : List Process) (ts : List Thread) → length ps ≡ length ts → AreStanding image ps ts (standings image ps ts)
all_stand image [] [] same = tt
all_stand image [] (t ∷ ts) same = absurd (omega (arith, same))
all_stand image (p ∷ ps) [] same = absurd (omega (arith, same))
all_stand image (p ∷ ps) (t ∷ ts) same = (stands image p t, all_stand image ps ts (omega (arith, same)))

count : (image : Image) (ps : List Process) (ts : List Thread) → length (standings image ps ts) ≤ length ts
count image [] ts = omega arith
count image (p ∷ ps) [] = omega arith
count image (p ∷ ps) (t ∷ ts) = let rest = count image ps ts in omega (arith, rest)

-- two ways to say how a process stands are alike in the choice
alike : (image : Image) (p : Process) (t : Thread) (s : Contender) (place : ℕ) (rest : List Contender) → Stands image p t s → foremost_from place (standing image p t ∷ rest) ≡ foremost_from place (s ∷ rest)
alike image p (Ready job) s place rest is = rw (is.0, is.1, is.2) refl
alike image p Idle s place rest is = rw is refl
alike image p (Waiting c due e job) s place rest is = rw is refl

-- the rest of them from place k on begins with process k
pub next_stands : (image : Image) (plan : DecodedImage) (ws : List Process) (ps : List Known) (cs : List ControlBlock) (k place : ℕ) (known : Known) (cell : ControlBlock) (s : Contender) → IsOf image plan → AreProcesses ws ps → slice_get ps k ≡ Some known → slice_get cs k ≡ Some cell → StandsIn plan known cell s
    → foremost_from place (drop k (standings image ws (threads_of cs))) ≡ foremost_from place (s ∷ drop (k + 1) (standings image ws (threads_of cs)))
next_stands image plan [] [] cs k place known cell s is are at_p at_c stand = absurd cc
next_stands image plan [] (p ∷ ps) cs k place known cell s is are at_p at_c stand = absurd are
next_stands image plan (w ∷ ws) [] cs k place known cell s is are at_p at_c stand = absurd are
next_stands image plan (w ∷ ws) (p ∷ ps) [] k place known cell s is are at_p at_c stand = absurd cc
next_stands image plan (w ∷ ws) (p ∷ ps) (c ∷ cs) zero place known cell s is are at_p at_c stand =
    let same_p : p ≡ known = cc in
    let same_c : c ≡ cell = cc in
    let here : IsProcess w known = subst (λ (x : Known). IsProcess w x) same_p are.0 in
    ap (λ (x : ControlBlock). foremost_from place (standing image w (thread_of x) ∷ standings image ws (threads_of cs))) same_c
    ∙ alike image w (thread_of cell) s place (standings image ws (threads_of cs)) (stand image w is here)
next_stands image plan (w ∷ ws) (p ∷ ps) (c ∷ cs) (suc k) place known cell s is are at_p at_c stand =
    let e : suc k + 1 ≡ suc (k + 1) = omega arith in
    next_stands image plan ws ps cs k place known cell s is are.1 at_p at_c stand
    ∙ sym (ap (λ (n : ℕ). foremost_from place (s ∷ drop n (standings image (w ∷ ws) (threads_of (c ∷ cs))))) e)

joined_none : (best : Option Entry) → joined best None ≡ best
joined_none None = refl
joined_none (Some e) = refl

-- once all are looked at, the foremost is the one that is picked
pub found : (image : Image) (ts : List Thread) (k : ℕ) (best : Option Entry) → length image.processes ≡ length ts → length ts ≤ k
    → foremost_from 0 (standings image image.processes ts) ≡ joined best (foremost_from k (drop k (standings image image.processes ts))) → entry_place best ≡ place_of (pick image ts)
found image ts k best same over is =
    let all : List Contender = standings image image.processes ts in
    let none : drop k all ≡ [] = drop_all k all (let few = count image image.processes ts in omega (arith, few, over)) in
    let last : foremost_from 0 all ≡ best = is ∙ ap (λ (xs : List Contender). joined best (foremost_from k xs)) none ∙ joined_none best in
    ap (λ (o : Option Entry). entry_place o) (sym last) ∙ sym (pick_is_foremost image ts all (all_stand image image.processes ts same))

-- one more is looked at
pub one_more : (image : Image) (plan : DecodedImage) (cs : List ControlBlock) (k : ℕ) (known : Known) (cell : ControlBlock) (s : Contender) (best new : Option Entry) → IsOf image plan → slice_get plan.processes.items k ≡ Some known → slice_get cs k ≡ Some cell → StandsIn plan known cell s
    → ((rest : List Contender) → joined new (foremost_from (k + 1) rest) ≡ joined best (foremost_from k (s ∷ rest)))
    → foremost_from 0 (standings image image.processes (threads_of cs)) ≡ joined best (foremost_from k (drop k (standings image image.processes (threads_of cs))))
    → foremost_from 0 (standings image image.processes (threads_of cs)) ≡ joined new (foremost_from (k + 1) (drop (k + 1) (standings image image.processes (threads_of cs))))
one_more image plan cs k known cell s best new is at_p at_c stand step before =
    before
    ∙ ap (λ (o : Option Entry). joined best o) (next_stands image plan image.processes plan.processes.items cs k k known cell s is is.processes at_p at_c stand)
    ∙ sym (step (drop (k + 1) (standings image image.processes (threads_of cs))))
