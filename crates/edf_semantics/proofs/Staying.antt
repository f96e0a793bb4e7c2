-- The choice stays while the process that is chosen stays at what it is at.
use Rattle.std.proofs.Common.{◌≡◌, ◌≤◌, ◌+◌, ℕ, zero, suc, List, [], ◌∷◌, Option, Some, None, length, arith, refl, ap, sym, subst, ◌∙◌, true, false, Bool}
use Rattle.std.specs.Prelude.{slice_get, slice_set, cond, nat_lt, not, ◌||◌}
use Rattle.machine_semantics.specs.Image.{Image, Process}
use Rattle.machine_semantics.specs.State.{Job, Thread, Idle, Ready, Waiting}
use Rattle.edf_semantics.specs.Choice as ch
use Rattle.edf_semantics.specs.Choice.{Mark, Entry, is_sooner, sooner_of, entry, soonest, with_inside, least_ceiling, may_go, taken, place_of, choose}
use Rattle.edf_semantics.specs.Run.{begin, begin_some, mark_of, marks_of}
use Rattle.edf_semantics.proofs.Choosing.{Soonest, SoonestOf, soonest_is}
use Rattle.edf_semantics.proofs.Marking.{length_begin}

-- ---- marks

pub length_some : (o : Option ℕ) (ms : List Mark) → length (begin_some o ms) ≡ length ms
length_some None ms = refl
length_some (Some k) ms = length_begin k ms

pub begin_twice : (k : ℕ) (ms : List Mark) → begin k (begin k ms) ≡ begin k ms
begin_twice k [] = refl
begin_twice zero (m ∷ ms) = refl
begin_twice (suc k) (m ∷ ms) = ap (λ (xs : List Mark). m ∷ xs) (begin_twice k ms)

pub some_twice : (o : Option ℕ) (ms : List Mark) → begin_some o (begin_some o ms) ≡ begin_some o ms
some_twice None ms = refl
some_twice (Some k) ms = begin_twice k ms

begun_at : (k : ℕ) (ms : List Mark) (m : Mark) → slice_get (begin k ms) k ≡ Some m → m.begun ≡ true
begun_at k [] m at = absurd cc
begun_at zero (x ∷ ms) m at = let same : record { release = x.release; begun = true } ≡ m = cc in sym (ap (λ (y : Mark). y.begun) same)
begun_at (suc k) (x ∷ ms) m at = begun_at k ms m at

begin_same : (k : ℕ) (ms : List Mark) (m : Mark) → slice_get ms k ≡ Some m → m.begun ≡ true → begin k ms ≡ ms
begin_same k [] m at is = refl
begin_same zero (x ∷ ms) m at is =
    let same : x ≡ m = cc in
    let here : x.begun ≡ true = ap (λ (y : Mark). y.begun) same ∙ is in
    ap (λ (b : Bool). record { release = x.release; begun = b } ∷ ms) (sym here)
begin_same (suc k) (x ∷ ms) m at is = ap (λ (xs : List Mark). x ∷ xs) (begin_same k ms m at is)

stands_same : (t : ℕ) (x : Thread) (m : Mark) → mark_of t x x m ≡ m
stands_same t Idle m = refl
stands_same t (Ready job) m = refl
stands_same t (Waiting c d e job) m = refl

-- where nobody stands anew, marks stay
pub marks_same : (t : ℕ) (ts : List Thread) (ms : List Mark) → length ms ≤ length ts → marks_of t ts ts ms ≡ ms
marks_same t [] [] few = refl
marks_same t [] (m ∷ ms) few = absurd (omega arith)
marks_same t (x ∷ ts) [] few = refl
marks_same t (x ∷ ts) (m ∷ ms) few = ap (λ (y : Mark). y ∷ marks_of t ts ts ms) (stands_same t x m) ∙ ap (λ (xs : List Mark). m ∷ xs) (marks_same t ts ms (omega arith))

pub marks_few : (t : ℕ) (olds news : List Thread) (ms : List Mark) → length (marks_of t olds news ms) ≤ length news
marks_few t [] news ms = omega arith
marks_few t (x ∷ olds) [] ms = omega arith
marks_few t (x ∷ olds) (y ∷ news) [] = omega arith
marks_few t (x ∷ olds) (y ∷ news) (m ∷ ms) = let rest = marks_few t olds news ms in omega (arith, rest)

-- ---- a process that moves within a monitor or outside

ceiling_same : (image : Image) (ts : List Thread) (k : ℕ) (job new : Job) → slice_get ts k ≡ Some (Ready job) → new.inside ≡ job.inside → least_ceiling image (slice_set ts k (Ready new)) ≡ least_ceiling image ts
ceiling_same image [] k job new at same = refl
ceiling_same image (t ∷ ts) zero job new at same =
    let is : t ≡ Ready job = cc in
    ap (λ (o : Option ℕ). with_inside image o (least_ceiling image ts)) same ∙ ap (λ (x : Thread). least_ceiling image (x ∷ ts)) (sym is)
ceiling_same image (Ready other ∷ ts) (suc k) job new at same = ap (λ (c : Option ℕ). with_inside image other.inside c) (ceiling_same image ts k job new at same)
ceiling_same image (Idle ∷ ts) (suc k) job new at same = ceiling_same image ts k job new at same
ceiling_same image (Waiting c d e other ∷ ts) (suc k) job new at same = ceiling_same image ts k job new at same

soonest_same : (begun : Bool) (from : ℕ) (ps : List Process) (ts : List Thread) (ms : List Mark) (k : ℕ) (job new : Job) → slice_get ts k ≡ Some (Ready job) → soonest begun from ps (slice_set ts k (Ready new)) ms ≡ soonest begun from ps ts ms
soonest_same begun from [] ts ms k job new at = refl
soonest_same begun from (p ∷ ps) [] ms k job new at = refl
soonest_same begun from (p ∷ ps) (t ∷ ts) [] zero job new at = refl
soonest_same begun from (p ∷ ps) (t ∷ ts) [] (suc k) job new at = refl
soonest_same begun from (p ∷ ps) (t ∷ ts) (m ∷ ms) zero job new at =
    let is : t ≡ Ready job = cc in
    ap (λ (x : Thread). soonest begun from (p ∷ ps) (x ∷ ts) (m ∷ ms)) (sym is)
soonest_same begun from (p ∷ ps) (Ready other ∷ ts) (m ∷ ms) (suc k) job new at =
    ap (λ (r : Option Entry). cond (m.begun || not begun) (sooner_of (entry from p m) r) r) (soonest_same begun (from + 1) ps ts ms k job new at)
soonest_same begun from (p ∷ ps) (Idle ∷ ts) (m ∷ ms) (suc k) job new at = soonest_same begun (from + 1) ps ts ms k job new at
soonest_same begun from (p ∷ ps) (Waiting c d e other ∷ ts) (m ∷ ms) (suc k) job new at = soonest_same begun (from + 1) ps ts ms k job new at

-- ---- the first that is ready, but for whether it has begun

abbrev plain : Entry → Entry
plain e = record e { begun = false }

abbrev plain_some : Option Entry → Option Entry
plain_some None = None
plain_some (Some e) = Some (plain e)

plain_sooner : (a : Entry) (o : Option Entry) → plain_some (sooner_of a o) ≡ sooner_of (plain a) (plain_some o)
plain_sooner a None = refl
plain_sooner a (Some b) = by (is_sooner b a) where
  by : (c : Bool) → plain_some (cond c (Some b) (Some a)) ≡ cond c (Some (plain b)) (Some (plain a))
  by true = refl
  by false = refl

counts_all : (b : Bool) → (b || not false) ≡ true
counts_all true = refl
counts_all false = refl

plain_head : (from : ℕ) (p : Process) (ps : List Process) (job : Job) (ts : List Thread) (m : Mark) (ms : List Mark) → plain_some (soonest false from (p ∷ ps) (Ready job ∷ ts) (m ∷ ms)) ≡ sooner_of (plain (entry from p m)) (plain_some (soonest false (from + 1) ps ts ms))
plain_head from p ps job ts m ms =
    ap (λ (b : Bool). plain_some (cond b (sooner_of (entry from p m) (soonest false (from + 1) ps ts ms)) (soonest false (from + 1) ps ts ms))) (counts_all m.begun)
    ∙ plain_sooner (entry from p m) (soonest false (from + 1) ps ts ms)

-- it is the same one once another or itself has begun
plain_begin : (from : ℕ) (ps : List Process) (ts : List Thread) (ms : List Mark) (k : ℕ) → plain_some (soonest false from ps ts (begin k ms)) ≡ plain_some (soonest false from ps ts ms)
plain_begin from [] ts ms k = refl
plain_begin from (p ∷ ps) [] ms k = refl
plain_begin from (p ∷ ps) (t ∷ ts) [] k = refl
plain_begin from (p ∷ ps) (Ready job ∷ ts) (m ∷ ms) zero = plain_head from p ps job ts (record { release = m.release; begun = true }) ms ∙ sym (plain_head from p ps job ts m ms)
plain_begin from (p ∷ ps) (Ready job ∷ ts) (m ∷ ms) (suc k) =
    plain_head from p ps job ts m (begin k ms)
    ∙ ap (λ (o : Option Entry). sooner_of (plain (entry from p m)) o) (plain_begin (from + 1) ps ts ms k)
    ∙ sym (plain_head from p ps job ts m ms)
plain_begin from (p ∷ ps) (Idle ∷ ts) (m ∷ ms) zero = refl
plain_begin from (p ∷ ps) (Idle ∷ ts) (m ∷ ms) (suc k) = plain_begin (from + 1) ps ts ms k
plain_begin from (p ∷ ps) (Waiting c d e job ∷ ts) (m ∷ ms) zero = refl
plain_begin from (p ∷ ps) (Waiting c d e job ∷ ts) (m ∷ ms) (suc k) = plain_begin (from + 1) ps ts ms k

-- ---- who is chosen

-- process k is there and ready
pub record IsReady (image : Image) (ts : List Thread) (k : ℕ) : Type 0 where
  pub p : Process
  pub process : slice_get image.processes k ≡ Some p
  pub job : Job
  pub ready : slice_get ts k ≡ Some (Ready job)

soonest_ready : (begun : Bool) (image : Image) (ts : List Thread) (ms : List Mark) (e : Entry) (k : ℕ) → soonest begun 0 image.processes ts ms ≡ Some e → e.place ≡ k → Soonest begun 0 image.processes ts ms e × (IsReady image ts k)
soonest_ready begun image ts ms e k is at =
    let s : Soonest begun 0 image.processes ts ms e = subst (λ (o : Option Entry). SoonestOf begun 0 image.processes ts ms o) is (soonest_is begun 0 image.processes ts ms) in
    let same : s.index ≡ k = omega (arith, s.place, at) in (
      s,
      record {
        p = s.p;
        process = ap (λ (j : ℕ). slice_get image.processes j) (sym same) ∙ s.process;
        job = s.job;
        ready = ap (λ (j : ℕ). slice_get ts j) (sym same) ∙ s.ready;
      },
    )

-- two ways to be chosen: as the first of those that are ready, which may go, or as the first of those that have begun
pub record Ways (image : Image) (ts : List Thread) (ms : List Mark) (k : ℕ) : Type 0 where
  pub e : Entry
  pub first : soonest false 0 image.processes ts ms ≡ Some e
  pub there : IsReady image ts k
  pub goes : may_go e (least_ceiling image ts) ≡ true → e.place ≡ k
  pub held : may_go e (least_ceiling image ts) ≡ false → (m : Mark) × ((slice_get ms k ≡ Some m) × (m.begun ≡ true))

ways : (image : Image) (ts : List Thread) (ms : List Mark) (k : ℕ) → choose image ts ms ≡ Some k → Ways image ts ms k
unfolding ch.choose
ways image ts ms k is = by (soonest false 0 image.processes ts ms) refl is where
  by : (o : Option Entry) → soonest false 0 image.processes ts ms ≡ o → taken (least_ceiling image ts) (place_of (soonest true 0 image.processes ts ms)) o ≡ Some k → Ways image ts ms k
  by None at is' = absurd cc
  by (Some e) at is' = split (may_go e (least_ceiling image ts)) refl is' where
    split : (b : Bool) → may_go e (least_ceiling image ts) ≡ b → cond b (Some e.place) (place_of (soonest true 0 image.processes ts ms)) ≡ Some k → Ways image ts ms k
    split true goes chosen =
        let same : e.place ≡ k = cc in
        record { e = e; first = at; there = (soonest_ready false image ts ms e k at same).1; goes = λ h. same; held = λ h. absurd (let no : true ≡ false = sym goes ∙ h in cc) }
    split false goes chosen = other (soonest true 0 image.processes ts ms) refl chosen where
      other : (o : Option Entry) → soonest true 0 image.processes ts ms ≡ o → place_of o ≡ Some k → Ways image ts ms k
      other None at_o none = absurd cc
      other (Some f) at_o there =
          let same : f.place ≡ k = cc in
          let s = soonest_ready true image ts ms f k at_o same in
          let here : (s.0).index ≡ k = omega (arith, (s.0).place, same) in
          record {
            e = e;
            first = at;
            there = s.1;
            goes = λ h. absurd (let no : false ≡ true = sym goes ∙ h in cc);
            held = λ h. ((s.0).m, (ap (λ (j : ℕ). slice_get ms j) (sym here) ∙ (s.0).mark, (s.0).counts refl));
          }

pub chosen_ready : (image : Image) (ts : List Thread) (ms : List Mark) (k : ℕ) → choose image ts ms ≡ Some k → IsReady image ts k
chosen_ready image ts ms k is = (ways image ts ms k is).there

-- an entry that has begun may go
begun_goes : (e : Entry) (least : Option ℕ) → e.begun ≡ true → may_go e least ≡ true
begun_goes e None is = refl
begun_goes e (Some c) is = ap (λ (b : Bool). b || nat_lt e.rank c) is

-- who is chosen is chosen again once it has begun
begins_chosen : (image : Image) (ts : List Thread) (ms : List Mark) (k : ℕ) → choose image ts ms ≡ Some k → choose image ts (begin k ms) ≡ Some k
unfolding ch.choose
begins_chosen image ts ms k is = split (may_go (ways image ts ms k is).e (least_ceiling image ts)) refl where
  split : (b : Bool) → may_go (ways image ts ms k is).e (least_ceiling image ts) ≡ b → choose image ts (begin k ms) ≡ Some k
  split false held =
      let h = (ways image ts ms k is).held held in
      ap (λ (xs : List Mark). choose image ts xs) (begin_same k ms h.0 h.1.0 h.1.1) ∙ is
  split true goes = by (soonest false 0 image.processes ts (begin k ms)) refl where
    by : (o : Option Entry) → soonest false 0 image.processes ts (begin k ms) ≡ o → choose image ts (begin k ms) ≡ Some k
    by None at = absurd (let no : None ≡ Some (plain (ways image ts ms k is).e) = ap plain_some (sym at) ∙ plain_begin 0 image.processes ts ms k ∙ ap plain_some (ways image ts ms k is).first in cc)
    by (Some e) at =
        let same : Some (plain e) ≡ Some (plain (ways image ts ms k is).e) = ap plain_some (sym at) ∙ plain_begin 0 image.processes ts ms k ∙ ap plain_some (ways image ts ms k is).first in
        let plains : plain e ≡ plain (ways image ts ms k is).e = cc in
        let place : e.place ≡ k = ap (λ (x : Entry). x.place) plains ∙ (ways image ts ms k is).goes goes in
        let s = soonest_ready false image ts (begin k ms) e k at place in
        let here : (s.0).index ≡ k = omega (arith, (s.0).place, place) in
        let begun : e.begun ≡ true = (s.0).begun_is ∙ begun_at k ms (s.0).m (ap (λ (j : ℕ). slice_get (begin k ms) j) (sym here) ∙ (s.0).mark) in
        let may : may_go e (least_ceiling image ts) ≡ true = begun_goes e (least_ceiling image ts) begun in
        ap (λ (o : Option Entry). taken (least_ceiling image ts) (place_of (soonest true 0 image.processes ts (begin k ms))) o) at
        ∙ ap (λ (b : Bool). cond b (Some e.place) (place_of (soonest true 0 image.processes ts (begin k ms)))) may
        ∙ ap (λ (n : ℕ). Some n) place

moves_chosen : (image : Image) (ts : List Thread) (ms : List Mark) (k : ℕ) (job new : Job) → slice_get ts k ≡ Some (Ready job) → new.inside ≡ job.inside → choose image (slice_set ts k (Ready new)) ms ≡ choose image ts ms
unfolding ch.choose
moves_chosen image ts ms k job new at same =
    ap (λ (c : Option ℕ). taken c (place_of (soonest true 0 image.processes (slice_set ts k (Ready new)) ms)) (soonest false 0 image.processes (slice_set ts k (Ready new)) ms)) (ceiling_same image ts k job new at same)
    ∙ ap (λ (o : Option Entry). taken (least_ceiling image ts) (place_of o) (soonest false 0 image.processes (slice_set ts k (Ready new)) ms)) (soonest_same true 0 image.processes ts ms k job new at)
    ∙ ap (λ (o : Option Entry). taken (least_ceiling image ts) (place_of (soonest true 0 image.processes ts ms)) o) (soonest_same false 0 image.processes ts ms k job new at)

-- who is chosen is chosen again after ticks in which it stays inside or outside
pub choice_stays : (image : Image) (ts : List Thread) (ms : List Mark) (k : ℕ) (job new : Job) → slice_get ts k ≡ Some (Ready job) → new.inside ≡ job.inside → choose image ts ms ≡ Some k → choose image (slice_set ts k (Ready new)) (begin k ms) ≡ Some k
choice_stays image ts ms k job new at same is = moves_chosen image ts (begin k ms) k job new at same ∙ begins_chosen image ts ms k is
