-- The process that the machine picks is one that the source meaning lets act: no ready process comes before it.
use Rattle.std.proofs.Common.{◌≡◌, ◌+◌, inl, inr, ℕ, zero, suc, List, [], ◌∷◌, Option, Some, None, arith, refl, ap, sym, subst, ◌∙◌, true, false, Bool}
use Rattle.std.specs.Prelude.{ℤ, slice_get, cond, nat_lt, nat_eq, ◌||◌, ◌&&◌, not, is_some, unwrap_or}
use Rattle.std.proofs.lemmas.Bool.{cases_Bool}
use Rattle.std.proofs.lemmas.Bool.Decides.{nat_tests}
use Rattle.std.proofs.lemmas.Option.{slice_get_within}
use Rattle.base.proofs.Lists.{one_some, some_at}
use Rattle.syntax_tree.specs.Plain as tree
use Rattle.syntax_tree.specs.Plain.{Program}
use Rattle.source_semantics.specs.Names.{processes}
use Rattle.source_semantics.specs.Config.{Doing, is_ready, Job, Hold, Config, inside}
use Rattle.source_semantics.specs.Ranks.{rank, ceiling, monitors_of, includes, least_rank, min_with, rank_inside, comes_before}
use Rattle.source_semantics.specs.Ranks as source
use Rattle.source_semantics.specs.Source.{before, ready_from, IsFirst}
use Rattle.machine_semantics.specs.Image.{Image, Process, Monitor}
use Rattle.machine_semantics.specs.State.{Thread, Idle, Ready, Waiting}
use Rattle.machine_semantics.specs.State as target
use Rattle.machine_semantics.specs.Tick.{Candidate, is_before, first_of_two, active_rank, outside, least, owned_of}
use Rattle.machine_semantics.specs.Tick as tick
use Rattle.code_lifting.specs.Related.{Whole, Relations, inside_of, Same, Related}
use Rattle.code_lifting.specs.Compiled.{IsCompiled}
use Rattle.code_lifting.proofs.Touch.{Text, text_of, inside_is}
use Rattle.machine_safety.proofs.Picked.{NoneReady}

-- ---- the order of candidates

not_itself : (r o : ℕ) → nat_lt r r || (nat_eq r r && nat_lt o o) ≡ false
not_itself r o = grind (arith, nat_tests)

not_back : (ar ao br bo : ℕ) → nat_lt br ar || (nat_eq br ar && nat_lt bo ao) ≡ true → nat_lt ar br || (nat_eq ar br && nat_lt ao bo) ≡ false
not_back ar ao br bo is = grind (arith, nat_tests, is)

not_past : (xr xo br bo ar ao : ℕ) → nat_lt xr br || (nat_eq xr br && nat_lt xo bo) ≡ false → nat_lt br ar || (nat_eq br ar && nat_lt bo ao) ≡ false
    → nat_lt xr ar || (nat_eq xr ar && nat_lt xo ao) ≡ false
not_past xr xo br bo ar ao p q = grind (arith, nat_tests, p, q)

-- ---- the process that the machine picks

abbrev IsKey : Image → Candidate → Process → target.Job → Type 0
IsKey image a p job = (a.rank ≡ active_rank image p job.inside) × (a.outside ≡ outside job.inside)

pub record Least (image : Image) (from : ℕ) (ps : List Process) (ts : List Thread) (c : Candidate) : Type 0 where
  pub index : ℕ
  pub place : c.place ≡ from + index
  pub p : Process
  pub job : target.Job
  pub process : slice_get ps index ≡ Some p
  pub ready : slice_get ts index ≡ Some (Ready job)
  pub key : IsKey image c p job
  pub least : (j : ℕ) (q : Process) (other : target.Job) (a : Candidate) → slice_get ps j ≡ Some q → slice_get ts j ≡ Some (Ready other) → IsKey image a q other → is_before a c ≡ false

abbrev pub LeastOf : Image → ℕ → List Process → List Thread → Option Candidate → Type 0
LeastOf image from ps ts None = NoneReady ps ts
LeastOf image from ps ts (Some c) = Least image from ps ts c

further : (image : Image) (from : ℕ) (p : Process) (ps : List Process) (t : Thread) (ts : List Thread) (c : Candidate) → Least image (from + 1) ps ts c
    → ((other : target.Job) (a : Candidate) → t ≡ Ready other → IsKey image a p other → is_before a c ≡ false) → Least image from (p ∷ ps) (t ∷ ts) c
further image from p ps t ts c l head = record {
  index = suc l.index;
  place = omega (arith, l.place);
  p = l.p;
  job = l.job;
  process = l.process;
  ready = l.ready;
  key = l.key;
  least = at_index;
} where
  at_index : (j : ℕ) (q : Process) (other : target.Job) (a : Candidate) → slice_get (p ∷ ps) j ≡ Some q → slice_get (t ∷ ts) j ≡ Some (Ready other) → IsKey image a q other → is_before a c ≡ false
  at_index zero q other a at_q at_t key =
      let same : p ≡ q = one_some refl at_q in
      head other a (one_some refl at_t) (subst (λ (x : Process). IsKey image a x other) (sym same) key)
  at_index (suc j) q other a at_q at_t key = l.least j q other a at_q at_t key

same_key : (image : Image) (a b : Candidate) (p q : Process) (job other : target.Job) → IsKey image a p job → IsKey image b q other → p ≡ q → job ≡ other → (a.rank ≡ b.rank) × (a.outside ≡ b.outside)
same_key image a b p q job other x y one two = (
  x.0 ∙ ap (λ (z : Process). active_rank image z job.inside) one ∙ ap (λ (z : target.Job). active_rank image q z.inside) two ∙ sym y.0,
  x.1 ∙ ap (λ (z : target.Job). outside z.inside) two ∙ sym y.1,
)

not_alike : (a b : Candidate) → (a.rank ≡ b.rank) × (a.outside ≡ b.outside) → is_before a b ≡ false
not_alike a b same = ap (λ (x : ℕ). nat_lt x b.rank || (nat_eq x b.rank && nat_lt a.outside b.outside)) same.0 ∙ ap (λ (x : ℕ). nat_lt b.rank b.rank || (nat_eq b.rank b.rank && nat_lt x b.outside)) same.1 ∙ not_itself b.rank b.outside

head_least : (image : Image) (from : ℕ) (p : Process) (ps : List Process) (job : target.Job) (ts : List Thread) (a : Candidate) → a.place ≡ from → IsKey image a p job
    → ((j : ℕ) (q : Process) (other : target.Job) (b : Candidate) → slice_get ps j ≡ Some q → slice_get ts j ≡ Some (Ready other) → IsKey image b q other → is_before b a ≡ false) → Least image from (p ∷ ps) (Ready job ∷ ts) a
head_least image from p ps job ts a place key rest = record {
  index = 0;
  place = omega (arith, place);
  p = p;
  job = job;
  process = refl;
  ready = refl;
  key = key;
  least = at_index;
} where
  at_index : (j : ℕ) (q : Process) (other : target.Job) (b : Candidate) → slice_get (p ∷ ps) j ≡ Some q → slice_get (Ready job ∷ ts) j ≡ Some (Ready other) → IsKey image b q other → is_before b a ≡ false
  at_index zero q other b at_q at_t key' =
      let same_process : p ≡ q = one_some refl at_q in
      let same_thread : Ready job ≡ Ready other = one_some refl at_t in
      let same_job : job ≡ other = cc in
      not_alike b a (same_key image b a q p other job key' key (sym same_process) (sym same_job))
  at_index (suc j) q other b at_q at_t key' = rest j q other b at_q at_t key'

past : (image : Image) (from : ℕ) (p : Process) (ps : List Process) (t : Thread) (ts : List Thread) (o : Option Candidate) → ((other : target.Job) → t ≡ Ready other → ⊥)
    → LeastOf image (from + 1) ps ts o → LeastOf image from (p ∷ ps) (t ∷ ts) o
past image from p ps t ts None no_one none = at_index where
  at_index : (j : ℕ) (q : Process) (other : target.Job) → slice_get (p ∷ ps) j ≡ Some q → slice_get (t ∷ ts) j ≡ Some (Ready other) → ⊥
  at_index zero q other at_q at_t = no_one other cc
  at_index (suc j) q other at_q at_t = none j q other at_q at_t
past image from p ps t ts (Some c) no_one l = further image from p ps t ts c l (λ other a same key. absurd (no_one other same))

pub least_is : (image : Image) (from : ℕ) (ps : List Process) (ts : List Thread) → LeastOf image from ps ts (least image from ps ts)
least_is image from [] ts = λ j q other at_q at_t. cc
least_is image from (p ∷ ps) [] = λ j q other at_q at_t. cc
least_is image from (p ∷ ps) (Idle ∷ ts) = past image from p ps Idle ts (least image (from + 1) ps ts) (λ other same. absurd cc) (least_is image (from + 1) ps ts)
least_is image from (p ∷ ps) (Waiting condition due number job ∷ ts) =
    past image from p ps (Waiting condition due number job) ts (least image (from + 1) ps ts) (λ other same. absurd cc) (least_is image (from + 1) ps ts)
least_is image from (p ∷ ps) (Ready job ∷ ts) = best (least image (from + 1) ps ts) (least_is image (from + 1) ps ts) where
  a : Candidate
  a = record { place = from; rank = active_rank image p job.inside; outside = outside job.inside }

  best : (o : Option Candidate) → LeastOf image (from + 1) ps ts o → LeastOf image from (p ∷ ps) (Ready job ∷ ts) (first_of_two a o)
  best None none = head_least image from p ps job ts a refl (refl, refl) (λ j q other b at_q at_t key. absurd (none j q other at_q at_t))
  best (Some b) l =
      elim (cases_Bool (is_before b a)) [
        | inl is ↦
            subst (λ (t : Bool). LeastOf image from (p ∷ ps) (Ready job ∷ ts) (cond t (Some b) (Some a))) (sym is)
            (further image from p ps (Ready job) ts b l (λ other x same key.
            let same_job : other ≡ job = cc in
            let alike : (x.rank ≡ a.rank) × (x.outside ≡ a.outside) = same_key image x a p p other job key (refl, refl) refl same_job in
            ap (λ (z : ℕ). nat_lt z b.rank || (nat_eq z b.rank && nat_lt x.outside b.outside)) alike.0
            ∙ ap (λ (z : ℕ). nat_lt a.rank b.rank || (nat_eq a.rank b.rank && nat_lt z b.outside)) alike.1
            ∙ not_back a.rank a.outside b.rank b.outside is))
        | inr not_before ↦
            subst (λ (t : Bool). LeastOf image from (p ∷ ps) (Ready job ∷ ts) (cond t (Some b) (Some a))) (sym not_before)
            (head_least image from p ps job ts a refl (refl, refl) (λ j q other x at_q at_t key. not_past x.rank x.outside b.rank b.outside a.rank a.outside (l.least j q other x at_q at_t key) not_before))
      ]

-- ---- ranks and ceilings agree

is_reached_by_one : (g : Program) (m k i : ℕ) (ps : List tree.Process) (text : tree.Process) → slice_get ps i ≡ Some text → includes m (monitors_of g text) ≡ true → (n : ℕ) × (least_rank g m k ps ≡ Some n)
is_reached_by_one g m k i [] text at reached = absurd cc
is_reached_by_one g m k zero (p ∷ ps) text at reached =
    let same : p ≡ text = one_some refl at in (
      min_with (rank g k) (least_rank g m (suc k) ps),
      ap (λ (b : Bool). cond b (Some (min_with (rank g k) (least_rank g m (suc k) ps))) (least_rank g m (suc k) ps)) (ap (λ (x : tree.Process). includes m (monitors_of g x)) same ∙ reached),
    )
is_reached_by_one g m k (suc i) (p ∷ ps) text at reached = by (includes m (monitors_of g p)) (is_reached_by_one g m (suc k) i ps text at reached) where
  by : (b : Bool) → (n : ℕ) × (least_rank g m (suc k) ps ≡ Some n) → (n : ℕ) × (cond b (Some (min_with (rank g k) (least_rank g m (suc k) ps))) (least_rank g m (suc k) ps) ≡ Some n)
  by true later = (min_with (rank g k) (least_rank g m (suc k) ps), refl)
  by false later = later

module _ (w : Whole) (r : Relations) (compiled : IsCompiled w r) where
  -- the active rank of a process that is inside this monitor or none
  rank_is : (threads : List Thread) (owned : List (List ℤ)) (shared : List ℤ) (jobs : List Job) (holds : List Hold) (k : ℕ) (p : Process) (o : Option ℕ) → Related w r threads owned shared jobs holds
      → slice_get w.image.processes k ≡ Some p → inside_of (slice_get threads k) ≡ o → rank_inside w.program k o ≡ active_rank w.image p o
  rank_is threads owned shared jobs holds k p None related at in_o = sym (text_of w r compiled k p at).is.rank_is
  rank_is threads owned shared jobs holds k p (Some m) related at in_o =
      let text : Text w r k p = text_of w r compiled k p at in
      let hold : (h : Hold) × (slice_get holds m ≡ Some h) × (h.occupant ≡ Some k) = related.inside k m in_o in
      let monitor : (x : Monitor) × (slice_get w.image.monitors m ≡ Some x) = some_at w.image.monitors m (omega (arith, slice_get_within holds m hold.0 hold.1, related.many_holds)) in
      let least : (n : ℕ) × (ceiling w.program m ≡ Some n) = is_reached_by_one w.program m 0 k (processes w.program) text.text text.there (related.reaches k m text.text in_o text.there) in
      ap (λ (x : Option ℕ). unwrap_or x (rank w.program k)) least.1 ∙ sym (ap (λ (x : Option ℕ). unwrap_or x 65535) least.1) ∙ sym (compiled.ceilings m monitor.0 monitor.1) ∙ sym (ap (λ (x : Option Monitor). tick.ceiling x) monitor.1)

  out_is : (a b : Option ℕ) → is_some a && not (is_some b) ≡ nat_lt (outside a) (outside b)
  out_is None None = refl
  out_is None (Some n) = refl
  out_is (Some m) None = refl
  out_is (Some m) (Some n) = refl

  -- a job that is ready has a thread that is
  ready_job : (k : ℕ) (holds : List Hold) (words shared : List ℤ) (t : Option Thread) (j : Job) → Same w r k holds words shared t (Some j) → is_ready j.doing ≡ true → (job : target.Job) × (t ≡ Some (Ready job))
  ready_job k holds words shared None j s ready = absurd s
  ready_job k holds words shared (Some Idle) j s ready = absurd (let no_one : is_ready j.doing ≡ false = ap (λ (d : Doing). is_ready d) s.0 in cc)
  ready_job k holds words shared (Some (Ready job)) j s ready = (job, refl)
  ready_job k holds words shared (Some (Waiting c due number job)) j s ready = absurd (let no_one : is_ready j.doing ≡ false = ap (λ (d : Doing). is_ready d) s.doing in cc)

  none_before : (g : Program) (c : Config) (k n : ℕ) (jobs : List Job) → ((i : ℕ) (j : Job) → slice_get jobs i ≡ Some j → is_ready j.doing ≡ true → comes_before g c (n + i) k ≡ false) → before g c k (ready_from n jobs) ≡ []
  none_before g c k n [] least = refl
  none_before g c k n (j ∷ js) least =
      by (is_ready j.doing) refl (none_before g c k (suc n) js (λ i other at ready. let z : n + suc i ≡ suc n + i = omega arith in subst (λ (x : ℕ). comes_before g c x k ≡ false) z (least (suc i) other at ready))) where
        by : (b : Bool) → is_ready j.doing ≡ b → before g c k (ready_from (suc n) js) ≡ [] → before g c k (cond b (n ∷ ready_from (suc n) js) (ready_from (suc n) js)) ≡ []
        by true ready later =
            let z : n + 0 ≡ n = omega arith in
            let fails : comes_before g c n k ≡ false = subst (λ (x : ℕ). comes_before g c x k ≡ false) z (least 0 j refl ready) in
            ap (λ (b : Bool). cond b (n ∷ before g c k (ready_from (suc n) js)) (before g c k (ready_from (suc n) js))) fails ∙ later
        by false ready later = later

  pub first_is : (c : Config) (threads : List Thread) (owned : List (List ℤ)) (shared : List ℤ) (x : Candidate) → Related w r threads owned shared c.jobs c.holds → Least w.image 0 w.image.processes threads x → IsFirst w.program c x.place
  first_is c threads owned shared x related l = none_before w.program c x.place 0 c.jobs each where
    at : x.place ≡ l.index
    at = omega (arith, l.place)

    in_is : (k : ℕ) → inside c k ≡ inside_of (slice_get threads k)
    in_is k = inside_is w r compiled threads owned shared c.jobs c.holds k related

    mine : inside_of (slice_get threads x.place) ≡ l.job.inside
    mine = ap (λ (k : ℕ). inside_of (slice_get threads k)) at ∙ ap (λ (o : Option Thread). inside_of o) l.ready

    my_process : slice_get w.image.processes x.place ≡ Some l.p
    my_process = ap (λ (k : ℕ). slice_get w.image.processes k) at ∙ l.process

    my_rank : source.active_rank w.program c x.place ≡ x.rank
    my_rank =
        ap (λ (o : Option ℕ). rank_inside w.program x.place o) (in_is x.place ∙ mine)
        ∙ rank_is threads owned shared c.jobs c.holds x.place l.p l.job.inside related my_process mine ∙ sym l.key.0

    each : (i : ℕ) (j : Job) → slice_get c.jobs i ≡ Some j → is_ready j.doing ≡ true → comes_before w.program c (0 + i) x.place ≡ false
    each i j at_i ready =
        let z : i ≡ 0 + i = omega arith in
        let thread : (job : target.Job) × (slice_get threads i ≡ Some (Ready job)) =
        ready_job i c.holds (owned_of (slice_get owned i)) shared (slice_get threads i) j (subst (λ (o : Option Job). Same w r i c.holds (owned_of (slice_get owned i)) shared (slice_get threads i) o) at_i (related.same i)) ready in
        let q : (p : Process) × (slice_get w.image.processes i ≡ Some p) = some_at w.image.processes i (omega (arith, slice_get_within threads i (Ready thread.0) thread.1, related.many_threads)) in
        let its : inside_of (slice_get threads i) ≡ thread.0.inside = ap (λ (o : Option Thread). inside_of o) thread.1 in
        let a : Candidate = record { place = i; rank = active_rank w.image q.0 thread.0.inside; outside = outside thread.0.inside } in
        let fails : is_before a x ≡ false = l.least i q.0 thread.0 a q.1 thread.1 (refl, refl) in
        let its_rank : source.active_rank w.program c i ≡ a.rank =
        ap (λ (o : Option ℕ). rank_inside w.program i o) (in_is i ∙ its) ∙ rank_is threads owned shared c.jobs c.holds i q.0 thread.0.inside related q.1 its in
        let out : is_some (inside c i) && not (is_some (inside c x.place)) ≡ nat_lt a.outside x.outside =
        ap (λ (o : Option ℕ). is_some o && not (is_some (inside c x.place))) (in_is i ∙ its)
        ∙ ap (λ (o : Option ℕ). is_some thread.0.inside && not (is_some o)) (in_is x.place ∙ mine)
        ∙ out_is thread.0.inside l.job.inside ∙ ap (λ (n : ℕ). nat_lt (outside thread.0.inside) n) (sym l.key.1) in
        subst (λ (n : ℕ). comes_before w.program c n x.place ≡ false) z
        (ap (λ (n : ℕ). nat_lt n (source.active_rank w.program c x.place) || (nat_eq n (source.active_rank w.program c x.place) && (is_some (inside c i) && not (is_some (inside c x.place))))) its_rank
        ∙ ap (λ (n : ℕ). nat_lt a.rank n || (nat_eq a.rank n && (is_some (inside c i) && not (is_some (inside c x.place))))) my_rank
        ∙ ap (λ (b : Bool). nat_lt a.rank x.rank || (nat_eq a.rank x.rank && b)) out ∙ fails)
