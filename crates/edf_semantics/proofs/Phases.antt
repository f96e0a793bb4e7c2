-- The start events of the machine are those of the source meaning, in the same order, where nobody waits: each piece of the machine's tick plays some items.
use Rattle.std.proofs.Common.{◌≡◌, ◌<◌, ◌+◌, ◌++◌, inl, inr, ℕ, zero, suc, List, [], ◌∷◌, Option, Some, None, arith, refl, ap, sym, subst, ◌∙◌, true, false, Bool, append_assoc}
use Rattle.std.specs.Prelude.{ℤ, slice_get, slice_set, cond, nat_eq, ◌&&◌}
use Rattle.std.proofs.lemmas.Bool.Decides.{nat_tests}
use Rattle.std.proofs.lemmas.List.{append-nil}
use Rattle.std.proofs.lemmas.Option.{slice_get_within}
use Rattle.std.proofs.lemmas.Bool.{cases_eq}
use Rattle.base.proofs.Lists.{get_set, get_other, some_at}
use Rattle.base.specs.declared.event.Event.{Event}
use Rattle.base.specs.declared.event.Act.TheVariants as act
use Rattle.syntax_tree.specs.Plain as tree
use Rattle.source_semantics.specs.Config.{Doing, Job, Hold, Config, changed, at_tick, with_jobs}
use Rattle.source_semantics.specs.Starts.{Script, release_missing, release_of, was_released_at}
use Rattle.source_semantics.specs.Starts as source
use Rattle.source_semantics.specs.Source.{MayStart, after_start, on_text}
use Rattle.source_semantics.specs.Source as meaning
use Rattle.machine_semantics.specs.Image.{Process}
use Rattle.machine_semantics.specs.State.{Thread, Idle, Ready, Waiting, State}
use Rattle.machine_semantics.specs.Starts.{Started, unchanged, followed, released, release, release_thread, time_out, at_rank, time_outs}
use Rattle.machine_semantics.specs.Tick.{owned_of}
use Rattle.source_semantics.specs.Any.{StepAny, RunAnyFrom}
use Rattle.code_lifting.specs.Related.{Whole, Relations, Same, IsSame}
use Rattle.code_lifting.specs.Compiled.{IsCompiled}
use Rattle.code_lifting.proofs.Lists.{Changed, changed_changes, not_changed}
use Rattle.code_lifting.proofs.Touch.{Text, text_of}
use Rattle.code_lifting.proofs.Moves.{outside_it}
use Rattle.code_lifting.proofs.Ticks.{At}
use Rattle.code_lifting.proofs.Items.{Item, rel, out, owed, Quiet, quiet_both, quiet_owes, quiet_changed, out_items, all_items, due_is}
use Rattle.code_lifting.proofs.Items as items
use Rattle.edf_semantics.specs.Runs.{IsNotWaiting, NobodyWaits}

-- a thread that does not wait is set
calm_set : (ts : List Thread) (k i : ℕ) (old th : Thread) → slice_get ts k ≡ Some old → IsNotWaiting (Some th) → IsNotWaiting (slice_get ts i) → IsNotWaiting (slice_get (slice_set ts k th) i)
calm_set ts k i old th at calm others = elim (cases_eq k i) [
  | inl is ↦ subst (λ (x : ℕ). IsNotWaiting (slice_get (slice_set ts k th) x)) is (subst IsNotWaiting (sym (get_set ts k th old at)) calm)
  | inr differ ↦ subst IsNotWaiting (sym (get_other ts k i th differ)) others
]

module _ (w : Whole) (r : Relations) (compiled : IsCompiled w r) (script : Script) (t : ℕ) (below : t < script.end_tick) where
  abbrev Now : State → Config → Type 0
  Now s c = At w r script t t s c

  -- The piece plays these items, whatever comes before and after them: where both sides are the same before it, nobody waits, and the items done have come,
  -- the events of the piece are allowed in turn, and it is so after them.
  abbrev pub Phase : List Item → (State → Started) → Type 0
  Phase xs f = (s : State) (c : Config) (done rest : List Item) → all_items w.program script t ≡ done ++ (xs ++ rest) → Now s c → Quiet t c.jobs done → NobodyWaits s → (f s).overrun ≡ false → (es : List Event)
      → ((c' : Config) → Now (f s).state c' → Quiet t c'.jobs (done ++ xs) → NobodyWaits (f s).state → RunAnyFrom w.program script c' es)
      → RunAnyFrom w.program script c ((f s).events ++ es)

  pub nothing : Phase [] unchanged
  nothing s c done rest is now quiet calm free es then = then c now (subst (Quiet t c.jobs) (sym (append-nil done)) quiet) calm

  pub device : (d : ℕ) (v : ℤ) → Phase [] (λ s. unchanged (record s { devices = slice_set s.devices d v }))
  device d v s c done rest is now quiet calm free es then =
      then c (record { same = record { related = now.same.related; queues = now.same.queues }; reached = now.reached; fresh = now.fresh; none = now.none }) (subst (Quiet t c.jobs) (sym (append-nil done)) quiet) calm

  pub both : (xs ys : List Item) (f h : State → Started) → Phase xs f → Phase ys h → Phase (xs ++ ys) (λ s. followed (f s) h)
  both xs ys f h first second s c done rest is now quiet calm free es then =
      let parts : ((f s).overrun ≡ false) × ((h (f s).state).overrun ≡ false) = neither (f s).overrun (h (f s).state).overrun free in
      let is_first : all_items w.program script t ≡ done ++ (xs ++ (ys ++ rest)) = is ∙ ap (λ (zs : List Item). done ++ zs) (append_assoc xs ys rest) in
      let is_second : all_items w.program script t ≡ (done ++ xs) ++ (ys ++ rest) = is_first ∙ sym (append_assoc done xs (ys ++ rest)) in
      subst (λ (zs : List Event). RunAnyFrom w.program script c zs) (sym (append_assoc (f s).events (h (f s).state).events es))
      (first s c done (ys ++ rest) is_first now quiet calm parts.0 ((h (f s).state).events ++ es)
      (λ c' now' quiet' calm'. second (f s).state c' (done ++ xs) rest is_second now' quiet' calm' parts.1 es
      (λ c'' now'' quiet'' calm''. then c'' now'' (subst (Quiet t c''.jobs) (append_assoc done xs ys) quiet'') calm''))) where
        neither : (a b : Bool) → elim a [ true ↦ true | false ↦ b ] ≡ false → (a ≡ false) × (b ≡ false)
        neither true b is = absurd cc
        neither false b is = (refl, is)

  pub where_so : (a b : Bool) (i : Item) (f : State → Started) → a ≡ b → Phase (i ∷ []) f → Phase (cond b (i ∷ []) []) (λ s. cond a (f s) (unchanged s))
  where_so true true i f same phase = phase
  where_so false false i f same phase = nothing
  where_so true false i f same phase = absurd cc
  where_so false true i f same phase = absurd cc

  -- ---- a release

  abbrev released_now : ℕ → Event
  released_now k = record { tick = t; proc = k; act = act.Release }

  comes : (s : State) (c : Config) (done rest : List Item) (k : ℕ) → all_items w.program script t ≡ done ++ ((rel k ∷ []) ++ rest) → Now s c → Quiet t c.jobs done → items.told t c.jobs (rel k) ≡ released_now k ∷ []
      → MayStart act.Release (slice_get c.jobs k) → StepAny w.program script c (released_now k) (after_start w.program c (released_now k))
  comes s c done rest k is now quiet tells may = record {
    before_end = below;
    reached = now.reached;
    none_missing = now.none;
    comes = inl (record {
      later = owed t c.jobs rest;
      first = due_is w.program script c t now.fresh ∙ ap (λ (xs : List Item). owed t c.jobs xs) is ∙ quiet_owes t c.jobs done (rel k ∷ rest) quiet ∙ ap (λ (es : List Event). es ++ owed t c.jobs rest) tells;
      may_start = may;
      after = refl;
    });
  }

  itself : (n : ℕ) → nat_eq n n ≡ true
  itself n = grind (arith, nat_tests)

  -- after a start event at tick t
  just_now : (s : State) (c : Config) → IsSame w r s c → c.tick ≡ t → c.acted ≡ false → Now s c
  just_now s c same tick_is acted = record {
    same = same;
    reached = omega (arith, tick_is);
    fresh = ap (λ (b : Bool). b && nat_eq c.tick t) acted;
    none = λ u low lt. absurd (omega (arith, low, lt, tick_is));
  }

  -- an item whose event has come, or that has none
  passed : (c : Config) (i : Item) (done : List Item) → Quiet t c.jobs done → items.told t c.jobs i ≡ [] → Quiet t c.jobs (done ++ i ∷ [])
  passed c i done quiet none = quiet_both t c.jobs done (i ∷ []) quiet (none, tt)

  words_there : (s : State) (c : Config) (k : ℕ) (th : Thread) → Now s c → slice_get s.threads k ≡ Some th → Changed s.owned s.owned k (owned_of (slice_get s.owned k))
  words_there s c k th now at =
      let old : (x : List ℤ) × (slice_get s.owned k ≡ Some x) = some_at s.owned k (omega (arith, slice_get_within s.threads k th at, now.same.related.many_threads, now.same.related.many_owned)) in
      subst (λ (x : Option (List ℤ)). Changed s.owned s.owned k (owned_of x)) (sym old.1) (not_changed s.owned k old.0 old.1)

  pub release_plays : (k : ℕ) (p : Process) → slice_get w.image.processes k ≡ Some p → Phase (rel k ∷ []) (λ s. release w.image t k p s)
  release_plays k p at s c done rest is now quiet calm free es then = by (slice_get s.threads k) (slice_get c.jobs k) refl refl (now.same.related.same k) free then where
    text : Text w r k p
    text = text_of w r compiled k p at

    words : List ℤ
    words = owned_of (slice_get s.owned k)

    by : (o : Option Thread) (jo : Option Job) → slice_get s.threads k ≡ o → slice_get c.jobs k ≡ jo → Same w r k c.holds words s.shared o jo → (release_thread w.image t k p s o).overrun ≡ false
        → ((c' : Config) → Now (release_thread w.image t k p s o).state c' → Quiet t c'.jobs (done ++ rel k ∷ []) → NobodyWaits (release_thread w.image t k p s o).state → RunAnyFrom w.program script c' es)
        → RunAnyFrom w.program script c ((release_thread w.image t k p s o).events ++ es)
    by None None at_t at_j same free_now go = go c now (passed c (rel k) done quiet (ap (λ (x : Option Job). release_missing t k x) at_j)) calm
    by None (Some j) at_t at_j same free_now go = absurd same
    by (Some (Ready job)) jo at_t at_j same free_now go = absurd cc
    by (Some (Waiting condition due number job)) jo at_t at_j same free_now go = absurd cc
    by (Some Idle) None at_t at_j same free_now go = absurd same
    by (Some Idle) (Some j) at_t at_j same free_now go = (
      after_start w.program c (released_now k),
      comes s c done rest k is now quiet tells (subst (λ (x : Option Job). MayStart act.Release x) (sym at_j) same.0),
      subst (λ (x : Config). RunAnyFrom w.program script x es) (sym new_is) (go new (just_now (release_thread w.image t k p s (Some Idle)).state new same_now refl refl) quiet_now
          (λ i. calm_set s.threads k i Idle (Ready (released w.image p)) at_t tt (calm i))),
    )
      where
        new : Config
        new = with_jobs (at_tick c t false) (changed (meaning.released t text.text) k c.jobs)

        new_is : after_start w.program c (released_now k) ≡ new
        new_is = ap (λ (x : Option tree.Process). on_text (λ q i. meaning.released t q i) x k (at_tick c t false)) text.there

        js : Changed c.jobs (changed (meaning.released t text.text) k c.jobs) k (meaning.released t text.text j)
        js = changed_changes (meaning.released t text.text) c.jobs k j at_j

        tells : items.told t c.jobs (rel k) ≡ released_now k ∷ []
        tells = ap (λ (x : Option Job). release_missing t k x) at_j ∙ ap (λ (d : Doing). cond (was_released_at t d) [] (release_of t k ∷ [])) same.0

        same_now : IsSame w r (release_thread w.image t k p s (Some Idle)).state new
        same_now = record {
          related = outside_it w r compiled s.threads s.owned s.shared c.jobs c.holds now.same.related k p at Idle (Ready (released w.image p)) s.owned words s.shared (changed (meaning.released t text.text) k c.jobs) (meaning.released t text.text j)
              at_t refl refl (words_there s c k Idle now at_t) js (λ v same. refl) (t, refl, text.is.faithful.starts words s.shared j.vars same.1);
          queues = now.same.queues;
        }

        has_come : release_missing t k (Some (meaning.released t text.text j)) ≡ []
        has_come = ap (λ (b : Bool). cond b [] (release_of t k ∷ [])) (itself t)

        quiet_now : Quiet t new.jobs (done ++ rel k ∷ [])
        quiet_now = passed new (rel k) done (quiet_changed t c.jobs new.jobs k (meaning.released t text.text j) done js (λ h. has_come) refl quiet) (ap (λ (x : Option Job). release_missing t k x) js.here ∙ has_come)

  -- ---- nobody's time is out

  no_time_out : (k : ℕ) (p : Process) (s : State) (th : Option Thread) → IsNotWaiting th → time_out w.image t k p s th ≡ unchanged s
  no_time_out k p s None calm = refl
  no_time_out k p s (Some Idle) calm = refl
  no_time_out k p s (Some (Ready job)) calm = refl
  no_time_out k p s (Some (Waiting condition due number job)) calm = absurd calm

  at_no_rank : (q k : ℕ) (ps : List Process) (s : State) → NobodyWaits s → at_rank w.image t q k ps s ≡ unchanged s
  at_no_rank q k [] s calm = refl
  at_no_rank q k (p ∷ ps) s calm = ap (λ (x : Started). followed x (at_rank w.image t q (k + 1) ps)) (by (nat_eq p.rank q)) ∙ at_no_rank q (k + 1) ps s calm where
    by : (b : Bool) → cond b (time_out w.image t k p s (slice_get s.threads k)) (unchanged s) ≡ unchanged s
    by true = no_time_out k p s (slice_get s.threads k) (calm k)
    by false = refl

  no_time_outs : (q n : ℕ) (s : State) → NobodyWaits s → time_outs w.image t q n s ≡ unchanged s
  no_time_outs q zero s calm = refl
  no_time_outs q (suc n) s calm = ap (λ (x : Started). followed x (time_outs w.image t (q + 1) n)) (at_no_rank q 0 w.image.processes s calm) ∙ no_time_outs (q + 1) n s calm

  none_out : (holds : List Hold) (k : ℕ) (words shared : List ℤ) (th : Option Thread) (j : Option Job) → IsNotWaiting th → Same w r k holds words shared th j → source.time_out t k j ≡ []
  none_out holds k words shared None None calm same = refl
  none_out holds k words shared None (Some j) calm same = absurd same
  none_out holds k words shared (Some Idle) None calm same = absurd same
  none_out holds k words shared (Some (Ready job)) None calm same = absurd same
  none_out holds k words shared (Some Idle) (Some j) calm same = ap (λ (d : Doing). source.doing_time_out t k d) same.0
  none_out holds k words shared (Some (Ready job)) (Some j) calm same = ap (λ (d : Doing). source.doing_time_out t k d) same.1
  none_out holds k words shared (Some (Waiting condition due number job)) j calm same = absurd calm

  quiet_outs : (s : State) (c : Config) → IsSame w r s c → NobodyWaits s → (ks : List ℕ) → Quiet t c.jobs (out_items ks)
  quiet_outs s c same calm [] = tt
  quiet_outs s c same calm (k ∷ ks) = (none_out c.holds k (owned_of (slice_get s.owned k)) s.shared (slice_get s.threads k) (slice_get c.jobs k) (calm k) (same.related.same k), quiet_outs s c same calm ks)

  pub time_outs_play : (ks : List ℕ) (q n : ℕ) → Phase (out_items ks) (time_outs w.image t q n)
  time_outs_play ks q n s c done rest is now quiet calm free es then =
      subst (λ (x : Started). ((c' : Config) → Now x.state c' → Quiet t c'.jobs (done ++ out_items ks) → NobodyWaits x.state → RunAnyFrom w.program script c' es) → RunAnyFrom w.program script c (x.events ++ es)) (sym (no_time_outs q n s calm))
      (λ go. go c now (quiet_both t c.jobs done (out_items ks) quiet (quiet_outs s c now.same calm ks)) calm) then
