-- One process changes, with the monitor that it is inside, enters or leaves: all others stay as they are.
use Rattle.std.proofs.Common.{◌≡◌, ◌⊎◌, inl, inr, ℕ, List, [], Option, Some, None, length, arith, refl, ap, sym, subst, ◌∙◌, true}
use Rattle.std.specs.Prelude.{ℤ, pos, slice_get, position}
use Rattle.std.proofs.lemmas.Bool.{cases_Bool, cases_eq}
use Rattle.std.proofs.lemmas.Bool.Decides.{nat_tests}
use Rattle.std.proofs.lemmas.Option.{slice_get_within}
use Rattle.base.proofs.Lists.{one_some, some_at}
use Rattle.syntax_tree.specs.Plain as tree
use Rattle.source_semantics.specs.Names.{processes}
use Rattle.source_semantics.specs.Store.{Vars}
use Rattle.source_semantics.specs.Config.{Job, Hold, hold_vars, is_process, inside}
use Rattle.source_semantics.specs.Ranks.{monitors_of, includes}
use Rattle.machine_semantics.specs.Image.{Process}
use Rattle.machine_semantics.specs.State.{Thread, Idle, Ready, Waiting}
use Rattle.machine_semantics.specs.Effect.{is_reached}
use Rattle.machine_semantics.specs.Tick.{owned_of}
use Rattle.code_spec.specs.Boundary.{SameInside, SameOutside}
use Rattle.code_lifting.specs.Related.{Whole, Relations, own, inside_of, monitor_vars, view_of, Same, Related}
use Rattle.code_lifting.specs.Compiled.{IsProcess, IsProcessOf, IsCompiled}
use Rattle.code_lifting.proofs.Lists.{none_some, Changed, position_only, position_nowhere}

-- ---- a process of the image is one of the text

pub record Text (w : Whole) (r : Relations) (k : ℕ) (p : Process) : Type 0 where
  pub text : tree.Process
  pub there : slice_get (processes w.program) k ≡ Some text
  pub is : IsProcess w r k p text

pub text_of : (w : Whole) (r : Relations) → IsCompiled w r → (k : ℕ) (p : Process) → slice_get w.image.processes k ≡ Some p → Text w r k p
text_of w r compiled k p at = by (slice_get (processes w.program) k) refl (subst (λ (o : Option Process). IsProcessOf w r k o (slice_get (processes w.program) k)) at (compiled.processes_agree k)) where
  by : (o : Option tree.Process) → slice_get (processes w.program) k ≡ o → IsProcessOf w r k (Some p) o → Text w r k p
  by (Some text) there is = record { text = text; there = there; is = is }
  by None there is = absurd is

-- ---- words

pub same_nowhere : (w : Whole) (before after : List ℤ) → SameInside w.image None before after
same_nowhere w before after v is = absurd cc

module _ (w : Whole) (r : Relations) (compiled : IsCompiled w r) where
  -- words out of the reach of who is inside m are those of another monitor
  apart_inside : (m n : ℕ) (before after : List ℤ) → (m ≡ n → ⊥) → SameOutside w.image (Some m) before after → SameInside w.image (Some n) before after
  apart_inside m n before after differ same v reached = elim (cases_Bool (is_reached w.image (Some m) (pos v))) [
    | inl both ↦ absurd (differ (compiled.apart m n v both reached))
    | inr only ↦ same v only
  ]

  -- ---- the process that is inside a monitor

  pub inside_is : (threads : List Thread) (owned : List (List ℤ)) (shared : List ℤ) (jobs : List Job) (holds : List Hold) (k : ℕ) → Related w r threads owned shared jobs holds
      → position (λ h. is_process k h.occupant) holds ≡ inside_of (slice_get threads k)
  inside_is threads owned shared jobs holds k related = by (inside_of (slice_get threads k)) refl where
    occupies : (n : ℕ) (h : Hold) (o : Option ℕ) → slice_get holds n ≡ Some h → h.occupant ≡ o → is_process k o ≡ true → inside_of (slice_get threads k) ≡ Some n
    occupies n h None at occupant is = absurd cc
    occupies n h (Some j) at occupant is = let same : j ≡ k = grind (arith, nat_tests, is) in related.occupants n k h at (occupant ∙ ap (λ (x : ℕ). Some x) same)

    by : (o : Option ℕ) → inside_of (slice_get threads k) ≡ o → position (λ h. is_process k h.occupant) holds ≡ o
    by None none = position_nowhere (λ (h : Hold). is_process k h.occupant) holds (λ n h at. elim (cases_Bool (is_process k h.occupant)) [
      | inl is ↦ absurd (none_some none (occupies n h h.occupant at refl is))
      | inr is ↦ is
    ])
    by (Some m) in_m =
        let hold : (h : Hold) × (slice_get holds m ≡ Some h) × (h.occupant ≡ Some k) = related.inside k m in_m in
        position_only (λ (h : Hold). is_process k h.occupant) holds m hold.0 hold.1
        (ap (λ (o : Option ℕ). is_process k o) hold.2 ∙ itself k) (λ n h at is. one_some (occupies n h h.occupant at refl is) in_m)
      where
        itself : (j : ℕ) → is_process j (Some j) ≡ true
        itself j = grind (arith, nat_tests)

  -- ---- the others stand as they stood

  same_elsewhere : (k : ℕ) (holds holds' : List Hold) (words shared shared' : List ℤ) (t : Option Thread) (j : Option Job)
      → ((u : Thread) → t ≡ Some u → (p : Process) × (slice_get w.image.processes k ≡ Some p)) → SameInside w.image (inside_of t) shared shared' → monitor_vars holds' (inside_of t) ≡ monitor_vars holds (inside_of t)
      → Same w r k holds words shared t j → Same w r k holds' words shared' t j
  same_elsewhere k holds holds' words shared shared' None None is words_same vars_same s = tt
  same_elsewhere k holds holds' words shared shared' None (Some j) is words_same vars_same s = s
  same_elsewhere k holds holds' words shared shared' (Some Idle) None is words_same vars_same s = s
  same_elsewhere k holds holds' words shared shared' (Some (Ready job)) None is words_same vars_same s = s
  same_elsewhere k holds holds' words shared shared' (Some (Waiting c due number job)) None is words_same vars_same s = s
  same_elsewhere k holds holds' words shared shared' (Some Idle) (Some j) is words_same vars_same s = s
  same_elsewhere k holds holds' words shared shared' (Some (Ready job)) (Some j) is words_same vars_same s =
      let p : (p : Process) × (slice_get w.image.processes k ≡ Some p) = is (Ready job) refl in
      let text : Text w r k p.0 = text_of w r compiled k p.0 p.1 in (
        s.0,
        s.1,
        subst (λ (vars : Vars). r.stands k (own job words shared') (record { calls = j.calls; vars = j.vars; monitor = vars; handling = j.handling })) (sym vars_same)
            (text.is.faithful.stable (own job words shared) (view_of holds j job.inside) job.done job.dispatch_ticks shared' s.2 words_same),
      )
  same_elsewhere k holds holds' words shared shared' (Some (Waiting c due number job)) (Some j) is words_same vars_same s =
      let p : (p : Process) × (slice_get w.image.processes k ≡ Some p) = is (Waiting c due number job) refl in
      let text : Text w r k p.0 = text_of w r compiled k p.0 p.1 in
      record {
        released = s.released;
        since = s.since;
        limit = s.limit;
        doing = s.doing;
        due_at = s.due_at;
        outside = s.outside;
        stands = text.is.faithful.stable (own job words shared) (record { calls = j.calls; vars = j.vars; monitor = []; handling = j.handling }) job.done job.dispatch_ticks shared' s.stands words_same;
        late = λ q textq at_q at_text. text.is.faithful.stable _ _ _ _ shared' (s.late q textq at_q at_text) (same_nowhere w shared shared');
      }

  process_there : (threads : List Thread) (k : ℕ) → length threads ≡ length w.image.processes → (t : Thread) → slice_get threads k ≡ Some t → (p : Process) × (slice_get w.image.processes k ≡ Some p)
  process_there threads k many t at = some_at w.image.processes k (omega (arith, slice_get_within threads k t at, many))

  -- ---- process k changes outside monitors

  pub touch_none : (threads threads' : List Thread) (owned owned' : List (List ℤ)) (shared shared' : List ℤ) (jobs jobs' : List Job) (holds : List Hold) (k : ℕ) (t : Thread) (words : List ℤ) (j : Job)
      → Related w r threads owned shared jobs holds → Changed threads threads' k t → Changed owned owned' k words → Changed jobs jobs' k j
      → inside_of (slice_get threads k) ≡ None → inside_of (Some t) ≡ None → SameOutside w.image None shared shared'
      → Same w r k holds words shared' (Some t) (Some j) → Related w r threads' owned' shared' jobs' holds
  touch_none threads threads' owned owned' shared shared' jobs jobs' holds k t words j related ts os js was now words_same new = record {
    same = λ i. elim (cases_eq k i) [
      | inl is ↦ subst (λ (x : ℕ). Same w r x holds (owned_of (slice_get owned' x)) shared' (slice_get threads' x) (slice_get jobs' x)) is here
      | inr differ ↦ elsewhere i differ
    ];
    inside = λ i n in_n. related.inside i n (sym (inside_same i) ∙ in_n);
    occupants = λ n i h at occupant. inside_same i ∙ related.occupants n i h at occupant;
    free = λ n h at nobody. compiled.free_stable n shared shared' h.vars (everywhere n) (related.free n h at nobody);
    reaches = λ i n text in_n at. related.reaches i n text (sym (inside_same i) ∙ in_n) at;
    many_threads = ts.many ∙ related.many_threads;
    many_holds = related.many_holds;
    many_owned = os.many ∙ related.many_owned;
  } where
    everywhere : (n : ℕ) → SameInside w.image (Some n) shared shared'
    everywhere n v reached = words_same v refl

    inside_same : (i : ℕ) → inside_of (slice_get threads' i) ≡ inside_of (slice_get threads i)
    inside_same i = elim (cases_eq k i) [
      | inl is ↦ subst (λ (x : ℕ). inside_of (slice_get threads' x) ≡ inside_of (slice_get threads x)) is (ap (λ (o : Option Thread). inside_of o) ts.here ∙ now ∙ sym was)
      | inr differ ↦ ap (λ (o : Option Thread). inside_of o) (ts.others i differ)
    ]

    here : Same w r k holds (owned_of (slice_get owned' k)) shared' (slice_get threads' k) (slice_get jobs' k)
    here = rw (os.here, ts.here, js.here) new

    elsewhere : (i : ℕ) → (k ≡ i → ⊥) → Same w r i holds (owned_of (slice_get owned' i)) shared' (slice_get threads' i) (slice_get jobs' i)
    elsewhere i differ =
        rw (os.others i differ, ts.others i differ, js.others i differ)
        (same_elsewhere i holds holds (owned_of (slice_get owned i)) shared shared' (slice_get threads i) (slice_get jobs i)
        (λ u at. process_there threads i related.many_threads u at) (λ v reached. words_same v refl) refl (related.same i))

  -- ---- process k changes, with the monitor m that it is inside, enters or leaves

  -- it was inside, or the monitor was free
  abbrev Before : List Thread → List Hold → (k m : ℕ) → Type 0
  Before threads holds k m = (inside_of (slice_get threads k) ≡ Some m) ⊎ ((inside_of (slice_get threads k) ≡ None) × (h : Hold) × (slice_get holds m ≡ Some h) × (h.occupant ≡ None))

  -- it is inside, or the monitor is free
  abbrev After : Thread → Hold → List ℤ → (k m : ℕ) → Type 0
  After t h shared k m = ((inside_of (Some t) ≡ Some m) × (h.occupant ≡ Some k)) ⊎ ((inside_of (Some t) ≡ None) × (h.occupant ≡ None) × r.free m shared h.vars)

  pub touch_one : (threads threads' : List Thread) (owned owned' : List (List ℤ)) (shared shared' : List ℤ) (jobs jobs' : List Job) (holds holds' : List Hold) (k m : ℕ) (t : Thread) (words : List ℤ) (j : Job) (hold : Hold)
      → Related w r threads owned shared jobs holds → Changed threads threads' k t → Changed owned owned' k words → Changed jobs jobs' k j → Changed holds holds' m hold
      → Before threads holds k m → After t hold shared' k m → SameOutside w.image (Some m) shared shared'
      → ((text : tree.Process) → slice_get (processes w.program) k ≡ Some text → includes m (monitors_of w.program text) ≡ true)
      → Same w r k holds' words shared' (Some t) (Some j) → Related w r threads' owned' shared' jobs' holds'
  touch_one threads threads' owned owned' shared shared' jobs jobs' holds holds' k m t words j hold related ts os js hs before after words_same reached new = record {
    same = λ i. elim (cases_eq k i) [
      | inl is ↦ subst (λ (x : ℕ). Same w r x holds' (owned_of (slice_get owned' x)) shared' (slice_get threads' x) (slice_get jobs' x)) is here
      | inr differ ↦ elsewhere i differ
    ];
    inside = λ i n in_n. elim (cases_eq k i) [ inl is ↦ own_inside i n is in_n | inr differ ↦ other_inside i n differ (sym (inside_other i differ) ∙ in_n) ];
    occupants = λ n i h at occupant. elim (cases_eq m n) [ inl is ↦ at_m n i h is at occupant after | inr differ ↦ past_m n i h differ at occupant ];
    free = λ n h at nobody. elim (cases_eq m n) [ inl is ↦ free_m n h is at nobody after | inr differ ↦ compiled.free_stable n shared shared' h.vars (apart_inside m n shared shared' differ words_same) (related.free n h (sym (hs.others n differ) ∙ at) nobody) ];
    reaches = λ i n text in_n at. elim (cases_eq k i) [ inl is ↦ own_reaches i n text is in_n at after | inr differ ↦ related.reaches i n text (sym (inside_other i differ) ∙ in_n) at ];
    many_threads = ts.many ∙ related.many_threads;
    many_holds = hs.many ∙ related.many_holds;
    many_owned = os.many ∙ related.many_owned;
  } where
    inside_other : (i : ℕ) → (k ≡ i → ⊥) → inside_of (slice_get threads' i) ≡ inside_of (slice_get threads i)
    inside_other i differ = ap (λ (o : Option Thread). inside_of o) (ts.others i differ)

    now : inside_of (slice_get threads' k) ≡ inside_of (Some t)
    now = ap (λ (o : Option Thread). inside_of o) ts.here

    -- nobody else is inside m
    not_m : (i n : ℕ) → (k ≡ i → ⊥) → inside_of (slice_get threads i) ≡ Some n → m ≡ n → ⊥
    not_m i n differ in_n same =
        let other : (h : Hold) × (slice_get holds n ≡ Some h) × (h.occupant ≡ Some i) = related.inside i n in_n in
        let at_m : slice_get holds m ≡ Some other.0 = ap (λ (x : ℕ). slice_get holds x) same ∙ other.1 in
        elim before [
          | inl was ↦
              let mine : (h : Hold) × (slice_get holds m ≡ Some h) × (h.occupant ≡ Some k) = related.inside k m was in
              let one : mine.0 ≡ other.0 = one_some mine.1 at_m in
              differ (one_some mine.2 (ap (λ (h : Hold). h.occupant) one ∙ other.2))
          | inr entered ↦
              let one : entered.1 ≡ other.0 = one_some entered.2 at_m in
              none_some (ap (λ (h : Hold). h.occupant) (sym one) ∙ entered.3) other.2
        ]

    here : Same w r k holds' (owned_of (slice_get owned' k)) shared' (slice_get threads' k) (slice_get jobs' k)
    here = rw (os.here, ts.here, js.here) new

    vars_same : (i : ℕ) (o : Option ℕ) → (k ≡ i → ⊥) → inside_of (slice_get threads i) ≡ o → monitor_vars holds' o ≡ monitor_vars holds o
    vars_same i None differ in_n = refl
    vars_same i (Some n) differ in_n = ap (λ (h : Option Hold). hold_vars h) (hs.others n (not_m i n differ in_n))

    reach_same : (i : ℕ) (o : Option ℕ) → (k ≡ i → ⊥) → inside_of (slice_get threads i) ≡ o → SameInside w.image o shared shared'
    reach_same i None differ in_n = same_nowhere w shared shared'
    reach_same i (Some n) differ in_n = apart_inside m n shared shared' (not_m i n differ in_n) words_same

    elsewhere : (i : ℕ) → (k ≡ i → ⊥) → Same w r i holds' (owned_of (slice_get owned' i)) shared' (slice_get threads' i) (slice_get jobs' i)
    elsewhere i differ =
        rw (os.others i differ, ts.others i differ, js.others i differ)
        (same_elsewhere i holds holds' (owned_of (slice_get owned i)) shared shared' (slice_get threads i) (slice_get jobs i)
        (λ u at. process_there threads i related.many_threads u at) (reach_same i (inside_of (slice_get threads i)) differ refl) (vars_same i (inside_of (slice_get threads i)) differ refl) (related.same i))

    own_inside : (i n : ℕ) → k ≡ i → inside_of (slice_get threads' i) ≡ Some n → (h : Hold) × (slice_get holds' n ≡ Some h) × (h.occupant ≡ Some i)
    own_inside i n is in_n =
        let in_n' : inside_of (Some t) ≡ Some n = sym now ∙ ap (λ (x : ℕ). inside_of (slice_get threads' x)) is ∙ in_n in
        elim after [
          | inl stays ↦ let one : m ≡ n = one_some stays.0 in_n' in (hold, subst (λ (x : ℕ). slice_get holds' x ≡ Some hold) one hs.here, stays.1 ∙ ap (λ (x : ℕ). Some x) is)
          | inr left ↦ absurd (none_some left.0 in_n')
        ]

    other_inside : (i n : ℕ) → (k ≡ i → ⊥) → inside_of (slice_get threads i) ≡ Some n → (h : Hold) × (slice_get holds' n ≡ Some h) × (h.occupant ≡ Some i)
    other_inside i n differ in_n =
        let other : (h : Hold) × (slice_get holds n ≡ Some h) × (h.occupant ≡ Some i) = related.inside i n in_n in
        (other.0, hs.others n (not_m i n differ in_n) ∙ other.1, other.2)

    at_m : (n i : ℕ) (h : Hold) → m ≡ n → slice_get holds' n ≡ Some h → h.occupant ≡ Some i → After t hold shared' k m → inside_of (slice_get threads' i) ≡ Some n
    at_m n i h is at occupant (inl stays) =
        let one : hold ≡ h = one_some hs.here (ap (λ (x : ℕ). slice_get holds' x) is ∙ at) in
        let who : k ≡ i = one_some stays.1 (ap (λ (x : Hold). x.occupant) one ∙ occupant) in
        subst (λ (x : ℕ). inside_of (slice_get threads' x) ≡ Some n) who (now ∙ stays.0 ∙ ap (λ (x : ℕ). Some x) is)
    at_m n i h is at occupant (inr left) =
        let one : hold ≡ h = one_some hs.here (ap (λ (x : ℕ). slice_get holds' x) is ∙ at) in
        absurd (none_some left.1 (ap (λ (x : Hold). x.occupant) one ∙ occupant))

    past_m : (n i : ℕ) (h : Hold) → (m ≡ n → ⊥) → slice_get holds' n ≡ Some h → h.occupant ≡ Some i → inside_of (slice_get threads' i) ≡ Some n
    past_m n i h differ at occupant =
        let in_n : inside_of (slice_get threads i) ≡ Some n = related.occupants n i h (sym (hs.others n differ) ∙ at) occupant in
        elim (cases_eq k i) [
          | inl is ↦
              let in_k : inside_of (slice_get threads k) ≡ Some n = ap (λ (x : ℕ). inside_of (slice_get threads x)) is ∙ in_n in
              absurd (elim before [ inl was ↦ differ (one_some was in_k) | inr entered ↦ none_some entered.0 in_k ])
          | inr other ↦ inside_other i other ∙ in_n
        ]

    free_m : (n : ℕ) (h : Hold) → m ≡ n → slice_get holds' n ≡ Some h → h.occupant ≡ None → After t hold shared' k m → r.free n shared' h.vars
    free_m n h is at nobody (inl stays) =
        let one : hold ≡ h = one_some hs.here (ap (λ (x : ℕ). slice_get holds' x) is ∙ at) in
        absurd (none_some (ap (λ (x : Hold). x.occupant) one ∙ nobody) stays.1)
    free_m n h is at nobody (inr left) =
        let one : hold ≡ h = one_some hs.here (ap (λ (x : ℕ). slice_get holds' x) is ∙ at) in
        subst (λ (x : ℕ). r.free x shared' h.vars) is (subst (λ (x : Hold). r.free m shared' x.vars) one left.2)

    own_reaches : (i n : ℕ) (text : tree.Process) → k ≡ i → inside_of (slice_get threads' i) ≡ Some n → slice_get (processes w.program) i ≡ Some text → After t hold shared' k m → includes n (monitors_of w.program text) ≡ true
    own_reaches i n text is in_n at (inl stays) =
        let one : m ≡ n = one_some stays.0 (sym now ∙ ap (λ (x : ℕ). inside_of (slice_get threads' x)) is ∙ in_n) in
        subst (λ (x : ℕ). includes x (monitors_of w.program text) ≡ true) one (reached text (ap (λ (x : ℕ). slice_get (processes w.program) x) is ∙ at))
    own_reaches i n text is in_n at (inr left) = absurd (none_some left.0 (sym now ∙ ap (λ (x : ℕ). inside_of (slice_get threads' x)) is ∙ in_n))
