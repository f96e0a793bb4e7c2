-- After a store the words hold the memory of the source.
use Rattle.std.specs.Prelude.{◌≡◌, ◌+◌, ◌≤◌, ◌<◌, ◌⊎◌, ℕ, zero, suc, Bool, true, false, cond, List, [], ◌∷◌, Option, Some, None, ℤ, slice_get, slice_set, bytes_eq}
use Rattle.std.proofs.Common.{refl, sym, ◌∙◌, ap, subst, arith, inl, inr, length-set}
use Rattle.std.proofs.lemmas.Bool.{cases_Bool, both_ways}
use Rattle.std.proofs.lemmas.Option.{same_Some, none-some}
use Rattle.syntax_tree.specs.Plain.{Name}
use Rattle.source_semantics.specs.Store.{Held, one, many, Slot, Vars, slot_named, replaced}
use Rattle.source_semantics.specs.Run.{Memory, or_else, memory_after, with_own}
use Rattle.machine_semantics.specs.Effect.{Own}
use Rattle.code_spec.specs.Layout.{Owner, by_program, by_process, by_monitor, home_of, Shape, single, array, size_of, Place, Area, in_frame, in_process, in_monitor, Spot, Scope, in_area, place_named, spot_of, outer_spot, process_places, monitor_places}
use Rattle.code_spec.specs.Steps.{Words}
use Rattle.code_spec.specs.Memory.{Setting, IsAt, HoldsHeld, HoldsSlot, Holds, KeptAll, Apart, ApartFrom, AllApart, opens_of, words_of, with_words, Fits, Before, MayRun, Here, inside_places}
use Rattle.code_correct.proofs.Loads.{Pair, found_pair}

pub get_set_same : (xs : List ℤ) (k : ℕ) (x y : ℤ) → slice_get xs k ≡ Some x → slice_get (slice_set xs k y) k ≡ Some y
get_set_same [] k x y h = absurd cc
get_set_same (z ∷ xs) zero x y h = refl
get_set_same (z ∷ xs) (suc k) x y h = get_set_same xs k x y h

pub get_set_other : (xs : List ℤ) (k j : ℕ) (y : ℤ) → (j ≡ k → ⊥) → slice_get (slice_set xs k y) j ≡ slice_get xs j
get_set_other [] k j y h = refl
get_set_other (z ∷ xs) zero zero y h = absurd (h refl)
get_set_other (z ∷ xs) zero (suc j) y h = refl
get_set_other (z ∷ xs) (suc k) zero y h = refl
get_set_other (z ∷ xs) (suc k) (suc j) y h = get_set_other xs k j y (λ e. h (ap (λ n. suc n) e))

pub at_other : (opens : ℕ → Type 0) (ws : List ℤ) (k j : ℕ) (y v : ℤ) → (j ≡ k → ⊥) → IsAt opens ws j v → IsAt opens (slice_set ws k y) j v
at_other opens ws k j y v ne h = record { holds = get_set_other ws k j y ne ∙ h.holds; open_to = h.open_to }

pub at_same : (opens : ℕ → Type 0) (ws : List ℤ) (k : ℕ) (y v : ℤ) → IsAt opens ws k v → IsAt opens (slice_set ws k y) k y
at_same opens ws k y v h = record { holds = get_set_same ws k v y h.holds; open_to = h.open_to }

-- a word is one of a place
abbrev pub Within : Place → ℕ → Type 0
Within p k = (p.word ≤ k) × (k < p.word + size_of p.shape)

-- what lies apart from the word stays

pub held_stays : (opens : ℕ → Type 0) (ws : List ℤ) (w k : ℕ) (y : ℤ) (shape : Shape) (held : Held) → (k < w) ⊎ (w + size_of shape ≤ k)
    → HoldsHeld opens ws w shape held → HoldsHeld opens (slice_set ws k y) w shape held
held_stays opens ws w k y single (one v) (inl lt) h = at_other opens ws k w y v (λ e. omega arith) h
held_stays opens ws w k y single (one v) (inr le) h = at_other opens ws k w y v (λ e. omega arith) h
held_stays opens ws w k y single (many l vs) a h = absurd h
held_stays opens ws w k y (array low len) (one v) a h = absurd h
held_stays opens ws w k y (array low len) (many l vs) (inl lt) h =
    (h.0, h.1, λ j below. ((h.2 j below).0, (h.2 j below).1, at_other opens ws k (w + j) y (h.2 j below).0 (λ e. omega arith) (h.2 j below).2))
held_stays opens ws w k y (array low len) (many l vs) (inr le) h =
    (h.0, h.1, λ j below. ((h.2 j below).0, (h.2 j below).1, at_other opens ws k (w + j) y (h.2 j below).0 (λ e. omega arith) (h.2 j below).2))

apart_word : (p q : Place) (k : ℕ) → Apart p q → Within p k → (k < q.word) ⊎ (q.word + size_of q.shape ≤ k)
apart_word p q k (inl le) h = let a : k < p.word + size_of p.shape = h.1 in inl (omega arith)
apart_word p q k (inr le) h = let a : p.word ≤ k = h.0 in inr (omega arith)

turned_about : (p q : Place) → Apart p q → Apart q p
turned_about p q (inl a) = inr a
turned_about p q (inr a) = inl a

slot_stays : (opens : ℕ → Type 0) (ws : List ℤ) (k : ℕ) (y : ℤ) (p q : Place) (s : Slot) → Apart p q → Within p k → HoldsSlot opens ws q s → HoldsSlot opens (slice_set ws k y) q s
slot_stays opens ws k y p q s a i h = record { name = h.name; range = h.range; held = held_stays opens ws q.word k y q.shape s.held (apart_word p q k a i) h.held }

pub others_stay : (opens : ℕ → Type 0) (ws : List ℤ) (k : ℕ) (y : ℤ) (p : Place) (ps : List Place) (vs : Vars) → ApartFrom p ps → Within p k
    → Holds opens ws ps vs → Holds opens (slice_set ws k y) ps vs
others_stay opens ws k y p [] [] a i h = tt
others_stay opens ws k y p [] (s ∷ vs) a i h = absurd h
others_stay opens ws k y p (q ∷ ps) [] a i h = absurd h
others_stay opens ws k y p (q ∷ ps) (s ∷ vs) a i h = (slot_stays opens ws k y p q s a.0 i h.0, others_stay opens ws k y p ps vs a.1 i h.1)

found_apart : (p q : Place) (ps : List Place) (x : Name) → ApartFrom p ps → place_named x ps ≡ Some q → Apart p q
found_apart p q [] x a e = absurd (none-some q e)
found_apart p q (r ∷ ps) x a e =
    elim (cases_Bool (bytes_eq r.name x)) [
      | inl is ↦ subst (λ t. Apart p t) (same_Some r q (sym (ap (λ b. cond b (Some r) (place_named x ps)) is) ∙ e)) a.0
      | inr is ↦ found_apart p q ps x a.1 (sym (ap (λ b. cond b (Some r) (place_named x ps)) is) ∙ e)
    ]

-- the variable of a name holds something new, and the words hold it

pub replaced_holds : (opens : ℕ → Type 0) (ws : List ℤ) (k : ℕ) (y : ℤ) (p : Place) (ps : List Place) (vs : Vars) (x : Name) (held : Held)
    → AllApart ps → place_named x ps ≡ Some p → Within p k → HoldsHeld opens (slice_set ws k y) p.word p.shape held
    → Holds opens ws ps vs → Holds opens (slice_set ws k y) ps (replaced x held vs)
replaced_holds opens ws k y p [] vs x held a e i n h = absurd (none-some p e)
replaced_holds opens ws k y p (q ∷ ps) [] x held a e i n h = absurd h
replaced_holds opens ws k y p (q ∷ ps) (s ∷ vs) x held a e i n h =
    subst (λ m. Holds opens (slice_set ws k y) (q ∷ ps) (cond (bytes_eq m x) (record { name = s.name; range = s.range; held = held } ∷ vs) (s ∷ replaced x held vs))) (sym h.0.name)
    (elim (cases_Bool (bytes_eq q.name x)) [
      | inl is ↦ subst (λ b. Holds opens (slice_set ws k y) (q ∷ ps) (cond b (record { name = s.name; range = s.range; held = held } ∷ vs) (s ∷ replaced x held vs))) (sym is)
          (let same : p ≡ q = sym (same_Some q p (sym (ap (λ b. cond b (Some q) (place_named x ps)) is) ∙ e)) in
          let j : Within q k = subst (λ t. Within t k) same i in
          (record { name = h.0.name; range = h.0.range; held = subst (λ t. HoldsHeld opens (slice_set ws k y) t.word t.shape held) same n }, others_stay opens ws k y q ps vs a.0 j h.1))
      | inr is ↦ subst (λ b. Holds opens (slice_set ws k y) (q ∷ ps) (cond b (record { name = s.name; range = s.range; held = held } ∷ vs) (s ∷ replaced x held vs))) (sym is)
          (let rest : place_named x ps ≡ Some p = sym (ap (λ b. cond b (Some q) (place_named x ps)) is) ∙ e in
          (slot_stays opens ws k y p q s (turned_about q p (found_apart q p ps x a.0 rest)) i h.0, replaced_holds opens ws k y p ps vs x held a.1 rest i n h.1))
    ])

pub replaced_kept : (opens : ℕ → Type 0) (ws : List ℤ) (p : Place) (ps : List Place) (ks : List ℤ) (vs : Vars) (x : Name) (held : Held)
    → place_named x ps ≡ Some p → p.fixed ≡ false → Holds opens ws ps vs → KeptAll ps ks vs → KeptAll ps ks (replaced x held vs)
replaced_kept opens ws p [] ks vs x held e free h kept = absurd (none-some p e)
replaced_kept opens ws p (q ∷ ps) ks [] x held e free h kept = absurd h
replaced_kept opens ws p (q ∷ ps) [] (s ∷ vs) x held e free h kept = absurd kept
replaced_kept opens ws p (q ∷ ps) (k ∷ ks) (s ∷ vs) x held e free h kept =
    subst (λ m. KeptAll (q ∷ ps) (k ∷ ks) (cond (bytes_eq m x) (record { name = s.name; range = s.range; held = held } ∷ vs) (s ∷ replaced x held vs))) (sym h.0.name)
    (elim (cases_Bool (bytes_eq q.name x)) [
      | inl is ↦ subst (λ b. KeptAll (q ∷ ps) (k ∷ ks) (cond b (record { name = s.name; range = s.range; held = held } ∷ vs) (s ∷ replaced x held vs))) (sym is)
          (let same : p ≡ q = sym (same_Some q p (sym (ap (λ b. cond b (Some q) (place_named x ps)) is) ∙ e)) in
          (λ t. absurd (both_ways q.fixed (subst (λ r. r.fixed ≡ false) same free) t), kept.1))
      | inr is ↦ subst (λ b. KeptAll (q ∷ ps) (k ∷ ks) (cond b (record { name = s.name; range = s.range; held = held } ∷ vs) (s ∷ replaced x held vs))) (sym is)
          (kept.0, replaced_kept opens ws p ps ks vs x held (sym (ap (λ b. cond b (Some q) (place_named x ps)) is) ∙ e) free h.1 kept.1)
    ])

-- where a spot was found

abbrev FoundOwn : Option Place → Option Spot → Spot → Type 0
FoundOwn a b sp = ((p : Place) × (record { area = in_frame; place = p } ≡ sp) × (a ≡ Some p)) ⊎ ((a ≡ None) × (b ≡ Some sp))

found_own : (a : Option Place) (b : Option Spot) (sp : Spot) → or_else (in_area in_frame a) b ≡ Some sp → FoundOwn a b sp
found_own None b sp e = inr (refl, e)
found_own (Some p) b sp e = inl (p, same_Some _ sp e, refl)

found_in : (area : Area) (a : Option Place) (sp : Spot) → in_area area a ≡ Some sp → (p : Place) × (record { area = area; place = p } ≡ sp) × (a ≡ Some p)
found_in area None sp e = absurd (none-some sp e)
found_in area (Some p) sp e = (p, same_Some _ sp e, refl)

pair_some : (opens : ℕ → Type 0) (ws : List ℤ) (p : Place) (t : Option Slot) → Pair opens ws (Some p) t → (s : Slot) × (t ≡ Some s)
pair_some opens ws p None h = absurd h
pair_some opens ws p (Some s) h = (s, refl)

pair_none : (opens : ℕ → Type 0) (ws : List ℤ) (t : Option Slot) → Pair opens ws None t → t ≡ None
pair_none opens ws None h = refl
pair_none opens ws (Some s) h = absurd h

-- the variables of a process, and of each monitor, share no word
pub record Laid (e : Setting) : Type 0 where
  pub process : AllApart (process_places e.program e.number)
  pub monitor : (m : ℕ) → AllApart (monitor_places e.program m)

process_frame : in_process ≡ in_frame → ⊥
process_frame p = cc

monitor_frame : in_monitor ≡ in_frame → ⊥
monitor_frame p = cc

module _ (e : Setting) (o : Own) (c : Scope) (fixed : List ℤ) (before : Before) (w : Words) (m : Memory) (laid : Laid e) where
  -- the words of an area after a store
  abbrev After : Spot → ℕ → ℤ → Words
  After sp k y = with_words sp.area w (slice_set (words_of sp.area w) k y)

  fits_outer : (r : Owner) (x : Name) (sp : Spot) (k : ℕ) (y : ℤ) (held : Held) → Fits e o c fixed before w m → MayRun e o.job.inside r c.is_function
      → outer_spot e.program r x ≡ Some sp → (c.is_function ≡ true → sp.area ≡ in_frame) → Within sp.place k
      → HoldsHeld (opens_of e.image o.job.inside sp.area) (slice_set (words_of sp.area w) k y) sp.place.word sp.place.shape held
      → Fits e o c fixed before (After sp k y) (memory_after (home_of r) m x None held)
  fits_outer by_program x sp k y held f may is own i n = absurd (none-some sp is)
  fits_outer (by_process j) x sp k y held f may is own i n =
      let found : (p : Place) × (record { area = in_process; place = p } ≡ sp) × (place_named x (process_places e.program j) ≡ Some p) = found_in in_process (place_named x (process_places e.program j)) sp is in
      let named : place_named x (process_places e.program e.number) ≡ Some found.0 = subst (λ t. place_named x (process_places e.program t) ≡ Some found.0) may.0 found.2 in
      subst (λ t. Fits e o c fixed before (After t k y) (memory_after (home_of (by_process j)) m x None held)) found.1
      (record {
        frame = f.frame;
        others = record {
          process_words = replaced_holds (opens_of e.image o.job.inside in_process) w.owned k y found.0 (process_places e.program e.number) m.process x held laid.process named (subst (λ t. Within t.place k) (sym found.1) i)
              (subst (λ t. HoldsHeld (opens_of e.image o.job.inside t.area) (slice_set (words_of t.area w) k y) t.place.word t.place.shape held) (sym found.1) n) f.others.process_words;
          monitor_words = f.others.monitor_words;
        };
        same = λ is_function. absurd (process_frame (ap (λ t. t.area) found.1 ∙ own is_function));
      })
  fits_outer (by_monitor j) x sp k y held f may is own i n =
      let found : (p : Place) × (record { area = in_monitor; place = p } ≡ sp) × (place_named x (monitor_places e.program j) ≡ Some p) = found_in in_monitor (place_named x (monitor_places e.program j)) sp is in
      subst (λ t. Fits e o c fixed before (After t k y) (memory_after (home_of (by_monitor j)) m x None held)) found.1
      (record {
        frame = f.frame;
        others = record {
          process_words = f.others.process_words;
          monitor_words = subst (λ t. Holds (opens_of e.image o.job.inside in_monitor) (slice_set w.shared k y) (inside_places e.program t) (replaced x held m.monitor)) (sym may)
              (replaced_holds (opens_of e.image o.job.inside in_monitor) w.shared k y found.0 (monitor_places e.program j) m.monitor x held (laid.monitor j) found.2 (subst (λ t. Within t.place k) (sym found.1) i)
              (subst (λ t. HoldsHeld (opens_of e.image o.job.inside t.area) (slice_set (words_of t.area w) k y) t.place.word t.place.shape held) (sym found.1) n)
              (subst (λ t. Holds (opens_of e.image o.job.inside in_monitor) w.shared (inside_places e.program t) m.monitor) may f.others.monitor_words));
        };
        same = λ is_function. absurd (monitor_frame (ap (λ t. t.area) found.1 ∙ own is_function));
      })

  -- one word of a variable is stored, and the words hold the memory in which the variable holds what they then hold
  pub fits_stored : (x : Name) (sp : Spot) (k : ℕ) (y : ℤ) (held : Held) → Here e o c → AllApart c.own → Fits e o c fixed before w m
      → spot_of e.program c x ≡ Some sp → sp.place.fixed ≡ false → (c.is_function ≡ true → sp.area ≡ in_frame) → Within sp.place k
      → HoldsHeld (opens_of e.image o.job.inside sp.area) (slice_set (words_of sp.area w) k y) sp.place.word sp.place.shape held
      → Fits e o c fixed before (After sp k y) (memory_after (home_of c.owner) m x (slot_named x m.own) held)
  fits_stored x sp k y held here apart f is free own i n = by_found (found_own (place_named x c.own) (outer_spot e.program c.owner x) sp is)
    where
      by_found : FoundOwn (place_named x c.own) (outer_spot e.program c.owner x) sp → Fits e o c fixed before (After sp k y) (memory_after (home_of c.owner) m x (slot_named x m.own) held)
      by_found (inl found) =
          let slot : (s : Slot) × (slot_named x m.own ≡ Some s) =
          pair_some (λ k. Unit {0}) w.locals found.0 (slot_named x m.own)
          (subst (λ t. Pair (λ k. Unit {0}) w.locals t (slot_named x m.own)) found.2 (found_pair (λ k. Unit {0}) w.locals c.own m.own x f.frame.holds)) in
          subst (λ t. Fits e o c fixed before (After sp k y) (memory_after (home_of c.owner) m x t held)) (sym slot.1)
          (subst (λ t. Fits e o c fixed before (After t k y) (with_own m (replaced x held m.own))) found.1
          (record {
            frame = record {
              holds = replaced_holds (λ k. Unit {0}) w.locals k y found.0 c.own m.own x held apart found.2 (subst (λ t. Within t.place k) (sym found.1) i)
                  (subst (λ t. HoldsHeld (opens_of e.image o.job.inside t.area) (slice_set (words_of t.area w) k y) t.place.word t.place.shape held) (sym found.1) n) f.frame.holds;
              size = length-set w.locals k y ∙ f.frame.size;
              kept = replaced_kept (λ k. Unit {0}) w.locals found.0 c.own fixed m.own x held found.2 (subst (λ t. t.place.fixed ≡ false) (sym found.1) free) f.frame.holds f.frame.kept;
            };
            others = f.others;
            same = f.same;
          }))
      by_found (inr found) =
          let none : slot_named x m.own ≡ None =
          pair_none (λ k. Unit {0}) w.locals (slot_named x m.own)
          (subst (λ t. Pair (λ k. Unit {0}) w.locals t (slot_named x m.own)) found.0 (found_pair (λ k. Unit {0}) w.locals c.own m.own x f.frame.holds)) in
          subst (λ t. Fits e o c fixed before (After sp k y) (memory_after (home_of c.owner) m x t held)) (sym none)
          (fits_outer c.owner x sp k y held f here.may_run found.1 own i n)
