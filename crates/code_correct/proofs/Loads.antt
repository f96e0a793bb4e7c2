-- Loads of variables and of elements give what the source reads.
use Rattle.std.specs.Prelude.{◌≡◌, ◌+◌, ◌≤◌, ◌<◌, ◌⊎◌, ℕ, Bool, true, false, cond, ◌&&◌, List, [], ◌∷◌, Option, Some, None, ℤ, pos, negsuc, ◌+ℤ◌, ◌-ℤ◌, int_le, int_lt, length, slice_get, bytes_eq}
use Rattle.std.proofs.Common.{refl, sym, ◌∙◌, ap, subst, arith, inl, inr}
use Rattle.std.proofs.lemmas.Bool.{cases_lt, le-leb, lt-ltb, le-ltb, and_from, and_right}
use Rattle.syntax_tree.specs.Plain.{Name}
use Rattle.base.specs.Words.{Answer, word, raised}
use Rattle.source_semantics.specs.Store.{Held, one, many, Slot, Vars, slot_named, place_in, element_at, read, read_at}
use Rattle.source_semantics.specs.Run.{Memory, outer, slot_in, or_else, name_value, read_element}
use Rattle.machine_semantics.specs.Image.{Image}
use Rattle.machine_semantics.specs.State.{Operand, Value, State}
use Rattle.machine_semantics.specs.Effect as table
use Rattle.machine_semantics.specs.Effect.{Own, Outcome, Goes, Raises, Stuck, effect, is_reached}
use Rattle.code_spec.specs.Layout.{Owner, by_program, by_process, by_monitor, home_of, Shape, single, array, Place, Area, in_frame, in_process, in_monitor, Spot, Scope, in_area, place_named, spot_of, outer_spot, process_places, monitor_places}
use Rattle.code_spec.specs.Code.{load, load_at, load_name, load_shape, load_element}
use Rattle.code_spec.specs.Steps.{Words, stand}
use Rattle.code_spec.specs.Memory.{Setting, IsAt, HoldsHeld, HoldsSlot, Holds, opens_of, words_of, FitsOthers, Fits, Before, MayRun, Here, inside_places}
use Rattle.code_spec.specs.Proper.{IsValue, IsArray}
use Rattle.code_correct.proofs.Steps.{told}

-- one word of an area

pub load_told : (image : Image) (s : State) (o : Own) (w : Words) (q : ℕ) (os : List Operand) (a : Area) (k : ℕ) (v : ℤ)
    → IsAt (opens_of image o.job.inside a) (words_of a w) k v → effect image s (load a (pos k)) (stand o w q os) ≡ told o w q os (word v)
load_told image s o w q os in_frame k v h = ap (λ f. table.load f (stand o w q os)) h.holds
load_told image s o w q os in_process k v h = ap (λ f. table.load f (stand o w q os)) h.holds
load_told image s o w q os in_monitor k v h =
    ap (λ b. cond b (table.load (slice_get w.shared k) (stand o w q os)) Stuck) h.open_to ∙ ap (λ f. table.load f (stand o w q os)) h.holds

-- an element

found_element : (vs : List ℤ) (k : ℕ) (v : ℤ) → slice_get vs k ≡ Some v → element_at vs (Some k) ≡ word v
found_element vs k v e = ap (λ f. elim f as (λ x. Answer) [ Some u ↦ word u | None ↦ raised 3 ]) e

element_told : (o : Own) (w : Words) (q : ℕ) (os : List Operand) (k len : ℕ) (low : ℤ) (vs : List ℤ) (go : ℤ → Outcome) (d : ℤ) → length vs ≡ len
    → ((j : ℕ) → j < len → (v : ℤ) × (slice_get vs j ≡ Some v) × (go (pos (k + j)) ≡ told o w q os (word v)))
    → cond (int_le (pos 0) d && int_lt d (pos len)) (go (pos k +ℤ d)) (Raises 3) ≡ told o w q os (element_at vs (place_in low vs d))
element_told o w q os k len low vs go (negsuc n) e h = refl
element_told o w q os k len low vs go (pos j) e h = by_order (cases_lt j len)
  where
    by_order : (j < len) ⊎ (len ≤ j) → cond (int_le (pos 0) (pos j) && int_lt (pos j) (pos len)) (go (pos (k + j))) (Raises 3) ≡ told o w q os (element_at vs (place_in low vs (pos j)))
    by_order (inl lt) =
        ap (λ t. cond t (go (pos (k + j))) (Raises 3)) (and_from (int_le (pos 0) (pos j)) (int_lt (pos j) (pos len)) (le-leb 0 j (omega arith)) (lt-ltb j len lt))
        ∙ ((h j lt).2
        ∙ sym (ap (λ t. told o w q os (element_at vs (cond t (Some j) None))) (lt-ltb j (length vs) (omega arith)) ∙ ap (λ a. told o w q os a) (found_element vs j (h j lt).0 (h j lt).1)))
    by_order (inr le) =
        ap (λ t. cond t (go (pos (k + j))) (Raises 3)) (and_right (int_le (pos 0) (pos j)) (int_lt (pos j) (pos len)) (le-ltb j len le))
        ∙ sym (ap (λ t. told o w q os (element_at vs (cond t (Some j) None))) (le-ltb j (length vs) (omega arith)))

pub load_at_told : (image : Image) (s : State) (o : Own) (w : Words) (q : ℕ) (os : List Operand) (a : Area) (k len : ℕ) (low x : ℤ) (held : Held)
    → HoldsHeld (opens_of image o.job.inside a) (words_of a w) k (array low len) held
    → effect image s (load_at a (pos k) low (pos len)) (stand o w q (Value x ∷ os)) ≡ told o w q os (read_at held x)
load_at_told image s o w q os a k len low x (one v) h = absurd h
load_at_told image s o w q os in_frame k len low x (many l vs) h =
    element_told o w q os k len l vs (λ e. table.load (table.word_at w.locals e) (stand o w q os)) (x -ℤ low) h.1 (λ j lt. ((h.2 j lt).0, (h.2 j lt).1, load_told image s o w q os in_frame (k + j) (h.2 j lt).0 (h.2 j lt).2))
    ∙ ap (λ b. told o w q os (element_at vs (place_in l vs (x -ℤ b)))) (sym h.0)
load_at_told image s o w q os in_process k len low x (many l vs) h =
    element_told o w q os k len l vs (λ e. table.load (table.word_at w.owned e) (stand o w q os)) (x -ℤ low) h.1 (λ j lt. ((h.2 j lt).0, (h.2 j lt).1, load_told image s o w q os in_process (k + j) (h.2 j lt).0 (h.2 j lt).2))
    ∙ ap (λ b. told o w q os (element_at vs (place_in l vs (x -ℤ b)))) (sym h.0)
load_at_told image s o w q os in_monitor k len low x (many l vs) h =
    element_told o w q os k len l vs (λ e. table.load_mon image e (stand o w q os)) (x -ℤ low) h.1 (λ j lt. ((h.2 j lt).0, (h.2 j lt).1, load_told image s o w q os in_monitor (k + j) (h.2 j lt).0 (h.2 j lt).2))
    ∙ ap (λ b. told o w q os (element_at vs (place_in l vs (x -ℤ b)))) (sym h.0)

-- a name has a place where it has a variable

abbrev pub Pair : (ℕ → Type 0) → List ℤ → Option Place → Option Slot → Type 0
Pair opens ws None None = Unit {0}
Pair opens ws (Some p) (Some s) = HoldsSlot opens ws p s
Pair opens ws p s = ⊥

first_or : (opens : ℕ → Type 0) (ws : List ℤ) (p : Place) (s : Slot) (q : Option Place) (t : Option Slot) → HoldsSlot opens ws p s → Pair opens ws q t
    → (b : Bool) → Pair opens ws (cond b (Some p) q) (cond b (Some s) t)
first_or opens ws p s q t h k true = h
first_or opens ws p s q t h k false = k

pub found_pair : (opens : ℕ → Type 0) (ws : List ℤ) (ps : List Place) (vs : Vars) (x : Name) → Holds opens ws ps vs → Pair opens ws (place_named x ps) (slot_named x vs)
found_pair opens ws [] [] x h = tt
found_pair opens ws [] (s ∷ vs) x h = absurd h
found_pair opens ws (p ∷ ps) [] x h = absurd h
found_pair opens ws (p ∷ ps) (s ∷ vs) x h =
    subst (λ n. Pair opens ws (cond (bytes_eq p.name x) (Some p) (place_named x ps)) (cond (bytes_eq n x) (Some s) (slot_named x vs))) (sym h.0.name)
    (first_or opens ws p s (place_named x ps) (slot_named x vs) h.0 (found_pair opens ws ps vs x h.1) (bytes_eq p.name x))

-- the words hold the variable at the spot
abbrev pub SpotPair : Image → Option ℕ → Words → Option Spot → Option Slot → Type 0
SpotPair image inside w None None = Unit {0}
SpotPair image inside w (Some p) (Some s) = HoldsSlot (opens_of image inside p.area) (words_of p.area w) p.place s
SpotPair image inside w p s = ⊥

of_area : (image : Image) (inside : Option ℕ) (w : Words) (a : Area) (p : Option Place) (s : Option Slot) → Pair (opens_of image inside a) (words_of a w) p s
    → SpotPair image inside w (in_area a p) s
of_area image inside w a None None h = tt
of_area image inside w a (Some p) (Some s) h = h
of_area image inside w a None (Some s) h = absurd h
of_area image inside w a (Some p) None h = absurd h

either : (image : Image) (inside : Option ℕ) (w : Words) (p q : Option Spot) (s t : Option Slot) → SpotPair image inside w p s → SpotPair image inside w q t
    → SpotPair image inside w (or_else p q) (or_else s t)
either image inside w None q None t h k = k
either image inside w (Some p) q (Some s) t h k = h
either image inside w None q (Some s) t h k = absurd h
either image inside w (Some p) q None t h k = absurd h

pub outer_pair : (e : Setting) (inside : Option ℕ) (r : Owner) (b : Bool) (w : Words) (m : Memory) (x : Name) → MayRun e inside r b → FitsOthers e inside w.owned w.shared m.process m.monitor
    → SpotPair e.image inside w (outer_spot e.program r x) (slot_named x (outer (home_of r) m))
outer_pair e inside by_program b w m x may f = tt
outer_pair e inside (by_process k) b w m x may f =
    subst (λ n. SpotPair e.image inside w (in_area in_process (place_named x (process_places e.program n))) (slot_named x m.process)) (sym may.0)
    (of_area e.image inside w in_process (place_named x (process_places e.program e.number)) (slot_named x m.process)
    (found_pair (opens_of e.image inside in_process) w.owned (process_places e.program e.number) m.process x f.process_words))
outer_pair e inside (by_monitor k) b w m x may f =
    of_area e.image inside w in_monitor (place_named x (monitor_places e.program k)) (slot_named x m.monitor)
    (found_pair (opens_of e.image inside in_monitor) w.shared (monitor_places e.program k) m.monitor x
    (subst (λ n. Holds (opens_of e.image inside in_monitor) w.shared (inside_places e.program n) m.monitor) may f.monitor_words))

pub spot_pair : (e : Setting) (o : Own) (c : Scope) (fixed : List ℤ) (before : Before) (w : Words) (m : Memory) (x : Name) → Here e o c → Fits e o c fixed before w m
    → SpotPair e.image o.job.inside w (spot_of e.program c x) (slot_in (home_of c.owner) m x)
spot_pair e o c fixed before w m x here f =
    either e.image o.job.inside w (in_area in_frame (place_named x c.own)) (outer_spot e.program c.owner x) (slot_named x m.own) (slot_named x (outer (home_of c.owner) m))
    (of_area e.image o.job.inside w in_frame (place_named x c.own) (slot_named x m.own) (found_pair (λ k. Unit {0}) w.locals c.own m.own x f.frame.holds))
    (outer_pair e o.job.inside c.owner c.is_function w m x here.may_run f.others)

-- what a name is worth

held_single : (image : Image) (s : State) (o : Own) (w : Words) (q : ℕ) (os : List Operand) (a : Area) (k : ℕ) (shape : Shape) (held : Held)
    → shape ≡ single → HoldsHeld (opens_of image o.job.inside a) (words_of a w) k shape held → effect image s (load a (pos k)) (stand o w q os) ≡ told o w q os (read held)
held_single image s o w q os a k shape held e h = with_shape held (subst (λ t. HoldsHeld (opens_of image o.job.inside a) (words_of a w) k t held) e h)
  where
    with_shape : (held : Held) → HoldsHeld (opens_of image o.job.inside a) (words_of a w) k single held → effect image s (load a (pos k)) (stand o w q os) ≡ told o w q os (read held)
    with_shape (one v) h = load_told image s o w q os a k v h
    with_shape (many l vs) h = absurd h

pub name_told : (image : Image) (s : State) (o : Own) (w : Words) (q : ℕ) (os : List Operand) (known : Option (Name × ℤ)) (p : Option Spot) (t : Option Slot)
    → IsValue p known → SpotPair image o.job.inside w p t → effect image s (load_name p known) (stand o w q os) ≡ told o w q os (name_value t known)
name_told image s o w q os (Some k) None None v h = refl
name_told image s o w q os (Some k) None (Some t) v h = absurd h
name_told image s o w q os None None t v h = absurd v
name_told image s o w q os k (Some p) None v h = absurd h
name_told image s o w q os k (Some p) (Some t) v h = held_single image s o w q os p.area p.place.word p.place.shape t.held v h.held

pub element_is_told : (image : Image) (s : State) (o : Own) (w : Words) (q : ℕ) (os : List Operand) (x : ℤ) (p : Option Spot) (t : Option Slot)
    → IsArray p → SpotPair image o.job.inside w p t → effect image s (load_element p) (stand o w q (Value x ∷ os)) ≡ told o w q os (read_element t x)
element_is_told image s o w q os x None t v h = absurd v
element_is_told image s o w q os x (Some p) None v h = absurd h
element_is_told image s o w q os x (Some p) (Some t) v h =
    ap (λ u. effect image s (load_shape p.area p.place.word u) (stand o w q (Value x ∷ os))) v.2
    ∙ load_at_told image s o w q os p.area p.place.word v.1 v.0 x t.held (subst (λ u. HoldsHeld (opens_of image o.job.inside p.area) (words_of p.area w) p.place.word u t.held) v.2 h.held)
