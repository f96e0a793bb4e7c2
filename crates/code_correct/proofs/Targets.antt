-- The code of a store comes to its run.
use Rattle.std.specs.Prelude.{◌≡◌, ◌+◌, ◌≤◌, ◌<◌, ◌⊎◌, ℕ, true, false, cond, ◌&&◌, List, [], ◌∷◌, ◌++◌, Option, Some, None, ℤ, pos, negsuc, ◌+ℤ◌, ◌-ℤ◌, int_le, int_lt, nat_lt, length, slice_get, slice_set, option_map}
use Rattle.std.proofs.Common.{refl, sym, ◌∙◌, ap, subst, arith, inl, inr, length-set}
use Rattle.std.proofs.lemmas.Bool.{cases_lt, cases_eq, le-leb, lt-ltb, le-ltb, and_from, and_right}
use Rattle.syntax_tree.specs.Plain.{Name}
use Rattle.base.specs.Words.{Answer, word, raised}
use Rattle.source_semantics.specs.Store.{Held, one, many, Slot, slot_named, checked, stored, place_in}
use Rattle.source_semantics.specs.Run.{Memory, Run, goes, with_value, stored_held, stored_slot, store_to, memory_after, slot_in}
use Rattle.machine_isa.specs.declared.instr.Instr.{Instr}
use Rattle.machine_semantics.specs.Image.{Image}
use Rattle.machine_semantics.specs.State.{Operand, Value, State}
use Rattle.machine_semantics.specs.Effect as table
use Rattle.machine_semantics.specs.Effect.{Own, Outcome, Goes, Raises, Stuck, effect}
use Rattle.code_spec.specs.Layout.{home_of, single, array, size_of, Area, in_frame, in_process, in_monitor, Spot, Scope, spot_of}
use Rattle.code_spec.specs.Code.{store, store_at, store_shape, range_code, range_of_spot, store_spot, store_element}
use Rattle.code_spec.specs.Emits.{IsLine, At}
use Rattle.code_spec.specs.Steps.{Words, words, stand, Runs, arrived, moved}
use Rattle.code_spec.specs.Memory.{Setting, IsAt, HoldsHeld, HoldsSlot, AllApart, opens_of, words_of, with_words, Same, Fits, Before, Here}
use Rattle.code_spec.specs.Proper.{IsSingle, IsArray, IsFree, ProperTarget}
use Rattle.code_spec.specs.Stands.{Point, point, index_on, target_code}
use Rattle.code_spec.specs.Comes.{Got, Reached}
use Rattle.code_correct.proofs.Steps.{then_runs, fits_left, line_front, line_back, line_one}
use Rattle.code_correct.proofs.Loads.{SpotPair, spot_pair}
use Rattle.code_correct.proofs.Gets.{raise_here, range_gets}
use Rattle.code_correct.proofs.Stores.{at_same, at_other, get_set_same, get_set_other, Within, Laid, fits_stored}

-- one word is stored

abbrev pub put_word : Image → Own → Words → Area → ℤ → ℕ → List Operand → ℤ → Outcome
put_word image o w in_frame v q os e = table.store (table.word_at w.locals e) (table.set_local e v (stand o w q os))
put_word image o w in_process v q os e = table.store (table.word_at w.owned e) (table.set_own e v (stand o w q os))
put_word image o w in_monitor v q os e = table.store_mon image e v (stand o w q os)

put_word_told : (image : Image) (o : Own) (w : Words) (a : Area) (k : ℕ) (v u : ℤ) (q : ℕ) (os : List Operand) → IsAt (opens_of image o.job.inside a) (words_of a w) k u
    → put_word image o w a v q os (pos k) ≡ Goes (stand o (with_words a w (slice_set (words_of a w) k v)) q os)
put_word_told image o w in_frame k v u q os h = ap (λ f. table.store f (table.set_local (pos k) v (stand o w q os))) h.holds
put_word_told image o w in_process k v u q os h = ap (λ f. table.store f (table.set_own (pos k) v (stand o w q os))) h.holds
put_word_told image o w in_monitor k v u q os h =
    ap (λ b. cond b (table.store (slice_get w.shared k) (table.set_shared (pos k) v (stand o w q os))) Stuck) h.open_to
    ∙ ap (λ f. table.store f (table.set_shared (pos k) v (stand o w q os))) h.holds

store_told : (image : Image) (s : State) (o : Own) (w : Words) (a : Area) (k : ℕ) (v : ℤ) (q : ℕ) (os : List Operand)
    → effect image s (store a (pos k)) (stand o w q (Value v ∷ os)) ≡ put_word image o w a v q os (pos k)
store_told image s o w in_frame k v q os = refl
store_told image s o w in_process k v q os = refl
store_told image s o w in_monitor k v q os = refl

store_at_told : (image : Image) (s : State) (o : Own) (w : Words) (a : Area) (k len : ℕ) (low x v : ℤ) (q : ℕ) (os : List Operand)
    → effect image s (store_at a (pos k) low (pos len)) (stand o w q (Value v ∷ Value x ∷ os))
    ≡ cond (int_le (pos 0) (x -ℤ low) && int_lt (x -ℤ low) (pos len)) (put_word image o w a v q os (pos k +ℤ (x -ℤ low))) (Raises 3)
store_at_told image s o w in_frame k len low x v q os = refl
store_at_told image s o w in_process k len low x v q os = refl
store_at_told image s o w in_monitor k len low x v q os = refl

element_held : (opens : ℕ → Type 0) (ws : List ℤ) (k len j : ℕ) (low l : ℤ) (vs : List ℤ) (v : ℤ) → j < len → HoldsHeld opens ws k (array low len) (many l vs)
    → HoldsHeld opens (slice_set ws (k + j) v) k (array low len) (many l (slice_set vs j v))
element_held opens ws k len j low l vs v lt h = (h.0, length-set vs j v ∙ h.1, λ n below. by_order n below (cases_eq n j))
  where
    by_order : (n : ℕ) → n < len → (n ≡ j) ⊎ (n ≡ j → ⊥) → (u : ℤ) × (slice_get (slice_set vs j v) n ≡ Some u) × IsAt opens (slice_set ws (k + j) v) (k + n) u
    by_order n below (inl same) = subst (λ t. (u : ℤ) × (slice_get (slice_set vs j v) t ≡ Some u) × IsAt opens (slice_set ws (k + j) v) (k + t) u) (sym same)
        (v, get_set_same vs j (h.2 j lt).0 v (h.2 j lt).1, at_same opens ws (k + j) v (h.2 j lt).0 (h.2 j lt).2)
    by_order n below (inr other) =
        ((h.2 n below).0, get_set_other vs j n v other ∙ (h.2 n below).1, at_other opens ws (k + j) (k + n) v (h.2 n below).0 (λ e. other (omega arith)) (h.2 n below).2)

module _ (e : Setting) (o : Own) (c : Scope) (fixed : List ℤ) (before : Before) (m : Memory) (here : Here e o c) where
  -- a value, and what follows where it is a word
  pub value_runs : (z : Point) (r : ℕ) (start : Own) (between : List Operand) (a : Answer) (next : ℤ → Run) → Same z.scope before m → Runs e.image (Got e o c fixed before m r between a) start
      → ((v : ℤ) (u : Words) → Fits e o c fixed before u m → Runs e.image (Reached e o z before (next v)) (stand o u r (Value v ∷ between)))
      → Runs e.image (Reached e o z before (with_value a m next)) start
  value_runs z r start between (word v) next same h k = then_runs h (λ b g. subst (λ x. Runs e.image (Reached e o z before (next v)) x) (sym g.2) (k v g.0 g.1))
  value_runs z r start between (raised n) next same h k = then_runs h (λ b g. arrived (same, g))

module _ (e : Setting) (laid : Laid e) (o : Own) (c : Scope) (fixed : List ℤ) (before : Before) (m : Memory) (here : Here e o c) (apart : AllApart c.own) where
  -- where a store leads to
  abbrev Behind : ℕ → List Operand → Point
  Behind q os = point c fixed o.job.inside false q os

  -- the words of an area with a new word
  abbrev Put : Spot → ℕ → ℤ → Words → Words
  Put sp k y u = with_words sp.area u (slice_set (words_of sp.area u) k y)

  -- one word of a variable is stored
  word_runs : (x : Name) (sp : Spot) (k : ℕ) (y : ℤ) (held : Held) (w : Words) (p : ℕ) (os below : List Operand) (j : Instr) → Fits e o c fixed before w m → At e.image.code p j
      → spot_of e.program c x ≡ Some sp → sp.place.fixed ≡ false → (c.is_function ≡ true → sp.area ≡ in_frame) → Within sp.place k
      → ((s : State) (u : Words) → Fits e o c fixed before u m → effect e.image s j (stand o u (p + 1) os) ≡ Goes (stand o (Put sp k y u) (p + 1) below))
      → ((u : Words) → Fits e o c fixed before u m → HoldsHeld (opens_of e.image o.job.inside sp.area) (slice_set (words_of sp.area u) k y) sp.place.word sp.place.shape held)
      → Runs e.image (Reached e o (Behind (p + 1) below) before (goes (memory_after (home_of c.owner) m x (slot_named x m.own) held))) (stand o w p os)
  word_runs x sp k y held w p os below j f at is free own i does holds =
      moved j (λ us. stand o (Put sp k y (words w.locals w.owned us)) (p + 1) below) at
      (λ s us same. does s (words w.locals w.owned us) (fits_left e o c fixed before w us m f same))
      (λ us same. arrived (
        Put sp k y (words w.locals w.owned us),
        fits_stored e o c fixed before (words w.locals w.owned us) m laid x sp k y held here apart (fits_left e o c fixed before w us m f same) is free own i
            (holds (words w.locals w.owned us) (fits_left e o c fixed before w us m f same)),
        refl,
        refl,
        refl,
      ))

  -- what the words hold at a spot
  at_spot : (x : Name) (sp : Spot) (t : Slot) (u : Words) → spot_of e.program c x ≡ Some sp → slot_in (home_of c.owner) m x ≡ Some t → Fits e o c fixed before u m
      → HoldsSlot (opens_of e.image o.job.inside sp.area) (words_of sp.area u) sp.place t
  at_spot x sp t u is slot f =
      subst (λ y. SpotPair e.image o.job.inside u (Some sp) y) slot (subst (λ y. SpotPair e.image o.job.inside u y (slot_in (home_of c.owner) m x)) is (spot_pair e o c fixed before u m x here f))

  single_runs : (x : Name) (sp : Spot) (t : Slot) (w : Words) (p : ℕ) (os : List Operand) (v : ℤ) → Fits e o c fixed before w m
      → spot_of e.program c x ≡ Some sp → slot_in (home_of c.owner) m x ≡ Some t → sp.place.fixed ≡ false → (c.is_function ≡ true → sp.area ≡ in_frame) → sp.place.shape ≡ single
      → At e.image.code p (store sp.area (pos sp.place.word))
      → Runs e.image (Reached e o (Behind (p + 1) os) before (stored_held (home_of c.owner) m x (stored t.held None v))) (stand o w p (Value v ∷ os))
  single_runs x sp t w p os v f is slot free own shape at = by_held t.held (λ u g. subst (λ y. HoldsHeld (opens_of e.image o.job.inside sp.area) (words_of sp.area u) sp.place.word y t.held) shape (at_spot x sp t u is slot g).held)
    where
      by_held : (held : Held) → ((u : Words) → Fits e o c fixed before u m → HoldsHeld (opens_of e.image o.job.inside sp.area) (words_of sp.area u) sp.place.word single held)
          → Runs e.image (Reached e o (Behind (p + 1) os) before (stored_held (home_of c.owner) m x (stored held None v))) (stand o w p (Value v ∷ os))
      by_held (many l vs) h = absurd (h w f)
      by_held (one old) h =
          word_runs x sp sp.place.word v (one v) w p (Value v ∷ os) os (store sp.area (pos sp.place.word)) f at is free own
          (omega arith, subst (λ y. sp.place.word < sp.place.word + size_of y) (sym shape) (omega arith))
          (λ s u g. store_told e.image s o u sp.area sp.place.word v (p + 1) os ∙ put_word_told e.image o u sp.area sp.place.word v old (p + 1) os (h u g))
          (λ u g. subst (λ y. HoldsHeld (opens_of e.image o.job.inside sp.area) (slice_set (words_of sp.area u) sp.place.word v) sp.place.word y (one v)) (sym shape)
          (at_same (opens_of e.image o.job.inside sp.area) (words_of sp.area u) sp.place.word v old (h u g)))

  element_runs : (x : Name) (sp : Spot) (low l : ℤ) (len : ℕ) (vs : List ℤ) (w : Words) (p : ℕ) (os : List Operand) (j : Instr) (d ix v : ℤ) → Fits e o c fixed before w m
      → spot_of e.program c x ≡ Some sp → sp.place.fixed ≡ false → (c.is_function ≡ true → sp.area ≡ in_frame) → sp.place.shape ≡ array low len → length vs ≡ len
      → ((u : Words) → Fits e o c fixed before u m → HoldsHeld (opens_of e.image o.job.inside sp.area) (words_of sp.area u) sp.place.word (array low len) (many l vs)) → At e.image.code p j
      → ((s : State) (u : Words) → effect e.image s j (stand o u (p + 1) (Value v ∷ Value ix ∷ os))
      ≡ cond (int_le (pos 0) d && int_lt d (pos len)) (put_word e.image o u sp.area v (p + 1) os (pos sp.place.word +ℤ d)) (Raises 3))
      → Runs e.image (Reached e o (Behind (p + 1) os) before (stored_held (home_of c.owner) m x (option_map (λ n. many l (slice_set vs n v)) (place_in l vs d)))) (stand o w p (Value v ∷ Value ix ∷ os))
  element_runs x sp low l len vs w p os j (negsuc n) ix v f is free own shape size h at does = arrived (f.same, raise_here e o c fixed before m here w p (Value v ∷ Value ix ∷ os) j 3 f at (λ s u g. does s u))
  element_runs x sp low l len vs w p os j (pos n) ix v f is free own shape size h at does = by_order (cases_lt n len)
    where
      by_order : (n < len) ⊎ (len ≤ n)
          → Runs e.image (Reached e o (Behind (p + 1) os) before (stored_held (home_of c.owner) m x (option_map (λ k. many l (slice_set vs k v)) (place_in l vs (pos n))))) (stand o w p (Value v ∷ Value ix ∷ os))
      by_order (inl lt) =
          let within : nat_lt n (length vs) ≡ true = lt-ltb n (length vs) (omega arith) in
          subst (λ t. Runs e.image (Reached e o (Behind (p + 1) os) before (stored_held (home_of c.owner) m x (option_map (λ k. many l (slice_set vs k v)) (cond t (Some n) None)))) (stand o w p (Value v ∷ Value ix ∷ os))) (sym within)
          (word_runs x sp (sp.place.word + n) v (many l (slice_set vs n v)) w p (Value v ∷ Value ix ∷ os) os j f at is free own
          (omega arith, subst (λ t. sp.place.word + n < sp.place.word + size_of t) (sym shape) (omega arith))
          (λ s u g. does s u ∙ (ap (λ t. cond t (put_word e.image o u sp.area v (p + 1) os (pos (sp.place.word + n))) (Raises 3)) (and_from (int_le (pos 0) (pos n)) (int_lt (pos n) (pos len)) (le-leb 0 n (omega arith)) (lt-ltb n len lt))
          ∙ put_word_told e.image o u sp.area (sp.place.word + n) v ((h u g).2 n lt).0 (p + 1) os ((h u g).2 n lt).2))
          (λ u g. subst (λ t. HoldsHeld (opens_of e.image o.job.inside sp.area) (slice_set (words_of sp.area u) (sp.place.word + n) v) sp.place.word t (many l (slice_set vs n v))) (sym shape)
          (element_held (opens_of e.image o.job.inside sp.area) (words_of sp.area u) sp.place.word len n low l vs v lt (h u g))))
      by_order (inr le) =
          let past : nat_lt n (length vs) ≡ false = le-ltb n (length vs) (omega arith) in
          subst (λ t. Runs e.image (Reached e o (Behind (p + 1) os) before (stored_held (home_of c.owner) m x (option_map (λ k. many l (slice_set vs k v)) (cond t (Some n) None)))) (stand o w p (Value v ∷ Value ix ∷ os))) (sym past)
          (arrived (
            f.same,
            raise_here e o c fixed before m here w p (Value v ∷ Value ix ∷ os) j 3 f at
                (λ s u g. does s u ∙ ap (λ t. cond t (put_word e.image o u sp.area v (p + 1) os (pos (sp.place.word + n))) (Raises 3)) (and_right (int_le (pos 0) (pos n)) (int_lt (pos n) (pos len)) (le-ltb n len le))),
          ))

  part_runs : (x : Name) (sp : Spot) (t : Slot) (low : ℤ) (len : ℕ) (w : Words) (p : ℕ) (os : List Operand) (ix v : ℤ) → Fits e o c fixed before w m
      → spot_of e.program c x ≡ Some sp → slot_in (home_of c.owner) m x ≡ Some t → sp.place.fixed ≡ false → (c.is_function ≡ true → sp.area ≡ in_frame) → sp.place.shape ≡ array low len
      → At e.image.code p (store_at sp.area (pos sp.place.word) low (pos len))
      → Runs e.image (Reached e o (Behind (p + 1) os) before (stored_held (home_of c.owner) m x (stored t.held (Some ix) v))) (stand o w p (Value v ∷ Value ix ∷ os))
  part_runs x sp t low len w p os ix v f is slot free own shape at = by_held t.held (λ u g. subst (λ y. HoldsHeld (opens_of e.image o.job.inside sp.area) (words_of sp.area u) sp.place.word y t.held) shape (at_spot x sp t u is slot g).held)
    where
      by_held : (held : Held) → ((u : Words) → Fits e o c fixed before u m → HoldsHeld (opens_of e.image o.job.inside sp.area) (words_of sp.area u) sp.place.word (array low len) held)
          → Runs e.image (Reached e o (Behind (p + 1) os) before (stored_held (home_of c.owner) m x (stored held (Some ix) v))) (stand o w p (Value v ∷ Value ix ∷ os))
      by_held (one old) h = absurd (h w f)
      by_held (many l vs) h =
          element_runs x sp low l len vs w p os (store_at sp.area (pos sp.place.word) low (pos len)) (ix -ℤ l) ix v f is free own shape (h w f).1 h at
          (λ s u. store_at_told e.image s o u sp.area sp.place.word len low ix v (p + 1) os
          ∙ ap (λ b. cond (int_le (pos 0) (ix -ℤ b) && int_lt (ix -ℤ b) (pos len)) (put_word e.image o u sp.area v (p + 1) os (pos sp.place.word +ℤ (ix -ℤ b))) (Raises 3)) (sym (h w f).0))

  -- the check of the range, and then the store

  whole_runs : (x : Name) (sp : Option Spot) (slot : Option Slot) (w : Words) (p q : ℕ) (os : List Operand) (v : ℤ) → Fits e o c fixed before w m
      → spot_of e.program c x ≡ sp → slot_in (home_of c.owner) m x ≡ slot → SpotPair e.image o.job.inside w sp slot → IsSingle sp → IsFree c.is_function sp
      → IsLine e.image.code p q (range_code (range_of_spot sp) ++ store_spot sp)
      → Runs e.image (Reached e o (Behind q os) before (stored_slot (home_of c.owner) m (record { name = x; index = None }) v slot)) (stand o w p (Value v ∷ os))
  whole_runs x None slot w p q os v f is at pair is_one free line = absurd is_one
  whole_runs x (Some sp) None w p q os v f is at pair is_one free line = absurd pair
  whole_runs x (Some sp) (Some t) w p q os v f is at pair is_one free line =
      let range : IsLine e.image.code p (p + length (range_code sp.place.range)) (range_code sp.place.range) = line_front e.image.code p q (range_code sp.place.range) (store_spot (Some sp)) line in
      let last : At e.image.code (p + length (range_code sp.place.range)) (store sp.area (pos sp.place.word)) × (q ≡ p + length (range_code sp.place.range) + 1) =
      line_one e.image.code (p + length (range_code sp.place.range)) q (store sp.area (pos sp.place.word)) (line_back e.image.code p q (range_code sp.place.range) (store_spot (Some sp)) line) in
      value_runs e o c fixed before m here (Behind q os) (p + length (range_code sp.place.range)) (stand o w p (Value v ∷ os)) os (checked t.range v) (λ y. stored_held (home_of c.owner) m x (stored t.held None y)) f.same
      (subst (λ r. Runs e.image (Got e o c fixed before m (p + length (range_code sp.place.range)) os (checked r v)) (stand o w p (Value v ∷ os))) (sym pair.range)
      (range_gets e o c fixed before m here w p (p + length (range_code sp.place.range)) os v sp.place.range f range))
      (λ y u g. subst (λ n. Runs e.image (Reached e o (Behind n os) before (stored_held (home_of c.owner) m x (stored t.held None y))) (stand o u (p + length (range_code sp.place.range)) (Value y ∷ os))) (sym last.1)
      (single_runs x sp t u (p + length (range_code sp.place.range)) os y g is at free.0 free.1 is_one last.0))

  indexed_runs : (x : Name) (ix : ℤ) (sp : Option Spot) (slot : Option Slot) (w : Words) (p q : ℕ) (os : List Operand) (v : ℤ) → Fits e o c fixed before w m
      → spot_of e.program c x ≡ sp → slot_in (home_of c.owner) m x ≡ slot → SpotPair e.image o.job.inside w sp slot → IsArray sp → IsFree c.is_function sp
      → IsLine e.image.code p q (range_code (range_of_spot sp) ++ store_element sp)
      → Runs e.image (Reached e o (Behind q os) before (stored_slot (home_of c.owner) m (record { name = x; index = Some ix }) v slot)) (stand o w p (Value v ∷ Value ix ∷ os))
  indexed_runs x ix None slot w p q os v f is at pair arr free line = absurd arr
  indexed_runs x ix (Some sp) None w p q os v f is at pair arr free line = absurd pair
  indexed_runs x ix (Some sp) (Some t) w p q os v f is at pair arr free line =
      let whole : IsLine e.image.code p q (range_code sp.place.range ++ (store_at sp.area (pos sp.place.word) arr.0 (pos arr.1) ∷ [])) =
      subst (λ y. IsLine e.image.code p q (range_code sp.place.range ++ store_shape sp.area sp.place.word y)) arr.2 line in
      let range : IsLine e.image.code p (p + length (range_code sp.place.range)) (range_code sp.place.range) = line_front e.image.code p q (range_code sp.place.range) _ whole in
      let last : At e.image.code (p + length (range_code sp.place.range)) (store_at sp.area (pos sp.place.word) arr.0 (pos arr.1)) × (q ≡ p + length (range_code sp.place.range) + 1) =
      line_one e.image.code (p + length (range_code sp.place.range)) q (store_at sp.area (pos sp.place.word) arr.0 (pos arr.1)) (line_back e.image.code p q (range_code sp.place.range) (store_at sp.area (pos sp.place.word) arr.0 (pos arr.1) ∷ []) whole) in
      value_runs e o c fixed before m here (Behind q os) (p + length (range_code sp.place.range)) (stand o w p (Value v ∷ Value ix ∷ os)) (Value ix ∷ os) (checked t.range v)
      (λ y. stored_held (home_of c.owner) m x (stored t.held (Some ix) y)) f.same
      (subst (λ r. Runs e.image (Got e o c fixed before m (p + length (range_code sp.place.range)) (Value ix ∷ os) (checked r v)) (stand o w p (Value v ∷ Value ix ∷ os))) (sym pair.range)
      (range_gets e o c fixed before m here w p (p + length (range_code sp.place.range)) (Value ix ∷ os) v sp.place.range f range))
      (λ y u g. subst (λ n. Runs e.image (Reached e o (Behind n os) before (stored_held (home_of c.owner) m x (stored t.held (Some ix) y))) (stand o u (p + length (range_code sp.place.range)) (Value y ∷ Value ix ∷ os))) (sym last.1)
      (part_runs x sp t arr.0 arr.1 u (p + length (range_code sp.place.range)) os ix y g is at free.0 free.1 arr.2 last.0))

  -- a store of a value, the top operand, above an index that was evaluated before
  pub store_runs : (x : Name) (ix : Option ℤ) (w : Words) (p q : ℕ) (os : List Operand) (v : ℤ) → Fits e o c fixed before w m → ProperTarget e c x ix → IsLine e.image.code p q (target_code e.program c x ix)
      → Runs e.image (Reached e o (Behind q os) before (store_to (home_of c.owner) m (record { name = x; index = ix }) v)) (stand o w p (Value v ∷ index_on ix os))
  store_runs x None w p q os v f ok line =
      whole_runs x (spot_of e.program c x) (slot_in (home_of c.owner) m x) w p q os v f refl refl (spot_pair e o c fixed before w m x here f) ok.0 ok.1 line
  store_runs x (Some ix) w p q os v f ok line =
      indexed_runs x ix (spot_of e.program c x) (slot_in (home_of c.owner) m x) w p q os v f refl refl (spot_pair e o c fixed before w m x here f) ok.0 ok.1 line
