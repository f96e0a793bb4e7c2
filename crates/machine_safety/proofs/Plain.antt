-- Plain instructions are not stuck.
use Rattle.std.proofs.Common.{◌≡◌, ◌≤◌, ◌<◌, ◌+◌, ◌⊎◌, inl, inr, ℕ, zero, suc, List, [], ◌∷◌, Option, Some, None, length, arith, refl, ap, sym, subst, ◌∙◌, true, false, Bool, length-set}
use Rattle.std.specs.Prelude.{slice_get, cond, ℤ, pos, negsuc, ◌+ℤ◌, ◌-ℤ◌, int_le, int_lt, ◌&&◌}
use Rattle.std.proofs.lemmas.Bool.{cases_Bool}
use Rattle.std.proofs.lemmas.Bool.Decides.{nat_tests}
use Rattle.machine_isa.specs.declared.instr.Instr.TheVariants as i
use Rattle.base.specs.Words.{Answer, word, raised}
use Rattle.machine_semantics.specs.Image.{Image, Monitor}
use Rattle.machine_semantics.specs.State.{Operand, Value, Counter, State}
use Rattle.machine_semantics.specs.Effect.{Own, Outcome, Goes, Raises, Stuck, holding, give, take_one, one, two, answer, word_at, load, store, set_local, set_own, set_shared, is_among_some, is_reached, load_mon, store_mon, element, queue, signal, broadcast, empty, get, put, raise}
use Rattle.machine_semantics.specs.Part.{Part, Kind, Plain, kinds, IsSized, IsBelow}
use Rattle.machine_semantics.specs.SafeTerms.{GoesOn, After, IsIn, PlainIsSafe}

-- ---- operands

take_one_goes : (P : Own → Type 0) (os : List Operand) (o : Own) (go : ℤ → Own → Outcome) (ks : List Kind) → kinds os ≡ Plain ∷ ks
    → ((x : ℤ) (rest : List Operand) → kinds rest ≡ ks → GoesOn P (go x (holding rest o))) → GoesOn P (take_one os o go)
take_one_goes P (Value x ∷ rest) o go ks is h = h x rest cc
take_one_goes P (Counter n ∷ rest) o go ks is h = absurd cc
take_one_goes P [] o go ks is h = absurd cc

pub one_goes : (P : Own → Type 0) (o : Own) (go : ℤ → Own → Outcome) (ks : List Kind) → kinds o.job.operands ≡ Plain ∷ ks
    → ((x : ℤ) (rest : List Operand) → kinds rest ≡ ks → GoesOn P (go x (holding rest o))) → GoesOn P (one o go)
one_goes P o go ks is h = take_one_goes P o.job.operands o go ks is h

pub two_goes : (P : Own → Type 0) (o : Own) (go : ℤ → ℤ → Own → Outcome) (ks : List Kind) → kinds o.job.operands ≡ Plain ∷ Plain ∷ ks
    → ((x y : ℤ) (rest : List Operand) → kinds rest ≡ ks → GoesOn P (go x y (holding rest o))) → GoesOn P (two o go)
two_goes P o go ks is h =
    one_goes P o (λ y p. one p (λ x q. go x y q)) (Plain ∷ ks) is
    (λ y more e. one_goes P (holding more o) (λ x q. go x y q) ks e (λ x rest e'. h x y rest e'))

-- ---- what a plain instruction leaves

given : (o : Own) (z : ℤ) (rest : List Operand) (ks : List Kind) → kinds rest ≡ ks → After o (Plain ∷ ks) (give z (holding rest o))
given o z rest ks e = record { place = refl; done = refl; dispatch_ticks = refl; callers = refl; handling = refl; inside = refl; locals = refl; operands = ap (λ (xs : List Kind). Plain ∷ xs) e; owned = refl; shared = refl }

taken : (o : Own) (rest : List Operand) (ks : List Kind) → kinds rest ≡ ks → After o ks (holding rest o)
taken o rest ks e = record { place = refl; done = refl; dispatch_ticks = refl; callers = refl; handling = refl; inside = refl; locals = refl; operands = e; owned = refl; shared = refl }

answered : (a : Answer) (o : Own) (rest : List Operand) (ks : List Kind) → kinds rest ≡ ks → GoesOn (After o (Plain ∷ ks)) (answer a (holding rest o))
answered (word z) o rest ks e = given o z rest ks e
answered (raised n) o rest ks e = tt

-- ---- words

has_word : (words : List ℤ) (j : ℕ) → j < length words → (z : ℤ) × (slice_get words j ≡ Some z)
has_word [] j h = absurd (omega arith)
has_word (w ∷ ws) zero h = (w, refl)
has_word (w ∷ ws) (suc j) h = has_word ws j (omega arith)

loaded : (P : Own → Type 0) (words : List ℤ) (j : ℕ) (o : Own) → j < length words → ((z : ℤ) → P (give z o)) → GoesOn P (load (word_at words (pos j)) o)
loaded P words j o h all = let found : (z : ℤ) × (slice_get words j ≡ Some z) = has_word words j h in subst (λ f. GoesOn P (load f o)) (sym found.1) (all found.0)

stored : (P : Own → Type 0) (words : List ℤ) (j : ℕ) (o : Own) → j < length words → P o → GoesOn P (store (word_at words (pos j)) o)
stored P words j o h done = let found : (z : ℤ) × (slice_get words j ≡ Some z) = has_word words j h in subst (λ f. GoesOn P (store f o)) (sym found.1) done

reached : (image : Image) (inside : Option ℕ) (m : ℕ) (mon : Monitor) (j : ℕ) → inside ≡ Some m → slice_get image.monitors m ≡ Some mon
    → mon.base ≤ j → j < mon.base + mon.words → is_reached image inside (pos j) ≡ true
reached image inside m mon j inside_is there above below =
    ap (λ o. is_reached image o (pos j)) inside_is ∙ (ap (λ o. is_among_some o (pos j)) there ∙ grind (arith, nat_tests))

-- ---- elements

within_test : (n count : ℕ) → int_le (pos 0) (pos n) && int_lt (pos n) (pos count) ≡ true → n < count
within_test n count is = grind (arith, nat_tests, is)

element_from : (P : Own → Type 0) (from count : ℕ) (d : ℤ) (go : ℤ → Outcome) → ((j : ℕ) → from ≤ j → j < from + count → GoesOn P (go (pos j)))
    → GoesOn P (cond (int_le (pos 0) d && int_lt d (pos count)) (go (pos from +ℤ d)) (Raises 3))
element_from P from count (negsuc n) go h = tt
element_from P from count (pos n) go h =
    let test : Bool = int_le (pos 0) (pos n) && int_lt (pos n) (pos count) in
    elim (cases_Bool test) [
      | inl is ↦ subst (λ b. GoesOn P (cond b (go (pos (from + n))) (Raises 3))) (sym is) (h (from + n) (omega arith) (let lt : n < count = within_test n count is in omega arith))
      | inr is ↦ subst (λ b. GoesOn P (cond b (go (pos (from + n))) (Raises 3))) (sym is) tt
    ]

element_goes : (P : Own → Type 0) (w low len x : ℤ) (from count : ℕ) (go : ℤ → Outcome) → w ≡ pos from → len ≡ pos count
    → ((j : ℕ) → from ≤ j → j < from + count → GoesOn P (go (pos j))) → GoesOn P (element w low len x go)
element_goes P w low len x from count go w_is len_is h =
    subst (λ v. GoesOn P (element v low len x go)) (sym w_is) (subst (λ l. GoesOn P (element (pos from) low l x go)) (sym len_is) (element_from P from count (x -ℤ low) go h))

-- the process is inside the monitor of the entry whose word is reached
is_inside_it : (part : Part) (o : Own) (m : ℕ) → (part.monitor ≡ None) ⊎ (o.job.inside ≡ part.monitor) → part.monitor ≡ Some m → o.job.inside ≡ Some m
is_inside_it part o m (inl none) is = absurd cc
is_inside_it part o m (inr e) is = e ∙ is

loaded_mon : (image : Image) (s : State) (part : Part) (o : Own) (m : ℕ) (mon : Monitor) (rest : List Operand) (ks : List Kind) (j : ℕ)
    → IsSized image s o.shared → o.job.inside ≡ Some m → slice_get image.monitors m ≡ Some mon → mon.base ≤ j → j < mon.base + mon.words → kinds rest ≡ ks
    → GoesOn (After o (Plain ∷ ks)) (load_mon image (pos j) (holding rest o))
loaded_mon image s part o m mon rest ks j sized inside there above below e =
    subst (λ b. GoesOn (After o (Plain ∷ ks)) (cond b (load (word_at o.shared (pos j)) (holding rest o)) Stuck)) (sym (reached image o.job.inside m mon j inside there above below))
    (loaded (After o (Plain ∷ ks)) o.shared j (holding rest o) (omega (arith, sized.shared m mon there)) (λ z. given o z rest ks e))

stored_mon : (image : Image) (s : State) (part : Part) (o : Own) (m : ℕ) (mon : Monitor) (z : ℤ) (rest : List Operand) (ks : List Kind) (j : ℕ)
    → IsSized image s o.shared → o.job.inside ≡ Some m → slice_get image.monitors m ≡ Some mon → mon.base ≤ j → j < mon.base + mon.words → kinds rest ≡ ks
    → GoesOn (After o ks) (store_mon image (pos j) z (holding rest o))
stored_mon image s part o m mon z rest ks j sized inside there above below e =
    subst (λ b. GoesOn (After o ks) (cond b (store (word_at o.shared (pos j)) (set_shared (pos j) z (holding rest o))) Stuck)) (sym (reached image o.job.inside m mon j inside there above below))
    (stored (After o ks) o.shared j (set_shared (pos j) z (holding rest o)) (omega (arith, sized.shared m mon there))
    (record { place = refl; done = refl; dispatch_ticks = refl; callers = refl; handling = refl; inside = refl; locals = refl; operands = e; owned = refl; shared = length-set o.shared j z }))

loaded_local : (part : Part) (o : Own) (rest : List Operand) (ks : List Kind) (j : ℕ) → IsIn part o → j < part.locals → kinds rest ≡ ks
    → GoesOn (After o (Plain ∷ ks)) (load (word_at o.job.locals (pos j)) (holding rest o))
loaded_local part o rest ks j here h e = loaded (After o (Plain ∷ ks)) o.job.locals j (holding rest o) (omega (arith, here.locals)) (λ z. given o z rest ks e)

stored_local : (part : Part) (o : Own) (z : ℤ) (rest : List Operand) (ks : List Kind) (j : ℕ) → IsIn part o → j < part.locals → kinds rest ≡ ks
    → GoesOn (After o ks) (store (word_at o.job.locals (pos j)) (set_local (pos j) z (holding rest o)))
stored_local part o z rest ks j here h e =
    stored (After o ks) o.job.locals j (set_local (pos j) z (holding rest o)) (omega (arith, here.locals))
    (record { place = refl; done = refl; dispatch_ticks = refl; callers = refl; handling = refl; inside = refl; locals = length-set o.job.locals j z; operands = e; owned = refl; shared = refl })

loaded_own : (part : Part) (o : Own) (rest : List Operand) (ks : List Kind) (j : ℕ) → IsIn part o → j < part.owned → kinds rest ≡ ks
    → GoesOn (After o (Plain ∷ ks)) (load (word_at o.owned (pos j)) (holding rest o))
loaded_own part o rest ks j here h e = loaded (After o (Plain ∷ ks)) o.owned j (holding rest o) (omega (arith, here.owned)) (λ z. given o z rest ks e)

stored_own : (part : Part) (o : Own) (z : ℤ) (rest : List Operand) (ks : List Kind) (j : ℕ) → IsIn part o → j < part.owned → kinds rest ≡ ks
    → GoesOn (After o ks) (store (word_at o.owned (pos j)) (set_own (pos j) z (holding rest o)))
stored_own part o z rest ks j here h e =
    stored (After o ks) o.owned j (set_own (pos j) z (holding rest o)) (omega (arith, here.owned))
    (record { place = refl; done = refl; dispatch_ticks = refl; callers = refl; handling = refl; inside = refl; locals = refl; operands = e; owned = length-set o.owned j z; shared = refl })

-- ---- queues and devices

has_queue : (queues : List (List ℕ)) (j : ℕ) → j < length queues → (q : List ℕ) × (slice_get queues j ≡ Some q)
has_queue [] j h = absurd (omega arith)
has_queue (q ∷ qs) zero h = (q, refl)
has_queue (q ∷ qs) (suc j) h = has_queue qs j (omega arith)

-- what an instruction on a queue or a device gives, where that is there
with_queue : (P : Outcome → Type 0) (image : Image) (s : State) (c : ℤ) (f : Option (List ℕ) → ℤ → Outcome) → length s.queues ≡ length image.conditions → IsBelow c (length image.conditions)
    → ((q : List ℕ) (j : ℕ) → P (f (Some q) (pos j))) → P (f (queue s c) c)
with_queue P image s c f long (j, c_is, below) h =
    let found : (q : List ℕ) × (slice_get s.queues j ≡ Some q) = has_queue s.queues j (omega arith) in
    subst (λ d. P (f (queue s d) d)) (sym c_is) (subst (λ o. P (f o (pos j))) (sym found.1) (h found.0 j))

with_device : (P : Outcome → Type 0) (image : Image) (s : State) (d : ℤ) (f : Option ℤ → ℤ → Outcome) → length s.devices ≡ length image.devices → IsBelow d (length image.devices)
    → ((z : ℤ) (j : ℕ) → P (f (Some z) (pos j))) → P (f (word_at s.devices d) d)
with_device P image s d f long (j, d_is, below) h =
    let found : (z : ℤ) × (slice_get s.devices j ≡ Some z) = has_word s.devices j (omega arith) in
    subst (λ v. P (f (word_at s.devices v) v)) (sym d_is) (subst (λ o. P (f o (pos j))) (sym found.1) (h found.0 j))

ranged : (b : Bool) (o : Own) (x : ℤ) (rest : List Operand) (ks : List Kind) → kinds rest ≡ ks → GoesOn (After o (Plain ∷ ks)) (cond b (Goes (give x (holding rest o))) (Raises 3))
ranged true o x rest ks e = given o x rest ks e
ranged false o x rest ks e = tt

-- ---- the table

pub plain_is_safe : PlainIsSafe
plain_is_safe image s part (i.Push value) o ks ok sized here entered is = given o value o.job.operands ks is
plain_is_safe image s part (i.LoadLocal w) o ks ok sized here entered is = subst (λ v. GoesOn (After o (Plain ∷ ks)) (load (word_at o.job.locals v) o)) (sym ok.1) (loaded_local part o o.job.operands ks ok.0 here ok.2 is)
plain_is_safe image s part (i.StoreLocal w) o ks ok sized here entered is = one_goes (After o ks) o _ ks is (λ x rest e. subst (λ v. GoesOn (After o ks) (store (word_at o.job.locals v) (set_local v x (holding rest o)))) (sym ok.1) (stored_local part o x rest ks ok.0 here ok.2 e))
plain_is_safe image s part (i.LoadOwn w) o ks ok sized here entered is = subst (λ v. GoesOn (After o (Plain ∷ ks)) (load (word_at o.owned v) o)) (sym ok.1) (loaded_own part o o.job.operands ks ok.0 here ok.2 is)
plain_is_safe image s part (i.StoreOwn w) o ks ok sized here entered is = one_goes (After o ks) o _ ks is (λ x rest e. subst (λ v. GoesOn (After o ks) (store (word_at o.owned v) (set_own v x (holding rest o)))) (sym ok.1) (stored_own part o x rest ks ok.0 here ok.2 e))
plain_is_safe image s part (i.LoadMon w) o ks ok sized here entered is = subst (λ v. GoesOn (After o (Plain ∷ ks)) (load_mon image v o)) (sym ok.word) (loaded_mon image s part o ok.number ok.mon o.job.operands ks ok.from sized (is_inside_it part o ok.number entered ok.is_entry) ok.there ok.above (let c : ok.count ≡ 1 = cc in omega (arith, ok.below)) is)
plain_is_safe image s part (i.StoreMon w) o ks ok sized here entered is = one_goes (After o ks) o _ ks is (λ x rest e. subst (λ v. GoesOn (After o ks) (store_mon image v x (holding rest o))) (sym ok.word) (stored_mon image s part o ok.number ok.mon x rest ks ok.from sized (is_inside_it part o ok.number entered ok.is_entry) ok.there ok.above (let c : ok.count ≡ 1 = cc in omega (arith, ok.below)) e))
plain_is_safe image s part (i.LoadLocalAt w low len) o ks ok sized here entered is = one_goes (After o (Plain ∷ ks)) o _ ks is (λ x rest e. element_goes (After o (Plain ∷ ks)) w low len x ok.from ok.count (λ j. load (word_at o.job.locals j) (holding rest o)) ok.word ok.long (λ j from_it below_it. loaded_local part o rest ks j here (omega (arith, ok.fits)) e))
plain_is_safe image s part (i.StoreLocalAt w low len) o ks ok sized here entered is = two_goes (After o ks) o _ ks is (λ x y rest e. element_goes (After o ks) w low len x ok.from ok.count (λ j. store (word_at o.job.locals j) (set_local j y (holding rest o))) ok.word ok.long (λ j from_it below_it. stored_local part o y rest ks j here (omega (arith, ok.fits)) e))
plain_is_safe image s part (i.LoadOwnAt w low len) o ks ok sized here entered is = one_goes (After o (Plain ∷ ks)) o _ ks is (λ x rest e. element_goes (After o (Plain ∷ ks)) w low len x ok.from ok.count (λ j. load (word_at o.owned j) (holding rest o)) ok.word ok.long (λ j from_it below_it. loaded_own part o rest ks j here (omega (arith, ok.fits)) e))
plain_is_safe image s part (i.StoreOwnAt w low len) o ks ok sized here entered is = two_goes (After o ks) o _ ks is (λ x y rest e. element_goes (After o ks) w low len x ok.from ok.count (λ j. store (word_at o.owned j) (set_own j y (holding rest o))) ok.word ok.long (λ j from_it below_it. stored_own part o y rest ks j here (omega (arith, ok.fits)) e))
plain_is_safe image s part (i.LoadMonAt w low len) o ks ok sized here entered is = one_goes (After o (Plain ∷ ks)) o _ ks is (λ x rest e. element_goes (After o (Plain ∷ ks)) w low len x ok.from ok.count (λ j. load_mon image j (holding rest o)) ok.word ok.long (λ j from_it below_it. loaded_mon image s part o ok.number ok.mon rest ks j sized (is_inside_it part o ok.number entered ok.is_entry) ok.there (omega (arith, ok.above)) (omega (arith, ok.below)) e))
plain_is_safe image s part (i.StoreMonAt w low len) o ks ok sized here entered is = two_goes (After o ks) o _ ks is (λ x y rest e. element_goes (After o ks) w low len x ok.from ok.count (λ j. store_mon image j y (holding rest o)) ok.word ok.long (λ j from_it below_it. stored_mon image s part o ok.number ok.mon y rest ks j sized (is_inside_it part o ok.number entered ok.is_entry) ok.there (omega (arith, ok.above)) (omega (arith, ok.below)) e))
plain_is_safe image s part i.Neg o ks ok sized here entered is = one_goes (After o (Plain ∷ ks)) o _ ks is (λ x rest e. answered _ o rest ks e)
plain_is_safe image s part i.Not o ks ok sized here entered is = one_goes (After o (Plain ∷ ks)) o _ ks is (λ x rest e. given o _ rest ks e)
plain_is_safe image s part i.And o ks ok sized here entered is = two_goes (After o (Plain ∷ ks)) o _ ks is (λ x y rest e. given o _ rest ks e)
plain_is_safe image s part i.Or o ks ok sized here entered is = two_goes (After o (Plain ∷ ks)) o _ ks is (λ x y rest e. given o _ rest ks e)
plain_is_safe image s part i.Eq o ks ok sized here entered is = two_goes (After o (Plain ∷ ks)) o _ ks is (λ x y rest e. given o _ rest ks e)
plain_is_safe image s part i.Ne o ks ok sized here entered is = two_goes (After o (Plain ∷ ks)) o _ ks is (λ x y rest e. given o _ rest ks e)
plain_is_safe image s part i.Lt o ks ok sized here entered is = two_goes (After o (Plain ∷ ks)) o _ ks is (λ x y rest e. given o _ rest ks e)
plain_is_safe image s part i.Le o ks ok sized here entered is = two_goes (After o (Plain ∷ ks)) o _ ks is (λ x y rest e. given o _ rest ks e)
plain_is_safe image s part i.Gt o ks ok sized here entered is = two_goes (After o (Plain ∷ ks)) o _ ks is (λ x y rest e. given o _ rest ks e)
plain_is_safe image s part i.Ge o ks ok sized here entered is = two_goes (After o (Plain ∷ ks)) o _ ks is (λ x y rest e. given o _ rest ks e)
plain_is_safe image s part i.Add o ks ok sized here entered is = two_goes (After o (Plain ∷ ks)) o _ ks is (λ x y rest e. answered _ o rest ks e)
plain_is_safe image s part i.Sub o ks ok sized here entered is = two_goes (After o (Plain ∷ ks)) o _ ks is (λ x y rest e. answered _ o rest ks e)
plain_is_safe image s part i.Mul o ks ok sized here entered is = two_goes (After o (Plain ∷ ks)) o _ ks is (λ x y rest e. answered _ o rest ks e)
plain_is_safe image s part i.Div o ks ok sized here entered is = two_goes (After o (Plain ∷ ks)) o _ ks is (λ x y rest e. answered _ o rest ks e)
plain_is_safe image s part i.Mod o ks ok sized here entered is = two_goes (After o (Plain ∷ ks)) o _ ks is (λ x y rest e. answered _ o rest ks e)
plain_is_safe image s part (i.Range low high) o ks ok sized here entered is = one_goes (After o (Plain ∷ ks)) o _ ks is (λ x rest e. ranged _ o x rest ks e)
plain_is_safe image s part (i.Signal c) o ks ok sized here entered is = with_queue (GoesOn (After o ks)) image s c (λ q d. signal q d o) sized.queues ok (λ q j. taken o o.job.operands ks is)
plain_is_safe image s part (i.Broadcast c) o ks ok sized here entered is = with_queue (GoesOn (After o ks)) image s c (λ q d. broadcast q d o) sized.queues ok (λ q j. taken o o.job.operands ks is)
plain_is_safe image s part (i.Empty c) o ks ok sized here entered is = with_queue (GoesOn (After o (Plain ∷ ks))) image s c (λ q d. empty q d o) sized.queues ok (λ q j. given o _ o.job.operands ks is)
plain_is_safe image s part (i.In d) o ks ok sized here entered is = with_device (GoesOn (After o (Plain ∷ ks))) image s d (λ z e. get z e o) sized.devices ok (λ z j. given o z o.job.operands ks is)
plain_is_safe image s part (i.Out d) o ks ok sized here entered is = one_goes (After o ks) o _ ks is (λ x rest e. with_device (GoesOn (After o ks)) image s d (λ z v. put z v x (holding rest o)) sized.devices ok (λ z j. taken o rest ks e))
plain_is_safe image s part (i.Raise e) o ks ok sized here entered is = subst (λ z. GoesOn (After o ks) (raise z)) (sym ok.1) tt
plain_is_safe image s part instr o ks ok sized here entered is = absurd ok
