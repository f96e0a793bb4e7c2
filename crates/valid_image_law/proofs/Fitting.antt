-- No operand is bad exactly where the operands fit.
use Rattle.std.proofs.Common.{◌≡◌, ◌+◌, ◌⊎◌, inl, inr, ℕ, Option, Some, None, arith, refl, ap, sym, ◌∙◌, true, false, Bool}
use Rattle.std.specs.Prelude.{ℤ, pos, negsuc, ◌&&◌, ◌||◌, ◌+ℤ◌, ◌-ℤ◌, not, nat_eq, nat_le, nat_lt, int_le, slice_get}
use Rattle.std.proofs.lemmas.Bool.{both_ways, false_from_ne_true, and_from, and_parts, or_cases, or_left, or_right, eqb-true, eq-eqb, leb-true, le-leb, lt-ltb, ltb-true, cases_Bool}
use Rattle.std.proofs.lemmas.Int.{ints}
use Rattle.machine_isa.specs.declared.instr.Instr.{Instr}
use Rattle.machine_isa.specs.declared.instr.Instr.TheVariants as i
use Rattle.base.specs.Words.{is_word}
use Rattle.machine_semantics.specs.Image.{Image, Routine}
use Rattle.valid_image.specs.Fault.{or_else}
use Rattle.valid_image.specs.Tables.{reach, bound_at}
use Rattle.valid_image.specs.Operands as o
use Rattle.valid_image.specs.Operands.{Whose, Area, local_words, own_words, monitor_words, bad, bad_array, bad_operand}
use Rattle.valid_image_law.proofs.Firsts.{neither}
use Rattle.valid_image_law.specs.Operands.{IsBetween, IsIn, IsArray, IsOwnMonitor, IsOwnCondition, IsDevice, MayCall, Fits}
use Rattle.valid_image_law.proofs.Binding.{bound_are_reached}
use Rattle.valid_image_law.proofs.Searches.{both_none}

-- ---- a test

good : (b : Bool) (z : ℤ) → bad b z ≡ None → b ≡ true
good true z is = refl
good false z is = absurd cc

not_bad : (b : Bool) (z : ℤ) → b ≡ true → bad b z ≡ None
not_bad b z is = ap (λ x. bad x z) is

-- ---- numbers

between_is : (low high : ℕ) (z : ℤ) → o.is_between low high z ≡ true → IsBetween low high z
between_is low high (pos n) is = let p = and_parts (nat_le low n) (nat_le n high) is in record { number = n; is = refl; from = leb-true low n p.0; to = leb-true n high p.1 }
between_is low high (negsuc n) is = absurd cc

is_between : (low high : ℕ) (z : ℤ) → IsBetween low high z → o.is_between low high z ≡ true
is_between low high z b = ap (λ x. o.is_between low high x) b.is ∙ and_from (nat_le low b.number) (nat_le b.number high) (le-leb low b.number b.from) (le-leb b.number high b.to)

word_is : (x : Area) (z : ℤ) → o.in_area x z ≡ true → IsIn x z
word_is x (pos n) is = let p = and_parts (nat_le x.base n) (nat_lt n (x.base + x.words)) is in record { word = n; is = refl; from = leb-true x.base n p.0; to = ltb-true n (x.base + x.words) p.1 }
word_is x (negsuc n) is = absurd cc

is_word_in : (x : Area) (z : ℤ) → IsIn x z → o.in_area x z ≡ true
is_word_in x z b = ap (λ y. o.in_area x y) b.is ∙ and_from (nat_le x.base b.word) (nat_lt b.word (x.base + x.words)) (le-leb x.base b.word b.from) (lt-ltb b.word (x.base + x.words) b.to)

array_is : (x : Area) (word low len : ℤ) → bad_array x word low len ≡ None → IsArray x word low len
array_is x word low len is =
    let fits = o.ends_in x word len && is_word ((low +ℤ len) -ℤ pos 1) in
    let one = neither (bad (o.in_area x word) word) (or_else (bad (o.is_between 1 65536 len) len) (bad fits word)) is in
    let two = neither (bad (o.is_between 1 65536 len) len) (bad fits word) one.1 in
    let w = word_is x word (good (o.in_area x word) word one.0) in
    let b = between_is 1 65536 len (good (o.is_between 1 65536 len) len two.0) in
    let both = and_parts (o.ends_in x word len) (is_word ((low +ℤ len) -ℤ pos 1)) (good fits word two.1) in
    let ends : o.ends_in x (pos w.word) (pos b.number) ≡ true = ap (λ y. o.ends_in x y (pos b.number)) (sym w.is) ∙ (ap (λ y. o.ends_in x word y) (sym b.is) ∙ both.0) in
    record {
      at = w.word;
      many = b.number;
      word_is = w.is;
      len_is = b.is;
      from = w.from;
      some = b.from;
      few = b.to;
      to = leb-true (w.word + b.number) (x.base + x.words) ends;
      last_index = both.1;
    }

is_array : (x : Area) (word low len : ℤ) → IsArray x word low len → bad_array x word low len ≡ None
is_array x word low len a =
    let inside : o.in_area x word ≡ true = is_word_in x word (record { word = a.at; is = a.word_is; from = a.from; to = omega (arith, a.to, a.some) }) in
    let many : o.is_between 1 65536 len ≡ true = is_between 1 65536 len (record { number = a.many; is = a.len_is; from = a.some; to = a.few }) in
    let ends : o.ends_in x word len ≡ true = ap (λ y. o.ends_in x y len) a.word_is ∙ (ap (λ y. o.ends_in x (pos a.at) y) a.len_is ∙ le-leb (a.at + a.many) (x.base + x.words) a.to) in
    both_none (bad (o.in_area x word) word) _ (not_bad (o.in_area x word) word inside)
    (both_none (bad (o.is_between 1 65536 len) len) _ (not_bad (o.is_between 1 65536 len) len many)
    (not_bad (o.ends_in x word len && is_word ((low +ℤ len) -ℤ pos 1)) word (and_from (o.ends_in x word len) (is_word ((low +ℤ len) -ℤ pos 1)) ends a.last_index)))

-- ---- things of the owner

monitor_is : (w : Whose) (z : ℤ) → o.is_own_monitor w z ≡ true → IsOwnMonitor w z
monitor_is w (pos m) is = let p = and_parts (nat_eq w.kind 2) (nat_eq m w.owner) is in record { entry = eqb-true w.kind 2 p.0; own = ap pos (eqb-true m w.owner p.1) }
monitor_is w (negsuc m) is = absurd cc

is_monitor : (w : Whose) (z : ℤ) → IsOwnMonitor w z → o.is_own_monitor w z ≡ true
is_monitor w z b = ap (λ y. o.is_own_monitor w y) b.own ∙ and_from (nat_eq w.kind 2) (nat_eq w.owner w.owner) (eq-eqb w.kind 2 b.entry) (eq-eqb w.owner w.owner refl)

same_is : (m : ℕ) (x : Option ℕ) → o.is_same m x ≡ true → x ≡ Some m
same_is m None is = absurd cc
same_is m (Some n) is = ap Some (eqb-true n m is)

condition_is : (image : Image) (w : Whose) (z : ℤ) → o.is_own_condition image w z ≡ true → IsOwnCondition image w z
condition_is image w (pos c) is =
    let p = and_parts (nat_eq w.kind 2) (o.is_same w.owner (slice_get image.conditions c)) is in
    record { entry = eqb-true w.kind 2 p.0; condition = c; is = refl; own = same_is w.owner (slice_get image.conditions c) p.1 }
condition_is image w (negsuc c) is = absurd cc

is_condition : (image : Image) (w : Whose) (z : ℤ) → IsOwnCondition image w z → o.is_own_condition image w z ≡ true
is_condition image w z b =
    ap (λ y. o.is_own_condition image w y) b.is
    ∙ and_from (nat_eq w.kind 2) (o.is_same w.owner (slice_get image.conditions b.condition)) (eq-eqb w.kind 2 b.entry) (ap (λ x. o.is_same w.owner x) b.own ∙ eq-eqb w.owner w.owner refl)

goes_is : (out : Bool) (x : Option Bool) → o.goes out x ≡ true → x ≡ Some out
goes_is out None is = absurd cc
goes_is true (Some true) is = refl
goes_is true (Some false) is = absurd cc
goes_is false (Some true) is = absurd cc
goes_is false (Some false) is = refl

goes_itself : (out : Bool) → o.goes out (Some out) ≡ true
goes_itself true = refl
goes_itself false = refl

device_is : (image : Image) (out : Bool) (z : ℤ) → o.is_device image out z ≡ true → IsDevice image out z
device_is image out (pos d) is = record { device = d; is = refl; goes = goes_is out (slice_get image.devices d) is }
device_is image out (negsuc d) is = absurd cc

is_device : (image : Image) (out : Bool) (z : ℤ) → IsDevice image out z → o.is_device image out z ≡ true
is_device image out z b = ap (λ y. o.is_device image out y) b.is ∙ (ap (λ x. o.goes out x) b.goes ∙ goes_itself out)

-- ---- calls

not_is : (b : Bool) → not b ≡ true → b ≡ false
not_is true is = absurd cc
not_is false is = refl

-- not both, where the first holds
second_fails : (a b : Bool) → not (a && b) ≡ true → a ≡ true → b ≡ false
second_fails true b is a = not_is b is
second_fails false b is a = absurd cc

is_not_both : (a b : Bool) → (a ≡ true → b ≡ false) → not (a && b) ≡ true
is_not_both true b h = ap not (h refl)
is_not_both false b h = refl

open_is : (w : Whose) (x : Routine) → o.is_open w x ≡ true → x.kind ≡ 1 → (w.kind ≡ 1) × (x.owner ≡ w.owner)
open_is w x is one = by (or_cases (not (nat_eq x.kind 1)) (nat_eq w.kind 1 && nat_eq x.owner w.owner) is) where
  by : (not (nat_eq x.kind 1) ≡ true) ⊎ ((nat_eq w.kind 1 && nat_eq x.owner w.owner) ≡ true) → (w.kind ≡ 1) × (x.owner ≡ w.owner)
  by (inl other) = absurd (let n : nat_eq x.kind 1 ≡ false = not_is (nat_eq x.kind 1) other in let y : nat_eq x.kind 1 ≡ true = eq-eqb x.kind 1 one in cc)
  by (inr both) = let p = and_parts (nat_eq w.kind 1) (nat_eq x.owner w.owner) both in (eqb-true w.kind 1 p.0, eqb-true x.owner w.owner p.1)

is_open : (w : Whose) (x : Routine) → (x.kind ≡ 1 → (w.kind ≡ 1) × (x.owner ≡ w.owner)) → o.is_open w x ≡ true
is_open w x h = by (cases_Bool (nat_eq x.kind 1)) where
  by : (nat_eq x.kind 1 ≡ true) ⊎ (nat_eq x.kind 1 ≡ false) → o.is_open w x ≡ true
  by (inl one) =
      let p = h (eqb-true x.kind 1 one) in
      or_right (not (nat_eq x.kind 1)) (nat_eq w.kind 1 && nat_eq x.owner w.owner) (and_from (nat_eq w.kind 1) (nat_eq x.owner w.owner) (eq-eqb w.kind 1 p.0) (eq-eqb x.owner w.owner p.1))
  by (inr other) = or_left (not (nat_eq x.kind 1)) (nat_eq w.kind 1 && nat_eq x.owner w.owner) (ap not other)

record OpenSome (w : Whose) (x : Option Routine) : Type 0 where
  routine : Routine
  there : x ≡ Some routine
  opened : o.is_open w routine ≡ true

open_some : (w : Whose) (x : Option Routine) → o.is_open_some w x ≡ true → OpenSome w x
open_some w None is = absurd cc
open_some w (Some x) is = record { routine = x; there = refl; opened = is }

call_is : (image : Image) (w : Whose) (z : ℤ) → o.may_call image w z ≡ true → MayCall image w z
call_is image w (pos r) is =
    let all = and_parts (nat_lt r w.number && o.is_open_some w (slice_get image.routines r)) (o.may_be_inside image w r) is in
    let two = and_parts (nat_lt r w.number) (o.is_open_some w (slice_get image.routines r)) all.0 in
    let s = open_some w (slice_get image.routines r) two.1 in
    record {
      number = r;
      is = refl;
      below = ltb-true r w.number two.0;
      routine = s.routine;
      there = s.there;
      of_process = open_is w s.routine s.opened;
      by_entry = λ entry b. both_ways (bound_at (reach image) r) (second_fails (nat_eq w.kind 2) (bound_at (reach image) r) all.1 (eq-eqb w.kind 2 entry)) ((bound_are_reached image r).1 b);
    }
call_is image w (negsuc r) is = absurd cc

is_call : (image : Image) (w : Whose) (z : ℤ) → MayCall image w z → o.may_call image w z ≡ true
is_call image w z c =
    ap (λ y. o.may_call image w y) c.is
    ∙ and_from (nat_lt c.number w.number && o.is_open_some w (slice_get image.routines c.number)) (o.may_be_inside image w c.number)
    (and_from (nat_lt c.number w.number) (o.is_open_some w (slice_get image.routines c.number)) (lt-ltb c.number w.number c.below)
    (ap (λ x. o.is_open_some w x) c.there ∙ is_open w c.routine c.of_process))
    (is_not_both (nat_eq w.kind 2) (bound_at (reach image) c.number) (λ is. false_from_ne_true (bound_at (reach image) c.number) (λ b. c.by_entry (eqb-true w.kind 2 is) ((bound_are_reached image c.number).0 b))))

-- ---- raised numbers

raised_is : (z : ℤ) → (o.is_between 4 4 z || o.is_user_number z) ≡ true → (z ≡ pos 4) ⊎ IsBetween 10 999 z
raised_is z is = by (or_cases (o.is_between 4 4 z) (o.is_user_number z) is) where
  by : (o.is_between 4 4 z ≡ true) ⊎ (o.is_user_number z ≡ true) → (z ≡ pos 4) ⊎ IsBetween 10 999 z
  by (inl four) = (let b = between_is 4 4 z four in inl (b.is ∙ ap pos (omega (arith, b.from, b.to))))
  by (inr user) = inr (between_is 10 999 z user)

is_raised : (z : ℤ) → (z ≡ pos 4) ⊎ IsBetween 10 999 z → (o.is_between 4 4 z || o.is_user_number z) ≡ true
is_raised z (inl four) = or_left (o.is_between 4 4 z) (o.is_user_number z) (ap (λ y. o.is_between 4 4 y) four)
is_raised z (inr user) = or_right (o.is_between 4 4 z) (o.is_user_number z) (is_between 10 999 z user)

-- ---- a wait

wait_is : (image : Image) (w : Whose) (c l n : ℤ) → bad_operand image w (i.Wait c l n) ≡ None → Fits image w (i.Wait c l n)
wait_is image w c l n is =
    let one = neither (bad (o.is_own_condition image w c) c) (or_else (bad (o.is_between 1 1000000000 l) l) (bad (o.is_user_number n) n)) is in
    let two = neither (bad (o.is_between 1 1000000000 l) l) (bad (o.is_user_number n) n) one.1 in
    (condition_is image w c (good (o.is_own_condition image w c) c one.0), between_is 1 1000000000 l (good (o.is_between 1 1000000000 l) l two.0), between_is 10 999 n (good (o.is_user_number n) n two.1))

is_wait : (image : Image) (w : Whose) (c l n : ℤ) → Fits image w (i.Wait c l n) → bad_operand image w (i.Wait c l n) ≡ None
is_wait image w c l n f =
    both_none (bad (o.is_own_condition image w c) c) _ (not_bad (o.is_own_condition image w c) c (is_condition image w c f.0))
    (both_none (bad (o.is_between 1 1000000000 l) l) _ (not_bad (o.is_between 1 1000000000 l) l (is_between 1 1000000000 l f.1)) (not_bad (o.is_user_number n) n (is_between 10 999 n f.2)))

-- ---- all

pub fits : (image : Image) (w : Whose) (instr : Instr) → bad_operand image w instr ≡ None → Fits image w instr
fits image w (i.LoadLocal word) is = word_is (local_words w) word (good _ word is)
fits image w (i.StoreLocal word) is = word_is (local_words w) word (good _ word is)
fits image w (i.LoadOwn word) is = word_is (own_words image w) word (good _ word is)
fits image w (i.StoreOwn word) is = word_is (own_words image w) word (good _ word is)
fits image w (i.LoadMon word) is = word_is (monitor_words image w) word (good _ word is)
fits image w (i.StoreMon word) is = word_is (monitor_words image w) word (good _ word is)
fits image w (i.LoadLocalAt word low len) is = array_is (local_words w) word low len is
fits image w (i.StoreLocalAt word low len) is = array_is (local_words w) word low len is
fits image w (i.LoadOwnAt word low len) is = array_is (own_words image w) word low len is
fits image w (i.StoreOwnAt word low len) is = array_is (own_words image w) word low len is
fits image w (i.LoadMonAt word low len) is = array_is (monitor_words image w) word low len is
fits image w (i.StoreMonAt word low len) is = array_is (monitor_words image w) word low len is
fits image w (i.Range low high) is = let le : int_le low high ≡ true = good _ low is in grind (arith, ints)
fits image w (i.Repeats n) is = between_is 1 1000000 n (good _ n is)
fits image w (i.Call r) is = call_is image w r (good _ r is)
fits image w (i.Enter m) is = monitor_is w m (good _ m is)
fits image w (i.Leave m) is = monitor_is w m (good _ m is)
fits image w (i.Wait c l n) is = wait_is image w c l n is
fits image w (i.Reenter m) is = monitor_is w m (good _ m is)
fits image w (i.Signal c) is = condition_is image w c (good _ c is)
fits image w (i.Broadcast c) is = condition_is image w c (good _ c is)
fits image w (i.Empty c) is = condition_is image w c (good _ c is)
fits image w (i.In d) is = device_is image false d (good _ d is)
fits image w (i.Out d) is = device_is image true d (good _ d is)
fits image w (i.Raise n) is = raised_is n (good _ n is)
fits image w _ is = tt

pub is_good : (image : Image) (w : Whose) (instr : Instr) → Fits image w instr → bad_operand image w instr ≡ None
is_good image w (i.LoadLocal word) f = not_bad _ word (is_word_in (local_words w) word f)
is_good image w (i.StoreLocal word) f = not_bad _ word (is_word_in (local_words w) word f)
is_good image w (i.LoadOwn word) f = not_bad _ word (is_word_in (own_words image w) word f)
is_good image w (i.StoreOwn word) f = not_bad _ word (is_word_in (own_words image w) word f)
is_good image w (i.LoadMon word) f = not_bad _ word (is_word_in (monitor_words image w) word f)
is_good image w (i.StoreMon word) f = not_bad _ word (is_word_in (monitor_words image w) word f)
is_good image w (i.LoadLocalAt word low len) f = is_array (local_words w) word low len f
is_good image w (i.StoreLocalAt word low len) f = is_array (local_words w) word low len f
is_good image w (i.LoadOwnAt word low len) f = is_array (own_words image w) word low len f
is_good image w (i.StoreOwnAt word low len) f = is_array (own_words image w) word low len f
is_good image w (i.LoadMonAt word low len) f = is_array (monitor_words image w) word low len f
is_good image w (i.StoreMonAt word low len) f = is_array (monitor_words image w) word low len f
is_good image w (i.Range low high) f = not_bad (int_le low high) low (grind (arith, ints, f))
is_good image w (i.Repeats n) f = not_bad _ n (is_between 1 1000000 n f)
is_good image w (i.Call r) f = not_bad _ r (is_call image w r f)
is_good image w (i.Enter m) f = not_bad _ m (is_monitor w m f)
is_good image w (i.Leave m) f = not_bad _ m (is_monitor w m f)
is_good image w (i.Wait c l n) f = is_wait image w c l n f
is_good image w (i.Reenter m) f = not_bad _ m (is_monitor w m f)
is_good image w (i.Signal c) f = not_bad _ c (is_condition image w c f)
is_good image w (i.Broadcast c) f = not_bad _ c (is_condition image w c f)
is_good image w (i.Empty c) f = not_bad _ c (is_condition image w c f)
is_good image w (i.In d) f = not_bad _ d (is_device image false d f)
is_good image w (i.Out d) f = not_bad _ d (is_device image true d f)
is_good image w (i.Raise n) f = not_bad _ n (is_raised n f)
is_good image w _ f = refl
