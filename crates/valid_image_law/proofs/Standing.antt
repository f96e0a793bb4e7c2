-- An instruction whose operands pass may stand in its part.
use Rattle.std.proofs.Common.{◌≡◌, ◌≤◌, ◌+◌, ℕ, length, Option, Some, None, arith, refl, ap, sym, subst, ◌∙◌, true, false, Bool}
use Rattle.std.specs.Prelude.{ℤ, pos, negsuc, ◌&&◌, ◌+ℤ◌, ◌-ℤ◌, cond, nat_eq, nat_lt, nat_le, slice_get}
use Rattle.std.proofs.lemmas.Bool.Decides.{nat_tests}
use Rattle.std.proofs.lemmas.Option.{slice_get_within}
use Rattle.std.proofs.lemmas.Bool.{and_parts, eqb-true, leb-true}
use Rattle.machine_isa.specs.declared.instr.Instr.{Instr}
use Rattle.machine_isa.specs.declared.instr.Instr.TheVariants as i
use Rattle.base.specs.Words.{is_word}
use Rattle.machine_semantics.specs.Image.{Image, Monitor}
use Rattle.machine_semantics.specs.Part.{IsBelow, IsArray, IsReached}
use Rattle.machine_semantics.specs.Walk.{Where, Reaches}
use Rattle.valid_image_law.specs.Rules.{Callable, MayStand}
use Rattle.valid_image.specs.Fault.{or_else}
use Rattle.valid_image.specs.Operands.{Whose, Area, no_words, is_between, in_area, ends_in, local_words, own_words, words_of_monitor, monitor_words, is_same, is_own_condition, goes, is_device, may_call, bad, bad_array, is_user_number, bad_operand}
use Rattle.valid_image_law.proofs.Tests.{below}
use Rattle.valid_image_law.proofs.Firsts.{neither}

pub no_bad : (b : Bool) (z : ℤ) → bad b z ≡ None → b ≡ true
no_bad true z is = refl
no_bad false z is = absurd cc

below_is : (n : ℕ) (z : ℤ) → in_area (record { base = 0; words = n }) z ≡ true → IsBelow z n
below_is n (pos w) is = let t = and_parts (nat_le 0 w) (nat_lt w (0 + n)) is in (w, refl, omega (arith, below w (0 + n) t.1))
below_is n (negsuc w) is = absurd cc

-- an array ends in its area
record Ends (x : Area) (word len : ℤ) : Type 0 where
  starts : in_area x word ≡ true
  ends : ends_in x word len ≡ true

array_ends : (x : Area) (word low len : ℤ) → bad_array x word low len ≡ None → Ends x word len
array_ends x word low len is =
    let p = neither (bad (in_area x word) word) (or_else (bad (is_between 1 65536 len) len) (bad (ends_in x word len && is_word ((low +ℤ len) -ℤ pos 1)) word)) is in
    let q = neither (bad (is_between 1 65536 len) len) (bad (ends_in x word len && is_word ((low +ℤ len) -ℤ pos 1)) word) p.1 in
    let e = and_parts (ends_in x word len) (is_word ((low +ℤ len) -ℤ pos 1)) (no_bad (ends_in x word len && is_word ((low +ℤ len) -ℤ pos 1)) word q.1) in
    record { starts = no_bad (in_area x word) word p.0; ends = e.0 }

array_is : (n : ℕ) (word len : ℤ) → Ends (record { base = 0; words = n }) word len → IsArray word len n
array_is n (pos w) (pos k) e = record { from = w; count = k; word = refl; long = refl; fits = omega (arith, leb-true (w + k) (0 + n) e.ends) }
array_is n (pos w) (negsuc k) e = absurd (let a = e.ends in cc)
array_is n (negsuc w) len e = absurd (let a = e.starts in cc)

-- words of a monitor are there for an entry of it alone
reached_by : (image : Image) (m : ℕ) (b : Bool) (o : Option Monitor) (word len : ℤ) → slice_get image.monitors m ≡ o → Ends (cond b (words_of_monitor o) no_words) word len → IsReached image (cond b (Some m) None) word len
reached_by image m true (Some mon) (pos w) (pos k) at e =
    let t = and_parts (nat_le mon.base w) (nat_lt w (mon.base + mon.words)) e.starts in
    record { number = m; is_entry = refl; mon = mon; there = at; from = w; count = k; word = refl; long = refl; above = leb-true mon.base w t.0; below = leb-true (w + k) (mon.base + mon.words) e.ends }
reached_by image m true (Some mon) (pos w) (negsuc k) at e = absurd (let a = e.ends in cc)
reached_by image m true (Some mon) (negsuc w) len at e = absurd (let a = e.starts in cc)
reached_by image m true None (pos w) len at e = absurd (let t = and_parts (nat_le 0 w) (nat_lt w (0 + 0)) e.starts in omega (arith, below w (0 + 0) t.1))
reached_by image m true None (negsuc w) len at e = absurd (let a = e.starts in cc)
reached_by image m false o (pos w) len at e = absurd (let t = and_parts (nat_le 0 w) (nat_lt w (0 + 0)) e.starts in omega (arith, below w (0 + 0) t.1))
reached_by image m false o (negsuc w) len at e = absurd (let a = e.starts in cc)

-- one word ends where it starts
one_word : (x : Area) (word : ℤ) → in_area x word ≡ true → Ends x word (pos 1)
one_word x (pos w) is = let t = and_parts (nat_le x.base w) (nat_lt w (x.base + x.words)) is in record { starts = is; ends = up w (x.base + x.words) (below w (x.base + x.words) t.1) } where
  up : (w n : ℕ) → w + 1 ≤ n → nat_le (w + 1) n ≡ true
  up w n le = grind (arith, nat_tests)
one_word x (negsuc w) is = absurd cc

same_some : (n : ℕ) (o : Option ℕ) → is_same n o ≡ true → o ≡ Some n
same_some n (Some m) is = ap (λ k. Some k) (eqb-true m n is)
same_some n None is = absurd cc

-- a condition of the owner
pub record Conditioned (image : Image) (w : Whose) (c : ℤ) : Type 0 where
  pub number : ℕ
  pub is : c ≡ pos number
  pub kind : nat_eq w.kind 2 ≡ true
  pub of : slice_get image.conditions number ≡ Some w.owner

conditioned : (image : Image) (w : Whose) (c : ℤ) → is_own_condition image w c ≡ true → Conditioned image w c
conditioned image w (pos c) is =
    let t = and_parts (nat_eq w.kind 2) (is_same w.owner (slice_get image.conditions c)) is in
    record { number = c; is = refl; kind = t.0; of = same_some w.owner (slice_get image.conditions c) t.1 }
conditioned image w (negsuc c) is = absurd cc

pub condition_below : (image : Image) (w : Whose) (c : ℤ) → bad (is_own_condition image w c) c ≡ None → IsBelow c (length image.conditions)
condition_below image w c is = let x = conditioned image w c (no_bad (is_own_condition image w c) c is) in (x.number, x.is, slice_get_within image.conditions x.number w.owner x.of)

pub device_there : (out : Bool) (o : Option Bool) → goes out o ≡ true → (b : Bool) × (o ≡ Some b)
device_there out (Some b) is = (b, refl)
device_there out None is = absurd cc

pub device_below : (image : Image) (out : Bool) (d : ℤ) → bad (is_device image out d) d ≡ None → IsBelow d (length image.devices)
device_below image out (pos d) is = let x = device_there out (slice_get image.devices d) (no_bad (goes out (slice_get image.devices d)) (pos d) is) in (d, refl, slice_get_within image.devices d x.0 x.1)
device_below image out (negsuc d) is = absurd cc

-- the part is the one whose code it is
pub record Suits (e : Where) (w : Whose) : Type 0 where
  pub locals : e.part.locals ≡ w.locals
  pub owned : e.part.owned ≡ (own_words e.image w).words
  pub base : (own_words e.image w).base ≡ 0
  pub monitor : e.part.monitor ≡ cond (nat_eq w.kind 2) (Some w.owner) None

area_is : (x : Area) (n : ℕ) → x.base ≡ 0 → x.words ≡ n → x ≡ record { base = 0; words = n }
area_is x n base words = ap (λ b. record { base = b; words = x.words }) base ∙ ap (λ k. record { base = 0; words = k }) words

module _ (e : Where) (w : Whose) (suits : Suits e w) where
  local : (z : ℤ) → bad (in_area (local_words w) z) z ≡ None → IsBelow z e.part.locals
  local z is = subst (λ n. IsBelow z n) (sym suits.locals) (below_is w.locals z (no_bad (in_area (local_words w) z) z is))

  local_array : (z low len : ℤ) → bad_array (local_words w) z low len ≡ None → IsArray z len e.part.locals
  local_array z low len is = subst (λ n. IsArray z len n) (sym suits.locals) (array_is w.locals z len (array_ends (local_words w) z low len is))

  own_area : own_words e.image w ≡ record { base = 0; words = e.part.owned }
  own_area = area_is (own_words e.image w) e.part.owned suits.base (sym suits.owned)

  own : (z : ℤ) → bad (in_area (own_words e.image w) z) z ≡ None → IsBelow z e.part.owned
  own z is = below_is e.part.owned z (ap (λ x. in_area x z) (sym own_area) ∙ no_bad (in_area (own_words e.image w) z) z is)

  own_array : (z low len : ℤ) → bad_array (own_words e.image w) z low len ≡ None → IsArray z len e.part.owned
  own_array z low len is = array_is e.part.owned z len (subst (λ x. Ends x z len) own_area (array_ends (own_words e.image w) z low len is))

  monitor_array : (z len : ℤ) → Ends (monitor_words e.image w) z len → IsReached e.image e.part.monitor z len
  monitor_array z len ends = subst (λ m. IsReached e.image m z len) (sym suits.monitor) (reached_by e.image w.owner (nat_eq w.kind 2) (slice_get e.image.monitors w.owner) z len refl ends)

  monitor_word : (z : ℤ) → bad (in_area (monitor_words e.image w) z) z ≡ None → IsReached e.image e.part.monitor z (pos 1)
  monitor_word z is = monitor_array z (pos 1) (one_word (monitor_words e.image w) z (no_bad (in_area (monitor_words e.image w) z) z is))

  pub may_stand : (instr : Instr) → bad_operand e.image w instr ≡ None → ((r : ℕ) → instr ≡ i.Call (pos r) → may_call e.image w (pos r) ≡ true → Callable e r)
      → ((m : ℕ) → e.part.monitor ≡ Some m → Reaches e m) → MayStand e instr
  may_stand (i.LoadLocal z) is calls reach = λ plain. local z is
  may_stand (i.StoreLocal z) is calls reach = λ plain. local z is
  may_stand (i.LoadOwn z) is calls reach = λ plain. own z is
  may_stand (i.StoreOwn z) is calls reach = λ plain. own z is
  may_stand (i.LoadMon z) is calls reach = λ plain. monitor_word z is
  may_stand (i.StoreMon z) is calls reach = λ plain. monitor_word z is
  may_stand (i.LoadLocalAt z low len) is calls reach = λ plain. local_array z low len is
  may_stand (i.StoreLocalAt z low len) is calls reach = λ plain. local_array z low len is
  may_stand (i.LoadOwnAt z low len) is calls reach = λ plain. own_array z low len is
  may_stand (i.StoreOwnAt z low len) is calls reach = λ plain. own_array z low len is
  may_stand (i.LoadMonAt z low len) is calls reach = λ plain. monitor_array z len (array_ends (monitor_words e.image w) z low len is)
  may_stand (i.StoreMonAt z low len) is calls reach = λ plain. monitor_array z len (array_ends (monitor_words e.image w) z low len is)
  may_stand (i.Call (pos r)) is calls reach = λ j same. subst (λ k. Callable e k) (let a : pos r ≡ pos j = same in cc) (calls r refl (no_bad (may_call e.image w (pos r)) (pos r) is))
  may_stand (i.Call (negsuc r)) is calls reach = λ j same. absurd cc
  may_stand (i.Wait c limit number) is calls reach =
      let p = neither (bad (is_own_condition e.image w c) c) (or_else (bad (is_between 1 1000000000 limit) limit) (bad (is_user_number number) number)) is in
      let q = neither (bad (is_between 1 1000000000 limit) limit) (bad (is_user_number number) number) p.1 in
      let x = conditioned e.image w c (no_bad (is_own_condition e.image w c) c p.0) in
      let l = between 1 1000000000 limit (no_bad (is_between 1 1000000000 limit) limit q.0) in
      let n = between 10 999 number (no_bad (is_user_number number) number q.1) in
      let entry : e.part.monitor ≡ Some w.owner = suits.monitor ∙ ap (λ b. cond b (Some w.owner) None) x.kind in
      record {
        condition = x.number;
        limit = l.0;
        number = n.0;
        monitor = w.owner;
        is = (let a = x.is in let b = l.1 in let d = n.1 in cc);
        of = x.of;
        entry = entry;
        reach = reach w.owner entry;
      }
    where
      between : (low high : ℕ) (z : ℤ) → is_between low high z ≡ true → (n : ℕ) × (z ≡ pos n)
      between low high (pos n) is = (n, refl)
      between low high (negsuc n) is = absurd cc
  may_stand (i.Signal c) is calls reach = λ plain. condition_below e.image w c is
  may_stand (i.Broadcast c) is calls reach = λ plain. condition_below e.image w c is
  may_stand (i.Empty c) is calls reach = λ plain. condition_below e.image w c is
  may_stand (i.In d) is calls reach = λ plain. device_below e.image false d is
  may_stand (i.Out d) is calls reach = λ plain. device_below e.image true d is
  may_stand (i.JumpZero t) is calls reach = λ plain. absurd cc
  may_stand (i.Jump t) is calls reach = λ plain. absurd cc
  may_stand (i.Repeats t) is calls reach = λ plain. absurd cc
  may_stand (i.Repeat t) is calls reach = λ plain. absurd cc
  may_stand (i.Exit t) is calls reach = λ plain. absurd cc
  may_stand i.Return is calls reach = λ plain. absurd cc
  may_stand i.ReturnValue is calls reach = λ plain. absurd cc
  may_stand (i.Enter t) is calls reach = λ plain. absurd cc
  may_stand (i.Leave t) is calls reach = λ plain. absurd cc
  may_stand (i.Reenter t) is calls reach = λ plain. absurd cc
  may_stand i.End is calls reach = λ plain. absurd cc
  may_stand (i.Raise (pos number)) is calls reach = λ plain. (number, refl)
  may_stand (i.Raise (negsuc n)) is calls reach = λ plain. absurd cc
  may_stand _ is calls reach = λ plain. tt
