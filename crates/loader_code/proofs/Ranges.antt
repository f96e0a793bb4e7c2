-- Tests of operands, by whether the operand is negative.
use Rattle.std.proofs.Common.{◌≡◌, ◌≤◌, ◌<◌, ◌+◌, ℕ, zero, suc, Bool, true, false, List, [], ◌∷◌, Option, Some, None, length, arith, refl, ap, sym, ◌∙◌, subst, map}
use Rattle.std.specs.Prelude.{◌&&◌, cond, nat_eq, nat_lt, nat_le, option_map, slice_get, ℤ, pos, negsuc, ◌≤ℤ◌, ◌<ℤ◌}
use Rattle.base.specs.Words.{is_word}
use Rattle.machine_semantics.specs.Image.{Image}
use Rattle.image.specs.declared.names.ConditionName.{ConditionName}
use Rattle.image.specs.declared.names.DeviceName.{DeviceName}
use Rattle.image.specs.declared.raw.RawRoutine.{RawRoutine}
use Rattle.std.proofs.lemmas.Bool.Decides.{nat_tests}
use Rattle.std.proofs.lemmas.Option.{slice_get-map}
use Rattle.std.proofs.lemmas.Bool.{eq-eqb, ne_eqb}
use Rattle.image.specs.declared.raw.RawImage.{RawImage}
use Rattle.image.specs.declared.raw.RawMonitor.{RawMonitor}
use Rattle.image.specs.declared.raw.RawProcess.{RawProcess}
use Rattle.image.specs.Raw.{image_of, monitor_of, process_of, routine_of}
use Rattle.valid_image.specs.Operands.{Area, Whose, no_words, in_area, is_between, own_words, monitor_words, words_of_process, words_of_monitor, ends_in, is_own_monitor, is_own_condition, is_same, is_device, goes, may_call, is_open_some, may_be_inside}
use Rattle.loader_code.specs.Seen.{natural_of}

abbrev between_some : (low high : ℕ) → Option ℕ → Bool
between_some low high None = false
between_some low high (Some n) = nat_le low n && nat_le n high

pub between_by : (low high : ℕ) (z : ℤ) → is_between low high z ≡ between_some low high (natural_of z)
between_by low high (pos n) = refl
between_by low high (negsuc n) = refl

abbrev area_some : Area → Option ℕ → Bool
area_some x None = false
area_some x (Some w) = nat_le x.base w && nat_lt w (x.base + x.words)

pub area_by : (x : Area) (z : ℤ) → in_area x z ≡ area_some x (natural_of z)
area_by x (pos n) = refl
area_by x (negsuc n) = refl

at_image : {A B : Type 0} (v : A → B) (xs : List A) (k : ℕ) (o : Option A) → o ≡ slice_get xs k → slice_get (map v xs) k ≡ option_map v o
at_image v xs k o is = slice_get-map v xs k ∙ ap (λ x. option_map v x) (sym is)

-- ---- the words of an owner

pub not_own : (image : RawImage) (w : Whose) → (w.kind ≡ 1 → ⊥) → own_words (image_of image) w ≡ no_words
not_own image w is_not = ap (λ b. cond b (words_of_process (slice_get (map process_of image.processes) w.owner)) no_words) (ne_eqb w.kind 1 is_not)

own : (image : RawImage) (w : Whose) (o : Option RawProcess) → w.kind ≡ 1 → o ≡ slice_get image.processes w.owner → own_words (image_of image) w ≡ words_of_process (option_map process_of o)
own image w o is at = ap (λ b. cond b (words_of_process (slice_get (map process_of image.processes) w.owner)) no_words) (eq-eqb w.kind 1 is) ∙ ap (λ x. words_of_process x) (at_image process_of image.processes w.owner o at)

pub own_is : (image : RawImage) (w : Whose) (p : RawProcess) → w.kind ≡ 1 → Some p ≡ slice_get image.processes w.owner → own_words (image_of image) w ≡ record { base = 0; words = p.words }
own_is image w p is at = own image w (Some p) is at

pub own_none : (image : RawImage) (w : Whose) → w.kind ≡ 1 → None ≡ slice_get image.processes w.owner → own_words (image_of image) w ≡ no_words
own_none image w is at = own image w None is at

pub not_monitor : (image : RawImage) (w : Whose) → (w.kind ≡ 2 → ⊥) → monitor_words (image_of image) w ≡ no_words
not_monitor image w is_not = ap (λ b. cond b (words_of_monitor (slice_get (map monitor_of image.monitors) w.owner)) no_words) (ne_eqb w.kind 2 is_not)

monitors : (image : RawImage) (w : Whose) (o : Option RawMonitor) → w.kind ≡ 2 → o ≡ slice_get image.monitors w.owner → monitor_words (image_of image) w ≡ words_of_monitor (option_map monitor_of o)
monitors image w o is at = ap (λ b. cond b (words_of_monitor (slice_get (map monitor_of image.monitors) w.owner)) no_words) (eq-eqb w.kind 2 is) ∙ ap (λ x. words_of_monitor x) (at_image monitor_of image.monitors w.owner o at)

pub monitor_is : (image : RawImage) (w : Whose) (m : RawMonitor) → w.kind ≡ 2 → Some m ≡ slice_get image.monitors w.owner → monitor_words (image_of image) w ≡ record { base = m.base; words = m.words }
monitor_is image w m is at = monitors image w (Some m) is at

pub monitor_none : (image : RawImage) (w : Whose) → w.kind ≡ 2 → None ≡ slice_get image.monitors w.owner → monitor_words (image_of image) w ≡ no_words
monitor_none image w is at = monitors image w None is at

-- ---- arrays

abbrev ends_some : Area → Option ℕ → Option ℕ → Bool
ends_some x None n = false
ends_some x (Some w) None = false
ends_some x (Some w) (Some n) = nat_le (w + n) (x.base + x.words)

pub ends_by : (x : Area) (w n : ℤ) → ends_in x w n ≡ ends_some x (natural_of w) (natural_of n)
ends_by x (pos w) (pos n) = refl
ends_by x (pos w) (negsuc n) = refl
ends_by x (negsuc w) (pos n) = refl
ends_by x (negsuc w) (negsuc n) = refl

pub word_within : (z : ℤ) → negsuc 2147483647 ≤ℤ z → z ≤ℤ pos 2147483647 → is_word z ≡ true
word_within (pos n) low high = grind (arith, nat_tests, high)
word_within (negsuc n) low high = grind (arith, nat_tests, low)

pub word_low : (z : ℤ) → z <ℤ negsuc 2147483647 → is_word z ≡ false
word_low (pos n) below = absurd (grind (arith, below))
word_low (negsuc n) below = grind (arith, nat_tests, below)

pub word_high : (z : ℤ) → pos 2147483647 <ℤ z → is_word z ≡ false
word_high (pos n) above = grind (arith, nat_tests, above)
word_high (negsuc n) above = absurd (grind (arith, above))

-- ---- owners, conditions, devices

abbrev own_monitor_some : Whose → Option ℕ → Bool
own_monitor_some w None = false
own_monitor_some w (Some m) = nat_eq w.kind 2 && nat_eq m w.owner

pub own_monitor_by : (w : Whose) (z : ℤ) → is_own_monitor w z ≡ own_monitor_some w (natural_of z)
own_monitor_by w (pos n) = refl
own_monitor_by w (negsuc n) = refl

abbrev own_condition_some : Image → Whose → Option ℕ → Bool
own_condition_some image w None = false
own_condition_some image w (Some c) = nat_eq w.kind 2 && is_same w.owner (slice_get image.conditions c)

pub own_condition_by : (image : Image) (w : Whose) (z : ℤ) → is_own_condition image w z ≡ own_condition_some image w (natural_of z)
own_condition_by image w (pos n) = refl
own_condition_by image w (negsuc n) = refl

pub condition_is : (image : RawImage) (c : ℕ) (o : Option ConditionName) → o ≡ slice_get image.names.conditions c → slice_get (image_of image).conditions c ≡ option_map (λ x. x.mon) o
condition_is image c o at = at_image (λ x. x.mon) image.names.conditions c o at

abbrev device_some : Image → Bool → Option ℕ → Bool
device_some image out None = false
device_some image out (Some d) = goes out (slice_get image.devices d)

pub device_by : (image : Image) (out : Bool) (z : ℤ) → is_device image out z ≡ device_some image out (natural_of z)
device_by image out (pos n) = refl
device_by image out (negsuc n) = refl

pub device_is : (image : RawImage) (d : ℕ) (o : Option DeviceName) → o ≡ slice_get image.names.devices d → slice_get (image_of image).devices d ≡ option_map (λ x. x.out) o
device_is image d o at = at_image (λ x. x.out) image.names.devices d o at

-- ---- calls

abbrev may_call_some : Image → Whose → Option ℕ → Bool
may_call_some image w None = false
may_call_some image w (Some r) = nat_lt r w.number && is_open_some w (slice_get image.routines r) && may_be_inside image w r

pub may_call_by : (image : Image) (w : Whose) (z : ℤ) → may_call image w z ≡ may_call_some image w (natural_of z)
may_call_by image w (pos n) = refl
may_call_by image w (negsuc n) = refl

pub callee_is : (image : RawImage) (r : ℕ) (o : Option RawRoutine) → o ≡ slice_get image.routines r → slice_get (image_of image).routines r ≡ option_map routine_of o
callee_is image r o at = at_image routine_of image.routines r o at
