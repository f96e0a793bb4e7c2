-- The ends of reading: which events are used, and what a whole file gives.
use Rattle.std.proofs.Common.{◌≡◌, ◌<◌, ◌≤◌, ◌+◌, ◌-◌, ◌&&◌, ℕ, suc, Bool, true, false, List, [], length, Ok, refl, sym, ap, ◌∙◌, arith}
use Rattle.std.specs.Prelude.{nat_eq}
use Rattle.std.specs.List.{list_any}
use Rattle.std.proofs.lemmas.Bool.{le-ltb, lt-ltb}
use Rattle.image.specs.declared.raw.RawImage.{RawImage}
use Rattle.image.specs.Raw.{named_of}
use Rattle.image_reader.specs.Answer.{HasFault, Holds, parts_of}
use Rattle.image_reader.specs.File.{all_used, image_with, read_file, whole_read}
use Rattle.image_reader.specs.Versions.{in_version}

pub one_more_used : (used : List ℕ) (i events : ℕ) (total : Bool) → i < events → list_any (λ e. nat_eq e i) used ≡ true → all_used used i (events - i) ≡ total → all_used used (i + 1) (events - (i + 1)) ≡ total
one_more_used used i events total lt used_here so_far =
    let k : events - i ≡ suc (events - (i + 1)) = omega arith in
    let one : all_used used i (events - i) ≡ all_used used (i + 1) (events - (i + 1)) = ap (all_used used i) k ∙ ap (λ b. b && all_used used (i + 1) (events - (i + 1))) used_here in
    sym one ∙ so_far

pub one_unused : (used : List ℕ) (i events : ℕ) (total : Bool) → i < events → list_any (λ e. nat_eq e i) used ≡ false → all_used used i (events - i) ≡ total → false ≡ total
one_unused used i events total lt unused_here so_far =
    let k : events - i ≡ suc (events - (i + 1)) = omega arith in
    let one : all_used used i (events - i) ≡ false = ap (all_used used i) k ∙ ap (λ b. b && all_used used (i + 1) (events - (i + 1))) unused_here in
    sym one ∙ so_far

pub too_long : (bytes : List ℕ) → 8388608 < length bytes → HasFault bytes 9 8388608
unfolding read_file
too_long bytes h = record { left = length bytes - 8388608; is_read = rw (lt-ltb 8388608 (length bytes) h) refl; place = omega (arith, h) }

pub held : (bytes : List ℕ) (has_deadlines : Bool) (raw : RawImage) → length bytes ≤ 8388608 → whole_read bytes ≡ Ok ((in_version has_deadlines, parts_of raw), []) → named_of raw ≡ image_with (parts_of raw) → Holds bytes raw
unfolding read_file
held bytes has_deadlines raw h is_read image = record { version = in_version has_deadlines; is_read = rw (le-ltb 8388608 (length bytes) h) is_read; image = image }
