-- The laws of whole files.
use Rattle.std.proofs.Common.{◌≡◌, ◌≤◌, ◌<◌, ◌++◌, ◌-◌, ℕ, Bool, true, false, List, [], ◌∷◌, length, take, Ok, Err, refl, sym, ap, ◌∙◌, subst, arith}
use Rattle.std.specs.Prelude.{nat_lt, if◌then◌else◌}
use Rattle.std.proofs.lemmas.Bool.{le-ltb, ltb-false}
use Rattle.std.proofs.lemmas.List.{length-take-le, append-nil}
use Rattle.image.specs.Bytes.{Version, bytes_of}
use Rattle.image_format.specs.Format.{◌>>=◌, fault}
use Rattle.image_reader.specs.File as f
use Rattle.image_format.specs.FormatLaw.{AreBytes}
use Rattle.image_format.proofs.Sound.{came}
use Rattle.image_reader_law.specs.ImageSound.{CutImagesEndInsideAField, ImagesReadAreWritten, ImagesWrittenAreRead}
use Rattle.image_format.proofs.Alike.{okay, same_ok}
use Rattle.image_reader_law.proofs.ImageSoundWhole.{code_is, image_is_written, image_sound}

pub ended_is : (z : (Version × f.Parts) × List ℕ) (y : (Version × f.Parts) × List ℕ) → f.ended z ≡ Ok y → z ≡ y
ended_is (x, []) y is = same_ok (x, []) y is
ended_is (x, b ∷ bs) y is = absurd cc

-- what is known of a file that was read
record IsFile (bytes : List ℕ) (version : Version) (ps : f.Parts) : Type 0 where
  few : length bytes ≤ f.longest
  written : bytes ≡ f.image_format.write (version, ps)
  in_range : f.image_format.is (version, ps) ≡ true

file : (bytes : List ℕ) (version : Version) (ps : f.Parts) → AreBytes bytes → f.read_file bytes ≡ Ok ((version, ps), []) → IsFile bytes version ps
unfolding f.read_file
file bytes version ps are is = by (nat_lt f.longest (length bytes)) refl is where
  by : (b : Bool) → nat_lt f.longest (length bytes) ≡ b → (if b then Err (fault 9 (length bytes - f.longest)) else f.whole_read bytes) ≡ Ok ((version, ps), []) → IsFile bytes version ps
  by true test e = absurd cc
  by false test e =
      let a = came (f.image_format.read bytes) f.ended ((version, ps), []) e in
      let same : a.x ≡ ((version, ps), []) = ended_is a.x ((version, ps), []) a.then_is in
      let b = image_sound.back bytes ((version, ps), []) are (a.was ∙ ap (λ x. okay x) same) in
      record { few = ltb-false f.longest (length bytes) test; written = b.0 ∙ append-nil (f.image_format.write (version, ps)); in_range = b.1 }

pub read_are_written : ImagesReadAreWritten
read_are_written bytes version ps are is =
    let h = file bytes version ps are is in
    h.written ∙ image_is_written version ps (code_is version ps h.in_range)

pub written_are_read : ImagesWrittenAreRead
unfolding f.read_file
written_are_read version ps in_range few =
    let all = bytes_of version (f.image_with ps) in
    let written : f.image_format.write (version, ps) ++ [] ≡ all = append-nil (f.image_format.write (version, ps)) ∙ image_is_written version ps (code_is version ps in_range) in
    let read : f.image_format.read all ≡ Ok ((version, ps), []) = ap f.image_format.read (sym written) ∙ image_sound.again (version, ps) [] in_range in
    rw (le-ltb f.longest (length all) few) (ap (λ r. r >>= f.ended) read)

pub cut_ends : CutImagesEndInsideAField
unfolding f.read_file
cut_ends bytes version ps k are is low =
    let h = file bytes version ps are is in
    let first = take k bytes in
    let long : length first ≡ k = length-take-le k bytes (omega (arith, low)) in
    let shorter : k < length (f.image_format.write (version, ps)) = subst (λ (all : List ℕ). k < length all) h.written low in
    let read : f.image_format.read first ≡ Err (fault 2 0) = ap (λ (all : List ℕ). f.image_format.read (take k all)) h.written ∙ image_sound.cut (version, ps) k h.in_range shorter in
    record {
      left = 0;
      is_read = rw (le-ltb f.longest (length first) (omega (arith, long, low, h.few))) (ap (λ r. r >>= f.ended) read);
      place = omega (arith, long);
    }
