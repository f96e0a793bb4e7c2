-- A file holds an image, and has no fault, or it has a fault.
use Rattle.std.proofs.Common.{◌≡◌, ◌⊎◌, inl, inr, ◌≤◌, ◌-◌, ℕ, Bool, true, false, List, [], ◌∷◌, length, Result, Ok, Err, refl, sym, ap, ◌∙◌, subst}
use Rattle.std.specs.Prelude.{nat_lt}
use Rattle.std.proofs.lemmas.List.{append-nil}
use Rattle.image.specs.Bytes.{Version}
use Rattle.image_format.specs.declared.fault.ByteFault.{ByteFault}
use Rattle.image_reader.specs.File as f
use Rattle.image_format.specs.FormatLaw.{AreBytes}
use Rattle.image_format.proofs.Sound.{came}
use Rattle.image_reader_law.proofs.ImageSoundFiles.{written_are_read}
use Rattle.image_reader_law.specs.Faults as s
use Rattle.image_reader_law.specs.Faults.{pair, IsFileFault}
use Rattle.image_reader_law.specs.ImageFaults.{IsImage, NoImageHasAFault, EachFileIsAnImageOrHasAFault}
use Rattle.image_reader_law.proofs.Heard.{read_begins}
use Rattle.image_reader_law.proofs.ImageFaultsFiles.{file_of, is_told, told_exactly}
use Rattle.image_reader_law.proofs.Behind.{written_is}
use Rattle.image_reader_law.proofs.ImageFaultsWhole.{image_made}

pub none : NoImageHasAFault
none bytes number offset few image h =
    let read = written_are_read image.version image.parts image.in_range (subst (λ (all : List ℕ). length all ≤ f.longest) image.are few) in
    let told = is_told bytes number offset h in
    let both = sym (ap f.read_file image.are ∙ read) ∙ told.is_read in
    cc

ended_is : (bytes : List ℕ) (z y : (Version × f.Parts) × List ℕ) → AreBytes bytes → f.image_format.read bytes ≡ Ok z → f.ended z ≡ Ok y → IsImage bytes
ended_is bytes (x, []) y are was is =
    let begins = read_begins (pair s.version s.parts) f.image_format image_made bytes are (x, []) was in
    record { version = x.0; parts = x.1; in_range = begins.in_range; are = begins.are ∙ append-nil (f.image_format.write x) ∙ written_is x.0 x.1 begins.in_range }
ended_is bytes (x, b ∷ more) y are was is = absurd cc

image_read : (bytes : List ℕ) (y : (Version × f.Parts) × List ℕ) → AreBytes bytes → f.read_file bytes ≡ Ok y → IsImage bytes
unfolding f.read_file
image_read bytes y are h = by (nat_lt f.longest (length bytes)) refl h where
  by : (b : Bool) → nat_lt f.longest (length bytes) ≡ b → file_of b bytes ≡ Ok y → IsImage bytes
  by true test is = absurd cc
  by false test is = let c = came (f.image_format.read bytes) f.ended y is in ended_is bytes c.x y are c.was c.then_is

pub either : EachFileIsAnImageOrHasAFault
either bytes are = by (f.read_file bytes) refl where
  by : (r : Result ((Version × f.Parts) × List ℕ) ByteFault) → f.read_file bytes ≡ r → IsImage bytes ⊎ ((number : ℕ) × (offset : ℕ) × IsFileFault bytes number offset)
  by (Ok y) is = inl (image_read bytes y are is)
  by (Err e) is = inr (e.number, length bytes - e.left, (told_exactly bytes e.number (length bytes - e.left) are).0 (record { left = e.left; is_read = is; place = refl }))
