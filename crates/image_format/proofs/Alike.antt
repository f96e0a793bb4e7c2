-- Formats that write and read the same.
use Rattle.std.proofs.Common.{◌≡◌, ◌<◌, ◌++◌, ℕ, List, length, take, Ok, Err, sym, ap, ◌∙◌, subst}
use Rattle.std.specs.Prelude.{Result}
use Rattle.image_format.specs.declared.fault.ByteFault.{ByteFault}
use Rattle.image_format.specs.Format.{Format}
use Rattle.image_format.specs.FormatLaw.{IsSound}

abbrev pub okay : {A : Type 0} → A → Result A ByteFault
okay x = Ok x

pub same_ok : {A : Type 0} (x y : A) → okay x ≡ okay y → x ≡ y
same_ok {A = A} x y h = ap value h where
  value : Result A ByteFault → A
  value (Ok z) = z
  value (Err e) = x

pub alike : {A : Type 0} (f g : Format A) → ((x : A) → f.write x ≡ g.write x) → ((x : A) → f.is x ≡ g.is x) → ((bytes : List ℕ) → f.read bytes ≡ g.read bytes) → IsSound f → IsSound g
alike {A = A} f g writes ranges reads s = record {
  back = λ bytes z are h.
      let b = s.back bytes z are (reads bytes ∙ h) in
      (b.0 ∙ ap (λ (front : List ℕ). front ++ z.1) (writes z.0), sym (ranges z.0) ∙ b.1);
  again = λ x rest h. ap (λ (front : List ℕ). g.read (front ++ rest)) (sym (writes x)) ∙ sym (reads (f.write x ++ rest)) ∙ s.again x rest (ranges x ∙ h);
  cut = λ x k h low.
      ap (λ (all : List ℕ). g.read (take k all)) (sym (writes x)) ∙ sym (reads (take k (f.write x)))
      ∙ s.cut x k (ranges x ∙ h) (subst (λ (all : List ℕ). k < length all) (sym (writes x)) low);
}
