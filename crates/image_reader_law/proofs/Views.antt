-- A format that is read as it is written, also as another thing, shows its things one to one.
use Rattle.std.proofs.Common.{◌≡◌, ◌++◌, ℕ, true, List, [], Ok, sym, ap, ◌∙◌}
use Rattle.image_format.specs.Format.{Format, Read, ◌>>=◌, via}
use Rattle.image_format.specs.FormatLaw.{AreBytes, IsSound}
use Rattle.image_format.proofs.Alike.{okay, same_ok}
use Rattle.image_reader_law.specs.Faults.{IsView}

abbrev seen : {A B : Type 0} → (A → B) → Read A → Read B
seen to r = r >>= λ x. Ok (to x.0, x.1)

first : {A : Type 0} (x y : A) (rest : List ℕ) → okay {A = A × List ℕ} (x, rest) ≡ okay (y, rest) → x ≡ y
first {A = A} x y rest h = ap (λ (p : A × List ℕ). p.0) (same_ok (x, rest) (y, rest) h)

module _ {A B : Type 0} (f : Format A) (to : A → B) (from : B → A) (s : IsSound f) (v : IsSound (via to from f)) where
  there : (y : B) → f.is (from y) ≡ true → to (from y) ≡ y
  there y h = first (to (from y)) y [] (sym (ap (seen to) (s.again (from y) [] h)) ∙ v.again y [] h)

  back : (x : A) → f.is x ≡ true → AreBytes (f.write x ++ []) → from (to x) ≡ x
  back x h are =
      let written = v.back (f.write x ++ []) (to x, []) are (ap (seen to) (s.again x [] h)) in
      first (from (to x)) x [] (sym (s.again (from (to x)) [] written.1) ∙ ap f.read (sym written.0) ∙ s.again x [] h)

  pub view_of : ((x : A) → f.is x ≡ true → AreBytes (f.write x ++ [])) → IsView f to from
  view_of are = record { back = λ x h. back x h (are x h); there = there }
