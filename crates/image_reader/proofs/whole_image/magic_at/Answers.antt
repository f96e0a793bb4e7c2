use Rattle.std.proofs.Common.{◌≡◌, ◌∙◌, ℕ, List, Ok, true, false, ap, refl, sym}
use Rattle.std.specs.Prelude.{codes, nat_eq}
use Rattle.std.specs.Cmp.Lexicographic.{pointwise}
use Rattle.image_reader.proofs.Words.{same_words}
use Rattle.image_reader.proofs.whole_image.magic_at.Goals as goal

pub returns-then-eq : goal.returns-then-eq
returns-then-eq c =
    let magic = c.in-Ok.it.0.now in
    let test : pointwise nat_eq magic (codes "RTEU") ≡ true = ap (pointwise nat_eq magic) (sym c.as_slice.ensures) ∙ sym c.if-eq.ensures in
    rw (c.in-Ok.ensures, test) (ap (λ (letters : List ℕ). Ok (letters, c.in-Ok.it.1.now)) (same_words magic (codes "RTEU") test))

pub returns-else-eq : goal.returns-else-eq
returns-else-eq c =
    let magic = c.in-Ok.it.0.now in
    let test : pointwise nat_eq magic (codes "RTEU") ≡ false = ap (pointwise nat_eq magic) (sym c.as_slice.ensures) ∙ sym c.if-eq.ensures in
    rw (c.in-Ok.ensures, test) refl
