-- Tests that hold together.
use Rattle.std.proofs.Common.{◌≡◌, ◌&&◌, Bool, true, refl}

pub together : (a b : Bool) → a ≡ true → b ≡ true → (a && b) ≡ true
together a b p q = rw (p, q) refl
