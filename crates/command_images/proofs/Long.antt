-- Files that hold more than the text of an image may have.
use Rattle.std.proofs.Common.{◌≡◌, ◌<◌, ℕ, Bool, true, List, length, refl, sym, subst, lt-ltb}
use Rattle.std.specs.Prelude.{nat_lt, if◌then◌else◌}
use Rattle.message_log.specs.Image.{image_text_message, long_text_message}

-- what stands in the first branch
first_branch : {A : Type 0} (x y : A) (is : Bool) → is ≡ true → x ≡ (if is then x else y)
first_branch x y is true_is = subst (λ (b : Bool). x ≡ (if b then x else y)) (sym true_is) refl

pub long_lines : (file text : List ℕ) (number line : ℕ) → 8388608 < length text → long_text_message file ≡ image_text_message file text number line
unfolding image_text_message
long_lines file text number line long = first_branch _ _ (nat_lt 8388608 (length text)) (lt-ltb 8388608 (length text) long)
