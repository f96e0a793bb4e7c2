-- A line where no more of its kind may stand.
use Rattle.std.proofs.Common.{◌≡◌, ℕ, Bool, true, false, List, Ok, Err, refl}
use Rattle.text_fields.specs.declared.fault.FieldError.{FieldError}
use Rattle.text_fields.specs.declared.fault.FieldError.TheVariants as errors
use Rattle.text_fields.specs.Front.{Fails, Front, Read, out_of_range}
use Rattle.assembler.specs.Sections.{no_more}

-- none stands here
pub none_here : {A : Type 0} (is_next : List ℕ → Bool) (line : Front → Read A) (s : Front) → is_next s.rest ≡ false → no_more is_next line s ≡ Ok s
none_here is_next line s none = rw none refl

-- one that is in its form
pub one_here : {A : Type 0} (is_next : List ℕ → Bool) (line : Front → Read A) (s : Front) (x : A × Front) → is_next s.rest ≡ true → line s ≡ Ok x → no_more is_next line s ≡ Err (out_of_range s)
one_here is_next line s x one is_read = rw (one, is_read) refl

-- one that is none of its kind
pub fault_here : {A : Type 0} (is_next : List ℕ → Bool) (line : Front → Read A) (s : Front) (e : FieldError) → is_next s.rest ≡ true → Fails e (line s) → Fails e (no_more is_next line s)
fault_here is_next line s (errors.Memory _) one fails = tt
fault_here is_next line s (errors.Fault f) one fails = rw (one, fails) refl
