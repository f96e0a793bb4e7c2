-- Routines of one owner counted, and what is said of an image as a whole.
use Rattle.std.proofs.Common.{◌≡◌, ◌≢◌, ◌<◌, ◌+◌, ℕ, true, false, List, length, get_or, Some, arith, refl, ap, sym, ◌∙◌, map}
use Rattle.std.specs.Prelude.{codes, slice_get}
use Rattle.std.proofs.lemmas.List.{length-map}
use Rattle.std.proofs.lemmas.List.Sums.{count_by_more_yes, count_by_more_no}
use Rattle.std.proofs.lemmas.Option.{slice_get-get_or}
use Rattle.base.proofs.Lists.{map_get}
use Rattle.image.specs.declared.raw.RawRoutine.{RawRoutine}
use Rattle.image.specs.Raw.{routine_of}
use Rattle.faulty_part.specs.Among.{number_among, share_owner}
use Rattle.faulty_part.specs.declared.part.Subject.{Subject}
use Rattle.faulty_part.specs.declared.part.Subject.TheVariants as subject
use Rattle.message_log.specs.Image.{around, whole_sentence}

there : (xs : List RawRoutine) (i : ℕ) (y : RawRoutine) → i < length xs → y ≡ get_or xs i y → get_or (map routine_of xs) i (routine_of y) ≡ routine_of y
there xs i y low is =
    let here : slice_get (map routine_of xs) i ≡ Some (routine_of y) = map_get routine_of xs i y (slice_get-get_or xs i y low ∙ ap (λ z. Some z) (sym is)) in
    let both : Some (get_or (map routine_of xs) i (routine_of y)) ≡ Some (routine_of y) = sym (slice_get-get_or (map routine_of xs) i (routine_of y) (omega (arith, low, length-map xs routine_of))) ∙ here in
    cc

-- the next one is of the owner, or is not
pub counted_yes : (xs : List RawRoutine) (i : ℕ) (x y : RawRoutine) → i < length xs → y ≡ get_or xs i y → true ≡ share_owner (routine_of x) (routine_of y) → number_among (map routine_of xs) (i + 1) (routine_of x) ≡ number_among (map routine_of xs) i (routine_of x) + 1
counted_yes xs i x y low is hit =
    count_by_more_yes (share_owner (routine_of x)) (map routine_of xs) i (routine_of y) (omega (arith, low, length-map xs routine_of)) (ap (share_owner (routine_of x)) (there xs i y low is) ∙ sym hit)

pub counted_no : (xs : List RawRoutine) (i : ℕ) (x y : RawRoutine) → i < length xs → y ≡ get_or xs i y → false ≡ share_owner (routine_of x) (routine_of y) → number_among (map routine_of xs) (i + 1) (routine_of x) ≡ number_among (map routine_of xs) i (routine_of x)
counted_no xs i x y low is miss =
    count_by_more_no (share_owner (routine_of x)) (map routine_of xs) i (routine_of y) (omega (arith, low, length-map xs routine_of)) (ap (share_owner (routine_of x)) (there xs i y low is) ∙ sym miss)

pub uncovered : (s : Subject) (a b : ℕ) → s ≢ subject.Words → whole_sentence s a b ≡ around (codes "the code from address ") a (codes " on belongs to no routine and no process")
uncovered subject.Operand a b other = refl
uncovered subject.Code a b other = refl
uncovered subject.Handler a b other = refl
uncovered subject.Run a b other = refl
uncovered subject.Suspension a b other = refl
uncovered subject.Waits a b other = refl
uncovered subject.Stay a b other = refl
uncovered subject.Locals a b other = refl
uncovered subject.Stack a b other = refl
uncovered subject.Base a b other = refl
uncovered subject.Words a b other = absurd (other refl)
uncovered subject.Rank a b other = refl
uncovered subject.Ceiling a b other = refl
uncovered subject.Block a b other = refl
uncovered subject.Bound a b other = refl
uncovered subject.Deadline a b other = refl
