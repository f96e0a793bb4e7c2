-- Who is inside a monitor.
use Rattle.std.proofs.Common.{◌≡◌, ◌<◌, ◌+◌, ℕ, Bool, true, false, List, [], ◌∷◌, Some, None, length, get_or, map, inl, inr, arith, refl, ap, sym, ◌∙◌}
use Rattle.std.specs.Prelude.{◌↔◌, cond, nat_lt, not}
use Rattle.std.specs.List.{position, position_or_len}
use Rattle.std.proofs.lemmas.Bool.{cases_Bool}
use Rattle.std.proofs.lemmas.Bool.Decides.{nat_tests}
use Rattle.std.proofs.lemmas.List.{length-map}
use Rattle.std.proofs.lemmas.List.Quantifiers.{position-Some}
use Rattle.std.proofs.lemmas.Option.{slice_get-get_or}
use Rattle.machine_semantics.specs.State.{Thread, Idle, State, is_free, thread_inside}
use Rattle.vm_stretch.specs.View.{occupant}
use Rattle.vm_watch.specs.Inspect.{IsInside, OccupantIsInside}

-- all come before the first that is inside a free monitor
all_outside : (m : ℕ) (ts : List Thread) → is_free m ts ≡ true → position_or_len (thread_inside m) ts ≡ length ts
all_outside m [] free = refl
all_outside m (t ∷ ts) free = by (thread_inside m t) refl (λ rest. all_outside m ts rest) where
  by : (b : Bool) → thread_inside m t ≡ b → (is_free m ts ≡ true → position_or_len (thread_inside m) ts ≡ length ts) → position_or_len (thread_inside m) (t ∷ ts) ≡ length (t ∷ ts)
  by true is later = absurd (let e : false ≡ true = rw is at free in cc)
  by false is later = let rest : is_free m ts ≡ true = rw is at free in rw is (let e = later rest in omega (arith, e))

-- where a monitor is not free, one is inside
one_inside : (m : ℕ) (ts : List Thread) → is_free m ts ≡ false → position_or_len (thread_inside m) ts < length ts
one_inside m [] held = absurd cc
one_inside m (t ∷ ts) held = by (thread_inside m t) refl (λ rest. one_inside m ts rest) where
  by : (b : Bool) → thread_inside m t ≡ b → (is_free m ts ≡ false → position_or_len (thread_inside m) ts < length ts) → position_or_len (thread_inside m) (t ∷ ts) < length (t ∷ ts)
  by true is later = rw is (omega arith)
  by false is later = let rest : is_free m ts ≡ false = rw is at held in rw is (let e = later rest in omega (arith, e))

none_of : (n len : ℕ) → n ≡ len → cond (nat_lt n len) (Some n) None ≡ None
none_of n len same = let test : nat_lt n len ≡ false = grind (arith, nat_tests, same) in rw test refl

some_of : (n len : ℕ) → n < len → cond (nat_lt n len) (Some n) None ≡ Some n
some_of n len low = let test : nat_lt n len ≡ true = grind (arith, nat_tests, low) in rw test refl

pub free_has_none : (m : ℕ) (ts : List Thread) → (position (thread_inside m) ts ≡ None) ↔ (is_free m ts ≡ true)
free_has_none m ts = (to, from) where
  from : is_free m ts ≡ true → position (thread_inside m) ts ≡ None
  from free = none_of (position_or_len (thread_inside m) ts) (length ts) (all_outside m ts free)

  to : position (thread_inside m) ts ≡ None → is_free m ts ≡ true
  to none = elim (cases_Bool (is_free m ts)) [
    | inl free ↦ free
    | inr held ↦ absurd (let some = some_of (position_or_len (thread_inside m) ts) (length ts) (one_inside m ts held) in let both : None ≡ Some (position_or_len (thread_inside m) ts) = sym none ∙ some in cc)
  ]

inside_at : (s : State) (m k : ℕ) → occupant s m ≡ Some k → IsInside s m k
inside_at s m k is =
    let at = position-Some (thread_inside m) s.threads k Idle is in
    record { thread = get_or s.threads k Idle; there = slice_get-get_or s.threads k Idle at.0; inside = at.1 }

pub occupant_is_inside : OccupantIsInside
occupant_is_inside s m = (λ k is. inside_at s m k is, free_has_none m s.threads)

-- ---- in code

same_prefix : {X Y : Type 0} (f : X → Y) (p : Y → Bool) (xs : List X) → position_or_len p (map f xs) ≡ position_or_len (λ (x : X). p (f x)) xs
same_prefix f p [] = refl
same_prefix f p (x ∷ xs) = ap (λ (n : ℕ). cond (not (p (f x))) (1 + n) 0) (same_prefix f p xs)

-- the first place in a list that is mapped
pub same_position : {X Y : Type 0} (f : X → Y) (p : Y → Bool) (xs : List X) → position (λ (x : X). p (f x)) xs ≡ position p (map f xs)
same_position f p xs =
    let first = same_prefix f p xs in
    let all = length-map xs f in
    sym (ap (λ (n : ℕ). cond (nat_lt n (length (map f xs))) (Some n) None) first ∙ ap (λ (len : ℕ). cond (nat_lt (position_or_len (λ x. p (f x)) xs) len) (Some (position_or_len (λ x. p (f x)) xs)) None) all)
