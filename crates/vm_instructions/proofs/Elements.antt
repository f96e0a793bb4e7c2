-- Elements of arrays.
use Rattle.std.proofs.Common.{◌≡◌, ◌<◌, ℕ, true, List, ◌∷◌, Some, length, get_or, refl, subst}
use Rattle.std.specs.Prelude.{ℤ, pos, ◌+ℤ◌, ◌-ℤ◌, slice_get, slice_set}
use Rattle.std.proofs.lemmas.Option.{slice_get-get_or}
use Rattle.machine_isa.specs.declared.instr.Instr.TheVariants as i
use Rattle.machine_semantics.specs.State.{Operand, Value}
use Rattle.machine_semantics.specs.Effect.{is_reached}
use Rattle.vm_instructions.specs.Steps.{DoesLocal, DoesOwned, LoadsShared, StoresShared, ReachesMon, ReachesMonFirst, ReachesMonLast, is_inside_array, HasWord, Reaches, ReachesFirst, ReachesLast}
use Rattle.vm_instructions.specs.declared.within.Within.TheVariants as within_frame

-- and is within
pub within : (words : List ℤ) (z : ℤ) (n : ℕ) → HasWord words z → z ≡ pos n → n < length words
within words z n h is = let f : HasWord words (pos n) = subst (λ (y : ℤ). HasWord words y) is h in f

-- the element is there, by what is asked of the operands
pub last_there : (old new : List Operand) (words : List ℤ) (w low len x : ℤ) (n : ℕ) → old ≡ Value x ∷ new → ReachesLast words w low len old
    → is_inside_array low len x ≡ true → w +ℤ (x -ℤ low) ≡ pos n → n < length words
last_there old new words w low len x n taken reaches inside at =
    let h : Reaches words w low len x = subst (λ (os : List Operand). ReachesLast words w low len os) taken reaches in
    within words (w +ℤ (x -ℤ low)) n (h inside) at

pub first_there : (old new : List Operand) (words : List ℤ) (w low len x y : ℤ) (n : ℕ) → old ≡ Value y ∷ (Value x ∷ new) → ReachesFirst words w low len old
    → is_inside_array low len x ≡ true → w +ℤ (x -ℤ low) ≡ pos n → n < length words
first_there old new words w low len x y n taken reaches inside at =
    let h : Reaches words w low len x = subst (λ (os : List Operand). ReachesFirst words w low len os) taken reaches in
    within words (w +ℤ (x -ℤ low)) n (h inside) at

pub loads_local : (old new after : List Operand) (words : List ℤ) (w low len x z : ℤ) (n : ℕ) → old ≡ Value x ∷ new → after ≡ Value z ∷ new
    → is_inside_array low len x ≡ true → w +ℤ (x -ℤ low) ≡ pos n → slice_get words n ≡ Some z → DoesLocal (i.LoadLocalAt w low len) old words within_frame.Done after words
loads_local old new after words w low len x z n taken given inside at there image s o = rw (taken, given, inside, at, there) refl

pub stores_local : (old new : List Operand) (words : List ℤ) (w low len x y : ℤ) (n : ℕ) → old ≡ Value y ∷ (Value x ∷ new)
    → is_inside_array low len x ≡ true → w +ℤ (x -ℤ low) ≡ pos n → n < length words → DoesLocal (i.StoreLocalAt w low len) old words within_frame.Done new (slice_set words n y)
stores_local old new words w low len x y n taken inside at below image s o =
    let there : slice_get words n ≡ Some (get_or words n (pos 0)) = slice_get-get_or words n (pos 0) below in
    rw (taken, inside, at, there) refl

pub loads_own : (old new after : List Operand) (words : List ℤ) (w low len x z : ℤ) (n : ℕ) → old ≡ Value x ∷ new → after ≡ Value z ∷ new
    → is_inside_array low len x ≡ true → w +ℤ (x -ℤ low) ≡ pos n → slice_get words n ≡ Some z → DoesOwned (i.LoadOwnAt w low len) old words within_frame.Done after words
loads_own old new after words w low len x z n taken given inside at there image s o = rw (taken, given, inside, at, there) refl

pub stores_own : (old new : List Operand) (words : List ℤ) (w low len x y : ℤ) (n : ℕ) → old ≡ Value y ∷ (Value x ∷ new)
    → is_inside_array low len x ≡ true → w +ℤ (x -ℤ low) ≡ pos n → n < length words → DoesOwned (i.StoreOwnAt w low len) old words within_frame.Done new (slice_set words n y)
stores_own old new words w low len x y n taken inside at below image s o =
    let there : slice_get words n ≡ Some (get_or words n (pos 0)) = slice_get-get_or words n (pos 0) below in
    rw (taken, inside, at, there) refl

pub loads_mon : (old new after : List Operand) (words : List ℤ) (w low len x z : ℤ) (n : ℕ) → old ≡ Value x ∷ new → after ≡ Value z ∷ new
    → is_inside_array low len x ≡ true → w +ℤ (x -ℤ low) ≡ pos n → slice_get words n ≡ Some z → LoadsShared w low len old words within_frame.Done after
loads_mon old new after words w low len x z n taken given inside at there image s o reaches =
    let h : ReachesMon image o.job.inside w low len x = subst (λ (os : List Operand). ReachesMonLast image o.job.inside w low len os) taken reaches in
    let reached : is_reached image o.job.inside (pos n) ≡ true = subst (λ (e : ℤ). is_reached image o.job.inside e ≡ true) at (h inside) in
    rw (taken, given, inside, at, reached, there) refl

pub stores_mon : (old new : List Operand) (words : List ℤ) (w low len x y : ℤ) (n : ℕ) → old ≡ Value y ∷ (Value x ∷ new)
    → is_inside_array low len x ≡ true → w +ℤ (x -ℤ low) ≡ pos n → n < length words → StoresShared w low len old words within_frame.Done new (slice_set words n y)
stores_mon old new words w low len x y n taken inside at below image s o reaches =
    let h : ReachesMon image o.job.inside w low len x = subst (λ (os : List Operand). ReachesMonFirst image o.job.inside w low len os) taken reaches in
    let reached : is_reached image o.job.inside (pos n) ≡ true = subst (λ (e : ℤ). is_reached image o.job.inside e ≡ true) at (h inside) in
    let there : slice_get words n ≡ Some (get_or words n (pos 0)) = slice_get-get_or words n (pos 0) below in
    rw (taken, inside, at, reached, there) refl
