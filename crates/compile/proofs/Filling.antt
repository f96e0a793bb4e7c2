-- What stays the same when bounds are filled in, and the bounds that are then declared.
use Rattle.std.proofs.Common.{◌≡◌, ◌∙◌, ℕ, suc, List, [], ◌∷◌, length, map, Option, Some, None, arith, refl, ap, sym}
use Rattle.std.specs.Prelude.{All, IsSome, slice_get}
use Rattle.std.proofs.lemmas.List.{length-map}
use Rattle.std.proofs.lemmas.List.Elements.{All-tail}
use Rattle.machine_semantics.specs.Image.{Image, Process}
use Rattle.image.specs.declared.raw.RawImage.{RawImage}
use Rattle.image.specs.Raw.{image_of, named_of, process_of}
use Rattle.built_image.specs.Filled.{DiffersInBounds, without_bound}
use Rattle.built_image_law.specs.Filled.{declared_bounds}
use Rattle.built_image_law.proofs.Lists.{as_many}
use Rattle.compile_schedule.specs.Bounding.{HasBounds}

pub same_number : (before now : RawImage) → DiffersInBounds (named_of before) (named_of now) → length now.processes ≡ length before.processes
same_number before now same =
    let many : length (map process_of now.processes) ≡ length (map process_of before.processes) =
    as_many without_bound (map process_of now.processes) (map process_of before.processes) (ap (λ (m : Image). m.processes) same.image) in
    sym (length-map now.processes process_of) ∙ (many ∙ length-map before.processes process_of)

declared : (ps : List Process) (bs : List (Option ℕ)) → length bs ≡ length ps → All IsSome bs
    → ((k : ℕ) (p : Process) (b : ℕ) → slice_get ps k ≡ Some p → slice_get bs k ≡ Some (Some b) → p.bound ≡ b) → map (λ (p : Process). Some p.bound) ps ≡ bs
declared [] [] long all has = refl
declared [] (b ∷ bs) long all has = absurd (omega (arith, long))
declared (p ∷ ps) [] long all has = absurd (omega (arith, long))
declared (p ∷ ps) (None ∷ bs) long all has = absurd (let some : IsSome {T = ℕ} None = all 0 None (omega arith) in cc)
declared (p ∷ ps) (Some b ∷ bs) long all has =
    let here : p.bound ≡ b = has 0 p b refl refl in
    let rest : map (λ (q : Process). Some q.bound) ps ≡ bs =
    declared ps bs (omega (arith, long)) (All-tail IsSome (Some b) bs all) (λ k q c at there. has (suc k) q c at there) in
    ap (λ (n : ℕ). Some n ∷ map (λ (q : Process). Some q.bound) ps) here ∙ ap (λ (xs : List (Option ℕ)). Some b ∷ xs) rest

-- with all bounds filled in, just these are declared
pub declared_are : (before now : RawImage) (bounds : List (Option ℕ)) → length bounds ≡ length before.processes → All IsSome bounds
    → DiffersInBounds (named_of before) (named_of now) → HasBounds (image_of now) bounds → declared_bounds (image_of now) ≡ bounds
declared_are before now bounds one_each all same has =
    declared (map process_of now.processes) bounds (one_each ∙ (sym (same_number before now same) ∙ sym (length-map now.processes process_of))) all has
