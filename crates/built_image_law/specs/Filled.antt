-- Lists, part by part, and images without their blocks.
use Rattle.std.specs.Prelude.{◌≡◌, ℕ, List, Option, Some, map, slice_get}
use Rattle.machine_semantics.specs.Image.{Image, Process}

-- each element, with its number, is so
abbrev pub Each : {A : Type 0} → (ℕ → A → Type 0) → List A → Type 0
Each {A} P xs = (k : ℕ) (x : A) → slice_get xs k ≡ Some x → P k x

abbrev pub without_block : Process → Process
without_block p = record p { block = 0; bound = 0 }

-- an image, its blocks and bounds left aside
abbrev pub without_blocks : Image → Image
without_blocks m = record m { processes = map without_block m.processes }

-- the bounds that an image declares
abbrev pub declared_bounds : Image → List (Option ℕ)
declared_bounds m = map (λ p. Some p.bound) m.processes
