-- Lengths of what is written of a process.
use Rattle.std.proofs.Common.{◌≡◌, ◌+◌, ◌*◌, ◌++◌, ℕ, List, [], ◌∷◌, length, refl, length-append, arith}
use Rattle.std.specs.List.{flat_map}
use Rattle.image_format.specs.Numbers.{u16}
use Rattle.image_format.specs.TreeBytes.{tree_bytes}
use Rattle.image.specs.Bytes.{handler_bytes}
use Rattle.image_bytes.specs.Reads.{numbered_bytes}
use Rattle.machine_semantics.specs.Image.{Process}

-- each number takes two bytes
numbers_length : (numbers : List ℕ) → length (flat_map u16 numbers) ≡ 2 * length numbers
numbers_length [] = refl
numbers_length (n ∷ ns) = omega (arith, numbers_length ns)

three_length : (a b c : List ℕ) → length (a ++ (b ++ c)) ≡ length a + (length b + length c)
three_length a b c = omega (arith, length-append a (b ++ c), length-append b c)

-- what stands after the name of a process
pub numbered_length : (p : Process) → length (numbered_bytes p) ≡ 59 + (2 * length p.numbers + (length (tree_bytes p.body) + length (handler_bytes p.numbers p.handler_tree)))
numbered_length p =
    let numbers = numbers_length p.numbers in
    let trees = three_length (flat_map u16 p.numbers) (tree_bytes p.body) (handler_bytes p.numbers p.handler_tree) in
    omega (arith, numbers, trees)
