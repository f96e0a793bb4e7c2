-- The bytes of a name, by where they stand.
use Rattle.std.specs.Prelude.{ℕ, List, take}
use Rattle.syntax_tree.specs.declared.name.Bytes.{Bytes}
use Rattle.syntax_tree.specs.declared.name.Bytes.TheVariants.{Short, Long}

abbrev pub bytes_of : Bytes → List ℕ
bytes_of (Short it) = take it.len it.room
bytes_of (Long it) = it.items
