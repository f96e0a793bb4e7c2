-- Segments that have trees, as they are kept.
use Rattle.std.specs.Prelude.{ℕ, List}
use Rattle.image_format.specs.declared.seg.Seg.{Seg}
use Rattle.image_format.specs.declared.seg.Seg.TheVariants as seg

abbrev pub fork : List Seg → List Seg → Seg
fork first second = seg.Fork (record { first = first; second = second })

abbrev pub rep : ℕ → List Seg → Seg
rep count body = seg.Rep (record { count = count; body = body })

abbrev pub stay : ℕ → List Seg → Seg
stay monitor body = seg.Stay (record { monitor = monitor; body = body })
