-- The rows of a tree, segment by segment, fit their counts.
use Rattle.std.proofs.Common.{◌≡◌, ◌≤◌, ◌<◌, ◌^◌, List, [], ◌∷◌, ◌++◌, length, subst, sym, arith}
use Rattle.machine_semantics.specs.Trees as tree
use Rattle.machine_semantics.specs.Trees.{Segs, Nil, Cons}
use Rattle.image_format.specs.declared.seg.Seg.{Seg}
use Rattle.image_format.specs.View.{view, views}
use Rattle.image_format.specs.TreeBytes.{AllRowsFit, InnerRowsFit, RowsFit}
use Rattle.image_format.proofs.PutRows.{row-views}
use Rattle.image_format.proofs.TreeLoop.{join, views-push}

all_join : (front : Segs) (s : tree.Seg) → AllRowsFit front → InnerRowsFit s → AllRowsFit (join front (Cons s Nil))
all_join Nil s before one = (one, tt)
all_join (Cons t ts) s before one = (before.0, all_join ts s before.1 one)

-- with one more
pub all_push : (segs : List Seg) (s : Seg) → AllRowsFit (views segs) → InnerRowsFit (view s) → AllRowsFit (views (segs ++ s ∷ []))
all_push segs s before one = subst AllRowsFit (sym (views-push segs s)) (all_join (views segs) (view s) before one)

-- fewer than a count tells
pub rows_fit : (segs : List Seg) → length segs < 2 ^ 32 → AllRowsFit (views segs) → RowsFit (views segs)
rows_fit segs few all = (omega (arith, row-views segs, few), all)
