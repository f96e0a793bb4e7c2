-- A handler, by the rows of what routines reach.
use Rattle.std.specs.Prelude.{◌&&◌, not, Bool, true, List, Option, Some, None, nat_eq}
use Rattle.machine_semantics.specs.Trees.{Segs}
use Rattle.machine_semantics.specs.Image.{Process}
use Rattle.valid_image.specs.Tables.{Reach, handler_start, tree_waits}

abbrev pub is_right : List Reach → Process → Option Segs → Bool
is_right rows p None = true
is_right rows p (Some tree) = nat_eq p.handler (handler_start p) && not (tree_waits rows tree)
