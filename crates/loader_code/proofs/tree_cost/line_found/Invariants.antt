use Rattle.std.proofs.Common.{◌≡◌, ◌+◌, ◌-◌}
use Rattle.loader_code.specs.TreesTold.{EndsAt, found_of}
use Rattle.valid_image.specs.Found.{line, joined}
use Rattle.valid_image_law.specs.Held.{hold}
use Rattle.loader_code.proofs.tree_cost.line_found.Given as goal

abbrev pub invariant-loop-k : goal.invariant-loop-k
invariant-loop-k l = record {
  rest : hold (joined (found_of l.so_far) (line l.code (l.count - l._k) l.so_far.next l.so_far.height)) ≡ hold (line l.code l.count l.at l.height);
  ends : EndsAt l.code (l.at + l._k) l.so_far;
}
