use Rattle.std.proofs.Common.{◌≡◌, ◌++◌, drop}
use Rattle.image_format.specs.View.{views}
use Rattle.asm_format.specs.TreeText.{segs_text}
use Rattle.asm_format.proofs.trees.+trees.Given as goal

abbrev pub invariant-put_segs-loop-seg : goal.invariant-put_segs-loop-seg
invariant-put_segs-loop-seg l = l.text ++ segs_text (views (drop l.seg-index l.segs)) ≡ l.initial.text ++ segs_text (views l.segs)
