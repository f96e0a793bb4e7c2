-- One more word is 0.
use Rattle.std.proofs.Common.{arith, ◌∙◌}
use Rattle.std.proofs.lemmas.List.{take-set-le}
use Rattle.vm_instructions.proofs.Rows.{cleared_more}
use Rattle.vm_instructions.proofs.frames.clear.Goals as goal

pub loop-k-preserved : goal.loop-k-preserved
loop-k-preserved c = record {
  cleared = cleared_more c.args.from c.loop-k.k c.loop-k.words.items (omega arith) (omega arith) c.loop-k.invariant.cleared;
  before = take-set-le c.args.from c.loop-k.words.items c.loop-k.k _ (omega arith) ∙ c.loop-k.invariant.before;
  len = c.loop-k.invariant.len;
}
