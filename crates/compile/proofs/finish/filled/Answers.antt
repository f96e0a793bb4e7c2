use Rattle.compile.proofs.Filling.{declared_are}
use Rattle.compile.proofs.finish.filled.Goals as goal

pub returns : goal.returns
returns c = record {
  same = c.with_bounds-image.ensures.same;
  declared = declared_are c.args.image c.with_bounds-image.result c.args.bounds.now c.requires.one_each c.requires.there c.with_bounds-image.ensures.same c.with_bounds-image.ensures.bounds;
  table = c.in_ok-table.ensures;
}
