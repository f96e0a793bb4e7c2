-- Costs that are the same once they are capped.
use Rattle.std.specs.Prelude.{◌≡◌}
use Rattle.base.specs.Capped.{cap}
use Rattle.base.specs.declared.capped.Cost.{Cost}

pub record Like (c d : Cost) : Type 0 where
  pub run : cap c.run ≡ cap d.run
  pub susp : cap c.susp ≡ cap d.susp
  pub waits : cap c.waits ≡ cap d.waits
