use Rattle.std.proofs.Common.{◌≡◌, take}
use Rattle.loader_code.specs.Owned.{calls_of}
use Rattle.loader_code.proofs.calls.calls_at.Given as goal

abbrev pub invariant-loop-address : goal.invariant-loop-address
invariant-loop-address l = l.called ≡ calls_of l.code (take l.address-index l.addresses)
