-- Helpers to show that given code is of its tree.
use Rattle.std.proofs.Common.{◌≡◌, ◌≤◌, ℕ, arith, refl, sym}
use Rattle.machine_semantics.specs.Image.{Process}
use Rattle.machine_semantics.specs.Walk.{WalkCost, Covers}
use Rattle.machine_semantics.specs.Safe.{IsOwn}
use Rattle.machine_safety.specs.Example.{own_part}

-- a cost covers itself
pub exact : {c : WalkCost} → Covers c c.run c.susp c.waits c.leave
exact = record { run = omega arith; susp = omega arith; waits = omega arith; leave = omega arith }

-- a part of a process without locals or words
pub own_fits : (depth limit stay : ℕ) (p : Process) → p.locals ≡ 0 → p.words ≡ 0 → limit ≤ p.rank → depth ≤ p.stack → IsOwn p (own_part depth limit stay)
own_fits depth limit stay p locals words rank stack =
    record { last = refl; results = refl; monitor = refl; locals = sym locals; owned = sym words; limit = rank; stack = omega (arith, stack) }
