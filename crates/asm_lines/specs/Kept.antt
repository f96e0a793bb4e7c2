-- What the reader keeps of the line of a process.
use Rattle.std.specs.Prelude.{ℕ, List}
use Rattle.asm_lines.specs.declared.process.ProcessLine.{ProcessLine}

abbrev pub line_of : ProcessLine → (ℕ × (ℕ × (ℕ × (ℕ × ℕ)))) × ((ℕ × (ℕ × (ℕ × (ℕ × (ℕ × ℕ))))) × ((ℕ × (ℕ × (ℕ × ℕ))) × (ℕ × List ℕ)))
line_of line = (
  (line.release.kind, (line.release.frame, (line.release.deadline, (line.release.first, line.release.event)))),
  (
    (line.time.rank, (line.time.run, (line.time.susp, (line.time.waits, (line.time.block, line.time.bound))))),
    ((line.room.words, (line.room.stack, (line.room.locals, line.room.start))), (line.handler.start, line.handler.numbers)),
  ),
)
