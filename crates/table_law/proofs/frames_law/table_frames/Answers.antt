use Rattle.syntax_tree.specs.Placed.{plain}
use Rattle.table_format.specs.Program.{program_of}
use Rattle.table_law.proofs.Frames.{frame_is, deadline_is}
use Rattle.table_law.proofs.frames_law.table_frames.Goals as goal

pub returns-clause-frames : goal.returns-clause-frames
returns-clause-frames c t line = frame_is (plain (program_of t)) line line.event

pub returns-clause-deadlines : goal.returns-clause-deadlines
returns-clause-deadlines c t line = deadline_is (plain (program_of t)) line line.event
