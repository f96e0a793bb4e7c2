-- Two processes whose ranks go by the deadline and not by the frame, with a log that is a run and
-- one that is none.
use Rattle.std.specs.Prelude.{List, None, Some, [], codes, false, pos, true, ◌∷◌}
use Rattle.base.specs.declared.event.Event.{Event}
use Rattle.base.specs.declared.event.Act.TheVariants as act
use Rattle.syntax_tree.specs.Plain.{Program, device, literal, literal_constant, no_stmts, periodic, process, put, stmts}
use Rattle.source_semantics.specs.Starts.{Script}
use Rattle.source_semantics_law.specs.Example.{at}

-- p has the shorter frame, q the shorter deadline
abbrev pub by_deadline : Program
by_deadline = record {
  name = codes "a";
  decls =
      device (codes "valve") true
      ∷ process (record { name = codes "p"; activation = periodic (literal_constant false 100) None None; vars = []; routines = []; body = (stmts (put (codes "valve") (literal 1)) no_stmts); handler = None })
      ∷ process (record { name = codes "q"; activation = periodic (literal_constant false 200) (Some (literal_constant false 50)) None; vars = []; routines = []; body = (stmts (put (codes "valve") (literal 2)) no_stmts); handler = None })
      ∷ [];
}

abbrev pub by_deadline_script : Script
by_deadline_script = record { lines = []; end_tick = 50 }

-- both are released at 0, and q acts first
abbrev pub by_deadline_log : List Event
by_deadline_log =
    at 0 0 act.Release
    ∷ at 0 1 act.Release
    ∷ at 11 1 (act.Put 0 (pos 2))
    ∷ at 15 1 act.End
    ∷ at 27 0 (act.Put 0 (pos 1))
    ∷ at 33 0 act.End
    ∷ []

-- no run: the process with the shorter frame acts first
abbrev pub shorter_frame_first_log : List Event
shorter_frame_first_log =
    at 0 0 act.Release
    ∷ at 0 1 act.Release
    ∷ at 11 0 (act.Put 0 (pos 1))
    ∷ at 15 0 act.End
    ∷ at 27 1 (act.Put 0 (pos 2))
    ∷ at 33 1 act.End
    ∷ []
