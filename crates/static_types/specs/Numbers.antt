-- The rules for the numbers in statements: turns of loops, exceptions, and limits of waits.
use Rattle.std.specs.Prelude.{Option, Some, None, pos, ◌+ℤ◌, int_le, int_lt, if◌then◌else◌}
use Rattle.base.specs.Words.{same}
use Rattle.syntax_tree.specs.Placed.{loop, wait, except}
use Rattle.syntax_tree.specs.declared.place.Place.{Place}
use Rattle.static_declarations.specs.Values.{Worth, constant_place, out_of}
use Rattle.static_declarations.specs.Parts.{Part, statement}

-- a loop's lower bound is above its upper bound
abbrev pub crossed_loop : Worth → Part → Option Place
crossed_loop worth (statement here (loop p name q low high a)) = if int_lt (worth high) (worth low) then Some (constant_place low) else None
crossed_loop worth _ = None

-- a loop's upper bound is the greatest word
abbrev pub endless_loop : Worth → Part → Option Place
endless_loop worth (statement here (loop p name q low high a)) = if same (worth high) (pos 2147483647) then Some (constant_place high) else None
endless_loop worth _ = None

-- a loop has more than 1,000,000 turns
abbrev pub long_loop : Worth → Part → Option Place
long_loop worth (statement here (loop p name q low high a)) = if int_le (worth low +ℤ pos 1000000) (worth high) then Some p else None
long_loop worth _ = None

-- the number of an exception that is raised is not in 10 .. 999
abbrev pub bad_number : Worth → Part → Option Place
bad_number worth (statement here (except p number)) = out_of worth 10 999 number
bad_number worth (statement here (wait p cond q limit number)) = out_of worth 10 999 number
bad_number worth _ = None

-- the limit of a wait is not in 1 .. 1,000,000,000
abbrev pub bad_limit : Worth → Part → Option Place
bad_limit worth (statement here (wait p cond q limit number)) = out_of worth 1 1000000000 limit
bad_limit worth _ = None
