-- The lines of routines.
use Rattle.std.specs.Prelude.{◌==◌, ℕ, Bool, List, Ok, Result, codes, nat_lt, if◌then◌else◌}
use Rattle.machine_semantics.specs.Image.{Routine}
use Rattle.machine_semantics.specs.Trees.{Segs}
use Rattle.text_fields.specs.declared.fault.FieldFault.{FieldFault}
use Rattle.text_fields.specs.Front.{Front, Read, ◌>>=◌, noted, begins, skip, end_read}
use Rattle.text_fields.specs.LineFields.{field_read}
use Rattle.asm_lines.specs.Trees.{tree_line_read}

-- the number of one of so many things behind these bytes, with the kind that they tell
abbrev pub owned_read : (kind : ℕ) → (label : List ℕ) → (count : ℕ) → Front → Read (ℕ × ℕ)
owned_read kind label count s = field_read label 0 65535 s >>= λ owner. Ok ((kind, owner.0), noted owner.1 (nat_lt owner.0 count))

-- whose a routine is: its kind and the owner's number, where there are so many processes and
-- monitors
unfoldable pub owner_read : (processes monitors : ℕ) → Front → Read (ℕ × ℕ)
owner_read processes monitors s =
    if begins (codes "routine process ") s.rest then owned_read 1 (codes "routine process ") processes s
    else (if begins (codes "routine monitor ") s.rest then owned_read 2 (codes "routine monitor ") monitors s
    else (skip (codes "routine program") s >>= λ t. Ok ((0, 0), t)))

-- parameters, locals, whether there is a result, and the start
unfoldable pub place_read : Front → Read (ℕ × (ℕ × (Bool × ℕ)))
place_read s =
    field_read (codes " params ") 0 65535 s >>= λ params. field_read (codes " locals ") 0 4096 params.1 >>= λ locals. field_read (codes " result ") 0 1 locals.1 >>= λ gives.
    field_read (codes " start ") 0 4294967295 gives.1 >>= λ start. Ok ((params.0, (locals.0, (gives.0 == 1, start.0))), start.1)

-- the longest time that is told
abbrev pub cost_read : (label : List ℕ) → Front → Read ℕ
cost_read label = field_read label 0 1000000001

-- the stay of a monitor's routine
unfoldable pub stay_read : (kind : ℕ) → Front → Read ℕ
stay_read kind s = if kind == 2 then cost_read (codes " stay ") s else Ok (0, s)

-- run, suspension, waits and stay
unfoldable pub cost_fields_read : (kind : ℕ) → Front → Read (ℕ × (ℕ × (ℕ × ℕ)))
cost_fields_read kind s =
    cost_read (codes " run ") s >>= λ run. cost_read (codes " suspend ") run.1 >>= λ susp. cost_read (codes " waits ") susp.1 >>= λ waits. stay_read kind waits.1 >>= λ stay.
    Ok ((run.0, (susp.0, (waits.0, stay.0))), stay.1)

-- all in the line of a routine
unfoldable pub routine_line_read : (processes monitors : ℕ) → Front → Read ((ℕ × ℕ) × ((ℕ × (ℕ × (Bool × ℕ))) × (ℕ × (ℕ × (ℕ × ℕ)))))
routine_line_read processes monitors s =
    owner_read processes monitors s >>= λ owner. place_read owner.1 >>= λ place. cost_fields_read owner.0.0 place.1 >>= λ cost. end_read cost.1 >>= λ t. Ok ((owner.0, (place.0, cost.0)), t)

abbrev pub routine_with : (ℕ × ℕ) × ((ℕ × (ℕ × (Bool × ℕ))) × (ℕ × (ℕ × (ℕ × ℕ)))) → Segs → Routine
routine_with x tree = record {
  kind = x.0.0;
  owner = x.0.1;
  params = x.1.0.0;
  locals = x.1.0.1.0;
  gives = x.1.0.1.1.0;
  start = x.1.0.1.1.1;
  run = x.1.1.0;
  susp = x.1.1.1.0;
  waits = x.1.1.1.1.0;
  stay = x.1.1.1.1.1;
  tree = tree;
}

-- a routine, with the line of its tree
unfoldable pub routine_read : (processes monitors : ℕ) → Front → Read Routine
routine_read processes monitors s = routine_line_read processes monitors s >>= λ x. tree_line_read monitors x.1 >>= λ tree. Ok (routine_with x.0 tree.0, tree.1)
