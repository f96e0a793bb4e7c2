-- The lines of processes.
use Rattle.std.specs.Prelude.{◌&&◌, not, ℕ, zero, suc, Bool, List, [], ◌∷◌, length, Ok, Err, Result, Option, Some, None, codes, nat_lt, nat_eq, if◌then◌else◌}
use Rattle.std.specs.List.{list_any}
use Rattle.machine_semantics.specs.Image.{Process}
use Rattle.machine_semantics.specs.Trees.{Segs}
use Rattle.image_reader.specs.Grammar.{is_taken}
use Rattle.text_fields.specs.declared.fault.FieldFault.{FieldFault}
use Rattle.text_fields.specs.Front.{Front, Read, ◌>>=◌, no_form, noted, begins, skip, end_read}
use Rattle.text_fields.specs.LineFields.{field_read}
use Rattle.asm_lines.specs.Names.{named_read}
use Rattle.asm_lines.specs.Trees.{tree_line_read}
use Rattle.asm_lines.specs.Routines.{cost_read}

-- ---- what releases a process, and within what it ends: kind, frame, deadline, first activation
-- and event

unfoldable pub periodic_frame_read : Front → Read ℕ
periodic_frame_read s = field_read (codes " periodic frame ") 10 1000000000 s

abbrev pub periodic_read : Front → Read (ℕ × (ℕ × (ℕ × (ℕ × ℕ))))
periodic_read s =
    periodic_frame_read s >>= λ frame. field_read (codes " deadline ") 10 frame.0 frame.1 >>= λ deadline.
    field_read (codes " first ") 0 1000000000 deadline.1 >>= λ first. Ok ((0, (frame.0, (deadline.0, (first.0, 0)))), first.1)

-- one of so many events, that no earlier process has
abbrev pub is_free : (events : ℕ) → (used : List ℕ) → ℕ → Bool
is_free events used event = nat_lt event events && not (list_any (λ e. nat_eq e event) used)

abbrev pub evented_read : (events : ℕ) → (used : List ℕ) → Front → Read (ℕ × (ℕ × (ℕ × (ℕ × ℕ))))
evented_read events used s =
    field_read (codes " event ") 0 65535 s >>= λ event. field_read (codes " frame ") 10 1000000000 (noted event.1 (is_free events used event.0)) >>= λ frame.
    field_read (codes " deadline ") 10 frame.0 frame.1 >>= λ deadline. Ok ((1, (frame.0, (deadline.0, (0, event.0)))), deadline.1)

unfoldable pub release_read : (events : ℕ) → (used : List ℕ) → Front → Read (ℕ × (ℕ × (ℕ × (ℕ × ℕ))))
release_read events used s = if begins (codes " event ") s.rest then evented_read events used s else periodic_read s

-- ---- time and room

-- rank, run, suspension, waits, blocking and bound
unfoldable pub time_read : Front → Read (ℕ × (ℕ × (ℕ × (ℕ × (ℕ × ℕ)))))
time_read s =
    field_read (codes " rank ") 0 65535 s >>= λ rank. cost_read (codes " run ") rank.1 >>= λ run. cost_read (codes " suspend ") run.1 >>= λ susp. cost_read (codes " waits ") susp.1 >>= λ waits.
    cost_read (codes " block ") waits.1 >>= λ block. field_read (codes " bound ") 1 1000000000 block.1 >>= λ bound. Ok ((rank.0, (run.0, (susp.0, (waits.0, (block.0, bound.0))))), bound.1)

-- data words, stack, locals and start
unfoldable pub room_read : Front → Read (ℕ × (ℕ × (ℕ × ℕ)))
room_read s =
    field_read (codes " data ") 0 4294967295 s >>= λ words. field_read (codes " stack ") 0 4096 words.1 >>= λ stack. field_read (codes " locals ") 0 4096 stack.1 >>= λ locals.
    field_read (codes " start ") 0 4294967295 locals.1 >>= λ start. Ok ((words.0, (stack.0, (locals.0, start.0))), start.1)

-- ---- the handler

-- a number that a handler may take, above the last one
unfoldable pub taken_read : (last : ℕ) → Front → Read ℕ
taken_read last s = field_read (codes " ") 0 65535 s >>= λ n. Ok (n.0, noted n.1 (nat_lt last n.0 && is_taken n.0))

-- more of them, up to the end of the line, at most so many
unfoldable pub more_read : (most last : ℕ) → Front → Read (List ℕ)
more_read zero last s = Err (no_form s)
more_read (suc n) last s = if begins (codes "\n") s.rest then Ok ([], s) else (taken_read last s >>= λ x. more_read n x.0 x.1 >>= λ xs. Ok (x.0 ∷ xs.0, xs.1))

-- one or more; a line has no more of them than bytes
unfoldable pub numbers_read : Front → Read (List ℕ)
numbers_read s = if begins (codes "\n") s.rest then Err (no_form s) else more_read (length s.rest) 0 s

-- the address of the handler and the numbers that it takes, where there is one
unfoldable pub handler_read : Front → Read (ℕ × List ℕ)
handler_read s =
    if begins (codes "\n") s.rest then Ok ((0, []), s)
    else (field_read (codes " handler ") 0 4294967295 s >>= λ handler. numbers_read handler.1 >>= λ numbers. Ok ((handler.0, numbers.0), numbers.1))

-- the line of the handler's tree, where there are numbers
unfoldable pub handler_tree_read : (monitors : ℕ) → (numbers : List ℕ) → Front → Read (Option Segs)
handler_tree_read monitors [] s = Ok (None, s)
handler_tree_read monitors (n ∷ ns) s = tree_line_read monitors s >>= λ tree. Ok (Some tree.0, tree.1)

-- ---- the process

-- all in the line of a process but its name
unfoldable pub fields_read : (events : ℕ) → (used : List ℕ) → Front
    → Read ((ℕ × (ℕ × (ℕ × (ℕ × ℕ)))) × ((ℕ × (ℕ × (ℕ × (ℕ × (ℕ × ℕ))))) × ((ℕ × (ℕ × (ℕ × ℕ))) × (ℕ × List ℕ))))
fields_read events used s =
    release_read events used s >>= λ release. time_read release.1 >>= λ time. room_read time.1 >>= λ room. handler_read room.1 >>= λ handler. end_read handler.1 >>= λ t.
    Ok ((release.0, (time.0, (room.0, handler.0))), t)

abbrev pub process_with : (ℕ × (ℕ × (ℕ × (ℕ × ℕ)))) × ((ℕ × (ℕ × (ℕ × (ℕ × (ℕ × ℕ))))) × ((ℕ × (ℕ × (ℕ × ℕ))) × (ℕ × List ℕ))) → Segs → Option Segs → Process
process_with x body handler_tree = record {
  kind = x.0.0;
  frame = x.0.1.0;
  deadline = x.0.1.1.0;
  first = x.0.1.1.1.0;
  event = x.0.1.1.1.1;
  rank = x.1.0.0;
  run = x.1.0.1.0;
  susp = x.1.0.1.1.0;
  waits = x.1.0.1.1.1.0;
  block = x.1.0.1.1.1.1.0;
  bound = x.1.0.1.1.1.1.1;
  words = x.1.1.0.0;
  stack = x.1.1.0.1.0;
  locals = x.1.1.0.1.1.0;
  start = x.1.1.0.1.1.1;
  handler = x.1.1.1.0;
  numbers = x.1.1.1.1;
  body = body;
  handler_tree = handler_tree;
}

-- the line of a process, with its name
unfoldable pub process_line_read : (events : ℕ) → (taken : List (List ℕ)) → (used : List ℕ) → Front
    → Read (List ℕ × ((ℕ × (ℕ × (ℕ × (ℕ × ℕ)))) × ((ℕ × (ℕ × (ℕ × (ℕ × (ℕ × ℕ))))) × ((ℕ × (ℕ × (ℕ × ℕ))) × (ℕ × List ℕ)))))
process_line_read events taken used s = named_read (codes "process ") taken s >>= λ name. fields_read events used name.1 >>= λ x. Ok ((name.0, x.0), x.1)

-- a process with its name, the line of its tree, and that of its handler's
unfoldable pub process_read : (monitors events : ℕ) → (taken : List (List ℕ)) → (used : List ℕ) → Front → Read (List ℕ × Process)
process_read monitors events taken used s =
    process_line_read events taken used s >>= λ x. tree_line_read monitors x.1 >>= λ body. handler_tree_read monitors x.0.1.1.1.1.1 body.1 >>= λ handler.
    Ok ((x.0.0, process_with x.0.1 body.0 handler.0), handler.1)
