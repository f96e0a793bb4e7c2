-- The fields of a routine and of a process, in the order of the bytes of an image: each number in as
-- many bytes as it takes, whatever its range is.
use Rattle.std.specs.Prelude.{◌==◌, ◌&&◌, ℕ, zero, suc, Bool, true, List, [], ◌∷◌, length, flat_map, Ok, Option, None}
use Rattle.machine_semantics.specs.Image.{Routine, Process}
use Rattle.machine_semantics.specs.Trees.{Segs}
use Rattle.image_format.specs.Numbers as written
use Rattle.image_format.specs.Format.{Format, Read, ◌>>=◌, u8, u16, u32, given, both, via}
use Rattle.image_reader.specs.Grammar.{is_none, some_format}
use Rattle.image_format.specs.Whole.{any_tree, deepest_kept}

-- a tree whose numbers fit their fields
abbrev pub tree_fields : Format Segs
tree_fields = any_tree deepest_kept

-- 1 where it holds, else 0
abbrev pub flag_field : Format Bool
flag_field = record { write = written.flag; is = λ holds. true; read = λ bytes. u8.read bytes >>= λ x. Ok (x.0 == 1, x.1) }

-- ---- routines

-- kind, owner, parameters, locals, and whether there is a result
abbrev pub owner_fields : Format (ℕ × (ℕ × (ℕ × (ℕ × Bool))))
owner_fields = both u8 (λ kind. both u16 (λ owner. both u16 (λ params. both u32 (λ locals. flag_field))))

-- start, run, suspension, waits and stay; or another five numbers of four bytes
abbrev pub five_fields : Format (ℕ × (ℕ × (ℕ × (ℕ × ℕ))))
five_fields = both u32 (λ first. both u32 (λ second. both u32 (λ third. both u32 (λ fourth. u32))))

abbrev pub routine_with : (ℕ × (ℕ × (ℕ × (ℕ × Bool)))) × ((ℕ × (ℕ × (ℕ × (ℕ × ℕ)))) × Segs) → Routine
routine_with x = record {
  kind = x.0.0;
  owner = x.0.1.0;
  params = x.0.1.1.0;
  locals = x.0.1.1.1.0;
  gives = x.0.1.1.1.1;
  start = x.1.0.0;
  run = x.1.0.1.0;
  susp = x.1.0.1.1.0;
  waits = x.1.0.1.1.1.0;
  stay = x.1.0.1.1.1.1;
  tree = x.1.1;
}

abbrev pub routine_fields : Format Routine
routine_fields =
    via routine_with (λ r. ((r.kind, (r.owner, (r.params, (r.locals, r.gives)))), ((r.start, (r.run, (r.susp, (r.waits, r.stay)))), r.tree)))
    (both owner_fields (λ owner. both five_fields (λ cost. tree_fields)))

-- ---- processes

-- kind, frame, deadline, first activation, event and rank
abbrev pub release_fields : Format (ℕ × (ℕ × (ℕ × (ℕ × (ℕ × ℕ)))))
release_fields = both u8 (λ kind. both u32 (λ frame. both u32 (λ deadline. both u32 (λ first. both u16 (λ event. u16)))))

-- so many numbers of two bytes
unfoldable pub numbers_read : (count : ℕ) → List ℕ → Read (List ℕ)
numbers_read zero bytes = Ok ([], bytes)
numbers_read (suc n) bytes = do
  number ← u16.read bytes
  rest ← numbers_read n number.1
  Ok (number.0 ∷ rest.0, rest.1)

-- each fits its two bytes
abbrev pub are_short : List ℕ → Bool
are_short [] = true
are_short (n ∷ ns) = u16.is n && are_short ns

abbrev pub counted_numbers : (count : ℕ) → Format (List ℕ)
counted_numbers count = record { write = flat_map written.u16; is = λ numbers. length numbers == count && are_short numbers; read = numbers_read count }

-- how many numbers a handler takes, and these numbers
abbrev pub numbers_fields : Format (List ℕ)
numbers_fields = via (λ x. x.1) (λ numbers. (length numbers, numbers)) (both u16 counted_numbers)

-- the tree of a handler, which stands only where it takes numbers
abbrev pub handler_tree_fields : (count : ℕ) → Format (Option Segs)
handler_tree_fields zero = given (λ x y. is_none y) None
handler_tree_fields (suc n) = some_format tree_fields

-- the trees of a process whose handler takes so many numbers
abbrev pub trees_fields : (count : ℕ) → Format (Segs × Option Segs)
trees_fields count = both tree_fields (λ body. handler_tree_fields count)

abbrev pub Numbered : Type 0
Numbered = List ℕ × (Segs × Option Segs)

abbrev pub process_with : (ℕ × (ℕ × (ℕ × (ℕ × (ℕ × ℕ))))) × ((ℕ × (ℕ × (ℕ × (ℕ × ℕ)))) × ((ℕ × (ℕ × (ℕ × (ℕ × ℕ)))) × Numbered)) → Process
process_with x = record {
  kind = x.0.0;
  frame = x.0.1.0;
  deadline = x.0.1.1.0;
  first = x.0.1.1.1.0;
  event = x.0.1.1.1.1.0;
  rank = x.0.1.1.1.1.1;
  run = x.1.0.0;
  susp = x.1.0.1.0;
  waits = x.1.0.1.1.0;
  block = x.1.0.1.1.1.0;
  bound = x.1.0.1.1.1.1;
  words = x.1.1.0.0;
  stack = x.1.1.0.1.0;
  locals = x.1.1.0.1.1.0;
  start = x.1.1.0.1.1.1.0;
  handler = x.1.1.0.1.1.1.1;
  numbers = x.1.1.1.0;
  body = x.1.1.1.1.0;
  handler_tree = x.1.1.1.1.1;
}

-- after the name: when it is released; run, suspension, waits, blocking and bound; data words,
-- stack, locals, start and the address of the handler; the numbers that this takes; the trees
abbrev pub process_fields : Format Process
process_fields =
    via process_with
    (λ p. (
      (p.kind, (p.frame, (p.deadline, (p.first, (p.event, p.rank))))),
      (
        (p.run, (p.susp, (p.waits, (p.block, p.bound)))),
        ((p.words, (p.stack, (p.locals, (p.start, p.handler)))), (p.numbers, (p.body, p.handler_tree))),
      ),
    ))
    (both release_fields (λ release. both five_fields (λ time. both five_fields (λ room. both numbers_fields (λ numbers. trees_fields (length numbers))))))
