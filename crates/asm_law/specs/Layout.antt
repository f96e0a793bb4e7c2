-- The layout of the text of an image: which words, names and numbers stand in a line, and which
-- line behind which.
use Rattle.std.specs.Prelude.{◌++◌, ◌==◌, ◌&&◌, ℕ, zero, suc, Bool, true, false, List, [], ◌∷◌, length, map, Option, Some, None, codes, nat_le, nat_lt, flat_map, if◌then◌else◌}
use Rattle.machine_isa.specs.Bytes.{arity}
use Rattle.image.specs.declared.names.ConditionName.{ConditionName}
use Rattle.image_reader.specs.File.{all_used}
use Rattle.asm_lines.specs.Instrs.{number_of}
use Rattle.asm_law.specs.Notes.{Note, ranged, operand, one_of, event, fresh, own_name, handled, too_many, lacks_process}

pub data Layout : Type 0 where
  -- the text ends here
  finish : Layout
  -- nothing is asked of what follows
  done : Layout
  -- no bytes have this form
  none : Layout
  -- these bytes, and then the next
  word : List ℕ → Layout → Layout
  -- bytes that begin with these have the one form, and others the other
  choice : List ℕ → Layout → Layout → Layout
  -- digits, the first of more no 0; none is a number of 2 ^ 32 or more
  numeral : (Option ℕ → Layout) → Layout
  -- a word of at least one byte, up to the next space or the end of the line
  name : (List ℕ → Layout) → Layout
  -- something is asked of what stood before; the form is the next
  note : Note → Layout → Layout
  -- the words of the line, between its spaces, are those of a tree, and they have the next form
  tree : Layout → Layout
  -- so many bytes are left
  left : (ℕ → Layout) → Layout
  -- a tree that nests too deep, of which no more is read
  too_deep : Layout
  -- the line ends, and the next line comes
  ends : Layout → Layout

-- ---- numbers and names

-- what goes on as the number: 0 where it is out of range
abbrev pub kept : (low high : ℕ) → Option ℕ → ℕ
kept low high None = 0
kept low high (Some n) = if nat_le low n && nat_le n high then n else 0

-- a number behind these bytes
unfoldable pub field : List ℕ → (low high : ℕ) → (ℕ → Layout) → Layout
field label low high next = word label (numeral (λ n. note (ranged low high n) (next (kept low high n))))

abbrev pub fresh_name : (taken : List (List ℕ)) → (List ℕ → Layout) → Layout
fresh_name taken next = name (λ x. note (fresh taken x) (next x))

-- ---- the head, devices, events, monitors and conditions

abbrev pub head : (List ℕ → Layout) → Layout
head next = word (codes "image ") (fresh_name [] (λ program. field (codes " overhead ") 0 1000 (λ over. ends (next program))))

abbrev pub device : (taken : List (List ℕ)) → (List ℕ → Layout) → Layout
device taken next = word (codes "device ") (fresh_name taken (λ x. choice (codes " out") (word (codes " out") (ends (next x))) (word (codes " in") (ends (next x)))))

abbrev pub an_event : (taken : List (List ℕ)) → (List ℕ → Layout) → Layout
an_event taken next = word (codes "event ") (fresh_name taken (λ x. ends (next x)))

-- a ceiling is a number below 65535; greater numbers are no form of one
abbrev pub below_none : Option ℕ → Layout → Layout
below_none None next = none
below_none (Some n) next = if nat_lt n 65535 then next else none

abbrev pub ceiling : Layout → Layout
ceiling next = choice (codes " ceiling none") (word (codes " ceiling none") next) (word (codes " ceiling ") (numeral (λ n. below_none n next)))

abbrev pub monitor : (taken : List (List ℕ)) → (List ℕ → Layout) → Layout
monitor taken next =
    word (codes "monitor ") (fresh_name taken (λ x. field (codes " base ") 0 4294967295 (λ base. field (codes " words ") 0 4294967295 (λ words. ceiling (ends (next x))))))

abbrev pub condition : (taken : List (List ℕ)) → (monitors : ℕ) → (earlier : List ConditionName) → (ConditionName → Layout) → Layout
condition taken monitors earlier next =
    word (codes "condition ") (fresh_name taken (λ x. field (codes " ") 0 65535 (λ m. note (one_of monitors m) (note (own_name earlier (record { name = x; mon = m })) (ends (next (record { name = x; mon = m })))))))

-- ---- trees

abbrev pub arm : (sub : Layout → Layout) → Layout → Layout
arm sub next = word (codes " (") (sub (word (codes " )") next))

-- a segment by its name
abbrev pub segment : (monitors : ℕ) → (sub : Layout → Layout) → Layout → Layout
segment monitors sub next =
    choice (codes " line ") (field (codes " line ") 1 65535 (λ n. next))
    (choice (codes " fork") (word (codes " fork") (arm sub (arm sub next)))
    (choice (codes " rep ") (field (codes " rep ") 1 1000000 (λ turns. arm sub next))
    (choice (codes " call ") (field (codes " call ") 0 65535 (λ routine. next))
    (choice (codes " stay ") (field (codes " stay ") 0 65535 (λ m. note (one_of monitors m) (arm sub next)))
    (choice (codes " wait") (word (codes " wait") next) (word (codes " exit") next))))))

-- segments up to the end of the line or a closing parenthesis, at most so many
abbrev pub segments : (one : Layout → Layout) → (most : ℕ) → Layout → Layout
segments one zero next = none
segments one (suc n) next = choice (codes "\n") next (choice (codes " )") next (one (segments one n next)))

-- a tree that nests at most so deep; one has no more segments than its text has bytes
unfoldable pub nested : (monitors depth : ℕ) → Layout → Layout
nested monitors zero next = too_deep
nested monitors (suc depth) next = left (λ n. segments (segment monitors (nested monitors depth)) n next)

abbrev pub tree_line : (monitors : ℕ) → Layout → Layout
tree_line monitors next = tree (word (codes "tree") (nested monitors 130 (ends next)))

-- ---- routines

abbrev pub owner : (label : List ℕ) → (count : ℕ) → Layout → Layout
owner label count next = field label 0 65535 (λ n. note (one_of count n) next)

-- next is told the kind: 0 of the program, 1 of a process, 2 of a monitor
abbrev pub owned : (processes monitors : ℕ) → (ℕ → Layout) → Layout
owned processes monitors next =
    choice (codes "routine process ") (owner (codes "routine process ") processes (next 1))
    (choice (codes "routine monitor ") (owner (codes "routine monitor ") monitors (next 2)) (word (codes "routine program") (next 0)))

abbrev pub cost : List ℕ → Layout → Layout
cost label next = field label 0 1000000001 (λ n. next)

-- that of a monitor's routine
abbrev pub stay : (kind : ℕ) → Layout → Layout
stay k next = if k == 2 then cost (codes " stay ") next else next

abbrev pub routine_line : (processes monitors : ℕ) → Layout → Layout
routine_line processes monitors next =
    owned processes monitors (λ k. field (codes " params ") 0 65535 (λ params. field (codes " locals ") 0 4096 (λ locals. field (codes " result ") 0 1 (λ gives.
    field (codes " start ") 0 4294967295 (λ start. cost (codes " run ") (cost (codes " suspend ") (cost (codes " waits ") (stay k (ends next)))))))))

abbrev pub routine : (processes monitors : ℕ) → Layout → Layout
routine processes monitors next = routine_line processes monitors (tree_line monitors next)

-- ---- processes

-- next is told the event that the process has, where it is not periodic
abbrev pub release : (events : ℕ) → (used : List ℕ) → (List ℕ → Layout) → Layout
release events used next =
    choice (codes " event ")
    (field (codes " event ") 0 65535 (λ e. note (event events used e) (field (codes " frame ") 10 1000000000 (λ frame. field (codes " deadline ") 10 frame (λ deadline. next (e ∷ []))))))
    (field (codes " periodic frame ") 10 1000000000 (λ frame. field (codes " deadline ") 10 frame (λ deadline. field (codes " first ") 0 1000000000 (λ first. next []))))

abbrev pub time : Layout → Layout
time next =
    field (codes " rank ") 0 65535 (λ rank. cost (codes " run ") (cost (codes " suspend ") (cost (codes " waits ") (cost (codes " block ") (field (codes " bound ") 1 1000000000 (λ bound. next))))))

abbrev pub room : Layout → Layout
room next =
    field (codes " data ") 0 4294967295 (λ words. field (codes " stack ") 0 4096 (λ stack. field (codes " locals ") 0 4096 (λ locals. field (codes " start ") 0 4294967295 (λ start. next))))

-- numbers that a handler takes, up to the end of the line
abbrev pub more : (most last : ℕ) → (List ℕ → Layout) → Layout
more zero last next = none
more (suc n) last next = choice (codes "\n") (next []) (field (codes " ") 0 65535 (λ x. note (handled last x) (more n x (λ xs. next (x ∷ xs)))))

-- one or more; a line has no more of them than bytes
abbrev pub numbers : (List ℕ → Layout) → Layout
numbers next = choice (codes "\n") none (left (λ n. more n 0 next))

-- the address of the handler and the numbers that it takes, where there is one
abbrev pub handler : (List ℕ → Layout) → Layout
handler next = choice (codes "\n") (next []) (field (codes " handler ") 0 4294967295 (λ address. numbers next))

abbrev pub process_line : (events : ℕ) → (taken : List (List ℕ)) → (used : List ℕ) → (List ℕ × (List ℕ × List ℕ) → Layout) → Layout
process_line events taken used next =
    word (codes "process ") (fresh_name taken (λ x. release events used (λ e. time (room (handler (λ ns. ends (next (x, (e, ns)))))))))

-- the line of the handler's tree, where there are numbers
abbrev pub handler_tree : (monitors : ℕ) → (numbers : List ℕ) → Layout → Layout
handler_tree monitors [] next = next
handler_tree monitors (n ∷ ns) next = tree_line monitors next

-- next is told its name and the event that it has
abbrev pub process : (monitors events : ℕ) → (taken : List (List ℕ)) → (used : List ℕ) → (List ℕ × List ℕ → Layout) → Layout
process monitors events taken used next =
    process_line events taken used (λ x. tree_line monitors (handler_tree monitors x.1.1 (next (x.0, x.1.0))))

-- ---- instructions

-- a number of 32 bits with its sign; 0 has none
abbrev pub negative : Option ℕ → Layout → Layout
negative None next = note (operand None) next
negative (Some zero) next = none
negative (Some (suc n)) next = note (operand (Some n)) next

abbrev pub signed : Layout → Layout
signed next = choice (codes "-") (word (codes "-") (numeral (λ n. negative n next))) (numeral (λ n. note (operand n) next))

abbrev pub operand_named : (is_named : Bool) → Layout → Layout
operand_named true next = word (codes " ") (signed next)
operand_named false next = next

-- the operands that the instruction of the number names
abbrev pub operands : Option ℕ → Layout → Layout
operands None next = none
operands (Some n) next = operand_named (nat_le 1 (arity n)) (operand_named (nat_le 2 (arity n)) (operand_named (nat_le 3 (arity n)) (ends next)))

abbrev pub instruction : Layout → Layout
instruction next = name (λ x. operands (number_of x) next)

-- ---- lines of a kind, one after the other

-- as long as a line of the kind is next, at most so many; one more has its form and is wrong
unfoldable pub rows : {B : Type 0} → (start : List ℕ) → (one : List B → (B → Layout) → Layout) → (line : List B → Layout) → (earlier : List B) → (most : ℕ) → (List B → Layout) → Layout
rows start one line earlier zero next = choice start (note too_many (line earlier)) (next earlier)
rows start one line earlier (suc n) next = choice start (one earlier (λ x. rows start one line (earlier ++ x ∷ []) n next)) (next earlier)

-- instructions up to the last line
unfoldable pub instructions : (most : ℕ) → Layout → Layout
instructions zero next = choice (codes "end\n") next (note too_many (instruction done))
instructions (suc n) next = choice (codes "end\n") next (instruction (instructions n next))

-- the line behind the processes is wrong where they lack one
abbrev pub code : (is_complete : Bool) → Layout → Layout
code true next = instructions 65535 next
code false next = choice (codes "end\n") (note lacks_process done) (note lacks_process (instruction done))

-- ---- all

-- there is a process, and each event is of one
abbrev pub is_complete : (events : ℕ) → List (List ℕ × List ℕ) → Bool
is_complete events processes = nat_lt 0 (length processes) && all_used (flat_map (λ p. p.1) processes) 0 events

-- the processes, of which each is told as its name and the event that it has
abbrev pub processes : (monitors events : ℕ) → (taken : List (List ℕ)) → (List (List ℕ × List ℕ) → Layout) → Layout
processes monitors events taken next =
    rows (codes "process ") (λ earlier k. process monitors events (taken ++ map (λ p. p.0) earlier) (flat_map (λ p. p.1) earlier) k)
    (λ earlier. process_line events (taken ++ map (λ p. p.0) earlier) (flat_map (λ p. p.1) earlier) (λ x. done)) [] 64 next

abbrev pub routines : (owners monitors : ℕ) → Layout → Layout
routines owners monitors next =
    rows {B = ℕ} (codes "routine ") (λ earlier k. routine owners monitors (k 0)) (λ earlier. routine_line owners monitors done) [] 512 (λ all. next)

abbrev pub work : (owners monitors events : ℕ) → (taken : List (List ℕ)) → Layout → Layout
work owners monitors events taken next = routines owners monitors (processes monitors events taken (λ all. code (is_complete events all) next))

abbrev pub conditions : (taken : List (List ℕ)) → (monitors : ℕ) → (List ConditionName → Layout) → Layout
conditions taken monitors next = rows (codes "condition ") (condition taken monitors) (λ earlier. condition taken monitors earlier (λ x. done)) [] 256 next

abbrev pub monitors : (taken : List (List ℕ)) → (List (List ℕ) → Layout) → Layout
monitors taken next = rows (codes "monitor ") (λ earlier. monitor (taken ++ earlier)) (λ earlier. monitor (taken ++ earlier) (λ x. done)) [] 64 next

abbrev pub events : (taken : List (List ℕ)) → (List (List ℕ) → Layout) → Layout
events taken next = rows (codes "event ") (λ earlier. an_event (taken ++ earlier)) (λ earlier. an_event (taken ++ earlier) (λ x. done)) [] 64 next

abbrev pub devices : (taken : List (List ℕ)) → (List (List ℕ) → Layout) → Layout
devices taken next = rows (codes "device ") (λ earlier. device (taken ++ earlier)) (λ earlier. device (taken ++ earlier) (λ x. done)) [] 64 next

-- the monitors, and all that follows
abbrev pub guarded : (owners events : ℕ) → (taken : List (List ℕ)) → Layout → Layout
guarded owners events taken next =
    monitors taken (λ ms. conditions (taken ++ ms) (length ms) (λ all. work owners (length ms) events (taken ++ ms) next))

-- the devices, the events, and all that follows
abbrev pub named : (owners : ℕ) → (program : List ℕ) → Layout → Layout
named owners program next =
    devices (program ∷ []) (λ ds. events ((program ∷ []) ++ ds) (λ es. guarded owners (length es) (((program ∷ []) ++ ds) ++ es) next))

abbrev pub last : Layout
last = word (codes "end") (ends finish)

-- the text of an image, of which routines may name so many processes as owners
abbrev pub text : (owners : ℕ) → Layout
text owners = head (λ program. named owners program last)
