-- The lines of each part pay for its bytes.
use Rattle.std.proofs.Common.{◌≡◌, ◌≤◌, ◌*◌, ◌+◌, ℕ, ℤ, zero, suc, Bool, true, false, List, [], ◌∷◌, length, Option, Some, None, codes, refl, arith}
use Rattle.std.specs.Prelude.{flat_map}
use Rattle.std.proofs.lemmas.List.{length-append}
use Rattle.machine_isa.specs.declared.instr.Instr.{Instr}
use Rattle.machine_isa.specs.declared.instr.Instr.TheVariants as i
use Rattle.machine_isa.specs.Bytes.{number, operands, word_bytes, instr_bytes}
use Rattle.machine_semantics.specs.Image.{Monitor, Routine, Process}
use Rattle.machine_semantics.specs.Trees.{Segs}
use Rattle.image.specs.declared.names.ConditionName.{ConditionName}
use Rattle.image.specs.declared.names.DeviceName.{DeviceName}
use Rattle.image_format.specs.Numbers.{u16, flag, name_bytes}
use Rattle.image.specs.Bytes.{Second, device_bytes, condition_bytes, monitor_bytes, owner_bytes, cost_bytes, routine_bytes, release_bytes, time_bytes, room_bytes, numbers_bytes, handler_bytes, process_bytes}
use Rattle.image_format.specs.TreeBytes.{tree_bytes}
use Rattle.asm_format.specs.Mnemonics.{mnemonic, named, operands_text, instr_line}
use Rattle.asm_format.specs.Text.{field, direction, device_line, event_line, monitor_line, condition_line, owner_text, place_text, cost_text, routine_lines, release_text, time_text, room_text, numbers_text, handler_text, handler_line, process_lines}
use Rattle.asm_format.specs.TreeText.{tree_line}
use Rattle.asm_law.proofs.Words.{decimal_some, long_three, long_six, long_seven, long_eight}
use Rattle.asm_law.proofs.Trees.{tree_pays}

-- ---- devices, events, monitors and conditions

direction_long : (out : Bool) → 4 ≤ length (direction out)
direction_long true = omega arith
direction_long false = omega arith

flag_long : (holds : Bool) → length (flag holds) ≡ 1
flag_long true = refl
flag_long false = refl

pub device_pays : (d : DeviceName) → length d.name ≤ 63 → 10 * length (device_bytes d) ≤ 9 * length (device_line d)
device_pays d short = simp length-append (omega (arith, short, direction_long d.out, flag_long d.out))

pub event_pays : (name : List ℕ) → length name ≤ 63 → 10 * length (name_bytes name) ≤ 9 * length (event_line name) + 10
event_pays name short = simp length-append (omega (arith, short))

pub monitor_pays : (name : List ℕ) (m : Monitor) → length name ≤ 63 → 10 * length (monitor_bytes name m) ≤ 9 * length (monitor_line name m)
monitor_pays name m short = simp length-append (omega (arith, short))

pub condition_pays : (c : ConditionName) → length c.name ≤ 63 → 10 * length (condition_bytes c) ≤ 9 * length (condition_line c)
condition_pays c short = simp length-append (omega (arith, short))

-- ---- routines

owner_long : (kind owner : ℕ) → 7 ≤ length (owner_text kind owner)
owner_long zero owner = omega arith
owner_long (suc zero) owner = simp length-append (omega arith)
owner_long (suc (suc kind)) owner = simp length-append (omega arith)

place_long : (r : Routine) → 31 ≤ length (place_text r)
place_long r = simp length-append (omega arith)

costs_long : (r : Routine) → 21 ≤ length (cost_text r)
costs_long r = simp length-append (omega arith)

owner_bytes_long : (r : Routine) → length (owner_bytes r) ≡ 10
owner_bytes_long r = simp length-append (omega (arith, flag_long r.gives))

cost_bytes_long : (r : Routine) → length (cost_bytes r) ≡ 20
cost_bytes_long r = refl

pub routine_pays : (r : Routine) → 10 * length (routine_bytes r) ≤ 9 * length (routine_lines r)
routine_pays r =
    let bytes = long_three (owner_bytes r) (cost_bytes r) (tree_bytes r.tree) in
    let text = long_six (codes "routine ") (owner_text r.kind r.owner) (place_text r) (cost_text r) (codes "\n") (tree_line r.tree) in
    omega (arith, bytes, text, owner_long r.kind r.owner, place_long r, costs_long r, owner_bytes_long r, cost_bytes_long r, tree_pays r.tree)

-- ---- processes

release_long : (p : Process) (kind : ℕ) → 24 ≤ length (release_text p kind)
release_long p zero = simp length-append (omega arith)
release_long p (suc kind) = simp length-append (omega arith)

time_long : (p : Process) → 41 ≤ length (time_text p)
time_long p = simp length-append (omega arith)

room_long : (p : Process) → 28 ≤ length (room_text p)
room_long p = simp length-append (omega arith)

words_long : (numbers : List ℕ) → length (flat_map u16 numbers) ≡ 2 * length numbers
words_long [] = refl
words_long (n ∷ ns) = let rest = words_long ns in omega (arith, rest)

numbers_long : (numbers : List ℕ) → 2 * length numbers + 1 ≤ length (numbers_text numbers)
numbers_long [] = omega arith
numbers_long (n ∷ ns) = let rest = numbers_long ns in simp length-append (omega (arith, rest, decimal_some n))

handler_long : (handler : ℕ) (numbers : List ℕ) → 2 * length numbers ≤ length (handler_text handler numbers)
handler_long handler [] = omega arith
handler_long handler (n ∷ ns) = let rest = numbers_long (n ∷ ns) in omega (arith, rest, length-append (field (codes " handler ") handler) (numbers_text (n ∷ ns)))

handler_pays : (numbers : List ℕ) (tree : Option Segs) → 10 * length (handler_bytes numbers tree) ≤ 9 * length (handler_line numbers tree)
handler_pays [] None = omega arith
handler_pays [] (Some tree) = omega arith
handler_pays (n ∷ ns) None = omega arith
handler_pays (n ∷ ns) (Some tree) = tree_pays tree

release_bytes_long : (p : Process) → length (release_bytes Second p) ≡ 17
release_bytes_long p = refl

time_bytes_long : (p : Process) → length (time_bytes p) ≡ 20
time_bytes_long p = refl

room_bytes_long : (p : Process) → length (room_bytes p) ≡ 20
room_bytes_long p = refl

numbers_bytes_long : (numbers : List ℕ) → length (numbers_bytes numbers) ≡ 2 + 2 * length numbers
numbers_bytes_long numbers = let words = words_long numbers in omega (arith, words)

pub process_pays : (name : List ℕ) (p : Process) → length name ≤ 63 → length p.numbers ≤ 999 → 10 * length (process_bytes Second name p) ≤ 9 * length (process_lines name p) + 2000
process_pays name p short few =
    let bytes = long_seven (name_bytes name) (release_bytes Second p) (time_bytes p) (room_bytes p) (numbers_bytes p.numbers) (tree_bytes p.body) (handler_bytes p.numbers p.handler_tree) in
    let text = long_eight (codes "process ") name (release_text p p.kind) (time_text p) (room_text p) (handler_text p.handler p.numbers) (tree_line p.body) (handler_line p.numbers p.handler_tree) in
    omega (arith, bytes, text, short, few, release_long p p.kind, time_long p, room_long p, handler_long p.handler p.numbers, release_bytes_long p, time_bytes_long p, room_bytes_long p, numbers_bytes_long p.numbers, tree_pays p.body, handler_pays p.numbers p.handler_tree)

-- ---- code

three_operands : (instr : Instr) → length (operands instr) ≡ 3
three_operands (i.Push value) = refl
three_operands instr = refl

operands_long : (zs : List ℤ) → length (flat_map word_bytes zs) ≡ 4 * length zs
operands_long [] = refl
operands_long (z ∷ zs) = let rest = operands_long zs in omega (arith, rest)

operands_some : (zs : List ℤ) → 1 ≤ length (operands_text zs)
operands_some [] = omega arith
operands_some (z ∷ zs) = omega arith

pub instr_pays : (instr : Instr) → 10 * length (instr_bytes instr) ≤ 9 * length (instr_line instr) + 121
instr_pays instr =
    let text : length (instr_line instr) ≡ length (mnemonic (number instr)) + length (operands_text (named instr)) = length-append (mnemonic (number instr)) (operands_text (named instr)) in
    omega (arith, text, operands_some (named instr), operands_long (operands instr), three_operands instr)
