-- How many bytes the parts of an image have at most.
use Rattle.std.proofs.Common.{◌≡◌, ◌≤◌, ◌+◌, ◌*◌, ◌&&◌, ◌++◌, ℕ, ℤ, zero, suc, Bool, true, false, List, [], ◌∷◌, length, Option, Some, None, refl, arith}
use Rattle.std.specs.Prelude.{flat_map}
use Rattle.std.proofs.lemmas.Bool.{and_parts}
use Rattle.std.proofs.lemmas.List.{length-append}
use Rattle.machine_isa.specs.declared.instr.Instr.{Instr}
use Rattle.machine_isa.specs.declared.instr.Instr.TheVariants as i
use Rattle.machine_isa.specs.Bytes.{operands, word_bytes, instr_bytes}
use Rattle.machine_semantics.specs.Image.{Monitor, Process, Routine}
use Rattle.machine_semantics.specs.Trees.{Segs}
use Rattle.image.specs.declared.names.ConditionName.{ConditionName}
use Rattle.image.specs.declared.names.DeviceName.{DeviceName}
use Rattle.image.specs.Bytes.{Second, condition_bytes, cost_bytes, device_bytes, handler_bytes, monitor_bytes, numbers_bytes, owner_bytes, process_bytes, release_bytes, room_bytes, routine_bytes, time_bytes}
use Rattle.image_format.specs.Format.{Format, each_is}
use Rattle.image_format.specs.Numbers.{flag, name_bytes, u16}
use Rattle.image_format.specs.TreeBytes.{tree_bytes}
use Rattle.image_format.specs.TreeFormat.{in_image, tree_format}
use Rattle.image_reader.specs.declared.counts.Counts.{Counts}
use Rattle.image_reader.specs.Grammar as g
use Rattle.valid_image.specs.Pieces.{handler_length}
use Rattle.image_reader_law.proofs.Ranged.{condition_short, device_short, monitor_short, name_short, numbers_few}
use Rattle.image_reader_law.proofs.Spans.{span_of_process, span_of_routine, weights}
use Rattle.image_reader_law.proofs.Trees.{tree_short}

-- ---- things in their ranges, one after the other

pub each_short : {X : Type 0} (one : List X → Format X) (bytes : X → List ℕ) (most : ℕ) (weigh : X → ℕ)
    → ((earlier : List X) (x : X) → (one earlier).is x ≡ true → length (bytes x) ≤ most + 9 * weigh x)
    → (earlier : List X) (count : ℕ) (xs : List X) → each_is one earlier count xs ≡ true
    → length (flat_map bytes xs) ≤ most * length xs + 9 * weights weigh xs
each_short one bytes most weigh low earlier count [] h = omega arith
each_short one bytes most weigh low earlier zero (x ∷ xs) h = absurd cc
each_short one bytes most weigh low earlier (suc count) (x ∷ xs) h =
    let tests = and_parts ((one earlier).is x) (each_is one (earlier ++ x ∷ []) count xs) h in
    let first = low earlier x tests.0 in
    let rest = each_short one bytes most weigh low (earlier ++ x ∷ []) count xs tests.1 in
    let more : most * suc (length xs) ≡ most * length xs + most = grind arith in
    omega (arith, first, rest, more, length-append (bytes x) (flat_map bytes xs))

-- ---- names and what stands beside them

flag_long : (holds : Bool) → length (flag holds) ≡ 1
flag_long true = refl
flag_long false = refl

pub device_low : (taken : List (List ℕ)) (d : DeviceName) → (g.device_format taken).is d ≡ true → length (device_bytes d) ≤ 65 + 9 * 0
device_low taken d h = omega (arith, device_short taken d h, length-append (name_bytes d.name) (flag d.out), flag_long d.out)

pub event_low : (taken : List (List ℕ)) (name : List ℕ) → (g.name_format taken).is name ≡ true → length (name_bytes name) ≤ 64 + 9 * 0
event_low taken name h = omega (arith, name_short taken name h)

pub monitor_low : (taken : List (List ℕ)) (m : List ℕ × Monitor) → (g.named_monitor_format taken).is m ≡ true → length (monitor_bytes m.0 m.1) ≤ 74 + 9 * 0
monitor_low taken m h = simp length-append (omega (arith, monitor_short taken m h))

pub condition_low : (taken : List (List ℕ)) (monitors : ℕ) (earlier : List ConditionName) (c : ConditionName) → (g.condition_format taken monitors earlier).is c ≡ true
    → length (condition_bytes c) ≤ 66 + 9 * 0
condition_low taken monitors earlier c h = simp length-append (omega (arith, condition_short taken monitors earlier c h))

-- ---- routines

owner_long : (r : Routine) → length (owner_bytes r) ≡ 10
owner_long r = simp length-append (omega (arith, flag_long r.gives))

cost_long : (r : Routine) → length (cost_bytes r) ≡ 20
cost_long r = refl

pub routine_low : (counts : Counts) (r : Routine) → (g.routine_format counts).is r ≡ true → length (routine_bytes r) ≤ 34 + 9 * span_of_routine r
routine_low counts r h =
    let owner_is = (g.owner_format counts).is (r.kind, (r.owner, (r.params, (r.locals, r.gives)))) in
    let costs_are = (g.cost_format r.kind).is (r.start, (r.run, (r.susp, (r.waits, r.stay)))) in
    let tree_is = (tree_format (in_image counts.monitors) g.deepest).is r.tree in
    let tree = (and_parts costs_are tree_is (and_parts owner_is (costs_are && tree_is) h).1).1 in
    omega (
      arith,
      owner_long r,
      cost_long r,
      tree_short counts.monitors g.deepest r.tree tree,
      length-append (owner_bytes r) (cost_bytes r ++ tree_bytes r.tree),
      length-append (cost_bytes r) (tree_bytes r.tree),
    )

-- ---- processes

words_long : (numbers : List ℕ) → length (flat_map u16 numbers) ≡ 2 * length numbers
words_long [] = refl
words_long (n ∷ ns) = let rest = words_long ns in omega (arith, rest)

handler_short : (monitors : ℕ) (numbers : List ℕ) (tree : Option Segs) → (g.handler_tree_format monitors (length numbers)).is tree ≡ true
    → length (handler_bytes numbers tree) ≤ 4 + 9 * handler_length tree
handler_short monitors [] None h = omega arith
handler_short monitors [] (Some tree) h = omega arith
handler_short monitors (n ∷ ns) None h = omega arith
handler_short monitors (n ∷ ns) (Some tree) h = let low = tree_short monitors g.deepest tree h in omega (arith, low)

release_long : (p : Process) → length (release_bytes Second p) ≡ 17
release_long p = refl

time_long : (p : Process) → length (time_bytes p) ≡ 20
time_long p = refl

room_long : (p : Process) → length (room_bytes p) ≡ 20
room_long p = refl

long_seven : (a b c d e f k : List ℕ) → length (a ++ (b ++ (c ++ (d ++ (e ++ (f ++ k)))))) ≡ length a + (length b + (length c + (length d + (length e + (length f + length k)))))
long_seven a b c d e f k = simp length-append

pub process_low : (counts : Counts) (taken : List (List ℕ)) (used : List ℕ) (x : List ℕ × Process) → (g.named_process_format Second counts taken used).is x ≡ true
    → length (process_bytes Second x.0 x.1) ≤ 2131 + 9 * span_of_process x.1
process_low counts taken used x h =
    let p = x.1 in
    let named = and_parts ((g.name_format taken).is x.0) ((g.process_format Second counts used).is p) h in
    let release_is = (g.release_format Second counts.events used).is (p.kind, (p.frame, (p.deadline, (p.first, (p.event, p.rank))))) in
    let time_is = g.time_format.is (p.run, (p.susp, (p.waits, (p.block, p.bound)))) in
    let room_is = g.room_format.is (p.words, (p.stack, (p.locals, p.start))) in
    let handler_is = g.handler_format.is (p.handler, length p.numbers) in
    let numbers_are = (g.numbers_format (length p.numbers)).is p.numbers in
    let body_is = (tree_format (in_image counts.monitors) g.deepest).is p.body in
    let tree_is = (g.handler_tree_format counts.monitors (length p.numbers)).is p.handler_tree in
    let a = and_parts release_is (time_is && (room_is && (handler_is && (numbers_are && (body_is && tree_is))))) named.1 in
    let b = and_parts time_is (room_is && (handler_is && (numbers_are && (body_is && tree_is)))) a.1 in
    let c = and_parts room_is (handler_is && (numbers_are && (body_is && tree_is))) b.1 in
    let d = and_parts handler_is (numbers_are && (body_is && tree_is)) c.1 in
    let e = and_parts numbers_are (body_is && tree_is) d.1 in
    let t = and_parts body_is tree_is e.1 in
    omega (
      arith,
      name_short taken x.0 named.0,
      release_long p,
      time_long p,
      room_long p,
      numbers_few (length p.numbers) p.numbers e.0,
      words_long p.numbers,
      tree_short counts.monitors g.deepest p.body t.0,
      handler_short counts.monitors p.numbers p.handler_tree t.1,
      long_seven (name_bytes x.0) (release_bytes Second p) (time_bytes p) (room_bytes p) (numbers_bytes p.numbers) (tree_bytes p.body) (handler_bytes p.numbers p.handler_tree),
    )

-- ---- code

three_operands : (instr : Instr) → length (operands instr) ≡ 3
three_operands (i.Push value) = refl
three_operands instr = refl

operands_long : (zs : List ℤ) → length (flat_map word_bytes zs) ≡ 4 * length zs
operands_long [] = refl
operands_long (z ∷ zs) = let rest = operands_long zs in omega (arith, rest)

pub code_long : (code : List Instr) → length (flat_map instr_bytes code) ≡ 13 * length code
code_long [] = refl
code_long (x ∷ xs) =
    let rest = code_long xs in
    omega (arith, rest, operands_long (operands x), three_operands x, length-append (instr_bytes x) (flat_map instr_bytes xs))
