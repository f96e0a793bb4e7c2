-- The layout of an image: which field stands behind which.
use Rattle.std.specs.Prelude.{◌++◌, ◌+◌, ◌==◌, ℕ, zero, suc, Bool, true, false, List, [], ◌∷◌, length, map, nat_le, if◌then◌else◌}
use Rattle.std.specs.Prelude.{flat_map}
use Rattle.machine_isa.specs.Bytes.{arity}
use Rattle.image.specs.declared.names.ConditionName.{ConditionName}
use Rattle.image.specs.Bytes.{Version, First, Second}
use Rattle.image_reader.specs.declared.counts.Counts.{Counts}
use Rattle.image_reader.specs.Grammar.{deepest}
use Rattle.image_reader.specs.File.{all_used, version_of}
use Rattle.image_reader_law.specs.Fields.{Field, letters, version, any, ranged, kind, tag, one_of, none, none_up_to, event, too_deep, handled, no_operand, number, Rule, fresh, own_name, handler}

pub data Layout : Type 0 where
  -- nothing more
  done : Layout
  -- a field, and what stands behind it, which may depend on its bytes
  field : Field → (List ℕ → Layout) → Layout
  -- a rule, whose fault stands so many bytes back
  rule : Rule → (back : ℕ) → Layout → Layout
  -- an event is of no process; so many instructions would come
  lacks_process : (code : ℕ) → Layout

-- so many alike, one after the other
abbrev pub repeated : (Layout → Layout) → (count : ℕ) → Layout → Layout
repeated one zero next = next
repeated one (suc n) next = one (repeated one n next)

-- the same where what is right in one depends on those before it
abbrev pub many : {A : Type 0} → (one : List A → (A → Layout) → Layout) → (earlier : List A) → (count : ℕ) → (List A → Layout) → Layout
many one earlier zero next = next earlier
many one earlier (suc n) next = one earlier (λ x. many one (earlier ++ x ∷ []) n next)

-- ---- names, and what has no more than names and numbers

abbrev pub name : (taken : List (List ℕ)) → (List ℕ → Layout) → Layout
name taken next = field (ranged 1 0 63) (λ size. field (any (number 1 size)) (λ x. rule (fresh taken x) (1 + length x) (next x)))

-- 0 for input, 1 for output
abbrev pub device : (taken : List (List ℕ)) → (List ℕ → Layout) → Layout
device taken next = name taken (λ x. field (kind 1) (λ direction. next x))

-- base, words and ceiling
abbrev pub monitor : (taken : List (List ℕ)) → (List ℕ → Layout) → Layout
monitor taken next = name taken (λ x. field (any 4) (λ base. field (any 4) (λ words. field (any 2) (λ ceiling. next x))))

abbrev pub condition : (taken : List (List ℕ)) → (monitors : ℕ) → (earlier : List ConditionName) → (ConditionName → Layout) → Layout
condition taken monitors earlier next =
    name taken (λ x. field (one_of monitors) (λ m. rule (own_name earlier (record { name = x; mon = number 2 m })) (1 + length x + 2) (next (record { name = x; mon = number 2 m }))))

-- ---- trees: a count, and so many segments

-- what stands behind a tag; sub is a tree
abbrev pub segment_behind : (monitors : ℕ) → (sub : Layout → Layout) → (tag : ℕ) → Layout → Layout
segment_behind monitors sub t next =
    if t == 1 then field (ranged 4 1 65535) (λ instructions. next)
    else (if t == 2 then sub (sub next)
    else (if t == 3 then field (ranged 4 1 1000000) (λ turns. sub next)
    else (if t == 4 then field (any 2) (λ routine. next)
    else (if t == 5 then field (one_of monitors) (λ monitor. sub next)
    else next))))

abbrev pub segment : (monitors : ℕ) → (sub : Layout → Layout) → Layout → Layout
segment monitors sub next = field (tag 7) (λ t. segment_behind monitors sub (number 1 t) next)

-- a tree that nests at most so deep
unfoldable pub tree : (monitors depth : ℕ) → Layout → Layout
tree monitors zero next = field too_deep (λ count. next)
tree monitors (suc depth) next = field (any 4) (λ count. repeated (segment monitors (tree monitors depth)) (number 4 count) next)

-- ---- routines

-- none of a program's; a process or a monitor that there is
abbrev pub owner : Counts → (kind : ℕ) → Field
owner counts zero = none
owner counts (suc zero) = one_of counts.processes
owner counts (suc (suc k)) = one_of counts.monitors

-- a cost, a blocking or a stay
abbrev pub cost : Field
cost = ranged 4 0 1000000001

-- that of an entry
abbrev pub stay : (is_entry : Bool) → Field
stay true = cost
stay false = none_up_to 1000000001

abbrev pub routine : Counts → Layout → Layout
routine counts next =
    field (kind 2) (λ k. field (owner counts (number 1 k)) (λ owned. field (any 2) (λ params. field (ranged 4 0 4096) (λ locals. field (ranged 1 0 1) (λ gives.
    field (any 4) (λ start. field cost (λ run. field cost (λ susp. field cost (λ waits. field (stay (number 1 k == 2)) (λ stays.
    tree counts.monitors deepest next))))))))))

-- ---- processes

-- where it stands: in version 2
abbrev pub deadline : Version → (frame : ℕ) → Layout → Layout
deadline First frame next = next
deadline Second frame next = field (ranged 4 10 frame) (λ d. next)

-- of a periodic process
abbrev pub first : (is_periodic : Bool) → Field
first true = ranged 4 0 1000000000
first false = none_up_to 1000000000

abbrev pub release_event : (events : ℕ) → (used : List ℕ) → (kind : ℕ) → Field
release_event events used zero = none
release_event events used (suc k) = event events used

-- the event that it has, where it is not periodic
abbrev pub has_event : (kind event : ℕ) → List ℕ
has_event k e = if k == 0 then [] else e ∷ []

-- next is told what it has
abbrev pub release : Version → (events : ℕ) → (used : List ℕ) → (List ℕ → Layout) → Layout
release v events used next =
    field (kind 1) (λ k. field (ranged 4 10 1000000000) (λ frame. deadline v (number 4 frame)
    (field (first (number 1 k == 0)) (λ f. field (release_event events used (number 1 k)) (λ e. field (any 2) (λ rank. next (has_event (number 1 k) (number 2 e))))))))

-- the tree of a handler that takes so many numbers
abbrev pub handler_tree : (monitors numbers : ℕ) → Layout → Layout
handler_tree monitors zero next = next
handler_tree monitors (suc n) next = tree monitors deepest next

-- run, suspension, waits, blocking and bound; words, stack, locals and start; the handler; the body
-- and the handler's tree
abbrev pub room : Counts → Layout → Layout
room counts next =
    field cost (λ run. field cost (λ susp. field cost (λ waits. field cost (λ block. field (ranged 4 1 1000000000) (λ bound.
    field (any 4) (λ words. field (ranged 4 0 4096) (λ stack. field (ranged 4 0 4096) (λ locals. field (any 4) (λ start.
    field (any 4) (λ address. field (any 2) (λ numbers. rule (handler (number 4 address) (number 2 numbers)) 6
    (many (λ earlier then_next. field (handled earlier) (λ x. then_next (number 2 x))) [] (number 2 numbers) (λ all.
    tree counts.monitors deepest (handler_tree counts.monitors (number 2 numbers) next))))))))))))))

-- next is told its name and the event that it has
abbrev pub process : Version → Counts → (earlier : List (List ℕ × List ℕ)) → (taken : List (List ℕ)) → (List ℕ × List ℕ → Layout) → Layout
process v counts earlier taken next = name (taken ++ map (λ p. p.0) earlier) (λ x. release v counts.events (flat_map (λ p. p.1) earlier) (λ e. room counts (next (x, e))))

-- ---- code

abbrev pub operand : (is_named : Bool) → Field
operand true = any 4
operand false = no_operand

abbrev pub instruction : Layout → Layout
instruction next =
    field (tag 48) (λ n. field (operand (nat_le 1 (arity (number 1 n)))) (λ a. field (operand (nat_le 2 (arity (number 1 n)))) (λ b. field (operand (nat_le 3 (arity (number 1 n)))) (λ c. next))))

abbrev pub code : (each_event_has_process : Bool) → (count : ℕ) → Layout
code true count = repeated instruction count done
code false count = lacks_process count

-- ---- all

abbrev pub overhead : Version → Layout → Layout
overhead First next = next
overhead Second next = field (ranged 2 0 1000) (λ over. next)

abbrev pub counts_then : (Counts → Layout) → Layout
counts_then next =
    field (ranged 2 1 64) (λ p. field (ranged 2 0 64) (λ m. field (ranged 2 0 256) (λ c. field (ranged 2 0 64) (λ d. field (ranged 2 0 64) (λ e. field (ranged 2 0 512) (λ r. field (ranged 4 0 65535) (λ i.
    next (record { processes = number 2 p; monitors = number 2 m; conditions = number 2 c; devices = number 2 d; events = number 2 e; routines = number 2 r; code = number 4 i })
    )))))))

-- the routines, the processes and the code, behind these names
abbrev pub work : Version → Counts → (taken : List (List ℕ)) → Layout
work v counts taken =
    repeated (routine counts) counts.routines
    (many (λ earlier next. process v counts earlier taken next) [] counts.processes (λ all. code (all_used (flat_map (λ p. p.1) all) 0 counts.events) counts.code))

-- the monitors and conditions, and all that follows
abbrev pub guarded : Version → Counts → (taken : List (List ℕ)) → Layout
guarded v counts taken =
    many (λ earlier next. monitor (taken ++ earlier) next) [] counts.monitors (λ monitors.
    many (λ earlier next. condition (taken ++ monitors) counts.monitors earlier next) [] counts.conditions (λ conditions. work v counts (taken ++ monitors)))

abbrev pub parts : Version → Layout
parts v =
    overhead v (counts_then (λ counts. name [] (λ program.
    many (λ earlier next. device ((program ∷ []) ++ earlier) next) [] counts.devices (λ devices.
    many (λ earlier next. name (((program ∷ []) ++ devices) ++ earlier) next) [] counts.events (λ events. guarded v counts (((program ∷ []) ++ devices) ++ events))))))

abbrev pub image : Layout
image = field letters (λ x. field version (λ v. parts (version_of (number 2 v))))
