-- The fields of an image, in the order of its bytes: each with its range, and the number of the
-- fault where it is outside.
use Rattle.std.specs.Prelude.{◌&&◌, ◌||◌, ◌==◌, not, ℕ, ℤ, pos, zero, suc, Bool, true, false, List, [], ◌∷◌, length, Ok, Option, Some, None, nat_lt, nat_le, nat_eq, if◌then◌else◌}
use Rattle.std.specs.List.{list_any}
use Rattle.std.specs.Int.{w32, cast_signed, cast_unsigned, from_be_bytes}
use Rattle.std.specs.Ordering.{int_eq}
use Rattle.std.specs.Cmp.Lexicographic.{pointwise}
use Rattle.syntax.specs.Spellings.{is_identifier, keywords}
use Rattle.machine_isa.specs.declared.instr.Instr.{Instr}
use Rattle.machine_isa.specs.declared.instr.Instr.TheVariants as i
use Rattle.machine_isa.specs.Bytes.{arity, number, operands, word_bytes}
use Rattle.machine_isa.specs.Numbered.{numbered}
use Rattle.machine_semantics.specs.Image.{Monitor, Routine, Process}
use Rattle.machine_semantics.specs.Trees.{Segs}
use Rattle.image_format.specs.Numbers as written
use Rattle.image.specs.declared.names.ConditionName.{ConditionName}
use Rattle.image.specs.declared.names.DeviceName.{DeviceName}
use Rattle.image.specs.Bytes.{Version, First, Second}
use Rattle.image_reader.specs.declared.counts.Counts.{Counts}
use Rattle.image_format.specs.Format.{Format, ◌>>=◌, field_at, u8, u16, u32, bytes_as_are, given, unless, checked, both, via, each}
use Rattle.image_format.specs.TreeFormat.{in_image, within, u32_within, u16_within, u16_below, tree_format}

-- ---- names

-- whether the name is one of these
abbrev pub has : List (List ℕ) → List ℕ → Bool
has names name = list_any (pointwise nat_eq name) names

-- I5 where a name is no identifier, is a keyword, or is taken
abbrev pub wrong_name : (taken : List (List ℕ)) → List ℕ → Option ℕ
wrong_name taken name = unless (is_identifier name && not (has keywords name) && not (has taken name)) 5

-- one byte of length, at most 63, and the bytes of the name
abbrev pub name_format : (taken : List (List ℕ)) → Format (List ℕ)
name_format taken = checked (via (λ x. x.1) (λ name. (length name, name)) (both (checked u8 (within 0 63)) bytes_as_are)) (wrong_name taken)

-- ---- devices, monitors and conditions

-- 0 or 1; another number is the fault that is told
abbrev pub flag_format : (number : ℕ) → Format Bool
flag_format number = record {
  write = written.flag;
  is = λ holds. true;
  read = λ bytes. (checked u8 (λ n. unless (nat_le n 1) number)).read bytes >>= λ x. Ok (x.0 == 1, x.1);
}

abbrev pub device_format : (taken : List (List ℕ)) → Format DeviceName
device_format taken = via (λ x. record { name = x.0; out = x.1 }) (λ d. (d.name, d.out)) (both (name_format taken) (λ name. flag_format 6))

-- base and words may be any numbers, and so may the ceiling
abbrev pub monitor_format : Format Monitor
monitor_format = via (λ x. record { base = x.0; words = x.1.0; ceiling = x.1.1 }) (λ m. (m.base, (m.words, m.ceiling))) (both u32 (λ base. both u32 (λ words. u16)))

abbrev pub named_monitor_format : (taken : List (List ℕ)) → Format (List ℕ × Monitor)
named_monitor_format taken = both (name_format taken) (λ name. monitor_format)

-- whether an earlier condition of the same monitor has the name
abbrev pub is_again : (earlier : List ConditionName) → ConditionName → Bool
is_again earlier c = list_any (λ e. nat_eq c.mon e.mon && pointwise nat_eq c.name e.name) earlier

-- I5 where the name is taken, also by an earlier condition of the same monitor; I4 where there is
-- no such monitor
abbrev pub condition_format : (taken : List (List ℕ)) → (monitors : ℕ) → (earlier : List ConditionName) → Format ConditionName
condition_format taken monitors earlier =
    checked (via (λ x. record { name = x.0; mon = x.1 }) (λ c. (c.name, c.mon)) (both (name_format taken) (λ name. u16_below monitors))) (λ c. unless (not (is_again earlier c)) 5)

-- ---- how much there is

abbrev pub counts_format : Format Counts
counts_format =
    via (λ x. record { processes = x.0; monitors = x.1.0; conditions = x.1.1.0; devices = x.1.1.1.0; events = x.1.1.1.1.0; routines = x.1.1.1.1.1.0; code = x.1.1.1.1.1.1 })
    (λ c. (c.processes, (c.monitors, (c.conditions, (c.devices, (c.events, (c.routines, c.code)))))))
    (both (u16_within 1 64) (λ processes. both (u16_within 0 64) (λ monitors. both (u16_within 0 256) (λ conditions. both (u16_within 0 64) (λ devices. both (u16_within 0 64) (λ events.
    both (u16_within 0 512) (λ routines. u32_within 0 65535)))))))

-- ---- routines

-- a cost, a blocking or a stay
abbrev pub cost : Format ℕ
cost = u32_within 0 1000000001

-- the owner of a routine: none of a program's, which is 0, else I7; a process or a monitor that
-- there is, else I4
abbrev pub wrong_owner : Counts → (kind : ℕ) → (owner : ℕ) → Option ℕ
wrong_owner counts zero owner = unless (owner == 0) 7
wrong_owner counts (suc zero) owner = unless (nat_lt owner counts.processes) 4
wrong_owner counts (suc (suc kind)) owner = unless (nat_lt owner counts.monitors) 4

-- the stay of a routine that is no entry is 0, else I7
abbrev pub wrong_stay : (kind : ℕ) → (stay : ℕ) → Option ℕ
wrong_stay kind stay = unless (kind == 2 || stay == 0) 7

-- kind, owner, parameters, locals, and whether there is a result
abbrev pub owner_format : Counts → Format (ℕ × (ℕ × (ℕ × (ℕ × Bool))))
owner_format counts =
    both (checked u8 (λ kind. unless (nat_le kind 2) 6)) (λ kind. both (checked u16 (wrong_owner counts kind)) (λ owner. both u16 (λ params. both (u32_within 0 4096) (λ locals. flag_format 4))))

-- start, run, suspension, waits and stay
abbrev pub cost_format : (kind : ℕ) → Format (ℕ × (ℕ × (ℕ × (ℕ × ℕ))))
cost_format kind = both u32 (λ start. both cost (λ run. both cost (λ susp. both cost (λ waits. checked cost (wrong_stay kind)))))

-- how deep trees nest at most
abbrev pub deepest : ℕ
deepest = 130

abbrev pub routine_format : Counts → Format Routine
routine_format counts =
    via (λ x. record {
      kind = x.0.0;
      owner = x.0.1.0;
      params = x.0.1.1.0;
      locals = x.0.1.1.1.0;
      gives = x.0.1.1.1.1;
      start = x.1.0.0;
      run = x.1.0.1.0;
      susp = x.1.0.1.1.0;
      waits = x.1.0.1.1.1.0;
      stay = x.1.0.1.1.1.1;
      tree = x.1.1;
    })
    (λ r. ((r.kind, (r.owner, (r.params, (r.locals, r.gives)))), ((r.start, (r.run, (r.susp, (r.waits, r.stay)))), r.tree)))
    (both (owner_format counts) (λ o. both (cost_format o.0) (λ c. tree_format (in_image counts.monitors) deepest)))

-- ---- processes

-- within how many ticks an activation has to end, where it stands: 10 to the frame
abbrev pub deadline_format : Version → (frame : ℕ) → Format ℕ
deadline_format First frame = given nat_eq frame
deadline_format Second frame = u32_within 10 frame

-- the first activation of an event's process is 0, else I7
abbrev pub wrong_first : (kind : ℕ) → (first : ℕ) → Option ℕ
wrong_first kind first = unless (kind == 0 || first == 0) 7

-- the event of a periodic process is 0, else I7; an event's process has one that there is, and that
-- no earlier process has, else I4
abbrev pub wrong_event : (events : ℕ) → (used : List ℕ) → (kind : ℕ) → (event : ℕ) → Option ℕ
wrong_event events used zero event = unless (event == 0) 7
wrong_event events used (suc kind) event = unless (nat_lt event events && not (list_any (λ e. nat_eq e event) used)) 4

-- kind, frame, deadline, first activation, event and rank
abbrev pub release_format : Version → (events : ℕ) → (used : List ℕ) → Format (ℕ × (ℕ × (ℕ × (ℕ × (ℕ × ℕ)))))
release_format version events used =
    both (checked u8 (λ kind. unless (nat_le kind 1) 6)) (λ kind. both (u32_within 10 1000000000) (λ frame. both (deadline_format version frame) (λ deadline.
    both (checked (u32_within 0 1000000000) (wrong_first kind)) (λ first. both (checked u16 (wrong_event events used kind)) (λ event. u16)))))

-- run, suspension, waits, blocking and bound
abbrev pub time_format : Format (ℕ × (ℕ × (ℕ × (ℕ × ℕ))))
time_format = both cost (λ run. both cost (λ susp. both cost (λ waits. both cost (λ block. u32_within 1 1000000000))))

-- data words, stack, locals and start
abbrev pub room_format : Format (ℕ × (ℕ × (ℕ × ℕ)))
room_format = both u32 (λ words. both (u32_within 0 4096) (λ stack. both (u32_within 0 4096) (λ locals. u32)))

-- the address of the handler, and how many numbers it takes; without numbers the address is 0, else
-- I7 there
abbrev pub handler_format : Format (ℕ × ℕ)
handler_format = checked (both u32 (λ handler. u16)) (λ x. unless (nat_lt 0 x.1 || x.0 == 0) 7)

-- whether a number is above the last one
abbrev pub is_above : (earlier : List ℕ) → ℕ → Bool
is_above [] n = true
is_above (x ∷ []) n = nat_lt x n
is_above (x ∷ y ∷ ys) n = is_above (y ∷ ys) n

-- the numbers that a handler may take
abbrev pub is_taken : ℕ → Bool
is_taken n = (nat_le 1 n && nat_le n 4) || (nat_le 10 n && nat_le n 999)

-- I8 where a number of a handler is not above the one before, or is none that a handler may take
abbrev pub wrong_number : (earlier : List ℕ) → ℕ → Option ℕ
wrong_number earlier n = unless (is_above earlier n && is_taken n) 8

abbrev pub numbers_format : (count : ℕ) → Format (List ℕ)
numbers_format count = each (λ earlier. checked u16 (wrong_number earlier)) [] count

-- the tree of a handler, which stands only where it takes numbers
abbrev pub some_write : {A : Type 0} → Format A → Option A → List ℕ
some_write f None = []
some_write f (Some x) = f.write x

abbrev pub some_is : {A : Type 0} → Format A → Option A → Bool
some_is f None = false
some_is f (Some x) = f.is x

abbrev pub some_format : {A : Type 0} → Format A → Format (Option A)
some_format f = record { write = some_write f; is = some_is f; read = λ bytes. f.read bytes >>= λ x. Ok (Some x.0, x.1) }

abbrev pub is_none : {A : Type 0} → Option A → Bool
is_none None = true
is_none (Some x) = false

abbrev pub handler_tree_format : (monitors : ℕ) → (count : ℕ) → Format (Option Segs)
handler_tree_format monitors zero = given (λ x y. is_none y) None
handler_tree_format monitors (suc n) = some_format (tree_format (in_image monitors) deepest)

-- all of a process but its name
abbrev pub process_format : Version → Counts → (used : List ℕ) → Format Process
process_format version counts used =
    via (λ x. record {
      kind = x.0.0;
      frame = x.0.1.0;
      deadline = x.0.1.1.0;
      first = x.0.1.1.1.0;
      event = x.0.1.1.1.1.0;
      rank = x.0.1.1.1.1.1;
      run = x.1.0.0;
      susp = x.1.0.1.0;
      waits = x.1.0.1.1.0;
      block = x.1.0.1.1.1.0;
      bound = x.1.0.1.1.1.1;
      words = x.1.1.0.0;
      stack = x.1.1.0.1.0;
      locals = x.1.1.0.1.1.0;
      start = x.1.1.0.1.1.1;
      handler = x.1.1.1.0.0;
      numbers = x.1.1.1.1.0;
      body = x.1.1.1.1.1.0;
      handler_tree = x.1.1.1.1.1.1;
    })
    (λ p. (
      (p.kind, (p.frame, (p.deadline, (p.first, (p.event, p.rank))))),
      (
        (p.run, (p.susp, (p.waits, (p.block, p.bound)))),
        ((p.words, (p.stack, (p.locals, p.start))), ((p.handler, length p.numbers), (p.numbers, (p.body, p.handler_tree)))),
      ),
    ))
    (both (release_format version counts.events used) (λ release. both time_format (λ time. both room_format (λ room. both handler_format (λ handler.
    both (numbers_format handler.1) (λ numbers. both (tree_format (in_image counts.monitors) deepest) (λ body. handler_tree_format counts.monitors handler.1)))))))

abbrev pub named_process_format : Version → Counts → (taken : List (List ℕ)) → (used : List ℕ) → Format (List ℕ × Process)
named_process_format version counts taken used = both (name_format taken) (λ name. process_format version counts used)

-- the event that releases a process, where it is none of the periodic ones
abbrev pub event_of : Process → List ℕ
event_of p = if p.kind == 0 then [] else p.event ∷ []

-- ---- code

-- a signed number of four bytes
abbrev pub word : Format ℤ
word = record { write = word_bytes; is = λ z. int_eq z (cast_signed w32 (cast_unsigned w32 z)); read = field_at 4 (λ bytes. cast_signed w32 (from_be_bytes w32 bytes)) }

-- I7 where an operand that is not named is not 0
abbrev pub operand : (is_named : Bool) → Format ℤ
operand is_named = checked word (λ z. unless (is_named || int_eq z (pos 0)) 7)

-- number and operands
abbrev pub fields_format : Format (ℕ × (ℤ × (ℤ × ℤ)))
fields_format =
    both (checked u8 (λ n. unless (nat_le 1 n && nat_le n 48) 6)) (λ n. both (operand (nat_le 1 (arity n))) (λ a. both (operand (nat_le 2 (arity n))) (λ b.
    operand (nat_le 3 (arity n)))))

-- the instruction that has these, and what it has
abbrev pub or_end : Option Instr → Instr
or_end None = i.End
or_end (Some instr) = instr

abbrev pub fields_of : List ℤ → ℕ → ℕ × (ℤ × (ℤ × ℤ))
fields_of (a ∷ b ∷ c ∷ []) n = (n, (a, (b, c)))
fields_of zs n = (n, (pos 0, (pos 0, pos 0)))

abbrev pub instr_format : Format Instr
instr_format = via (λ x. or_end (numbered x.0 x.1.0 x.1.1.0 x.1.1.1)) (λ instr. fields_of (operands instr) (number instr)) fields_format
