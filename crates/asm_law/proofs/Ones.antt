-- The layout of a line is that of one line.
use Rattle.std.proofs.Common.{ℕ, zero, suc, List, [], ◌∷◌, Option, Some, None, refl, true, false, Bool}
use Rattle.std.specs.Prelude.{◌==◌, codes, nat_le, nat_lt, if◌then◌else◌}
use Rattle.machine_isa.specs.Bytes.{arity}
use Rattle.image.specs.declared.names.ConditionName.{ConditionName}
use Rattle.asm_lines.specs.Instrs.{number_of}
use Rattle.asm_law.specs.Layout as l
use Rattle.asm_law.specs.Layout.{Layout, done}
use Rattle.asm_law.proofs.Refusing.{OneLine}

one_field : (label : List ℕ) (low high : ℕ) (k : ℕ → Layout) → ((n : ℕ) → OneLine (k n)) → OneLine (l.field label low high k)
unfolding l.field
one_field label low high k one n = one (l.kept low high n)

pub a_device_is_one : (taken : List (List ℕ)) → OneLine (l.device taken (λ x. done))
a_device_is_one taken x = (refl, refl)

pub an_event_is_one : (taken : List (List ℕ)) → OneLine (l.an_event taken (λ x. done))
an_event_is_one taken x = refl

below_is_one : (o : Option ℕ) (k : Layout) → OneLine k → OneLine (l.below_none o k)
below_is_one None k one = tt
below_is_one (Some n) k one = by (nat_lt n 65535) where
  by : (b : Bool) → OneLine (if b then k else l.none)
  by true = one
  by false = tt

pub a_monitor_is_one : (taken : List (List ℕ)) → OneLine (l.monitor taken (λ x. done))
a_monitor_is_one taken x = one_field _ _ _ _ (λ base. one_field _ _ _ _ (λ words. (refl, λ n. below_is_one n (l.ends done) refl)))

pub a_condition_is_one : (taken : List (List ℕ)) (monitors : ℕ) (earlier : List ConditionName) → OneLine (l.condition taken monitors earlier (λ x. done))
a_condition_is_one taken monitors earlier x = one_field _ _ _ _ (λ m. refl)

-- ---- instructions

negative_is_one : (o : Option ℕ) (k : Layout) → OneLine k → OneLine (l.negative o k)
negative_is_one None k one = one
negative_is_one (Some zero) k one = tt
negative_is_one (Some (suc n)) k one = one

operand_is_one : (b : Bool) (k : Layout) → OneLine k → OneLine (l.operand_named b k)
operand_is_one true k one = (λ n. negative_is_one n k one, λ n. one)
operand_is_one false k one = one

operands_are_one : (o : Option ℕ) → OneLine (l.operands o done)
operands_are_one None = tt
operands_are_one (Some m) =
    operand_is_one (nat_le 1 (arity m)) _ (operand_is_one (nat_le 2 (arity m)) _ (operand_is_one (nat_le 3 (arity m)) _ refl))

pub an_instruction_is_one : OneLine (l.instruction done)
an_instruction_is_one x = operands_are_one (number_of x)

-- ---- routines

stay_is_one : (kind : ℕ) (k : Layout) → OneLine k → OneLine (l.stay kind k)
stay_is_one kind k one = by (kind == 2) where
  by : (b : Bool) → OneLine (if b then l.cost (codes " stay ") k else k)
  by true = one_field _ _ _ _ (λ n. one)
  by false = one

abbrev costed : (kind : ℕ) → Layout
costed kind = l.cost (codes " run ") (l.cost (codes " suspend ") (l.cost (codes " waits ") (l.stay kind (l.ends done))))

costs_are_one : (kind : ℕ) → OneLine (costed kind)
costs_are_one kind = one_field _ _ _ _ (λ run. one_field _ _ _ _ (λ susp. one_field _ _ _ _ (λ waits. stay_is_one kind (l.ends done) refl)))

behind_owner : (kind : ℕ) → OneLine (l.field (codes " params ") 0 65535 (λ params. l.field (codes " locals ") 0 4096 (λ locals. l.field (codes " result ") 0 1 (λ gives. l.field (codes " start ") 0 4294967295 (λ start. costed kind)))))
behind_owner kind = one_field _ _ _ _ (λ params. one_field _ _ _ _ (λ locals. one_field _ _ _ _ (λ gives. one_field _ _ _ _ (λ start. costs_are_one kind))))

pub a_routine_line_is_one : (processes monitors : ℕ) → OneLine (l.routine_line processes monitors done)
a_routine_line_is_one processes monitors = (one_field _ _ _ _ (λ n. behind_owner 1), (one_field _ _ _ _ (λ n. behind_owner 2), behind_owner 0))

-- ---- processes

more_is_one : (most last : ℕ) (k : List ℕ → Layout) → ((xs : List ℕ) → OneLine (k xs)) → OneLine (l.more most last k)
more_is_one zero last k one = tt
more_is_one (suc m) last k one = (one [], one_field _ _ _ _ (λ x. more_is_one m x (λ xs. k (x ∷ xs)) (λ xs. one (x ∷ xs))))

handler_is_one : OneLine (l.handler (λ ns. l.ends done))
handler_is_one = (refl, one_field _ _ _ _ (λ address. (tt, λ n. more_is_one n 0 (λ ns. l.ends done) (λ ns. refl))))

room_is_one : OneLine (l.room (l.handler (λ ns. l.ends done)))
room_is_one = one_field _ _ _ _ (λ words. one_field _ _ _ _ (λ stack. one_field _ _ _ _ (λ locals. one_field _ _ _ _ (λ start. handler_is_one))))

time_is_one : OneLine (l.time (l.room (l.handler (λ ns. l.ends done))))
time_is_one =
    one_field _ _ _ _ (λ rank. one_field _ _ _ _ (λ run. one_field _ _ _ _ (λ susp. one_field _ _ _ _ (λ waits. one_field _ _ _ _ (λ block. one_field _ _ _ _ (λ bound. room_is_one))))))

pub a_process_line_is_one : (events : ℕ) (taken : List (List ℕ)) (used : List ℕ) → OneLine (l.process_line events taken used (λ x. done))
a_process_line_is_one events taken used x = (
  one_field _ _ _ _ (λ e. one_field _ _ _ _ (λ frame. one_field _ _ _ _ (λ deadline. time_is_one))),
  one_field _ _ _ _ (λ frame. one_field _ _ _ _ (λ deadline. one_field _ _ _ _ (λ first. time_is_one))),
)
