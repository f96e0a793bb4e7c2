-- The image of a program, as far as its text alone decides it: code, segment trees, words and
-- addresses. Costs, ranks, ceilings and bounds are told of elsewhere.
use Rattle.std.specs.Prelude.{◌≡◌, ℕ, suc, ◌+◌, Bool, false, List, [], ◌∷◌, Option, Some, None, pos, map, length, ◌++◌, replicate, is_some, filter_map, cond, nat_le}
use Rattle.syntax_tree.specs.Plain.{Answers, Monitor, Process, Handler, Trigger, periodic, at_event, Declaration, device, Program}
use Rattle.source_semantics.specs.Names.{monitors, processes, count_value, event_number, conditions_of, frame_of, deadline_of}
use Rattle.source_semantics.specs.Store.{range_of}
use Rattle.source_semantics.specs.Starts.{first_of}
use Rattle.machine_isa.specs.declared.instr.Instr.{Instr}
use Rattle.machine_isa.specs.declared.instr.Instr.TheVariants as i
use Rattle.machine_semantics.specs.Trees.{Nil}
use Rattle.machine_semantics.specs.Image as image
use Rattle.code_spec.specs.Layout.{Owner, by_program, by_process, by_monitor, Scope, count, words_of, monitor_vars, routine_vars_words, routine_places, routine_words, frame_words, loops}
use Rattle.code_spec.specs.Numbering.{Text, numbered}
use Rattle.code_spec.specs.Code.{code_of, range_code}
use Rattle.code_spec.specs.Emits.{IsLine, At, EmitsAll}
use Rattle.code_spec.specs.Segments.{routine_segs, stmts_segs}

-- ---- routines

abbrev pub is_function : Owner → Option Answers → Bool
is_function by_program a = is_some a
is_function (by_process k) a = is_some a
is_function (by_monitor m) a = false

-- where the text of a routine stands
abbrev pub routine_scope : Program → Text → Scope
routine_scope g t = record { owner = t.owner; is_function = is_function t.owner t.routine.answers; own = routine_places g t.routine; exit = None; frame = routine_words g t.routine }

-- the code from p to q is that of the result expression, with the check of its range
abbrev pub EmitsAnswer : Program → List Instr → Scope → (p q : ℕ) → Answers → Type 0
EmitsAnswer g code c p q a = (r : ℕ) × IsLine code p r (code_of g c a.value) × IsLine code r q (range_code (range_of g a.kind))

-- behind a body from p on the rest of a routine, up to q
abbrev pub EmitsEnd : Program → List Instr → Scope → Owner → (p q : ℕ) → Option Answers → Type 0
EmitsEnd g code c (by_monitor m) p q None = IsLine code p q (i.Leave (pos m) ∷ i.Return ∷ [])
EmitsEnd g code c (by_monitor m) p q (Some a) = (r : ℕ) × EmitsAnswer g code c p r a × IsLine code r q (i.Leave (pos m) ∷ i.ReturnValue ∷ [])
EmitsEnd g code c by_program p q None = IsLine code p q (i.Return ∷ [])
EmitsEnd g code c by_program p q (Some a) = (r : ℕ) × EmitsAnswer g code c p r a × IsLine code r q (i.ReturnValue ∷ [])
EmitsEnd g code c (by_process k) p q None = IsLine code p q (i.Return ∷ [])
EmitsEnd g code c (by_process k) p q (Some a) = (r : ℕ) × EmitsAnswer g code c p r a × IsLine code r q (i.ReturnValue ∷ [])

-- what stands before the body
abbrev pub enter_code : Owner → List Instr
enter_code (by_monitor m) = i.Enter (pos m) ∷ []
enter_code by_program = []
enter_code (by_process k) = []

-- the code from p to q is that of the routine
pub record EmitsRoutine (g : Program) (code : List Instr) (t : Text) (p q : ℕ) : Type 0 where
  pub inside : ℕ
  pub enters : IsLine code p inside (enter_code t.owner)
  pub behind : ℕ
  pub body : EmitsAll g code (routine_scope g t) (routine_vars_words g t.routine) inside behind t.routine.body
  pub rest : EmitsEnd g code (routine_scope g t) t.owner behind q t.routine.answers

abbrev pub kind_number : Owner → ℕ
kind_number by_program = 0
kind_number (by_process k) = 1
kind_number (by_monitor m) = 2

abbrev pub owner_number : Owner → ℕ
owner_number by_program = 0
owner_number (by_process k) = k
owner_number (by_monitor m) = m

-- a routine of the image
pub record IsRoutine (g : Program) (t : Text) (r : image.Routine) : Type 0 where
  pub kind : r.kind ≡ kind_number t.owner
  pub owner : r.owner ≡ owner_number t.owner
  pub params : r.params ≡ count t.routine.params
  pub locals : r.locals ≡ routine_words g t.routine
  pub gives : r.gives ≡ is_some t.routine.answers
  pub tree : r.tree ≡ routine_segs g (routine_scope g t) t.owner t.routine

-- routines one after the other, in the code from p to q
abbrev pub EmitsRoutines : Program → List Instr → (p q : ℕ) → List Text → List image.Routine → Type 0
EmitsRoutines g code p q [] [] = q ≡ p
EmitsRoutines g code p q (t ∷ ts) (r ∷ rs) = (next : ℕ) × IsRoutine g t r × (r.start ≡ p) × EmitsRoutine g code t p next × EmitsRoutines g code next q ts rs
EmitsRoutines g code p q ts rs = ⊥

-- ---- processes

-- where the body and the handler of process k stand
abbrev pub process_scope : Program → ℕ → Process → Scope
process_scope g k p = record { owner = by_process k; is_function = false; own = []; exit = None; frame = frame_words p }

-- numbers from the least to the greatest
abbrev pub inserted : ℕ → List ℕ → List ℕ
inserted k [] = k ∷ []
inserted k (n ∷ ns) = cond (nat_le k n) (k ∷ n ∷ ns) (n ∷ inserted k ns)

abbrev pub ascending : List ℕ → List ℕ
ascending [] = []
ascending (k ∷ ks) = inserted k (ascending ks)

-- the code from p to q is that of the handler, if there is one, with its numbers in ascending
-- order, and this is its tree
abbrev pub EmitsHandler : Program → List Instr → ℕ → Process → Option Handler → (p q : ℕ) → image.Process → Type 0
EmitsHandler g code k t None p q ip = (q ≡ p) × (ip.handler ≡ 0) × (ip.numbers ≡ []) × (ip.handler_tree ≡ None)
EmitsHandler g code k t (Some h) p q ip =
    (behind : ℕ) × EmitsAll g code (process_scope g k t) (loops t.body) p behind h.body × IsLine code behind q (i.End ∷ [])
    × (ip.handler ≡ p) × (ip.numbers ≡ ascending (map (λ n. count_value g n) h.numbers)) × (ip.handler_tree ≡ Some (stmts_segs g (process_scope g k t) h.body Nil))

-- how a process is released
abbrev pub IsReleased : Program → Trigger → image.Process → Type 0
IsReleased g (periodic frame deadline first) ip = (ip.kind ≡ 0) × (ip.first ≡ first_of g first) × (ip.event ≡ 0)
IsReleased g (at_event e frame deadline) ip = (ip.kind ≡ 1) × (ip.first ≡ 0) × (ip.event ≡ event_number g e)

-- the code from p to q is that of process k, with its END
pub record EmitsProcess (g : Program) (code : List Instr) (k : ℕ) (t : Process) (p q : ℕ) (ip : image.Process) : Type 0 where
  pub behind : ℕ
  pub body : EmitsAll g code (process_scope g k t) 0 p behind t.body
  pub end : At code behind i.End
  pub handler : EmitsHandler g code k t t.handler (behind + 1) q ip
  pub start : ip.start ≡ p
  pub locals : ip.locals ≡ frame_words t
  pub words : ip.words ≡ words_of g t.vars
  pub tree : ip.body ≡ stmts_segs g (process_scope g k t) t.body Nil
  pub frame : ip.frame ≡ frame_of g t.activation
  pub deadline : ip.deadline ≡ deadline_of g t.activation
  pub released : IsReleased g t.activation ip

-- the processes from number k on
abbrev pub EmitsProcesses : Program → List Instr → ℕ → (p q : ℕ) → List Process → List image.Process → Type 0
EmitsProcesses g code k p q [] [] = q ≡ p
EmitsProcesses g code k p q (t ∷ ts) (ip ∷ ips) = (next : ℕ) × EmitsProcess g code k t p next ip × EmitsProcesses g code (suc k) next q ts ips
EmitsProcesses g code k p q ts ips = ⊥

-- ---- monitors, conditions and devices

abbrev pub AreMonitors : Program → ℕ → List Monitor → List image.Monitor → Type 0
AreMonitors g base [] [] = Unit {0}
AreMonitors g base (m ∷ ms) (k ∷ ks) = (k.base ≡ base) × (k.words ≡ words_of g (monitor_vars m)) × AreMonitors g (base + words_of g (monitor_vars m)) ms ks
AreMonitors g base ms ks = ⊥

-- the monitor of each condition; the monitors from number m on
abbrev pub condition_monitors : ℕ → List Monitor → List ℕ
condition_monitors m [] = []
condition_monitors m (k ∷ ks) = replicate (length (conditions_of k)) m ++ condition_monitors (suc m) ks

abbrev pub device_direction : Declaration → Option Bool
device_direction (device n is_out) = Some is_out
device_direction _ = None

-- ---- the whole

-- the image is that of the program: all routines by number, then all processes in the order of the
-- text, and nothing else
pub record IsCodeOf (g : Program) (m : image.Image) : Type 0 where
  pub between : ℕ
  pub routine_code : EmitsRoutines g m.code 0 between (numbered g) m.routines
  pub process_code : EmitsProcesses g m.code 0 between (length m.code) (processes g) m.processes
  pub monitor_words : AreMonitors g 0 (monitors g) m.monitors
  pub condition_table : m.conditions ≡ condition_monitors 0 (monitors g)
  pub device_table : m.devices ≡ filter_map device_direction g.decls
