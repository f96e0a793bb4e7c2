-- Two images of the shape of one program differ in bounds alone.
use Rattle.std.specs.Prelude.{◌≡◌, ◌+◌, ℕ, zero, suc, Bool, List, [], ◌∷◌, Option, Some, None, map, slice_get}
use Rattle.std.proofs.Common.{refl, sym, ap, subst, ◌∙◌}
use Rattle.std.proofs.lemmas.List.{map-id}
use Rattle.machine_isa.specs.declared.instr.Instr.{Instr}
use Rattle.syntax_tree.specs.Plain.{Trigger, periodic, at_event, Handler, Monitor, Process, Program}
use Rattle.machine_semantics.specs.Image as image
use Rattle.code_spec.specs.Layout.{words_of, monitor_vars}
use Rattle.code_spec.specs.Compiled.{IsReleased, AreMonitors}
use Rattle.code_spec.specs.Numbering.{Text, numbered}
use Rattle.codegen_spec.specs.declared.code.Part.{Part}
use Rattle.codegen_spec.specs.declared.code.ProcessParts.{ProcessParts}
use Rattle.codegen_spec.specs.declared.code.Code.{Code}
use Rattle.codegen_spec.specs.Parts.{program_made}
use Rattle.codegen_spec.specs.Held.{HoldsRoutine, HoldRoutines, HoldsHandler, HoldsProcess, HoldProcesses, Holds}
use Rattle.source_semantics.specs.Names.{monitors, processes}
use Rattle.valid_image.specs.Times.{rank_of, ceiling_of, needed_block}
use Rattle.code_measures.specs.Declared.{DeclaresRoutine, DeclaresProcess, Declares}
use Rattle.code_measures.specs.Whole.{HasRanks}
use Rattle.built_image.specs.Filled.{without_rank, without_ceiling, without_ranks, without_bound, without_bounds}
use Rattle.built_image_law.specs.Filled.{Each, without_block, without_blocks}
use Rattle.built_image_law.specs.FilledLaws.{ShapesAgree}
use Rattle.built_image_law.proofs.Ranked.{ranks_agree, ceilings_agree, blocks_agree}

-- ---- routines

routine_agrees : (g : Program) (t : Text) (x : Part) (r s : image.Routine) → HoldsRoutine g t x r → HoldsRoutine g t x s → DeclaresRoutine g t r → DeclaresRoutine g t s → s ≡ r
routine_agrees g t x r s a b c d =
    ap (λ v. record s { kind = v }) (b.kind ∙ sym a.kind)
    ∙ (ap (λ v. record s { kind = r.kind; owner = v }) (b.owner ∙ sym a.owner)
    ∙ (ap (λ v. record s { kind = r.kind; owner = r.owner; params = v }) (b.params ∙ sym a.params)
    ∙ (ap (λ v. record s { kind = r.kind; owner = r.owner; params = r.params; locals = v }) (b.locals ∙ sym a.locals)
    ∙ (ap (λ v. record s { kind = r.kind; owner = r.owner; params = r.params; locals = r.locals; gives = v }) (b.gives ∙ sym a.gives)
    ∙ (ap (λ v. record r { run = s.run; susp = s.susp; waits = s.waits; stay = s.stay; tree = s.tree; start = v }) (b.start ∙ sym a.start)
    ∙ (ap (λ v. record r { run = s.run; susp = s.susp; waits = s.waits; stay = s.stay; tree = v }) (b.tree ∙ sym a.tree)
    ∙ (ap (λ v. record r { run = s.run; susp = s.susp; waits = s.waits; stay = v }) (d.stay ∙ sym c.stay)
    ∙ (ap (λ v. record r { run = s.run; susp = s.susp; waits = v }) (d.waits ∙ sym c.waits)
    ∙ (ap (λ v. record r { run = s.run; susp = v }) (d.susp ∙ sym c.susp)
    ∙ ap (λ v. record r { run = v }) (d.run ∙ sym c.run))))))))))

routines_agree : (g : Program) (ts : List Text) (xs : List Part) (rs ss : List image.Routine) → HoldRoutines g ts xs rs → HoldRoutines g ts xs ss
    → ((i : ℕ) (t : Text) (r : image.Routine) → slice_get ts i ≡ Some t → slice_get rs i ≡ Some r → DeclaresRoutine g t r)
    → ((i : ℕ) (t : Text) (r : image.Routine) → slice_get ts i ≡ Some t → slice_get ss i ≡ Some r → DeclaresRoutine g t r) → ss ≡ rs
routines_agree g [] [] [] [] a b c d = refl
routines_agree g [] [] [] (s ∷ ss) a b c d = absurd b
routines_agree g [] [] (r ∷ rs) ss a b c d = absurd a
routines_agree g [] (x ∷ xs) rs ss a b c d = absurd a
routines_agree g (t ∷ ts) [] rs ss a b c d = absurd a
routines_agree g (t ∷ ts) (x ∷ xs) [] ss a b c d = absurd a
routines_agree g (t ∷ ts) (x ∷ xs) (r ∷ rs) [] a b c d = absurd b
routines_agree g (t ∷ ts) (x ∷ xs) (r ∷ rs) (s ∷ ss) a b c d =
    ap (λ (v : image.Routine). v ∷ ss) (routine_agrees g t x r s a.0 b.0 (c 0 t r refl refl) (d 0 t s refl refl))
    ∙ ap (λ (vs : List image.Routine). r ∷ vs) (routines_agree g ts xs rs ss a.1 b.1 (λ i u v text at. c (suc i) u v text at) (λ i u v text at. d (suc i) u v text at))

-- ---- processes

record SameRelease (p q : image.Process) : Type 0 where
  kind : q.kind ≡ p.kind
  first : q.first ≡ p.first
  event : q.event ≡ p.event

release_agrees : (g : Program) (a : Trigger) (p q : image.Process) → IsReleased g a p → IsReleased g a q → SameRelease p q
release_agrees g (periodic frame deadline first) p q a b = record { kind = b.0 ∙ sym a.0; first = b.1 ∙ sym a.1; event = b.2 ∙ sym a.2 }
release_agrees g (at_event e frame deadline) p q a b = record { kind = b.0 ∙ sym a.0; first = b.1 ∙ sym a.1; event = b.2 ∙ sym a.2 }

record SameHandler (p q : image.Process) : Type 0 where
  start : q.handler ≡ p.handler
  numbers : q.numbers ≡ p.numbers
  tree : q.handler_tree ≡ p.handler_tree

handler_agrees : (g : Program) (h : Option Handler) (x : Option Part) (p q : image.Process) → HoldsHandler g h x p → HoldsHandler g h x q → SameHandler p q
handler_agrees g None None p q a b = record { start = b.0 ∙ sym a.0; numbers = b.1 ∙ sym a.1; tree = b.2 ∙ sym a.2 }
handler_agrees g None (Some x) p q a b = absurd a
handler_agrees g (Some h) None p q a b = absurd a
handler_agrees g (Some h) (Some x) p q a b = record { start = b.0 ∙ sym a.0; numbers = b.1 ∙ sym a.1; tree = b.2 ∙ sym a.2 }

process_agrees : (g : Program) (over k : ℕ) (t : Process) (x : ProcessParts) (p q : image.Process) → HoldsProcess g t x p → HoldsProcess g t x q → DeclaresProcess g over k t p → DeclaresProcess g over k t q → without_rank q ≡ without_rank p
process_agrees g over k t x p q a b c d =
    let r = release_agrees g t.activation p q a.released b.released in
    let h = handler_agrees g t.handler x.handler p q a.handler b.handler in
    ap (λ v. record (without_rank q) { kind = v }) r.kind
    ∙ (ap (λ v. record (without_rank q) { kind = p.kind; first = v }) r.first
    ∙ (ap (λ v. record (without_rank q) { kind = p.kind; first = p.first; event = v }) r.event
    ∙ (ap (λ v. record (without_rank q) { kind = p.kind; first = p.first; event = p.event; frame = v }) (b.frame ∙ sym a.frame)
    ∙ (ap (λ v. record (without_rank q) { kind = p.kind; first = p.first; event = p.event; frame = p.frame; deadline = v }) (b.deadline ∙ sym a.deadline)
    ∙ (ap (λ v. record (without_rank p) { run = v; susp = q.susp; waits = q.waits; words = q.words; stack = q.stack; locals = q.locals; start = q.start; body = q.body; handler = q.handler; numbers = q.numbers; handler_tree = q.handler_tree }) (d.run ∙ sym c.run)
    ∙ (ap (λ v. record (without_rank p) { susp = v; waits = q.waits; words = q.words; stack = q.stack; locals = q.locals; start = q.start; body = q.body; handler = q.handler; numbers = q.numbers; handler_tree = q.handler_tree }) (d.susp ∙ sym c.susp)
    ∙ (ap (λ v. record (without_rank p) { waits = v; words = q.words; stack = q.stack; locals = q.locals; start = q.start; body = q.body; handler = q.handler; numbers = q.numbers; handler_tree = q.handler_tree }) (d.waits ∙ sym c.waits)
    ∙ (ap (λ v. record (without_rank p) { words = v; stack = q.stack; locals = q.locals; start = q.start; body = q.body; handler = q.handler; numbers = q.numbers; handler_tree = q.handler_tree }) (b.words ∙ sym a.words)
    ∙ (ap (λ v. record (without_rank p) { stack = v; locals = q.locals; start = q.start; body = q.body; handler = q.handler; numbers = q.numbers; handler_tree = q.handler_tree }) (d.stack ∙ sym c.stack)
    ∙ (ap (λ v. record (without_rank p) { locals = v; start = q.start; body = q.body; handler = q.handler; numbers = q.numbers; handler_tree = q.handler_tree }) (b.locals ∙ sym a.locals)
    ∙ (ap (λ v. record (without_rank p) { start = v; body = q.body; handler = q.handler; numbers = q.numbers; handler_tree = q.handler_tree }) (b.start ∙ sym a.start)
    ∙ (ap (λ v. record (without_rank p) { body = v; handler = q.handler; numbers = q.numbers; handler_tree = q.handler_tree }) (b.tree ∙ sym a.tree)
    ∙ (ap (λ v. record (without_rank p) { handler = v; numbers = q.numbers; handler_tree = q.handler_tree }) h.start
    ∙ (ap (λ v. record (without_rank p) { numbers = v; handler_tree = q.handler_tree }) h.numbers
    ∙ ap (λ v. record (without_rank p) { handler_tree = v }) h.tree))))))))))))))

processes_agree : (g : Program) (over : ℕ) (number : ℕ → ℕ) (ts : List Process) (xs : List ProcessParts) (ps qs : List image.Process) → HoldProcesses g ts xs ps → HoldProcesses g ts xs qs
    → ((i : ℕ) (t : Process) (p : image.Process) → slice_get ts i ≡ Some t → slice_get ps i ≡ Some p → DeclaresProcess g over (number i) t p)
    → ((i : ℕ) (t : Process) (p : image.Process) → slice_get ts i ≡ Some t → slice_get qs i ≡ Some p → DeclaresProcess g over (number i) t p) → map without_rank qs ≡ map without_rank ps
processes_agree g over number [] [] [] [] a b c d = refl
processes_agree g over number [] [] [] (q ∷ qs) a b c d = absurd b
processes_agree g over number [] [] (p ∷ ps) qs a b c d = absurd a
processes_agree g over number [] (x ∷ xs) ps qs a b c d = absurd a
processes_agree g over number (t ∷ ts) [] ps qs a b c d = absurd a
processes_agree g over number (t ∷ ts) (x ∷ xs) [] qs a b c d = absurd a
processes_agree g over number (t ∷ ts) (x ∷ xs) (p ∷ ps) [] a b c d = absurd b
processes_agree g over number (t ∷ ts) (x ∷ xs) (p ∷ ps) (q ∷ qs) a b c d =
    ap (λ (v : image.Process). v ∷ map without_rank qs) (process_agrees g over (number 0) t x p q a.0 b.0 (c 0 t p refl refl) (d 0 t q refl refl))
    ∙ ap (λ (vs : List image.Process). without_rank p ∷ vs)
    (processes_agree g over (λ i. number (suc i)) ts xs ps qs a.1 b.1 (λ i u v text at. c (suc i) u v text at) (λ i u v text at. d (suc i) u v text at))

-- ---- monitors

words_agree : (g : Program) (base : ℕ) (ms : List Monitor) (ks ls : List image.Monitor) → AreMonitors g base ms ks → AreMonitors g base ms ls → map without_ceiling ls ≡ map without_ceiling ks
words_agree g base [] [] [] a b = refl
words_agree g base [] [] (l ∷ ls) a b = absurd b
words_agree g base [] (k ∷ ks) ls a b = absurd a
words_agree g base (m ∷ ms) [] ls a b = absurd a
words_agree g base (m ∷ ms) (k ∷ ks) [] a b = absurd b
words_agree g base (m ∷ ms) (k ∷ ks) (l ∷ ls) a b =
    ap (λ v. record (without_ceiling l) { base = v } ∷ map without_ceiling ls) (b.0 ∙ sym a.0)
    ∙ (ap (λ v. record (without_ceiling k) { words = v } ∷ map without_ceiling ls) (b.1 ∙ sym a.1)
    ∙ ap (λ (vs : List image.Monitor). without_ceiling k ∷ vs) (words_agree g (base + words_of g (monitor_vars m)) ms ks ls a.2 b.2))

-- ---- but for ranks, ceilings, blocks and bounds

shapes_agree_so_far : (g : Program) (c : Code) (m n : image.Image) → n.over ≡ m.over → Holds g c m → Holds g c n → Declares g m → Declares g n → without_ranks n ≡ without_ranks m
shapes_agree_so_far g c m n over a b d e =
    ap (λ v. record (without_ranks n) { over = v }) over
    ∙ (ap (λ v. record (without_ranks n) { over = m.over; monitors = v }) (words_agree g 0 (monitors g) m.monitors n.monitors a.monitor_words b.monitor_words)
    ∙ (ap (λ v. record (without_ranks m) { conditions = v; devices = n.devices; routines = n.routines; processes = map without_rank n.processes; code = n.code }) (b.condition_table ∙ sym a.condition_table)
    ∙ (ap (λ v. record (without_ranks m) { devices = v; routines = n.routines; processes = map without_rank n.processes; code = n.code }) (b.device_table ∙ sym a.device_table)
    ∙ (ap (λ v. record (without_ranks m) { routines = v; processes = map without_rank n.processes; code = n.code }) (routines_agree g (numbered g) c.routines m.routines n.routines a.routines b.routines d.routines e.routines)
    ∙ (ap (λ v. record (without_ranks m) { processes = v; code = n.code })
    (processes_agree g m.over (λ k. k) (processes g) c.processes m.processes n.processes a.bodies b.bodies d.bodies (λ k t p text at. over_same k t p (e.bodies k t p text at)))
    ∙ ap (λ v. record (without_ranks m) { code = v }) (b.code ∙ sym a.code))))))
  where
    over_same : (k : ℕ) (t : Process) (p : image.Process) → DeclaresProcess g n.over k t p → DeclaresProcess g m.over k t p
    over_same k t p = with_over over
      where
        with_over : {i j : ℕ} → i ≡ j → DeclaresProcess g i k t p → DeclaresProcess g j k t p
        with_over same is = subst (λ o. DeclaresProcess g o k t p) same is

-- ---- ranks, ceilings and blocks

-- by one number more
refined : {A B C : Type 0} (f : A → B) (v : A → ℕ) (h : A → C) → ((x y : A) → f x ≡ f y → v x ≡ v y → h x ≡ h y) → (xs ys : List A) (c : ℕ → ℕ)
    → map f xs ≡ map f ys → Each (λ k x. v x ≡ c k) xs → Each (λ k y. v y ≡ c k) ys → map h xs ≡ map h ys
refined f v h step [] [] c same a b = refl
refined f v h step [] (y ∷ ys) c same a b = absurd (cc)
refined f v h step (x ∷ xs) [] c same a b = absurd (cc)
refined f v h step (x ∷ xs) (y ∷ ys) c same a b =
    ap (λ z. z ∷ map h xs) (step x y (cc) (a 0 x refl ∙ sym (b 0 y refl)))
    ∙ ap (λ zs. h y ∷ zs) (refined f v h step xs ys (λ k. c (suc k)) (cc) (λ k z at. a (suc k) z at) (λ k z at. b (suc k) z at))

module _ (n m : image.Image) (same : without_ranks n ≡ without_ranks m) (has : HasRanks n) (had : HasRanks m) where
  monitors_agree : n.monitors ≡ m.monitors
  monitors_agree =
      sym (map-id n.monitors)
      ∙ (refined without_ceiling (λ x. x.ceiling) (λ x. x) (λ x y e s. ap (λ (z : image.Monitor). record z { ceiling = x.ceiling }) e ∙ ap (λ c. record y { ceiling = c }) s)
      n.monitors m.monitors (λ j. ceiling_of m j) (ap (λ (i : image.Image). i.monitors) same) (λ j x at. has.ceilings j x at ∙ ceilings_agree n m same j) had.ceilings
      ∙ map-id m.monitors)

  ranks_alike : map without_block n.processes ≡ map without_block m.processes
  ranks_alike =
      refined without_rank (λ p. p.rank) without_block (λ x y e s. ap (λ (z : image.Process). record z { rank = x.rank }) e ∙ ap (λ r. record (without_rank y) { rank = r }) s)
      n.processes m.processes (λ k. rank_of m k) (ap (λ (i : image.Image). i.processes) same) (λ k p at. has.ranks k p at ∙ ranks_agree n m same k) had.ranks

  but_blocks : without_blocks n ≡ without_blocks m
  but_blocks =
      ap (λ (i : image.Image). record i { monitors = n.monitors; processes = map without_block n.processes }) same
      ∙ (ap (λ v. record m { monitors = v; processes = map without_block n.processes }) monitors_agree ∙ ap (λ v. record m { processes = v }) ranks_alike)

  blocks_alike : map without_bound n.processes ≡ map without_bound m.processes
  blocks_alike =
      refined without_block (λ p. p.block) without_bound (λ x y e s. ap (λ (z : image.Process). record z { block = x.block }) e ∙ ap (λ b. record (without_block y) { block = b }) s)
      n.processes m.processes (λ k. needed_block m (rank_of m k)) (ap (λ (i : image.Image). i.processes) but_blocks)
      (λ k p at. has.blocks k p at ∙ (blocks_agree n m but_blocks p.rank ∙ ap (λ r. needed_block m r) (has.ranks k p at ∙ ranks_agree n m same k)))
      (λ k p at. had.blocks k p at ∙ ap (λ r. needed_block m r) (had.ranks k p at))

  but_bounds : without_bounds n ≡ without_bounds m
  but_bounds =
      ap (λ (i : image.Image). record i { processes = map without_bound n.processes }) but_blocks
      ∙ ap (λ v. record m { processes = v }) blocks_alike

pub shapes_agree : ShapesAgree
shapes_agree g over m n one two =
    but_bounds n m (shapes_agree_so_far g (program_made g) m n (two.overhead ∙ sym one.overhead) one.code two.code one.declares two.declares) two.ranks one.ranks
