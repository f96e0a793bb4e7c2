-- In the layout of a text no word has a line feed, and each line asks for a byte.
use Rattle.std.proofs.Common.{inl, inr, ◌⊎◌, ◌≡◌, ◌++◌, ℕ, zero, suc, List, [], ◌∷◌, length, map, Option, Some, None, refl, true, false, Bool}
use Rattle.std.specs.Prelude.{◌==◌, codes, flat_map, nat_le, nat_lt, if◌then◌else◌}
use Rattle.machine_isa.specs.Bytes.{arity}
use Rattle.image.specs.declared.names.ConditionName.{ConditionName}
use Rattle.asm_lines.specs.Instrs.{number_of}
use Rattle.text_fields.specs.Front.{begins}
use Rattle.asm_law.specs.Layout as l
use Rattle.asm_law.specs.Layout.{Layout, finish, done}
use Rattle.asm_law.proofs.Counting.{feeds, Asks, IsNext, Clean}

abbrev Next : Layout → Type 0
Next l = IsNext l × Clean l

abbrev Begins : Layout → Type 0
Begins l = Asks l × Clean l

next : (k : Layout) → Begins k → Next k
next k c = (inr c.0, c.1)

a_field : (label : List ℕ) (low high : ℕ) (k : ℕ → Layout) → feeds label ≡ 0 → ((n : ℕ) → Clean (k n)) → Clean (l.field label low high k)
unfolding l.field
a_field label low high k plain each = (plain, λ n h. each (l.kept low high n))

-- ---- the head, devices, events, monitors and conditions

a_head : (k : List ℕ → Layout) → ((x : List ℕ) → Next (k x)) → Clean (l.head k)
a_head k each = (refl, λ x h. a_field _ _ _ _ refl (λ over. each x))

a_device : (taken : List (List ℕ)) (k : List ℕ → Layout) → ((x : List ℕ) → Next (k x)) → Clean (l.device taken k)
a_device taken k each = (refl, λ x h. ((refl, each x), (refl, each x)))

an_event : (taken : List (List ℕ)) (k : List ℕ → Layout) → ((x : List ℕ) → Next (k x)) → Clean (l.an_event taken k)
an_event taken k each = (refl, λ x h. each x)

a_below : (o : Option ℕ) (k : Layout) → Clean k → Clean (l.below_none o k)
a_below None k c = tt
a_below (Some n) k c = by (nat_lt n 65535) where
  by : (b : Bool) → Clean (if b then k else l.none)
  by true = c
  by false = tt

a_monitor : (taken : List (List ℕ)) (k : List ℕ → Layout) → ((x : List ℕ) → Next (k x)) → Clean (l.monitor taken k)
a_monitor taken k each = (refl, λ x h. a_field _ _ _ _ refl (λ base. a_field _ _ _ _ refl (λ words. ((refl, each x), (refl, λ n. a_below n (l.ends (k x)) (each x))))))

a_condition : (taken : List (List ℕ)) (monitors : ℕ) (earlier : List ConditionName) (k : ConditionName → Layout) → ((x : ConditionName) → Next (k x)) → Clean (l.condition taken monitors earlier k)
a_condition taken monitors earlier k each = (refl, λ x h. a_field _ _ _ _ refl (λ m there other. each (record { name = x; mon = m })))

-- ---- trees

module _ (sub : Layout → Layout) (inner : (k : Layout) → Clean k → Clean (sub k)) where
  an_arm : (k : Layout) → Clean k → Clean (l.arm sub k)
  an_arm k c = (refl, inner _ (refl, c))

  a_segment : (monitors : ℕ) (k : Layout) → Clean k → Clean (l.segment monitors sub k)
  a_segment monitors k c = (
    a_field _ _ _ _ refl (λ n. c),
    ((refl, an_arm _ (an_arm k c)), (a_field _ _ _ _ refl (λ turns. an_arm k c), (a_field _ _ _ _ refl (λ routine. c), (a_field _ _ _ _ refl (λ m h. an_arm k c), ((refl, c), (refl, c)))))),
  )

some_segments : (one : Layout → Layout) → ((k : Layout) → Clean k → Clean (one k)) → (n : ℕ) (k : Layout) → Clean k → Clean (l.segments one n k)
some_segments one each zero k c = tt
some_segments one each (suc n) k c = (c, (c, each _ (some_segments one each n k c)))

a_tree : (monitors depth : ℕ) (k : Layout) → Clean k → Clean (l.nested monitors depth k)
unfolding l.nested
a_tree monitors zero k c = tt
a_tree monitors (suc depth) k c = λ n. some_segments (l.segment monitors (l.nested monitors depth)) (a_segment (l.nested monitors depth) (a_tree monitors depth) monitors) n k c

a_tree_line : (monitors : ℕ) (k : Layout) → Next k → Clean (l.tree_line monitors k)
a_tree_line monitors k c = (refl, a_tree monitors 130 _ c)

-- ---- routines

a_stay : (kind : ℕ) (k : Layout) → Clean k → Clean (l.stay kind k)
a_stay kind k c = by (kind == 2) where
  by : (b : Bool) → Clean (if b then l.cost (codes " stay ") k else k)
  by true = a_field _ _ _ _ refl (λ n. c)
  by false = c

abbrev costed : (kind : ℕ) → Layout → Layout
costed kind k = l.cost (codes " run ") (l.cost (codes " suspend ") (l.cost (codes " waits ") (l.stay kind (l.ends k))))

behind_owner : (kind : ℕ) (k : Layout) → Next k
    → Clean (l.field (codes " params ") 0 65535 (λ params. l.field (codes " locals ") 0 4096 (λ locals. l.field (codes " result ") 0 1 (λ gives. l.field (codes " start ") 0 4294967295 (λ start. costed kind k)))))
behind_owner kind k c =
    a_field _ _ _ _ refl (λ params. a_field _ _ _ _ refl (λ locals. a_field _ _ _ _ refl (λ gives. a_field _ _ _ _ refl (λ start. a_field _ _ _ _ refl (λ run. a_field _ _ _ _ refl (λ susp. a_field _ _ _ _ refl
    (λ waits. a_stay kind (l.ends k) c)))))))

a_routine : (processes monitors : ℕ) (k : Layout) → Next k → Clean (l.routine processes monitors k)
a_routine processes monitors k c =
    let more : Next (l.tree_line monitors k) = (inr tt, a_tree_line monitors k c) in
    (a_field _ _ _ _ refl (λ n h. behind_owner 1 _ more), (a_field _ _ _ _ refl (λ n h. behind_owner 2 _ more), (refl, behind_owner 0 _ more)))

-- ---- processes

some_more : (most last : ℕ) (k : List ℕ → Layout) → ((xs : List ℕ) → Clean (k xs)) → Clean (l.more most last k)
some_more zero last k each = tt
some_more (suc m) last k each = (each [], a_field _ _ _ _ refl (λ x h. some_more m x (λ xs. k (x ∷ xs)) (λ xs. each (x ∷ xs))))

a_handler : (k : List ℕ → Layout) → ((xs : List ℕ) → Clean (k xs)) → Clean (l.handler k)
a_handler k each = (each [], a_field _ _ _ _ refl (λ address. (tt, λ n. some_more n 0 k each)))

a_room : (k : Layout) → Clean k → Clean (l.room k)
a_room k c = a_field _ _ _ _ refl (λ words. a_field _ _ _ _ refl (λ stack. a_field _ _ _ _ refl (λ locals. a_field _ _ _ _ refl (λ start. c))))

a_time : (k : Layout) → Clean k → Clean (l.time k)
a_time k c =
    a_field _ _ _ _ refl (λ rank. a_field _ _ _ _ refl (λ run. a_field _ _ _ _ refl (λ susp. a_field _ _ _ _ refl (λ waits. a_field _ _ _ _ refl (λ block. a_field _ _ _ _ refl (λ bound. c))))))

a_release : (events : ℕ) (used : List ℕ) (k : List ℕ → Layout) → ((xs : List ℕ) → Clean (k xs)) → Clean (l.release events used k)
a_release events used k each = (
  a_field _ _ _ _ refl (λ e h. a_field _ _ _ _ refl (λ frame. a_field _ _ _ _ refl (λ deadline. each (e ∷ [])))),
  a_field _ _ _ _ refl (λ frame. a_field _ _ _ _ refl (λ deadline. a_field _ _ _ _ refl (λ first. each []))),
)

a_handler_tree : (monitors : ℕ) (numbers : List ℕ) (k : Layout) → Next k → Next (l.handler_tree monitors numbers k)
a_handler_tree monitors [] k c = c
a_handler_tree monitors (x ∷ xs) k c = (inr tt, a_tree_line monitors k c)

a_process : (monitors events : ℕ) (taken : List (List ℕ)) (used : List ℕ) (k : List ℕ × List ℕ → Layout) → ((x : List ℕ × List ℕ) → Next (k x)) → Clean (l.process monitors events taken used k)
a_process monitors events taken used k each = (refl, λ x h. a_release events used (λ e. l.time (l.room (l.handler (behind x e)))) (λ e. a_time (l.room (l.handler (behind x e))) (a_room (l.handler (behind x e)) (a_handler (behind x e) (λ ns. lines x e ns))))) where
  trees : List ℕ → List ℕ → List ℕ → Layout
  trees x e ns = l.tree_line monitors (l.handler_tree monitors ns (k (x, e)))

  behind : List ℕ → List ℕ → List ℕ → Layout
  behind x e ns = l.ends (trees x e ns)

  lines : (x e ns : List ℕ) → Next (trees x e ns)
  lines x e ns = (inr tt, a_tree_line monitors (l.handler_tree monitors ns (k (x, e))) (a_handler_tree monitors ns (k (x, e)) (each (x, e))))

-- ---- instructions

a_negative : (o : Option ℕ) (k : Layout) → Clean k → Clean (l.negative o k)
a_negative None k c = λ h. c
a_negative (Some zero) k c = tt
a_negative (Some (suc n)) k c = λ h. c

an_operand : (b : Bool) (k : Layout) → Clean k → Clean (l.operand_named b k)
an_operand true k c = (refl, ((refl, λ n. a_negative n k c), λ n h. c))
an_operand false k c = c

operands : (o : Option ℕ) (k : Layout) → Next k → Clean (l.operands o k)
operands None k c = tt
operands (Some m) k c = an_operand (nat_le 1 (arity m)) _ (an_operand (nat_le 2 (arity m)) _ (an_operand (nat_le 3 (arity m)) _ c))

an_instruction : (k : Layout) → Next k → Clean (l.instruction k)
an_instruction k c x = operands (number_of x) k c

-- ---- rows

some_rows : {B : Type 0} (start : List ℕ) (one : List B → (B → Layout) → Layout) (line : List B → Layout) → begins start [] ≡ false
    → ((xs : List B) (k : B → Layout) → ((x : B) → Next (k x)) → Clean (one xs k)) → (earlier : List B) (n : ℕ) (k : List B → Layout) → ((xs : List B) → Begins (k xs)) → Begins (l.rows start one line earlier n k)
unfolding l.rows
some_rows start one line some clean earlier zero k each = ((some, (each earlier).0), (λ h. absurd (h 4 refl), (each earlier).1))
some_rows start one line some clean earlier (suc n) k each = (
  (some, (each earlier).0),
  (
    clean earlier (λ x. l.rows start one line (earlier ++ x ∷ []) n k) (λ x. next (l.rows start one line (earlier ++ x ∷ []) n k) (some_rows start one line some clean (earlier ++ x ∷ []) n k each)),
    (each earlier).1,
  ),
)

some_code : (n : ℕ) (k : Layout) → Clean k → Begins (l.instructions n k)
unfolding l.instructions
some_code zero k c = ((refl, tt), (c, λ h. absurd (h 4 refl)))
some_code (suc n) k c = ((refl, tt), (c, an_instruction (l.instructions n k) (next (l.instructions n k) (some_code n k c))))

a_code : (complete : Bool) (k : Layout) → Clean k → Begins (l.code complete k)
a_code true k c = some_code 65535 k c
a_code false k c = ((refl, tt), (λ h. absurd (h 4 refl), λ h. absurd (h 4 refl)))

-- ---- the whole

work : (owners monitors events : ℕ) (taken : List (List ℕ)) (k : Layout) → Clean k → Begins (l.work owners monitors events taken k)
work owners monitors events taken k c =
    some_rows {B = ℕ} (codes "routine ") (λ earlier m. l.routine owners monitors (m 0)) (λ earlier. l.routine_line owners monitors done) refl (λ earlier m each. a_routine owners monitors (m 0) (each 0)) [] 512
    (λ all. l.processes monitors events taken (λ ps. l.code (l.is_complete events ps) k))
    (λ all. some_rows (codes "process ") (λ earlier m. l.process monitors events (taken ++ map (λ p. p.0) earlier) (flat_map (λ p. p.1) earlier) m)
    (λ earlier. l.process_line events (taken ++ map (λ p. p.0) earlier) (flat_map (λ p. p.1) earlier) (λ x. done)) refl
    (λ earlier m each. a_process monitors events (taken ++ map (λ p. p.0) earlier) (flat_map (λ p. p.1) earlier) m each) [] 64 (λ ps. l.code (l.is_complete events ps) k) (λ ps. a_code (l.is_complete events ps) k c))

guarded : (owners events : ℕ) (taken : List (List ℕ)) (k : Layout) → Clean k → Begins (l.guarded owners events taken k)
guarded owners events taken k c =
    some_rows (codes "monitor ") (λ earlier. l.monitor (taken ++ earlier)) (λ earlier. l.monitor (taken ++ earlier) (λ x. done)) refl (λ earlier m each. a_monitor (taken ++ earlier) m each) [] 64
    (λ ms. l.conditions (taken ++ ms) (length ms) (λ all. l.work owners (length ms) events (taken ++ ms) k))
    (λ ms. some_rows (codes "condition ") (l.condition (taken ++ ms) (length ms)) (λ earlier. l.condition (taken ++ ms) (length ms) earlier (λ x. done)) refl (λ earlier m each. a_condition (taken ++ ms) (length ms) earlier m each) [] 256
    (λ all. l.work owners (length ms) events (taken ++ ms) k) (λ all. work owners (length ms) events (taken ++ ms) k c))

named : (owners : ℕ) (program : List ℕ) (k : Layout) → Clean k → Begins (l.named owners program k)
named owners program k c =
    some_rows (codes "device ") (λ earlier. l.device ((program ∷ []) ++ earlier)) (λ earlier. l.device ((program ∷ []) ++ earlier) (λ x. done)) refl (λ earlier m each. a_device ((program ∷ []) ++ earlier) m each) [] 64
    (λ ds. l.events ((program ∷ []) ++ ds) (λ es. l.guarded owners (length es) (((program ∷ []) ++ ds) ++ es) k))
    (λ ds. some_rows (codes "event ") (λ earlier. l.an_event (((program ∷ []) ++ ds) ++ earlier)) (λ earlier. l.an_event (((program ∷ []) ++ ds) ++ earlier) (λ x. done)) refl
    (λ earlier m each. an_event (((program ∷ []) ++ ds) ++ earlier) m each) [] 64 (λ es. l.guarded owners (length es) (((program ∷ []) ++ ds) ++ es) k) (λ es. guarded owners (length es) (((program ∷ []) ++ ds) ++ es) k c))

pub a_text_is_clean : (owners : ℕ) → Clean (l.text owners)
a_text_is_clean owners = a_head (λ program. l.named owners program l.last) (λ program. next (l.named owners program l.last) (named owners program l.last (refl, (inl refl, tt))))

pub a_text_asks : (owners : ℕ) → IsNext (l.text owners)
a_text_asks owners = inr refl
