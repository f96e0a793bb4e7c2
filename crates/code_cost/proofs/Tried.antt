-- The examples, computed.
use Rattle.std.proofs.Common.{◌≡◌, ◌≤◌, ◌<◌, ◌+◌, ◌*◌, ◌⊎◌, ℕ, zero, suc, [], ◌∷◌, Some, None, refl, ap, sym, subst, ◌∙◌, inl, inr, arith}
use Rattle.std.specs.Prelude.{Contains, slice_get, slice_index_or}
use Rattle.base.proofs.Members.{none_in}
use Rattle.syntax_tree.specs.Placed.{Prog, Process, plain, plain_stmts, plain_routine, plain_process}
use Rattle.syntax_tree.specs.Parts.{processes}
use Rattle.syntax_tree.specs.Plain as plain_of
use Rattle.syntax_tree.specs.declared.place.Place.{Place}
use Rattle.static_rule.specs.First.{Before, IsFirstOf}
use Rattle.code_spec.specs.Layout.{Owner, by_program, by_process, loops}
use Rattle.code_spec.specs.Numbering.{numbered, visit}
use Rattle.code_cost_spec.specs.Names.{Names, Calls}
use Rattle.code_cost_spec.specs.Heights.{stmts_height}
use Rattle.code_cost_spec.specs.Lengths.{stmts_length}
use Rattle.code_cost_spec.specs.Levels.{process_names, calls_at, calls_of, stack_of_process, code_length}
use Rattle.code_cost.specs.Rules.{PlacedText, placed_texts_from, routine_stack, RoutineTooLarge, ProcessTooLarge, SizeFails}
use Rattle.code_cost.specs.Example.{at, array_routine, array_process, with_array, puts, puts_process, with_puts, RulesOfSizeAreTried}

-- ---- lists of one

only : {X : Type 0} (x y : X) → Contains (x ∷ []) y → x ≡ y
only x y c = by c.0 c.1 c.2
  where
    by : (k : ℕ) → k < 1 → slice_index_or (x ∷ []) k y ≡ y → x ≡ y
    by zero below is = is
    by (suc k) below is = absurd (omega arith)

alone : {X : Type 0} (x y : X) (k : ℕ) → slice_get (x ∷ []) k ≡ Some y → (k ≡ 0) × (x ≡ y)
alone x y zero e = (refl, cc)
alone x y (suc k) e = absurd (none e)
  where
    none : None ≡ Some y → ⊥
    none h = cc

-- ---- where no rule fails

none : (g : Prog Place) → ¬ (65535 < code_length (plain g))
    → ((t : PlacedText) → Contains (placed_texts_from 0 0 g.decls) t → ¬ (4096 < routine_stack (plain g) t.owner (plain_routine t.routine)))
    → ((k : ℕ) (p : Process Place) → slice_get (processes g.decls) k ≡ Some p → ¬ (4096 < stack_of_process (plain g) k (plain_process p)))
    → IsFirstOf (SizeFails g) None
none g code texts procs n p (inl f) = code f.1.over
none g code texts procs n p (inr f) = by f.1
  where
    by : RoutineTooLarge g p ⊎ ProcessTooLarge g p → ⊥
    by (inl r) = texts r.text r.listed r.over
    by (inr r) = procs r.number r.text r.listed r.over

-- ---- an array

array_code : (last : ℕ) → code_length (plain (with_array last)) ≡ 3
unfolding numbered visit
array_code last = refl

not_long : (last : ℕ) → ¬ (65535 < code_length (plain (with_array last)))
not_long last h = let e = array_code last in omega arith

-- what stands no earlier is not before
not_before : (m : ℕ) (p : Place) (n c : ℕ) → n ≤ m → p.line ≡ 1 → c ≤ p.col → ¬ Before m p n (at c)
not_before m p n c number line col (inl h) = omega arith
not_before m p n c number line col (inr (inl h)) = let e = h.1 in omega arith
not_before m p n c number line col (inr (inr h)) = let e = h.1 in omega arith

-- only f and p stand there
array_text : (last : ℕ) (P : PlacedText → Type 0) → P (record { owner = by_program; routine = array_routine last }) → (t : PlacedText) → Contains (placed_texts_from 0 0 (with_array last).decls) t → P t
array_text last P h t c = subst P (only (record { owner = by_program; routine = array_routine last }) t c) h

array_one : (last : ℕ) (P : ℕ → Process Place → Type 0) → P 0 array_process → (k : ℕ) (p : Process Place) → slice_get (processes (with_array last).decls) k ≡ Some p → P k p
array_one last P h k p e =
    let found = alone array_process p k e in
    subst (λ q. P k q) found.1 (subst (λ j. P j array_process) (sym found.0) h)

routine_takes : (routine_stack (plain (with_array 4094)) by_program (plain_routine (array_routine 4094)) ≡ 4094)
    × (routine_stack (plain (with_array 4095)) by_program (plain_routine (array_routine 4095)) ≡ 4095)
    × (routine_stack (plain (with_array 4097)) by_program (plain_routine (array_routine 4097)) ≡ 4097)
unfolding calls_at
routine_takes = (refl, refl, refl)

process_takes : (stack_of_process (plain (with_array 4094)) 0 (plain_process array_process) ≡ 4096)
    × (stack_of_process (plain (with_array 4095)) 0 (plain_process array_process) ≡ 4097)
unfolding calls_at
process_takes = (refl, refl)

array_within : IsFirstOf (SizeFails (with_array 4094)) None
array_within =
    none (with_array 4094) (not_long 4094)
    (array_text 4094 (λ t. ¬ (4096 < routine_stack (plain (with_array 4094)) t.owner (plain_routine t.routine))) (λ h. let e = routine_takes.0 in omega arith))
    (array_one 4094 (λ k p. ¬ (4096 < stack_of_process (plain (with_array 4094)) k (plain_process p))) (λ h. let e = process_takes.0 in omega arith))

array_process_over : IsFirstOf (SizeFails (with_array 4095)) (Some (record { number = 47; place = at 76 }))
array_process_over = record {
  broken = inr (refl, inr (record { number = 0; text = array_process; listed = refl; is = refl; over = let e = process_takes.1 in omega arith }));
  none_before = before;
}
  where
    one : (m : ℕ) (p : Place) → m ≡ 47 → RoutineTooLarge (with_array 4095) p ⊎ ProcessTooLarge (with_array 4095) p → ¬ Before m p 47 (at 76)
    one m p n (inl r) =
        absurd (array_text 4095 (λ t. ¬ (4096 < routine_stack (plain (with_array 4095)) t.owner (plain_routine t.routine))) (λ h. let e = routine_takes.1 in omega arith) r.text r.listed r.over)
    one m p n (inr r) =
        let at_place = array_one 4095 (λ k q. q.place ≡ at 76) refl r.number r.text r.listed in
        let is = sym r.is ∙ at_place in
        not_before m p 47 76 (omega arith) (ap (λ q. q.line) is) (let c : p.col ≡ 76 = ap (λ q. q.col) is in omega arith)

    before : (m : ℕ) (p : Place) → SizeFails (with_array 4095) m p → ¬ Before m p 47 (at 76)
    before m p (inl f) = absurd (not_long 4095 f.1.over)
    before m p (inr f) = one m p f.0 f.1

array_routine_over : IsFirstOf (SizeFails (with_array 4097)) (Some (record { number = 47; place = at 21 }))
array_routine_over = record {
  broken = inr (refl, inl (record { text = record { owner = by_program; routine = array_routine 4097 }; listed = (0, omega arith, refl); is = refl; over = let e = routine_takes.2 in omega arith }));
  none_before = before;
}
  where
    one : (m : ℕ) (p : Place) → m ≡ 47 → RoutineTooLarge (with_array 4097) p ⊎ ProcessTooLarge (with_array 4097) p → ¬ Before m p 47 (at 21)
    one m p n (inl r) =
        let at_place = array_text 4097 (λ t. t.routine.place ≡ at 21) refl r.text r.listed in
        let is = sym r.is ∙ at_place in
        not_before m p 47 21 (omega arith) (ap (λ q. q.line) is) (let c : p.col ≡ 21 = ap (λ q. q.col) is in omega arith)
    one m p n (inr r) =
        let at_place = array_one 4097 (λ k q. q.place ≡ at 76) refl r.number r.text r.listed in
        let is = sym r.is ∙ at_place in
        not_before m p 47 21 (omega arith) (ap (λ q. q.line) is) (let c : p.col ≡ 76 = ap (λ q. q.col) is in omega arith)

    before : (m : ℕ) (p : Place) → SizeFails (with_array 4097) m p → ¬ Before m p 47 (at 21)
    before m p (inl f) = absurd (not_long 4097 f.1.over)
    before m p (inr f) = one m p f.0 f.1

-- ---- puts

puts_length : (g : plain_of.Program) (n : Names) (times c : ℕ) → stmts_length g n (plain_stmts (puts times c)) ≡ 2 * times
puts_length g n zero c = refl
puts_length g n (suc k) c = let e = puts_length g n k (8 + c) in omega arith

puts_loops : (times c : ℕ) → loops (plain_stmts (puts times c)) ≡ 0
puts_loops zero c = refl
puts_loops (suc k) c = let e = puts_loops k (8 + c) in omega arith

puts_height : (g : plain_of.Program) (o : Owner) (k : Calls) (times c : ℕ) → stmts_height g o k (plain_stmts (puts times c)) ≤ 1
puts_height g o k zero c = omega arith
puts_height g o k (suc n) c = let e = puts_height g o k n (8 + c) in omega arith

puts_code : (n : ℕ) → code_length (plain (with_puts n)) ≡ 2 * n + 1
unfolding numbered visit
puts_code n = let e = puts_length (plain (with_puts n)) (process_names (plain (with_puts n)) 0 (plain_process (puts_process n))) n 62 in omega arith

puts_stack : (n : ℕ) → stack_of_process (plain (with_puts n)) 0 (plain_process (puts_process n)) ≤ 1
puts_stack n =
    let g = plain (with_puts n) in
    let e = puts_loops n 62 in
    let h = puts_height g (by_process 0) (calls_of g) n 62 in
    omega arith

puts_text : (n : ℕ) (t : PlacedText) → Contains (placed_texts_from 0 0 (with_puts n).decls) t → ⊥
puts_text n t c = none_in t c

puts_one : (n k : ℕ) (p : Process Place) → slice_get (processes (with_puts n).decls) k ≡ Some p → ¬ (4096 < stack_of_process (plain (with_puts n)) k (plain_process p))
puts_one n k p e over =
    let found = alone (puts_process n) p k e in
    let P : ℕ → Process Place → Type 0 = λ j q. ¬ (4096 < stack_of_process (plain (with_puts n)) j (plain_process q)) in
    let start : P 0 (puts_process n) = λ h. let few = puts_stack n in omega arith in
    let here : P k p = subst (λ q. P k q) found.1 (subst (λ j. P j (puts_process n)) (sym found.0) start) in
    here over

puts_within : (n : ℕ) → n ≤ 32767 → IsFirstOf (SizeFails (with_puts n)) None
puts_within n few = none (with_puts n) (λ h. let e = puts_code n in omega arith) (λ t c h. puts_text n t c) (puts_one n)

puts_over : (n : ℕ) → 32767 < n → IsFirstOf (SizeFails (with_puts n)) (Some (record { number = 46; place = at 9 }))
puts_over n many = record {
  broken = inl (refl, record { is = refl; over = let e = puts_code n in omega arith });
  none_before = before;
}
  where
    one : (m : ℕ) (p : Place) → RoutineTooLarge (with_puts n) p ⊎ ProcessTooLarge (with_puts n) p → ⊥
    one m p (inl r) = puts_text n r.text r.listed
    one m p (inr r) = puts_one n r.number r.text r.listed r.over

    before : (m : ℕ) (p : Place) → SizeFails (with_puts n) m p → ¬ Before m p 46 (at 9)
    before m p (inl f) =
        let is = sym f.1.is in
        let number = f.0 in
        not_before m p 46 9 (omega arith) (ap (λ q. q.line) is) (let c : p.col ≡ 9 = ap (λ q. q.col) is in omega arith)
    before m p (inr f) = absurd (one m p f.1)

pub rules_are_tried : RulesOfSizeAreTried
rules_are_tried = record { routine_over = array_routine_over; process_over = array_process_over; within = array_within; code_within = puts_within; code_over = puts_over }
