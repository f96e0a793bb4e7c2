-- What is made of statements.
use Rattle.std.proofs.Common.{◌≡◌, ◌+◌, ◌-◌, ℕ, zero, suc, ℤ, pos, negsuc, Bool, true, false, cond, List, length, Option, Some, None, arith, refl}
use Rattle.std.specs.Prelude.{slice_get, int_lt}
use Rattle.syntax_tree.specs.Plain.{Name, Constant, Stmt, assign, assign_entry, assign_empty, perform, perform_entry, when, when_else, loop, exit_when, get, put, wait, signal, broadcast, except, assert, Stmts, no_stmts, stmts, Program}
use Rattle.source_semantics.specs.Names.{constant_value, count_value, device_number}
use Rattle.machine_isa.specs.declared.instr.Instr.{Instr}
use Rattle.machine_isa.specs.declared.instr.Instr.TheVariants as i
use Rattle.machine_isa.specs.Bytes.{HasWords}
use Rattle.image_format.specs.declared.seg.Seg.{Seg}
use Rattle.code_spec.specs.Layout.{Scope}
use Rattle.code_spec.specs.Numbering.{entry_in, routine_in}
use Rattle.code_spec.specs.Emits.{condition_of, monitor_of}
use Rattle.codegen_spec.specs.Told.{fit, told_callee, within}
use Rattle.codegen_spec.specs.Made.{Out, push, closed, patched, expr_out, args_out, index_out, aimed, aim_one, aims, aim, open_exit, one_arm, between, two_arms, choice, counting, worth, turns_between, turning, stepped, looped, condition_told, count_told, waiting, asserting, call_out, stmt_out, stmts_out}
use Rattle.replay_law.proofs.Codes.{IsWord, Each, Good, one, none, low_word, fit_word, set_each, get_each, push_good, call_good, callee_is, expr_good, args_good, index_good, put_good, store_good}

-- ---- exits

either_word : (b : Bool) (x y : ℤ) → IsWord x → IsWord y → IsWord (cond b x y)
either_word true x y p q = p
either_word false x y p q = q

aimed_words : (to : ℤ) (j : Instr) → IsWord to → HasWords j → HasWords (aimed to j)
aimed_words to (i.Exit t) word has = one (cond (int_lt t (pos 0)) to t) (either_word (int_lt t (pos 0)) to t word has.0)
aimed_words to (i.Push value) word has = has
aimed_words to (i.LoadLocal w) word has = has
aimed_words to (i.StoreLocal w) word has = has
aimed_words to (i.LoadOwn w) word has = has
aimed_words to (i.StoreOwn w) word has = has
aimed_words to (i.LoadMon w) word has = has
aimed_words to (i.StoreMon w) word has = has
aimed_words to (i.LoadLocalAt w low len) word has = has
aimed_words to (i.StoreLocalAt w low len) word has = has
aimed_words to (i.LoadOwnAt w low len) word has = has
aimed_words to (i.StoreOwnAt w low len) word has = has
aimed_words to (i.LoadMonAt w low len) word has = has
aimed_words to (i.StoreMonAt w low len) word has = has
aimed_words to i.Neg word has = has
aimed_words to i.Not word has = has
aimed_words to i.And word has = has
aimed_words to i.Or word has = has
aimed_words to i.Add word has = has
aimed_words to i.Sub word has = has
aimed_words to i.Eq word has = has
aimed_words to i.Ne word has = has
aimed_words to i.Lt word has = has
aimed_words to i.Le word has = has
aimed_words to i.Gt word has = has
aimed_words to i.Ge word has = has
aimed_words to i.Mul word has = has
aimed_words to i.Div word has = has
aimed_words to i.Mod word has = has
aimed_words to (i.Range low high) word has = has
aimed_words to (i.JumpZero t) word has = has
aimed_words to (i.Jump t) word has = has
aimed_words to (i.Repeats n) word has = has
aimed_words to (i.Repeat t) word has = has
aimed_words to (i.Call r) word has = has
aimed_words to i.Return word has = has
aimed_words to i.ReturnValue word has = has
aimed_words to (i.Enter m) word has = has
aimed_words to (i.Leave m) word has = has
aimed_words to (i.Wait c limit number) word has = has
aimed_words to (i.Reenter m) word has = has
aimed_words to (i.Signal c) word has = has
aimed_words to (i.Broadcast c) word has = has
aimed_words to (i.Empty c) word has = has
aimed_words to (i.In d) word has = has
aimed_words to (i.Out d) word has = has
aimed_words to (i.Raise n) word has = has
aimed_words to i.End word has = has

aim_one_each : (to : ℤ) (p : ℕ) (code : List Instr) → IsWord to → Each code → Each (aim_one to p (slice_get code p) code)
aim_one_each to p code word each = by (slice_get code p) refl where
  by : (j : Option Instr) → slice_get code p ≡ j → Each (aim_one to p j code)
  by None at = each
  by (Some j) at = set_each code p (aimed to j) (aimed_words to j word (get_each code p j each at)) each

aims_each : (to : ℤ) (p n : ℕ) (code : List Instr) → IsWord to → Each code → Each (aims to p n code)
aims_each to p zero code word each = each
aims_each to p (suc n) code word each = aims_each to (p + 1) n (aim_one to p (slice_get code p) code) word (aim_one_each to p code word each)

aim_good : (p : ℕ) (o : Out) → Good o → Good (aim p o)
aim_good p o good = aims_each (fit (pos (length o.code))) p (length o.code - p) o.code (fit_word (pos (length o.code))) good

-- ---- choices and loops

at_word : (n : ℕ) → IsWord (fit (pos n))
at_word n = fit_word (pos n)

worth_word : (g : Program) (c : Constant) → IsWord (worth g c)
worth_word g c = fit_word (constant_value g c)

count_word : (g : Program) (c : Constant) → IsWord (count_told g c)
count_word g c = fit_word (pos (count_value g c))

condition_word : (g : Program) (c : Scope) (x : Name) → IsWord (condition_told g c x)
condition_word g c x = fit_word (pos (condition_of g c.owner x))

patched_good : (o : Out) (p : ℕ) (j : Instr) → Good o → HasWords j → Good (patched o p j)
patched_good o p j good has = set_each o.code p j has good

one_arm_good : (at : ℕ) (before : List Seg) (first : Out) → Good first → Good (one_arm at before first)
one_arm_good at before first good =
    patched_good (push first (i.Jump (fit (pos (length first.code + 1))))) at (i.JumpZero (fit (pos (length first.code + 1))))
    (push_good first (i.Jump (fit (pos (length first.code + 1)))) good (one (fit (pos (length first.code + 1))) (at_word (length first.code + 1))))
    (one (fit (pos (length first.code + 1))) (at_word (length first.code + 1)))

between_good : (at : ℕ) (first : Out) → Good first → Good (between at first)
between_good at first good =
    patched_good (push first (i.Jump (pos 0))) at (i.JumpZero (fit (pos (length first.code + 1)))) (push_good first (i.Jump (pos 0)) good none)
    (one (fit (pos (length first.code + 1))) (at_word (length first.code + 1)))

two_arms_good : (mid : ℕ) (before : List Seg) (first second : Out) → Good second → Good (two_arms mid before first second)
two_arms_good mid before first second good =
    patched_good second mid (i.Jump (fit (pos (length second.code)))) good (one (fit (pos (length second.code))) (at_word (length second.code)))

choice_good : (o : Out) → Good o → Good (choice o)
choice_good o good = push_good o (i.JumpZero (pos 0)) good none

counting_good : (low : ℤ) (o : Out) → IsWord low → Good o → Good (counting low o)
counting_good low o word good =
    push_good (push o (i.Push low)) (i.StoreLocal (fit (pos o.word))) (push_good o (i.Push low) good (one low word)) (one (fit (pos o.word)) (at_word o.word))

turning_good : (n : ℕ) (o : Out) → Good o → Good (turning n o)
turning_good n o good = push_good o (i.Repeats (fit (pos n))) good (one (fit (pos n)) (at_word n))

stepped_good : (w : ℤ) (o : Out) → IsWord w → Good o → Good (stepped w o)
stepped_good w o word good =
    push_good (push (push (push o (i.LoadLocal w)) (i.Push (pos 1))) i.Add) (i.StoreLocal w)
    (push_good (push (push o (i.LoadLocal w)) (i.Push (pos 1))) i.Add
    (push_good (push o (i.LoadLocal w)) (i.Push (pos 1)) (push_good o (i.LoadLocal w) good (one w word)) (one (pos 1) (low_word 1 (omega arith)))) none)
    (one w word)

looped_good : (n start : ℕ) (before : List Seg) (body : Out) → Good body → Good (looped n start before body)
looped_good n start before body good =
    aim_good start (push body (i.Repeat (fit (pos start)))) (push_good body (i.Repeat (fit (pos start))) good (one (fit (pos start)) (at_word start)))

waiting_good : (x limit number : ℤ) (m : ℕ) (o : Out) → IsWord x → IsWord limit → IsWord number → Good o → Good (waiting x limit number m o)
waiting_good x limit number m o a b c good =
    push_good (push o (i.Wait x limit number)) (i.Reenter (fit (pos m))) (push_good o (i.Wait x limit number) good (a, (b, (c, tt)))) (one (fit (pos m)) (at_word m))

asserting_good : (o : Out) → Good o → Good (asserting o)
asserting_good o good =
    push_good (push (push o (i.JumpZero (fit (pos (length o.code + 2))))) (i.Jump (fit (pos (length o.code + 3))))) (i.Raise (pos 4))
    (push_good (push o (i.JumpZero (fit (pos (length o.code + 2))))) (i.Jump (fit (pos (length o.code + 3))))
    (push_good o (i.JumpZero (fit (pos (length o.code + 2)))) good (one (fit (pos (length o.code + 2))) (at_word (length o.code + 2))))
    (one (fit (pos (length o.code + 3))) (at_word (length o.code + 3))))
    (one (pos 4) (low_word 4 (omega arith)))

-- ---- statements

mutual
  pub stmt_good : (g : Program) (c : Scope) (s : Stmt) (o : Out) → Good o → Good (stmt_out g c s o)
  stmt_good g c (assign r e) o good = put_good g c r (expr_out g c e (index_out g c r o)) (expr_good g c e (index_out g c r o) (index_good g c r o good))
  stmt_good g c (put d e) o good =
      push_good (expr_out g c e o) (i.Out (fit (pos (device_number g d)))) (expr_good g c e o good) (one (fit (pos (device_number g d))) (at_word (device_number g d)))
  stmt_good g c (when e a) o good =
      one_arm_good (length (expr_out g c e o).code) (closed (expr_out g c e o)) (stmts_out g c a (choice (expr_out g c e o)))
      (stmts_good g c a (choice (expr_out g c e o)) (choice_good (expr_out g c e o) (expr_good g c e o good)))
  stmt_good g c (when_else e a b) o good =
      two_arms_good (length (stmts_out g c a (choice (expr_out g c e o))).code) (closed (expr_out g c e o))
      (stmts_out g c a (choice (expr_out g c e o)))
      (stmts_out g c b (between (length (expr_out g c e o).code) (stmts_out g c a (choice (expr_out g c e o)))))
      (stmts_good g c b (between (length (expr_out g c e o).code) (stmts_out g c a (choice (expr_out g c e o))))
      (between_good (length (expr_out g c e o).code) (stmts_out g c a (choice (expr_out g c e o)))
      (stmts_good g c a (choice (expr_out g c e o)) (choice_good (expr_out g c e o) (expr_good g c e o good)))))
  stmt_good g c (loop x low high ss) o good =
      let begins : Good (counting (worth g low) o) = counting_good (worth g low) o (worth_word g low) good in
      let turns : Good (turning (turns_between g low high) (counting (worth g low) o)) = turning_good (turns_between g low high) (counting (worth g low) o) begins in
      looped_good (turns_between g low high) (length (turning (turns_between g low high) (counting (worth g low) o)).code) (closed (counting (worth g low) o))
      (stepped (fit (pos o.word)) (stmts_out g (within c x o.word) ss (turning (turns_between g low high) (counting (worth g low) o))))
      (stepped_good (fit (pos o.word)) (stmts_out g (within c x o.word) ss (turning (turns_between g low high) (counting (worth g low) o))) (at_word o.word)
      (stmts_good g (within c x o.word) ss (turning (turns_between g low high) (counting (worth g low) o)) turns))
  stmt_good g c (exit_when e) o good = push_good (expr_out g c e o) open_exit (expr_good g c e o good) (one (negsuc 0) (record { sfits = omega arith }))
  stmt_good g c (assign_entry r m e es) o good =
      put_good g c r (call_out (told_callee g (entry_in g m e)) (λ rs. args_out g c es rs (index_out g c r o)) (index_out g c r o))
      (call_good (told_callee g (entry_in g m e)) (λ rs. args_out g c es rs (index_out g c r o)) (index_out g c r o) (callee_is g (entry_in g m e))
      (λ rs are. args_good g c es rs (index_out g c r o) are (index_good g c r o good)) (index_good g c r o good))
  stmt_good g c (assign_empty r x) o good =
      store_good g c r (push (index_out g c r o) (i.Empty (condition_told g c x)))
      (push_good (index_out g c r o) (i.Empty (condition_told g c x)) (index_good g c r o good) (one (condition_told g c x) (condition_word g c x)))
  stmt_good g c (perform f es) o good =
      call_good (told_callee g (routine_in g c.owner f)) (λ rs. args_out g c es rs o) o (callee_is g (routine_in g c.owner f)) (λ rs are. args_good g c es rs o are good) good
  stmt_good g c (perform_entry m e es) o good =
      call_good (told_callee g (entry_in g m e)) (λ rs. args_out g c es rs o) o (callee_is g (entry_in g m e)) (λ rs are. args_good g c es rs o are good) good
  stmt_good g c (get d r) o good =
      put_good g c r (push (index_out g c r o) (i.In (fit (pos (device_number g d)))))
      (push_good (index_out g c r o) (i.In (fit (pos (device_number g d)))) (index_good g c r o good) (one (fit (pos (device_number g d))) (at_word (device_number g d))))
  stmt_good g c (wait x limit number) o good =
      waiting_good (condition_told g c x) (count_told g limit) (count_told g number) (monitor_of c.owner) o (condition_word g c x) (count_word g limit) (count_word g number) good
  stmt_good g c (signal x) o good = push_good o (i.Signal (condition_told g c x)) good (one (condition_told g c x) (condition_word g c x))
  stmt_good g c (broadcast x) o good = push_good o (i.Broadcast (condition_told g c x)) good (one (condition_told g c x) (condition_word g c x))
  stmt_good g c (except n) o good = push_good o (i.Raise (count_told g n)) good (one (count_told g n) (count_word g n))
  stmt_good g c (assert e) o good = asserting_good (expr_out g c e o) (expr_good g c e o good)

  pub stmts_good : (g : Program) (c : Scope) (ss : Stmts) (o : Out) → Good o → Good (stmts_out g c ss o)
  stmts_good g c no_stmts o good = good
  stmts_good g c (stmts s ss) o good = stmts_good g c ss (stmt_out g c s o) (stmt_good g c s o good)
