-- The code that the generator makes of choices, of loops and of lists of statements.
use Rattle.std.proofs.Common.{◌≡◌, Bool, true, false, ◌+◌, ◌-◌, ◌≤◌, min, ℕ, suc, ℤ, pos, List, [], ◌∷◌, ◌++◌, map, length, slice_set, Option, refl, sym, ap, subst, ◌∙◌, append_assoc, append-nil, arith}
use Rattle.std.proofs.lemmas.List.{map-append, length-append, length-map}
use Rattle.syntax_tree.specs.Plain.{Name, Expr, Exprs, Stmt, assign, assign_entry, assign_empty, perform, perform_entry, when, when_else, loop, exit_when, get, put, wait, signal, broadcast, except, assert, Stmts, no_stmts, stmts, Constant, Program}
use Rattle.source_semantics.specs.Names.{constant_value, count_value, device_number}
use Rattle.machine_isa.specs.declared.instr.Instr.{Instr}
use Rattle.machine_isa.specs.declared.instr.Instr.TheVariants as i
use Rattle.code_spec.specs.Layout.{Scope, loops_in, loops}
use Rattle.code_spec.specs.Numbering.{Text, routine_in, entry_in}
use Rattle.code_spec.specs.Code.{code_of, args_code, call_code, index_code, store_code, put_code}
use Rattle.code_spec.specs.Emits.{Has, At, turns_of, condition_of, monitor_of, Emits, EmitsAll}
use Rattle.codegen_spec.specs.Told.{fit, told_callee, within}
use Rattle.codegen_spec.specs.Made.{Out, push, aimed, aims, call_out, args_out, index_out, store_out, put_out, condition_told, count_told, choice, between, turning, counting, stepped, expr_out, stmt_out, stmts_out, looped, closed}
use Rattle.codegen_law.specs.MadeRightFits.{Fit, CallFits, ArgsFit, StmtFits, StmtsFit}
use Rattle.codegen_law.proofs.Lists.{set_at, has_rest, aims_all}
use Rattle.codegen_law.proofs.Twice.{all_twice}
use Rattle.codegen_law.proofs.Expressions.{still_more, aiming, exit_of, to_of, LineMade, one_made, both_made, call_made, ExprMade, expr_made, args_made}
use Rattle.codegen_law.proofs.Statements.{fit_small, StmtMade, StmtsMade, store_made, put_made, index_made, line_made, assert_made, exit_made}
use Rattle.code_measures.proofs.Lines.{has_first}

-- the jump of a choice is patched when the arm behind it is there
armed : (pre ca : List Instr) (begun jump done : Instr) → slice_set (((pre ++ begun ∷ []) ++ ca) ++ jump ∷ []) (length pre) done ≡ pre ++ done ∷ (ca ++ jump ∷ [])
armed pre ca begun jump done =
    ap (λ z. slice_set z (length pre) done) (append_assoc (pre ++ begun ∷ []) ca (jump ∷ []) ∙ append_assoc pre (begun ∷ []) (ca ++ jump ∷ []))
    ∙ set_at pre begun done (ca ++ jump ∷ [])

-- the instruction behind one arm, whose address is given by the code so far
abbrev arm_end : List Instr → ℕ → List Instr
arm_end z at = slice_set (z ++ i.Jump (fit (pos (length z + 1))) ∷ []) at (i.JumpZero (fit (pos (length z + 1))))

when_made : (g : Program) (c : Scope) (e : Expr) (a : Stmts) (b : Bool) (p w : ℕ) (m : ExprMade g c e) → StmtsMade g c a b (p + length m.code + 1) w → StmtMade g c (when e a) b p w
when_made g c e a b p w m n =
    let mid : ℕ = p + length m.code + 1 + length n.code in
    let j : Instr = i.Jump (fit (pos (mid + 1))) in
    let z : Instr = i.JumpZero (fit (pos (mid + 1))) in
    record {
      code = m.code ++ z ∷ (n.code ++ j ∷ []);
      made = λ o long at.
          let pre : List Instr = (expr_out g c e o).code in
          let pre_long : length pre ≡ p + length m.code = ap length (m.made o) ∙ length-append o.code m.code ∙ ap (λ k. k + length m.code) long in
          let began : length (pre ++ i.JumpZero (pos 0) ∷ []) ≡ p + length m.code + 1 = length-append pre (i.JumpZero (pos 0) ∷ []) ∙ ap (λ k. k + 1) pre_long in
          let body : (stmts_out g c a (choice (expr_out g c e o))).code ≡ (pre ++ i.JumpZero (pos 0) ∷ []) ++ n.code = n.made (choice (expr_out g c e o)) began (m.word o ∙ at) in
          let end : length ((pre ++ i.JumpZero (pos 0) ∷ []) ++ n.code) ≡ mid = length-append (pre ++ i.JumpZero (pos 0) ∷ []) n.code ∙ ap (λ k. k + length n.code) began in
          ap (λ k. arm_end k (length pre)) body
          ∙ armed pre n.code (i.JumpZero (pos 0)) (i.Jump (fit (pos (length ((pre ++ i.JumpZero (pos 0) ∷ []) ++ n.code) + 1)))) (i.JumpZero (fit (pos (length ((pre ++ i.JumpZero (pos 0) ∷ []) ++ n.code) + 1))))
          ∙ ap (λ k. pre ++ i.JumpZero (fit (pos (k + 1))) ∷ (n.code ++ i.Jump (fit (pos (k + 1))) ∷ [])) end
          ∙ ap (λ k. k ++ z ∷ (n.code ++ j ∷ [])) (m.made o) ∙ append_assoc o.code m.code (z ∷ (n.code ++ j ∷ []));
      word = λ o at. n.word (choice (expr_out g c e o)) (m.word o ∙ at);
      still = λ f. still_more m.code (z ∷ (n.code ++ j ∷ [])) m.still (λ t. ap (λ k. z ∷ k) (still_more n.code (j ∷ []) (n.still f) (λ t. refl) t));
      emits = λ all y small h.
          let long : length (m.code ++ z ∷ (n.code ++ j ∷ [])) ≡ length m.code + suc (length n.code + 1) = length-append m.code (z ∷ (n.code ++ j ∷ [])) ∙ ap (λ k. length m.code + suc k) (length-append n.code (j ∷ [])) in
          let low : mid + 1 ≤ 2147483647 = omega arith in
          let there : map (aimed (to_of b y)) (m.code ++ z ∷ (n.code ++ j ∷ [])) ≡ m.code ++ z ∷ (map (aimed (to_of b y)) n.code ++ j ∷ []) =
          map-append (aimed (to_of b y)) m.code (z ∷ (n.code ++ j ∷ [])) ∙ ap (λ k. k ++ z ∷ map (aimed (to_of b y)) (n.code ++ j ∷ [])) (m.still (to_of b y))
          ∙ ap (λ k. m.code ++ z ∷ k) (map-append (aimed (to_of b y)) n.code (j ∷ [])) in
          let h2 : Has all p (m.code ++ z ∷ (map (aimed (to_of b y)) n.code ++ j ∷ [])) = subst (λ k. Has all p k) there h in
          let r : ℕ = p + length m.code in
          let behind : Has all r (z ∷ (map (aimed (to_of b y)) n.code ++ j ∷ [])) = has_rest all p r m.code (z ∷ (map (aimed (to_of b y)) n.code ++ j ∷ [])) refl h2 in
          let last : Has all mid (j ∷ []) = has_rest all (r + 1) mid (map (aimed (to_of b y)) n.code) (j ∷ []) (ap (λ k. r + 1 + k) (sym (length-map n.code (aimed (to_of b y))))) behind.1 in
          let q : p + length (m.code ++ z ∷ (n.code ++ j ∷ [])) ≡ mid + 1 = omega arith in
          let inside_small : r + 1 + length n.code ≤ 2147483647 = omega arith in (
            r,
            mid,
            record { has = subst (λ k. Has all p k) (sym (m.emits (exit_of b y))) (has_first all p m.code (z ∷ (map (aimed (to_of b y)) n.code ++ j ∷ [])) h2); end = ap (λ k. p + length k) (sym (m.emits (exit_of b y))) },
            subst (λ k. At all r (i.JumpZero k)) (fit_small (mid + 1) low) behind.0,
            n.emits all y inside_small (has_first all (r + 1) (map (aimed (to_of b y)) n.code) (j ∷ []) behind.1),
            subst (λ k. At all mid (i.Jump k)) (fit_small (mid + 1) low ∙ ap pos (sym q)) last.0,
            q,
          );
    }

-- the jump behind the first arm is patched when the second arm is there
met : (pre ca cd : List Instr) (z old j : Instr) (mid : ℕ) → length ((pre ++ z ∷ []) ++ ca) ≡ mid → slice_set ((pre ++ z ∷ (ca ++ old ∷ [])) ++ cd) mid j ≡ pre ++ z ∷ (ca ++ j ∷ cd)
met pre ca cd z old j mid size =
    let front : List Instr = (pre ++ z ∷ []) ++ ca in
    let here : (pre ++ z ∷ (ca ++ old ∷ [])) ++ cd ≡ front ++ old ∷ cd =
    ap (λ k. k ++ cd) (sym (append_assoc pre (z ∷ []) (ca ++ old ∷ [])) ∙ sym (append_assoc (pre ++ z ∷ []) ca (old ∷ []))) ∙ append_assoc front (old ∷ []) cd in
    ap (λ k. slice_set k mid j) here ∙ ap (λ k. slice_set (front ++ old ∷ cd) k j) (sym size) ∙ set_at front old j cd
    ∙ append_assoc (pre ++ z ∷ []) ca (j ∷ cd) ∙ append_assoc pre (z ∷ []) (ca ++ j ∷ cd)

when_else_made : (g : Program) (c : Scope) (e : Expr) (a d : Stmts) (b : Bool) (p w : ℕ) (m : ExprMade g c e) (n : StmtsMade g c a b (p + length m.code + 1) w)
    → StmtsMade g c d b (p + length m.code + 1 + length n.code + 1) (w + loops a) → StmtMade g c (when_else e a d) b p w
when_else_made g c e a d b p w m n k =
    let r : ℕ = p + length m.code in
    let mid : ℕ = r + 1 + length n.code in
    let q : ℕ = mid + 1 + length k.code in
    let j : Instr = i.Jump (fit (pos q)) in
    let z : Instr = i.JumpZero (fit (pos (mid + 1))) in
    record {
      code = m.code ++ z ∷ (n.code ++ j ∷ k.code);
      made = λ o long at.
          let oe : Out = expr_out g c e o in
          let oa : Out = stmts_out g c a (choice oe) in
          let ob : Out = between (length oe.code) oa in
          let pre : List Instr = oe.code in
          let pre_long : length pre ≡ r = ap length (m.made o) ∙ length-append o.code m.code ∙ ap (λ k. k + length m.code) long in
          let began : length (pre ++ i.JumpZero (pos 0) ∷ []) ≡ r + 1 = length-append pre (i.JumpZero (pos 0) ∷ []) ∙ ap (λ k. k + 1) pre_long in
          let body : oa.code ≡ (pre ++ i.JumpZero (pos 0) ∷ []) ++ n.code = n.made (choice oe) began (m.word o ∙ at) in
          let body_end : length oa.code ≡ mid = ap length body ∙ length-append (pre ++ i.JumpZero (pos 0) ∷ []) n.code ∙ ap (λ k. k + length n.code) began in
          let body_word : oa.word ≡ w + loops a = n.word (choice oe) (m.word o ∙ at) in
          let second : ob.code ≡ pre ++ z ∷ (n.code ++ i.Jump (pos 0) ∷ []) =
          ap (λ x. slice_set (oa.code ++ i.Jump (pos 0) ∷ []) (length pre) (i.JumpZero (fit (pos (x + 1))))) body_end
          ∙ ap (λ x. slice_set (x ++ i.Jump (pos 0) ∷ []) (length pre) z) body ∙ armed pre n.code (i.JumpZero (pos 0)) (i.Jump (pos 0)) z in
          let second_long : length ob.code ≡ mid + 1 =
          ap length second ∙ length-append pre (z ∷ (n.code ++ i.Jump (pos 0) ∷ [])) ∙ ap (λ x. length pre + suc x) (length-append n.code (i.Jump (pos 0) ∷ [])) ∙ ap (λ x. x + suc (length n.code + 1)) pre_long ∙ omega arith in
          let end : (stmts_out g c d ob).code ≡ (pre ++ z ∷ (n.code ++ i.Jump (pos 0) ∷ [])) ++ k.code = k.made ob second_long body_word ∙ ap (λ x. x ++ k.code) second in
          let end_long : length (stmts_out g c d ob).code ≡ q = ap length (k.made ob second_long body_word) ∙ length-append ob.code k.code ∙ ap (λ x. x + length k.code) second_long in
          let front : length ((pre ++ z ∷ []) ++ n.code) ≡ mid = length-append (pre ++ z ∷ []) n.code ∙ ap (λ x. x + length n.code) (length-append pre (z ∷ []) ∙ ap (λ x. x + 1) pre_long) in
          ap (λ x. slice_set (stmts_out g c d ob).code x (i.Jump (fit (pos (length (stmts_out g c d ob).code))))) body_end
          ∙ ap (λ x. slice_set (stmts_out g c d ob).code mid (i.Jump (fit (pos x)))) end_long
          ∙ ap (λ x. slice_set x mid j) end
          ∙ met pre n.code k.code z (i.Jump (pos 0)) j mid front
          ∙ ap (λ x. x ++ z ∷ (n.code ++ j ∷ k.code)) (m.made o) ∙ append_assoc o.code m.code (z ∷ (n.code ++ j ∷ k.code));
      word = λ o at. k.word (between (length (expr_out g c e o).code) (stmts_out g c a (choice (expr_out g c e o)))) (n.word (choice (expr_out g c e o)) (m.word o ∙ at)) ∙ omega arith;
      still = λ f. still_more m.code (z ∷ (n.code ++ j ∷ k.code)) m.still (λ t. ap (λ x. z ∷ x) (still_more n.code (j ∷ k.code) (n.still f) (λ u. ap (λ x. j ∷ x) (k.still f u)) t));
      emits = λ all y small h.
          let ma : List Instr = map (aimed (to_of b y)) n.code in
          let mb : List Instr = map (aimed (to_of b y)) k.code in
          let long : length (m.code ++ z ∷ (n.code ++ j ∷ k.code)) ≡ length m.code + suc (length n.code + suc (length k.code)) = length-append m.code (z ∷ (n.code ++ j ∷ k.code)) ∙ ap (λ x. length m.code + suc x) (length-append n.code (j ∷ k.code)) in
          let end : p + length (m.code ++ z ∷ (n.code ++ j ∷ k.code)) ≡ q = omega arith in
          let low : mid + 1 ≤ 2147483647 = omega arith in
          let low_q : q ≤ 2147483647 = omega arith in
          let low_a : r + 1 + length n.code ≤ 2147483647 = omega arith in
          let there : map (aimed (to_of b y)) (m.code ++ z ∷ (n.code ++ j ∷ k.code)) ≡ m.code ++ z ∷ (ma ++ j ∷ mb) =
          map-append (aimed (to_of b y)) m.code (z ∷ (n.code ++ j ∷ k.code)) ∙ ap (λ x. x ++ z ∷ map (aimed (to_of b y)) (n.code ++ j ∷ k.code)) (m.still (to_of b y))
          ∙ ap (λ x. m.code ++ z ∷ x) (map-append (aimed (to_of b y)) n.code (j ∷ k.code)) in
          let h2 : Has all p (m.code ++ z ∷ (ma ++ j ∷ mb)) = subst (λ x. Has all p x) there h in
          let behind : Has all r (z ∷ (ma ++ j ∷ mb)) = has_rest all p r m.code (z ∷ (ma ++ j ∷ mb)) refl h2 in
          let last : Has all mid (j ∷ mb) = has_rest all (r + 1) mid ma (j ∷ mb) (ap (λ x. r + 1 + x) (sym (length-map n.code (aimed (to_of b y))))) behind.1 in
          subst (λ x. Emits g all (aiming c (exit_of b y)) w p x (when_else e a d)) (sym end) (
            r,
            mid,
            record { has = subst (λ x. Has all p x) (sym (m.emits (exit_of b y))) (has_first all p m.code (z ∷ (ma ++ j ∷ mb)) h2); end = ap (λ x. p + length x) (sym (m.emits (exit_of b y))) },
            subst (λ x. At all r (i.JumpZero x)) (fit_small (mid + 1) low) behind.0,
            n.emits all y low_a (has_first all (r + 1) ma (j ∷ mb) behind.1),
            subst (λ x. At all mid (i.Jump x)) (fit_small q low_q) last.0,
            k.emits all y low_q last.1,
          );
    }

-- a loop, whose variable has this word
abbrev loop_at : Program → Scope → Name → (low high : Constant) → Stmts → ℕ → Out → Out
loop_at g c x low high ss w o =
    looped (turns_of (fit (constant_value g low)) (fit (constant_value g high)))
    (length (turning (turns_of (fit (constant_value g low)) (fit (constant_value g high))) (counting (fit (constant_value g low)) o)).code)
    (closed (counting (fit (constant_value g low)) o))
    (stepped (fit (pos w)) (stmts_out g (within c x w) ss
    (turning (turns_of (fit (constant_value g low)) (fit (constant_value g high))) (counting (fit (constant_value g low)) o))))

-- the code of a loop from its start on is made, and its exits are aimed
abbrev loop_end : List Instr → List Instr → List Instr
loop_end pre all = aims (fit (pos (length all))) (length pre) (length all - length pre) all

ended : (pre zs : List Instr) → loop_end pre (pre ++ zs) ≡ pre ++ map (aimed (fit (pos (length (pre ++ zs))))) zs
ended pre zs =
    let long = length-append pre zs in
    let rest : length (pre ++ zs) - length pre ≡ length zs = omega arith in
    ap (λ k. aims (fit (pos (length (pre ++ zs)))) (length pre) k (pre ++ zs)) rest ∙ aims_all (fit (pos (length (pre ++ zs)))) pre zs

abbrev head_of : (low v n : ℤ) → List Instr
head_of low v n = i.Push low ∷ i.StoreLocal v ∷ i.Repeats n ∷ []

abbrev tail_of : (v start : ℤ) → List Instr
tail_of v start = i.LoadLocal v ∷ i.Push (pos 1) ∷ i.Add ∷ i.StoreLocal v ∷ i.Repeat start ∷ []

headed : (xs : List Instr) (a b d : Instr) → ((xs ++ a ∷ []) ++ b ∷ []) ++ d ∷ [] ≡ xs ++ a ∷ b ∷ d ∷ []
headed [] a b d = refl
headed (x ∷ xs) a b d = ap (λ k. x ∷ k) (headed xs a b d)

tailed : (xs : List Instr) (a b d e f : Instr) → ((((xs ++ a ∷ []) ++ b ∷ []) ++ d ∷ []) ++ e ∷ []) ++ f ∷ [] ≡ xs ++ a ∷ b ∷ d ∷ e ∷ f ∷ []
tailed [] a b d e f = refl
tailed (x ∷ xs) a b d e f = ap (λ k. x ∷ k) (tailed xs a b d e f)

-- an address is no open exit, also where it is cut off
aimed_fit : (t : ℤ) (q : ℕ) (js : List Instr) → map (aimed t) (map (aimed (fit (pos q))) js) ≡ map (aimed (fit (pos q))) js
aimed_fit t q js = all_twice t (min q 2147483647) js

loop_made : (g : Program) (c : Scope) (x : Name) (low high : Constant) (ss : Stmts) (b : Bool) (p w : ℕ) → Fit (constant_value g low) → Fit (constant_value g high)
    → Fit (pos (turns_of (constant_value g low) (constant_value g high))) → Fit (pos w) → StmtsMade g (within c x w) ss true (p + 1 + 1 + 1) (suc w) → StmtMade g c (loop x low high ss) b p w
loop_made g c x low high ss b p w fits_low fits_high fits_turns fits_word n =
    let lo : ℤ = constant_value g low in
    let hi : ℤ = constant_value g high in
    let turns : ℕ = turns_of lo hi in
    let start : ℕ = p + 1 + 1 + 1 in
    let tail : List Instr = tail_of (pos w) (fit (pos start)) in
    let mid : ℕ = start + length n.code in
    let q : ℕ = mid + 5 in
    let head : List Instr = head_of lo (pos w) (pos turns) in
    record {
      code = head ++ map (aimed (fit (pos q))) (n.code ++ tail);
      made = λ o long at.
          let turned : ℕ = turns_of (fit lo) (fit hi) in
          let t : Out = turning turned (counting (fit lo) o) in
          let raw : List Instr = head_of (fit lo) (fit (pos o.word)) (fit (pos turned)) in
          let pre : t.code ≡ o.code ++ raw = headed o.code (i.Push (fit lo)) (i.StoreLocal (fit (pos o.word))) (i.Repeats (fit (pos turned))) in
          let began : length t.code ≡ start = ap length pre ∙ length-append o.code raw ∙ ap (λ k. k + 3) long ∙ omega arith in
          let body : (stmts_out g (within c x w) ss t).code ≡ t.code ++ n.code = n.made t began (ap suc at) in
          let close : List Instr = tail_of (fit (pos w)) (fit (pos (length t.code))) in
          let full : (push (stepped (fit (pos w)) (stmts_out g (within c x w) ss t)) (i.Repeat (fit (pos (length t.code))))).code ≡ t.code ++ (n.code ++ close) =
          tailed (stmts_out g (within c x w) ss t).code (i.LoadLocal (fit (pos w))) (i.Push (pos 1)) i.Add (i.StoreLocal (fit (pos w))) (i.Repeat (fit (pos (length t.code))))
          ∙ ap (λ k. k ++ close) body ∙ append_assoc t.code n.code close in
          let size : length (t.code ++ (n.code ++ close)) ≡ q = length-append t.code (n.code ++ close) ∙ ap (λ k. length t.code + k) (length-append n.code close) ∙ ap (λ k. k + (length n.code + 5)) began ∙ omega arith in
          let same_tail : close ≡ tail = ap (λ v. tail_of v (fit (pos (length t.code)))) fits_word ∙ ap (λ k. tail_of (pos w) (fit (pos k))) began in
          let same_turns : turned ≡ turns = ap (λ v. turns_of v (fit hi)) fits_low ∙ ap (λ v. turns_of lo v) fits_high in
          let same_head : raw ≡ head =
          ap (λ v. head_of v (fit (pos o.word)) (fit (pos turned))) fits_low ∙ ap (λ k. head_of lo (fit (pos k)) (fit (pos turned))) at
          ∙ ap (λ v. head_of lo v (fit (pos turned))) fits_word ∙ ap (λ k. head_of lo (pos w) (fit (pos k))) same_turns ∙ ap (λ v. head_of lo (pos w) v) fits_turns in
          ap (λ (k : ℕ). (loop_at g c x low high ss k o).code) at
          ∙ ap (λ k. loop_end t.code k) full
          ∙ ended t.code (n.code ++ close)
          ∙ ap (λ k. t.code ++ map (aimed (fit (pos k))) (n.code ++ close)) size
          ∙ ap (λ k. t.code ++ map (aimed (fit (pos q))) (n.code ++ k)) same_tail
          ∙ ap (λ k. k ++ map (aimed (fit (pos q))) (n.code ++ tail)) (pre ∙ ap (λ k. o.code ++ k) same_head)
          ∙ append_assoc o.code head (map (aimed (fit (pos q))) (n.code ++ tail));
      word = λ o at.
          let e0 : (loop_at g c x low high ss o.word o).word ≡ suc w + loops ss = ap (λ (k : ℕ). (loop_at g c x low high ss k o).word) at ∙ n.word (turning (turns_of (fit lo) (fit hi)) (counting (fit lo) o)) (ap suc at) in
          e0 ∙ omega arith;
      still = λ f. still_more head (map (aimed (fit (pos q))) (n.code ++ tail)) (λ t. refl) (λ t. aimed_fit t q (n.code ++ tail));
      emits = λ all y small h.
          let long : length (head ++ map (aimed (fit (pos q))) (n.code ++ tail)) ≡ length n.code + 8 =
          length-append head (map (aimed (fit (pos q))) (n.code ++ tail)) ∙ ap (λ k. 3 + k) (length-map (n.code ++ tail) (aimed (fit (pos q))) ∙ length-append n.code tail) ∙ omega arith in
          let end : p + length (head ++ map (aimed (fit (pos q))) (n.code ++ tail)) ≡ q = omega arith in
          let low_q : q ≤ 2147483647 = omega arith in
          let low_start : start ≤ 2147483647 = omega arith in
          let aim : fit (pos q) ≡ pos q = fit_small q low_q in
          let there : map (aimed (to_of b y)) (head ++ map (aimed (fit (pos q))) (n.code ++ tail)) ≡ head ++ (map (aimed (pos q)) n.code ++ tail_of (pos w) (pos start)) =
          ap (λ v. map (aimed (to_of b y)) (head ++ map (aimed v) (n.code ++ tail))) aim
          ∙ map-append (aimed (to_of b y)) head (map (aimed (pos q)) (n.code ++ tail))
          ∙ ap (λ k. head ++ k) (all_twice (to_of b y) q (n.code ++ tail) ∙ map-append (aimed (pos q)) n.code tail ∙ ap (λ v. map (aimed (pos q)) n.code ++ tail_of (pos w) v) (fit_small start low_start)) in
          let h2 : Has all p (head ++ (map (aimed (pos q)) n.code ++ tail_of (pos w) (pos start))) = subst (λ k. Has all p k) there h in
          let inner_code : Has all start (map (aimed (pos q)) n.code ++ tail_of (pos w) (pos start)) = has_rest all p start head (map (aimed (pos q)) n.code ++ tail_of (pos w) (pos start)) (omega arith) h2 in
          let small_body : start + length n.code ≤ 2147483647 = omega arith in
          subst (λ k. Emits g all (aiming c (exit_of b y)) w p k (loop x low high ss)) (sym end) (
            mid,
            has_first all p head (map (aimed (pos q)) n.code ++ tail_of (pos w) (pos start)) h2,
            n.emits all q small_body (has_first all start (map (aimed (pos q)) n.code) (tail_of (pos w) (pos start)) inner_code),
            has_rest all start mid (map (aimed (pos q)) n.code) (tail_of (pos w) (pos start)) (ap (λ k. start + k) (sym (length-map n.code (aimed (pos q))))) inner_code,
            omega arith,
          );
    }

-- a call with its arguments
called_line : (g : Program) (c : Scope) (t : Option Text) (es : Exprs) → CallFits g t (λ ps. ArgsFit g c es ps)
    → LineMade (λ o. call_out (told_callee g t) (λ rs. args_out g c es rs o) o) (λ y. call_code g t (λ ps. args_code g (aiming c y) es ps))
called_line g c t es h = call_made g t (λ rs o. args_out g c es rs o) (λ y ps. args_code g (aiming c y) es ps) (λ ps. ArgsFit g c es ps) h (λ ps k. args_made g c es ps k)

wait_made : (g : Program) (c : Scope) (x : Name) (l n : Constant) (b : Bool) (p w : ℕ) → StmtFits g c b w (wait x l n) → StmtMade g c (wait x l n) b p w
wait_made g c x l n b p w h =
    let js : List Instr = i.Wait (pos (condition_of g c.owner x)) (pos (count_value g l)) (pos (count_value g n)) ∷ i.Reenter (pos (monitor_of c.owner)) ∷ [] in
    line_made g c (wait x l n) b p w (λ y. js) (record {
      code = js;
      made = λ o. append_assoc o.code (i.Wait (condition_told g c x) (count_told g l) (count_told g n) ∷ []) (i.Reenter (fit (pos (monitor_of c.owner))) ∷ [])
          ∙ ap (λ z. o.code ++ i.Wait z (count_told g l) (count_told g n) ∷ i.Reenter (fit (pos (monitor_of c.owner))) ∷ []) h.0
          ∙ ap (λ z. o.code ++ i.Wait (pos (condition_of g c.owner x)) z (count_told g n) ∷ i.Reenter (fit (pos (monitor_of c.owner))) ∷ []) h.1
          ∙ ap (λ z. o.code ++ i.Wait (pos (condition_of g c.owner x)) (pos (count_value g l)) z ∷ i.Reenter (fit (pos (monitor_of c.owner))) ∷ []) h.2
          ∙ ap (λ z. o.code ++ i.Wait (pos (condition_of g c.owner x)) (pos (count_value g l)) (pos (count_value g n)) ∷ i.Reenter z ∷ []) h.3;
      word = λ o. refl;
      still = λ t. refl;
      emits = λ y. refl;
    }) refl (λ all y q l. l)

mutual
  pub stmt_made : (g : Program) (c : Scope) (s : Stmt) (b : Bool) (p w : ℕ) → StmtFits g c b w s → StmtMade g c s b p w
  stmt_made g c (assign r e) b p w h =
      line_made g c (assign r e) b p w (λ y. index_code g (aiming c y) r ++ (code_of g (aiming c y) e ++ put_code g (aiming c y) r))
      (both_made (index_out g c r) (λ o. put_out g c r (expr_out g c e o)) (λ y. index_code g (aiming c y) r) (λ y. code_of g (aiming c y) e ++ put_code g (aiming c y) r) (index_made g c r h.0)
      (both_made (expr_out g c e) (put_out g c r) (λ y. code_of g (aiming c y) e) (λ y. put_code g (aiming c y) r) (expr_made g c e h.1) (put_made g c r h.0)))
      refl (λ all y q l. l)
  stmt_made g c (put d e) b p w h =
      line_made g c (put d e) b p w (λ y. code_of g (aiming c y) e ++ i.Out (pos (device_number g d)) ∷ [])
      (both_made (expr_out g c e) (λ o. push o (i.Out (fit (pos (device_number g d))))) (λ y. code_of g (aiming c y) e) (λ y. i.Out (pos (device_number g d)) ∷ []) (expr_made g c e h.0)
      (one_made (λ o. i.Out (fit (pos (device_number g d)))) (i.Out (pos (device_number g d))) (λ o. ap (λ z. i.Out z) h.1) (λ t. refl)))
      refl (λ all y q l. l)
  stmt_made g c (when e a) b p w h =
      let m = expr_made g c e h.0 in
      when_made g c e a b p w m (stmts_made g c a b (p + length m.code + 1) w h.1)
  stmt_made g c (loop x low high ss) b p w h = loop_made g c x low high ss b p w h.0 h.1 h.2 h.3 (stmts_made g (within c x w) ss true (p + 1 + 1 + 1) (suc w) h.4)
  stmt_made g c (exit_when e) true p w h = exit_made g c e p w (expr_made g c e h.0)
  stmt_made g c (exit_when e) false p w h = absurd h.1
  stmt_made g c (when_else e a d) b p w h =
      let m = expr_made g c e h.0 in
      let n = stmts_made g c a b (p + length m.code + 1) w h.1 in
      when_else_made g c e a d b p w m n (stmts_made g c d b (p + length m.code + 1 + length n.code + 1) (w + loops a) h.2)
  stmt_made g c (assign_entry r m e es) b p w h =
      line_made g c (assign_entry r m e es) b p w (λ y. index_code g (aiming c y) r ++ (call_code g (entry_in g m e) (λ ps. args_code g (aiming c y) es ps) ++ put_code g (aiming c y) r))
      (both_made (index_out g c r) (λ o. put_out g c r (call_out (told_callee g (entry_in g m e)) (λ rs. args_out g c es rs o) o)) (λ y. index_code g (aiming c y) r)
      (λ y. call_code g (entry_in g m e) (λ ps. args_code g (aiming c y) es ps) ++ put_code g (aiming c y) r) (index_made g c r h.0)
      (both_made (λ o. call_out (told_callee g (entry_in g m e)) (λ rs. args_out g c es rs o) o) (put_out g c r) (λ y. call_code g (entry_in g m e) (λ ps. args_code g (aiming c y) es ps)) (λ y. put_code g (aiming c y) r)
      (called_line g c (entry_in g m e) es h.1) (put_made g c r h.0)))
      refl (λ all y q l. l)
  stmt_made g c (assign_empty r x) b p w h =
      line_made g c (assign_empty r x) b p w (λ y. index_code g (aiming c y) r ++ (i.Empty (pos (condition_of g c.owner x)) ∷ store_code g (aiming c y) r))
      (both_made (index_out g c r) (λ o. store_out g c r (push o (i.Empty (condition_told g c x)))) (λ y. index_code g (aiming c y) r) (λ y. i.Empty (pos (condition_of g c.owner x)) ∷ store_code g (aiming c y) r) (index_made g c r h.0)
      (both_made (λ o. push o (i.Empty (condition_told g c x))) (store_out g c r) (λ y. i.Empty (pos (condition_of g c.owner x)) ∷ []) (λ y. store_code g (aiming c y) r)
      (one_made (λ o. i.Empty (condition_told g c x)) (i.Empty (pos (condition_of g c.owner x))) (λ o. ap (λ z. i.Empty z) h.1) (λ t. refl)) (store_made g c r h.0)))
      refl (λ all y q l. l)
  stmt_made g c (perform f es) b p w h =
      line_made g c (perform f es) b p w (λ y. call_code g (routine_in g c.owner f) (λ ps. args_code g (aiming c y) es ps)) (called_line g c (routine_in g c.owner f) es h) refl (λ all y q l. l)
  stmt_made g c (perform_entry m e es) b p w h =
      line_made g c (perform_entry m e es) b p w (λ y. call_code g (entry_in g m e) (λ ps. args_code g (aiming c y) es ps)) (called_line g c (entry_in g m e) es h) refl (λ all y q l. l)
  stmt_made g c (get d r) b p w h =
      line_made g c (get d r) b p w (λ y. index_code g (aiming c y) r ++ (i.In (pos (device_number g d)) ∷ put_code g (aiming c y) r))
      (both_made (index_out g c r) (λ o. put_out g c r (push o (i.In (fit (pos (device_number g d)))))) (λ y. index_code g (aiming c y) r) (λ y. i.In (pos (device_number g d)) ∷ put_code g (aiming c y) r) (index_made g c r h.0)
      (both_made (λ o. push o (i.In (fit (pos (device_number g d))))) (put_out g c r) (λ y. i.In (pos (device_number g d)) ∷ []) (λ y. put_code g (aiming c y) r)
      (one_made (λ o. i.In (fit (pos (device_number g d)))) (i.In (pos (device_number g d))) (λ o. ap (λ z. i.In z) h.1) (λ t. refl)) (put_made g c r h.0)))
      refl (λ all y q l. l)
  stmt_made g c (wait x l n) b p w h = wait_made g c x l n b p w h
  stmt_made g c (signal x) b p w h =
      line_made g c (signal x) b p w (λ y. i.Signal (pos (condition_of g c.owner x)) ∷ []) (one_made (λ o. i.Signal (condition_told g c x)) (i.Signal (pos (condition_of g c.owner x))) (λ o. ap (λ z. i.Signal z) h) (λ t. refl)) refl (λ all y q l. l)
  stmt_made g c (broadcast x) b p w h =
      line_made g c (broadcast x) b p w (λ y. i.Broadcast (pos (condition_of g c.owner x)) ∷ []) (one_made (λ o. i.Broadcast (condition_told g c x)) (i.Broadcast (pos (condition_of g c.owner x))) (λ o. ap (λ z. i.Broadcast z) h) (λ t. refl)) refl
      (λ all y q l. l)
  stmt_made g c (except n) b p w h =
      line_made g c (except n) b p w (λ y. i.Raise (pos (count_value g n)) ∷ []) (one_made (λ o. i.Raise (count_told g n)) (i.Raise (pos (count_value g n))) (λ o. ap (λ z. i.Raise z) h) (λ t. refl)) refl (λ all y q l. l)
  stmt_made g c (assert e) b p w h = assert_made g c e b p w (expr_made g c e h)

  pub stmts_made : (g : Program) (c : Scope) (ss : Stmts) (b : Bool) (p w : ℕ) → StmtsFit g c b w ss → StmtsMade g c ss b p w
  stmts_made g c no_stmts b p w h = record { code = []; made = λ o long at. sym (append-nil o.code); word = λ o at. at ∙ omega arith; still = λ f t. refl; emits = λ all y small h. omega arith }
  stmts_made g c (stmts s ss) b p w h =
      let m = stmt_made g c s b p w h.0 in
      let n = stmts_made g c ss b (p + length m.code) (w + loops_in s) h.1 in
      record {
        code = m.code ++ n.code;
        made = λ o long at.
            n.made (stmt_out g c s o) (ap length (m.made o long at) ∙ length-append o.code m.code ∙ ap (λ k. k + length m.code) long) (m.word o at)
            ∙ ap (λ k. k ++ n.code) (m.made o long at) ∙ append_assoc o.code m.code n.code;
        word = λ o at. n.word (stmt_out g c s o) (m.word o at) ∙ omega arith;
        still = λ f. still_more m.code n.code (m.still f) (n.still f);
        emits = λ all y small h2.
            let long : length (m.code ++ n.code) ≡ length m.code + length n.code = length-append m.code n.code in
            let h3 : Has all p (map (aimed (to_of b y)) m.code ++ map (aimed (to_of b y)) n.code) = subst (λ k. Has all p k) (map-append (aimed (to_of b y)) m.code n.code) h2 in
            let first_small : p + length m.code ≤ 2147483647 = omega arith in
            let rest_small : p + length m.code + length n.code ≤ 2147483647 = omega arith in
            let end : p + length m.code + length n.code ≡ p + length (m.code ++ n.code) = omega arith in (
              p + length m.code,
              m.emits all y first_small (has_first all p (map (aimed (to_of b y)) m.code) (map (aimed (to_of b y)) n.code) h3),
              subst (λ k. EmitsAll g all (aiming c (exit_of b y)) (w + loops_in s) (p + length m.code) k ss) end
                  (n.emits all y rest_small (has_rest all p (p + length m.code) (map (aimed (to_of b y)) m.code) (map (aimed (to_of b y)) n.code) (ap (λ k. p + k) (sym (length-map m.code (aimed (to_of b y))))) h3)),
            );
      }
