-- What the code of statements comes to.
use Rattle.std.specs.Prelude.{◌≡◌, ◌≤◌, ◌+◌, ◌*◌, ◌++◌, ℕ, suc, List, [], ◌∷◌, Option, Some, None, ℤ, pos, max, length, slice_get, is_some}
use Rattle.std.proofs.Common.{refl, sym, ap, subst, ◌∙◌, arith}
use Rattle.std.proofs.lemmas.Bool.{le-leb}
use Rattle.base.proofs.Numbers.{itself}
use Rattle.syntax_tree.specs.Plain.{Stmt, assign, assign_entry, assign_empty, perform, perform_entry, when, when_else, loop, exit_when, get, put, wait, signal, broadcast, except, assert, Stmts, no_stmts, stmts, Answers, Program}
use Rattle.base.specs.declared.capped.Cost.{Cost}
use Rattle.machine_isa.specs.declared.instr.Instr.{Instr}
use Rattle.machine_isa.specs.declared.instr.Instr.TheVariants as i
use Rattle.source_semantics.specs.Names.{constant_value, count_value, device_number}
use Rattle.machine_semantics.specs.Trees.{Segs, Fork, Rep, Wait, Exit, Nil, Cons, size}
use Rattle.valid_image.specs.Found.{Known, Found, amount, plus, greater, longer, turns, guard, chain, is_exit, is_reenter, limit_at, wait as wait_found, founds}
use Rattle.valid_image.specs.Tables.{nothing_found as done, count as count_of}
use Rattle.code_spec.specs.Layout.{by_monitor, Scope, loops, loops_in}
use Rattle.code_spec.specs.Numbering.{Text, routine_in, entry_in}
use Rattle.code_spec.specs.Code.{code_of, args_code, call_code, index_code, store_code, put_code, ref_name}
use Rattle.code_spec.specs.Emits.{Has, IsLine, At, inner, turns_of, condition_of, monitor_of, Emits, EmitsAll}
use Rattle.code_spec.specs.Segments.{line, call_segs, expr_segs, args_segs, put_segs, stmt_segs, stmts_segs}
use Rattle.code_cost_spec.specs.Names.{Names, Calls, inside, range_seen}
use Rattle.code_cost_spec.specs.Costs.{run, call_cost, args_cost, expr_cost, index_cost, put_ticks, store_ticks, loop_cost, stmt_cost, stmts_cost}
use Rattle.code_cost_spec.specs.Heights.{call_height, args_height, expr_height, index_height, index_words, stmt_height, stmts_height}
use Rattle.code_measures.specs.Sound.{IsKnown, Sound, SoundAll}
use Rattle.code_measures.proofs.Adding.{adds, adds_adds, adds_same, adds_none, found_same, some_found, joined_is}
use Rattle.code_measures.proofs.Lines.{split, split_one, one_found, line_more}
use Rattle.code_measures.proofs.Sizes.{Alike, alike_inner, stmts_size, line_size}
use Rattle.code_measures.proofs.Seen.{Sees, sees_inside}
use Rattle.code_measures.proofs.Exprs.{expr_found, args_found, named_call, expr_high}
use Rattle.code_measures.proofs.Blocks.{adds_three, check_height, check_low, fork_found, rep_found, store_found, put_found, index_found}

gives_one : (h : ℕ) (o : Option Answers) (y : Answers) → o ≡ Some y → h + 1 ≡ count_of (is_some o) + h
gives_one h o y e = subst (λ z. h + 1 ≡ count_of (is_some z) + h) (sym e) (omega arith)

gives_none : (o : Option Answers) → o ≡ None → 0 ≡ count_of (is_some o) + 0
gives_none o e = subst (λ z. 0 ≡ count_of (is_some z) + 0) (sym e) refl

-- the monitor that a text is inside
abbrev pub Inside : Scope → Option ℕ → Type 0
Inside c held = (m : ℕ) → c.owner ≡ by_monitor m → held ≡ Some m

up_one : (h : ℕ) → h + 1 ≡ suc h
up_one h = omega arith

-- a loop's cost and height, with what counts on
loop_same : (t : ℕ) (c : Cost) (h : ℕ) (r : Found)
    → adds (run 1) 1 (adds (run 2) 0 (adds (turns t (adds c h (adds (run 2) 1 (adds (run 1) 2 (adds (run 2) 1 (adds (run 2) 0 done))))).cost) (suc (adds c h (adds (run 2) 1 (adds (run 1) 2 (adds (run 2) 1 (adds (run 2) 0 done))))).depth) r))
    ≡ adds (loop_cost t c) (1 + max h 2) r
loop_same t c h r =
    found_same _ _ refl (more (ap (λ y. t * y) (body c.run))) (more2 (ap (λ y. t * y) (other c.susp))) (more3 (ap (λ y. t * y) (other c.waits))) (omega arith)
  where
    body : (x : ℕ) → x + 7 + 3 ≡ x + 10
    body x = omega arith

    other : (x : ℕ) → x + 0 ≡ x
    other x = omega arith

    more : t * (c.run + 7 + 3) ≡ t * (c.run + 10) → 1 + (2 + (2 + t * (c.run + 7 + 3) + r.cost.run)) ≡ 5 + t * (c.run + 10) + r.cost.run
    more e = omega (arith, e)

    more2 : t * (c.susp + 0) ≡ t * c.susp → 0 + (0 + (t * (c.susp + 0) + r.cost.susp)) ≡ t * c.susp + r.cost.susp
    more2 e = omega (arith, e)

    more3 : t * (c.waits + 0) ≡ t * c.waits → 0 + (0 + (t * (c.waits + 0) + r.cost.waits)) ≡ t * c.waits + r.cost.waits
    more3 e = omega (arith, e)

module _ (g : Program) (known : List Known) (k : Calls) (code : List Instr) where
  -- counting on
  counted : (w mid back : ℕ) (out held : Option ℕ) → Has code mid (i.LoadLocal (pos w) ∷ i.Push (pos 1) ∷ i.Add ∷ i.StoreLocal (pos w) ∷ i.Repeat (pos back) ∷ [])
      → founds code known out held (line 4 Nil) mid 0 ≡ Some (adds (run 2) 1 (adds (run 1) 2 (adds (run 2) 1 (adds (run 2) 0 done))))
  counted w mid back out held has =
      ap (λ t. founds code known out held t mid 0) (line_more 2 Nil ∙ ap (λ t. line 1 t) (line_more 1 Nil ∙ ap (λ t. line 1 t) (line_more 0 Nil)))
      ∙ one_found code known out held (i.LoadLocal (pos w)) mid (mid + 1) 0 1 (line 1 (line 1 (line 1 Nil))) (adds (run 1) 2 (adds (run 2) 1 (adds (run 2) 0 done))) (record { has = (has.0, tt); end = refl }) refl refl refl
      (one_found code known out held (i.Push (pos 1)) (mid + 1) (mid + 1 + 1) 1 2 (line 1 (line 1 Nil)) (adds (run 2) 1 (adds (run 2) 0 done)) (record { has = (has.1.0, tt); end = refl }) refl refl refl
      (one_found code known out held i.Add (mid + 1 + 1) (mid + 1 + 1 + 1) 2 1 (line 1 Nil) (adds (run 2) 0 done) (record { has = (has.1.1.0, tt); end = refl }) refl refl refl
      (one_found code known out held (i.StoreLocal (pos w)) (mid + 1 + 1 + 1) (mid + 1 + 1 + 1 + 1) 1 0 Nil done (record { has = (has.1.1.1.0, tt); end = refl }) refl refl refl refl)))

  -- an EXIT
  exit_found : (p q y : ℕ) (out held : Option ℕ) (after : Segs) (r : Found) → At code p (i.Exit (pos y)) → out ≡ Some y → q ≡ p + 1 → founds code known out held after q 0 ≡ Some r
      → founds code known out held (Cons Exit after) p (suc 0) ≡ Some (adds (run 3) 0 r)
  exit_found p q y out held after r here exits q_is is =
      ap (λ b. chain (guard b (Some (record { height = 0; cost = amount 3 0 0; depth = 0 }))) (λ z. founds code known out held after (p + 1) z))
      (ap (λ o. is_exit out o) here ∙ (ap (λ o. is_exit o (Some (i.Exit (pos y)))) exits ∙ itself y))
      ∙ joined_is (record { height = 0; cost = amount 3 0 0; depth = 0 }) r (founds code known out held after (p + 1) 0) (subst (λ z. founds code known out held after z 0 ≡ Some r) q_is is)

  -- a WAIT and its REENT
  wait_then : (p q m x limit : ℕ) (number : ℤ) (out held : Option ℕ) (after : Segs) (r : Found) → IsLine code p q (i.Wait (pos x) (pos limit) number ∷ i.Reenter (pos m) ∷ []) → held ≡ Some m → founds code known out held after q 0 ≡ Some r
      → founds code known out held (Cons Wait after) p 0 ≡ Some (adds (amount 10 limit 1) 0 r)
  wait_then p q m x limit number out held after r l within is =
      ap (λ b. chain (guard b (wait_found 0 (limit_at (slice_get code p)))) (λ z. founds code known out held after (p + 2) z))
      (ap (λ o. is_reenter held o) l.has.1.0 ∙ (ap (λ o. is_reenter o (Some (i.Reenter (pos m)))) within ∙ itself m))
      ∙ (ap (λ o. chain (wait_found 0 (limit_at o)) (λ z. founds code known out held after (p + 2) z)) l.has.0
      ∙ joined_is (record { height = 0; cost = amount 10 limit 1; depth = 0 }) r (founds code known out held after (p + 2) 0) (subst (λ z. founds code known out held after z 0 ≡ Some r) l.end is))

  mutual
    pub stmt_found : (x : Stmt) (c d : Scope) (n : Names) (out held : Option ℕ) (w p q : ℕ) (after : Segs) (r : Found) → Alike g c d → Sees g c n → c.exit ≡ out → Inside c held → Sound g (λ y. IsKnown g known k y) c x → Emits g code c w p q x
        → founds code known out held after q 0 ≡ Some r → founds code known out held (stmt_segs g d x after) p 0 ≡ Some (adds (stmt_cost g n k x) (stmt_height g n.owner k x) r)
    stmt_found (assign t e) c d n out held w p q after r a s exits within ok l is =
        let pieces = split code p q (index_code g c t) (code_of g c e ++ put_code g c t) l in
        let later = split code (p + length (index_code g c t)) q (code_of g c e) (put_code g c t) pieces.1 in
        let high : 1 ≤ expr_height g n.owner k e = expr_high g known k c n e s ok.2 in
        let low : check_height (range_seen (n.view (ref_name t))) (suc (index_words t)) ≤ suc (index_words t) = check_low (range_seen (n.view (ref_name t))) (suc (index_words t)) in
        index_found g known k code out held c d n a s t p (p + length (index_code g c t)) (expr_segs g d e (put_segs g d t after))
        (adds (expr_cost g n k e) (index_words t + expr_height g n.owner k e) (adds (run (put_ticks n t)) (check_height (range_seen (n.view (ref_name t))) (suc (index_words t))) r)) ok.0 pieces.0
        (expr_found g known k code out held c d n a s e (p + length (index_code g c t)) (p + length (index_code g c t) + length (code_of g c e)) (index_words t) (put_segs g d t after)
        (adds (run (put_ticks n t)) (check_height (range_seen (n.view (ref_name t))) (suc (index_words t))) r) ok.2 later.0
        (put_found g known k code out held c d n a s t (p + length (index_code g c t) + length (code_of g c e)) q after r ok.1 later.1 is))
        ∙ some_found _ _ (adds_three (index_cost g n k t) (expr_cost g n k e) (run (put_ticks n t)) (index_height g n.owner k t) (index_words t + expr_height g n.owner k e) _ _ r (omega (arith, high, low)))
    stmt_found (assign_entry t m en es) c d n out held w p q after r a s exits within ok l is =
        let tc : Option Text = entry_in g m en in
        let call_part : List Instr = call_code g (entry_in g m en) (λ ps. args_code g c es ps) in
        let pieces = split code p q (index_code g c t) (call_code g (entry_in g m en) (λ ps. args_code g c es ps) ++ put_code g c t) l in
        let later = split code (p + length (index_code g c t)) q (call_code g (entry_in g m en) (λ ps. args_code g c es ps)) (put_code g c t) pieces.1 in
        let low : check_height (range_seen (n.view (ref_name t))) (suc (index_words t)) ≤ suc (index_words t) = check_low (range_seen (n.view (ref_name t))) (suc (index_words t)) in
        let high : 1 ≤ call_height g k (entry_in g m en) (args_height g n.owner k es) = subst (λ y. 1 ≤ call_height g k y (args_height g n.owner k es)) (sym ok.2.2) (omega arith) in
        index_found g known k code out held c d n a s t p (p + length (index_code g c t)) (call_segs g (entry_in g m en) (λ ps y. args_segs g d es ps y) (put_segs g d t after))
        (adds (call_cost k (entry_in g m en) (λ ps. args_cost g n k es ps)) (index_words t + call_height g k (entry_in g m en) (args_height g n.owner k es)) (adds (run (put_ticks n t)) (check_height (range_seen (n.view (ref_name t))) (suc (index_words t))) r)) ok.0 pieces.0
        (named_call g known k code out held (entry_in g m en) (entry_in g m en) (entry_in g m en) ok.2.0 es c d n (p + length (index_code g c t)) (p + length (index_code g c t) + length (call_code g (entry_in g m en) (λ ps. args_code g c es ps))) (index_words t) (suc (index_words t)) (put_segs g d t after)
        (adds (run (put_ticks n t)) (check_height (range_seen (n.view (ref_name t))) (suc (index_words t))) r) ok.2.2 ok.2.2 ok.2.2 ok.2.3 later.0 (subst (λ y. y ≡ count_of (is_some ok.2.0.routine.answers) + index_words t) (up_one (index_words t)) (gives_one (index_words t) ok.2.0.routine.answers ok.2.1 ok.2.4))
        (put_found g known k code out held c d n a s t (p + length (index_code g c t) + length (call_code g (entry_in g m en) (λ ps. args_code g c es ps))) q after r ok.1 later.1 is)
        (λ p q at after r l at_is is deep. args_found g known k code out held c d n a s es ok.2.0.routine.params p q (index_words t) at after r ok.2.5 l at_is is deep))
        ∙ some_found _ _ (adds_three (index_cost g n k t) (call_cost k (entry_in g m en) (λ ps. args_cost g n k es ps)) (run (put_ticks n t)) (index_height g n.owner k t) (index_words t + call_height g k (entry_in g m en) (args_height g n.owner k es)) _ _ r (omega (arith, high, low)))
    stmt_found (assign_empty t x) c d n out held w p q after r a s exits within ok l is =
        let pieces = split code p q (index_code g c t) (i.Empty (pos (condition_of g c.owner x)) ∷ store_code g c t) l in
        let later = split_one code (p + length (index_code g c t)) q (i.Empty (pos (condition_of g c.owner x))) (store_code g c t) pieces.1 in
        index_found g known k code out held c d n a s t p (p + length (index_code g c t)) (line 2 after) (adds (run 3) (suc (index_words t)) (adds (run (store_ticks (n.view (ref_name t)) t)) 0 r)) ok.0 pieces.0
        (ap (λ y. founds code known out held y (p + length (index_code g c t)) (index_words t)) (line_more 0 after)
        ∙ one_found code known out held (i.Empty (pos (condition_of g c.owner x))) (p + length (index_code g c t)) (p + length (index_code g c t) + 1) (index_words t) (suc (index_words t)) (line 1 after) (adds (run (store_ticks (n.view (ref_name t)) t)) 0 r) later.0 refl (le-leb 0 (index_words t) (omega arith)) (omega arith)
        (store_found g known k code out held c d n a s t (p + length (index_code g c t) + 1) q after r ok.1 later.1 is))
        ∙ some_found _ _ (adds_three (index_cost g n k t) (run 3) (run (store_ticks (n.view (ref_name t)) t)) (index_height g n.owner k t) (suc (index_words t)) 0 _ r (omega arith))
    stmt_found (perform f es) c d n out held w p q after r a s exits within ok l is =
        named_call g known k code out held (routine_in g c.owner f) (routine_in g d.owner f) (routine_in g n.owner f) ok.0 es c d n p q 0 0 after r ok.1
        (subst (λ o. routine_in g o f ≡ Some ok.0) a.owner ok.1) (subst (λ o. routine_in g o f ≡ Some ok.0) s.owner ok.1) ok.2 l (gives_none ok.0.routine.answers ok.3) is
        (λ p q at after r l at_is is deep. args_found g known k code out held c d n a s es ok.0.routine.params p q 0 at after r ok.4 l at_is is deep)
        ∙ some_found _ _ (adds_same _ _ _ r (omega arith))
    stmt_found (perform_entry m en es) c d n out held w p q after r a s exits within ok l is =
        named_call g known k code out held (entry_in g m en) (entry_in g m en) (entry_in g m en) ok.0 es c d n p q 0 0 after r ok.1 ok.1 ok.1 ok.2 l (gives_none ok.0.routine.answers ok.3) is
        (λ p q at after r l at_is is deep. args_found g known k code out held c d n a s es ok.0.routine.params p q 0 at after r ok.4 l at_is is deep)
        ∙ some_found _ _ (adds_same _ _ _ r (omega arith))
    stmt_found (when e x) c d n out held w p q after r a s exits within ok l is =
        let first : Segs = stmts_segs g d x Nil in
        let sized : l.1 + size Nil ≡ l.0 + 1 + size (stmts_segs g d x Nil) = stmts_size g (λ y. IsKnown g known k y) x c d w (l.0 + 1) l.1 Nil code a l.4 ok.1 in
        let last : q ≡ l.1 + 1 = l.6 in
        expr_found g known k code out held c d n a s e p l.0 0 (Cons (Fork (stmts_segs g d x Nil) Nil) after)
        (adds (greater (longer 3 (plus (stmts_cost g n k x) (run 0))) (longer 2 (run 0))) (max (max (stmts_height g n.owner k x) 0) 0) r) ok.0 l.2
        (fork_found g known k code out held (stmts_segs g d x Nil) Nil after l.0 l.1 q (adds (stmts_cost g n k x) (stmts_height g n.owner k x) done) done r l.3 l.5 (omega (arith, sized)) (omega (arith, last))
        (stmts_found x c d n out held w (l.0 + 1) l.1 Nil done a s exits within ok.1 l.4 refl) refl refl refl is)
        ∙ some_found _ _ (found_same _ _ refl (omega arith) (omega arith) (omega arith) (omega arith))
    stmt_found (when_else e x y) c d n out held w p q after r a s exits within ok l is =
        let sized : l.1 + size Nil ≡ l.0 + 1 + size (stmts_segs g d x Nil) = stmts_size g (λ y. IsKnown g known k y) x c d w (l.0 + 1) l.1 Nil code a l.4 ok.1 in
        let sized2 : q + size Nil ≡ l.1 + 1 + size (stmts_segs g d y Nil) = stmts_size g (λ y. IsKnown g known k y) y c d (w + loops x) (l.1 + 1) q Nil code a l.6 ok.2 in
        expr_found g known k code out held c d n a s e p l.0 0 (Cons (Fork (stmts_segs g d x Nil) (stmts_segs g d y Nil)) after)
        (adds (greater (longer 3 (plus (stmts_cost g n k x) (run 0))) (longer 2 (plus (stmts_cost g n k y) (run 0)))) (max (max (stmts_height g n.owner k x) 0) (max (stmts_height g n.owner k y) 0)) r) ok.0 l.2
        (fork_found g known k code out held (stmts_segs g d x Nil) (stmts_segs g d y Nil) after l.0 l.1 q (adds (stmts_cost g n k x) (stmts_height g n.owner k x) done) (adds (stmts_cost g n k y) (stmts_height g n.owner k y) done) r l.3 l.5 (omega (arith, sized)) (omega (arith, sized2))
        (stmts_found x c d n out held w (l.0 + 1) l.1 Nil done a s exits within ok.1 l.4 refl) (stmts_found y c d n out held (w + loops x) (l.1 + 1) q Nil done a s exits within ok.2 l.6 refl) refl refl is)
        ∙ some_found _ _ (found_same _ _ refl (omega arith) (omega arith) (omega arith) (omega arith))
    stmt_found (loop x low high ss) c d n out held w p q after r a s exits within ok l is =
        let t : ℕ = turns_of (constant_value g low) (constant_value g high) in
        let body : Segs = stmts_segs g d ss (line 4 Nil) in
        let sized : l.0 + size (line 4 Nil) ≡ p + 1 + 1 + 1 + size (stmts_segs g d ss (line 4 Nil)) = stmts_size g (λ y. IsKnown g known k y) ss (inner c x w q) d (suc w) (p + 1 + 1 + 1) l.0 (line 4 Nil) code (alike_inner g c d x w q a) l.2 (ok.1 w q) in
        let four : size (line 4 Nil) ≡ 4 + size Nil = line_size 4 Nil in
        let last : q ≡ l.0 + 1 + 1 + 1 + 1 + 1 = l.4 in
        let found_body : Found = adds (stmts_cost g (inside n x) k ss) (stmts_height g n.owner k ss) (adds (run 2) 1 (adds (run 1) 2 (adds (run 2) 1 (adds (run 2) 0 done)))) in
        ap (λ y. founds code known out held y p 0) (line_more 0 (Cons (Rep (turns_of (constant_value g low) (constant_value g high)) (stmts_segs g d ss (line 4 Nil))) after))
        ∙ (one_found code known out held (i.Push (constant_value g low)) p (p + 1) 0 1 (line 1 (Cons (Rep (turns_of (constant_value g low) (constant_value g high)) (stmts_segs g d ss (line 4 Nil))) after))
        (adds (run 2) 0 (adds (turns (turns_of (constant_value g low) (constant_value g high)) (adds (stmts_cost g (inside n x) k ss) (stmts_height g n.owner k ss) (adds (run 2) 1 (adds (run 1) 2 (adds (run 2) 1 (adds (run 2) 0 done))))).cost)
        (suc (adds (stmts_cost g (inside n x) k ss) (stmts_height g n.owner k ss) (adds (run 2) 1 (adds (run 1) 2 (adds (run 2) 1 (adds (run 2) 0 done))))).depth) r))
        (record { has = (l.1.0, tt); end = refl }) refl refl refl
        (one_found code known out held (i.StoreLocal (pos w)) (p + 1) (p + 1 + 1) 1 0 (Cons (Rep (turns_of (constant_value g low) (constant_value g high)) (stmts_segs g d ss (line 4 Nil))) after)
        (adds (turns (turns_of (constant_value g low) (constant_value g high)) (adds (stmts_cost g (inside n x) k ss) (stmts_height g n.owner k ss) (adds (run 2) 1 (adds (run 1) 2 (adds (run 2) 1 (adds (run 2) 0 done))))).cost)
        (suc (adds (stmts_cost g (inside n x) k ss) (stmts_height g n.owner k ss) (adds (run 2) 1 (adds (run 1) 2 (adds (run 2) 1 (adds (run 2) 0 done))))).depth) r)
        (record { has = (l.1.1.0, tt); end = refl }) refl refl refl
        (rep_found g known k code out held (turns_of (constant_value g low) (constant_value g high)) ok.0.0 (stmts_segs g d ss (line 4 Nil)) after (p + 1 + 1) (l.0 + 1 + 1 + 1 + 1) q
        (adds (stmts_cost g (inside n x) k ss) (stmts_height g n.owner k ss) (adds (run 2) 1 (adds (run 1) 2 (adds (run 2) 1 (adds (run 2) 0 done))))) r
        l.1.1.1.0 l.3.1.1.1.1.0 (omega (arith, sized, four)) (omega (arith, last)) ok.0.1
        (stmts_found ss (inner c x w q) d (inside n x) (Some q) held (suc w) (p + 1 + 1 + 1) l.0 (line 4 Nil) (adds (run 2) 1 (adds (run 1) 2 (adds (run 2) 1 (adds (run 2) 0 done)))) (alike_inner g c d x w q a) (sees_inside g c n x w q s) refl within (ok.1 w q) l.2
        (counted w l.0 (p + 1 + 1 + 1) (Some q) held l.3)) refl is))
        ∙ some_found _ _ (loop_same (turns_of (constant_value g low) (constant_value g high)) (stmts_cost g (inside n x) k ss) (stmts_height g n.owner k ss) r))
    stmt_found (exit_when e) c d n out held w p q after r a s exits within ok l is =
        expr_found g known k code out held c d n a s e p l.0 0 (Cons Exit after) (adds (run 3) 0 r) ok l.2 (exit_found l.0 q l.1 out held after r l.4 (sym exits ∙ l.3) l.5 is)
        ∙ some_found _ _ (adds_adds (expr_cost g n k e) (run 3) (0 + expr_height g n.owner k e) 0 r ∙ adds_same _ _ _ r (omega arith))
    stmt_found (get dev t) c d n out held w p q after r a s exits within ok l is =
        let pieces = split code p q (index_code g c t) (i.In (pos (device_number g dev)) ∷ put_code g c t) l in
        let later = split_one code (p + length (index_code g c t)) q (i.In (pos (device_number g dev))) (put_code g c t) pieces.1 in
        let low : check_height (range_seen (n.view (ref_name t))) (suc (index_words t)) ≤ suc (index_words t) = check_low (range_seen (n.view (ref_name t))) (suc (index_words t)) in
        index_found g known k code out held c d n a s t p (p + length (index_code g c t)) (line 1 (put_segs g d t after)) (adds (run 10) (suc (index_words t)) (adds (run (put_ticks n t)) (check_height (range_seen (n.view (ref_name t))) (suc (index_words t))) r)) ok.0 pieces.0
        (one_found code known out held (i.In (pos (device_number g dev))) (p + length (index_code g c t)) (p + length (index_code g c t) + 1) (index_words t) (suc (index_words t)) (put_segs g d t after)
        (adds (run (put_ticks n t)) (check_height (range_seen (n.view (ref_name t))) (suc (index_words t))) r) later.0 refl (le-leb 0 (index_words t) (omega arith)) (omega arith)
        (put_found g known k code out held c d n a s t (p + length (index_code g c t) + 1) q after r ok.1 later.1 is))
        ∙ some_found _ _ (adds_three (index_cost g n k t) (run 10) (run (put_ticks n t)) (index_height g n.owner k t) (suc (index_words t)) _ _ r (omega (arith, low)))
    stmt_found (put dev e) c d n out held w p q after r a s exits within ok l is =
        let pieces = split code p q (code_of g c e) (i.Out (pos (device_number g dev)) ∷ []) l in
        expr_found g known k code out held c d n a s e p (p + length (code_of g c e)) 0 (line 1 after) (adds (run 10) 0 r) ok pieces.0
        (one_found code known out held (i.Out (pos (device_number g dev))) (p + length (code_of g c e)) q 1 0 after r pieces.1 refl refl refl is)
        ∙ some_found _ _ (adds_adds (expr_cost g n k e) (run 10) (0 + expr_height g n.owner k e) 0 r ∙ adds_same _ _ _ r (omega arith))
    stmt_found (wait x limit number) c d n out held w p q after r a s exits within ok l is =
        wait_then p q ok.0 (condition_of g c.owner x) (count_value g limit) (pos (count_value g number)) out held after r
        (subst (λ o. IsLine code p q (i.Wait (pos (condition_of g c.owner x)) (pos (count_value g limit)) (pos (count_value g number)) ∷ i.Reenter (pos (monitor_of o)) ∷ [])) ok.1 l) (within ok.0 ok.1) is
    stmt_found (signal x) c d n out held w p q after r a s exits within ok l is = one_found code known out held (i.Signal (pos (condition_of g c.owner x))) p q 0 0 after r l refl refl refl is
    stmt_found (broadcast x) c d n out held w p q after r a s exits within ok l is = one_found code known out held (i.Broadcast (pos (condition_of g c.owner x))) p q 0 0 after r l refl refl refl is
    stmt_found (except e) c d n out held w p q after r a s exits within ok l is = one_found code known out held (i.Raise (pos (count_value g e))) p q 0 0 after r l refl refl refl is
    stmt_found (assert e) c d n out held w p q after r a s exits within ok l is =
        let last : q ≡ l.0 + 1 + 1 + 1 = l.5 in
        expr_found g known k code out held c d n a s e p l.0 0 (Cons (Fork Nil (line 1 Nil)) after) (adds (greater (longer 3 (run 0)) (longer 2 (plus (run 4) (run 0)))) (max 0 (max 0 0)) r) ok l.1
        (fork_found g known k code out held Nil (line 1 Nil) after l.0 (l.0 + 1) q done (adds (run 4) 0 done) r l.2 l.3 (omega arith) (omega (arith, last)) refl
        (one_found code known out held (i.Raise (pos 4)) (l.0 + 1 + 1) (l.0 + 1 + 1 + 1) 0 0 Nil done (record { has = (l.4, tt); end = refl }) refl refl refl refl) refl refl is)
        ∙ some_found _ _ (found_same _ _ refl (omega arith) (omega arith) (omega arith) (omega arith))

    pub stmts_found : (x : Stmts) (c d : Scope) (n : Names) (out held : Option ℕ) (w p q : ℕ) (after : Segs) (r : Found) → Alike g c d → Sees g c n → c.exit ≡ out → Inside c held → SoundAll g (λ y. IsKnown g known k y) c x → EmitsAll g code c w p q x
        → founds code known out held after q 0 ≡ Some r → founds code known out held (stmts_segs g d x after) p 0 ≡ Some (adds (stmts_cost g n k x) (stmts_height g n.owner k x) r)
    stmts_found no_stmts c d n out held w p q after r a s exits within ok l is = subst (λ y. founds code known out held after y 0 ≡ Some r) l is ∙ some_found _ _ (sym (adds_none 0 r (omega arith)))
    stmts_found (stmts x xs) c d n out held w p q after r a s exits within ok l is =
        stmt_found x c d n out held w p l.0 (stmts_segs g d xs after) (adds (stmts_cost g n k xs) (stmts_height g n.owner k xs) r) a s exits within ok.0 l.1
        (stmts_found xs c d n out held (w + loops_in x) l.0 q after r a s exits within ok.1 l.2 is)
        ∙ some_found _ _ (adds_adds (stmt_cost g n k x) (stmts_cost g n k xs) (stmt_height g n.owner k x) (stmts_height g n.owner k xs) r)
