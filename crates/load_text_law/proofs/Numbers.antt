-- The numbers in the statements of the load are within their limits.
use Rattle.std.proofs.Common.{◌≡◌, ◌≤◌, ◌<◌, ◌+◌, ℕ, zero, suc, ◌⊎◌, inl, inr, Bool, true, false, ◌&&◌, nat_le, nat_eq, List, [], ◌∷◌, Option, Some, None, pos, map, All, refl, ap, sym, ◌∙◌, subst, arith, le-leb}
use Rattle.std.specs.Prelude.{nat_lt, int_lt, int_le, ◌+ℤ◌, if◌then◌else◌}
use Rattle.std.proofs.lemmas.Bool.{ltb-true, le-ltb, lt-ltb, lt-leb, leb-true, ne_eqb, and_parts}
use Rattle.std.proofs.lemmas.Nat.{mod_below}
use Rattle.std.proofs.lemmas.List.Elements.{All-nil, All-cons, All-head, All-tail}
use Rattle.syntax_tree.specs.declared.place.Place.{Place}
use Rattle.syntax_tree.specs.Placed.{Constant, literal_constant, named_constant, Stmt, assign, perform_entry, loop, get, put, wait, signal, Stmts, no_stmts, stmts, Routine, Process, process, Prog}
use Rattle.syntax_tree.specs.Bare.{bare, bare_constant, bare_stmt, bare_stmts, bare_handler, bare_routine, bare_process, bare_scalar}
use Rattle.base.specs.Words as words
use Rattle.static_rule.specs.Parts.{FailsOf, FailsAmong}
use Rattle.static_declarations.specs.declared.home.Where.{Where}
use Rattle.static_declarations.specs.Parts.{Part, statement, looped, stmt_parts, stmts_parts, answer_parts, handler_parts, home_of, outside_loops, routine_parts, routines_parts, decls_parts, parts}
use Rattle.static_declarations.specs.declared.home.StmtContext.TheVariants as home_is
use Rattle.static_declarations.specs.Values.{value, constant_place, is_within, out_of}
use Rattle.static_types.specs.Numbers.{crossed_loop, endless_loop, long_loop, bad_number, bad_limit}
use Rattle.static_types.specs.Rules.{statement_rules, StatementFails}
use Rattle.load.specs.declared.program.DrawnProcess.{DrawnProcess}
use Rattle.load.specs.Draws.{below, draw}
use Rattle.load.specs.Program.{drawn, is_even, pause_if, add_entry, pause_entry, load_body, load_handler, load_process, load_program}
use Rattle.load_text_law.proofs.Shapes.{some_there, none_there, none_of, HasShape, has_shape, AreLoad, no_more, one_more}
use Rattle.load_text_law.proofs.Parts.{TwoEntries, two_entries}

-- ---- statements whose numbers are within their limits

abbrev literal_of : {P : Type 0} → Constant P → Option ℕ
literal_of (literal_constant p false n q) = Some n
literal_of _ = None

abbrev turns_fine : Option ℕ → Option ℕ → Bool
turns_fine (Some a) (Some b) = nat_le a b && (nat_lt b 2147483647 && nat_lt b (a + 1000000))
turns_fine _ _ = false

abbrev within : ℕ → ℕ → Option ℕ → Bool
within low high None = false
within low high (Some n) = nat_le low n && nat_le n high

abbrev mutual
  stmt_fine : {P : Type 0} → Stmt P → Bool
  stmt_fine (assign r e) = true
  stmt_fine (perform_entry p m e q es) = true
  stmt_fine (loop p n q low high ss) = turns_fine (literal_of low) (literal_of high) && stmts_fine ss
  stmt_fine (get p d q r) = true
  stmt_fine (put p d q e) = true
  stmt_fine (wait p c q limit number) = within 1 1000000000 (literal_of limit) && within 10 999 (literal_of number)
  stmt_fine (signal p c q) = true
  stmt_fine _ = false

  stmts_fine : {P : Type 0} → Stmts P → Bool
  stmts_fine no_stmts = true
  stmts_fine (stmts s ss) = stmt_fine s && stmts_fine ss

literal_bare : (c : Constant Place) → literal_of (bare_constant c) ≡ literal_of c
literal_bare (literal_constant p true n q) = refl
literal_bare (literal_constant p false n q) = refl
literal_bare (named_constant p s n q) = refl

mutual
  stmt_bare : (s : Stmt Place) → stmt_fine (bare_stmt s) ≡ stmt_fine s
  stmt_bare (loop p n q low high ss) = λ i. turns_fine (literal_bare low i) (literal_bare high i) && stmts_bare ss i
  stmt_bare (wait p c q limit number) = λ i. within 1 1000000000 (literal_bare limit i) && within 10 999 (literal_bare number i)
  stmt_bare _ = refl

  stmts_bare : (ss : Stmts Place) → stmts_fine (bare_stmts ss) ≡ stmts_fine ss
  stmts_bare no_stmts = refl
  stmts_bare (stmts s ss) = λ i. stmt_bare s i && stmts_bare ss i

-- ---- their parts keep to the rules for numbers

record IsFine (g : Prog Place) (x : Part) : Type 0 where
  crossed : crossed_loop (value g) x ≡ None
  endless : endless_loop (value g) x ≡ None
  long : long_loop (value g) x ≡ None
  number : bad_number (value g) x ≡ None
  limit : bad_limit (value g) x ≡ None

is_worth : (g : Prog Place) (c : Constant Place) (n : ℕ) → literal_of c ≡ Some n → value g c ≡ pos n
is_worth g (literal_constant p true m q) n same = cc
is_worth g (literal_constant p false m q) n same = let is : m ≡ n = cc in ap (λ k. pos k) is
is_worth g (named_constant p s m q) n same = cc

kept_within : (g : Prog Place) (low high : ℕ) (c : Constant Place) → within low high (literal_of c) ≡ true → out_of (value g) low high c ≡ None
kept_within g low high c fine = by (literal_of c) refl fine
  where
    by : (o : Option ℕ) → literal_of c ≡ o → within low high o ≡ true → out_of (value g) low high c ≡ None
    by None is ok = absurd cc
    by (Some n) is ok =
        let o : Option Place = None in
        ap (λ z. if is_within low high z then o else Some (constant_place c)) (is_worth g c n is) ∙ ap (λ b. if b then o else Some (constant_place c)) ok

loop_fine : (g : Prog Place) (here : Where) (p : Place) (name : List ℕ) (q : Place) (low high : Constant Place) (ss : Stmts Place)
    → turns_fine (literal_of low) (literal_of high) ≡ true → IsFine g (statement here (loop p name q low high ss))
loop_fine g here p name q low high ss fine = by (literal_of low) (literal_of high) refl refl fine
  where
    by : (a b : Option ℕ) → literal_of low ≡ a → literal_of high ≡ b → turns_fine a b ≡ true → IsFine g (statement here (loop p name q low high ss))
    by None b is_low is_high ok = absurd cc
    by (Some a) None is_low is_high ok = absurd cc
    by (Some a) (Some b) is_low is_high ok =
        let split = and_parts (nat_le a b) (nat_lt b 2147483647 && nat_lt b (a + 1000000)) ok in
        let rest = and_parts (nat_lt b 2147483647) (nat_lt b (a + 1000000)) split.1 in
        let up : a ≤ b = leb-true a b split.0 in
        let word : b < 2147483647 = ltb-true b 2147483647 rest.0 in
        let near : b < a + 1000000 = ltb-true b (a + 1000000) rest.1 in
        let not_crossed : nat_lt b a ≡ false = le-ltb b a up in
        let not_endless : nat_eq b 2147483647 ≡ false = ne_eqb b 2147483647 (λ e. omega (arith, e, word)) in
        let not_long : nat_le (a + 1000000) b ≡ false = lt-leb (a + 1000000) b near in
        let la = is_worth g low a is_low in
        let lb = is_worth g high b is_high in
        let o : Option Place = None in
        record {
          crossed = (λ i. if int_lt (lb i) (la i) then Some (constant_place low) else o) ∙ ap (λ t. if t then Some (constant_place low) else o) not_crossed;
          endless = (λ i. if words.same (lb i) (pos 2147483647) then Some (constant_place high) else o) ∙ ap (λ t. if t then Some (constant_place high) else o) not_endless;
          long = (λ i. if int_le (la i +ℤ pos 1000000) (lb i) then Some p else o) ∙ ap (λ t. if t then Some p else o) not_long;
          number = refl;
          limit = refl;
        }

mutual
  stmt_kept : (g : Prog Place) (here : Where) (s : Stmt Place) (more : List Part) → stmt_fine s ≡ true → All (IsFine g) more → All (IsFine g) (stmt_parts here s more)
  stmt_kept g here (assign r e) more ok all = All-cons (IsFine g) (statement here (assign r e)) more (record { crossed = refl; endless = refl; long = refl; number = refl; limit = refl }) all
  stmt_kept g here (perform_entry p m e q es) more ok all =
      All-cons (IsFine g) (statement here (perform_entry p m e q es)) more (record { crossed = refl; endless = refl; long = refl; number = refl; limit = refl }) all
  stmt_kept g here (loop p n q low high ss) more ok all =
      let split = and_parts (turns_fine (literal_of low) (literal_of high)) (stmts_fine ss) ok in
      All-cons (IsFine g) (statement here (loop p n q low high ss)) (stmts_parts (looped here) ss more) (loop_fine g here p n q low high ss split.0) (stmts_kept g (looped here) ss more split.1 all)
  stmt_kept g here (get p d q r) more ok all = All-cons (IsFine g) (statement here (get p d q r)) more (record { crossed = refl; endless = refl; long = refl; number = refl; limit = refl }) all
  stmt_kept g here (put p d q e) more ok all = All-cons (IsFine g) (statement here (put p d q e)) more (record { crossed = refl; endless = refl; long = refl; number = refl; limit = refl }) all
  stmt_kept g here (wait p c q limit number) more ok all =
      let split = and_parts (within 1 1000000000 (literal_of limit)) (within 10 999 (literal_of number)) ok in
      All-cons (IsFine g) (statement here (wait p c q limit number)) more
      (record { crossed = refl; endless = refl; long = refl; number = kept_within g 10 999 number split.1; limit = kept_within g 1 1000000000 limit split.0 }) all
  stmt_kept g here (signal p c q) more ok all = All-cons (IsFine g) (statement here (signal p c q)) more (record { crossed = refl; endless = refl; long = refl; number = refl; limit = refl }) all
  stmt_kept g here s more ok all = absurd cc

  stmts_kept : (g : Prog Place) (here : Where) (ss : Stmts Place) (more : List Part) → stmts_fine ss ≡ true → All (IsFine g) more → All (IsFine g) (stmts_parts here ss more)
  stmts_kept g here no_stmts more ok all = all
  stmts_kept g here (stmts s ss) more ok all =
      let split = and_parts (stmt_fine s) (stmts_fine ss) ok in
      stmt_kept g here s (stmts_parts here ss more) split.0 (stmts_kept g here ss more split.1 all)

-- ---- the load

pub few_turns : (key at : ℕ) → (drawn key at).turns < 10
unfolding draw below
few_turns key at = mod_below _ 10 (omega arith)

last_fine : (even : Bool) (ss : Stmts (Unit {0})) → stmts_fine ss ≡ true → stmts_fine (pause_if even ss) ≡ true
last_fine true ss ok = ok
last_fine false ss ok = ok

body_fine : (number : ℕ) (d : DrawnProcess) → d.turns < 10 → stmts_fine (load_body number d) ≡ true
body_fine number d low =
    let a : nat_le 1 (1 + d.turns) ≡ true = le-leb 1 (1 + d.turns) (omega arith) in
    let b : nat_lt (1 + d.turns) 2147483647 ≡ true = lt-ltb (1 + d.turns) 2147483647 (omega arith) in
    let c : nat_lt (1 + d.turns) (1 + 1000000) ≡ true = lt-ltb (1 + d.turns) (1 + 1000000) (omega arith) in
    let ends = last_fine (is_even number) _ refl in
    λ i. ((a i && (b i && c i)) && true) && ends i

-- a statement list that is one of the load's, apart from places
as_load : (ss : Stmts Place) (ts : Stmts (Unit {0})) → bare_stmts ss ≡ ts → stmts_fine ts ≡ true → stmts_fine ss ≡ true
as_load ss ts same ok = sym (stmts_bare ss) ∙ ap (λ (us : Stmts (Unit {0})). stmts_fine us) same ∙ ok

module _ (key count : ℕ) (g : Prog Place) (s : HasShape key count g.decls) where
  entry_fine : (r : Routine Place) (body : Stmts (Unit {0})) → bare_stmts r.body ≡ body → stmts_fine body ≡ true → r.result ≡ None → (more : List Part)
      → All (IsFine g) more → All (IsFine g) (routine_parts true r more)
  entry_fine r body same ok none more all =
      stmts_kept g (outside_loops (home_of true r.kind r.place)) r.body (answer_parts r.place r.result r.value more) (as_load r.body body same ok)
      (subst (λ o. All (IsFine g) (answer_parts r.place o r.value more)) (sym none) all)

  process_fine : (p : Process Place) (number : ℕ) (d : DrawnProcess) → d.turns < 10 → bare_process p ≡ load_process count number d → (more : List Part)
      → All (IsFine g) more → All (IsFine g) (decls_parts (process p ∷ []) more)
  process_fine p number d low same more all =
      let there = some_there bare_handler p.handler load_handler (ap (λ x. x.handler) same) in
      let here = outside_loops home_is.Free in
      let own = none_of bare_routine p.routines (ap (λ x. x.routines) same) in
      let after = stmts_kept g here there.one.body more (as_load there.one.body load_handler.body (ap (λ h. h.body) there.like) refl) all in
      let handled = subst (λ h. All (IsFine g) (handler_parts h more)) (sym there.is) after in
      let whole = stmts_kept g here p.body (handler_parts p.handler more) (as_load p.body (load_body number d) (ap (λ x. x.body) same) (body_fine number d low)) handled in
      subst (λ rs. All (IsFine g) (routines_parts false rs (stmts_parts here p.body (handler_parts p.handler more)))) (sym own) whole

  processes_fine : (before left : ℕ) (list : List (Process Place)) → AreLoad key count before left list → All (IsFine g) (decls_parts (map (λ p. process p) list) [])
  processes_fine before zero [] no_more = All-nil (IsFine g)
  processes_fine before zero (p ∷ others) are = elim are [ ]
  processes_fine before (suc left) [] are = elim are [ ]
  processes_fine before (suc left) (p ∷ others) (one_more _ _ same are) =
      process_fine p (suc before) (drawn key before) (few_turns key before) same (decls_parts (map (λ p. process p) others) []) (processes_fine (suc before) left others are)

  entries : TwoEntries s.m.entries
  entries = two_entries s.m s.like

  entries_fine : (more : List Part) → All (IsFine g) more → All (IsFine g) (routines_parts true s.m.entries more)
  entries_fine more all =
      let pause = entry_fine entries.pause pause_entry.body (ap (λ r. r.body) entries.pause_like) refl (none_there bare_scalar entries.pause.result (ap (λ r. r.result) entries.pause_like)) more all in
      let add = entry_fine entries.add add_entry.body (ap (λ r. r.body) entries.add_like) refl (none_there bare_scalar entries.add.result (ap (λ r. r.result) entries.add_like))
      (routine_parts true entries.pause more) pause in
      subst (λ rs. All (IsFine g) (routines_parts true rs more)) (sym entries.is) add

  all_fine : All (IsFine g) (parts g)
  all_fine = subst (λ ds. All (IsFine g) (decls_parts ds [])) (sym s.is)
      (entries_fine (decls_parts (map (λ p. process p) s.list) []) (processes_fine 0 count s.list s.are))

-- ---- the rules that are left

pub refuted : (o : Option Place) (place : Place) → o ≡ None → o ≡ Some place → ⊥
refuted None place none some = cc
refuted (Some p) place none some = cc

only_others : (g : Prog Place) (x : Part) → IsFine g x → (number : ℕ) (place : Place) → FailsOf (statement_rules g) x number place → (number ≡ 30) ⊎ ((number ≡ 34) ⊎ (number ≡ 38))
unfolding statement_rules
only_others g x fine number place (inl types) = inl (sym types.0)
only_others g x fine number place (inr (inl e)) = absurd (refuted (crossed_loop (value g) x) place fine.crossed e.1)
only_others g x fine number place (inr (inr (inl e))) = absurd (refuted (endless_loop (value g) x) place fine.endless e.1)
only_others g x fine number place (inr (inr (inr (inl e)))) = absurd (refuted (long_loop (value g) x) place fine.long e.1)
only_others g x fine number place (inr (inr (inr (inr (inl stray))))) = inr (inl (sym stray.0))
only_others g x fine number place (inr (inr (inr (inr (inr (inl wrong)))))) = inr (inr (sym wrong.0))
only_others g x fine number place (inr (inr (inr (inr (inr (inr (inl e))))))) = absurd (refuted (bad_number (value g) x) place fine.number e.1)
only_others g x fine number place (inr (inr (inr (inr (inr (inr (inr (inl e)))))))) = absurd (refuted (bad_limit (value g) x) place fine.limit e.1)
only_others g x fine number place (inr (inr (inr (inr (inr (inr (inr (inr impossible)))))))) = absurd impossible

among : (g : Prog Place) (xs : List Part) → All (IsFine g) xs → (number : ℕ) (place : Place) → FailsAmong (statement_rules g) xs number place → (number ≡ 30) ⊎ ((number ≡ 34) ⊎ (number ≡ 38))
among g [] all number place fails = absurd fails
among g (x ∷ xs) all number place (inl here) = only_others g x (All-head (IsFine g) x xs all) number place here
among g (x ∷ xs) all number place (inr more) = among g xs (All-tail (IsFine g) x xs all) number place more

pub numbers_kept : (key count : ℕ) (g : Prog Place) → bare g ≡ load_program key count → (number : ℕ) (place : Place)
    → StatementFails g number place → (number ≡ 30) ⊎ ((number ≡ 34) ⊎ (number ≡ 38))
numbers_kept key count g same number place fails = among g (parts g) (all_fine key count g (has_shape key count g same)) number place fails
