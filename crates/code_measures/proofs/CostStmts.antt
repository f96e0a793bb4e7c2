-- The measure of statements.
use Rattle.std.proofs.Common.{◌≡◌, ◌≤◌, ◌+◌, ℕ, ℤ, pos, negsuc, List, [], ◌∷◌, Option, Some, None, option_map, refl, ap, subst, ◌∙◌, arith, max}
use Rattle.syntax_tree.specs.Plain.{Constant, Expr, Ref, whole, part, Stmt, assign, assign_entry, assign_empty, perform, perform_entry, when, when_else, loop, exit_when, get, put, wait, signal, broadcast, except, assert, Stmts, no_stmts, stmts, Program}
use Rattle.base.specs.Capped.{cap}
use Rattle.base.specs.declared.capped.Cost.{Cost}
use Rattle.source_semantics.specs.Names.{constant_value, as_count}
use Rattle.code_spec.specs.Layout as layout
use Rattle.code_spec.specs.Layout.{Spot, Scope, spot_of, in_frame, in_process, in_monitor}
use Rattle.code_spec.specs.Code.{ref_name}
use Rattle.code_spec.specs.Emits.{counter_place, inner, turns_of}
use Rattle.code_spec.specs.Numbering.{routine_in, entry_in}
use Rattle.valid_image.specs.Found.{plus, greater, longer}
use Rattle.code_cost_spec.specs.Names.{Calls, Names, view_of, inside, names_of, range_seen}
use Rattle.code_cost_spec.specs.Costs.{run, check_ticks, store_ticks, put_ticks, expr_cost, index_cost, call_cost, args_cost, stmt_cost, stmts_cost}
use Rattle.code_cost_spec.specs.Heights.{expr_height, index_height, index_words, target_height, call_height, args_height, stmt_height, stmts_height}
use Rattle.code_cost_spec.specs.Lengths.{check_length, expr_length, index_length, put_length, call_length, args_length, stmt_length, stmts_length}
use Rattle.code_measures.specs.Sound.{SoundExpr, SoundIndex, Sound, SoundAll}
use Rattle.code_measures.proofs.Seen.{Sees, sees, sees_inside}
use Rattle.codegen_spec.specs.Told.{fit, told_spot, told_callee, within}
use Rattle.codegen_spec.specs.Made.{turns_between, worth}
use Rattle.code_cost.specs.declared.measure.Measure.{Measure}
use Rattle.code_cost.specs.declared.measure.RoutineMeasure.{RoutineMeasure}
use Rattle.code_cost.specs.Sums.{joined, above, forked, looped, of, nothing}
use Rattle.code_cost.specs.Forms.{store_time, check_of, put_size, call_size, expr_size, args_size, index_size, assigned, stmt_size, stmts_size}
use Rattle.code_cost.specs.Forms as forms
use Rattle.code_measures.specs.MeasuredTexts.{measured, IsRow, BoundsFit, AllBoundsFit}
use Rattle.code_measures.proofs.Sums.{same, joined_is, above_is, forked_is, looped_is, of_is, measured_same}
use Rattle.code_measures.proofs.CostExprs.{Alike, alike_spot, check_is, expr_is, args_is, one_more, named_call}

pub none : nothing ≡ measured (run 0) 0 0
none = same (omega arith) (omega arith) (omega arith) (omega arith) (omega arith)

-- ---- stores

store_is : (s : Option Spot) (r : Ref) → store_time (told_spot s) r ≡ store_ticks (option_map view_of s) r
store_is None r = refl
store_is (Some s) r = by_area s.area r
  where
    by_area : (a : layout.Area) (r : Ref) → store_time (told_spot (Some (record s { area = a }))) r ≡ store_ticks (option_map view_of (Some (record s { area = a }))) r
    by_area in_frame (whole x) = refl
    by_area in_process (whole x) = refl
    by_area in_monitor (whole x) = refl
    by_area in_frame (part x e) = refl
    by_area in_process (part x e) = refl
    by_area in_monitor (part x e) = refl

store_few : (s : Option Spot) (r : Ref) → store_ticks (option_map view_of s) r ≤ 100
store_few None r = omega arith
store_few (Some s) r = by_area s.area r
  where
    by_area : (a : layout.Area) (r : Ref) → store_ticks (option_map view_of (Some (record s { area = a }))) r ≤ 100
    by_area in_frame (whole x) = omega arith
    by_area in_process (whole x) = omega arith
    by_area in_monitor (whole x) = omega arith
    by_area in_frame (part x e) = omega arith
    by_area in_process (part x e) = omega arith
    by_area in_monitor (part x e) = omega arith

check_here : (s : Option Spot) → check_of (told_spot s) ≡ measured (run (check_ticks (range_seen (option_map view_of s)))) 0 (check_length (range_seen (option_map view_of s)))
check_here None = none
check_here (Some s) = check_is s.place.range

put_here : (s : Option Spot) (r : Ref) → put_size (told_spot s) r ≡ measured (run (check_ticks (range_seen (option_map view_of s)) + store_ticks (option_map view_of s) r)) 0 (check_length (range_seen (option_map view_of s)) + 1)
put_here s r =
    let v = option_map view_of s in
    ap (λ y. joined y (of (store_time (told_spot s) r) 0 1)) (check_here s)
    ∙ ap (λ t. joined (measured (run (check_ticks (range_seen v))) 0 (check_length (range_seen v))) (of t 0 1)) (store_is s r)
    ∙ ap (λ y. joined (measured (run (check_ticks (range_seen v))) 0 (check_length (range_seen v))) y) (of_is (store_ticks v r) 0 1 (store_few s r) (omega arith) (omega arith))
    ∙ joined_is (run (check_ticks (range_seen v))) (run (store_ticks v r)) 0 0 (check_length (range_seen v)) 1
    ∙ measured_same (plus (run (check_ticks (range_seen v))) (run (store_ticks v r))) (run (check_ticks (range_seen v) + store_ticks v r)) (max 0 0) 0 (check_length (range_seen v) + 1) (check_length (range_seen v) + 1) refl refl refl (omega arith) refl

module _ (g : Program) (rows : List RoutineMeasure) (k : Calls) where
  -- the check and the store of what is assigned
  put_is : (d c : Scope) (n : Names) (r : Ref) → Alike d c → Sees g c n → put_size (told_spot (spot_of g d (ref_name r))) r ≡ measured (run (put_ticks n r)) 0 (put_length n r)
  put_is d c n r a s =
      ap (λ o. put_size (told_spot o) r) (alike_spot g d c (ref_name r) a)
      ∙ put_here (spot_of g c (ref_name r)) r
      ∙ ap (λ v. measured (run (check_ticks (range_seen v) + store_ticks v r)) 0 (check_length (range_seen v) + 1)) (s.view (ref_name r))

  index_is : (d c : Scope) (n : Names) (r : Ref) → Alike d c → Sees g c n → SoundIndex g (λ t. IsRow g rows k t) c r
      → index_size g d rows r ≡ measured (index_cost g n k r) (index_height g n.owner k r) (index_length g n.owner r)
  index_is d c n (whole x) a s ok = none
  index_is d c n (part x e) a s ok = expr_is g rows k d c n e a s ok

  words_are : (r : Ref) → forms.index_words r ≡ index_words r
  words_are (whole x) = refl
  words_are (part x e) = refl

  -- an assignment of what is measured
  assigned_is : (d c : Scope) (n : Names) (r : Ref) (value : Measure) (v w : Cost) (h m l : ℕ) (store : Measure) → Alike d c → Sees g c n → SoundIndex g (λ t. IsRow g rows k t) c r
      → value ≡ measured v h m → store ≡ measured w 0 l
      → assigned g d rows r value store ≡ measured (plus (index_cost g n k r) (plus v w)) (target_height g n.owner k r h) (index_length g n.owner r + (m + l))
  assigned_is d c n r value v w h m l store a s ok value_is store_is =
      let x = index_cost g n k r in
      let j = index_height g n.owner k r in
      let i = index_length g n.owner r in
      ap (λ y. joined (joined y (above (forms.index_words r) value)) store) (index_is d c n r a s ok)
      ∙ ap (λ y. joined (joined (measured x j i) (above (forms.index_words r) y)) store) value_is
      ∙ ap (λ y. joined (joined (measured x j i) (above y (measured v h m))) store) (words_are r)
      ∙ ap (λ y. joined (joined (measured x j i) y) store) (above_is (index_words r) v h m)
      ∙ ap (λ y. joined y store) (joined_is x v j (index_words r + h) i m)
      ∙ ap (λ y. joined (measured (plus x v) (max j (index_words r + h)) (i + m)) y) store_is
      ∙ joined_is (plus x v) w (max j (index_words r + h)) 0 (i + m) l
      ∙ measured_same _ _ _ _ _ _ (omega arith) (omega arith) (omega arith) (omega arith) (omega arith)

  limit_is : (z : ℤ) → cap (as_count (fit z)) ≡ cap (as_count z)
  limit_is (pos n) = omega arith
  limit_is (negsuc n) = refl

  abbrev pub StmtIs : (d : Scope) (n : Names) → Stmt → Type 0
  StmtIs d n s = stmt_size g d rows s ≡ measured (stmt_cost g n k s) (stmt_height g n.owner k s) (stmt_length g n s)

  -- what comes behind an expression that is tested
  tested : (d : Scope) (n : Names) (e : Expr) (x : Measure) (w : Cost) (j m : ℕ) → expr_size g d rows e ≡ measured (expr_cost g n k e) (expr_height g n.owner k e) (expr_length g n.owner e) → x ≡ measured w j m
      → joined (expr_size g d rows e) x ≡ measured (plus (expr_cost g n k e) w) (max (expr_height g n.owner k e) j) (expr_length g n.owner e + m)
  tested d n e x w j m is also =
      ap (λ y. joined y x) is ∙ ap (λ y. joined (measured (expr_cost g n k e) (expr_height g n.owner k e) (expr_length g n.owner e)) y) also
      ∙ joined_is (expr_cost g n k e) w (expr_height g n.owner k e) j (expr_length g n.owner e) m

  abbrev pub AllAre : (d : Scope) (n : Names) (before : Cost) (h m : ℕ) → Stmts → Type 0
  AllAre d n before h m ss = stmts_size g d rows (measured before h m) ss ≡ measured (plus before (stmts_cost g n k ss)) (max h (stmts_height g n.owner k ss)) (m + stmts_length g n ss)

  from_nothing : (d : Scope) (n : Names) (ss : Stmts) → AllAre d n (run 0) 0 0 ss → stmts_size g d rows nothing ss ≡ measured (stmts_cost g n k ss) (stmts_height g n.owner k ss) (stmts_length g n ss)
  from_nothing d n ss all =
      ap (λ y. stmts_size g d rows y ss) none ∙ all ∙ measured_same _ _ _ _ _ _ (omega arith) (omega arith) (omega arith) (omega arith) (omega arith)

  turns_are : (low high : Constant) → fit (constant_value g low) ≡ constant_value g low → fit (constant_value g high) ≡ constant_value g high → turns_between g low high ≡ turns_of (constant_value g low) (constant_value g high)
  turns_are low high l h = ap (λ z. turns_of z (worth g high)) l ∙ ap (λ z. turns_of (constant_value g low) z) h

  mutual
    stmt_is : (d c : Scope) (n : Names) (st : Stmt) → Alike d c → Sees g c n → Sound g (λ t. IsRow g rows k t) c st → BoundsFit g st → StmtIs d n st
    stmt_is d c n (assign r e) a s ok fits =
        assigned_is d c n r (expr_size g d rows e) (expr_cost g n k e) (run (put_ticks n r)) (expr_height g n.owner k e) (expr_length g n.owner e) (put_length n r) (put_size (told_spot (spot_of g d (ref_name r))) r) a s ok.0
        (expr_is g rows k d c n e a s ok.2) (put_is d c n r a s)
    stmt_is d c n (assign_entry r m e es) a s ok fits =
        assigned_is d c n r (call_size rows (told_callee g (entry_in g m e)) (λ rs. args_size g d rows 0 nothing es rs))
        (call_cost k (entry_in g m e) (λ ps. args_cost g n k es ps)) (run (put_ticks n r)) (call_height g k (entry_in g m e) (args_height g n.owner k es)) (call_length (entry_in g m e) (λ ps. args_length g n.owner es ps)) (put_length n r)
        (put_size (told_spot (spot_of g d (ref_name r))) r) a s ok.0
        (let o = ok.2 in let t = o.0 in named_call g rows k d n (entry_in g m e) t es o.2 o.3 (args_is g rows k d c n (run 0) 0 0 es t.routine.params [] a s o.5 (omega arith)))
        (put_is d c n r a s)
    stmt_is d c n (assign_empty r x) a s ok fits =
        ap (λ o. assigned g d rows r (of 3 1 1) (of (store_time (told_spot o) r) 0 1)) (alike_spot g d c (ref_name r) a)
        ∙ ap (λ t. assigned g d rows r (of 3 1 1) (of t 0 1)) (store_is (spot_of g c (ref_name r)) r)
        ∙ assigned_is d c n r (of 3 1 1) (run 3) (run (store_ticks (option_map view_of (spot_of g c (ref_name r))) r)) 1 1 1 (of (store_ticks (option_map view_of (spot_of g c (ref_name r))) r) 0 1) a s ok.0
        (of_is 3 1 1 (omega arith) (omega arith) (omega arith)) (of_is (store_ticks (option_map view_of (spot_of g c (ref_name r))) r) 0 1 (store_few (spot_of g c (ref_name r)) r) (omega arith) (omega arith))
        ∙ ap (λ v. measured (plus (index_cost g n k r) (plus (run 3) (run (store_ticks v r)))) (target_height g n.owner k r 1) (index_length g n.owner r + (1 + 1))) (s.view (ref_name r))
        ∙ measured_same _ _ _ _ _ _ refl refl refl refl (omega arith)
    stmt_is d c n (perform f es) a s ok fits =
        ap (λ o. call_size rows (told_callee g (routine_in g o f)) (λ rs. args_size g d rows 0 nothing es rs)) (a.owner ∙ s.owner)
        ∙ (let t = ok.0 in named_call g rows k d n (routine_in g n.owner f) t es (subst (λ o. routine_in g o f ≡ Some t) s.owner ok.1) ok.2 (args_is g rows k d c n (run 0) 0 0 es t.routine.params [] a s ok.4 (omega arith)))
    stmt_is d c n (perform_entry m e es) a s ok fits =
        let t = ok.0 in named_call g rows k d n (entry_in g m e) t es ok.1 ok.2 (args_is g rows k d c n (run 0) 0 0 es t.routine.params [] a s ok.4 (omega arith))
    stmt_is d c n (when e x) a s ok fits =
        tested d n e (forked (stmts_size g d rows nothing x) nothing) (longer 2 (greater (longer 1 (stmts_cost g n k x)) (run 0))) (max (stmts_height g n.owner k x) 0) (2 + (stmts_length g n x + 0)) (expr_is g rows k d c n e a s ok.0)
        (ap (λ y. forked y nothing) (from_nothing d n x (stmts_are d c n (run 0) 0 0 x a s ok.1 fits)) ∙ ap (λ y. forked (measured (stmts_cost g n k x) (stmts_height g n.owner k x) (stmts_length g n x)) y) none
        ∙ forked_is (stmts_cost g n k x) (run 0) (stmts_height g n.owner k x) 0 (stmts_length g n x) 0)
        ∙ measured_same _ _ _ _ _ _ refl refl refl (omega arith) (omega arith)
    stmt_is d c n (when_else e x y) a s ok fits =
        tested d n e (forked (stmts_size g d rows nothing x) (stmts_size g d rows nothing y)) (longer 2 (greater (longer 1 (stmts_cost g n k x)) (stmts_cost g n k y))) (max (stmts_height g n.owner k x) (stmts_height g n.owner k y)) (2 + (stmts_length g n x + stmts_length g n y)) (expr_is g rows k d c n e a s ok.0)
        (ap (λ z. forked z (stmts_size g d rows nothing y)) (from_nothing d n x (stmts_are d c n (run 0) 0 0 x a s ok.1 fits.0))
        ∙ ap (λ z. forked (measured (stmts_cost g n k x) (stmts_height g n.owner k x) (stmts_length g n x)) z) (from_nothing d n y (stmts_are d c n (run 0) 0 0 y a s ok.2 fits.1))
        ∙ forked_is (stmts_cost g n k x) (stmts_cost g n k y) (stmts_height g n.owner k x) (stmts_height g n.owner k y) (stmts_length g n x) (stmts_length g n y))
        ∙ measured_same _ _ _ _ _ _ refl refl refl (omega arith) (omega arith)
    stmt_is d c n (loop x low high ss) a s ok fits =
        let t = turns_of (constant_value g low) (constant_value g high) in
        let m = inside n x in
        let like : Alike (within d x 0) (inner c x 0 0) = record { own = ap (λ ps. counter_place x 0 ∷ ps) a.own; owner = a.owner } in
        ap (λ y. looped (turns_between g low high) y) (from_nothing (within d x 0) m ss (stmts_are (within d x 0) (inner c x 0 0) m (run 0) 0 0 ss like (sees_inside g c n x 0 0 s) (ok.1 0 0) fits.2))
        ∙ ap (λ y. looped y (measured (stmts_cost g m k ss) (stmts_height g n.owner k ss) (stmts_length g m ss))) (turns_are low high fits.0 fits.1)
        ∙ looped_is t (stmts_cost g m k ss) (stmts_height g n.owner k ss) (stmts_length g m ss)
        ∙ measured_same _ _ _ _ _ _ refl refl refl refl (omega arith)
    stmt_is d c n (exit_when e) a s ok fits = one_more g rows k d n e 3 1 (expr_is g rows k d c n e a s ok) (omega arith) (omega arith)
    stmt_is d c n (get dev r) a s ok fits =
        assigned_is d c n r (of 10 1 1) (run 10) (run (put_ticks n r)) 1 1 (put_length n r) (put_size (told_spot (spot_of g d (ref_name r))) r) a s ok.0
        (of_is 10 1 1 (omega arith) (omega arith) (omega arith)) (put_is d c n r a s)
    stmt_is d c n (put dev e) a s ok fits = one_more g rows k d n e 10 1 (expr_is g rows k d c n e a s ok) (omega arith) (omega arith)
    stmt_is d c n (wait x limit number) a s ok fits = same (omega arith) (limit_is (constant_value g limit)) (omega arith) (omega arith) (omega arith)
    stmt_is d c n (signal x) a s ok fits = of_is 5 0 1 (omega arith) (omega arith) (omega arith)
    stmt_is d c n (broadcast x) a s ok fits = of_is 5 0 1 (omega arith) (omega arith) (omega arith)
    stmt_is d c n (except e) a s ok fits = of_is 4 0 1 (omega arith) (omega arith) (omega arith)
    stmt_is d c n (assert e) a s ok fits = one_more g rows k d n e 6 3 (expr_is g rows k d c n e a s ok) (omega arith) (omega arith) ∙ measured_same _ _ _ _ _ _ (omega arith) (omega arith) (omega arith) refl refl

    stmts_are : (d c : Scope) (n : Names) (before : Cost) (h m : ℕ) (ss : Stmts) → Alike d c → Sees g c n → SoundAll g (λ t. IsRow g rows k t) c ss → AllBoundsFit g ss → AllAre d n before h m ss
    stmts_are d c n before h m no_stmts a s ok fits = measured_same _ _ _ _ _ _ (omega arith) (omega arith) (omega arith) (omega arith) (omega arith)
    stmts_are d c n before h m (stmts st ss) a s ok fits =
        let x = stmt_cost g n k st in
        let j = stmt_height g n.owner k st in
        let l = stmt_length g n st in
        ap (λ y. stmts_size g d rows (joined (measured before h m) y) ss) (stmt_is d c n st a s ok.0 fits.0)
        ∙ ap (λ y. stmts_size g d rows y ss) (joined_is before x h j m l)
        ∙ stmts_are d c n (plus before x) (max h j) (m + l) ss a s ok.1 fits.1
        ∙ measured_same _ _ _ _ _ _ (omega arith) (omega arith) (omega arith) (omega arith) (omega arith)

pub expressions : (g : Program) (rows : List RoutineMeasure) (k : Calls) (c : Scope) (e : Expr) → SoundExpr g (λ t. IsRow g rows k t) c e → expr_size g c rows e ≡ measured (expr_cost g (names_of g c) k e) (expr_height g c.owner k e) (expr_length g c.owner e)
expressions g rows k c e ok = expr_is g rows k c c (names_of g c) e (record { own = refl; owner = refl }) (sees g c) ok

pub statements : (g : Program) (rows : List RoutineMeasure) (k : Calls) (c : Scope) (ss : Stmts) → SoundAll g (λ t. IsRow g rows k t) c ss → AllBoundsFit g ss
    → stmts_size g c rows nothing ss ≡ measured (stmts_cost g (names_of g c) k ss) (stmts_height g c.owner k ss) (stmts_length g (names_of g c) ss)
statements g rows k c ss ok fits = from_nothing g rows k c (names_of g c) ss (stmts_are g rows k c c (names_of g c) (run 0) 0 0 ss (record { own = refl; owner = refl }) (sees g c) ok fits)
