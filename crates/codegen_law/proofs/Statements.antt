-- The code that the generator makes of statements is that of the statements.
use Rattle.std.proofs.Common.{◌≡◌, Bool, true, ◌+◌, ◌≤◌, min, ℕ, ℤ, pos, List, [], ◌∷◌, ◌++◌, map, length, Option, Some, None, option_map, refl, sym, ap, subst, ◌∙◌, append_assoc, arith}
use Rattle.std.proofs.lemmas.List.{map-append, length-append}
use Rattle.syntax_tree.specs.Plain.{Expr, Ref, whole, part, Stmt, exit_when, assert, Stmts, Program}
use Rattle.machine_isa.specs.declared.instr.Instr.{Instr}
use Rattle.machine_isa.specs.declared.instr.Instr.TheVariants as i
use Rattle.code_spec.specs.Layout.{Area, in_frame, in_process, in_monitor, Shape, single, array, Spot, Scope, spot_of, loops_in, loops}
use Rattle.code_spec.specs.Code.{store, store_spot, store_shape, store_element, store_code, range_of_spot, range_code, index_code, put_code}
use Rattle.code_spec.specs.Emits.{Has, At, IsLine, Emits, EmitsAll}
use Rattle.codegen_spec.specs.Told.{fit, told_area, told_range, told_shape, told_spot}
use Rattle.codegen_spec.specs.Made.{Out, aimed, range_out, store_to, store_at_out, put_whole, put_part, put_out, store_whole, store_part, store_out, index_out, expr_out, stmt_out, stmts_out, open_exit}
use Rattle.codegen_law.specs.MadeRightFits.{Fit, ShapeFits, SpotFits, RefFits}
use Rattle.codegen_law.proofs.Lists.{has_rest}
use Rattle.codegen_law.proofs.Expressions.{Still, still_more, aiming, Exits, exit_of, to_of, Outside, LineMade, none_made, one_made, both_made, range_made, ExprMade, expr_made}
use Rattle.code_measures.proofs.Lines.{has_first}

pub fit_small : (n : ℕ) → n ≤ 2147483647 → fit (pos n) ≡ pos n
fit_small n h = let e : min n 2147483647 ≡ n = omega arith in ap pos e

-- ---- stores

stored : (a : Area) (v w : ℤ) → v ≡ w → store_to (told_area a) v ≡ store a w
stored in_frame v w e = ap (λ z. i.StoreLocal z) e
stored in_process v w e = ap (λ z. i.StoreOwn z) e
stored in_monitor v w e = ap (λ z. i.StoreMon z) e

still_store : (a : Area) (w : ℤ) → Still (store a w ∷ [])
still_store in_frame w t = refl
still_store in_process w t = refl
still_store in_monitor w t = refl

stored_at : (a : Area) (w : ℕ) (sh : Shape) → Fit (pos w) → ShapeFits sh → LineMade (store_at_out (told_area a) (fit (pos w)) (told_shape sh)) (λ y. store_shape a w sh)
stored_at a w single h f = none_made
stored_at in_frame w (array low len) h f =
    one_made (λ o. i.StoreLocalAt (fit (pos w)) (fit low) (fit (pos len))) (i.StoreLocalAt (pos w) low (pos len))
    (λ o. ap (λ z. i.StoreLocalAt z (fit low) (fit (pos len))) h ∙ ap (λ z. i.StoreLocalAt (pos w) z (fit (pos len))) f.0 ∙ ap (λ z. i.StoreLocalAt (pos w) low z) f.1) (λ t. refl)
stored_at in_process w (array low len) h f =
    one_made (λ o. i.StoreOwnAt (fit (pos w)) (fit low) (fit (pos len))) (i.StoreOwnAt (pos w) low (pos len))
    (λ o. ap (λ z. i.StoreOwnAt z (fit low) (fit (pos len))) h ∙ ap (λ z. i.StoreOwnAt (pos w) z (fit (pos len))) f.0 ∙ ap (λ z. i.StoreOwnAt (pos w) low z) f.1) (λ t. refl)
stored_at in_monitor w (array low len) h f =
    one_made (λ o. i.StoreMonAt (fit (pos w)) (fit low) (fit (pos len))) (i.StoreMonAt (pos w) low (pos len))
    (λ o. ap (λ z. i.StoreMonAt z (fit low) (fit (pos len))) h ∙ ap (λ z. i.StoreMonAt (pos w) z (fit (pos len))) f.0 ∙ ap (λ z. i.StoreMonAt (pos w) low z) f.1) (λ t. refl)

-- the store alone
whole_stored : (s : Option Spot) → SpotFits s → LineMade (store_whole (told_spot s)) (λ y. store_spot s)
whole_stored None h = none_made
whole_stored (Some s) h = one_made (λ o. store_to (told_area s.area) (fit (pos s.place.word))) (store s.area (pos s.place.word)) (λ o. stored s.area (fit (pos s.place.word)) (pos s.place.word) h.0) (still_store s.area (pos s.place.word))

part_stored : (s : Option Spot) → SpotFits s → LineMade (store_part (told_spot s)) (λ y. store_element s)
part_stored None h = none_made
part_stored (Some s) h = stored_at s.area s.place.word s.place.shape h.0 h.1

pub store_made : (g : Program) (c : Scope) (r : Ref) → RefFits g c r → LineMade (store_out g c r) (λ y. store_code g (aiming c y) r)
store_made g c (whole x) h = whole_stored (spot_of g c x) h
store_made g c (part x e) h = part_stored (spot_of g c x) h.0

-- the check of the range, and the store
whole_put : (s : Option Spot) → SpotFits s → LineMade (put_whole (told_spot s)) (λ y. range_code (range_of_spot s) ++ store_spot s)
whole_put None h = none_made
whole_put (Some s) h = both_made (range_out (option_map told_range s.place.range)) (store_whole (told_spot (Some s))) (λ y. range_code s.place.range) (λ y. store_spot (Some s)) (range_made s.place.range h.2) (whole_stored (Some s) h)

part_put : (s : Option Spot) → SpotFits s → LineMade (put_part (told_spot s)) (λ y. range_code (range_of_spot s) ++ store_element s)
part_put None h = none_made
part_put (Some s) h = both_made (range_out (option_map told_range s.place.range)) (store_part (told_spot (Some s))) (λ y. range_code s.place.range) (λ y. store_element (Some s)) (range_made s.place.range h.2) (part_stored (Some s) h)

pub put_made : (g : Program) (c : Scope) (r : Ref) → RefFits g c r → LineMade (put_out g c r) (λ y. put_code g (aiming c y) r)
put_made g c (whole x) h = whole_put (spot_of g c x) h
put_made g c (part x e) h = part_put (spot_of g c x) h.0

pub index_made : (g : Program) (c : Scope) (r : Ref) → RefFits g c r → LineMade (index_out g c r) (λ y. index_code g (aiming c y) r)
index_made g c (whole x) h = none_made
index_made g c (part x e) h = expr_made g c e h.1

-- ---- what is made of a statement, whose code begins at p and whose first loop has word w

pub record StmtMade (g : Program) (c : Scope) (s : Stmt) (b : Bool) (p w : ℕ) : Type 0 where
  pub code : List Instr
  pub made : (o : Out) → length o.code ≡ p → o.word ≡ w → (stmt_out g c s o).code ≡ o.code ++ code
  pub word : (o : Out) → o.word ≡ w → (stmt_out g c s o).word ≡ w + loops_in s
  pub still : Outside b → Still code
  pub emits : (all : List Instr) (y : Exits b) → p + length code ≤ 2147483647 → Has all p (map (aimed (to_of b y)) code) → Emits g all (aiming c (exit_of b y)) w p (p + length code) s

pub record StmtsMade (g : Program) (c : Scope) (ss : Stmts) (b : Bool) (p w : ℕ) : Type 0 where
  pub code : List Instr
  pub made : (o : Out) → length o.code ≡ p → o.word ≡ w → (stmts_out g c ss o).code ≡ o.code ++ code
  pub word : (o : Out) → o.word ≡ w → (stmts_out g c ss o).word ≡ w + loops ss
  pub still : Outside b → Still code
  pub emits : (all : List Instr) (y : Exits b) → p + length code ≤ 2147483647 → Has all p (map (aimed (to_of b y)) code) → EmitsAll g all (aiming c (exit_of b y)) w p (p + length code) ss

-- a line with no exit stands where it was made
lined : (all : List Instr) (p : ℕ) (t : ℤ) (js ks : List Instr) → ks ≡ js → Still js → Has all p (map (aimed t) js) → IsLine all p (p + length js) ks
lined all p t js ks e s h = record { has = subst (λ z. Has all p z) (s t ∙ sym e) h; end = ap (λ z. p + length z) (sym e) }

-- a statement that is a line
pub line_made : (g : Program) (c : Scope) (s : Stmt) (b : Bool) (p w : ℕ) (text : Option ℕ → List Instr) → LineMade (stmt_out g c s) text → loops_in s ≡ 0
    → ((all : List Instr) (y : Option ℕ) (q : ℕ) → IsLine all p q (text y) → Emits g all (aiming c y) w p q s) → StmtMade g c s b p w
line_made g c s b p w text m no_loop is = record {
  code = m.code;
  made = λ o long at. m.made o;
  word = λ o at. let e0 = m.word o in omega arith;
  still = λ f. m.still;
  emits = λ all y small h. is all (exit_of b y) (p + length m.code) (lined all p (to_of b y) m.code (text (exit_of b y)) (m.emits (exit_of b y)) m.still h);
}

-- an assertion: a jump over the exception, or to it
pub assert_made : (g : Program) (c : Scope) (e : Expr) (b : Bool) (p w : ℕ) → ExprMade g c e → StmtMade g c (assert e) b p w
assert_made g c e b p w m =
    let r : ℕ = p + length m.code in
    let rest : List Instr = i.JumpZero (fit (pos (r + 2))) ∷ i.Jump (fit (pos (r + 3))) ∷ i.Raise (pos 4) ∷ [] in
    record {
      code = m.code ++ rest;
      made = λ o long at.
          let pre : List Instr = (expr_out g c e o).code in
          let pre_long : length pre ≡ r = ap length (m.made o) ∙ length-append o.code m.code ∙ ap (λ k. k + length m.code) long in
          append_assoc (pre ++ i.JumpZero (fit (pos (length pre + 2))) ∷ []) (i.Jump (fit (pos (length pre + 3))) ∷ []) (i.Raise (pos 4) ∷ [])
          ∙ append_assoc pre (i.JumpZero (fit (pos (length pre + 2))) ∷ []) (i.Jump (fit (pos (length pre + 3))) ∷ i.Raise (pos 4) ∷ [])
          ∙ ap (λ k. pre ++ i.JumpZero (fit (pos (k + 2))) ∷ i.Jump (fit (pos (k + 3))) ∷ i.Raise (pos 4) ∷ []) pre_long
          ∙ ap (λ z. z ++ rest) (m.made o) ∙ append_assoc o.code m.code rest;
      word = λ o at. let e0 = m.word o in omega arith;
      still = λ f. still_more m.code rest m.still (λ t. refl);
      emits = λ all y small h.
          let h2 : Has all p (m.code ++ rest) = subst (λ z. Has all p z) (still_more m.code rest m.still (λ t. refl) (to_of b y)) h in
          let long : length (m.code ++ rest) ≡ length m.code + 3 = length-append m.code rest in
          let low2 : r + 2 ≤ 2147483647 = omega arith in
          let low3 : r + 3 ≤ 2147483647 = omega arith in
          let at2 : r + 2 ≡ r + 1 + 1 = omega arith in
          let end : p + length (m.code ++ rest) ≡ r + 1 + 1 + 1 = omega arith in
          let at3 : r + 3 ≡ p + length (m.code ++ rest) = omega arith in
          let behind : Has all r rest = has_rest all p r m.code rest refl h2 in (
            r,
            record { has = subst (λ z. Has all p z) (sym (m.emits (exit_of b y))) (has_first all p m.code rest h2); end = ap (λ z. p + length z) (sym (m.emits (exit_of b y))) },
            subst (λ z. At all r (i.JumpZero z)) (fit_small (r + 2) low2 ∙ ap pos at2) behind.0,
            subst (λ z. At all (r + 1) (i.Jump z)) (fit_small (r + 3) low3 ∙ ap pos at3) behind.1.0,
            behind.1.1.0,
            end,
          );
    }

pub exit_made : (g : Program) (c : Scope) (e : Expr) (p w : ℕ) → ExprMade g c e → StmtMade g c (exit_when e) true p w
exit_made g c e p w m = record {
  code = m.code ++ open_exit ∷ [];
  made = λ o long at. ap (λ z. z ++ open_exit ∷ []) (m.made o) ∙ append_assoc o.code m.code (open_exit ∷ []);
  word = λ o at. let e0 = m.word o in omega arith;
  still = λ f. absurd f;
  emits = λ all y small h.
      let h2 : Has all p (m.code ++ i.Exit (pos y) ∷ []) = subst (λ z. Has all p z) (map-append (aimed (to_of true y)) m.code (open_exit ∷ []) ∙ ap (λ z. z ++ i.Exit (pos y) ∷ []) (m.still (to_of true y))) h in
      let r : ℕ = p + length m.code in
      let long : length (m.code ++ open_exit ∷ []) ≡ length m.code + 1 = length-append m.code (open_exit ∷ []) in (
        r,
        y,
        record { has = subst (λ z. Has all p z) (sym (m.emits (exit_of true y))) (has_first all p m.code (i.Exit (pos y) ∷ []) h2); end = ap (λ z. p + length z) (sym (m.emits (exit_of true y))) },
        refl,
        (has_rest all p r m.code (i.Exit (pos y) ∷ []) refl h2).0,
        omega arith,
      );
}
