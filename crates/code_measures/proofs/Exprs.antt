-- What the code of expressions comes to.
use Rattle.std.specs.Prelude.{◌≡◌, ◌≤◌, ◌+◌, ◌-◌, ◌++◌, ℕ, suc, Bool, true, false, List, [], ◌∷◌, Option, Some, None, ℤ, pos, max, length, nat_le, slice_get, is_some, option_map}
use Rattle.std.proofs.Common.{refl, sym, ap, subst, ◌∙◌, arith}
use Rattle.std.proofs.lemmas.Bool.{le-leb}
use Rattle.base.proofs.Numbers.{itself}
use Rattle.syntax_tree.specs.Plain.{Name, Param, Op, Expr, literal, truth, variable, element, call, minus, negation, paren, row, Exprs, no_exprs, exprs, Operands, no_operands, operand, Answers, Program}
use Rattle.base.specs.declared.capped.Cost.{Cost}
use Rattle.machine_isa.specs.declared.instr.Instr.{Instr}
use Rattle.machine_isa.specs.declared.instr.Instr.TheVariants as i
use Rattle.machine_isa.specs.Ticks.{ticks}
use Rattle.source_semantics.specs.Store.{Range, range_of}
use Rattle.machine_semantics.specs.Trees.{Segs, Call, Cons}
use Rattle.machine_isa.specs.Operands.{takes, gives}
use Rattle.valid_image.specs.Found.{Known, Found, plus, longer, guard, chain, is_call, call as call_found, founds}
use Rattle.valid_image.specs.Tables.{count as count_of}
use Rattle.code_spec.specs.Layout.{Area, in_frame, in_process, in_monitor, Spot, Scope, spot_of, count, routine_words}
use Rattle.code_spec.specs.Numbering.{Text, routine_in, number_of}
use Rattle.code_spec.specs.Code.{load, load_at, load_name, load_element, load_shape, constant_named, op_instr, range_code, code_of, row_code, args_code, call_code}
use Rattle.code_spec.specs.Emits.{IsLine}
use Rattle.code_spec.specs.Segments.{line, call_segs, expr_segs, row_segs, args_segs}
use Rattle.code_spec.specs.Proper.{IsArray}
use Rattle.code_cost_spec.specs.Names.{View, Names, Calls, view_of}
use Rattle.code_cost_spec.specs.Costs.{run, load_ticks, element_ticks, check_ticks, call_cost, expr_cost, row_cost, args_cost}
use Rattle.code_cost_spec.specs.Heights.{call_height, expr_height, row_height, args_height}
use Rattle.code_measures.specs.Sound.{IsKnown, SoundExpr, SoundRow, SoundArgs}
use Rattle.code_measures.proofs.Adding.{adds, adds_adds, adds_same, adds_none, found_same, some_found, joined_is}
use Rattle.code_measures.proofs.Lines.{split, one_found}
use Rattle.code_measures.proofs.Sizes.{Alike}
use Rattle.code_measures.proofs.Seen.{Sees, op_in_line, op_takes, op_gives}

-- each expression takes a word
pub expr_high : (g : Program) (known : List Known) (k : Calls) (c : Scope) (n : Names) (x : Expr) → Sees g c n → SoundExpr g (λ y. IsKnown g known k y) c x → 1 ≤ expr_height g n.owner k x
expr_high g known k c n (literal v) s ok = omega arith
expr_high g known k c n (truth b) s ok = omega arith
expr_high g known k c n (variable x) s ok = omega arith
expr_high g known k c n (element x e) s ok = expr_high g known k c n e s ok.0
expr_high g known k c n (call f es) s ok =
    let named : routine_in g n.owner f ≡ Some ok.0 = subst (λ o. routine_in g o f ≡ Some ok.0) s.owner ok.2 in
    subst (λ t. 1 ≤ call_height g k t (args_height g n.owner k es)) (sym named) (omega arith)
expr_high g known k c n (minus e) s ok = expr_high g known k c n e s ok
expr_high g known k c n (negation e) s ok = expr_high g known k c n e s ok
expr_high g known k c n (paren e) s ok = expr_high g known k c n e s ok
expr_high g known k c n (row e r) s ok = let high : 1 ≤ expr_height g n.owner k e = expr_high g known k c n e s ok.0 in omega (arith, high)

pub few : (b : Bool) → count_of b ≤ 1
few true = omega arith
few false = omega arith

module _ (g : Program) (known : List Known) (k : Calls) (code : List Instr) (out held : Option ℕ) where
  -- the tree of a piece of code that ends at q, where the rest comes to r from height `to` on, comes to that with the piece's cost and height
  -- ---- calls

  -- a CALL by itself
  one_call : (t : Text) (p q h at to : ℕ) (after : Segs) (r : Found) → IsKnown g known k t → IsLine code p q (i.Call (pos (number_of g t)) ∷ []) → at ≡ h + count t.routine.params
      → to ≡ count_of (is_some t.routine.answers) + h → founds code known out held after q to ≡ Some r
      → founds code known out held (Cons (Call (number_of g t)) after) p at ≡ Some (adds (longer 6 (k.cost t)) (max (count_of (is_some t.routine.answers) + h) (h + 2 + routine_words g t.routine + k.height t)) r)
  one_call t p q h at to after r knows l at_is to_is is =
      ap (λ b. chain (guard b (call_found at (slice_get known (number_of g t)))) (λ y. founds code known out held after (p + 1) y)) (ap (λ o. is_call (number_of g t) o) l.has.0 ∙ itself (number_of g t))
      ∙ (ap (λ o. chain (call_found at o) (λ y. founds code known out held after (p + 1) y)) knows.there
      ∙ (ap (λ b. chain (guard b (Some here)) (λ y. founds code known out held after (p + 1) y)) (le-leb knows.known_as.params at (enough knows.params at_is))
      ∙ (joined_is here r (founds code known out held after (p + 1) here.height) (subst (λ y. founds code known out held after (p + 1) y ≡ Some r) (sym (ends knows.params knows.results at_is to_is)) (subst (λ a. founds code known out held after a to ≡ Some r) l.end is))
      ∙ some_found _ _ (ap (λ c. adds (longer 6 c) here.depth r) knows.cost ∙ adds_same (longer 6 (k.cost t)) here.depth _ r (deep knows.params knows.results knows.locals knows.height at_is)))))
    where
      row : Known
      row = knows.known_as

      here : Found
      here = record {
        height = knows.known_as.results + (at - knows.known_as.params);
        cost = longer 6 knows.known_as.cost;
        depth = max (knows.known_as.results + (at - knows.known_as.params)) (at - knows.known_as.params + 2 + knows.known_as.locals + knows.known_as.depth);
      }

      enough : knows.known_as.params ≡ count t.routine.params → at ≡ h + count t.routine.params → knows.known_as.params ≤ at
      enough e f = omega (arith, e, f)

      ends : knows.known_as.params ≡ count t.routine.params → knows.known_as.results ≡ count_of (is_some t.routine.answers) → at ≡ h + count t.routine.params → to ≡ count_of (is_some t.routine.answers) + h
          → knows.known_as.results + (at - knows.known_as.params) ≡ to
      ends e f a b = omega (arith, e, f, a, b)

      deep : knows.known_as.params ≡ count t.routine.params → knows.known_as.results ≡ count_of (is_some t.routine.answers) → knows.known_as.locals ≡ routine_words g t.routine → knows.known_as.depth ≡ k.height t → at ≡ h + count t.routine.params
          → max (knows.known_as.results + (at - knows.known_as.params)) (at - knows.known_as.params + 2 + knows.known_as.locals + knows.known_as.depth) ≡ max (count_of (is_some t.routine.answers) + h) (h + 2 + routine_words g t.routine + k.height t)
      deep e f l d a = omega (arith, e, f, l, d, a)

  -- the check of a range, if any, of the top operand
  pub check_found : (x : Option Range) (p q h : ℕ) (after : Segs) (r : Found) → IsLine code p q (range_code x) → founds code known out held after q (suc h) ≡ Some r → suc h ≤ r.depth
      → founds code known out held (line (length (range_code x)) after) p (suc h) ≡ Some (adds (run (check_ticks x)) (suc h) r)
  check_found None p q h after r l is deep =
      subst (λ a. founds code known out held after a (suc h) ≡ Some r) (same p q l.end) is ∙ some_found _ _ (sym (adds_none (suc h) r deep))
    where
      same : (p q : ℕ) → q ≡ p + 0 → q ≡ p
      same p q e = omega (arith, e)
  check_found (Some x) p q h after r l is deep = one_found code known out held (i.Range x.low x.high) p q (suc h) (suc h) after r l refl (le-leb 1 (suc h) (omega arith)) (omega arith) is

  -- a call with its arguments, which come to what they should
  pub args_then_call : (t : Text) (es : Exprs) (c d : Scope) (n : Names) (p q h to : ℕ) (after : Segs) (r : Found) → IsKnown g known k t
      → IsLine code p q (call_code g (Some t) (λ ps. args_code g c es ps)) → to ≡ count_of (is_some t.routine.answers) + h → founds code known out held after q to ≡ Some r
      → ((p q at : ℕ) (after : Segs) (r : Found) → IsLine code p q (args_code g c es t.routine.params) → at ≡ h + count t.routine.params → founds code known out held after q at ≡ Some r → at ≤ r.depth
      → founds code known out held (args_segs g d es t.routine.params after) p h ≡ Some (adds (args_cost g n k es t.routine.params) (h + args_height g n.owner k es) r))
      → founds code known out held (call_segs g (Some t) (λ ps y. args_segs g d es ps y) after) p h ≡ Some (adds (call_cost k (Some t) (λ ps. args_cost g n k es ps)) (h + call_height g k (Some t) (args_height g n.owner k es)) r)
  args_then_call t es c d n p q h to after r knows l to_is is args =
      let pieces = split code p q (args_code g c es t.routine.params) (i.Call (pos (number_of g t)) ∷ []) l in
      let mid : ℕ = p + length (args_code g c es t.routine.params) in
      let called : Found = adds (longer 6 (k.cost t)) (max (count_of (is_some t.routine.answers) + h) (h + 2 + routine_words g t.routine + k.height t)) r in
      args p (p + length (args_code g c es t.routine.params)) (h + count t.routine.params) (Cons (Call (number_of g t)) after) (adds (longer 6 (k.cost t)) (max (count_of (is_some t.routine.answers) + h) (h + 2 + routine_words g t.routine + k.height t)) r) pieces.0 refl
      (one_call t (p + length (args_code g c es t.routine.params)) q h (h + count t.routine.params) to after r knows pieces.1 refl to_is is) (omega arith)
      ∙ some_found _ _ (adds_adds (args_cost g n k es t.routine.params) (longer 6 (k.cost t)) (h + args_height g n.owner k es) (max (count_of (is_some t.routine.answers) + h) (h + 2 + routine_words g t.routine + k.height t)) r
      ∙ adds_same _ _ _ r (let one : count_of (is_some t.routine.answers) ≤ 1 = few (is_some t.routine.answers) in omega (arith, one)))

  -- the same by the names in the code, in the tree and in the costs
  pub named_call : (tc td tn : Option Text) (t : Text) (es : Exprs) (c d : Scope) (n : Names) (p q h to : ℕ) (after : Segs) (r : Found) → tc ≡ Some t → td ≡ Some t → tn ≡ Some t → IsKnown g known k t
      → IsLine code p q (call_code g tc (λ ps. args_code g c es ps)) → to ≡ count_of (is_some t.routine.answers) + h → founds code known out held after q to ≡ Some r
      → ((p q at : ℕ) (after : Segs) (r : Found) → IsLine code p q (args_code g c es t.routine.params) → at ≡ h + count t.routine.params → founds code known out held after q at ≡ Some r → at ≤ r.depth
      → founds code known out held (args_segs g d es t.routine.params after) p h ≡ Some (adds (args_cost g n k es t.routine.params) (h + args_height g n.owner k es) r))
      → founds code known out held (call_segs g td (λ ps y. args_segs g d es ps y) after) p h ≡ Some (adds (call_cost k tn (λ ps. args_cost g n k es ps)) (h + call_height g k tn (args_height g n.owner k es)) r)
  named_call tc td tn t es c d n p q h to after r ec ed en knows l to_is is args =
      subst (λ o. founds code known out held (call_segs g o (λ ps y. args_segs g d es ps y) after) p h ≡ Some (adds (call_cost k tn (λ ps. args_cost g n k es ps)) (h + call_height g k tn (args_height g n.owner k es)) r)) (sym ed)
      (subst (λ o. founds code known out held (call_segs g (Some t) (λ ps y. args_segs g d es ps y) after) p h ≡ Some (adds (call_cost k o (λ ps. args_cost g n k es ps)) (h + call_height g k o (args_height g n.owner k es)) r)) (sym en)
      (args_then_call t es c d n p q h to after r knows (subst (λ o. IsLine code p q (call_code g o (λ ps. args_code g c es ps))) ec l) to_is is args))

  module _ (c d : Scope) (n : Names) (a : Alike g c d) (s : Sees g c n) where
    load_found : (o : Option Spot) (v : Option View) (j : Option (Name × ℤ)) (p q h : ℕ) (after : Segs) (r : Found) → option_map view_of o ≡ v → IsLine code p q (load_name o j ∷ []) → founds code known out held after q (suc h) ≡ Some r
        → founds code known out held (line 1 after) p h ≡ Some (adds (run (load_ticks v)) (h + 1) r)
    load_found o v j p q h after r e l is =
        subst (λ y. founds code known out held (line 1 after) p h ≡ Some (adds (run (load_ticks y)) (h + 1) r)) e (by_spot o j l)
      where
        higher : (h : ℕ) → h + 1 ≡ 1 + (h - 0)
        higher h = omega arith

        up : (h : ℕ) → suc h ≡ h + 1
        up h = omega arith

        at : founds code known out held after q (h + 1) ≡ Some r
        at = subst (λ y. founds code known out held after q y ≡ Some r) (up h) is

        by_area : (x : Area) (w : ℕ) → IsLine code p q (load x (pos w) ∷ []) → founds code known out held (line 1 after) p h ≡ Some (adds (run (ticks (load x (pos 0)))) (h + 1) r)
        by_area in_frame w l = one_found code known out held (i.LoadLocal (pos w)) p q h (h + 1) after r l refl (le-leb 0 h (omega arith)) (higher h) at
        by_area in_process w l = one_found code known out held (i.LoadOwn (pos w)) p q h (h + 1) after r l refl (le-leb 0 h (omega arith)) (higher h) at
        by_area in_monitor w l = one_found code known out held (i.LoadMon (pos w)) p q h (h + 1) after r l refl (le-leb 0 h (omega arith)) (higher h) at

        by_spot : (o : Option Spot) (j : Option (Name × ℤ)) → IsLine code p q (load_name o j ∷ []) → founds code known out held (line 1 after) p h ≡ Some (adds (run (load_ticks (option_map view_of o))) (h + 1) r)
        by_spot (Some x) j l = by_area x.area x.place.word l
        by_spot None (Some j) l = one_found code known out held (i.Push j.1) p q h (h + 1) after r l refl (le-leb 0 h (omega arith)) (higher h) at
        by_spot None None l = one_found code known out held (i.Push (pos 0)) p q h (h + 1) after r l refl (le-leb 0 h (omega arith)) (higher h) at

    element_found : (o : Option Spot) (v : Option View) (p q h : ℕ) (after : Segs) (r : Found) → option_map view_of o ≡ v → IsArray o → IsLine code p q (load_element o ∷ []) → founds code known out held after q (suc h) ≡ Some r
        → founds code known out held (line 1 after) p (suc h) ≡ Some (adds (run (element_ticks v)) (suc h) r)
    element_found o v p q h after r e array_is l is =
        subst (λ y. founds code known out held (line 1 after) p (suc h) ≡ Some (adds (run (element_ticks y)) (suc h) r)) e (by_spot o array_is l)
      where
        by_area : (x : Area) (w : ℕ) (low : ℤ) (len : ℕ) → IsLine code p q (load_at x (pos w) low (pos len) ∷ []) → founds code known out held (line 1 after) p (suc h) ≡ Some (adds (run (ticks (load_at x (pos 0) (pos 0) (pos 0)))) (suc h) r)
        by_area in_frame w low len l = one_found code known out held (i.LoadLocalAt (pos w) low (pos len)) p q (suc h) (suc h) after r l refl (le-leb 1 (suc h) (omega arith)) (omega arith) is
        by_area in_process w low len l = one_found code known out held (i.LoadOwnAt (pos w) low (pos len)) p q (suc h) (suc h) after r l refl (le-leb 1 (suc h) (omega arith)) (omega arith) is
        by_area in_monitor w low len l = one_found code known out held (i.LoadMonAt (pos w) low (pos len)) p q (suc h) (suc h) after r l refl (le-leb 1 (suc h) (omega arith)) (omega arith) is

        by_spot : (o : Option Spot) → IsArray o → IsLine code p q (load_element o ∷ []) → founds code known out held (line 1 after) p (suc h) ≡ Some (adds (run (element_ticks (option_map view_of o))) (suc h) r)
        by_spot None y l = absurd y
        by_spot (Some x) y l = by_area x.area x.place.word y.0 y.1 (subst (λ z. IsLine code p q (load_shape x.area x.place.word z ∷ [])) y.2 l)

    -- what the operands after the first come to
    abbrev rest_of : (h : ℕ) → Operands → Found → Found
    rest_of h no_operands r = r
    rest_of h (operand op e rest) r = adds (row_cost g n k (operand op e rest)) (h + row_height g n.owner k (operand op e rest)) r

    rest_joined : (h : ℕ) (rest : Operands) (x : Cost) (y : ℕ) (r : Found) → adds x (h + y) (rest_of h rest r) ≡ adds (plus x (row_cost g n k rest)) (h + max y (row_height g n.owner k rest)) r
    rest_joined h no_operands x y r = found_same _ _ refl (omega arith) (omega arith) (omega arith) (omega arith)
    rest_joined h (operand op e rest) x y r =
        adds_adds x (row_cost g n k (operand op e rest)) (h + y) (h + row_height g n.owner k (operand op e rest)) r ∙ adds_same _ _ _ r (both h y (row_height g n.owner k (operand op e rest)))
      where
        both : (h y z : ℕ) → max (h + y) (h + z) ≡ h + max y z
        both h y z = omega arith

    -- the operator of the two top operands
    op_found : (op : Op) (p q h : ℕ) (after : Segs) (r : Found) → IsLine code p q (op_instr op ∷ []) → founds code known out held after q (suc h) ≡ Some r → founds code known out held (line 1 after) p (suc (suc h)) ≡ Some (adds (run (ticks (op_instr op))) (h + 1) r)
    op_found op p q h after r l is =
        one_found code known out held (op_instr op) p q (suc (suc h)) (h + 1) after r l (op_in_line op) (subst (λ y. nat_le y (suc (suc h)) ≡ true) (sym (op_takes op)) (le-leb 2 (suc (suc h)) (omega arith)))
        (higher (gives (op_instr op)) (takes (op_instr op)) (op_gives op) (op_takes op)) (subst (λ y. founds code known out held after q y ≡ Some r) (up h) is)
      where
        up : (h : ℕ) → suc h ≡ h + 1
        up h = omega arith

        higher : (x y : ℕ) → x ≡ 1 → y ≡ 2 → h + 1 ≡ x + (suc (suc h) - y)
        higher x y e f = omega (arith, e, f)

    mutual
      pub expr_found : (x : Expr) (p q h : ℕ) (after : Segs) (r : Found) → SoundExpr g (λ y. IsKnown g known k y) c x → IsLine code p q (code_of g c x) → founds code known out held after q (suc h) ≡ Some r
          → founds code known out held (expr_segs g d x after) p h ≡ Some (adds (expr_cost g n k x) (h + expr_height g n.owner k x) r)
      expr_found (literal v) p q h after r ok l is = one_found code known out held (i.Push (pos v)) p q h (h + 1) after r l refl (le-leb 0 h (omega arith)) (omega arith) (subst (λ y. founds code known out held after q y ≡ Some r) (up h) is)
        where
          up : (h : ℕ) → suc h ≡ h + 1
          up h = omega arith
      expr_found (truth b) p q h after r ok l is = one_found code known out held _ p q h (h + 1) after r l refl (le-leb 0 h (omega arith)) (omega arith) (subst (λ y. founds code known out held after q y ≡ Some r) (up h) is)
        where
          up : (h : ℕ) → suc h ≡ h + 1
          up h = omega arith
      expr_found (variable x) p q h after r ok l is = load_found (spot_of g c x) (n.view x) (constant_named g x) p q h after r (s.view x) l is
      expr_found (element x e) p q h after r ok l is =
          let pieces = split code p q (code_of g c e) (load_element (spot_of g c x) ∷ []) l in
          let high : 1 ≤ expr_height g n.owner k e = expr_high g known k c n e s ok.0 in
          expr_found e p (p + length (code_of g c e)) h (line 1 after) (adds (run (element_ticks (n.view x))) (suc h) r) ok.0 pieces.0 (element_found (spot_of g c x) (n.view x) (p + length (code_of g c e)) q h after r (s.view x) ok.1 pieces.1 is)
          ∙ some_found _ _ (adds_adds (expr_cost g n k e) (run (element_ticks (n.view x))) (h + expr_height g n.owner k e) (suc h) r ∙ adds_same _ _ _ r (omega (arith, high)))
      expr_found (call f es) p q h after r ok l is =
          named_call (routine_in g c.owner f) (routine_in g d.owner f) (routine_in g n.owner f) ok.0 es c d n p q h (suc h) after r ok.2
          (subst (λ o. routine_in g o f ≡ Some ok.0) a.owner ok.2) (subst (λ o. routine_in g o f ≡ Some ok.0) s.owner ok.2) ok.3 l (gives_one ok.0.routine.answers ok.1 ok.4) is
          (λ p q at after r l at_is is deep. args_found es ok.0.routine.params p q h at after r ok.5 l at_is is deep)
        where
          gives_one : (o : Option Answers) (y : Answers) → o ≡ Some y → suc h ≡ count_of (is_some o) + h
          gives_one o y e = subst (λ z. suc h ≡ count_of (is_some z) + h) (sym e) (omega arith)
      expr_found (minus e) p q h after r ok l is =
          let pieces = split code p q (code_of g c e) (i.Neg ∷ []) l in
          let high : 1 ≤ expr_height g n.owner k e = expr_high g known k c n e s ok in
          expr_found e p (p + length (code_of g c e)) h (line 1 after) (adds (run (ticks i.Neg)) (suc h) r) ok pieces.0 (one_found code known out held i.Neg (p + length (code_of g c e)) q (suc h) (suc h) after r pieces.1 refl (le-leb 1 (suc h) (omega arith)) (omega arith) is)
          ∙ some_found _ _ (adds_adds (expr_cost g n k e) (run (ticks i.Neg)) (h + expr_height g n.owner k e) (suc h) r ∙ adds_same _ _ _ r (omega (arith, high)))
      expr_found (negation e) p q h after r ok l is =
          let pieces = split code p q (code_of g c e) (i.Not ∷ []) l in
          let high : 1 ≤ expr_height g n.owner k e = expr_high g known k c n e s ok in
          expr_found e p (p + length (code_of g c e)) h (line 1 after) (adds (run (ticks i.Not)) (suc h) r) ok pieces.0 (one_found code known out held i.Not (p + length (code_of g c e)) q (suc h) (suc h) after r pieces.1 refl (le-leb 1 (suc h) (omega arith)) (omega arith) is)
          ∙ some_found _ _ (adds_adds (expr_cost g n k e) (run (ticks i.Not)) (h + expr_height g n.owner k e) (suc h) r ∙ adds_same _ _ _ r (omega (arith, high)))
      expr_found (paren e) p q h after r ok l is = expr_found e p q h after r ok l is
      expr_found (row e rest) p q h after r ok l is =
          let pieces = split code p q (code_of g c e) (row_code g c rest) l in
          expr_found e p (p + length (code_of g c e)) h (row_segs g d rest after) (rest_of h rest r) ok.0 pieces.0 (row_found rest (p + length (code_of g c e)) q h after r ok.1 pieces.1 is)
          ∙ some_found _ _ (rest_joined h rest (expr_cost g n k e) (expr_height g n.owner k e) r)

      row_found : (x : Operands) (p q h : ℕ) (after : Segs) (r : Found) → SoundRow g (λ y. IsKnown g known k y) c x → IsLine code p q (row_code g c x) → founds code known out held after q (suc h) ≡ Some r
          → founds code known out held (row_segs g d x after) p (suc h) ≡ Some (rest_of h x r)
      row_found no_operands p q h after r ok l is = subst (λ y. founds code known out held after y (suc h) ≡ Some r) (same p q l.end) is
        where
          same : (p q : ℕ) → q ≡ p + 0 → q ≡ p
          same p q e = omega (arith, e)
      row_found (operand op e rest) p q h after r ok l is =
          let pieces = split code p q (code_of g c e) (op_instr op ∷ row_code g c rest) l in
          let later = split code (p + length (code_of g c e)) q (op_instr op ∷ []) (row_code g c rest) pieces.1 in
          let high : 1 ≤ expr_height g n.owner k e = expr_high g known k c n e s ok.0 in
          expr_found e p (p + length (code_of g c e)) (suc h) (line 1 (row_segs g d rest after)) (adds (run (ticks (op_instr op))) (h + 1) (rest_of h rest r)) ok.0 pieces.0
          (op_found op (p + length (code_of g c e)) (p + length (code_of g c e) + 1) h (row_segs g d rest after) (rest_of h rest r) later.0 (row_found rest (p + length (code_of g c e) + 1) q h after r ok.1 later.1 is))
          ∙ some_found _ _ (ap (λ y. adds (expr_cost g n k e) (suc h + expr_height g n.owner k e) y) (rest_joined h rest (run (ticks (op_instr op))) 1 r)
          ∙ (adds_adds (expr_cost g n k e) (plus (run (ticks (op_instr op))) (row_cost g n k rest)) (suc h + expr_height g n.owner k e) (h + max 1 (row_height g n.owner k rest)) r
          ∙ adds_same _ _ _ r (higher (expr_height g n.owner k e) (row_height g n.owner k rest) high)))
        where
          higher : (x y : ℕ) → 1 ≤ x → max (suc h + x) (h + max 1 y) ≡ h + max (1 + x) y
          higher x y le = omega (arith, le)

      pub args_found : (es : Exprs) (ps : List Param) (p q h at : ℕ) (after : Segs) (r : Found) → SoundArgs g (λ y. IsKnown g known k y) c es ps → IsLine code p q (args_code g c es ps) → at ≡ h + count ps → founds code known out held after q at ≡ Some r → at ≤ r.depth
          → founds code known out held (args_segs g d es ps after) p h ≡ Some (adds (args_cost g n k es ps) (h + args_height g n.owner k es) r)
      args_found no_exprs [] p q h at after r ok l at_is is deep =
          subst (λ y. founds code known out held after p y ≡ Some r) (flat h at at_is) (subst (λ y. founds code known out held after y at ≡ Some r) (flat p q l.end) is) ∙ some_found _ _ (sym (adds_none (h + 0) r (omega (arith, at_is, deep))))
        where
          flat : (p q : ℕ) → q ≡ p + 0 → q ≡ p
          flat p q e = omega (arith, e)
      args_found no_exprs (y ∷ ps) p q h at after r ok l at_is is deep = absurd ok
      args_found (exprs e es) [] p q h at after r ok l at_is is deep = absurd ok
      args_found (exprs e es) (y ∷ ps) p q h at after r ok l at_is is deep =
          let pieces = split code p q (code_of g c e) (range_code (range_of g y.kind) ++ args_code g c es ps) l in
          let later = split code (p + length (code_of g c e)) q (range_code (range_of g y.kind)) (args_code g c es ps) pieces.1 in
          let high : 1 ≤ expr_height g n.owner k e = expr_high g known k c n e s ok.0 in
          let others : Found = adds (args_cost g n k es ps) (suc h + args_height g n.owner k es) r in
          expr_found e p (p + length (code_of g c e)) h (line (length (range_code (range_of g y.kind))) (args_segs g d es ps after)) (adds (run (check_ticks (range_of g y.kind))) (suc h) (adds (args_cost g n k es ps) (suc h + args_height g n.owner k es) r)) ok.0 pieces.0
          (check_found (range_of g y.kind) (p + length (code_of g c e)) (p + length (code_of g c e) + length (range_code (range_of g y.kind))) h (args_segs g d es ps after) (adds (args_cost g n k es ps) (suc h + args_height g n.owner k es) r) later.0
          (args_found es ps (p + length (code_of g c e) + length (range_code (range_of g y.kind))) q (suc h) at after r ok.1 later.1 (further at_is) is deep) (omega arith))
          ∙ some_found _ _ (ap (λ z. adds (expr_cost g n k e) (h + expr_height g n.owner k e) z) (adds_adds (run (check_ticks (range_of g y.kind))) (args_cost g n k es ps) (suc h) (suc h + args_height g n.owner k es) r)
          ∙ (adds_adds (expr_cost g n k e) (plus (run (check_ticks (range_of g y.kind))) (args_cost g n k es ps)) (h + expr_height g n.owner k e) (max (suc h) (suc h + args_height g n.owner k es)) r
          ∙ adds_same _ _ _ r (higher (expr_height g n.owner k e) (args_height g n.owner k es))))
        where
          further : at ≡ h + suc (count ps) → at ≡ suc h + count ps
          further e = omega (arith, e)

          higher : (x y : ℕ) → max (h + x) (max (suc h) (suc h + y)) ≡ h + max x (1 + y)
          higher x y = omega arith
