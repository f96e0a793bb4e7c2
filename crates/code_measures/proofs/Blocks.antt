-- What forks and loops come to, and what is assigned.
use Rattle.std.specs.Prelude.{◌≡◌, ◌≤◌, ◌+◌, ◌++◌, ℕ, zero, suc, true, List, [], ◌∷◌, Option, Some, None, ℤ, pos, max, length, nat_lt, slice_get, option_map}
use Rattle.std.proofs.Common.{refl, sym, ap, subst, ◌∙◌, arith}
use Rattle.std.proofs.lemmas.Bool.Decides.{nat_tests}
use Rattle.std.proofs.lemmas.Bool.{and_from, eq-eqb, le-leb}
use Rattle.base.proofs.Numbers.{itself}
use Rattle.syntax_tree.specs.Plain.{Ref, whole, part, Program}
use Rattle.base.specs.declared.capped.Cost.{Cost}
use Rattle.machine_isa.specs.declared.instr.Instr.{Instr}
use Rattle.machine_isa.specs.declared.instr.Instr.TheVariants as i
use Rattle.machine_isa.specs.Ticks.{ticks}
use Rattle.source_semantics.specs.Store.{Range}
use Rattle.machine_semantics.specs.Trees.{Segs, Fork, Rep, Cons, size}
use Rattle.valid_image.specs.Found.{Known, Found, plus, greater, longer, turns, guard, arms, loop as loop_found, chain, is_jump_zero, is_jump, is_repeats, is_repeat, founds}
use Rattle.code_spec.specs.Layout.{Area, in_frame, in_process, in_monitor, Spot, Scope, spot_of}
use Rattle.code_spec.specs.Code.{store, store_at, store_spot, store_shape, store_element, index_code, store_code, put_code, range_code, range_of_spot, ref_name}
use Rattle.code_spec.specs.Emits.{IsLine, At}
use Rattle.code_spec.specs.Segments.{line, index_segs, put_segs}
use Rattle.code_spec.specs.Proper.{IsArray, IsSingle}
use Rattle.code_cost_spec.specs.Names.{Names, Calls, view_of, range_seen}
use Rattle.code_cost_spec.specs.Costs.{run, check_ticks, store_ticks, put_ticks, index_cost}
use Rattle.code_cost_spec.specs.Heights.{index_height, index_words}
use Rattle.code_measures.specs.Sound.{IsKnown, SoundRef, SoundIndex}
use Rattle.code_measures.proofs.Adding.{adds, adds_adds, adds_same, adds_none, some_found, joined_is}
use Rattle.code_measures.proofs.Lines.{split, one_found, line_more}
use Rattle.code_measures.proofs.Sizes.{Alike, same_range, free_of}
use Rattle.code_measures.proofs.Seen.{Sees, range_is}
use Rattle.code_measures.proofs.Exprs.{expr_found}

pub adds_three : (c1 c2 c3 : Cost) (d1 d2 d3 d : ℕ) (r : Found) → max d1 (max d2 d3) ≡ d → adds c1 d1 (adds c2 d2 (adds c3 d3 r)) ≡ adds (plus c1 (plus c2 c3)) d r
adds_three c1 c2 c3 d1 d2 d3 d r e = ap (λ x. adds c1 d1 x) (adds_adds c2 c3 d2 d3 r) ∙ (adds_adds c1 (plus c2 c3) d1 (max d2 d3) r ∙ adds_same _ _ _ r e)

-- the check of a range lets the operands stand as high as they do
abbrev pub check_height : Option Range → ℕ → ℕ
check_height None h = 0
check_height (Some x) h = h

pub check_low : (x : Option Range) (h : ℕ) → check_height x h ≤ h
check_low None h = omega arith
check_low (Some x) h = omega arith

module _ (g : Program) (known : List Known) (k : Calls) (code : List Instr) (out held : Option ℕ) where
  -- two arms
  pub fork_found : (first second after : Segs) (p mid q : ℕ) (f s r : Found) → At code p (i.JumpZero (pos (mid + 1))) → At code mid (i.Jump (pos q)) → mid ≡ p + 1 + size first → q ≡ mid + 1 + size second
      → founds code known out held first (p + 1) 0 ≡ Some f → founds code known out held second (mid + 1) 0 ≡ Some s → f.height ≡ 0 → s.height ≡ 0 → founds code known out held after q 0 ≡ Some r
      → founds code known out held (Cons (Fork first second) after) p (suc zero) ≡ Some (adds (greater (longer 3 f.cost) (longer 2 s.cost)) (max f.depth s.depth) r)
  fork_found first second after p mid q f s r jumps skips mid_is q_is one other flat flat2 is =
      ap (λ b. chain (guard b (arms (founds code known out held first (p + 1) 0) (founds code known out held second (p + 1 + size first + 1) 0))) (λ y. founds code known out held after (p + (size first + size second + 2)) y))
      (and_from _ _ (ap (λ o. is_jump_zero (p + 1 + size first + 1) o) jumps ∙ eq-eqb (mid + 1) (p + 1 + size first + 1) (omega (arith, mid_is)))
      (ap (λ o. is_jump (p + size first + size second + 2) o) (subst (λ y. slice_get code y ≡ Some (i.Jump (pos q))) mid_is skips) ∙ eq-eqb q (p + size first + size second + 2) (omega (arith, mid_is, q_is))))
      ∙ (ap (λ o. chain (arms o (founds code known out held second (p + 1 + size first + 1) 0)) (λ y. founds code known out held after (p + (size first + size second + 2)) y)) one
      ∙ (ap (λ o. chain (arms (Some f) o) (λ y. founds code known out held after (p + (size first + size second + 2)) y)) (subst (λ y. founds code known out held second (y + 1) 0 ≡ Some s) mid_is other)
      ∙ (ap (λ b. chain (guard b (Some here)) (λ y. founds code known out held after (p + (size first + size second + 2)) y)) (eq-eqb f.height s.height (flat ∙ sym flat2))
      ∙ joined_is here r (founds code known out held after (p + (size first + size second + 2)) here.height)
      (subst (λ y. founds code known out held after (p + (size first + size second + 2)) y ≡ Some r) (sym flat) (subst (λ y. founds code known out held after y 0 ≡ Some r) (ends mid_is q_is) is)))))
    where
      here : Found
      here = record { height = f.height; cost = greater (longer 3 f.cost) (longer 2 s.cost); depth = max f.depth s.depth }

      ends : mid ≡ p + 1 + size first → q ≡ mid + 1 + size second → q ≡ p + (size first + size second + 2)
      ends e f = omega (arith, e, f)

  -- a loop
  pub rep_found : (t j : ℕ) (body after : Segs) (p back q : ℕ) (f r : Found) → At code p (i.Repeats (pos t)) → At code back (i.Repeat (pos (p + 1))) → back ≡ p + 1 + size body → q ≡ back + 1 → t ≡ suc j
      → founds code known (Some q) held body (p + 1) 0 ≡ Some f → f.height ≡ 0 → founds code known out held after q 0 ≡ Some r
      → founds code known out held (Cons (Rep t body) after) p 0 ≡ Some (adds (turns t f.cost) (suc f.depth) r)
  rep_found t j body after p back q f r begins repeats back_is q_is some inside flat is =
      ap (λ b. chain (guard b (loop_found t 0 (founds code known (Some (p + 1 + size body + 1)) held body (p + 1) 0))) (λ y. founds code known out held after (p + (size body + 2)) y))
      (and_from _ _ (more t j some) (and_from _ _ (ap (λ o. is_repeats t o) begins ∙ itself t) (ap (λ o. is_repeat (p + 1) o) (subst (λ y. slice_get code y ≡ Some (i.Repeat (pos (p + 1)))) back_is repeats) ∙ itself (p + 1))))
      ∙ (ap (λ o. chain (loop_found t 0 o) (λ y. founds code known out held after (p + (size body + 2)) y)) (subst (λ y. founds code known (Some y) held body (p + 1) 0 ≡ Some f) (ends back_is q_is) inside)
      ∙ (ap (λ b. chain (guard b (Some here)) (λ y. founds code known out held after (p + (size body + 2)) y)) (eq-eqb f.height 0 flat)
      ∙ (joined_is here r (founds code known out held after (p + (size body + 2)) 0) (subst (λ y. founds code known out held after y 0 ≡ Some r) (ends2 back_is q_is) is)
      ∙ some_found _ _ (adds_same _ _ _ r (omega arith)))))
    where
      here : Found
      here = record { height = 0; cost = turns t f.cost; depth = suc 0 + f.depth }

      more : (t j : ℕ) → t ≡ suc j → nat_lt 0 t ≡ true
      more t j e = grind (arith, nat_tests, e)

      ends : back ≡ p + 1 + size body → q ≡ back + 1 → q ≡ p + 1 + size body + 1
      ends e f = omega (arith, e, f)

      ends2 : back ≡ p + 1 + size body → q ≡ back + 1 → q ≡ p + (size body + 2)
      ends2 e f = omega (arith, e, f)

  module _ (c d : Scope) (n : Names) (a : Alike g c d) (s : Sees g c n) where
    -- the store of the top operand, above the index of an element
    pub store_found : (x : Ref) (p q : ℕ) (after : Segs) (r : Found) → SoundRef g c x → IsLine code p q (store_code g c x) → founds code known out held after q 0 ≡ Some r
        → founds code known out held (line 1 after) p (suc (index_words x)) ≡ Some (adds (run (store_ticks (n.view (ref_name x)) x)) 0 r)
    store_found (whole x) p q after r ok l is = subst (λ y. founds code known out held (line 1 after) p (suc 0) ≡ Some (adds (run (store_ticks y (whole x))) 0 r)) (s.view x) (by_spot (spot_of g c x) ok.0 l)
      where
        by_area : (y : Area) (w : ℕ) → IsLine code p q (store y (pos w) ∷ []) → founds code known out held (line 1 after) p (suc 0) ≡ Some (adds (run (ticks (store y (pos 0)))) 0 r)
        by_area in_frame w l = one_found code known out held (i.StoreLocal (pos w)) p q (suc 0) 0 after r l refl refl refl is
        by_area in_process w l = one_found code known out held (i.StoreOwn (pos w)) p q (suc 0) 0 after r l refl refl refl is
        by_area in_monitor w l = one_found code known out held (i.StoreMon (pos w)) p q (suc 0) 0 after r l refl refl refl is

        by_spot : (o : Option Spot) → IsSingle o → IsLine code p q (store_spot o) → founds code known out held (line 1 after) p (suc 0) ≡ Some (adds (run (store_ticks (option_map view_of o) (whole x))) 0 r)
        by_spot None y l = absurd y
        by_spot (Some z) y l = by_area z.area z.place.word l
    store_found (part x e) p q after r ok l is = subst (λ y. founds code known out held (line 1 after) p (suc 1) ≡ Some (adds (run (store_ticks y (part x e))) 0 r)) (s.view x) (by_spot (spot_of g c x) ok.0 l)
      where
        by_area : (y : Area) (w : ℕ) (low : ℤ) (len : ℕ) → IsLine code p q (store_at y (pos w) low (pos len) ∷ []) → founds code known out held (line 1 after) p (suc 1) ≡ Some (adds (run (ticks (store_at y (pos 0) (pos 0) (pos 0)))) 0 r)
        by_area in_frame w low len l = one_found code known out held (i.StoreLocalAt (pos w) low (pos len)) p q (suc 1) 0 after r l refl refl refl is
        by_area in_process w low len l = one_found code known out held (i.StoreOwnAt (pos w) low (pos len)) p q (suc 1) 0 after r l refl refl refl is
        by_area in_monitor w low len l = one_found code known out held (i.StoreMonAt (pos w) low (pos len)) p q (suc 1) 0 after r l refl refl refl is

        by_spot : (o : Option Spot) → IsArray o → IsLine code p q (store_element o) → founds code known out held (line 1 after) p (suc 1) ≡ Some (adds (run (store_ticks (option_map view_of o) (part x e))) 0 r)
        by_spot None y l = absurd y
        by_spot (Some z) y l = by_area z.area z.place.word y.0 y.1 (subst (λ t. IsLine code p q (store_shape z.area z.place.word t)) y.2 l)

    -- the check and the store
    pub put_found : (x : Ref) (p q : ℕ) (after : Segs) (r : Found) → SoundRef g c x → IsLine code p q (put_code g c x) → founds code known out held after q 0 ≡ Some r
        → founds code known out held (put_segs g d x after) p (suc (index_words x)) ≡ Some (adds (run (put_ticks n x)) (check_height (range_seen (n.view (ref_name x))) (suc (index_words x))) r)
    put_found x p q after r ok l is =
        let in_tree : range_of_spot (spot_of g d (ref_name x)) ≡ range_seen (n.view (ref_name x)) =
        same_range g (λ y. IsKnown g known k y) c d (ref_name x) (spot_of g c (ref_name x)) a refl (free_of g (λ y. IsKnown g known k y) c x ok) ∙ range_is g c n (ref_name x) s in
        subst (λ y. founds code known out held (line (length (range_code y) + 1) after) p (suc (index_words x)) ≡ Some (adds (run (put_ticks n x)) (check_height (range_seen (n.view (ref_name x))) (suc (index_words x))) r)) (sym in_tree)
        (by_range (range_seen (n.view (ref_name x))) (subst (λ y. IsLine code p q (range_code y ++ store_code g c x)) (range_is g c n (ref_name x) s) l))
      where
        nothing : (t : ℕ) → t ≡ 0 + t
        nothing t = omega arith

        by_range : (y : Option Range) → IsLine code p q (range_code y ++ store_code g c x)
            → founds code known out held (line (length (range_code y) + 1) after) p (suc (index_words x)) ≡ Some (adds (run (check_ticks y + store_ticks (n.view (ref_name x)) x)) (check_height y (suc (index_words x))) r)
        by_range None l = store_found x p q after r ok l is ∙ some_found _ _ (ap (λ t. adds (run t) 0 r) (nothing (store_ticks (n.view (ref_name x)) x)))
        by_range (Some y) l =
            let pieces = split code p q (i.Range y.low y.high ∷ []) (store_code g c x) l in
            ap (λ t. founds code known out held t p (suc (index_words x))) (line_more 0 after)
            ∙ (one_found code known out held (i.Range y.low y.high) p (p + 1) (suc (index_words x)) (suc (index_words x)) (line 1 after) (adds (run (store_ticks (n.view (ref_name x)) x)) 0 r) pieces.0 refl (le-leb 1 (suc (index_words x)) (omega arith)) (omega arith)
            (store_found x (p + 1) q after r ok pieces.1 is)
            ∙ some_found _ _ (adds_adds (run 3) (run (store_ticks (n.view (ref_name x)) x)) (suc (index_words x)) 0 r ∙ adds_same _ _ _ r (omega arith)))

    -- the index of what is assigned to
    pub index_found : (x : Ref) (p q : ℕ) (after : Segs) (r : Found) → SoundIndex g (λ y. IsKnown g known k y) c x → IsLine code p q (index_code g c x) → founds code known out held after q (index_words x) ≡ Some r
        → founds code known out held (index_segs g d x after) p 0 ≡ Some (adds (index_cost g n k x) (index_height g n.owner k x) r)
    index_found (whole x) p q after r ok l is = subst (λ y. founds code known out held after y 0 ≡ Some r) (same p q l.end) is ∙ some_found _ _ (sym (adds_none 0 r (omega arith)))
      where
        same : (p q : ℕ) → q ≡ p + 0 → q ≡ p
        same p q e = omega (arith, e)
    index_found (part x e) p q after r ok l is = expr_found g known k code out held c d n a s e p q 0 after r ok l is ∙ some_found _ _ (adds_same _ _ _ r (omega arith))
