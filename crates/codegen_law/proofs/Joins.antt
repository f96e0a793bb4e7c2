-- How segments are closed and joined.
use Rattle.std.proofs.Common.{◌≡◌, ◌-◌, ◌≤◌, min, ℕ, zero, suc, List, [], ◌∷◌, ◌++◌, map, length, refl, sym, ap, ◌∙◌, arith, rules}
use Rattle.std.proofs.lemmas.List.{map-append}
use Rattle.machine_semantics.specs.Trees as tree
use Rattle.machine_semantics.specs.Trees.{Segs, Line, Nil, Cons}
use Rattle.code_spec.specs.Segments.{before, line}
use Rattle.image_format.specs.Kept.{fork, rep, stay}
use Rattle.image_format.specs.View.{view, tree_of}
use Rattle.image_format.specs.declared.seg.Seg.{Seg, the_lemmas}
use Rattle.image_format.specs.declared.seg.Seg.TheVariants as seg
use Rattle.codegen_spec.specs.Made.{Out, closed, joined, line_of}
use Rattle.codegen_law.proofs.Trees.{over, tail}

pub view_line : (n : ℕ) → view (seg.Line n) ≡ Line n
view_line n = search (rules, the_lemmas)

pub view_fork : (a b : List Seg) → view (fork a b) ≡ tree.Fork (tree_of (map view a)) (tree_of (map view b))
view_fork a b = search (rules, the_lemmas)

pub view_rep : (n : ℕ) (a : List Seg) → view (rep n a) ≡ tree.Rep n (tree_of (map view a))
view_rep n a = search (rules, the_lemmas)

pub view_call : (r : ℕ) → view (seg.Call r) ≡ tree.Call r
view_call r = search (rules, the_lemmas)

pub view_stay : (m : ℕ) (a : List Seg) → view (stay m a) ≡ tree.Stay m (tree_of (map view a))
view_stay m a = search (rules, the_lemmas)

pub view_wait : view seg.Wait ≡ tree.Wait
view_wait = search (rules, the_lemmas)

pub view_exit : view seg.Exit ≡ tree.Exit
view_exit = search (rules, the_lemmas)

over_more : (xs ys : List tree.Seg) (after : Segs) → over (xs ++ ys) after ≡ over xs (over ys after)
over_more [] ys after = refl
over_more (x ∷ xs) ys after = ap (λ k. Cons x k) (over_more xs ys after)

tree_over : (xs : List tree.Seg) → tree_of xs ≡ over xs Nil
tree_over [] = refl
tree_over (x ∷ xs) = ap (λ k. Cons x k) (tree_over xs)

-- the open line, where it is closed before what is no line
lined : (k : ℕ) (after : Segs) → k ≤ 4294967295 → ((n : ℕ) → before (suc n) after ≡ Cons (Line (suc n)) after) → over (map view (line_of k)) after ≡ line k after
lined zero after small apart = refl
lined (suc n) after small apart =
    let e : min (suc n) 4294967295 ≡ suc n = omega arith in
    ap (λ s. Cons s after) (view_line (min (suc n) 4294967295) ∙ ap Line e) ∙ sym (apart n)

-- the segments that are closed, before what is no line
pub closed_over : (o : Out) (after : Segs) → length o.code - o.from ≤ 4294967295 → ((n : ℕ) → before (suc n) after ≡ Cons (Line (suc n)) after) → over (map view (closed o)) after ≡ tail o after
closed_over o after small apart =
    ap (λ k. over k after) (map-append view o.segs (line_of (length o.code - o.from)))
    ∙ over_more (map view o.segs) (map view (line_of (length o.code - o.from))) after
    ∙ ap (λ k. over (map view o.segs) k) (lined (length o.code - o.from) after small apart)

-- the tree of a part of the code
pub closed_tree : (o : Out) → length o.code - o.from ≤ 4294967295 → tree_of (map view (closed o)) ≡ tail o Nil
closed_tree o small = tree_over (map view (closed o)) ∙ closed_over o Nil small (λ n. refl)

-- a segment that is joined stands before what follows
pub joined_tail : (o before_it : Out) (s : Seg) (after : Segs) → length before_it.code - before_it.from ≤ 4294967295
    → ((n : ℕ) → before (suc n) (Cons (view s) after) ≡ Cons (Line (suc n)) (Cons (view s) after)) → tail (joined o (closed before_it) s) after ≡ tail before_it (Cons (view s) after)
joined_tail o before_it s after small apart =
    let none : length o.code - length o.code ≡ 0 = omega arith in
    ap (λ k. over (map view (closed before_it ++ s ∷ [])) (line k after)) none
    ∙ ap (λ k. over k after) (map-append view (closed before_it) (s ∷ []))
    ∙ over_more (map view (closed before_it)) (view s ∷ []) after
    ∙ closed_over before_it (Cons (view s) after) small apart
