-- Ceilings: the least rank of the same processes.
use Rattle.std.specs.Prelude.{◌≡◌, ◌+◌, ◌<◌, ◌≤◌, ℕ, zero, suc, Bool, true, false, cond, min, List, [], ◌∷◌, Option, Some, None, length, slice_get, unwrap_or}
use Rattle.std.proofs.Common.{refl, sym, ap, ◌∙◌, arith}
use Rattle.base.proofs.Lists.{some_at}
use Rattle.syntax_tree.specs.Plain.{Process, Program}
use Rattle.source_semantics.specs.Names.{processes}
use Rattle.source_semantics.specs.Ranks.{rank, monitors_of, includes, least_rank, min_with}
use Rattle.machine_semantics.specs.Image as image
use Rattle.valid_image.specs.Times.{enters, rank_of, least_rank as least_there}
use Rattle.built_tasks_law.proofs.Whole.{as_many_processes}
use Rattle.built_tasks_law.specs.Touches.{CodeEntersWhatTextsTouch, TextsUseWhatTheyTouch}
use Rattle.built_tasks_law.specs.Ranks.{RanksAreOfTheMeaning, CeilingsAreOfTheMeaning}
use Rattle.built_tasks_law.proofs.Counts.{rank_most}

-- ---- the least of numbers

-- the least of the first n, and of 65535
abbrev least : (ℕ → ℕ) → ℕ → ℕ
least f zero = 65535
least f (suc n) = min (f n) (least f n)

least_alike : (f h : ℕ → ℕ) (n : ℕ) → ((i : ℕ) → i < n → f i ≡ h i) → least f n ≡ least h n
least_alike f h zero same = refl
least_alike f h (suc n) same =
    let here : f n ≡ h n = same n (omega arith) in
    let rest : least f n ≡ least h n = least_alike f h n (λ i lt. same i (omega (arith, lt))) in
    ap (λ x. min x (least f n)) here ∙ ap (λ x. min (h n) x) rest

least_front : (f : ℕ → ℕ) (n : ℕ) → least f (suc n) ≡ min (f 0) (least (λ i. f (suc i)) n)
least_front f zero = refl
least_front f (suc n) =
    let e : min (f n) (least f n) ≡ min (f 0) (least (λ i. f (suc i)) n) = least_front f n in
    ap (λ x. min (f (suc n)) x) e ∙ turned (f (suc n)) (f 0) (least (λ i. f (suc i)) n)
  where
    turned : (a b c : ℕ) → min a (min b c) ≡ min b (min a c)
    turned a b c = omega arith

least_most : (f : ℕ → ℕ) (n : ℕ) → least f n ≤ 65535
least_most f zero = omega arith
least_most f (suc n) = let rest : least f n ≤ 65535 = least_most f n in omega (arith, rest)

-- ---- that of the meaning

-- process i of the list uses the monitor
abbrev used_by : Program → ℕ → Option Process → Bool
used_by g j None = false
used_by g j (Some p) = includes j (monitors_of g p)

least_same : (g : Program) (j b : ℕ) (ps : List Process) → ((k : ℕ) → rank g k ≤ 65535)
    → unwrap_or (least_rank g j b ps) 65535 ≡ least (λ i. cond (used_by g j (slice_get ps i)) (rank g (b + i)) 65535) (length ps)
least_same g j b [] few = refl
least_same g j b (p ∷ ps) few =
    by (includes j (monitors_of g p)) (least_rank g j (suc b) ps)
    (least_same g j (suc b) ps few ∙ least_alike (λ i. cond (used_by g j (slice_get ps i)) (rank g (suc b + i)) 65535) (λ i. cond (used_by g j (slice_get ps i)) (rank g (b + suc i)) 65535) (length ps) (λ i lt. later i))
    ∙ sym (least_front (λ i. cond (used_by g j (slice_get (p ∷ ps) i)) (rank g (b + i)) 65535) (length ps))
  where
    later : (i : ℕ) → cond (used_by g j (slice_get ps i)) (rank g (suc b + i)) 65535 ≡ cond (used_by g j (slice_get ps i)) (rank g (b + suc i)) 65535
    later i = let z : suc b + i ≡ b + suc i = omega arith in ap (λ n. cond (used_by g j (slice_get ps i)) (rank g n) 65535) z

    first : rank g b ≡ rank g (b + 0)
    first = let z : b ≡ b + 0 = omega arith in ap (λ n. rank g n) z

    by : (t : Bool) (o : Option ℕ) → unwrap_or o 65535 ≡ least (λ i. cond (used_by g j (slice_get ps i)) (rank g (b + suc i)) 65535) (length ps)
        → unwrap_or (cond t (Some (min_with (rank g b) o)) o) 65535 ≡ min (cond t (rank g (b + 0)) 65535) (least (λ i. cond (used_by g j (slice_get ps i)) (rank g (b + suc i)) 65535) (length ps))
    by true None e =
        let low : rank g b ≤ 65535 = few b in
        let only : rank g b ≡ min (rank g b) 65535 = omega (arith, low) in
        only ∙ (ap (λ x. min x 65535) first ∙ ap (λ x. min (rank g (b + 0)) x) e)
    by true (Some r) e = ap (λ x. min x r) first ∙ ap (λ x. min (rank g (b + 0)) x) e
    by false o e =
        let most : least (λ i. cond (used_by g j (slice_get ps i)) (rank g (b + suc i)) 65535) (length ps) ≤ 65535 = least_most (λ i. cond (used_by g j (slice_get ps i)) (rank g (b + suc i)) 65535) (length ps) in
        e ∙ under _ most
      where
        under : (x : ℕ) → x ≤ 65535 → x ≡ min 65535 x
        under x le = omega (arith, le)

-- ---- that of the image

there_least : (m : image.Image) (j n : ℕ) → least_there m j n ≡ least (λ i. cond (enters m i j) (rank_of m i) 65535) n
there_least m j zero = refl
there_least m j (suc n) = ap (λ x. min (cond (enters m n j) (rank_of m n) 65535) x) (there_least m j n)

pub ceilings_are : CodeEntersWhatTextsTouch → TextsUseWhatTheyTouch → RanksAreOfTheMeaning → CeilingsAreOfTheMeaning
ceilings_are code texts ranks g m form names is j =
    there_least m j (length m.processes)
    ∙ (ap (λ n. least (λ i. cond (enters m i j) (rank_of m i) 65535) n) many
    ∙ (least_alike (λ i. cond (enters m i j) (rank_of m i) 65535) (λ i. cond (used_by g j (slice_get (processes g) i)) (rank g (0 + i)) 65535) (length (processes g)) (λ i lt. each i lt)
    ∙ sym (least_same g j 0 (processes g) few)))
  where
    many : length m.processes ≡ length (processes g)
    many = as_many_processes g m.code 0 is.between (length m.code) (processes g) m.processes is.process_code

    few : (k : ℕ) → rank g k ≤ 65535
    few k = let most : rank g k ≤ suc (length (processes g)) = rank_most g k in let all : length (processes g) ≤ 64 = form.counts_fit.few_processes in omega (arith, most, all)

    each : (i : ℕ) → i < length (processes g) → cond (enters m i j) (rank_of m i) 65535 ≡ cond (used_by g j (slice_get (processes g) i)) (rank g (0 + i)) 65535
    each i lt =
        let p = some_at (processes g) i lt in
        let z : i ≡ 0 + i = omega arith in
        ap (λ b. cond b (rank_of m i) 65535) (code g m form names is i p.0 p.1 j ∙ (sym (texts g form names i p.0 p.1 j) ∙ ap (λ o. used_by g j o) (sym p.1)))
        ∙ ap (λ n. cond (used_by g j (slice_get (processes g) i)) n 65535) (ranks g m is i ∙ ap (λ n. rank g n) z)
