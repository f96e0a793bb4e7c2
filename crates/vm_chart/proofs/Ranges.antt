-- Lines of a range of numbers, one after another.
use Rattle.std.proofs.Common.{◌≡◌, ◌+◌, ◌*◌, ◌++◌, ℕ, Bool, List, [], ◌∷◌, arith, refl, ap, sym, ◌∙◌, add-one, append_assoc}
use Rattle.std.specs.Prelude.{cond, decimal, filter}
use Rattle.std.specs.List.{flat_map, range_with_len}
use Rattle.std.proofs.lemmas.List.{flat_map_more, map-id}
use Rattle.std.proofs.lemmas.List.FromFn.{filter_of_map_range_with_len_more, map-range_with_len_more}
use Rattle.std.proofs.lemmas.Grind.{flat_map-append}
use Rattle.run_chart.specs.declared.columns.Columns.{Columns}
use Rattle.run_chart.specs.Chart.{filled, marks}
use Rattle.run_chart.specs.Spans.{first_tick}

-- one more number
pub range_more : (a n j : ℕ) → a + n ≡ j → range_with_len a (n + 1) ≡ range_with_len a n ++ j ∷ []
range_more a n j here =
    sym (map-id (range_with_len a (n + 1)))
    ∙ (map-range_with_len_more (λ (x : ℕ). x) a n j here
    ∙ ap (λ (ns : List ℕ). ns ++ j ∷ []) (map-id (range_with_len a n)))

-- one more number that passes, or not
filter_more : (p : ℕ → Bool) (n : ℕ) → filter p (range_with_len 0 (n + 1)) ≡ filter p (range_with_len 0 n) ++ cond (p n) (n ∷ []) []
filter_more p n =
    ap (λ (ns : List ℕ). filter p ns) (sym (map-id (range_with_len 0 (n + 1))))
    ∙ (filter_of_map_range_with_len_more p (λ (x : ℕ). x) 0 n n (omega arith)
    ∙ ap (λ (ns : List ℕ). filter p ns ++ cond (p n) (n ∷ []) []) (map-id (range_with_len 0 n)))

-- lines behind lines
lines_more : (f : ℕ → List ℕ) (before text after : List ℕ) (all new : List ℕ) → text ≡ before ++ flat_map f all → after ≡ text ++ flat_map f new → after ≡ before ++ flat_map f (all ++ new)
lines_more f before text after all new so_far put =
    put
    ∙ (ap (λ (bytes : List ℕ). bytes ++ flat_map f new) so_far
    ∙ (append_assoc before (flat_map f all) (flat_map f new) ∙ ap (λ (bytes : List ℕ). before ++ bytes) (sym (flat_map-append f all new))))

-- the lines of one number more, if it passes
pub line_more : (f : ℕ → List ℕ) (p : ℕ → Bool) (before text after : List ℕ) (n : ℕ) → text ≡ before ++ flat_map f (filter p (range_with_len 0 n)) → after ≡ text ++ flat_map f (cond (p n) (n ∷ []) []) → after ≡ before ++ flat_map f (filter p (range_with_len 0 (n + 1)))
line_more f p before text after n so_far put =
    lines_more f before text after (filter p (range_with_len 0 n)) (cond (p n) (n ∷ []) []) so_far put
    ∙ ap (λ (ns : List ℕ). before ++ flat_map f ns) (sym (filter_more p n))

-- the lines of one rank more
pub rank_more : (f : ℕ → List ℕ) (g : ℕ → List ℕ) (before text after : List ℕ) (n j : ℕ) → 1 + n ≡ j → text ≡ before ++ flat_map f (flat_map g (range_with_len 1 n)) → after ≡ text ++ flat_map f (g j) → after ≡ before ++ flat_map f (flat_map g (range_with_len 1 (n + 1)))
rank_more f g before text after n j here so_far put =
    let all : List ℕ = flat_map g (range_with_len 1 n) in
    let more : flat_map g (range_with_len 1 (n + 1)) ≡ all ++ g j =
    ap (λ (ns : List ℕ). flat_map g ns) (range_more 1 n j here) ∙ sym (flat_map_more g [] (range_with_len 1 n) j) in
    lines_more f before text after all (g j) so_far put ∙ ap (λ (ns : List ℕ). before ++ flat_map f ns) (sym more)

-- one more mark
pub marks_more : (columns : Columns) (n : ℕ) → marks columns (n + 1) ≡ filled (10 * n) (marks columns n) ++ decimal (first_tick columns (10 * n))
marks_more columns n = rw add-one refl
