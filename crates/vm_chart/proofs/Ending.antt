-- Columns that are over, and the chart that is drawn.
use Rattle.std.proofs.Common.{◌≡◌, ◌≤◌, ◌<◌, ◌+◌, ◌-◌, ◌*◌, ◌++◌, ℕ, List, [], ◌∷◌, map, arith, ap, sym, subst, ◌∙◌}
use Rattle.std.specs.Prelude.{min}
use Rattle.std.specs.Int.{div_ceil}
use Rattle.std.specs.List.{range_with_len}
use Rattle.std.proofs.lemmas.Grind.{div_ceil_times}
use Rattle.std.proofs.lemmas.Simd.{map-map}
use Rattle.std.proofs.lemmas.List.FromFn.{map-range_with_len_more}
use Rattle.run_chart.specs.declared.columns.Columns.{Columns}
use Rattle.run_chart.specs.declared.letter.Letter.{Letter}
use Rattle.run_chart.specs.declared.letter.Letter.TheVariants.{Blank}
use Rattle.run_chart.specs.Letters.{drawn, first_of, letter_at}
use Rattle.run_chart.specs.Spans.{first_tick, shown}
use Rattle.run_chart.specs.declared.trace.Trace.{Trace}
use Rattle.run_chart.specs.Columns.{end_of}
use Rattle.run_chart.specs.Traces.{AreDrawn, Counts, IsDrawn}
use Rattle.vm_chart.specs.declared.course.Course.{Course}
use Rattle.vm_chart.specs.Follows.{AreColumns, Drawing, Follows, IsDrawnTo, begins, events_before}

-- ---- the ticks of columns

module _ (columns : Columns) (is : AreColumns columns) where
  abbrev ticks : ℕ
  ticks = columns.end - columns.first

  count_is : columns.count ≡ div_ceil ticks columns.width
  count_is = ap (λ (x : Columns). x.count) is.are ∙ ap (λ (w : ℕ). div_ceil ticks w) (sym (ap (λ (x : Columns). x.width) is.are))

  -- the columns hold all ticks, and one fewer do not
  all_held : ticks ≤ columns.count * columns.width
  all_held = (let both = div_ceil_times ticks columns.width is.few.some in subst (λ (n : ℕ). ticks ≤ n * columns.width) (sym count_is) both.0)

  one_less : columns.count * columns.width < ticks + columns.width
  one_less = (let both = div_ceil_times ticks columns.width is.few.some in subst (λ (n : ℕ). n * columns.width < ticks + columns.width) (sym count_is) both.1)

  times_more : (c : ℕ) → (c + 1) * columns.width ≡ c * columns.width + columns.width
  times_more c = omega arith

  times_le : (b c : ℕ) → b ≤ c → b * columns.width ≤ c * columns.width
  times_le b c low = grind (arith, low)

  -- a column begins before the end
  pub begins_before : (c : ℕ) → c < columns.count → first_tick columns c < columns.end
  begins_before c low =
      let held = times_le (c + 1) columns.count (omega (arith, low)) in
      let more = times_more c in
      let less = one_less in
      omega (arith, held, more, less)

  -- it ends where the next begins, or at the end of all
  pub next_is : (c : ℕ) → c < columns.count → end_of columns c ≡ min (first_tick columns (c + 1)) columns.end
  next_is c low = (let before = begins_before c low in let more = times_more c in omega (arith, before, more))

  -- the last ends at the end of all
  pub last_is : min (first_tick columns columns.count) columns.end ≡ columns.end
  last_is = (let held = all_held in omega (arith, held))

-- ---- a column is over

module _ (d : Drawing) (k : ℕ) where
  pub column_over : (t : ℕ) (old new : Trace) → t ≡ end_of d.columns d.column → t ≤ first_tick d.columns (d.column + 1)
      → new ≡ record old { row = old.row ++ drawn old.letter ∷ []; letter = Blank } → IsDrawnTo d t t k old → IsDrawnTo (record d { column = d.column + 1 }) t t k new
  column_over t old new here next made is =
      let row : ℕ → ℕ = λ i. drawn (shown d.image d.script d.columns k i) in
      let len : t - begins d ≡ min d.columns.width (d.columns.end - begins d) = omega (arith, here) in
      let letter : old.letter ≡ shown d.image d.script d.columns k d.column =
      is.letter ∙ ap (λ (n : ℕ). first_of (map (letter_at d.image d.script k) (range_with_len (begins d) n))) len in
      let none : t - first_tick d.columns (d.column + 1) ≡ 0 = omega (arith, next) in
      subst (λ (x : Trace). IsDrawnTo (record d { column = d.column + 1 }) t t k x) (sym made) (record {
        row =
            ap (λ (l : Letter). old.row ++ drawn l ∷ []) letter
            ∙ (ap (λ (bytes : List ℕ). bytes ++ row d.column ∷ []) is.row ∙ sym (map-range_with_len_more row 0 d.column d.column (omega arith)));
        letter = ap (λ (n : ℕ). first_of (map (letter_at d.image d.script k) (range_with_len (first_tick d.columns (d.column + 1)) n))) (sym none);
        counts = record { released = is.counts.released; ended = is.counts.ended; longest = is.counts.longest };
      })

-- ---- all is drawn

pub all_drawn : (d : Drawing) (course : Course) → d.column ≡ d.columns.count → course.machine.tick ≡ d.columns.end → Follows d course → AreDrawn d.image d.script d.columns course.traces.items
all_drawn d course over end follows =
    record {
      count = follows.count;
      each = λ k trace at. one k trace (follows.each k trace at);
    } where
      one : (k : ℕ) (trace : Trace) → IsDrawnTo d course.machine.tick course.machine.tick k trace → IsDrawn d.image d.script d.columns k trace
      one k trace is =
          let upto : Counts k d.columns.first (events_before d.image d.script d.columns.end) trace = subst (λ (t : ℕ). Counts k d.columns.first (events_before d.image d.script t) trace) end is.counts in
          record {
            row =
                is.row
                ∙ (ap (λ (n : ℕ). map (λ i. drawn (shown d.image d.script d.columns k i)) (range_with_len 0 n)) over
                ∙ sym (map-map drawn (shown d.image d.script d.columns k) (range_with_len 0 d.columns.count)));
            ended = upto.ended;
            longest = upto.longest;
          }
