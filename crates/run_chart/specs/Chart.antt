-- The lines of a chart.
use Rattle.std.specs.Prelude.{◌+◌, ◌-◌, ◌*◌, ◌++◌, ℕ, zero, suc, List, [], ◌∷◌, Option, Some, None, length, map, max, min, fold, codes, decimal, replicate, option_map, slice_get, unwrap_or, filter, nat_eq}
use Rattle.std.specs.Int.{div_ceil}
use Rattle.std.specs.List.{flat_map, range_with_len}
use Rattle.base.specs.declared.event.Event.{Event}
use Rattle.image.specs.declared.names.ImageNames.{ImageNames}
use Rattle.image.specs.Named.{NamedImage}
use Rattle.event_log.specs.Line.{process_name}
use Rattle.machine_semantics.specs.Image.{Image, Script}
use Rattle.machine_semantics.specs.Run.{at_start, events_from}
use Rattle.run_chart.specs.declared.columns.Columns.{Columns}
use Rattle.run_chart.specs.declared.letter.Letter.{Letter}
use Rattle.run_chart.specs.Letters.{drawn}
use Rattle.run_chart.specs.Spans.{columns_of, first_tick, shown}
use Rattle.run_chart.specs.Responses.{longest, responses}

-- ---- parts of a line

-- a text, filled with blanks to a length
abbrev pub filled : (len : ℕ) → List ℕ → List ℕ
filled len text = text ++ replicate (len - length text) 32

-- the first n marks: a mark stands at every tenth column, and is its first tick
abbrev pub marks : Columns → (n : ℕ) → List ℕ
marks columns zero = []
marks columns (suc n) = filled (10 * n) (marks columns n) ++ decimal (first_tick columns (10 * n))

abbrev pub scale : Columns → List ℕ
scale columns = marks columns (div_ceil columns.count 10)

-- how long the labels are, and the texts behind them
abbrev pub label_len : ImageNames → ℕ
label_len names = fold max (length (codes "tick")) (map length names.processes)

abbrev pub text_len : Columns → ℕ
text_len columns = max columns.count (length (scale columns))

-- a label and a text, each filled to its length, and what stands behind them
abbrev pub line : (labels texts : ℕ) → (label text end : List ℕ) → List ℕ
line labels texts label text end = filled labels label ++ (codes "  " ++ (filled texts text ++ (codes "  " ++ (end ++ codes "\n"))))

-- ---- the lines

abbrev pub scale_line : ImageNames → Columns → List ℕ
scale_line names columns = line (label_len names) (text_len columns) (codes "tick") (scale columns) (codes "column " ++ decimal columns.width)

abbrev pub longest_text : Option ℕ → List ℕ
longest_text None = codes "none"
longest_text (Some ticks) = decimal ticks

-- how many activations end, the longest response of them, and the bound that is declared
abbrev pub summary : (ended : ℕ) (response : Option ℕ) (bound : ℕ) → List ℕ
summary ended response bound = codes "ended " ++ (decimal ended ++ (codes " longest " ++ (longest_text response ++ (codes " bound " ++ decimal bound))))

-- the line of process k, which has these letters and these responses
abbrev pub process_line : ImageNames → Columns → (k : ℕ) → List Letter → (responses : List ℕ) → (bound : ℕ) → List ℕ
process_line names columns k letters rs bound = line (label_len names) (text_len columns) (process_name names k) (map drawn letters) (summary (length rs) (longest rs) bound)

-- ---- the chart of a run

-- by column what it shows of process k
abbrev pub letters : Image → Script → Columns → (k : ℕ) → List Letter
letters image script columns k = map (shown image script columns k) (range_with_len 0 columns.count)

-- the responses of process k in the ticks that are shown
abbrev pub responses_in : Image → Script → Columns → (k : ℕ) → List ℕ
responses_in image script columns k = responses k columns.first 0 (events_from image script columns.end 0 (at_start image))

-- what process k declares
abbrev pub bound_of : Image → (k : ℕ) → ℕ
bound_of image k = unwrap_or (option_map (λ p. p.bound) (slice_get image.processes k)) 0

abbrev pub declared_rank_of : Image → (k : ℕ) → ℕ
declared_rank_of image k = unwrap_or (option_map (λ p. p.rank) (slice_get image.processes k)) 0

-- the numbers of the processes of a rank, and of all in the order of ranks
abbrev pub of_rank : Image → (rank : ℕ) → List ℕ
of_rank image rank = filter (λ k. nat_eq (declared_rank_of image k) rank) (range_with_len 0 (length image.processes))

abbrev pub by_rank : Image → List ℕ
by_rank image = flat_map (of_rank image) (range_with_len 1 (length image.processes))

abbrev pub process_of_run : NamedImage → Script → Columns → (k : ℕ) → List ℕ
process_of_run n script columns k = process_line n.names columns k (letters n.image script columns k) (responses_in n.image script columns k) (bound_of n.image k)

-- the lines of the scale and of the processes in the order of ranks
abbrev pub chart_in : NamedImage → Script → Columns → List ℕ
chart_in n script columns = scale_line n.names columns ++ flat_map (process_of_run n script columns) (by_rank n.image)

-- from tick a up to before tick b, or the script's end where this comes first
unfoldable pub chart_text : NamedImage → Script → (a b : ℕ) → List ℕ
chart_text n script a b = chart_in n script (columns_of a (min b script.end_tick))
