-- The number of a condition, by where those of its monitor stand among all.
use Rattle.std.specs.Prelude.{◌≡◌, ◌<◌, ◌≤◌, ◌+◌, ◌-◌, ℕ, zero, suc, List, [], ◌∷◌, ◌++◌, Some, None, drop, get_or, length, map, option_map, slice_get, take}
use Rattle.std.proofs.Common.{refl, sym, ◌∙◌, ap, arith}
use Rattle.std.proofs.lemmas.List.{append_assoc, drop_at, length-append, take_at}
use Rattle.std.proofs.lemmas.Option.{none-some, slice_get-map, slice_get_past, slice_get_read, some_pair_parts}
use Rattle.syntax_tree.specs.Plain.{Monitor, Name}
use Rattle.source_semantics.specs.Names.{condition_from, conditions_of, place_of}
use Rattle.replay_calls.specs.Conditions.{conditions_in, spans_from}
use Rattle.replay_calls.specs.declared.conditions.Span.{Span}

-- a span ends not before it begins, and not behind the last condition
pub span_within : (n : ℕ) (ms : List Monitor) (m s e : ℕ) → slice_get (spans_from n ms) m ≡ Some (s, e) → (s ≤ e) × (e ≤ n + length (conditions_in ms))
span_within n [] m s e at = absurd (none-some (s, e) at)
span_within n (k ∷ ks) zero s e at =
    let own = conditions_of k in
    let ends : (n ≡ s) × (n + length own ≡ e) = some_pair_parts n s (n + length own) e at in
    let all : length (own ++ conditions_in ks) ≡ length own + length (conditions_in ks) = length-append own (conditions_in ks) in
    (omega (arith, ends.0, ends.1), omega (arith, ends.1, all))
span_within n (k ∷ ks) (suc m) s e at =
    let own = conditions_of k in
    let all : length (own ++ conditions_in ks) ≡ length own + length (conditions_in ks) = length-append own (conditions_in ks) in
    let rest : (s ≤ e) × (e ≤ n + length own + length (conditions_in ks)) = span_within (n + length own) ks m s e at in
    (rest.0, omega (arith, rest.1, all))

pub number_in : (before : List Name) (ms : List Monitor) (m s e : ℕ) (x : Name) → slice_get (spans_from (length before) ms) m ≡ Some (s, e)
    → s + place_of x (take (e - s) (drop s (before ++ conditions_in ms))) ≡ condition_from (length before) m x ms
number_in before [] m s e x at = absurd (none-some (s, e) at)
number_in before (k ∷ ks) zero s e x at =
    let own = conditions_of k in
    let rest = conditions_in ks in
    let ends : (length before ≡ s) × (length before + length own ≡ e) = some_pair_parts (length before) s (length before + length own) e at in
    let count : length own ≡ e - s = omega (arith, ends.0, ends.1) in
    ap (λ l. s + place_of x (take (e - s) l)) (drop_at before (own ++ rest) s ends.0)
    ∙ (ap (λ l. s + place_of x l) (take_at own rest (e - s) count)
    ∙ ap (λ n. n + place_of x own) (sym ends.0))
number_in before (k ∷ ks) (suc m) s e x at =
    let own = conditions_of k in
    let longer : length (before ++ own) ≡ length before + length own = length-append before own in
    ap (λ l. s + place_of x (take (e - s) (drop s l))) (sym (append_assoc before own (conditions_in ks)))
    ∙ (number_in (before ++ own) ks m s e x (ap (λ n. slice_get (spans_from n ks) m) longer ∙ at)
    ∙ ap (λ n. condition_from n m x ks) longer)

-- behind the last monitor the number is that behind the last condition
pub number_past : (n : ℕ) (ms : List Monitor) (m : ℕ) (x : Name) → slice_get (spans_from n ms) m ≡ None → n + length (conditions_in ms) ≡ condition_from n m x ms
number_past n [] m x at = omega arith
number_past n (k ∷ ks) zero x at = absurd (none-some (n, n + length (conditions_of k)) (sym at))
number_past n (k ∷ ks) (suc m) x at =
    let own = conditions_of k in
    let all : length (own ++ conditions_in ks) ≡ length own + length (conditions_in ks) = length-append own (conditions_in ks) in
    let more : n + length (own ++ conditions_in ks) ≡ n + length own + length (conditions_in ks) = omega (arith, all) in
    more ∙ number_past (n + length own) ks m x at

abbrev pub ends : Span → ℕ × ℕ
ends s = (s.start, s.end)

-- what is read of the spans that are kept
pub span_at : (kept read : List Span) (ms : List Monitor) (m : ℕ) (s : Span) → map ends kept ≡ spans_from 0 ms → read ≡ kept → m < length read → s ≡ get_or read m s
    → slice_get (spans_from 0 ms) m ≡ Some (s.start, s.end)
span_at kept read ms m s are same within is =
    ap (λ l. slice_get l m) (sym are ∙ ap (map ends) (sym same))
    ∙ (slice_get-map ends read m ∙ ap (option_map ends) (slice_get_read read (length read) m s refl within is))

pub no_span_at : (kept read : List Span) (ms : List Monitor) (m : ℕ) → map ends kept ≡ spans_from 0 ms → read ≡ kept → length read ≤ m → slice_get (spans_from 0 ms) m ≡ None
no_span_at kept read ms m are same past =
    ap (λ l. slice_get l m) (sym are ∙ ap (map ends) (sym same)) ∙ (slice_get-map ends read m ∙ ap (option_map ends) (slice_get_past read m past))
