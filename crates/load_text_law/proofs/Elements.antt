-- The lines one by one.
use Rattle.std.proofs.Common.{◌≡◌, ◌≤◌, ◌<◌, ◌+◌, ◌*◌, ℕ, zero, suc, [], ◌∷◌, ◌++◌, Some, codes, length, map, get_or, All, refl, ap, sym, ◌∙◌, subst, length-append, arith}
use Rattle.std.specs.Prelude.{AllPairs, option_map}
use Rattle.std.proofs.Math.Nat.{mul-le-mul_left}
use Rattle.std.proofs.lemmas.List.Elements.{All-nil, All-cons}
use Rattle.image.specs.declared.names.ImageNames.{ImageNames}
use Rattle.script.specs.declared.script.ScriptLine.{ScriptLine}
use Rattle.script.specs.declared.script.ScriptLine.TheVariants.{Set}
use Rattle.script.specs.Saying.{set, end, spelled, text_of, IsInForm}
use Rattle.script.specs.Scripts.{in_device, meaning, tick_of, IsLater, IsApart, Respects, IsScript}
use Rattle.load.specs.Script.{value, settings_from, load_end, load_script, script_text}
use Rattle.load_text_law.specs.Lines.{lines_from, load_lines}
use Rattle.load_text_law.proofs.Values.{tick_below, src_is_word, small_value, short_setting, short_end}
use Rattle.script.proofs.Faults.{text_both}

early : (count before : ℕ) → 1 ≤ count → count ≤ 64 → before < 20 → 1000 * count * before < 1000000000
early count before some few under = omega (arith, tick_below count before some under)

are_in_form : (key count before left : ℕ) → 1 ≤ count → count ≤ 64 → before + left ≤ 20 → All IsInForm (settings_from key count before left)
are_in_form key count before zero some few under = All-nil IsInForm
are_in_form key count before (suc left) some few under =
    let value_small = small_value key before in
    All-cons IsInForm (set (1000 * count * before) (codes "src") (value key before)) (settings_from key count (suc before) left)
    (early count before some few (omega arith), src_is_word, value_small.0) (are_in_form key count (suc before) left some few (omega arith))

is_short : (key count before left : ℕ) → 1 ≤ count → count ≤ 64 → before + left ≤ 20
    → length (text_of (settings_from key count before left ++ end (load_end count) ∷ [])) ≤ 40 * left + 20
is_short key count before zero some few under =
    let last = short_end (load_end count) (omega arith) in
    omega (arith, last, length-append (spelled (end (load_end count))) (10 ∷ []))
is_short key count before (suc left) some few under =
    let value_small = small_value key before in
    let line = short_setting (1000 * count * before) (value key before) (early count before some few (omega arith)) value_small.1 in
    let more = is_short key count (suc before) left some few (omega arith) in
    omega (arith, line, more, length-append (spelled (set (1000 * count * before) (codes "src") (value key before))) (10 ∷ text_of (settings_from key count (suc before) left ++ end (load_end count) ∷ [])))

mean_lines : (names : ImageNames) (device : ℕ) → in_device names (codes "src") ≡ Some device → (key count before left : ℕ)
    → map (meaning names) (settings_from key count before left) ≡ map (λ line. Some line) (lines_from device key count before left)
mean_lines names device there key count before zero = refl
mean_lines names device there key count before (suc left) =
    let first = ap (option_map (λ number. Set (1000 * count * before) number (value key before))) there in
    let more = mean_lines names device there key count (suc before) left in
    λ i. first i ∷ more i

how_many : (device key count before left : ℕ) → length (lines_from device key count before left) ≡ left
how_many device key count before zero = refl
how_many device key count before (suc left) = omega (arith, how_many device key count (suc before) left)

element : (device key count before left i : ℕ) (d : ScriptLine) → i < left
    → get_or (lines_from device key count before left) i d ≡ Set (1000 * count * (before + i)) device (value key (before + i))
element device key count before zero i d under = absurd (omega arith)
element device key count before (suc left) zero d under =
    let same : before ≡ before + 0 = omega arith in ap (λ n. Set (1000 * count * n) device (value key n)) same
element device key count before (suc left) (suc i) d under =
    let same : suc before + i ≡ before + suc i = omega arith in
    element device key count (suc before) left i d (omega arith) ∙ ap (λ n. Set (1000 * count * n) device (value key n)) same

module _ (device key count left : ℕ) where
  at : (i : ℕ) (d : ScriptLine) → i < length (lines_from device key count 0 left) → get_or (lines_from device key count 0 left) i d ≡ Set (1000 * count * (0 + i)) device (value key (0 + i))
  at i d under = element device key count 0 left i d (omega (arith, how_many device key count 0 left))

  ascend : AllPairs IsLater (lines_from device key count 0 left)
  ascend i j d less under =
      let one = ap tick_of (at i d (omega (arith, under))) in
      let two = ap tick_of (at j d under) in
      let up : 0 + i ≤ 0 + j = omega arith in
      omega (arith, one, two, mul-le-mul_left (1000 * count) up)

  apart : (names : ImageNames) → AllPairs (IsApart names) (lines_from device key count 0 left)
  apart names i j d less under =
      let P : ScriptLine → Type 0 = λ line. IsApart names line (get_or (lines_from device key count 0 left) j d) in
      subst P (sym (at i d (omega (arith, under)))) tt

  pub respects : (names : ImageNames) → Respects names (lines_from device key count 0 left)
  respects names = record { order = ascend; frames = apart names }

  pub end_above : 1 ≤ count → left ≤ 20 → All (λ line. tick_of line < load_end count) (lines_from device key count 0 left)
  end_above some few k d under =
      let one = ap tick_of (at k d under) in
      let below = tick_below count (0 + k) some (omega (arith, how_many device key count 0 left)) in
      omega (arith, one, below)

pub is_script : (names : ImageNames) (device key count : ℕ) → in_device names (codes "src") ≡ Some device → 1 ≤ count → count ≤ 64
    → IsScript names (script_text key count) (load_lines device key count) (load_end count)
unfolding script_text load_script load_lines
is_script names device key count there some few = record {
  short = (let all = is_short key count 0 20 some few (omega arith) in omega (arith, all));
  few = omega (arith, how_many device key count 0 20);
  said = settings_from key count 0 20;
  begun = record {
    form = are_in_form key count 0 20 some few (omega arith);
    whole = text_both (settings_from key count 0 20) (end (load_end count) ∷ []);
    means = mean_lines names device there key count 0 20;
    respects = respects device key count 20 names;
  };
  form = omega arith;
  above = end_above device key count 20 some (omega arith);
}
