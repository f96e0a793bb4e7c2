-- Lines that are passed, and lines that come too late to count.
use Rattle.std.specs.Prelude.{◌≡◌, ◌≤◌, ◌<◌, ℕ, zero, suc, ◌+◌, ℤ, pos, Bool, true, false, cond, ◌&&◌, List, [], ◌∷◌, ◌++◌, length, drop, take, map, nat_eq, nat_le}
use Rattle.std.proofs.Common.{refl, sym, ◌∙◌, ap, arith, get_or, set, replicate, get_or-set_same, get_or-set_other}
use Rattle.std.proofs.lemmas.Bool.{ne_eqb}
use Rattle.std.proofs.lemmas.Bool.Decides.{nat_tests}
use Rattle.base.specs.declared.event.Event.{Event}
use Rattle.syntax_tree.specs.Plain.{Program}
use Rattle.source_semantics.specs.Names.{processes}
use Rattle.source_semantics.specs.Config.{Config}
use Rattle.source_semantics.specs.Starts.{Script, due, event_releases, releases_by, value_set}
use Rattle.script.specs.declared.script.ScriptLine.{ScriptLine}
use Rattle.script.specs.declared.script.ScriptLine.TheVariants as line_is
use Rattle.script.specs.Scripts.{tick_of}
use Rattle.script.specs.Meaning.{line_said, said}
use Rattle.replay_script.specs.Cursors.{ArePassed, are_in_order, until, word, word_after}

-- what stands past the end of a list of lines
abbrev pub some_line : ScriptLine
some_line = line_is.Set 0 0 (pos 0)

no_test : (a : Bool) → a && false ≡ false
no_test true = refl
no_test false = refl

yes_test : (a : Bool) → a && true ≡ a
yes_test true = refl
yes_test false = refl

-- ---- lines in order

record Rises (t : ℕ) (l : ScriptLine) (ls : List ScriptLine) : Type 0 where
  first : t ≤ tick_of l
  rest : are_in_order (tick_of l) ls ≡ true

rises : (t : ℕ) (l : ScriptLine) (ls : List ScriptLine) → are_in_order t (l ∷ ls) ≡ true → Rises t l ls
rises t l ls h = by_case (nat_le t (tick_of l)) refl h
  where
    by_case : (b : Bool) → nat_le t (tick_of l) ≡ b → b && are_in_order (tick_of l) ls ≡ true → Rises t l ls
    by_case true e h = record { first = grind (arith, nat_tests); rest = h }
    by_case false e h = absurd cc

pub ordered : (t : ℕ) (l : ScriptLine) (ls : List ScriptLine) → t ≤ tick_of l → are_in_order (tick_of l) ls ≡ true → are_in_order t (l ∷ ls) ≡ true
ordered t l ls low h = let e : nat_le t (tick_of l) ≡ true = grind (arith, nat_tests) in rw e h

pub order_from : (t p : ℕ) (ls : List ScriptLine) → are_in_order p ls ≡ true → t ≤ p → are_in_order t ls ≡ true
order_from t p [] h low = refl
order_from t p (l ∷ ls) h low =
    let r : Rises p l ls = rises p l ls h in
    let first : p ≤ tick_of l = r.first in
    ordered t l ls (omega (arith, first, low)) r.rest

pub order_left : (t k : ℕ) (ls : List ScriptLine) → are_in_order t ls ≡ true → are_in_order 0 (drop k ls) ≡ true
order_left t zero ls h = order_from 0 t ls h (omega arith)
order_left t (suc k) [] h = refl
order_left t (suc k) (l ∷ ls) h = order_left (tick_of l) k ls (rises t l ls h).rest

-- the first of what is left is not before the tick
pub order_here : (t k : ℕ) (l : ScriptLine) (ls : List ScriptLine) → are_in_order 0 ls ≡ true → drop k ls ≡ l ∷ drop (k + 1) ls → t ≤ tick_of l → are_in_order t (drop k ls) ≡ true
order_here t k l ls h split low =
    let left : are_in_order 0 (l ∷ drop (k + 1) ls) ≡ true = ap (are_in_order 0) (sym split) ∙ order_left 0 k ls h in
    ap (are_in_order t) split ∙ ordered t l (drop (k + 1) ls) low (rises 0 l (drop (k + 1) ls) left).rest

-- ---- lines that come too late

releases_late : (g : Program) (c : Config) (u p : ℕ) (ls : List ScriptLine) → are_in_order p ls ≡ true → u < p → event_releases g c u (map line_said ls) ≡ []
releases_late g c u p [] h late = refl
releases_late g c u p (line_is.Set t d v ∷ ls) h late =
    let r : Rises p (line_is.Set t d v) ls = rises p (line_is.Set t d v) ls h in
    let first : p ≤ t = r.first in
    releases_late g c u t ls r.rest (omega (arith, first, late))
releases_late g c u p (line_is.Occur t e ∷ ls) h late =
    let r : Rises p (line_is.Occur t e) ls = rises p (line_is.Occur t e) ls h in
    let first : p ≤ t = r.first in
    let apart : nat_eq t u ≡ false = ne_eqb t u (λ same. absurd (omega (arith, same, first, late))) in
    rw apart (releases_late g c u t ls r.rest (omega (arith, first, late)))

releases_more : (g : Program) (c : Config) (u : ℕ) (l : ScriptLine) (a b : List ScriptLine) → event_releases g c u (map line_said a) ≡ event_releases g c u (map line_said b)
    → event_releases g c u (map line_said (l ∷ a)) ≡ event_releases g c u (map line_said (l ∷ b))
releases_more g c u (line_is.Set t d v) a b e = e
releases_more g c u (line_is.Occur t x) a b e = ap (λ (es : List Event). cond (nat_eq t u) (releases_by g c u x 0 (processes g)) [] ++ es) e

pub releases_until : (g : Program) (c : Config) (u t p : ℕ) (ls : List ScriptLine) → are_in_order p ls ≡ true → u ≤ t → event_releases g c u (map line_said (until t ls)) ≡ event_releases g c u (map line_said ls)
releases_until g c u t p [] h low = refl
releases_until g c u t p (l ∷ ls) h low =
    let r : Rises p l ls = rises p l ls h in
    by_case (nat_le (tick_of l) t) refl r.rest (releases_until g c u t (tick_of l) ls r.rest low)
  where
    by_case : (b : Bool) → nat_le (tick_of l) t ≡ b → are_in_order (tick_of l) ls ≡ true → event_releases g c u (map line_said (until t ls)) ≡ event_releases g c u (map line_said ls)
        → event_releases g c u (map line_said (cond b (l ∷ until t ls) [])) ≡ event_releases g c u (map line_said (l ∷ ls))
    by_case true e rest same = releases_more g c u l (until t ls) ls same
    by_case false e rest same =
        let past : t < tick_of l = grind (arith, nat_tests) in
        sym (releases_late g c u (suc u) (l ∷ ls) (ordered (suc u) l ls (omega (arith, low, past)) rest) (omega arith))

value_late : (u d : ℕ) (v : ℤ) (p : ℕ) (ls : List ScriptLine) → are_in_order p ls ≡ true → u < p → value_set u d v (map line_said ls) ≡ v
value_late u d v p [] h late = refl
value_late u d v p (line_is.Set t e w ∷ ls) h late =
    let r : Rises p (line_is.Set t e w) ls = rises p (line_is.Set t e w) ls h in
    let first : p ≤ t = r.first in
    let after : nat_le t u ≡ false = grind (arith, nat_tests, first, late) in
    rw (after, no_test (nat_eq e d)) (value_late u d v t ls r.rest (omega (arith, first, late)))
value_late u d v p (line_is.Occur t e ∷ ls) h late =
    let r : Rises p (line_is.Occur t e) ls = rises p (line_is.Occur t e) ls h in
    let first : p ≤ t = r.first in
    value_late u d v t ls r.rest (omega (arith, first, late))

value_more : (u d : ℕ) (v : ℤ) (l : ScriptLine) (a b : List ScriptLine) → ((w : ℤ) → value_set u d w (map line_said a) ≡ value_set u d w (map line_said b)) → value_set u d v (map line_said (l ∷ a)) ≡ value_set u d v (map line_said (l ∷ b))
value_more u d v (line_is.Set t e w) a b h = h (cond (nat_eq e d && nat_le t u) w v)
value_more u d v (line_is.Occur t e) a b h = h v

pub value_until : (u d : ℕ) (v : ℤ) (p : ℕ) (ls : List ScriptLine) → are_in_order p ls ≡ true → value_set u d v (map line_said (until u ls)) ≡ value_set u d v (map line_said ls)
value_until u d v p [] h = refl
value_until u d v p (l ∷ ls) h =
    let r : Rises p l ls = rises p l ls h in
    by_case (nat_le (tick_of l) u) refl r.rest (λ w. value_until u d w (tick_of l) ls r.rest)
  where
    by_case : (b : Bool) → nat_le (tick_of l) u ≡ b → are_in_order (tick_of l) ls ≡ true → ((w : ℤ) → value_set u d w (map line_said (until u ls)) ≡ value_set u d w (map line_said ls))
        → value_set u d v (map line_said (cond b (l ∷ until u ls) [])) ≡ value_set u d v (map line_said (l ∷ ls))
    by_case true e rest same = value_more u d v l (until u ls) ls same
    by_case false e rest same =
        let past : u < tick_of l = grind (arith, nat_tests) in
        sym (value_late u d v (suc u) (l ∷ ls) (ordered (suc u) l ls (omega (arith, past)) rest) (omega arith))

-- the lines up to a tick end at the first that is after it
pub until_stops : (t k : ℕ) (ls : List ScriptLine) (d : ScriptLine) → k < length ls → ((i : ℕ) → i < k → tick_of (get_or ls i d) ≤ t) → t < tick_of (get_or ls k d) → until t ls ≡ take k ls
until_stops t k [] d within early late = absurd (omega (arith, within))
until_stops t zero (l ∷ ls) d within early late = let e : nat_le (tick_of l) t ≡ false = grind (arith, nat_tests) in rw e refl
until_stops t (suc k) (l ∷ ls) d within early late =
    let low : tick_of l ≤ t = early 0 (omega arith) in
    let e : nat_le (tick_of l) t ≡ true = grind (arith, nat_tests) in
    rw e (ap (λ (xs : List ScriptLine). l ∷ xs) (until_stops t k ls d (omega (arith, within)) (λ i h. early (suc i) (omega (arith, h))) late))

pub until_all : (t : ℕ) (ls : List ScriptLine) (d : ScriptLine) → ((i : ℕ) → i < length ls → tick_of (get_or ls i d) ≤ t) → until t ls ≡ ls
until_all t [] d early = refl
until_all t (l ∷ ls) d early =
    let low : tick_of l ≤ t = early 0 (omega arith) in
    let e : nat_le (tick_of l) t ≡ true = grind (arith, nat_tests) in
    rw e (ap (λ (xs : List ScriptLine). l ∷ xs) (until_all t ls d (λ i h. early (suc i) (omega (arith, h)))))

-- ---- a line is passed

split_next : (ls : List ScriptLine) (k : ℕ) → k < length ls → drop k ls ≡ get_or ls k some_line ∷ drop (suc k) ls
split_next [] k h = absurd (omega (arith, h))
split_next (l ∷ ls) zero h = refl
split_next (l ∷ ls) (suc k) h = split_next ls k (omega (arith, h))

-- what is left, from its first line on
pub split_at : (ls : List ScriptLine) (k : ℕ) → k < length ls → drop k ls ≡ get_or ls k some_line ∷ drop (k + 1) ls
split_at ls k h = let next : suc k ≡ k + 1 = omega arith in split_next ls k h ∙ ap (λ (n : ℕ). get_or ls k some_line ∷ drop n ls) next

releases_past : (g : Program) (c : Config) (u : ℕ) (l : ScriptLine) (ls : List ScriptLine) → tick_of l < u → event_releases g c u (map line_said (l ∷ ls)) ≡ event_releases g c u (map line_said ls)
releases_past g c u (line_is.Set t d v) ls past = refl
releases_past g c u (line_is.Occur t e) ls past =
    let apart : nat_eq t u ≡ false = ne_eqb t u (λ same. absurd (omega (arith, same, past))) in
    rw apart refl

value_past : (u d : ℕ) (v : ℤ) (l : ScriptLine) (ls : List ScriptLine) → tick_of l ≤ u → value_set u d v (map line_said (l ∷ ls)) ≡ value_set u d (word_after d v l) (map line_said ls)
value_past u d v (line_is.Set t e w) ls low =
    let come : nat_le t u ≡ true = grind (arith, nat_tests) in
    rw (come, yes_test (nat_eq e d)) refl
value_past u d v (line_is.Occur t e) ls low = refl

pub pass_one : (t done : ℕ) (lines : List ScriptLine) (words later : List ℤ) (l : ScriptLine) → drop done lines ≡ l ∷ drop (done + 1) lines → tick_of l < t → ((d : ℕ) → word d later ≡ word_after d (word d words) l)
    → ArePassed t done lines words → ArePassed t (done + 1) lines later
pass_one t done lines words later l split past kept passed = record {
  releases = λ g c u low.
      passed.releases g c u low
      ∙ (ap (λ (ls : List ScriptLine). event_releases g c u (map line_said ls)) split ∙ releases_past g c u l (drop (done + 1) lines) (omega (arith, low, past)));
  words = λ u d low.
      passed.words u d low
      ∙ (
      ap (λ (ls : List ScriptLine). value_set u d (word d words) (map line_said ls)) split
      ∙ (value_past u d (word d words) l (drop (done + 1) lines) (omega (arith, low, past)) ∙ ap (λ (v : ℤ). value_set u d v (map line_said (drop (done + 1) lines))) (sym (kept d)))
      );
}

pub pass_later : (t u done : ℕ) (lines : List ScriptLine) (words : List ℤ) → t ≤ u → ArePassed t done lines words → ArePassed u done lines words
pass_later t u done lines words low passed = record {
  releases = λ g c v high. passed.releases g c v (omega (arith, low, high));
  words = λ v d high. passed.words v d (omega (arith, low, high));
}

pub none_passed : (lines : List ScriptLine) (words : List ℤ) → ((d : ℕ) → word d words ≡ pos 0) → ArePassed 0 0 lines words
none_passed lines words zeros = record {
  releases = λ g c u low. refl;
  words = λ u d low. ap (λ (v : ℤ). value_set u d v (map line_said lines)) (sym (zeros d));
}

-- ---- words

pub word_zero : (n d : ℕ) → word d (replicate n (pos 0)) ≡ pos 0
word_zero zero d = refl
word_zero (suc n) zero = refl
word_zero (suc n) (suc d) = word_zero n d

pub word_kept : (words : List ℤ) (e : ℕ) (w : ℤ) (d : ℕ) → e < length words → word d (set words e w) ≡ cond (nat_eq e d) w (word d words)
word_kept words e w d within = by_case (nat_eq e d) refl
  where
    by_case : (b : Bool) → nat_eq e d ≡ b → word d (set words e w) ≡ cond b w (word d words)
    by_case true same =
        let is : e ≡ d = grind (arith, nat_tests) in
        ap (λ (k : ℕ). word k (set words e w)) (sym is) ∙ get_or-set_same words e w (pos 0) within
    by_case false same = get_or-set_other words e d w (pos 0) (λ is. (let other : nat_eq e d ≡ true = grind (arith, nat_tests, is) in absurd cc))

-- ---- what is due

-- lines that release the same at a tick leave the same due
pub due_alike : (g : Program) (c : Config) (u end : ℕ) (a b : List ScriptLine) → event_releases g c u (map line_said a) ≡ event_releases g c u (map line_said b) → due g (said a end) c u ≡ due g (said b end) c u
unfolding due
due_alike g c u end a b e = rw e refl
