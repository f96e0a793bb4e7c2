-- The text of the script, line by line.
use Rattle.std.proofs.Common.{◌≡◌, ℕ, suc, ◌+◌, ◌-◌, ◌*◌, ◌<◌, List, [], ◌∷◌, ◌++◌, pos, ◌-ℤ◌, ◌≤◌, codes, decimal, refl, ap, sym, ◌∙◌, append_assoc, arith}
use Rattle.script.specs.Saying.{set, end, spelled, text_of}
use Rattle.load.specs.Draws.{state, next, below, draw}
use Rattle.load.specs.Script.{value, settings_from, load_end, load_script, script_text}

-- the text from the line after so many on, so many being left
unfoldable pub rest : (key count before left : ℕ) → List ℕ
rest key count before left = text_of (settings_from key count before left ++ end (load_end count) ∷ [])

-- one more line is put
pub one_more : (key count before : ℕ) (t s : List ℕ) → before < 20 → t ++ rest key count before (20 - before) ≡ script_text key count
    → s ≡ t ++ text_of (set (1000 * count * before) (codes "src") (value key before) ∷ []) → s ++ rest key count (before + 1) (20 - (before + 1)) ≡ script_text key count
unfolding rest
one_more key count before t s few so_far is =
    let left : 20 - before ≡ suc (20 - (before + 1)) = omega arith in
    let after : suc before ≡ before + 1 = omega arith in
    let line = spelled (set (1000 * count * before) (codes "src") (value key before)) in
    let there : rest key count before (20 - before) ≡ line ++ 10 ∷ rest key count (before + 1) (20 - (before + 1)) =
    ap (rest key count before) left ∙ ap (λ n. line ++ 10 ∷ rest key count n (20 - (before + 1))) after in
    ap (λ (u : List ℕ). u ++ rest key count (before + 1) (20 - (before + 1))) is
    ∙ append_assoc t (line ++ 10 ∷ []) (rest key count (before + 1) (20 - (before + 1)))
    ∙ ap (λ (u : List ℕ). t ++ u) (append_assoc line (10 ∷ []) (rest key count (before + 1) (20 - (before + 1))) ∙ sym there) ∙ so_far

pub all-lines : (key count : ℕ) → rest key count 0 (20 - 0) ≡ script_text key count
unfolding rest script_text load_script
all-lines key count = refl

-- the last line
pub ending-is : (key count before : ℕ) (t s u : List ℕ) → 20 ≤ before → t ++ rest key count before (20 - before) ≡ script_text key count
    → s ≡ t ++ (codes "end " ++ decimal (20000 * count)) → u ≡ s ++ codes "\n" → u ≡ script_text key count
unfolding rest
ending-is key count before t s u all so_far is last =
    let none : 20 - before ≡ 0 = omega arith in
    last ∙ ap (λ (v : List ℕ). v ++ codes "\n") is ∙ append_assoc t (codes "end " ++ decimal (20000 * count)) (codes "\n")
    ∙ sym (ap (λ n. t ++ rest key count before n) none) ∙ so_far

-- ---- values

pub value-is : (key before x y : ℕ) → x ≡ state key before → y ≡ next x → pos (below y 2000) -ℤ pos 1000 ≡ value key before
unfolding value draw
value-is key before x y is step = ap (λ s. pos (below s 2000) -ℤ pos 1000) (step ∙ ap next is)
