-- The lines of a text, one after another.
use Rattle.std.proofs.Common.{◌≡◌, ◌≢◌, ◌+◌, ◌-◌, ◌<◌, ◌==◌, ℕ, zero, suc, List, [], ◌∷◌, ◌++◌, All, false, length, take, drop, get_or, refl, ap, sym, subst, ◌∙◌, arith}
use Rattle.std.proofs.lemmas.Bool.{eq-eqb, ne_eqb}
use Rattle.std.proofs.lemmas.List.{drop_more, take_more, take-append-drop, get_or_past}
use Rattle.std.proofs.lemmas.List.Elements.{All-push}
use Rattle.std.proofs.lemmas.List.Splits.{slice_split_at}
use Rattle.std.specs.List.{slice_split}
use Rattle.message_text.specs.Shown.{line, lines}

-- the first piece ends before the first byte of this value
pub piece_cut : (stop : ℕ) (bytes : List ℕ) (i : ℕ) → i < length bytes → get_or bytes i 0 ≡ stop → All (λ b. (b == stop) ≡ false) (take i bytes)
    → slice_split (λ b. b == stop) bytes ≡ take i bytes ∷ slice_split (λ b. b == stop) (drop (i + 1) bytes)
piece_cut stop bytes i below is before =
    let parts : bytes ≡ take i bytes ++ stop ∷ drop (i + 1) bytes =
    sym (take-append-drop i bytes) ∙ ap (λ (t : List ℕ). take i bytes ++ t) (drop_more bytes i 0 below ∙ ap (λ (b : ℕ). b ∷ drop (i + 1) bytes) is) in
    ap (slice_split (λ (b : ℕ). b == stop)) parts
    ∙ slice_split_at (λ b. b == stop) (take i bytes) stop (drop (i + 1) bytes) before (eq-eqb stop stop refl)

-- no such byte stands before the next byte, if that is none either
pub before_more : (stop : ℕ) (bytes : List ℕ) (i : ℕ) → i < length bytes → get_or bytes i 0 ≢ stop → All (λ b. (b == stop) ≡ false) (take i bytes)
    → All (λ b. (b == stop) ≡ false) (take (i + 1) bytes)
before_more stop bytes i below other before =
    subst (All (λ b. (b == stop) ≡ false)) (sym (take_more bytes i 0 below))
    (All-push (λ b. (b == stop) ≡ false) (take i bytes) (get_or bytes i 0) before (ne_eqb (get_or bytes i 0) stop other))

-- what is left of a text behind so many lines
abbrev pub IsBehind : (text left : List ℕ) (count : ℕ) → Type 0
IsBehind text left count = (k : ℕ) → get_or (lines text) (count + k) [] ≡ get_or (lines left) k []

pub behind_more : (text left first rest : List ℕ) (count : ℕ) → lines left ≡ first ∷ lines rest → IsBehind text left count → IsBehind text rest (count + 1)
behind_more text left first rest count is behind k =
    let e : count + 1 + k ≡ count + suc k = omega arith in
    ap (λ (n : ℕ). get_or (lines text) n []) e ∙ behind (suc k) ∙ ap (λ (ls : List (List ℕ)). get_or ls (suc k) []) is

-- the line that is reached
pub line_reached : (text left first : List ℕ) (more : List (List ℕ)) (number count : ℕ) → number ≢ 0 → count ≡ number - 1 → lines left ≡ first ∷ more
    → IsBehind text left count → first ≡ line text number
line_reached text left first more zero count some is first_is behind = absurd (some refl)
line_reached text left first more (suc n) count some is first_is behind =
    let e : n ≡ count + 0 = omega (arith, is) in
    sym (ap (λ (m : ℕ). get_or (lines text) m []) e ∙ behind 0 ∙ ap (λ (ls : List (List ℕ)). get_or ls 0 []) first_is)

-- the text has no such line
pub line_past : (text left first : List ℕ) (number count : ℕ) → number ≢ 0 → count < number - 1 → lines left ≡ first ∷ [] → IsBehind text left count → [] ≡ line text number
line_past text left first zero count some past first_is behind = absurd (some refl)
line_past text left first (suc n) count some past first_is behind =
    let e : n ≡ count + (n - count) = omega (arith, past) in
    sym (ap (λ (m : ℕ). get_or (lines text) m []) e ∙ behind (n - count) ∙ ap (λ (ls : List (List ℕ)). get_or ls (n - count) []) first_is
    ∙ get_or_past (first ∷ []) (n - count) [] (omega (arith, past)))
