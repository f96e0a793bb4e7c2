-- The words of a line: split at each space they are what they were put together from.
use Rattle.std.proofs.Common.{◌≡◌, ◌≢◌, ℕ, List, [], ◌∷◌, ◌++◌, Bool, true, false, refl, ap, sym, ◌∙◌, ne_eqb, eqb-true}
use Rattle.std.specs.Prelude.{◌==◌, if◌then◌else◌}
use Rattle.text_fields.specs.Fields.{Lacks, spaced}
use Rattle.table_format.specs.Spelling.{Word}
use Rattle.table_reader.specs.Words.{grown, split}

choose : (b : ℕ) (bs : List ℕ) → b ≢ 32 → split (b ∷ bs) ≡ grown b (split bs)
choose b bs other = ap (λ t. if t then [] ∷ split bs else grown b (split bs)) (ne_eqb b 32 other)

pub split_lacks : (word : List ℕ) → Lacks 32 word → split word ≡ word ∷ []
split_lacks [] l = refl
split_lacks (b ∷ bs) l = choose b bs l.0 ∙ ap (grown b) (split_lacks bs l.1)

pub split_cut : (word rest : List ℕ) → Lacks 32 word → split (word ++ 32 ∷ rest) ≡ word ∷ split rest
split_cut [] rest l = refl
split_cut (b ∷ bs) rest l = choose b (bs ++ 32 ∷ rest) l.0 ∙ ap (grown b) (split_cut bs rest l.1)

-- no word has a space
abbrev pub AllLack : List Word → Type 0
AllLack [] = Unit {0}
AllLack (word ∷ words) = Lacks 32 word × AllLack words

pub split_spaced : (word : Word) (words : List Word) → AllLack (word ∷ words) → split (spaced (word ∷ words)) ≡ word ∷ words
split_spaced word [] l = split_lacks word l.0
split_spaced word (next ∷ words) l = split_cut word (spaced (next ∷ words)) l.0 ∙ ap (λ (t : List Word). word ∷ t) (split_spaced next words l.1)

-- a first byte before the first word
spaced_grown : (b : ℕ) (words : List Word) → spaced (grown b words) ≡ b ∷ spaced words
spaced_grown b [] = refl
spaced_grown b (word ∷ []) = refl
spaced_grown b (word ∷ next ∷ words) = refl

spaced_first : (words : List Word) → words ≢ [] → spaced ([] ∷ words) ≡ 32 ∷ spaced words
spaced_first [] some = absurd (some refl)
spaced_first (word ∷ words) some = refl

pub split_some : (bytes : List ℕ) → split bytes ≢ []
split_some [] e = cc
split_some (b ∷ bs) e = at (b == 32) e
  where
    grown_some : (words : List Word) → grown b words ≢ []
    grown_some [] f = cc
    grown_some (word ∷ words) f = cc

    at : (t : Bool) → (if t then [] ∷ split bs else grown b (split bs)) ≢ []
    at true f = cc
    at false f = grown_some (split bs) f

pub spaced_split : (bytes : List ℕ) → spaced (split bytes) ≡ bytes
spaced_split [] = refl
spaced_split (b ∷ bs) = at (b == 32) refl (spaced_split bs)
  where
    at : (t : Bool) → (b == 32) ≡ t → spaced (split bs) ≡ bs → spaced (if t then [] ∷ split bs else grown b (split bs)) ≡ b ∷ bs
    at true e so =
        spaced_first (split bs) (split_some bs)
        ∙ ((let same : b ≡ 32 = eqb-true b 32 e in ap (λ (c : ℕ). c ∷ spaced (split bs)) (sym same)) ∙ ap (λ (t : List ℕ). b ∷ t) so)
    at false e so = spaced_grown b (split bs) ∙ ap (λ (t : List ℕ). b ∷ t) so
