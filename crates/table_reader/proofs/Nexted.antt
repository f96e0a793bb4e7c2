-- The first line of some bytes, by where they are cut and what is read there.
use Rattle.std.proofs.Common.{◌≡◌, ◌≢◌, List, ℕ, ◌++◌, Some, None, codes, take, drop, ap, sym, subst, ◌∙◌, false}
use Rattle.std.specs.Prelude.{nat_eq}
use Rattle.std.specs.Cmp.{unsigned_Decides}
use Rattle.std.specs.Cmp.Lexicographic.{pointwise}
use Rattle.std.proofs.lemmas.Slice.Eq.{strip_prefix_is}
use Rattle.text_fields.specs.Fields.{Lacks, IsCutAt, spaced}
use Rattle.table_format.specs.Spelling.{SaidLine, process_words, process_line}
use Rattle.table_format.specs.Faults.{IsTableWord, IsFormed, BeginsWithFirst, BeginsWithProcess, BeginsWithLast}
use Rattle.table_reader.specs.Reading.{line_read}
use Rattle.table_reader.proofs.Plain.{formed_plain, all_lack}
use Rattle.table_reader.proofs.Spelled.{line_spelled, line_is_spelled}
use Rattle.table_reader.proofs.Texts.{first_cut, no_process_line, no_last_line, process_cut, process_is, last_cut}

-- ---- the first line of a table

pub no_key : (bytes before after : List ℕ) → IsCutAt 10 bytes before after → pointwise nat_eq (take 6 before) (codes "table ") ≡ false → (name : List ℕ) → ¬ BeginsWithFirst bytes name
no_key bytes before after cut other name begins =
    strip_prefix_is {E = nat_eq} unsigned_Decides before (codes "table ") None other name (first_cut bytes before after cut name begins)

pub no_word : (bytes before after name : List ℕ) → IsCutAt 10 bytes before after → before ≡ codes "table " ++ name → ¬ IsTableWord name → (other : List ℕ) → ¬ BeginsWithFirst bytes other
no_word bytes before after name cut is bad other begins =
    let both : codes "table " ++ other ≡ codes "table " ++ name = sym (first_cut bytes before after cut other begins) ∙ is in
    bad (subst IsTableWord (ap (drop 6) both) begins.word)

-- ---- a process line without its LF

reads : (line : List ℕ) (s : SaidLine) → IsFormed s → line ≡ spaced (process_words s) → line_read line ≡ Some s
reads line s form is = ap line_read is ∙ line_spelled s (all_lack (process_words s) (formed_plain s form))

pub not_read : (line : List ℕ) → None ≡ line_read line → (s : SaidLine) → IsFormed s → line ≡ spaced (process_words s) → ⊥
not_read line none s form is = let read = reads line s form is in absurd cc

pub not_formed : (line : List ℕ) (found : SaidLine) → Some found ≡ line_read line → ¬ IsFormed found → (s : SaidLine) → IsFormed s → line ≡ spaced (process_words s) → ⊥
not_formed line found is bad s form spelled =
    let read = reads line s form spelled in
    let same : s ≡ found = cc in
    bad (subst IsFormed same form)

pub is_read : (line : List ℕ) (found : SaidLine) → Some found ≡ line_read line → IsFormed found → IsFormed found × (line ≡ spaced (process_words found))
is_read line found is form = (form, line_is_spelled line found (sym is))

-- ---- the next line

pub no_feed_left : (bytes : List ℕ) → Lacks 10 bytes → ((s : SaidLine) → ¬ BeginsWithProcess bytes s) × ¬ BeginsWithLast bytes
no_feed_left bytes lacks = (no_process_line bytes lacks, no_last_line bytes lacks)

pub no_next : (bytes before after : List ℕ) → IsCutAt 10 bytes before after → before ≢ codes "end" → ((s : SaidLine) → IsFormed s → before ≡ spaced (process_words s) → ⊥)
    → ((s : SaidLine) → ¬ BeginsWithProcess bytes s) × ¬ BeginsWithLast bytes
no_next bytes before after cut other never =
    ((λ s begins. never s begins.form (process_cut bytes before after cut s begins)), last_cut bytes before after cut other)

pub next_is : (bytes before after : List ℕ) (s : SaidLine) → IsCutAt 10 bytes before after → IsFormed s × (before ≡ spaced (process_words s)) → IsFormed s × (bytes ≡ process_line s ++ after)
next_is bytes before after s cut read = (read.0, process_is bytes before after cut s read.1)
