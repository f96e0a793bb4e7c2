-- The routines and the processes of the load.
use Rattle.std.proofs.Common.{◌≡◌, ◌<◌, ◌+◌, ℕ, zero, suc, List, [], ◌∷◌, Some, map, fold, refl, ap, ◌∙◌, arith}
use Rattle.std.specs.Prelude.{filter_map, slice_get}
use Rattle.syntax_tree.specs.Plain as plain_of
use Rattle.syntax_tree.specs.Placed.{plain, plain_decl, plain_process, plain_routine}
use Rattle.source_semantics.specs.Names.{processes, process_in, routine_count, routines_in}
use Rattle.code_spec.specs.Layout.{by_monitor}
use Rattle.code_spec.specs.Numbering.{Text, numbered, visit, visit_texts, texts_from}
use Rattle.load.specs.Program.{add_entry, pause_entry, drawn, load_process, processes_from, load_program}

abbrev pub load : (key count : ℕ) → plain_of.Program
load key count = plain (load_program key count)

abbrev pub process_of : (key count before : ℕ) → plain_of.Process
process_of key count before = plain_process (load_process count (suc before) (drawn key before))

abbrev pub list_from : (key count before left : ℕ) → List plain_of.Process
list_from key count before zero = []
list_from key count before (suc left) = process_of key count before ∷ list_from key count (suc before) left

are_processes : (key count before left : ℕ) → filter_map process_in (map plain_decl (processes_from key count before left)) ≡ list_from key count before left
are_processes key count before zero = refl
are_processes key count before (suc left) = ap (λ (ps : List plain_of.Process). process_of key count before ∷ ps) (are_processes key count (suc before) left)

pub all_processes : (key count : ℕ) → processes (load key count) ≡ list_from key count 0 count
all_processes key count = are_processes key count 0 count

there_from : (key count before left at : ℕ) → at < left → slice_get (list_from key count before left) at ≡ Some (process_of key count (before + at))
there_from key count before zero at below = absurd (omega arith)
there_from key count before (suc left) zero below = ap (λ n. Some (process_of key count n)) (let e : before ≡ before + 0 = omega arith in e)
there_from key count before (suc left) (suc at) below =
    there_from key count (suc before) left at (omega arith) ∙ ap (λ n. Some (process_of key count n)) (let e : suc before + at ≡ before + suc at = omega arith in e)

pub there : (key count at : ℕ) → at < count → slice_get (processes (load key count)) at ≡ Some (process_of key count at)
there key count at below =
    ap (λ (ps : List plain_of.Process). slice_get ps at) (all_processes key count) ∙ there_from key count 0 count at below
    ∙ ap (λ n. Some (process_of key count n)) (let e : 0 + at ≡ at = omega arith in e)

-- ---- routines

pub no_texts : (key count before left k : ℕ) → texts_from k 1 (map plain_decl (processes_from key count before left)) ≡ []
no_texts key count before zero k = refl
no_texts key count before (suc left) k = no_texts key count (suc before) left (suc k)

no_routines : (key count before left known : ℕ) → fold (λ n d. n + routines_in d) known (map plain_decl (processes_from key count before left)) ≡ known
no_routines key count before zero known = refl
no_routines key count before (suc left) known = no_routines key count (suc before) left (known + 0) ∙ (let e : known + 0 ≡ known = omega arith in e)

pub two_routines : (key count : ℕ) → routine_count (load key count) ≡ 2
two_routines key count = no_routines key count 0 count 2

abbrev pub add_text : Text
add_text = record { owner = by_monitor 0; routine = plain_routine add_entry }

abbrev pub pause_text : Text
pause_text = record { owner = by_monitor 0; routine = plain_routine pause_entry }

visited : (g : plain_of.Program) → visit_texts 2 g [] (add_text ∷ pause_text ∷ []) ≡ add_text ∷ pause_text ∷ []
unfolding visit
visited g = refl

pub all_routines : (key count : ℕ) → numbered (load key count) ≡ add_text ∷ pause_text ∷ []
unfolding numbered
all_routines key count =
    let g = load key count in
    ap (λ n. visit_texts n g [] (texts_from 0 0 g.decls)) (two_routines key count)
    ∙ ap (λ (ts : List Text). visit_texts 2 g [] (add_text ∷ pause_text ∷ ts)) (no_texts key count 0 count 0) ∙ visited g
