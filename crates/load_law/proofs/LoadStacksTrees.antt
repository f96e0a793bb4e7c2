-- The routines and the processes of a tree with places are those of the tree without.
use Rattle.std.proofs.Common.{◌≡◌, ℕ, suc, List, [], ◌∷◌, ◌++◌, map, refl, ap, ◌∙◌}
use Rattle.std.specs.Prelude.{filter_map}
use Rattle.std.proofs.lemmas.List.{map-append}
use Rattle.syntax_tree.specs.declared.place.Place.{Place}
use Rattle.syntax_tree.specs.Plain as plain_of
use Rattle.syntax_tree.specs.Placed.{Routine, Decl, constant, device, event, routine, monitor, process, plain_decl, plain_process, plain_routine}
use Rattle.syntax_tree.specs.Parts as parts
use Rattle.source_semantics.specs.Names.{process_in}
use Rattle.code_spec.specs.Layout.{Owner, by_program, by_process, by_monitor}
use Rattle.code_spec.specs.Numbering.{Text, texts_of, texts_from}
use Rattle.code_cost.specs.Rules as rules
use Rattle.built_image_law.proofs.CheckedTexts.{plain_text}

-- ---- processes

pub processes_are : (ds : List (Decl Place)) → map plain_process (parts.processes ds) ≡ filter_map process_in (map plain_decl ds)
processes_are [] = refl
processes_are (constant n p c ∷ ds) = processes_are ds
processes_are (device n p o ∷ ds) = processes_are ds
processes_are (event n p ∷ ds) = processes_are ds
processes_are (routine r ∷ ds) = processes_are ds
processes_are (monitor m ∷ ds) = processes_are ds
processes_are (process p ∷ ds) = ap (λ (ps : List plain_of.Process). plain_process p ∷ ps) (processes_are ds)

-- ---- routines

texts_of_are : (o : Owner) (rs : List (Routine Place)) → map plain_text (rules.placed_texts_of o rs) ≡ texts_of o (map plain_routine rs)
texts_of_are o [] = refl
texts_of_are o (r ∷ rs) = ap (λ (ts : List Text). record { owner = o; routine = plain_routine r } ∷ ts) (texts_of_are o rs)

both_are : (o : Owner) (rs : List (Routine Place)) (ts : List rules.PlacedText) (us : List Text) → map plain_text ts ≡ us
    → map plain_text (rules.placed_texts_of o rs ++ ts) ≡ texts_of o (map plain_routine rs) ++ us
both_are o rs ts us others =
    let own = texts_of_are o rs in
    map-append plain_text (rules.placed_texts_of o rs) ts ∙ (λ i. own i ++ others i)

pub texts_are : (k m : ℕ) (ds : List (Decl Place)) → map plain_text (rules.placed_texts_from k m ds) ≡ texts_from k m (map plain_decl ds)
texts_are k m [] = refl
texts_are k m (constant n p c ∷ ds) = texts_are k m ds
texts_are k m (device n p o ∷ ds) = texts_are k m ds
texts_are k m (event n p ∷ ds) = texts_are k m ds
texts_are k m (routine r ∷ ds) = ap (λ (ts : List Text). record { owner = by_program; routine = plain_routine r } ∷ ts) (texts_are k m ds)
texts_are k m (monitor d ∷ ds) = both_are (by_monitor m) d.entries (rules.placed_texts_from k (suc m) ds) (texts_from k (suc m) (map plain_decl ds)) (texts_are k (suc m) ds)
texts_are k m (process p ∷ ds) = both_are (by_process k) p.routines (rules.placed_texts_from (suc k) m ds) (texts_from (suc k) m (map plain_decl ds)) (texts_are (suc k) m ds)
