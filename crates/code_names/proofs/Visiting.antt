-- Visits, a step at a time.
use Rattle.std.proofs.Common.{◌≡◌, ◌∙◌, sym, ap, refl, ℕ, suc, ◌+◌, Bool, true, false, cond, ◌||◌, List, [], ◌∷◌, ◌++◌, Option, Some, None, length, arith, length-append}
use Rattle.std.specs.Prelude.{option_map, is_some, filter_map, unwrap_or, sum_by, fold}
use Rattle.std.specs.List.{cons_option}
use Rattle.syntax_tree.specs.Plain.{Declaration, constant, device, event, routine, monitor, process, Routine, Program}
use Rattle.source_semantics.specs.Names.{routines_in}
use Rattle.code_spec.specs.Layout.{Owner, by_process, by_monitor}
use Rattle.code_spec.specs.Numbering.{Text, Called, is_among, visit_some, visit_all, visit, visit_texts, called_text, routine_calls, numbered, number_of, place_among, texts_from, texts_of as owned}
use Rattle.code_names.specs.Texts.{is_text, text_index}
use Rattle.code_names.specs.Parts.{callees_of, all_texts}

all-visited : (n : ℕ) (g : Program) (means : Called → Option Text) (cs : List Called) (done : List Text) → visit_all (visit n g) means done cs ≡ visit_texts n g done (filter_map means cs)
all-visited n g means [] done = refl
all-visited n g means (c ∷ cs) done = by-meaning (λ d. all-visited n g means cs d) (means c)
  where
    by-meaning : ((d : List Text) → visit_all (visit n g) means d cs ≡ visit_texts n g d (filter_map means cs)) → (o : Option Text)
        → visit_all (visit n g) means (visit_some (visit n g) done o) cs ≡ visit_texts n g done (cons_option o (filter_map means cs))
    by-meaning rest None = rest done
    by-meaning rest (Some t) = rest (visit n g done t)

pub visit-zero : (n : ℕ) (g : Program) (done : List Text) (t : Text) → n ≡ 0 → done ≡ visit n g done t
unfolding visit
visit-zero n g done t e = ap (λ k. visit k g done t) (sym e)

among-index : (t : Text) (us : List Text) → is_among t us ≡ is_some (text_index t.owner t.routine.name us)
among-index t [] = refl
among-index t (u ∷ us) = by-test (among-index t us) (is_text t.owner t.routine.name u)
  where
    next : (o : Option ℕ) → is_some (option_map (λ k. suc k) o) ≡ is_some o
    next None = refl
    next (Some k) = refl

    by-test : is_among t us ≡ is_some (text_index t.owner t.routine.name us) → (b : Bool) → b || is_among t us ≡ is_some (cond b (Some 0) (option_map (λ k. suc k) (text_index t.owner t.routine.name us)))
    by-test rest true = refl
    by-test rest false = rest ∙ sym (next (text_index t.owner t.routine.name us))

stepped : (m : ℕ) (g : Program) (done : List Text) (t : Text) → visit (suc m) g done t ≡ cond (is_among t done) done (visit_all (visit m g) (called_text g t.owner) done (routine_calls t.routine) ++ t ∷ [])
unfolding visit
stepped m g done t = refl

pub visit-done : (n m : ℕ) (g : Program) (done : List Text) (t : Text) → n ≡ suc m → is_some (text_index t.owner t.routine.name done) ≡ true → done ≡ visit n g done t
visit-done n m g done t e among =
    sym (ap (λ k. visit k g done t) e ∙ stepped m g done t
    ∙ ap (λ b. cond b done (visit_all (visit m g) (called_text g t.owner) done (routine_calls t.routine) ++ t ∷ [])) (among-index t done ∙ among))

pub visit-next : (n m : ℕ) (g : Program) (done : List Text) (t : Text) → n ≡ suc m → is_some (text_index t.owner t.routine.name done) ≡ false → visit_texts m g done (callees_of g t) ++ t ∷ [] ≡ visit n g done t
visit-next n m g done t e among =
    sym (ap (λ k. visit k g done t) e ∙ stepped m g done t
    ∙ ap (λ b. cond b done (visit_all (visit m g) (called_text g t.owner) done (routine_calls t.routine) ++ t ∷ [])) (among-index t done ∙ among)
    ∙ ap (λ l. l ++ t ∷ []) (all-visited m g (called_text g t.owner) (routine_calls t.routine) done))

-- ---- all routines

fold-from : (a : ℕ) (ds : List Declaration) → fold (λ s d. s + routines_in d) a ds ≡ a + sum_by routines_in ds
fold-from a [] = omega arith
fold-from a (d ∷ ds) =
    let first = fold-from (a + routines_in d) ds in
    let second = fold-from (0 + routines_in d) ds in
    omega (arith, first, second)

owned-length : (o : Owner) (rs : List Routine) → length (owned o rs) ≡ length rs
owned-length o [] = refl
owned-length o (r ∷ rs) = ap (λ n. suc n) (owned-length o rs)

pub count-texts : (k m : ℕ) (ds : List Declaration) → length (texts_from k m ds) ≡ sum_by routines_in ds
count-texts k m [] = refl
count-texts k m (constant n c ∷ ds) = count-texts k m ds
count-texts k m (device n is_out ∷ ds) = count-texts k m ds
count-texts k m (event n ∷ ds) = count-texts k m ds
count-texts k m (routine r ∷ ds) = let rest = count-texts k m ds in let f = fold-from (0 + 1) ds in omega (arith, rest, f)
count-texts k m (monitor d ∷ ds) =
    let rest = count-texts k (suc m) ds in
    let f = fold-from (0 + length d.entries) ds in
    let l = length-append (owned (by_monitor m) d.entries) (texts_from k (suc m) ds) in
    let o = owned-length (by_monitor m) d.entries in
    omega (arith, rest, f, l, o)
count-texts k m (process p ∷ ds) =
    let rest = count-texts (suc k) m ds in
    let f = fold-from (0 + length p.routines) ds in
    let l = length-append (owned (by_process k) p.routines) (texts_from (suc k) m ds) in
    let o = owned-length (by_process k) p.routines in
    omega (arith, rest, f, l, o)

pub numbered-is : (n : ℕ) (g : Program) → n ≡ length (all_texts g) → visit_texts n g [] (all_texts g) ≡ numbered g
unfolding numbered
numbered-is n g e = ap (λ k. visit_texts k g [] (all_texts g)) (e ∙ count-texts 0 0 g.decls)

place-among : (t : Text) (us : List Text) → unwrap_or (text_index t.owner t.routine.name us) (length us) ≡ place_among t us
place-among t [] = refl
place-among t (u ∷ us) = by-test (place-among t us) (is_text t.owner t.routine.name u)
  where
    later : (o : Option ℕ) (n : ℕ) → unwrap_or (option_map (λ k. suc k) o) (suc n) ≡ suc (unwrap_or o n)
    later None n = refl
    later (Some k) n = refl

    by-test : unwrap_or (text_index t.owner t.routine.name us) (length us) ≡ place_among t us → (b : Bool)
        → unwrap_or (cond b (Some 0) (option_map (λ k. suc k) (text_index t.owner t.routine.name us))) (suc (length us)) ≡ cond b 0 (suc (place_among t us))
    by-test rest true = refl
    by-test rest false = later (text_index t.owner t.routine.name us) (length us) ∙ ap (λ k. suc k) rest

pub number-is : (g : Program) (t : Text) → unwrap_or (text_index t.owner t.routine.name (numbered g)) (length (numbered g)) ≡ number_of g t
unfolding number_of
number-is g t = place-among t (numbered g)

pub number-found : (g : Program) (t : Text) (us : List Text) (o : Option ℕ) → o ≡ text_index t.owner t.routine.name us → us ≡ numbered g → unwrap_or o (length us) ≡ number_of g t
number-found g t us o e is = ap (λ x. unwrap_or x (length us)) e ∙ ap (λ l. unwrap_or (text_index t.owner t.routine.name l) (length l)) is ∙ number-is g t
