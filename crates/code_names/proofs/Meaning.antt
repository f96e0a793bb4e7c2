-- The routines that names mean, found among all of a program.
use Rattle.std.proofs.Common.{◌≡◌, ◌∙◌, sym, ap, refl, ℕ, zero, suc, ◌+◌, Bool, true, false, cond, ◌&&◌, List, [], ◌∷◌, ◌++◌, Some, None, map, length, subst, arith}
use Rattle.std.specs.Prelude.{option_map, bytes_eq, filter_map, slice_get, unwrap_or}
use Rattle.std.specs.Borrow.{Bor}
use Rattle.std.proofs.lemmas.Cmp.{nat_eq_equiv}
use Rattle.std.proofs.lemmas.Bool.{ne_eqb}
use Rattle.syntax_tree.specs.Plain.{Name, Routine, Declaration, constant, device, event, routine, monitor, process, Program}
use Rattle.source_semantics.specs.Names.{named, routine_in, monitor_in, process_in, monitors, processes, monitor_number}
use Rattle.source_semantics.specs.Run.{or_else}
use Rattle.code_spec.specs.Layout.{Owner, by_program, by_process, by_monitor}
use Rattle.code_spec.specs.Numbering.{Text, same_owner, routine_of, process_routines, entry_of, entry_in, texts_of as owned, texts_from}
use Rattle.code_names.specs.First.{index_of}
use Rattle.code_names.proofs.NameListTable.{get_some, named-index, place-index, or-none}
use Rattle.syntax_tree.specs.declared.decl.Monitor as code_monitor
use Rattle.code_names.specs.Parts.{all_texts, monitor_of, seen_monitors}
use Rattle.code_names.specs.Texts.{is_text, text_named}

-- what is found in two lists, one after the other
found-append : (o : Owner) (f : Name) (ts us : List Text) → text_named o f (ts ++ us) ≡ or_else (text_named o f ts) (text_named o f us)
found-append o f [] us = refl
found-append o f (t ∷ ts) us = by-test (found-append o f ts us) (is_text o f t)
  where
    by-test : text_named o f (ts ++ us) ≡ or_else (text_named o f ts) (text_named o f us) → (b : Bool) → cond b (Some t) (text_named o f (ts ++ us)) ≡ or_else (cond b (Some t) (text_named o f ts)) (text_named o f us)
    by-test rest true = refl
    by-test rest false = rest

-- among those of the owner
found-own : (o : Owner) → same_owner o o ≡ true → (f : Name) (rs : List Routine) → text_named o f (owned o rs) ≡ routine_of o rs f
found-own o e f [] = refl
found-own o e f (r ∷ rs) = ap (λ b. cond (b && bytes_eq r.name f) (Some t) (text_named o f (owned o rs))) e ∙ by-test (found-own o e f rs) (bytes_eq r.name f)
  where
    t : Text
    t = record { owner = o; routine = r }

    by-test : text_named o f (owned o rs) ≡ routine_of o rs f → (b : Bool) → cond b (Some (record { owner = o; routine = r })) (text_named o f (owned o rs)) ≡ option_map (λ (r : Routine). let t : Text = record { owner = o; routine = r } in t) (cond b (Some r) (named (λ (r : Routine). r.name) f rs))
    by-test rest true = refl
    by-test rest false = rest

-- among those of another
found-none : (o p : Owner) → same_owner p o ≡ false → (f : Name) (rs : List Routine) → text_named o f (owned p rs) ≡ None
found-none o p e f [] = refl
found-none o p e f (r ∷ rs) = ap (λ b. cond (b && bytes_eq r.name f) (Some t) (text_named o f (owned p rs))) e ∙ found-none o p e f rs
  where
    t : Text
    t = record { owner = p; routine = r }

-- parts of another owner are passed over
passed : (o p : Owner) → same_owner p o ≡ false → (f : Name) (rs : List Routine) (ts : List Text) → text_named o f (owned p rs ++ ts) ≡ text_named o f ts
passed o p e f rs ts = found-append o f (owned p rs) ts ∙ ap (λ x. or_else x (text_named o f ts)) (found-none o p e f rs)

pub of-program : (f : Name) (k m : ℕ) (ds : List Declaration) → text_named by_program f (texts_from k m ds) ≡ routine_of by_program (filter_map routine_in ds) f
of-program f k m [] = refl
of-program f k m (constant n c ∷ ds) = of-program f k m ds
of-program f k m (device n is_out ∷ ds) = of-program f k m ds
of-program f k m (event n ∷ ds) = of-program f k m ds
of-program f k m (routine r ∷ ds) = by-test (of-program f k m ds) (bytes_eq r.name f)
  where
    by-test : text_named by_program f (texts_from k m ds) ≡ routine_of by_program (filter_map routine_in ds) f → (b : Bool)
        → cond b (Some (record { owner = by_program; routine = r })) (text_named by_program f (texts_from k m ds)) ≡ option_map (λ (r : Routine). let t : Text = record { owner = by_program; routine = r } in t) (cond b (Some r) (named (λ (r : Routine). r.name) f (filter_map routine_in ds)))
    by-test rest true = refl
    by-test rest false = rest
of-program f k m (monitor d ∷ ds) = passed by_program (by_monitor m) refl f d.entries (texts_from k (suc m) ds) ∙ of-program f k (suc m) ds
of-program f k m (process p ∷ ds) = passed by_program (by_process k) refl f p.routines (texts_from (suc k) m ds) ∙ of-program f (suc k) m ds

-- no process of a later number has a routine of this one
none-process : (f : Name) (j k m : ℕ) (ds : List Declaration) → text_named (by_process j) f (texts_from (suc (j + k)) m ds) ≡ None
none-process f j k m [] = refl
none-process f j k m (constant n c ∷ ds) = none-process f j k m ds
none-process f j k m (device n is_out ∷ ds) = none-process f j k m ds
none-process f j k m (event n ∷ ds) = none-process f j k m ds
none-process f j k m (routine r ∷ ds) = none-process f j k m ds
none-process f j k m (monitor d ∷ ds) = passed (by_process j) (by_monitor m) refl f d.entries (texts_from (suc (j + k)) (suc m) ds) ∙ none-process f j k (suc m) ds
none-process f j k m (process p ∷ ds) =
    passed (by_process j) (by_process (suc (j + k))) (ne_eqb (suc (j + k)) j (λ e. omega arith)) f p.routines (texts_from (suc (suc (j + k))) m ds)
    ∙ ap (λ n. text_named (by_process j) f (texts_from (suc n) m ds)) (omega arith) ∙ none-process f j (suc k) m ds

none-monitor : (f : Name) (j k m : ℕ) (ds : List Declaration) → text_named (by_monitor j) f (texts_from k (suc (j + m)) ds) ≡ None
none-monitor f j k m [] = refl
none-monitor f j k m (constant n c ∷ ds) = none-monitor f j k m ds
none-monitor f j k m (device n is_out ∷ ds) = none-monitor f j k m ds
none-monitor f j k m (event n ∷ ds) = none-monitor f j k m ds
none-monitor f j k m (routine r ∷ ds) = none-monitor f j k m ds
none-monitor f j k m (process p ∷ ds) = passed (by_monitor j) (by_process k) refl f p.routines (texts_from (suc k) (suc (j + m)) ds) ∙ none-monitor f j (suc k) m ds
none-monitor f j k m (monitor d ∷ ds) =
    passed (by_monitor j) (by_monitor (suc (j + m))) (ne_eqb (suc (j + m)) j (λ e. omega arith)) f d.entries (texts_from k (suc (suc (j + m))) ds)
    ∙ ap (λ n. text_named (by_monitor j) f (texts_from k (suc n) ds)) (omega arith) ∙ none-monitor f j k (suc m) ds

-- the routines of process k + i, from the i-th process on
pub of-process : (f : Name) (i k m : ℕ) (ds : List Declaration) → text_named (by_process (k + i)) f (texts_from k m ds) ≡ routine_of (by_process (k + i)) (process_routines (slice_get (filter_map process_in ds) i)) f
of-process f i k m [] = refl
of-process f i k m (constant n c ∷ ds) = of-process f i k m ds
of-process f i k m (device n is_out ∷ ds) = of-process f i k m ds
of-process f i k m (event n ∷ ds) = of-process f i k m ds
of-process f i k m (routine r ∷ ds) = of-process f i k m ds
of-process f i k m (monitor d ∷ ds) = passed (by_process (k + i)) (by_monitor m) refl f d.entries (texts_from k (suc m) ds) ∙ of-process f i k (suc m) ds
of-process f zero k m (process p ∷ ds) =
    let e : k + 0 ≡ k = omega arith in
    found-append (by_process (k + 0)) f (owned (by_process k) p.routines) (texts_from (suc k) m ds)
    ∙ ap (λ n. or_else (text_named (by_process n) f (owned (by_process k) p.routines)) (text_named (by_process n) f (texts_from (suc k) m ds))) e
    ∙ ap (λ x. or_else (text_named (by_process k) f (owned (by_process k) p.routines)) x) (ap (λ n. text_named (by_process k) f (texts_from (suc n) m ds)) (sym e) ∙ none-process f k 0 m ds)
    ∙ or-none (text_named (by_process k) f (owned (by_process k) p.routines))
    ∙ found-own (by_process k) (nat_eq_equiv.refl k) f p.routines
    ∙ ap (λ n. routine_of (by_process n) p.routines f) (sym e)
of-process f (suc i) k m (process p ∷ ds) =
    let e : k + suc i ≡ suc k + i = omega arith in
    passed (by_process (k + suc i)) (by_process k) (ne_eqb k (k + suc i) (λ e. omega arith)) f p.routines (texts_from (suc k) m ds)
    ∙ ap (λ n. text_named (by_process n) f (texts_from (suc k) m ds)) e ∙ of-process f i (suc k) m ds
    ∙ ap (λ n. routine_of (by_process n) (process_routines (slice_get (filter_map process_in ds) i)) f) (sym e)

pub of-monitor : (f : Name) (i k m : ℕ) (ds : List Declaration) → text_named (by_monitor (m + i)) f (texts_from k m ds) ≡ entry_of (m + i) (slice_get (filter_map monitor_in ds) i) f
of-monitor f i k m [] = refl
of-monitor f i k m (constant n c ∷ ds) = of-monitor f i k m ds
of-monitor f i k m (device n is_out ∷ ds) = of-monitor f i k m ds
of-monitor f i k m (event n ∷ ds) = of-monitor f i k m ds
of-monitor f i k m (routine r ∷ ds) = of-monitor f i k m ds
of-monitor f i k m (process p ∷ ds) = passed (by_monitor (m + i)) (by_process k) refl f p.routines (texts_from (suc k) m ds) ∙ of-monitor f i (suc k) m ds
of-monitor f zero k m (monitor d ∷ ds) =
    let e : m + 0 ≡ m = omega arith in
    found-append (by_monitor (m + 0)) f (owned (by_monitor m) d.entries) (texts_from k (suc m) ds)
    ∙ ap (λ n. or_else (text_named (by_monitor n) f (owned (by_monitor m) d.entries)) (text_named (by_monitor n) f (texts_from k (suc m) ds))) e
    ∙ ap (λ x. or_else (text_named (by_monitor m) f (owned (by_monitor m) d.entries)) x) (ap (λ n. text_named (by_monitor m) f (texts_from k (suc n) ds)) (sym e) ∙ none-monitor f m k 0 ds)
    ∙ or-none (text_named (by_monitor m) f (owned (by_monitor m) d.entries))
    ∙ found-own (by_monitor m) (nat_eq_equiv.refl m) f d.entries
    ∙ ap (λ n. routine_of (by_monitor n) d.entries f) (sym e)
of-monitor f (suc i) k m (monitor d ∷ ds) =
    let e : m + suc i ≡ suc m + i = omega arith in
    passed (by_monitor (m + suc i)) (by_monitor m) (ne_eqb m (m + suc i) (λ e. omega arith)) f d.entries (texts_from k (suc m) ds)
    ∙ ap (λ n. text_named (by_monitor n) f (texts_from k (suc m) ds)) e ∙ of-monitor f i k (suc m) ds
    ∙ ap (λ n. entry_of n (slice_get (filter_map monitor_in ds) i) f) (sym e)

-- ---- names in calls

pub process-own : (g : Program) (k : ℕ) (f : Name) → text_named (by_process k) f (all_texts g) ≡ routine_of (by_process k) (process_routines (slice_get (processes g) k)) f
process-own g k f =
    let e : 0 + k ≡ k = omega arith in
    let P : ℕ → Type 0 = λ n. text_named (by_process n) f (all_texts g) ≡ routine_of (by_process n) (process_routines (slice_get (processes g) k)) f in
    subst P e (of-process f k 0 0 g.decls)

monitor-own : (g : Program) (k : ℕ) (f : Name) → text_named (by_monitor k) f (all_texts g) ≡ entry_of k (slice_get (monitors g) k) f
monitor-own g k f =
    let e : 0 + k ≡ k = omega arith in
    let P : ℕ → Type 0 = λ n. text_named (by_monitor n) f (all_texts g) ≡ entry_of n (slice_get (monitors g) k) f in
    subst P e (of-monitor f k 0 0 g.decls)

abbrev monitor_names : Program → List Name
monitor_names g = map (λ m. m.name) (monitors g)

pub entry-meant : (g : Program) (m f : Name) (k : ℕ) → index_of m (monitor_names g) ≡ Some k → text_named (by_monitor k) f (all_texts g) ≡ entry_in g m f
entry-meant g m f k e =
    monitor-own g k f
    ∙ ap (λ n. entry_of n (slice_get (monitors g) k) f) (sym (ap (λ o. unwrap_or o (length (monitor_names g))) e) ∙ place-index m (monitor_names g))
    ∙ ap (λ o. entry_of (monitor_number g m) o f) (ap (get_some (monitors g)) (sym e) ∙ named-index (λ k. k.name) m (monitors g))

pub entry-none : (g : Program) (m f : Name) → index_of m (monitor_names g) ≡ None → None ≡ entry_in g m f
entry-none g m f e = ap (λ o. entry_of (monitor_number g m) o f) (ap (get_some (monitors g)) (sym e) ∙ named-index (λ k. k.name) m (monitors g))

pub names-seen : (ms : List (Bor code_monitor.Monitor)) → map (λ m. (monitor_of m).name) ms ≡ map (λ m. m.name) (seen_monitors ms)
names-seen [] = refl
names-seen (m ∷ ms) = ap (λ ns. (monitor_of m).name ∷ ns) (names-seen ms)
