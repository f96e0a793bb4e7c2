-- What holds of each routine and entry of a program holds of all that have numbers, and of all that calls name.
use Rattle.std.proofs.Common.{◌≡◌, ◌+◌, ℕ, zero, suc, Bool, true, false, cond, List, [], ◌∷◌, ◌++◌, filter_map, Option, Some, None, option_map, bytes_eq, slice_get, refl, subst, arith}
use Rattle.std.proofs.lemmas.Option.{none-some, same_Some}
use Rattle.syntax_tree.specs.Plain.{Name, Routine, Monitor, Process, Declaration, constant, device, event, routine, monitor, process, Program}
use Rattle.source_semantics.specs.Names.{named, routines, monitors, processes, routine_in as a_routine, monitor_in, process_in, monitor_number, routine_count}
use Rattle.source_semantics.specs.Run.{or_else}
use Rattle.code_spec.specs.Layout.{Owner, by_program, by_process, by_monitor}
use Rattle.code_spec.specs.Numbering.{Text, routine_of, process_routines, routine_in, entry_of, entry_in, Called, calls_routine, calls_entry, called_text, is_among, visit_some, visit_all, visit, visit_texts, texts_of, texts_from, numbered, routine_calls}
use Rattle.codegen_law.proofs.NameNumbers.{monitor_there}

abbrev pub text_of : Owner → Routine → Text
text_of o r = record { owner = o; routine = r }

module _ (g : Program) (P : Text → Type 0) where
  -- it holds of each of an owner's
  abbrev pub OfEach : Owner → List Routine → Type 0
  OfEach o rs = (j : ℕ) (r : Routine) → slice_get rs j ≡ Some r → P (text_of o r)

  abbrev pub OfTexts : List Text → Type 0
  OfTexts [] = Unit {0}
  OfTexts (t ∷ ts) = P t × OfTexts ts

  pub text_at : (ts : List Text) (r : ℕ) (t : Text) → OfTexts ts → slice_get ts r ≡ Some t → P t
  text_at [] r t h e = absurd (none-some t e)
  text_at (u ∷ us) zero t h e = subst P (same_Some u t e) h.0
  text_at (u ∷ us) (suc r) t h e = text_at us r t h.1 e

  both_texts : (ts us : List Text) → OfTexts ts → OfTexts us → OfTexts (ts ++ us)
  both_texts [] us h k = k
  both_texts (t ∷ ts) us h k = (h.0, both_texts ts us h.1 k)

  -- of the one that is found by a name
  of_found : (o : Owner) (rs : List Routine) (f : Name) (u : Text) → OfEach o rs → routine_of o rs f ≡ Some u → P u
  of_found o [] f u h e = absurd (none-some u e)
  of_found o (r ∷ rs) f u h e = by_case (bytes_eq r.name f) (λ k. of_found o rs f u (λ j s is. h (suc j) s is) k) e
    where
      by_case : (b : Bool) → (routine_of o rs f ≡ Some u → P u) → option_map (λ s. text_of o s) (cond b (Some r) (named (λ s. s.name) f rs)) ≡ Some u → P u
      by_case true k e = subst P (same_Some (text_of o r) u e) (h 0 r refl)
      by_case false k e = k e

  module _ (program : OfEach by_program (routines g)) (of_process : (k : ℕ) (p : Process) → slice_get (processes g) k ≡ Some p → OfEach (by_process k) p.routines)
      (of_monitor : (m : ℕ) (d : Monitor) → slice_get (monitors g) m ≡ Some d → OfEach (by_monitor m) d.entries) where
    in_process : (k : ℕ) (f : Name) (u : Text) (x : Option Process) → slice_get (processes g) k ≡ x → or_else (routine_of (by_process k) (process_routines x) f) (routine_of by_program (routines g) f) ≡ Some u → P u
    in_process k f u None is e = of_found by_program (routines g) f u program e
    in_process k f u (Some p) is e = by_case (routine_of (by_process k) p.routines f) (λ h. of_found (by_process k) p.routines f u (of_process k p is) h) e
      where
        by_case : (x : Option Text) → (x ≡ Some u → P u) → or_else x (routine_of by_program (routines g) f) ≡ Some u → P u
        by_case None h e = of_found by_program (routines g) f u program e
        by_case (Some t) h e = h e

    pub routine_found : (o : Owner) (f : Name) (u : Text) → routine_in g o f ≡ Some u → P u
    routine_found by_program f u e = of_found by_program (routines g) f u program e
    routine_found (by_monitor m) f u e = of_found by_program (routines g) f u program e
    routine_found (by_process k) f u e = in_process k f u (slice_get (processes g) k) refl e

    in_monitor : (m f : Name) (u : Text) (x : Option Monitor) → named (λ k. k.name) m (monitors g) ≡ x → entry_of (monitor_number g m) x f ≡ Some u → P u
    in_monitor m f u None is e = absurd (none-some u e)
    in_monitor m f u (Some d) is e = of_found (by_monitor (monitor_number g m)) d.entries f u (of_monitor (monitor_number g m) d (monitor_there m (monitors g) d is)) e

    pub entry_found : (m f : Name) (u : Text) → entry_in g m f ≡ Some u → P u
    entry_found m f u e = in_monitor m f u (named (λ k. k.name) m (monitors g)) refl e

    called_found : (o : Owner) (c : Called) (u : Text) → called_text g o c ≡ Some u → P u
    called_found o (calls_routine f) u e = routine_found o f u e
    called_found o (calls_entry m f) u e = entry_found m f u e

    -- ---- the texts of a program

    each_text : (o : Owner) (rs : List Routine) → OfEach o rs → OfTexts (texts_of o rs)
    each_text o [] h = tt
    each_text o (r ∷ rs) h = (h 0 r refl, each_text o rs (λ j s e. h (suc j) s e))

    no_more : (n : ℕ) → n + 0 ≡ n
    no_more n = omega arith

    one_more : (n j : ℕ) → n + suc j ≡ suc n + j
    one_more n j = omega arith

    all_texts : (k m : ℕ) (ds : List Declaration) → OfEach by_program (filter_map a_routine ds) → ((j : ℕ) (d : Monitor) → slice_get (filter_map monitor_in ds) j ≡ Some d → OfEach (by_monitor (m + j)) d.entries)
        → ((j : ℕ) (p : Process) → slice_get (filter_map process_in ds) j ≡ Some p → OfEach (by_process (k + j)) p.routines) → OfTexts (texts_from k m ds)
    all_texts k m [] hr hm hp = tt
    all_texts k m (routine r ∷ ds) hr hm hp = (hr 0 r refl, all_texts k m ds (λ j s e. hr (suc j) s e) hm hp)
    all_texts k m (monitor d ∷ ds) hr hm hp =
        both_texts (texts_of (by_monitor m) d.entries) (texts_from k (suc m) ds) (each_text (by_monitor m) d.entries (subst (λ n. OfEach (by_monitor n) d.entries) (no_more m) (hm 0 d refl)))
        (all_texts k (suc m) ds hr (λ j e i. subst (λ n. OfEach (by_monitor n) e.entries) (one_more m j) (hm (suc j) e i)) hp)
    all_texts k m (process p ∷ ds) hr hm hp =
        both_texts (texts_of (by_process k) p.routines) (texts_from (suc k) m ds) (each_text (by_process k) p.routines (subst (λ n. OfEach (by_process n) p.routines) (no_more k) (hp 0 p refl)))
        (all_texts (suc k) m ds hr hm (λ j e i. subst (λ n. OfEach (by_process n) e.routines) (one_more k j) (hp (suc j) e i)))
    all_texts k m (constant n c ∷ ds) hr hm hp = all_texts k m ds hr hm hp
    all_texts k m (device n b ∷ ds) hr hm hp = all_texts k m ds hr hm hp
    all_texts k m (event n ∷ ds) hr hm hp = all_texts k m ds hr hm hp

    -- ---- visits

    visit_all_keeps : (v : List Text → Text → List Text) (means : Called → Option Text) → ((done : List Text) (t : Text) → OfTexts done → P t → OfTexts (v done t)) → ((c : Called) (t : Text) → means c ≡ Some t → P t)
        → (done : List Text) (cs : List Called) → OfTexts done → OfTexts (visit_all v means done cs)
    visit_all_keeps v means visits texts done [] h = h
    visit_all_keeps v means visits texts done (c ∷ cs) h = visit_all_keeps v means visits texts (visit_some v done (means c)) cs (by_meaning (means c) refl)
      where
        by_meaning : (x : Option Text) → means c ≡ x → OfTexts (visit_some v done x)
        by_meaning None is = h
        by_meaning (Some t) is = visits done t h (texts c t is)

    visit_keeps : (n : ℕ) (done : List Text) (t : Text) → OfTexts done → P t → OfTexts (visit n g done t)
    unfolding visit
    visit_keeps zero done t h k = h
    visit_keeps (suc n) done t h k =
        by_case (is_among t done) (visit_all_keeps (visit n g) (called_text g t.owner) (λ d u a b. visit_keeps n d u a b) (λ c u e. called_found t.owner c u e) done (routine_calls t.routine) h)
      where
        by_case : (b : Bool) → OfTexts (visit_all (visit n g) (called_text g t.owner) done (routine_calls t.routine)) → OfTexts (cond b done (visit_all (visit n g) (called_text g t.owner) done (routine_calls t.routine) ++ t ∷ []))
        by_case true l = h
        by_case false l = both_texts (visit_all (visit n g) (called_text g t.owner) done (routine_calls t.routine)) (t ∷ []) l (k, tt)

    visit_texts_keeps : (n : ℕ) (done ts : List Text) → OfTexts done → OfTexts ts → OfTexts (visit_texts n g done ts)
    visit_texts_keeps n done [] h k = h
    visit_texts_keeps n done (t ∷ ts) h k = visit_texts_keeps n (visit n g done t) ts (visit_keeps n done t h k.0) k.1

    pub of_numbered : OfTexts (numbered g)
    unfolding numbered
    of_numbered =
        visit_texts_keeps (routine_count g) [] (texts_from 0 0 g.decls) tt
        (all_texts 0 0 g.decls program (λ j d e. subst (λ n. OfEach (by_monitor n) d.entries) (plain j) (of_monitor j d e)) (λ j p e. subst (λ n. OfEach (by_process n) p.routines) (plain j) (of_process j p e)))
      where
        plain : (n : ℕ) → n ≡ 0 + n
        plain n = omega arith
