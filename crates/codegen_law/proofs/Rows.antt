-- Each routine and entry has its row and its code.
use Rattle.std.specs.Prelude.{◌≡◌, ◌+◌, ◌⊎◌, ◌||◌, ℕ, zero, suc, Bool, true, false, cond, List, [], ◌∷◌, ◌++◌, Option, Some, None, slice_get, length, filter_map, option_map, bytes_eq, sum_by}
use Rattle.std.proofs.Common.{inl, inr, refl, sym, ◌∙◌, ap, subst, arith}
use Rattle.std.proofs.lemmas.List.Sums.{sum_by-cons}
use Rattle.std.proofs.lemmas.Option.{none-some, same_Some}
use Rattle.std.proofs.lemmas.Bool.{false≢true, and_parts}
use Rattle.syntax_tree.specs.Plain.{Name, Routine, Monitor, Process, Declaration, constant, device, event, routine, monitor, process, Program}
use Rattle.source_semantics.specs.Names.{named, routines, monitors, processes, routine_in as a_routine, monitor_in, process_in, monitor_number, routines_in, routine_count}
use Rattle.source_semantics.specs.Run.{Found, of_program, of_process, routine_named, or_else, entry_name}
use Rattle.machine_isa.specs.declared.instr.Instr.{Instr}
use Rattle.machine_semantics.specs.Image as image
use Rattle.code_spec.specs.Layout.{Owner, by_program, by_process, by_monitor, home_of}
use Rattle.code_spec.specs.Numbering.{Text, same_owner, same_text, routine_of, process_routines, entry_of, is_among, visit, texts_of, texts_from, visit_texts, numbered, place_among, number_of}
use Rattle.code_spec.specs.Compiled.{IsRoutine, EmitsRoutine, EmitsRoutines, EmitsProcess, EmitsProcesses}
use Rattle.code_spec.specs.Memory.{Setting}
use Rattle.code_spec.specs.Proper.{found_of, IsMine, Entry}
use Rattle.codegen_law.specs.Kept.{NamesDiffer}
use Rattle.codegen_law.proofs.NameNumbers.{found_there, name_same, text_named, IsText, AllTexts, all_both, visit_texts_text, visit_texts_adds, owner_same, text_is, among_front, among_back, or_true, entry_text, of_list, monitor_there}

-- ---- every text of the program is one that is found by its name

module _ (g : Program) where
  texts_of_all : (o : Owner) (rs : List Routine) → ((j : ℕ) (r : Routine) → slice_get rs j ≡ Some r → IsText g (record { owner = o; routine = r })) → AllTexts g (texts_of o rs)
  texts_of_all o [] h = tt
  texts_of_all o (r ∷ rs) h = (h 0 r refl, texts_of_all o rs (λ j s e. h (suc j) s e))

  texts_from_all : (k m : ℕ) (ds : List Declaration) → ((j : ℕ) (r : Routine) → slice_get (filter_map a_routine ds) j ≡ Some r → IsText g (record { owner = by_program; routine = r }))
      → ((j : ℕ) (d : Monitor) → slice_get (filter_map monitor_in ds) j ≡ Some d → AllTexts g (texts_of (by_monitor (m + j)) d.entries))
      → ((j : ℕ) (p : Process) → slice_get (filter_map process_in ds) j ≡ Some p → AllTexts g (texts_of (by_process (k + j)) p.routines)) → AllTexts g (texts_from k m ds)
  texts_from_all k m [] hr hm hp = tt
  texts_from_all k m (routine r ∷ ds) hr hm hp = (hr 0 r refl, texts_from_all k m ds (λ j s e. hr (suc j) s e) hm hp)
  texts_from_all k m (monitor d ∷ ds) hr hm hp =
      all_both g (texts_of (by_monitor m) d.entries) (texts_from k (suc m) ds) (subst (λ n. AllTexts g (texts_of (by_monitor n) d.entries)) (none m) (hm 0 d refl))
      (texts_from_all k (suc m) ds hr (λ j e i. subst (λ n. AllTexts g (texts_of (by_monitor n) e.entries)) (next m j) (hm (suc j) e i)) hp)
    where
      none : (n : ℕ) → n + 0 ≡ n
      none n = omega arith

      next : (n j : ℕ) → n + suc j ≡ suc n + j
      next n j = omega arith
  texts_from_all k m (process p ∷ ds) hr hm hp =
      all_both g (texts_of (by_process k) p.routines) (texts_from (suc k) m ds) (subst (λ n. AllTexts g (texts_of (by_process n) p.routines)) (none k) (hp 0 p refl))
      (texts_from_all (suc k) m ds hr hm (λ j e i. subst (λ n. AllTexts g (texts_of (by_process n) e.routines)) (next k j) (hp (suc j) e i)))
    where
      none : (n : ℕ) → n + 0 ≡ n
      none n = omega arith

      next : (n j : ℕ) → n + suc j ≡ suc n + j
      next n j = omega arith
  texts_from_all k m (constant n c ∷ ds) hr hm hp = texts_from_all k m ds hr hm hp
  texts_from_all k m (device n b ∷ ds) hr hm hp = texts_from_all k m ds hr hm hp
  texts_from_all k m (event n ∷ ds) hr hm hp = texts_from_all k m ds hr hm hp

module _ (g : Program) (differ : NamesDiffer g) where
  pub program_texts : AllTexts g (texts_from 0 0 g.decls)
  program_texts = texts_from_all g 0 0 g.decls
      (λ j r e. ap (λ x. option_map (λ y. record { owner = by_program; routine = y }) x) (differ.program j r e))
      (λ j d e. subst (λ n. AllTexts g (texts_of (by_monitor n) d.entries)) (none j)
      (texts_of_all g (by_monitor j) d.entries (λ i r is. ap (λ y. entry_of j y r.name) e ∙ ap (λ x. option_map (λ y. record { owner = by_monitor j; routine = y }) x) (differ.monitor j d e i r is))))
      (λ j p e. subst (λ n. AllTexts g (texts_of (by_process n) p.routines)) (none j)
      (texts_of_all g (by_process j) p.routines (λ i r is. ap (λ y. routine_of (by_process j) (process_routines y) r.name) e ∙ ap (λ x. option_map (λ y. record { owner = by_process j; routine = y }) x) (differ.process j p e i r is))))
    where
      none : (n : ℕ) → n ≡ 0 + n
      none n = omega arith

  visit_texts_all : (n : ℕ) (done ts : List Text) → AllTexts g done → AllTexts g ts → AllTexts g (visit_texts n g done ts)
  visit_texts_all n done [] h k = h
  visit_texts_all n done (t ∷ ts) h k = visit_texts_all n (visit n g done t) ts (visit_texts_text g differ n done t h k.0) k.1

  pub numbered_texts : AllTexts g (numbered g)
  unfolding numbered
  numbered_texts = visit_texts_all (routine_count g) [] (texts_from 0 0 g.decls) tt program_texts

-- ---- numbers and positions

pub placed : (t : Text) (us : List Text) → is_among t us ≡ true → (u : Text) × (slice_get us (place_among t us) ≡ Some u) × (same_text u t ≡ true)
placed t [] h = absurd (false≢true h)
placed t (v ∷ us) h = by_case (same_text v t) refl h (λ k. placed t us k)
  where
    by_case : (b : Bool) → same_text v t ≡ b → b || is_among t us ≡ true → (is_among t us ≡ true → (u : Text) × (slice_get us (place_among t us) ≡ Some u) × (same_text u t ≡ true))
        → (u : Text) × (slice_get (v ∷ us) (cond b 0 (suc (place_among t us))) ≡ Some u) × (same_text u t ≡ true)
    by_case true e h k = (v, refl, e)
    by_case false e h k = k h

pub text_at : (g : Program) (us : List Text) (j : ℕ) (u : Text) → AllTexts g us → slice_get us j ≡ Some u → IsText g u
text_at g [] j u h e = absurd (none-some u e)
text_at g (v ∷ us) zero u h e = subst (λ y. IsText g y) (same_Some v u e) h.0
text_at g (v ∷ us) (suc j) u h e = text_at g us j u h.1 e

pub text_same : (g : Program) (u t : Text) → IsText g u → IsText g t → same_text u t ≡ true → u ≡ t
text_same g u t hu ht e =
    let parts : (same_owner u.owner t.owner ≡ true) × (bytes_eq u.routine.name t.routine.name ≡ true) = and_parts (same_owner u.owner t.owner) (bytes_eq u.routine.name t.routine.name) e in
    same_Some u t (sym hu ∙ (ap (λ o. text_named g o u.routine.name) (owner_same u.owner t.owner parts.0) ∙ (ap (λ x. text_named g t.owner x) (name_same u.routine.name t.routine.name parts.1) ∙ ht)))

-- where there are no routines there are no texts
no_entries : (rs : List Routine) → length rs ≡ 0 → rs ≡ []
no_entries [] e = refl
no_entries (r ∷ rs) e = absurd (omega arith)

no_texts : (k m : ℕ) (ds : List Declaration) → sum_by routines_in ds ≡ 0 → texts_from k m ds ≡ []
no_texts k m [] e = refl
no_texts k m (routine r ∷ ds) e = let sum : sum_by routines_in (routine r ∷ ds) ≡ 1 + sum_by routines_in ds = sum_by-cons routines_in (routine r) ds in absurd (omega arith)
no_texts k m (monitor d ∷ ds) e =
    let sum : sum_by routines_in (monitor d ∷ ds) ≡ length d.entries + sum_by routines_in ds = sum_by-cons routines_in (monitor d) ds in
    let here : length d.entries ≡ 0 = omega arith in
    let rest : sum_by routines_in ds ≡ 0 = omega arith in
    ap (λ rs. texts_of (by_monitor m) rs ++ texts_from k (suc m) ds) (no_entries d.entries here) ∙ no_texts k (suc m) ds rest
no_texts k m (process p ∷ ds) e =
    let sum : sum_by routines_in (process p ∷ ds) ≡ length p.routines + sum_by routines_in ds = sum_by-cons routines_in (process p) ds in
    let here : length p.routines ≡ 0 = omega arith in
    let rest : sum_by routines_in ds ≡ 0 = omega arith in
    ap (λ rs. texts_of (by_process k) rs ++ texts_from (suc k) m ds) (no_entries p.routines here) ∙ no_texts (suc k) m ds rest
no_texts k m (constant n c ∷ ds) e = let sum : sum_by routines_in (constant n c ∷ ds) ≡ 0 + sum_by routines_in ds = sum_by-cons routines_in (constant n c) ds in no_texts k m ds (omega arith)
no_texts k m (device n b ∷ ds) e = let sum : sum_by routines_in (device n b ∷ ds) ≡ 0 + sum_by routines_in ds = sum_by-cons routines_in (device n b) ds in no_texts k m ds (omega arith)
no_texts k m (event n ∷ ds) e = let sum : sum_by routines_in (event n ∷ ds) ≡ 0 + sum_by routines_in ds = sum_by-cons routines_in (event n) ds in no_texts k m ds (omega arith)

is_numbered : (g : Program) (t : Text) → is_among t (texts_from 0 0 g.decls) ≡ true → is_among t (numbered g) ≡ true
unfolding numbered
is_numbered g t h = by_count (routine_count g) refl
  where
    by_count : (n : ℕ) → routine_count g ≡ n → is_among t (visit_texts n g [] (texts_from 0 0 g.decls)) ≡ true
    by_count zero e = absurd (false≢true (sym (ap (λ us. is_among t us) (no_texts 0 0 g.decls e)) ∙ h))
    by_count (suc n) e = visit_texts_adds n g [] (texts_from 0 0 g.decls) t h

-- a text stands under its number
pub numbered_at : (g : Program) (t : Text) → NamesDiffer g → IsText g t → is_among t (texts_from 0 0 g.decls) ≡ true → slice_get (numbered g) (number_of g t) ≡ Some t
unfolding number_of
numbered_at g t differ is h =
    let at : (u : Text) × (slice_get (numbered g) (place_among t (numbered g)) ≡ Some u) × (same_text u t ≡ true) = placed t (numbered g) (is_numbered g t h) in
    at.1 ∙ ap (λ y. Some y) (text_same g at.0 t (text_at g (numbered g) (place_among t (numbered g)) at.0 (numbered_texts g differ) at.1) is at.2)

-- ---- rows

pub row_of : (g : Program) (code : List Instr) (p q : ℕ) (ts : List Text) (rs : List image.Routine) (j : ℕ) (t : Text) → EmitsRoutines g code p q ts rs → slice_get ts j ≡ Some t
    → (r : image.Routine) × (slice_get rs j ≡ Some r) × IsRoutine g t r × (next : ℕ) × EmitsRoutine g code t r.start next
row_of g code p q [] [] j t h e = absurd (none-some t e)
row_of g code p q [] (r ∷ rs) j t h e = absurd h
row_of g code p q (u ∷ ts) [] j t h e = absurd h
row_of g code p q (u ∷ ts) (r ∷ rs) zero t h e =
    let same : u ≡ t = same_Some u t e in
    (r, refl, subst (λ y. IsRoutine g y r) same h.1, h.0, subst (λ y. EmitsRoutine g code y r.start h.0) same (subst (λ n. EmitsRoutine g code u n h.0) (sym h.2) h.3))
row_of g code p q (u ∷ ts) (r ∷ rs) (suc j) t h e = row_of g code h.0 q ts rs j t h.4 e

-- the code of a process
pub process_of : (g : Program) (code : List Instr) (k p q : ℕ) (ts : List Process) (is : List image.Process) (j : ℕ) (t : Process) (ip : image.Process) → EmitsProcesses g code k p q ts is → slice_get ts j ≡ Some t → slice_get is j ≡ Some ip
    → (start : ℕ) × (next : ℕ) × EmitsProcess g code (k + j) t start next ip
process_of g code k p q [] [] j t ip h e i = absurd (none-some t e)
process_of g code k p q [] (x ∷ is) j t ip h e i = absurd h
process_of g code k p q (u ∷ ts) [] j t ip h e i = absurd h
process_of g code k p q (u ∷ ts) (x ∷ is) zero t ip h e i =
    (p, h.0, subst (λ n. EmitsProcess g code n t p h.0 ip) (none k) (subst (λ y. EmitsProcess g code k t p h.0 y) (same_Some x ip i) (subst (λ y. EmitsProcess g code k y p h.0 x) (same_Some u t e) h.1)))
  where
    none : (n : ℕ) → n ≡ n + 0
    none n = omega arith
process_of g code k p q (u ∷ ts) (x ∷ is) (suc j) t ip h e i =
    let r : (start : ℕ) × (next : ℕ) × EmitsProcess g code (suc k + j) t start next ip = process_of g code (suc k) h.0 q ts is j t ip h.2 e i in
    (r.0, r.1, subst (λ n. EmitsProcess g code n t r.0 r.1 ip) (next_one k j) r.2)
  where
    next_one : (n j : ℕ) → suc n + j ≡ n + suc j
    next_one n j = omega arith

-- ---- which texts calls name

found_among : (o : Owner) (f : Name) (rs : List Routine) (r : Routine) → named (λ k. k.name) f rs ≡ Some r → is_among (record { owner = o; routine = r }) (texts_of o rs) ≡ true
found_among o f [] r e = absurd (none-some r e)
found_among o f (s ∷ rs) r e = by_case (bytes_eq s.name f) e (λ h. found_among o f rs r h)
  where
    by_case : (b : Bool) → cond b (Some s) (named (λ k. k.name) f rs) ≡ Some r → (named (λ k. k.name) f rs ≡ Some r → is_among (record { owner = o; routine = r }) (texts_of o rs) ≡ true)
        → is_among (record { owner = o; routine = r }) (texts_of o (s ∷ rs)) ≡ true
    by_case true h k =
        ap (λ y. same_text (record { owner = o; routine = y }) (record { owner = o; routine = r }) || is_among (record { owner = o; routine = r }) (texts_of o rs)) (same_Some s r h)
        ∙ ap (λ b. b || is_among (record { owner = o; routine = r }) (texts_of o rs)) (text_is (record { owner = o; routine = r }))
    by_case false h k = ap (λ b. same_text (record { owner = o; routine = s }) (record { owner = o; routine = r }) || b) (k h) ∙ or_true (same_text (record { owner = o; routine = s }) (record { owner = o; routine = r }))

pub among_program : (f : Name) (r : Routine) (k m : ℕ) (ds : List Declaration) → named (λ x. x.name) f (filter_map a_routine ds) ≡ Some r → is_among (record { owner = by_program; routine = r }) (texts_from k m ds) ≡ true
among_program f r k m [] e = absurd (none-some r e)
among_program f r k m (routine s ∷ ds) e = by_case (bytes_eq s.name f) e (λ h. among_program f r k m ds h)
  where
    by_case : (b : Bool) → cond b (Some s) (named (λ x. x.name) f (filter_map a_routine ds)) ≡ Some r → (named (λ x. x.name) f (filter_map a_routine ds) ≡ Some r → is_among (record { owner = by_program; routine = r }) (texts_from k m ds) ≡ true)
        → is_among (record { owner = by_program; routine = r }) (texts_from k m (routine s ∷ ds)) ≡ true
    by_case true h l =
        ap (λ y. same_text (record { owner = by_program; routine = y }) (record { owner = by_program; routine = r }) || is_among (record { owner = by_program; routine = r }) (texts_from k m ds)) (same_Some s r h)
        ∙ ap (λ b. b || is_among (record { owner = by_program; routine = r }) (texts_from k m ds)) (text_is (record { owner = by_program; routine = r }))
    by_case false h l = ap (λ b. same_text (record { owner = by_program; routine = s }) (record { owner = by_program; routine = r }) || b) (l h) ∙ or_true (same_text (record { owner = by_program; routine = s }) (record { owner = by_program; routine = r }))
among_program f r k m (monitor d ∷ ds) e = among_back (record { owner = by_program; routine = r }) (texts_of (by_monitor m) d.entries) (texts_from k (suc m) ds) (among_program f r k (suc m) ds e)
among_program f r k m (process p ∷ ds) e = among_back (record { owner = by_program; routine = r }) (texts_of (by_process k) p.routines) (texts_from (suc k) m ds) (among_program f r (suc k) m ds e)
among_program f r k m (constant n c ∷ ds) e = among_program f r k m ds e
among_program f r k m (device n b ∷ ds) e = among_program f r k m ds e
among_program f r k m (event n ∷ ds) e = among_program f r k m ds e

behind_one : (t u : Text) (us : List Text) → is_among t us ≡ true → same_text u t || is_among t us ≡ true
behind_one t u us h = ap (λ b. same_text u t || b) h ∙ or_true (same_text u t)

pub among_process : (f : Name) (r : Routine) (p : Process) (j k m n : ℕ) (ds : List Declaration) → slice_get (filter_map process_in ds) j ≡ Some p → named (λ x. x.name) f p.routines ≡ Some r → n ≡ k + j → is_among (record { owner = by_process n; routine = r }) (texts_from k m ds) ≡ true
among_process f r p j k m n [] e found is = absurd (none-some p e)
among_process f r p j k m n (routine s ∷ ds) e found is = behind_one (record { owner = by_process n; routine = r }) (record { owner = by_program; routine = s }) (texts_from k m ds) (among_process f r p j k m n ds e found is)
among_process f r p j k m n (monitor d ∷ ds) e found is = among_back (record { owner = by_process n; routine = r }) (texts_of (by_monitor m) d.entries) (texts_from k (suc m) ds) (among_process f r p j k (suc m) n ds e found is)
among_process f r p zero k m n (process q ∷ ds) e found is =
    let same : n ≡ k = omega arith in
    among_front (record { owner = by_process n; routine = r }) (texts_of (by_process k) q.routines) (texts_from (suc k) m ds)
    (subst (λ y. is_among (record { owner = by_process y; routine = r }) (texts_of (by_process k) q.routines) ≡ true) (sym same) (found_among (by_process k) f q.routines r (subst (λ y. named (λ x. x.name) f y.routines ≡ Some r) (sym (same_Some q p e)) found)))
among_process f r p (suc j) k m n (process q ∷ ds) e found is = among_back (record { owner = by_process n; routine = r }) (texts_of (by_process k) q.routines) (texts_from (suc k) m ds) (among_process f r p j (suc k) m n ds e found (omega arith))
among_process f r p j k m n (constant x c ∷ ds) e found is = among_process f r p j k m n ds e found is
among_process f r p j k m n (device x b ∷ ds) e found is = among_process f r p j k m n ds e found is
among_process f r p j k m n (event x ∷ ds) e found is = among_process f r p j k m n ds e found is

pub among_monitor : (f : Name) (r : Routine) (d : Monitor) (j k m n : ℕ) (ds : List Declaration) → slice_get (filter_map monitor_in ds) j ≡ Some d → named (λ x. x.name) f d.entries ≡ Some r → n ≡ m + j → is_among (record { owner = by_monitor n; routine = r }) (texts_from k m ds) ≡ true
among_monitor f r d j k m n [] e found is = absurd (none-some d e)
among_monitor f r d j k m n (routine s ∷ ds) e found is = behind_one (record { owner = by_monitor n; routine = r }) (record { owner = by_program; routine = s }) (texts_from k m ds) (among_monitor f r d j k m n ds e found is)
among_monitor f r d zero k m n (monitor q ∷ ds) e found is =
    let same : n ≡ m = omega arith in
    among_front (record { owner = by_monitor n; routine = r }) (texts_of (by_monitor m) q.entries) (texts_from k (suc m) ds)
    (subst (λ y. is_among (record { owner = by_monitor y; routine = r }) (texts_of (by_monitor m) q.entries) ≡ true) (sym same) (found_among (by_monitor m) f q.entries r (subst (λ y. named (λ x. x.name) f y.entries ≡ Some r) (sym (same_Some q d e)) found)))
among_monitor f r d (suc j) k m n (monitor q ∷ ds) e found is = among_back (record { owner = by_monitor n; routine = r }) (texts_of (by_monitor m) q.entries) (texts_from k (suc m) ds) (among_monitor f r d j k (suc m) n ds e found (omega arith))
among_monitor f r d j k m n (process p ∷ ds) e found is = among_back (record { owner = by_monitor n; routine = r }) (texts_of (by_process k) p.routines) (texts_from (suc k) m ds) (among_monitor f r d j (suc k) m n ds e found is)
among_monitor f r d j k m n (constant x c ∷ ds) e found is = among_monitor f r d j k m n ds e found is
among_monitor f r d j k m n (device x b ∷ ds) e found is = among_monitor f r d j k m n ds e found is
among_monitor f r d j k m n (event x ∷ ds) e found is = among_monitor f r d j k m n ds e found is

-- ---- the texts that a process may run

-- what a name means to a process
meant : (p : Process) (g : Program) (f : Name) (x : Found) → routine_named g p f ≡ Some x → ((x.home ≡ of_process) × (named entry_name f p.routines ≡ Some x.routine)) ⊎ ((x.home ≡ of_program) × (named entry_name f (routines g) ≡ Some x.routine))
meant p g f x e = by_found (named entry_name f p.routines) (named entry_name f (routines g)) refl refl e
  where
    by_found : (a b : Option Routine) → named entry_name f p.routines ≡ a → named entry_name f (routines g) ≡ b → or_else (option_map (λ r. record { home = of_process; routine = r }) a) (option_map (λ r. record { home = of_program; routine = r }) b) ≡ Some x
        → ((x.home ≡ of_process) × (named entry_name f p.routines ≡ Some x.routine)) ⊎ ((x.home ≡ of_program) × (named entry_name f (routines g) ≡ Some x.routine))
    by_found (Some r) b ea eb h = inl (ap (λ y. y.home) (sym (found_same (record { home = of_process; routine = r }) x h)), ea ∙ ap (λ y. Some y.routine) (found_same (record { home = of_process; routine = r }) x h))
      where
        found_same : (a b : Found) → Some a ≡ Some b → a ≡ b
        found_same a b e = same_Some a b e
    by_found None (Some r) ea eb h = inr (ap (λ y. y.home) (sym (same_Some (record { home = of_program; routine = r }) x h)), eb ∙ ap (λ y. Some y.routine) (same_Some (record { home = of_program; routine = r }) x h))
    by_found None None ea eb h = absurd (none-some x h)

pub not_process : of_program ≡ of_process → ⊥
not_process e = cc

pub not_program : of_process ≡ of_program → ⊥
not_program e = cc

-- the text of a routine that a process may call
pub routine_is_text : (e : Setting) (f : Name) (t : Text) → NamesDiffer e.program → slice_get (processes e.program) e.number ≡ Some e.text → routine_named e.program e.text f ≡ Some (found_of t) → IsMine e t.owner
    → IsText e.program t × (is_among t (texts_from 0 0 e.program.decls) ≡ true)
routine_is_text e f t differ at is mine = by_owner t.owner refl mine (meant e.text e.program f (found_of t) is)
  where
    by_owner : (o : Owner) → t.owner ≡ o → IsMine e o → ((home_of t.owner ≡ of_process) × (named entry_name f e.text.routines ≡ Some t.routine)) ⊎ ((home_of t.owner ≡ of_program) × (named entry_name f (routines e.program) ≡ Some t.routine))
        → IsText e.program t × (is_among t (texts_from 0 0 e.program.decls) ≡ true)
    by_owner by_program same m (inl h) = absurd (not_process (ap (λ o. home_of o) (sym same) ∙ h.0))
    by_owner by_program same m (inr h) =
        let whole : record { owner = by_program; routine = t.routine } ≡ t = ap (λ o. record { owner = o; routine = t.routine }) (sym same) in (
          subst (λ y. IsText e.program y) whole
              (ap (λ x. option_map (λ r. record { owner = by_program; routine = r }) x) (differ.program (found_there f (routines e.program) t.routine h.1).0 t.routine (found_there f (routines e.program) t.routine h.1).1)),
          subst (λ y. is_among y (texts_from 0 0 e.program.decls) ≡ true) whole (among_program f t.routine 0 0 e.program.decls h.1),
        )
    by_owner (by_process k) same m (inr h) = absurd (not_program (ap (λ o. home_of o) (sym same) ∙ h.0))
    by_owner (by_process k) same m (inl h) =
        let whole : record { owner = by_process k; routine = t.routine } ≡ t = ap (λ o. record { owner = o; routine = t.routine }) (sym same) in
        let here : slice_get (processes e.program) k ≡ Some e.text = ap (λ n. slice_get (processes e.program) n) m ∙ at in (
          subst (λ y. IsText e.program y) whole
              (ap (λ y. routine_of (by_process k) (process_routines y) t.routine.name) here
              ∙ ap (λ x. option_map (λ r. record { owner = by_process k; routine = r }) x) (differ.process k e.text here (found_there f e.text.routines t.routine h.1).0 t.routine (found_there f e.text.routines t.routine h.1).1)),
          subst (λ y. is_among y (texts_from 0 0 e.program.decls) ≡ true) whole (among_process f t.routine e.text k 0 0 k e.program.decls here h.1 (none k)),
        )
      where
        none : (n : ℕ) → n ≡ 0 + n
        none n = omega arith
    by_owner (by_monitor k) same m h = absurd m

pub from_zero : (n : ℕ) → n ≡ 0 + n
from_zero n = omega arith

-- the text of an entry that a process may call
pub entry_is_text : (e : Setting) (mon entry : Name) (t : Text) → NamesDiffer e.program → Entry e mon entry t → IsText e.program t × (is_among t (texts_from 0 0 e.program.decls) ≡ true)
entry_is_text e mon entry t differ is = (entry_text e.program differ mon entry t is.in_code, by_found (named (λ x. x.name) mon (monitors e.program)) refl is.in_code)
  where
    by_found : (x : Option Monitor) → named (λ x. x.name) mon (monitors e.program) ≡ x → entry_of (monitor_number e.program mon) x entry ≡ Some t → is_among t (texts_from 0 0 e.program.decls) ≡ true
    by_found None at h = absurd (none-some t h)
    by_found (Some k) at h =
        let l : (t.owner ≡ by_monitor (monitor_number e.program mon)) × (named (λ x. x.name) entry k.entries ≡ Some t.routine) = of_list (by_monitor (monitor_number e.program mon)) k.entries entry t h in
        subst (λ o. is_among (record { owner = o; routine = t.routine }) (texts_from 0 0 e.program.decls) ≡ true) (sym l.0)
        (among_monitor entry t.routine k (monitor_number e.program mon) 0 0 (monitor_number e.program mon) e.program.decls (monitor_there mon (monitors e.program) k at) l.1 (from_zero (monitor_number e.program mon)))
