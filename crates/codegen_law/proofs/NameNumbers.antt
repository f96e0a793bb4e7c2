-- Every routine and entry has its number.
use Rattle.std.specs.Prelude.{◌≡◌, ◌||◌, ◌&&◌, ℕ, zero, suc, Bool, true, false, cond, List, [], ◌∷◌, ◌++◌, Option, Some, None, slice_get, map, option_map, bytes_eq, ◌⊎◌}
use Rattle.std.proofs.Common.{inl, inr, refl, sym, ◌∙◌, ap, subst}
use Rattle.std.proofs.lemmas.Bool.{eq-eqb, eqb-true, and_parts, false≢true, or_cases}
use Rattle.std.proofs.lemmas.Slice.Eq.{bytes_eq-Decides}
use Rattle.std.proofs.lemmas.Option.{same_Some, none-some}
use Rattle.syntax_tree.specs.Plain.{Name, Routine, Monitor, Process, Program}
use Rattle.source_semantics.specs.Names.{named, routines, monitors, processes, monitor_number, place_of}
use Rattle.source_semantics.specs.Run.{or_else}
use Rattle.code_spec.specs.Layout.{Owner, by_program, by_process, by_monitor}
use Rattle.code_spec.specs.Numbering.{Text, same_owner, same_text, routine_of, process_routines, routine_in, entry_of, entry_in, Called, calls_routine, calls_entry, called_text, is_among, visit_some, visit_all, visit, visit_texts, routine_calls}
use Rattle.codegen_law.specs.Kept.{AllFound, NamesDiffer}

-- ---- names

pub name_same : (a b : Name) → bytes_eq a b ≡ true → a ≡ b
name_same a b e = (bytes_eq-Decides a b).0 e

pub name_is : (a : Name) → bytes_eq a a ≡ true
name_is a = (bytes_eq-Decides a a).1 refl

-- what is found by a name has it, and stands in the list
pub found_name : (f : Name) (rs : List Routine) (r : Routine) → named (λ k. k.name) f rs ≡ Some r → r.name ≡ f
found_name f [] r e = absurd (none-some r e)
found_name f (s ∷ rs) r e = by_case (bytes_eq s.name f) refl (λ h. found_name f rs r h) e
  where
    by_case : (b : Bool) → bytes_eq s.name f ≡ b → (named (λ k. k.name) f rs ≡ Some r → r.name ≡ f) → cond b (Some s) (named (λ k. k.name) f rs) ≡ Some r → r.name ≡ f
    by_case true is k h = ap (λ t. t.name) (sym (same_Some s r h)) ∙ name_same s.name f is
    by_case false is k h = k h

pub found_there : (f : Name) (rs : List Routine) (r : Routine) → named (λ k. k.name) f rs ≡ Some r → (j : ℕ) × (slice_get rs j ≡ Some r)
found_there f [] r e = absurd (none-some r e)
found_there f (s ∷ rs) r e = by_case (bytes_eq s.name f) (λ h. found_there f rs r h) e
  where
    by_case : (b : Bool) → (named (λ k. k.name) f rs ≡ Some r → (j : ℕ) × (slice_get rs j ≡ Some r)) → cond b (Some s) (named (λ k. k.name) f rs) ≡ Some r → (j : ℕ) × (slice_get (s ∷ rs) j ≡ Some r)
    by_case true k h = (0, h)
    by_case false k h = (suc (k h).0, (k h).1)

-- ---- texts of a program

-- the routine or entry of that name, of an owner
abbrev pub text_named : Program → Owner → Name → Option Text
text_named g by_program f = routine_of by_program (routines g) f
text_named g (by_process k) f = routine_of (by_process k) (process_routines (slice_get (processes g) k)) f
text_named g (by_monitor m) f = entry_of m (slice_get (monitors g) m) f

-- a routine or an entry of the program, the one that is found by its name
abbrev pub IsText : Program → Text → Type 0
IsText g t = text_named g t.owner t.routine.name ≡ Some t

abbrev pub AllTexts : Program → List Text → Type 0
AllTexts g [] = Unit {0}
AllTexts g (t ∷ ts) = IsText g t × AllTexts g ts

pub all_both : (g : Program) (ts us : List Text) → AllTexts g ts → AllTexts g us → AllTexts g (ts ++ us)
all_both g [] us h k = k
all_both g (t ∷ ts) us h k = (h.0, all_both g ts us h.1 k)

-- what a list of routines gives by a name
pub of_list : (o : Owner) (rs : List Routine) (f : Name) (t : Text) → routine_of o rs f ≡ Some t → (t.owner ≡ o) × (named (λ k. k.name) f rs ≡ Some t.routine)
of_list o rs f t e = by_found (named (λ k. k.name) f rs) refl e
  where
    by_found : (x : Option Routine) → named (λ k. k.name) f rs ≡ x → option_map (λ r. record { owner = o; routine = r }) x ≡ Some t → (t.owner ≡ o) × (named (λ k. k.name) f rs ≡ Some t.routine)
    by_found None is h = absurd (none-some t h)
    by_found (Some r) is h = (ap (λ y. y.owner) (sym (same_Some (record { owner = o; routine = r }) t h)), is ∙ ap (λ y. Some y.routine) (same_Some (record { owner = o; routine = r }) t h))

-- and by the name of what it gave
pub again : (o : Owner) (rs : List Routine) (f : Name) (t : Text) → AllFound rs → routine_of o rs f ≡ Some t → routine_of o rs t.routine.name ≡ Some t
again o rs f t all e =
    let h : (t.owner ≡ o) × (named (λ k. k.name) f rs ≡ Some t.routine) = of_list o rs f t e in
    let j : (j : ℕ) × (slice_get rs j ≡ Some t.routine) = found_there f rs t.routine h.1 in
    ap (λ x. option_map (λ r. record { owner = o; routine = r }) x) (all j.0 t.routine j.1) ∙ ap (λ y. Some (record { owner = y; routine = t.routine })) (sym h.0)

module _ (g : Program) (differ : NamesDiffer g) where
  pub program_text : (f : Name) (t : Text) → routine_of by_program (routines g) f ≡ Some t → IsText g t
  program_text f t e =
      subst (λ o. text_named g o t.routine.name ≡ Some t) (sym (of_list by_program (routines g) f t e).0) (again by_program (routines g) f t differ.program e)

  pub process_text : (k : ℕ) (x : Option Process) → slice_get (processes g) k ≡ x → (f : Name) (t : Text) → routine_of (by_process k) (process_routines x) f ≡ Some t → IsText g t
  process_text k None is f t e = absurd (none-some t e)
  process_text k (Some p) is f t e =
      subst (λ o. text_named g o t.routine.name ≡ Some t) (sym (of_list (by_process k) p.routines f t e).0)
      (ap (λ y. routine_of (by_process k) (process_routines y) t.routine.name) is ∙ again (by_process k) p.routines f t (differ.process k p is) e)

  monitor_text : (m : ℕ) (x : Option Monitor) → slice_get (monitors g) m ≡ x → (f : Name) (t : Text) → entry_of m x f ≡ Some t → IsText g t
  monitor_text m None is f t e = absurd (none-some t e)
  monitor_text m (Some k) is f t e =
      subst (λ o. text_named g o t.routine.name ≡ Some t) (sym (of_list (by_monitor m) k.entries f t e).0)
      (ap (λ y. entry_of m y t.routine.name) is ∙ again (by_monitor m) k.entries f t (differ.monitor m k is) e)

  either_text : (a b : Option Text) (t : Text) → (a ≡ Some t → IsText g t) → (b ≡ Some t → IsText g t) → or_else a b ≡ Some t → IsText g t
  either_text None b t h k e = k e
  either_text (Some x) b t h k e = h e

  pub routine_text : (o : Owner) (f : Name) (t : Text) → routine_in g o f ≡ Some t → IsText g t
  routine_text by_program f t e = program_text f t e
  routine_text (by_monitor m) f t e = program_text f t e
  routine_text (by_process k) f t e =
      either_text (routine_of (by_process k) (process_routines (slice_get (processes g) k)) f) (routine_of by_program (routines g) f) t (λ h. process_text k (slice_get (processes g) k) refl f t h) (λ h. program_text f t h) e

-- the monitor of a name stands under its number
pub monitor_there : (f : Name) (ms : List Monitor) (k : Monitor) → named (λ x. x.name) f ms ≡ Some k → slice_get ms (place_of f (map (λ x. x.name) ms)) ≡ Some k
monitor_there f [] k e = absurd (none-some k e)
monitor_there f (m ∷ ms) k e = by_case (bytes_eq m.name f) (λ h. monitor_there f ms k h) e
  where
    by_case : (b : Bool) → (named (λ x. x.name) f ms ≡ Some k → slice_get ms (place_of f (map (λ x. x.name) ms)) ≡ Some k) → cond b (Some m) (named (λ x. x.name) f ms) ≡ Some k
        → slice_get (m ∷ ms) (cond b 0 (suc (place_of f (map (λ x. x.name) ms)))) ≡ Some k
    by_case true r h = h
    by_case false r h = r h

module _ (g : Program) (differ : NamesDiffer g) where
  pub entry_text : (mon entry : Name) (t : Text) → entry_in g mon entry ≡ Some t → IsText g t
  entry_text mon entry t e = by_monitor_found (named (λ x. x.name) mon (monitors g)) refl e
    where
      by_monitor_found : (x : Option Monitor) → named (λ x. x.name) mon (monitors g) ≡ x → entry_of (monitor_number g mon) x entry ≡ Some t → IsText g t
      by_monitor_found None is h = absurd (none-some t h)
      by_monitor_found (Some k) is h = monitor_text g differ (monitor_number g mon) (Some k) (monitor_there mon (monitors g) k is) entry t h

  pub called_is_text : (o : Owner) (c : Called) (t : Text) → called_text g o c ≡ Some t → IsText g t
  called_is_text o (calls_routine f) t e = routine_text g differ o f t e
  called_is_text o (calls_entry m f) t e = entry_text m f t e

  -- ---- visits

  visit_all_texts : (v : List Text → Text → List Text) (means : Called → Option Text) → ((done : List Text) (t : Text) → AllTexts g done → IsText g t → AllTexts g (v done t)) → ((c : Called) (t : Text) → means c ≡ Some t → IsText g t)
      → (done : List Text) (cs : List Called) → AllTexts g done → AllTexts g (visit_all v means done cs)
  visit_all_texts v means visits texts done [] h = h
  visit_all_texts v means visits texts done (c ∷ cs) h = visit_all_texts v means visits texts (visit_some v done (means c)) cs (by_meaning (means c) refl)
    where
      by_meaning : (x : Option Text) → means c ≡ x → AllTexts g (visit_some v done x)
      by_meaning None is = h
      by_meaning (Some t) is = visits done t h (texts c t is)

  pub visit_texts_text : (n : ℕ) (done : List Text) (t : Text) → AllTexts g done → IsText g t → AllTexts g (visit n g done t)
  unfolding visit
  visit_texts_text zero done t h k = h
  visit_texts_text (suc n) done t h k =
      by_case (is_among t done)
      (visit_all_texts (visit n g) (called_text g t.owner) (λ d u a b. visit_texts_text n d u a b) (λ c u e. called_is_text t.owner c u e) done (routine_calls t.routine) h)
    where
      by_case : (b : Bool) → AllTexts g (visit_all (visit n g) (called_text g t.owner) done (routine_calls t.routine)) → AllTexts g (cond b done (visit_all (visit n g) (called_text g t.owner) done (routine_calls t.routine) ++ t ∷ []))
      by_case true l = h
      by_case false l = all_both g (visit_all (visit n g) (called_text g t.owner) done (routine_calls t.routine)) (t ∷ []) l (k, tt)

-- ---- who is among whom

pub or_true : (b : Bool) → b || true ≡ true
or_true true = refl
or_true false = refl

owner_is : (o : Owner) → same_owner o o ≡ true
owner_is by_program = refl
owner_is (by_process k) = eq-eqb k k refl
owner_is (by_monitor k) = eq-eqb k k refl

pub owner_same : (a b : Owner) → same_owner a b ≡ true → a ≡ b
owner_same by_program by_program h = refl
owner_same (by_process k) (by_process j) h = ap (λ n. by_process n) (eqb-true k j h)
owner_same (by_monitor k) (by_monitor j) h = ap (λ n. by_monitor n) (eqb-true k j h)
owner_same by_program (by_process j) h = absurd (false≢true h)
owner_same by_program (by_monitor j) h = absurd (false≢true h)
owner_same (by_process k) by_program h = absurd (false≢true h)
owner_same (by_process k) (by_monitor j) h = absurd (false≢true h)
owner_same (by_monitor k) by_program h = absurd (false≢true h)
owner_same (by_monitor k) (by_process j) h = absurd (false≢true h)

pub text_is : (t : Text) → same_text t t ≡ true
text_is t = ap (λ b. b && bytes_eq t.routine.name t.routine.name) (owner_is t.owner) ∙ name_is t.routine.name

pub among_front : (t : Text) (us vs : List Text) → is_among t us ≡ true → is_among t (us ++ vs) ≡ true
among_front t [] vs h = absurd (false≢true h)
among_front t (u ∷ us) vs h = by_either (or_cases (same_text u t) (is_among t us) h) (λ k. among_front t us vs k)
  where
    by_either : (same_text u t ≡ true) ⊎ (is_among t us ≡ true) → (is_among t us ≡ true → is_among t (us ++ vs) ≡ true) → same_text u t || is_among t (us ++ vs) ≡ true
    by_either (inl e) k = ap (λ b. b || is_among t (us ++ vs)) e
    by_either (inr e) k = ap (λ b. same_text u t || b) (k e) ∙ or_true (same_text u t)

pub among_back : (t : Text) (us vs : List Text) → is_among t vs ≡ true → is_among t (us ++ vs) ≡ true
among_back t [] vs h = h
among_back t (u ∷ us) vs h = ap (λ b. same_text u t || b) (among_back t us vs h) ∙ or_true (same_text u t)

-- a visit keeps who is there, and adds whom it visits
pub visit_all_keeps : (v : List Text → Text → List Text) (means : Called → Option Text) (u : Text) → ((done : List Text) (t : Text) → is_among u done ≡ true → is_among u (v done t) ≡ true)
    → (done : List Text) (cs : List Called) → is_among u done ≡ true → is_among u (visit_all v means done cs) ≡ true
visit_all_keeps v means u keeps done [] h = h
visit_all_keeps v means u keeps done (c ∷ cs) h = visit_all_keeps v means u keeps (visit_some v done (means c)) cs (by_meaning (means c))
  where
    by_meaning : (x : Option Text) → is_among u (visit_some v done x) ≡ true
    by_meaning None = h
    by_meaning (Some t) = keeps done t h

pub visit_keeps : (n : ℕ) (g : Program) (done : List Text) (t u : Text) → is_among u done ≡ true → is_among u (visit n g done t) ≡ true
unfolding visit
visit_keeps zero g done t u h = h
visit_keeps (suc n) g done t u h = by_case (is_among t done) (visit_all_keeps (visit n g) (called_text g t.owner) u (λ d k e. visit_keeps n g d k u e) done (routine_calls t.routine) h)
  where
    by_case : (b : Bool) → is_among u (visit_all (visit n g) (called_text g t.owner) done (routine_calls t.routine)) ≡ true → is_among u (cond b done (visit_all (visit n g) (called_text g t.owner) done (routine_calls t.routine) ++ t ∷ [])) ≡ true
    by_case true k = h
    by_case false k = among_front u (visit_all (visit n g) (called_text g t.owner) done (routine_calls t.routine)) (t ∷ []) k

visit_adds : (n : ℕ) (g : Program) (done : List Text) (t : Text) → is_among t (visit (suc n) g done t) ≡ true
unfolding visit
visit_adds n g done t = by_case (is_among t done) refl
  where
    by_case : (b : Bool) → is_among t done ≡ b → is_among t (cond b done (visit_all (visit n g) (called_text g t.owner) done (routine_calls t.routine) ++ t ∷ [])) ≡ true
    by_case true e = e
    by_case false e = among_back t (visit_all (visit n g) (called_text g t.owner) done (routine_calls t.routine)) (t ∷ []) (ap (λ b. b || false) (text_is t))

pub visit_texts_keeps : (n : ℕ) (g : Program) (done ts : List Text) (u : Text) → is_among u done ≡ true → is_among u (visit_texts n g done ts) ≡ true
visit_texts_keeps n g done [] u h = h
visit_texts_keeps n g done (t ∷ ts) u h = visit_texts_keeps n g (visit n g done t) ts u (visit_keeps n g done t u h)

-- who has the key of one that is there is there
same_among : (t u : Text) (us : List Text) → same_text t u ≡ true → is_among t us ≡ true → is_among u us ≡ true
same_among t u [] e h = absurd (false≢true h)
same_among t u (v ∷ us) e h = by_either (or_cases (same_text v t) (is_among t us) h) (λ k. same_among t u us e k)
  where
    parts : (same_owner t.owner u.owner ≡ true) × (bytes_eq t.routine.name u.routine.name ≡ true)
    parts = and_parts (same_owner t.owner u.owner) (bytes_eq t.routine.name u.routine.name) e

    same : same_text v t ≡ same_text v u
    same = ap (λ o. same_owner v.owner o && bytes_eq v.routine.name t.routine.name) (owner_same t.owner u.owner parts.0) ∙ ap (λ x. same_owner v.owner u.owner && bytes_eq v.routine.name x) (name_same t.routine.name u.routine.name parts.1)

    by_either : (same_text v t ≡ true) ⊎ (is_among t us ≡ true) → (is_among t us ≡ true → is_among u us ≡ true) → same_text v u || is_among u us ≡ true
    by_either (inl h) k = ap (λ b. b || is_among u us) (sym same ∙ h)
    by_either (inr h) k = ap (λ b. same_text v u || b) (k h) ∙ or_true (same_text v u)

pub visit_texts_adds : (n : ℕ) (g : Program) (done ts : List Text) (u : Text) → is_among u ts ≡ true → is_among u (visit_texts (suc n) g done ts) ≡ true
visit_texts_adds n g done [] u h = absurd (false≢true h)
visit_texts_adds n g done (t ∷ ts) u h = by_either (or_cases (same_text t u) (is_among u ts) h) (λ k. visit_texts_adds n g (visit (suc n) g done t) ts u k)
  where
    by_either : (same_text t u ≡ true) ⊎ (is_among u ts ≡ true) → (is_among u ts ≡ true → is_among u (visit_texts (suc n) g (visit (suc n) g done t) ts) ≡ true) → is_among u (visit_texts (suc n) g (visit (suc n) g done t) ts) ≡ true
    by_either (inl e) k = visit_texts_keeps (suc n) g (visit (suc n) g done t) ts u (same_among t u (visit (suc n) g done t) e (visit_adds n g done t))
    by_either (inr e) k = k e
