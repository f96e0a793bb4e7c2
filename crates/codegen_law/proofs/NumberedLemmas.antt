-- The law: each routine and entry stands once in the list by number, behind all that it calls.
use Rattle.std.specs.Prelude.{◌≡◌, ◌⊎◌, ◌||◌, ℕ, suc, Bool, true, false, List, [], ◌∷◌, Option, Some, None, slice_get, length, sum_by, Contains}
use Rattle.std.proofs.Common.{inl, inr, refl, sym, subst, arith, length-append}
use Rattle.std.proofs.lemmas.List.{length-map}
use Rattle.std.proofs.lemmas.List.Sums.{sum_by-cons, count_by-le-length}
use Rattle.std.proofs.lemmas.Option.{none-some}
use Rattle.std.proofs.lemmas.Bool.{false≢true}
use Rattle.base.proofs.Members.{at_front, behind, front_or_behind, none_in}
use Rattle.syntax_tree.specs.Plain.{Monitor, Process, Declaration, constant, device, event, routine, monitor, process, Program}
use Rattle.source_semantics.specs.Names.{routines, monitors, processes, routines_in, routine_count}
use Rattle.code_spec.specs.Layout.{Owner, by_program, by_process, by_monitor}
use Rattle.code_spec.specs.Numbering.{Text, same_text, routine_of, process_routines, entry_of, is_among, texts_of, texts_from, numbered, number_of}
use Rattle.codegen_law.specs.Kept.{NamesDiffer}
use Rattle.codegen_law.proofs.NameNumbers.{text_named, IsText, AllTexts, of_list}
use Rattle.codegen_law.proofs.Rows.{program_texts, numbered_texts, numbered_at, text_at, text_same, among_program, among_process, among_monitor, from_zero}
use Rattle.codegen_law.specs.Numbered.{texts, RoutinesAreNumbered}
use Rattle.codegen_law.proofs.Visits.{Good, nothing_done, all_good}

-- ---- texts are those of the declarations

is_among_texts : (g : Program) (t : Text) → IsText g t → is_among t (texts g) ≡ true
is_among_texts g t is = by t.owner refl is
  where
    whole : (o : Owner) → t.owner ≡ o → is_among (record { owner = o; routine = t.routine }) (texts g) ≡ true → is_among t (texts g) ≡ true
    whole o e h = subst (λ y. is_among (record { owner = y; routine = t.routine }) (texts g) ≡ true) (sym e) h

    in_process : (k : ℕ) (p : Option Process) → slice_get (processes g) k ≡ p → routine_of (by_process k) (process_routines p) t.routine.name ≡ Some t → is_among (record { owner = by_process k; routine = t.routine }) (texts g) ≡ true
    in_process k None at h = absurd (none-some t h)
    in_process k (Some p) at h = among_process t.routine.name t.routine p k 0 0 k g.decls at (of_list (by_process k) p.routines t.routine.name t h).1 (from_zero k)

    in_monitor : (k : ℕ) (m : Option Monitor) → slice_get (monitors g) k ≡ m → entry_of k m t.routine.name ≡ Some t → is_among (record { owner = by_monitor k; routine = t.routine }) (texts g) ≡ true
    in_monitor k None at h = absurd (none-some t h)
    in_monitor k (Some m) at h = among_monitor t.routine.name t.routine m k 0 0 k g.decls at (of_list (by_monitor k) m.entries t.routine.name t h).1 (from_zero k)

    by : (o : Owner) → t.owner ≡ o → text_named g t.owner t.routine.name ≡ Some t → is_among t (texts g) ≡ true
    by by_program e h =
        whole by_program e (among_program t.routine.name t.routine 0 0 g.decls (of_list by_program (routines g) t.routine.name t (subst (λ o. text_named g o t.routine.name ≡ Some t) e h)).1)
    by (by_process k) e h = whole (by_process k) e (in_process k (slice_get (processes g) k) refl (subst (λ o. text_named g o t.routine.name ≡ Some t) e h))
    by (by_monitor k) e h = whole (by_monitor k) e (in_monitor k (slice_get (monitors g) k) refl (subst (λ o. text_named g o t.routine.name ≡ Some t) e h))

among_contains : (g : Program) (us : List Text) (t : Text) → AllTexts g us → IsText g t → is_among t us ≡ true → Contains us t
among_contains g [] t all is h = absurd (false≢true h)
among_contains g (u ∷ us) t all is h = by (same_text u t) refl h (λ k. among_contains g us t all.1 is k)
  where
    by : (b : Bool) → same_text u t ≡ b → b || is_among t us ≡ true → (is_among t us ≡ true → Contains us t) → Contains (u ∷ us) t
    by true e h k = subst (Contains (u ∷ us)) (text_same g u t all.0 is e) (at_front u us)
    by false e h k = behind u us t (k h)

contained_text : (g : Program) (us : List Text) (t : Text) → AllTexts g us → Contains us t → IsText g t
contained_text g [] t all h = absurd (none_in t h)
contained_text g (u ∷ us) t all h = by (front_or_behind u us t h) (λ k. contained_text g us t all.1 k)
  where
    by : (u ≡ t) ⊎ Contains us t → (Contains us t → IsText g t) → IsText g t
    by (inl e) k = subst (IsText g) e all.0
    by (inr h) k = k h

module _ (g : Program) (differ : NamesDiffer g) where
  pub text_listed : (t : Text) → IsText g t → Contains (texts g) t
  text_listed t is = among_contains g (texts g) t (program_texts g differ) is (is_among_texts g t is)

  pub listed_text : (t : Text) → Contains (texts g) t → IsText g t
  listed_text t h = contained_text g (texts g) t (program_texts g differ) h

-- ---- how many texts there are

count_texts : (k m : ℕ) (ds : List Declaration) → length (texts_from k m ds) ≡ sum_by routines_in ds
count_texts k m [] = refl
count_texts k m (routine r ∷ ds) = let sum = sum_by-cons routines_in (routine r) ds in let rest = count_texts k m ds in omega arith
count_texts k m (monitor d ∷ ds) =
    let sum = sum_by-cons routines_in (monitor d) ds in
    let both = length-append (texts_of (by_monitor m) d.entries) (texts_from k (suc m) ds) in
    let here : length (texts_of (by_monitor m) d.entries) ≡ length d.entries = length-map d.entries (λ r. record { owner = by_monitor m; routine = r }) in
    let rest = count_texts k (suc m) ds in
    omega arith
count_texts k m (process p ∷ ds) =
    let sum = sum_by-cons routines_in (process p) ds in
    let both = length-append (texts_of (by_process k) p.routines) (texts_from (suc k) m ds) in
    let here : length (texts_of (by_process k) p.routines) ≡ length p.routines = length-map p.routines (λ r. record { owner = by_process k; routine = r }) in
    let rest = count_texts (suc k) m ds in
    omega arith
count_texts k m (constant n c ∷ ds) = let sum = sum_by-cons routines_in (constant n c) ds in let rest = count_texts k m ds in omega arith
count_texts k m (device n b ∷ ds) = let sum = sum_by-cons routines_in (device n b) ds in let rest = count_texts k m ds in omega arith
count_texts k m (event n ∷ ds) = let sum = sum_by-cons routines_in (event n) ds in let rest = count_texts k m ds in omega arith

pub texts_counted : (g : Program) → length (texts g) ≡ routine_count g
texts_counted g = count_texts 0 0 g.decls

-- ---- the law

pub routines_are_numbered : RoutinesAreNumbered
unfolding numbered number_of
routines_are_numbered g level differ levels = record {
  few =
      let le = good.few in
      let most = count_by-le-length (λ (u : Text). is_among u (numbered g)) (texts g) in
      let all = texts_counted g in
      omega arith;
  listed = λ r t e. text_listed g differ t (text_at g (numbered g) r t (numbered_texts g differ) e);
  there = λ t h. there t (listed_text g differ t h);
  once = good.once;
  behind = λ from to h called. (good.behind (number_of g from) from to (there from (listed_text g differ from h)) called).1;
}
  where
    there : (t : Text) → IsText g t → slice_get (numbered g) (number_of g t) ≡ Some t
    there t is = numbered_at g t differ is (is_among_texts g t is)

    good : Good g (numbered g)
    good =
        all_good g differ level (text_listed g differ) (λ t u is called. levels.falls t u (text_listed g differ t is) called) (routine_count g) [] (texts g) (nothing_done g) (program_texts g differ)
        (λ t is. levels.few t (text_listed g differ t is))
