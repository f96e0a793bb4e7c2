-- The entries of a table's program are those that have a number.
use Rattle.std.proofs.Common.{◌≡◌, ◌≤◌, ◌+◌, inl, inr, ℕ, zero, suc, Bool, true, false, cond, nat_eq, bytes_eq, codes, decimal, List, [], ◌∷◌, ◌++◌, Option, Some, None, map, refl, ap, sym, ◌∙◌, subst, append_assoc, arith}
use Rattle.std.specs.Prelude.{flat_map}
use Rattle.std.proofs.lemmas.Bool.{eqb-true, and_parts, or_cases}
use Rattle.std.proofs.lemmas.Fmt.{decimal_injective}
use Rattle.std.proofs.lemmas.List.{append_cancel_left, append_cancel_right}
use Rattle.syntax_tree.specs.Plain.{Name, Program}
use Rattle.syntax_tree.specs.Plain as plain_of
use Rattle.syntax_tree.specs.Placed.{Decl, monitor, process, plain, plain_decl, plain_monitor, plain_routine}
use Rattle.source_semantics.specs.Names.{place_of, monitor_number, routine_count}
use Rattle.code_spec.specs.Layout.{by_monitor}
use Rattle.code_spec.specs.Numbering.{Text, called_text, routine_calls, same_text, is_among, visit_all, visit, visit_texts, texts_of, texts_from, numbered}
use Rattle.table_format.specs.declared.table.TaskLine.{TaskLine}
use Rattle.table_format.specs.declared.table.TaskTable.{TaskTable}
use Rattle.table_format.specs.Rules as of_table
use Rattle.table_format.specs.Spending.{Nowhere}
use Rattle.table_format.specs.Program.{stay_name, stay_entry, stays_in, table_monitor, table_process, event_of, program_with}
use Rattle.table_law.proofs.Lists.{Every, both, every_map, weaker}
use Rattle.table_law.proofs.Few.{same_is, same_self}
use Rattle.table_law.proofs.Fits.{TicksFit, TableFits, stays_in_fit}
use Rattle.table_law.proofs.Members.{Elem, elem_left, elem_right, elem_map, elem_of}
use Rattle.table_law.proofs.Parts.{monitors_are}
use Rattle.table_law.proofs.Calls.{entry_calls}

abbrev pub entry_text : (tail : Name) → (number ticks : ℕ) → Text
entry_text tail number ticks = record { owner = by_monitor number; routine = plain_routine (stay_entry tail ticks) }

-- an entry of a table in a monitor
pub record IsEntryText (tail : Name) (x : Text) : Type 0 where
  pub number : ℕ
  pub ticks : ℕ
  pub fits : TicksFit ticks
  pub is : x ≡ entry_text tail number ticks

-- ---- entries of one monitor and one name

pub same_stay : (tail : Name) (n m : ℕ) → TicksFit n → TicksFit m → stay_name n ++ tail ≡ stay_name m ++ tail → n ≡ m
same_stay tail n m fit also same =
    decimal_injective n m (omega (arith, fit.few)) (omega (arith, also.few))
    (append_cancel_left (codes "stay") (decimal n) (decimal m) (append_cancel_right (stay_name n) (stay_name m) tail same))

pub same_entry : (tail : Name) (a b n m : ℕ) → TicksFit n → TicksFit m → same_text (entry_text tail a n) (entry_text tail b m) ≡ true → entry_text tail a n ≡ entry_text tail b m
same_entry tail a b n m fit also same =
    let parts = and_parts (nat_eq a b) (bytes_eq (stay_name n ++ tail) (stay_name m ++ tail)) same in
    ap (λ k. entry_text tail k n) (eqb-true a b parts.0) ∙ ap (λ k. entry_text tail b k) (same_stay tail n m fit also (same_is (stay_name n ++ tail) (stay_name m ++ tail) parts.1))

pub same_texts : (tail : Name) (x y : Text) → IsEntryText tail x → IsEntryText tail y → same_text x y ≡ true → x ≡ y
same_texts tail x y one other same =
    let here : same_text (entry_text tail one.number one.ticks) (entry_text tail other.number other.ticks) ≡ true =
    ap (λ z. same_text z (entry_text tail other.number other.ticks)) (sym one.is) ∙ (ap (λ z. same_text x z) (sym other.is) ∙ same) in
    one.is ∙ (same_entry tail one.number other.number one.ticks other.ticks one.fits other.fits here ∙ sym other.is)

-- ---- numbers

module _ (tail : Name) (g : Program) where
  no_calls : (x : Text) → IsEntryText tail x → routine_calls x.routine ≡ []
  no_calls x is = ap (λ y. routine_calls y.routine) is.is ∙ entry_calls tail is.ticks is.fits

  among : (x : Text) (done : List Text) → IsEntryText tail x → Every (IsEntryText tail) done → is_among x done ≡ true → Elem x done
  among x [] is are there = absurd cc
  among x (y ∷ done) is are there = elim (or_cases (same_text y x) (is_among x done) there) [
    | inl here ↦ inl (sym (same_texts tail y x are.0 is here))
    | inr later ↦ inr (among x done is are.1 later)
  ]

  visited : (n : ℕ) (done : List Text) (x : Text) → IsEntryText tail x → visit (suc n) g done x ≡ cond (is_among x done) done (done ++ x ∷ [])
  unfolding visit
  visited n done x is = ap (λ cs. cond (is_among x done) done (visit_all (visit n g) (called_text g x.owner) done cs ++ x ∷ [])) (no_calls x is)

  one_more : (n : ℕ) (done : List Text) (x : Text) → IsEntryText tail x → Every (IsEntryText tail) done → Every (IsEntryText tail) (visit n g done x)
  unfolding visit
  one_more zero done x is are = are
  one_more (suc n) done x is are = subst (Every (IsEntryText tail)) (sym (visited n done x is)) (by (is_among x done)) where
    by : (b : Bool) → Every (IsEntryText tail) (cond b done (done ++ x ∷ []))
    by true = are
    by false = both (IsEntryText tail) done (x ∷ []) are (is, tt)

  still : (n : ℕ) (done : List Text) (x y : Text) → IsEntryText tail x → Elem y done → Elem y (visit (suc n) g done x)
  still n done x y is e = subst (Elem y) (sym (visited n done x is)) (by (is_among x done)) where
    by : (b : Bool) → Elem y (cond b done (done ++ x ∷ []))
    by true = e
    by false = elem_left y done (x ∷ []) e

  taken : (n : ℕ) (done : List Text) (x : Text) → IsEntryText tail x → Every (IsEntryText tail) done → Elem x (visit (suc n) g done x)
  taken n done x is are = subst (Elem x) (sym (visited n done x is)) (by (is_among x done) refl) where
    by : (b : Bool) → is_among x done ≡ b → Elem x (cond b done (done ++ x ∷ []))
    by true there = among x done is are there
    by false there = elem_right x done (x ∷ []) (inl refl)

  all_more : (n : ℕ) (xs done : List Text) → Every (IsEntryText tail) xs → Every (IsEntryText tail) done → Every (IsEntryText tail) (visit_texts n g done xs)
  all_more n [] done all are = are
  all_more n (x ∷ xs) done all are = all_more n xs (visit n g done x) all.1 (one_more n done x all.0 are)

  all_still : (n : ℕ) (xs done : List Text) (y : Text) → Every (IsEntryText tail) xs → Elem y done → Elem y (visit_texts (suc n) g done xs)
  all_still n [] done y all e = e
  all_still n (x ∷ xs) done y all e = all_still n xs (visit (suc n) g done x) y all.1 (still n done x y all.0 e)

  all_taken : (n : ℕ) (xs done : List Text) (y : Text) → Every (IsEntryText tail) xs → Every (IsEntryText tail) done → Elem y xs → Elem y (visit_texts (suc n) g done xs)
  all_taken n [] done y all are e = absurd e
  all_taken n (x ∷ xs) done y all are (inl is) =
      all_still n xs (visit (suc n) g done x) y all.1 (subst (λ z. Elem z (visit (suc n) g done x)) (sym is) (taken n done x all.0 are))
  all_taken n (x ∷ xs) done y all are (inr e) = all_taken n xs (visit (suc n) g done x) y all.1 (one_more (suc n) done x all.0 are) e

-- ---- the texts of the program

names_are : (tail : Name) (t : TaskTable) (names : List Name) → map (λ m. m.name) (map plain_monitor (map (table_monitor tail t) names)) ≡ names
names_are tail t [] = refl
names_are tail t (n ∷ names) = ap (λ (ns : List Name). n ∷ ns) (names_are tail t names)

module _ (tail : Name) (t : TaskTable) where
  abbrev program : Program
  program = plain (program_with tail t)

  pub number_is : (name : Name) → monitor_number program name ≡ place_of name (of_table.monitors t)
  number_is name =
      ap (λ (ms : List plain_of.Monitor). place_of name (map (λ m. m.name) ms)) (monitors_are tail t) ∙ ap (λ ns. place_of name ns) (names_are tail t (of_table.monitors t))

  -- the entries of monitors, which count from this number on
  abbrev entries_from : (m : ℕ) → List Name → List Text
  entries_from m [] = []
  entries_from m (name ∷ names) = map (entry_text tail m) (stays_in t name) ++ entries_from (suc m) names

  of_monitor : (m : ℕ) (ticks : List ℕ) → texts_of (by_monitor m) (map plain_routine (map (stay_entry tail) ticks)) ≡ map (entry_text tail m) ticks
  of_monitor m [] = refl
  of_monitor m (n ∷ ns) = ap (λ (xs : List Text). entry_text tail m n ∷ xs) (of_monitor m ns)

  of_processes : (k m : ℕ) (ps : List TaskLine) → texts_from k m (map plain_decl (map (λ p. process (table_process tail p)) ps)) ≡ []
  of_processes k m [] = refl
  of_processes k m (p ∷ ps) = of_processes (suc k) m ps

  of_monitors : (m : ℕ) (names : List Name) (ps : List TaskLine)
      → texts_from 0 m (map plain_decl (map (λ name. monitor (table_monitor tail t name)) names ++ map (λ p. process (table_process tail p)) ps)) ≡ entries_from m names
  of_monitors m [] ps = of_processes 0 m ps
  of_monitors m (name ∷ names) ps =
      ap (λ (xs : List Text). xs ++ texts_from 0 (suc m) (map plain_decl (map (λ n. monitor (table_monitor tail t n)) names ++ map (λ p. process (table_process tail p)) ps))) (of_monitor m (stays_in t name))
      ∙ ap (λ (xs : List Text). map (entry_text tail m) (stays_in t name) ++ xs) (of_monitors (suc m) names ps)

  of_event : (o : Option Name) (ds : List (Decl Nowhere)) → texts_from 0 0 (map plain_decl (event_of o ++ ds)) ≡ texts_from 0 0 (map plain_decl ds)
  of_event None ds = refl
  of_event (Some e) ds = refl

  of_events : (ps : List TaskLine) (ds : List (Decl Nowhere)) → texts_from 0 0 (map plain_decl (flat_map (λ p. event_of p.event) ps ++ ds)) ≡ texts_from 0 0 (map plain_decl ds)
  of_events [] ds = refl
  of_events (p ∷ ps) ds =
      ap (λ es. texts_from 0 0 (map plain_decl es)) (append_assoc (event_of p.event) (flat_map (λ q. event_of q.event) ps) ds)
      ∙ of_event p.event (flat_map (λ q. event_of q.event) ps ++ ds) ∙ of_events ps ds

  texts_are : texts_from 0 0 program.decls ≡ entries_from 0 (of_table.monitors t)
  texts_are =
      of_events t.tasks (map (λ name. monitor (table_monitor tail t name)) (of_table.monitors t) ++ map (λ p. process (table_process tail p)) t.tasks)
      ∙ of_monitors 0 (of_table.monitors t) t.tasks

  -- ---- each of them is an entry

  module _ (fits : TableFits t) where
    are_entries : (m : ℕ) (names : List Name) → Every (IsEntryText tail) (entries_from m names)
    are_entries m [] = tt
    are_entries m (name ∷ names) =
        both (IsEntryText tail) (map (entry_text tail m) (stays_in t name)) (entries_from (suc m) names)
        (every_map (IsEntryText tail) (entry_text tail m) (stays_in t name)
        (weaker TicksFit (λ n. IsEntryText tail (entry_text tail m n)) (λ n fit. record { number = m; ticks = n; fits = fit; is = refl }) (stays_in t name) (stays_in_fit t fits name)))
        (are_entries (suc m) names)

    all_entries : Every (IsEntryText tail) (texts_from 0 0 program.decls)
    all_entries = subst (Every (IsEntryText tail)) (sym texts_are) (are_entries 0 (of_table.monitors t))

    pub numbered_are_entries : (x : Text) → Elem x (numbered program) → IsEntryText tail x
    unfolding numbered
    numbered_are_entries x e = elem_of (IsEntryText tail) x (numbered program) (all_more tail program (routine_count program) (texts_from 0 0 program.decls) [] all_entries tt) e

    stands : (m : ℕ) (names : List Name) (name : Name) (ticks : ℕ) → Elem name names → Elem ticks (stays_in t name) → Elem (entry_text tail (m + place_of name names) ticks) (entries_from m names)
    stands m [] name ticks e s = absurd e
    stands m (n ∷ names) name ticks e s = by (bytes_eq n name) refl e (λ more. stands (suc m) names name ticks more s) where
      by : (b : Bool) → bytes_eq n name ≡ b → Elem name (n ∷ names)
          → (Elem name names → Elem (entry_text tail (suc m + place_of name names) ticks) (entries_from (suc m) names))
          → Elem (entry_text tail (m + cond b 0 (suc (place_of name names))) ticks) (map (entry_text tail m) (stays_in t n) ++ entries_from (suc m) names)
      by true is e behind =
          let z : m ≡ m + 0 = omega arith in
          subst (λ k. Elem (entry_text tail k ticks) (map (entry_text tail m) (stays_in t n) ++ entries_from (suc m) names)) z
          (elem_left (entry_text tail m ticks) (map (entry_text tail m) (stays_in t n)) (entries_from (suc m) names)
          (elem_map (entry_text tail m) ticks (stays_in t n) (subst (λ a. Elem ticks (stays_in t a)) (sym (same_is n name is)) s)))
      by false is (inl first) behind = absurd (let clash : true ≡ false = sym (same_self n) ∙ (ap (λ a. bytes_eq n a) (sym first) ∙ is) in cc)
      by false is (inr more) behind =
          let z : suc m + place_of name names ≡ m + suc (place_of name names) = omega arith in
          subst (λ k. Elem (entry_text tail k ticks) (map (entry_text tail m) (stays_in t n) ++ entries_from (suc m) names)) z
          (elem_right (entry_text tail (suc m + place_of name names) ticks) (map (entry_text tail m) (stays_in t n)) (entries_from (suc m) names) (behind more))

    -- an entry has a number, where there is a routine
    pub entry_is_numbered : 1 ≤ routine_count program → (name : Name) (ticks : ℕ) → Elem name (of_table.monitors t) → Elem ticks (stays_in t name)
        → Elem (entry_text tail (monitor_number program name) ticks) (numbered program)
    unfolding numbered
    entry_is_numbered some name ticks e s = by (routine_count program) some where
      here : Elem (entry_text tail (monitor_number program name) ticks) (texts_from 0 0 program.decls)
      here =
          let z : 0 + place_of name (of_table.monitors t) ≡ monitor_number program name = (let n : 0 + place_of name (of_table.monitors t) ≡ place_of name (of_table.monitors t) = omega arith in n ∙ sym (number_is name)) in
          subst (Elem (entry_text tail (monitor_number program name) ticks)) (sym texts_are)
          (subst (λ k. Elem (entry_text tail k ticks) (entries_from 0 (of_table.monitors t))) z (stands 0 (of_table.monitors t) name ticks e s))

      by : (n : ℕ) → 1 ≤ n → Elem (entry_text tail (monitor_number program name) ticks) (visit_texts n program [] (texts_from 0 0 program.decls))
      by zero one = absurd (omega (arith, one))
      by (suc n) one = all_taken tail program n (texts_from 0 0 program.decls) [] (entry_text tail (monitor_number program name) ticks) all_entries tt here
