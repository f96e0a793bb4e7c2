-- Lists that are told one after the other: what is there at an index, and what is left behind it.
use Rattle.std.proofs.Common.{◌≡◌, ◌≤◌, ◌<◌, ◌∙◌, sym, ap, subst, refl, ℕ, suc, ◌+◌, ◌++◌, List, [], ◌∷◌, length, map, drop, get_or, arith, append_assoc, append-nil}
use Rattle.std.specs.Borrow.{Bor}
use Rattle.std.proofs.lemmas.List.{at_drop_all, drop-drop, drop_more, map-append}
use Rattle.syntax_tree.specs.Plain.{Name, Process, Program}
use Rattle.syntax_tree.specs.declared.decl.Monitor.{Monitor}
use Rattle.syntax_tree.specs.declared.decl.Process.{Process as Proc}
use Rattle.image.specs.declared.raw.RawMonitor.{RawMonitor}
use Rattle.image.specs.declared.raw.RawProcess.{RawProcess}
use Rattle.image.specs.declared.raw.RawRoutine.{RawRoutine}
use Rattle.image.specs.Raw as raw
use Rattle.machine_semantics.specs.Image as image
use Rattle.code_spec.specs.Layout.{monitor_vars, words_of}
use Rattle.code_names.specs.declared.text.Body as code_text
use Rattle.code_names.specs.Texts.{text_of, texts_of}
use Rattle.code_names.specs.Parts.{monitor_of, process_of, seen_monitors, seen_processes}
use Rattle.code_cost.specs.declared.measure.RoutineMeasure.{RoutineMeasure}
use Rattle.code_cost.specs.declared.program.ProcessMeasure.{ProcessMeasure}
use Rattle.codegen_spec.specs.declared.code.Part.{Part}
use Rattle.codegen_spec.specs.declared.code.ProcessParts.{ProcessParts}
use Rattle.compile_image.specs.Fields.{HaveHandlers, monitors_words}
use Rattle.compile_image.specs.Rows.{FitsRow, FitRows, FitsSize, FitSizes}
use Rattle.compile_image.specs.Told.{monitor_told, monitors_told, routine_told, routines_told, process_told, processes_told}

-- as many processes
pub handlers-long : (ps : List Process) (xs : List ProcessParts) → HaveHandlers ps xs → length xs ≡ length ps
handlers-long [] [] h = refl
handlers-long [] (x ∷ xs) h = absurd h
handlers-long (p ∷ ps) [] h = absurd h
handlers-long (p ∷ ps) (x ∷ xs) h = ap (λ n. suc n) (handlers-long ps xs h.1)

-- ---- one more

-- the list from an index on begins with what is there
pub begins-with : {A : Type 0} (xs : List A) (i : ℕ) (x : A) → i < length xs → x ≡ get_or xs i x → drop i xs ≡ x ∷ drop (i + 1) xs
begins-with xs i x within is = drop_more xs i x within ∙ ap (λ y. y ∷ drop (i + 1) xs) (sym is)

-- one more is told
pub told-more : {A B : Type 0} (f : A → B) (old new : List A) (one : A) (y : B) (left rest all : List B) → map f old ++ left ≡ all → left ≡ y ∷ rest → new ≡ old ++ one ∷ [] → f one ≡ y → map f new ++ rest ≡ all
told-more {A} {B} f old new one y left rest all so_far split put is =
    ap (λ (l : List A). map f l ++ rest) put ∙ ap (λ (l : List B). l ++ rest) (map-append f old (one ∷ [])) ∙ append_assoc (map f old) (f one ∷ []) rest
    ∙ ap (λ (z : B). map f old ++ z ∷ rest) is ∙ ap (λ (l : List B). map f old ++ l) (sym split) ∙ so_far

-- nothing is left
pub told-all : {A B : Type 0} (told : List A → List B) (xs : List A) (i : ℕ) (ys all : List B) → told [] ≡ [] → length xs ≤ i → ys ++ told (drop i xs) ≡ all → ys ≡ all
told-all {A} {B} told xs i ys all none past so_far = sym (append-nil ys) ∙ ap (λ (zs : List B). ys ++ zs) (sym (at_drop_all told xs i past ∙ none)) ∙ so_far

-- ---- monitors

module _ (g : Program) (ms : List (Bor Monitor)) (i : ℕ) (m : Bor Monitor) (within : i < length ms) (is : m ≡ get_or ms i m) where
  words-split : monitors_words g (seen_monitors (drop i ms)) ≡ words_of g (monitor_vars (monitor_of m)) + monitors_words g (seen_monitors (drop (i + 1) ms))
  words-split = ap (λ l. monitors_words g (seen_monitors l)) (begins-with ms i m within is)

  pub monitor-fits : (base : ℕ) → base + monitors_words g (seen_monitors (drop i ms)) ≡ monitors_words g (seen_monitors ms) → monitors_words g (seen_monitors ms) ≤ 1048576
      → base + words_of g (monitor_vars (monitor_of m)) ≤ 1048576
  monitor-fits base so_far low = omega (arith, words-split, so_far, low)

  pub words-more : (base words : ℕ) → base + monitors_words g (seen_monitors (drop i ms)) ≡ monitors_words g (seen_monitors ms) → words ≡ words_of g (monitor_vars (monitor_of m))
      → base + words + monitors_words g (seen_monitors (drop (i + 1) ms)) ≡ monitors_words g (seen_monitors ms)
  words-more base words so_far told = omega (arith, words-split, so_far, told)

  pub monitors-more : (base : ℕ) (old new : List RawMonitor) (one : RawMonitor) (all : List image.Monitor) → map raw.monitor_of old ++ monitors_told g base (seen_monitors (drop i ms)) ≡ all → new ≡ old ++ one ∷ []
      → raw.monitor_of one ≡ monitor_told g base (monitor_of m) → one.words ≡ words_of g (monitor_vars (monitor_of m))
      → map raw.monitor_of new ++ monitors_told g (base + one.words) (seen_monitors (drop (i + 1) ms)) ≡ all
  monitors-more base old new one all so_far put told words =
      ap (λ n. map raw.monitor_of new ++ monitors_told g (base + n) (seen_monitors (drop (i + 1) ms))) words
      ∙ told-more raw.monitor_of old new one (monitor_told g base (monitor_of m)) (monitors_told g base (seen_monitors (drop i ms)))
      (monitors_told g (base + words_of g (monitor_vars (monitor_of m))) (seen_monitors (drop (i + 1) ms))) all so_far
      (ap (λ l. monitors_told g base (seen_monitors l)) (begins-with ms i m within is)) put told

-- ---- texts, parts and rows

module _ (ts us : List code_text.Body) (xs ys : List Part) (rows more : List RoutineMeasure) (t : code_text.Body) (x : Part) (row : RoutineMeasure) (a : ts ≡ t ∷ us) (b : xs ≡ x ∷ ys) (c : rows ≡ row ∷ more) where
  pub rows-split : FitRows (texts_of ts) xs rows → FitsRow (text_of t) x row × FitRows (texts_of us) ys more
  rows-split h = subst (λ z. FitRows (texts_of z) (x ∷ ys) (row ∷ more)) a (subst (λ z. FitRows (texts_of ts) z (row ∷ more)) b (subst (λ z. FitRows (texts_of ts) xs z) c h))

  pub routines-split : routines_told (texts_of ts) xs rows ≡ routine_told (text_of t) x row ∷ routines_told (texts_of us) ys more
  routines-split = ap (λ z. routines_told (texts_of ts) xs z) c ∙ ap (λ z. routines_told (texts_of ts) z (row ∷ more)) b ∙ ap (λ z. routines_told (texts_of z) (x ∷ ys) (row ∷ more)) a

-- what is left behind the first
rows-behind : (ts : List code_text.Body) (xs : List Part) (rows : List RoutineMeasure) → FitRows (texts_of ts) xs rows → FitRows (texts_of (drop 1 ts)) (drop 1 xs) (drop 1 rows)
rows-behind [] [] [] h = tt
rows-behind [] [] (k ∷ ks) h = absurd h
rows-behind [] (x ∷ xs) rows h = absurd h
rows-behind (t ∷ ts) [] rows h = absurd h
rows-behind (t ∷ ts) (x ∷ xs) [] h = absurd h
rows-behind (t ∷ ts) (x ∷ xs) (k ∷ ks) h = h.1

pub rows-left : (ts : List code_text.Body) (xs : List Part) (rows : List RoutineMeasure) (n : ℕ) → FitRows (texts_of (drop n ts)) (drop n xs) (drop n rows)
    → FitRows (texts_of (drop (n + 1) ts)) (drop (n + 1) xs) (drop (n + 1) rows)
rows-left ts xs rows n h =
    subst (λ z. FitRows (texts_of (drop (n + 1) ts)) (drop (n + 1) xs) z) (drop-drop 1 n rows)
    (subst (λ z. FitRows (texts_of (drop (n + 1) ts)) z (drop 1 (drop n rows))) (drop-drop 1 n xs)
    (subst (λ z. FitRows (texts_of z) (drop 1 (drop n xs)) (drop 1 (drop n rows))) (drop-drop 1 n ts) (rows-behind (drop n ts) (drop n xs) (drop n rows) h)))

-- those at an index: of rows at any default, of texts and parts what is read there
module _ (ts : List code_text.Body) (xs : List Part) (rows : List RoutineMeasure) (n : ℕ) (t : code_text.Body) (x : Part) (e : RoutineMeasure) (a : n < length ts) (b : n < length xs) (c : n < length rows) (text-is : t ≡ get_or ts n t) (part-is : x ≡ get_or xs n x) where
  pub row-at : FitRows (texts_of (drop n ts)) (drop n xs) (drop n rows) → FitsRow (text_of t) x (get_or rows n e)
  row-at h =
      let both : FitsRow (text_of t) x (get_or rows n e) × FitRows (texts_of (drop (n + 1) ts)) (drop (n + 1) xs) (drop (n + 1) rows) =
      rows-split (drop n ts) (drop (n + 1) ts) (drop n xs) (drop (n + 1) xs) (drop n rows) (drop (n + 1) rows) t x (get_or rows n e) (begins-with ts n t a text-is) (begins-with xs n x b part-is) (drop_more rows n e c) h in
      both.0

  pub routines-more : (old new : List RawRoutine) (one : RawRoutine) (all : List image.Routine) → map raw.routine_of old ++ routines_told (texts_of (drop n ts)) (drop n xs) (drop n rows) ≡ all → new ≡ old ++ one ∷ []
      → raw.routine_of one ≡ routine_told (text_of t) x (get_or rows n e) → map raw.routine_of new ++ routines_told (texts_of (drop (n + 1) ts)) (drop (n + 1) xs) (drop (n + 1) rows) ≡ all
  routines-more old new one all so_far put told =
      told-more raw.routine_of old new one (routine_told (text_of t) x (get_or rows n e)) (routines_told (texts_of (drop n ts)) (drop n xs) (drop n rows))
      (routines_told (texts_of (drop (n + 1) ts)) (drop (n + 1) xs) (drop (n + 1) rows)) all so_far
      (routines-split (drop n ts) (drop (n + 1) ts) (drop n xs) (drop (n + 1) xs) (drop n rows) (drop (n + 1) rows) t x (get_or rows n e) (begins-with ts n t a text-is) (begins-with xs n x b part-is) (drop_more rows n e c)) put told

-- ---- processes, parts and sizes

module _ (g : Program) (ps qs : List (Bor Proc)) (xs ys : List ProcessParts) (sizes more : List ProcessMeasure) (p : Bor Proc) (x : ProcessParts) (size : ProcessMeasure) (a : ps ≡ p ∷ qs) (b : xs ≡ x ∷ ys) (c : sizes ≡ size ∷ more) where
  pub sizes-split : FitSizes g (seen_processes ps) xs sizes → FitsSize g (process_of p) x size × FitSizes g (seen_processes qs) ys more
  sizes-split h = subst (λ z. FitSizes g (seen_processes z) (x ∷ ys) (size ∷ more)) a (subst (λ z. FitSizes g (seen_processes ps) z (size ∷ more)) b (subst (λ z. FitSizes g (seen_processes ps) xs z) c h))

  pub processes-split : (events : List Name) (over : ℕ) → processes_told g events over (seen_processes ps) xs sizes ≡ process_told g events over (process_of p) x size ∷ processes_told g events over (seen_processes qs) ys more
  processes-split events over =
      ap (λ z. processes_told g events over (seen_processes ps) xs z) c ∙ ap (λ z. processes_told g events over (seen_processes ps) z (size ∷ more)) b
      ∙ ap (λ z. processes_told g events over (seen_processes z) (x ∷ ys) (size ∷ more)) a

sizes-behind : (g : Program) (ps : List (Bor Proc)) (xs : List ProcessParts) (sizes : List ProcessMeasure) → FitSizes g (seen_processes ps) xs sizes → FitSizes g (seen_processes (drop 1 ps)) (drop 1 xs) (drop 1 sizes)
sizes-behind g [] [] [] h = tt
sizes-behind g [] [] (s ∷ ss) h = absurd h
sizes-behind g [] (x ∷ xs) sizes h = absurd h
sizes-behind g (p ∷ ps) [] sizes h = absurd h
sizes-behind g (p ∷ ps) (x ∷ xs) [] h = absurd h
sizes-behind g (p ∷ ps) (x ∷ xs) (s ∷ ss) h = h.1

pub sizes-left : (g : Program) (ps : List (Bor Proc)) (xs : List ProcessParts) (sizes : List ProcessMeasure) (n : ℕ) → FitSizes g (seen_processes (drop n ps)) (drop n xs) (drop n sizes)
    → FitSizes g (seen_processes (drop (n + 1) ps)) (drop (n + 1) xs) (drop (n + 1) sizes)
sizes-left g ps xs sizes n h =
    subst (λ z. FitSizes g (seen_processes (drop (n + 1) ps)) (drop (n + 1) xs) z) (drop-drop 1 n sizes)
    (subst (λ z. FitSizes g (seen_processes (drop (n + 1) ps)) z (drop 1 (drop n sizes))) (drop-drop 1 n xs)
    (subst (λ z. FitSizes g (seen_processes z) (drop 1 (drop n xs)) (drop 1 (drop n sizes))) (drop-drop 1 n ps) (sizes-behind g (drop n ps) (drop n xs) (drop n sizes) h)))

module _ (g : Program) (ps : List (Bor Proc)) (xs : List ProcessParts) (sizes : List ProcessMeasure) (n : ℕ) (p : Bor Proc) (x : ProcessParts) (e : ProcessMeasure) (a : n < length ps) (b : n < length xs) (c : n < length sizes) (process-is : p ≡ get_or ps n p) (part-is : x ≡ get_or xs n x) where
  pub size-at : FitSizes g (seen_processes (drop n ps)) (drop n xs) (drop n sizes) → FitsSize g (process_of p) x (get_or sizes n e)
  size-at h =
      let both : FitsSize g (process_of p) x (get_or sizes n e) × FitSizes g (seen_processes (drop (n + 1) ps)) (drop (n + 1) xs) (drop (n + 1) sizes) =
      sizes-split g (drop n ps) (drop (n + 1) ps) (drop n xs) (drop (n + 1) xs) (drop n sizes) (drop (n + 1) sizes) p x (get_or sizes n e) (begins-with ps n p a process-is) (begins-with xs n x b part-is) (drop_more sizes n e c) h in
      both.0

  pub processes-more : (events : List Name) (over : ℕ) (old new : List RawProcess) (one : RawProcess) (all : List image.Process)
      → map raw.process_of old ++ processes_told g events over (seen_processes (drop n ps)) (drop n xs) (drop n sizes) ≡ all → new ≡ old ++ one ∷ []
      → raw.process_of one ≡ process_told g events over (process_of p) x (get_or sizes n e)
      → map raw.process_of new ++ processes_told g events over (seen_processes (drop (n + 1) ps)) (drop (n + 1) xs) (drop (n + 1) sizes) ≡ all
  processes-more events over old new one all so_far put told =
      told-more raw.process_of old new one (process_told g events over (process_of p) x (get_or sizes n e)) (processes_told g events over (seen_processes (drop n ps)) (drop n xs) (drop n sizes))
      (processes_told g events over (seen_processes (drop (n + 1) ps)) (drop (n + 1) xs) (drop (n + 1) sizes)) all so_far
      (processes-split g (drop n ps) (drop (n + 1) ps) (drop n xs) (drop (n + 1) xs) (drop n sizes) (drop (n + 1) sizes) p x (get_or sizes n e) (begins-with ps n p a process-is) (begins-with xs n x b part-is) (drop_more sizes n e c) events over)
      put told
