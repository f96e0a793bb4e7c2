-- The code of each process of a well-formed program is faithful.
use Rattle.std.specs.Prelude.{◌≡◌, ◌<◌, ◌⊎◌, ◌||◌, ◌&&◌, ℕ, Bool, true, false, not, List, [], ◌∷◌, ◌++◌, Option, Some, None, slice_get, option_map, is_some, nat_eq}
use Rattle.std.proofs.Common.{refl, sym, ◌∙◌, ap, subst, inl, inr}
use Rattle.std.proofs.lemmas.Bool.{eq-eqb, or_cases, false≢true}
use Rattle.std.proofs.lemmas.Option.{none-some, same_Some}
use Rattle.base.proofs.Lists.{one_of}
use Rattle.syntax_tree.specs.Plain.{Name, Answers, Routine, Monitor, Handler, Stmts, Process, Program}
use Rattle.source_semantics.specs.Names.{named, routines, monitors, processes, monitor_number, condition_number, routine_count}
use Rattle.source_semantics.specs.Run.{Found, of_program, of_process, of_monitor, routine_named, entry_name, or_else}
use Rattle.source_semantics.specs.Nesting.{Levels}
use Rattle.source_semantics.specs.Ranks.{uses_all, reached, monitors_of, includes, handler_body}
use Rattle.code_spec.specs.Layout.{Owner, by_program, by_process, by_monitor, home_of}
use Rattle.code_spec.specs.Numbering.{Text, routine_in, entry_of, routine_calls, stmts_calls}
use Rattle.code_spec.specs.Compiled.{routine_scope, process_scope, is_function, IsCodeOf}
use Rattle.code_spec.specs.Memory.{Setting}
use Rattle.code_spec.specs.Proper.{found_of, IsMine, Entry, Reaches, ProperAll}
use Rattle.code_correct.specs.Known.{IsProper}
use Rattle.code_spec.specs.Boundary.{Compiled}
use Rattle.code_correct.specs.Process.{setting_of, ProperHandler}
use Rattle.code_correct.proofs.FaithfulLemmas.{emitted_is_faithful}
use Rattle.code_correct.specs.Kept.{KeepsRules}
use Rattle.codegen_law.proofs.NameNumbers.{found_there, monitor_there, of_list, or_true}
use Rattle.code_correct.proofs.Emitted.{code_is_emitted}
use Rattle.static_semantics.specs.Here.{Here, own_of, is_function_at, in_routine, in_process}
use Rattle.static_semantics.specs.Statements.{AllFit}
use Rattle.static_semantics.specs.WellFormed.{IsWellFormed, RoutineFits, AnswersFit, ProcessFits, OptionalFits}
use Rattle.codegen_law.specs.Ruled.{all_in, runs_of, NamesApart}
use Rattle.code_correct.specs.Ruled.{ProgramIsFaithful}
use Rattle.codegen_law.proofs.Mirror.{here_of, OwnerKnown, routine_at}
use Rattle.codegen_law.proofs.RuledTexts.{AgreeAll, Whole, Place, UsesIn, stmts_proper}
use Rattle.codegen_law.proofs.Rules.{stmts_below, stmts_quiet, process_agrees, all_agree, program_all_agree, not_monitor, program_no_monitor, monitor_same, answers_below, run_uses, function_runs}
use Rattle.code_correct.proofs.Rules.{routine_proper}
use Rattle.codegen_law.proofs.Tables.{monitor_row, condition_row}
use Rattle.codegen_law.proofs.Turns.{turns_count}
use Rattle.codegen_law.proofs.Rows.{not_process}

-- ---- numbers among numbers

includes_front : (k : ℕ) (xs ys : List ℕ) → includes k xs ≡ true → includes k (xs ++ ys) ≡ true
includes_front k [] ys h = absurd (false≢true h)
includes_front k (x ∷ xs) ys h = by_either (or_cases (nat_eq x k) (includes k xs) h) (λ e. includes_front k xs ys e)
  where
    by_either : (nat_eq x k ≡ true) ⊎ (includes k xs ≡ true) → (includes k xs ≡ true → includes k (xs ++ ys) ≡ true) → nat_eq x k || includes k (xs ++ ys) ≡ true
    by_either (inl e) l = ap (λ b. b || includes k (xs ++ ys)) e
    by_either (inr e) l = ap (λ b. nat_eq x k || b) (l e) ∙ or_true (nat_eq x k)

includes_back : (k : ℕ) (xs ys : List ℕ) → includes k ys ≡ true → includes k (xs ++ ys) ≡ true
includes_back k [] ys h = h
includes_back k (x ∷ xs) ys h = ap (λ b. nat_eq x k || b) (includes_back k xs ys h) ∙ or_true (nat_eq x k)

all_within : (xs ms : List ℕ) → ((k : ℕ) → includes k xs ≡ true → includes k ms ≡ true) → all_in xs ms ≡ true
all_within [] ms h = refl
all_within (x ∷ xs) ms h =
    ap (λ b. b && all_in xs ms) (h x (ap (λ b. b || includes x xs) (eq-eqb x x refl)))
    ∙ all_within xs ms (λ k e. h k (ap (λ b. nat_eq x k || b) e ∙ or_true (nat_eq x k)))

-- ---- what is found fits

same_function : (o : Owner) (r : Routine) → is_function_at (home_of o) r ≡ is_function o r.answers
same_function by_program r = refl
same_function (by_process k) r = refl
same_function (by_monitor m) r = refl

abbrev here_with : Program → Process → Owner → Bool → Routine → Here
here_with g p o b r = record { program = g; process = p; home = home_of o; is_function = b; turns = []; own = own_of r }

module _ (g : Program) (p : Process) (fits : ProcessFits g p) where
  found_fits : (f : Name) (x : Found) → routine_named g p f ≡ Some x
      → RoutineFits g p x.home x.routine × (((x.home ≡ of_process) × (named entry_name f p.routines ≡ Some x.routine)) ⊎ ((x.home ≡ of_program) × (named entry_name f (routines g) ≡ Some x.routine)))
  found_fits f x is = by_found (named entry_name f p.routines) (named entry_name f (routines g)) refl refl is
    where
      same : (a : Found) → Some a ≡ Some x → a ≡ x
      same a h = same_Some a x h

      by_found : (a b : Option Routine) → named entry_name f p.routines ≡ a → named entry_name f (routines g) ≡ b → or_else (option_map (λ r. record { home = of_process; routine = r }) a) (option_map (λ r. record { home = of_program; routine = r }) b) ≡ Some x
          → RoutineFits g p x.home x.routine × (((x.home ≡ of_process) × (named entry_name f p.routines ≡ Some x.routine)) ⊎ ((x.home ≡ of_program) × (named entry_name f (routines g) ≡ Some x.routine)))
      by_found (Some r) b ea eb h = (
        subst (λ y. RoutineFits g p y.home y.routine) (same (record { home = of_process; routine = r }) h) (one_of (λ y. RoutineFits g p of_process y) p.routines (found_there f p.routines r ea).0 r fits.own (found_there f p.routines r ea).1),
        inl (ap (λ y. y.home) (sym (same (record { home = of_process; routine = r }) h)), ea ∙ ap (λ y. Some y.routine) (same (record { home = of_process; routine = r }) h)),
      )
      by_found None (Some r) ea eb h = (
        subst (λ y. RoutineFits g p y.home y.routine) (same (record { home = of_program; routine = r }) h) (one_of (λ y. RoutineFits g p of_program y) (routines g) (found_there f (routines g) r eb).0 r fits.shared (found_there f (routines g) r eb).1),
        inr (ap (λ y. y.home) (sym (same (record { home = of_program; routine = r }) h)), eb ∙ ap (λ y. Some y.routine) (same (record { home = of_program; routine = r }) h)),
      )
      by_found None None ea eb h = absurd (none-some x h)

not_function : (an : Option Answers) (a : Answers) → an ≡ Some a → not (is_some an) ≡ false
not_function an a e = ap (λ y. not (is_some y)) e

module _ (c : Compiled) (form : IsWellFormed c.program) (names : NamesApart c.program) (code : IsCodeOf c.program c.image) (at : slice_get (processes c.program) c.number ≡ Some c.text) (ip : slice_get c.image.processes c.number ≡ Some c.process) where
  pub fits : ProcessFits c.program c.text
  fits = one_of (λ p. ProcessFits c.program p) (processes c.program) c.number c.text form.processes_fit at

  levels : Levels c.program c.text fits.levels.0
  levels = fits.levels.1

  whole : Whole (setting_of c (record { level = fits.levels.0; runs = runs_of c.program c.text }))
  whole = record {
    at = at;
    functions = λ f x a is an. by_home f x a is an (found_fits c.program c.text fits f x is).1 (found_fits c.program c.text fits f x is).0;
    runs = λ f. refl;
    monitor_rows = λ m k there. monitor_row c.program 0 (monitors c.program) c.image.monitors m k code.monitor_words there;
    condition_rows = λ m k x there has. ap (λ cs. slice_get cs (condition_number c.program m x)) code.condition_table ∙ condition_row x k (monitors c.program) m there has;
    turns = λ low high t. turns_count c.program low high t;
  }
    where
      by_home : (f : Name) (x : Found) (a : Answers) → routine_named c.program c.text f ≡ Some x → x.routine.answers ≡ Some a
          → ((x.home ≡ of_process) × (named entry_name f c.text.routines ≡ Some x.routine)) ⊎ ((x.home ≡ of_program) × (named entry_name f (routines c.program) ≡ Some x.routine)) → RoutineFits c.program c.text x.home x.routine
          → runs_of c.program c.text f ≡ true
      by_home f x a is an (inl h) fit =
          function_runs (setting_of c (record { level = fits.levels.0; runs = runs_of c.program c.text })) f x (in_routine c.program c.text of_process x.routine) is (not_function x.routine.answers a an)
          (subst (λ y. AllFit (in_routine c.program c.text y x.routine) x.routine.body) h.0 fit.body)
      by_home f x a is an (inr h) fit =
          function_runs (setting_of c (record { level = fits.levels.0; runs = runs_of c.program c.text })) f x (in_routine c.program c.text of_program x.routine) is (not_function x.routine.answers a an)
          (subst (λ y. AllFit (in_routine c.program c.text y x.routine) x.routine.body) h.0 fit.body)

  abbrev e : Setting
  e = setting_of c (record { level = fits.levels.0; runs = runs_of c.program c.text })

  few : (f : Name) (x : Found) → routine_named c.program c.text f ≡ Some x → fits.levels.0 f < routine_count c.program
  few f x is = levels.few f x is

  -- the process's own text
  own_place : Place (setting_of c (record { level = fits.levels.0; runs = runs_of c.program c.text })) (process_scope c.program c.number c.text) [] []
  own_place = record { owner = refl; own = tt; inside = λ m h. absurd (not_monitor c.number m h) }

  own_proper : (ss : Stmts) → AllFit (in_process c.program c.text) ss → UsesIn e (uses_all c.program (reached c.program c.text (routine_count c.program)) ss) → ProperAll e (process_scope c.program c.number c.text) (routine_count c.program) ss
  own_proper ss fit used =
      stmts_proper e whole (routine_count c.program) ss (process_scope c.program c.number c.text) [] [] own_place fit (stmts_below fits.levels.0 (routine_count c.program) ss (in_process c.program c.text) few fit)
      (all_agree e (process_scope c.program c.number c.text) (λ f. process_agrees e (process_scope c.program c.number c.text) c.number f refl refl at) (stmts_calls ss)) used

  handler_proper : (h : Option Handler) → OptionalFits c.program c.text h → UsesIn e (uses_all c.program (reached c.program c.text (routine_count c.program)) (handler_body h)) → ProperHandler e h
  handler_proper None fit used = tt
  handler_proper (Some h) fit used = own_proper h.body fit.body used

  -- a routine that the process runs
  routine_keeps : (f : Name) (t : Text) → routine_named c.program c.text f ≡ Some (found_of t) → IsMine e t.owner → runs_of c.program c.text f ≡ true → IsProper e t (fits.levels.0 f)
  routine_keeps f t is mine run =
      let r : RoutineFits c.program c.text (home_of t.owner) t.routine × (((home_of t.owner ≡ of_process) × (named entry_name f c.text.routines ≡ Some t.routine)) ⊎ ((home_of t.owner ≡ of_program) × (named entry_name f (routines c.program) ≡ Some t.routine))) =
      found_fits c.program c.text fits f (found_of t) is in
      routine_proper e whole (fits.levels.0 f) t (record { owner = known t.owner mine; own = routine_at c.program t.routine; inside = λ m h. absurd (no_monitor t.owner m mine h) })
      (subst (λ b. AllFit (here_with c.program c.text t.owner b t.routine) t.routine.body) (same_function t.owner t.routine) r.0.body)
      (subst (λ b. AnswersFit c.program (here_with c.program c.text t.owner b t.routine) t.routine.answers) (same_function t.owner t.routine) r.0.answers)
      (levels.body f (found_of t) is) (levels.answers f (found_of t) is)
      (agrees t.owner refl mine r.1)
      (run_uses e f (found_of t) levels is run)
    where
      known : (o : Owner) → IsMine e o → OwnerKnown e o
      known by_program m = tt
      known (by_process k) m = m
      known (by_monitor k) m = tt

      no_monitor : (o : Owner) (m : ℕ) → IsMine e o → o ≡ by_monitor m → ⊥
      no_monitor by_program m k h = program_no_monitor m h
      no_monitor (by_process j) m k h = not_monitor j m h
      no_monitor (by_monitor j) m k h = k

      agrees : (o : Owner) → t.owner ≡ o → IsMine e o → ((home_of t.owner ≡ of_process) × (named entry_name f c.text.routines ≡ Some t.routine)) ⊎ ((home_of t.owner ≡ of_program) × (named entry_name f (routines c.program) ≡ Some t.routine))
          → AgreeAll e (routine_scope c.program t) (routine_calls t.routine)
      agrees by_program own m (inl h) = absurd (not_process (ap (λ o. home_of o) (sym own) ∙ h.0))
      agrees by_program own m (inr h) =
          program_all_agree e (routine_scope c.program t) (λ k. ap (λ o. routine_in c.program o k) own) (λ k r found. names.apart c.number c.text k r at found) (routine_calls t.routine)
          (names.routine_calls_program (found_there f (routines c.program) t.routine h.1).0 t.routine (found_there f (routines c.program) t.routine h.1).1)
      agrees (by_process k) own m h = all_agree e (routine_scope c.program t) (λ x. process_agrees e (routine_scope c.program t) k x own m at) (routine_calls t.routine)
      agrees (by_monitor k) own m h = absurd m

  -- an entry that the process may call
  entry_keeps : (mon entry : Name) (t : Text) → Entry e mon entry t → IsProper e t (routine_count c.program)
  entry_keeps mon entry t is = by_found (named (λ k. k.name) mon (monitors c.program)) refl is.in_code
    where
      by_found : (d : Option Monitor) → named (λ k. k.name) mon (monitors c.program) ≡ d → entry_of (monitor_number c.program mon) d entry ≡ Some t → IsProper e t (routine_count c.program)
      by_found None there h = absurd (none-some t h)
      by_found (Some d) there h =
          let m : ℕ = monitor_number c.program mon in
          let l : (t.owner ≡ by_monitor (monitor_number c.program mon)) × (named (λ k. k.name) entry d.entries ≡ Some t.routine) = of_list (by_monitor (monitor_number c.program mon)) d.entries entry t h in
          let row : slice_get (monitors c.program) (monitor_number c.program mon) ≡ Some d = monitor_there mon (monitors c.program) d there in
          let place : (j : ℕ) × (slice_get d.entries j ≡ Some t.routine) = found_there entry d.entries t.routine l.1 in
          let fit : RoutineFits c.program c.text (of_monitor (monitor_number c.program mon)) t.routine =
          one_of (λ y. RoutineFits c.program c.text (of_monitor (monitor_number c.program mon)) y) d.entries place.0 t.routine (fits.entries (monitor_number c.program mon) d row) place.1 in
          let body : AllFit (here_of e (routine_scope c.program t) [] (own_of t.routine)) t.routine.body =
          subst (λ o. AllFit (here_with c.program c.text o (is_function o t.routine.answers) t.routine) t.routine.body) (sym l.0) fit.body in
          let answers : AnswersFit c.program (here_of e (routine_scope c.program t) [] (own_of t.routine)) t.routine.answers =
          subst (λ o. AnswersFit c.program (here_with c.program c.text o (is_function o t.routine.answers) t.routine) t.routine.answers) (sym l.0) fit.answers in
          routine_proper e whole (routine_count c.program) t
          (record {
            owner = subst (λ o. OwnerKnown e o) (sym l.0) tt;
            own = routine_at c.program t.routine;
            inside = λ k same. (subst (λ n. Reaches e n) (monitor_same (monitor_number c.program mon) k (sym l.0 ∙ same)) is.reaches, ap (λ o. is_function o t.routine.answers) l.0);
          })
          body answers
          (stmts_below fits.levels.0 (routine_count c.program) t.routine.body (here_of e (routine_scope c.program t) [] (own_of t.routine)) few body)
          (answers_below fits.levels.0 (routine_count c.program) (here_of e (routine_scope c.program t) [] (own_of t.routine)) c.program few t.routine.answers answers)
          (program_all_agree e (routine_scope c.program t) (λ k. ap (λ o. routine_in c.program o k) l.0) (λ k r found. names.apart c.number c.text k r at found) (routine_calls t.routine)
          (names.entry_calls_program (monitor_number c.program mon) d place.0 t.routine row place.1))
          (ap (λ ms. all_in ms (monitors_of c.program c.text))
          (stmts_quiet c.program (reached c.program c.text (routine_count c.program)) t.routine.body (here_with c.program c.text (by_monitor (monitor_number c.program mon)) false t.routine) refl fit.body))

  pub keeps : KeepsRules (setting_of c (record { level = fits.levels.0; runs = runs_of c.program c.text }))
  keeps = record {
    body = own_proper c.text.body fits.body (all_within (uses_all c.program (reached c.program c.text (routine_count c.program)) c.text.body) (monitors_of c.program c.text)
        (λ k h. includes_front k (uses_all c.program (reached c.program c.text (routine_count c.program)) c.text.body) (uses_all c.program (reached c.program c.text (routine_count c.program)) (handler_body c.text.handler)) h));
    handler = handler_proper c.text.handler fits.handler (all_within (uses_all c.program (reached c.program c.text (routine_count c.program)) (handler_body c.text.handler)) (monitors_of c.program c.text)
        (λ k h. includes_back k (uses_all c.program (reached c.program c.text (routine_count c.program)) c.text.body) (uses_all c.program (reached c.program c.text (routine_count c.program)) (handler_body c.text.handler)) h));
    routines = routine_keeps;
    few = λ f t is mine. few f (found_of t) is;
    entries = entry_keeps;
  }

pub program_is_faithful : ProgramIsFaithful
program_is_faithful c form names code at ip = (
  (fits c form names code at ip).levels.0,
  emitted_is_faithful c (record { level = (fits c form names code at ip).levels.0; runs = runs_of c.program c.text })
      (code_is_emitted c (record { level = (fits c form names code at ip).levels.0; runs = runs_of c.program c.text }) code names.differ at ip (keeps c form names code at ip)),
)
