-- No handler of a checked program reaches a wait.
use Rattle.std.proofs.Common.{◌≡◌, ◌⊎◌, inl, inr, ℕ, zero, suc, ◌<◌, Bool, true, false, ◌||◌, not, [], Option, Some, None, refl, ap, sym, ◌∙◌, subst, arith}
use Rattle.std.specs.Prelude.{Contains, slice_get, option_map}
use Rattle.std.proofs.lemmas.Bool.{and_from}
use Rattle.std.proofs.lemmas.Option.{none-some, same_Some}
use Rattle.syntax_tree.specs.Plain as plain_of
use Rattle.syntax_tree.specs.Placed.{Stmt, assign, assign_entry, assign_empty, perform, perform_entry, when, when_else, loop, exit_when, get, put, wait, signal, broadcast, except, assert, Stmts, no_stmts, stmts, Routine, Handler, Process, Prog, plain, plain_stmt, plain_stmts, plain_routine, plain_process, plain_handler, optional}
use Rattle.syntax_tree.specs.Parts.{processes, routines}
use Rattle.syntax_tree.specs.declared.place.Place.{Place}
use Rattle.static_names.specs.Occurrences.{names, declared_at}
use Rattle.source_semantics.specs.Names.{routine_count, processes as plain_processes_of}
use Rattle.code_spec.specs.Layout.{by_process}
use Rattle.code_spec.specs.Numbering.{Text, Called, called_text}
use Rattle.code_spec.specs.Numbering as call_of
use Rattle.static_calls.specs.Calls as place_of
use Rattle.static_calls.specs.Calls.{routine_calls, stmts_calls}
use Rattle.static_calls.specs.Reaching.{Calls, Reaches, by_call, by_calls, ReachesWait, HandlerWaits}
use Rattle.static_semantics.specs.Static.{IsChecked}
use Rattle.static_semantics.specs.WellFormed.{IsWellFormed}
use Rattle.wellformed_law.proofs.Members.{in-contains}
use Rattle.wellformed_law.proofs.WellformedLaw.{Laws}
use Rattle.wellformed_law.proofs.Standing.{plain_processes}
use Rattle.wellformed_law.proofs.WellFormed.{RuleLaws, laws_of, checked_is_well_formed}
use Rattle.codegen_law.proofs.NameNumbers.{IsText, called_is_text}
use Rattle.codegen_law.specs.Ruled.{NamesApart}
use Rattle.code_measures.specs.Quiet.{AreQuiet}
use Rattle.codegen_law.proofs.NumberedLemmas.{text_listed}
use Rattle.codegen_law.proofs.Finding.{called_one}
use Rattle.codegen_law.proofs.Levels.{level, are_levels}
use Rattle.built_image_law.proofs.Apart.{names_apart}
use Rattle.built_image_law.specs.Quiet.{stmt_waits, all_quiet, quiet_within, reaches_no_wait, HandlerQuiet, stmts_wait as plain_wait}
use Rattle.built_image_law.proofs.QuietLemmas.{all_from, are_quiet}
use Rattle.built_image_law.proofs.Leads.{StandsFor, Led, LeadsTo, slice_in, slice_map, stands_listed, text_leads, handler_leads}

-- ---- waits are kept in the plain tree

mutual
  stmt_waits_plain : (s : Stmt Place) → stmt_waits (plain_stmt s) ≡ place_of.stmt_waits s
  stmt_waits_plain (assign r e) = refl
  stmt_waits_plain (assign_entry r mon p entry q es) = refl
  stmt_waits_plain (assign_empty r cond p) = refl
  stmt_waits_plain (perform p n es) = refl
  stmt_waits_plain (perform_entry p mon entry q es) = refl
  stmt_waits_plain (when p e a) = waits_plain a
  stmt_waits_plain (when_else p e a b) = ap (λ v. v || plain_wait (plain_stmts b)) (waits_plain a) ∙ ap (λ v. place_of.stmts_wait a || v) (waits_plain b)
  stmt_waits_plain (loop p n q low high a) = waits_plain a
  stmt_waits_plain (exit_when p e) = refl
  stmt_waits_plain (get p dev q r) = refl
  stmt_waits_plain (put p dev q e) = refl
  stmt_waits_plain (wait p cond q limit number) = refl
  stmt_waits_plain (signal p cond q) = refl
  stmt_waits_plain (broadcast p cond q) = refl
  stmt_waits_plain (except p number) = refl
  stmt_waits_plain (assert p e) = refl

  waits_plain : (ss : Stmts Place) → plain_wait (plain_stmts ss) ≡ place_of.stmts_wait ss
  waits_plain no_stmts = refl
  waits_plain (stmts s ss) = ap (λ v. v || plain_wait (plain_stmts ss)) (stmt_waits_plain s) ∙ ap (λ v. place_of.stmt_waits s || v) (waits_plain ss)

never : (b : Bool) → (b ≡ true → ⊥) → b ≡ false
never false h = refl
never true h = absurd (h refl)

not_false : (b : Bool) → b ≡ false → not b ≡ true
not_false b e = ap not e

module _ (g : Prog Place) (l : Laws g) (form : IsWellFormed (plain g)) (apart : NamesApart (plain g)) where
  abbrev height : Text → ℕ
  height = level (plain g) form apart

  -- what a routine calls that reaches no wait reaches none
  callee_quiet : (r to : Routine Place) → Contains (routines g.decls) r → (ReachesWait g r.place → ⊥) → Contains (routine_calls (declared_at (names g)) r) to.place → ReachesWait g to.place → ⊥
  callee_quiet r to listed quiet call w = quiet (record { waiter = w.waiter; waits = w.waits; reached = inr (by w.reached) })
    where
      first : Calls g r.place to.place
      first = record { caller = r; listed = listed; is = refl; call = call }

      by : (to.place ≡ w.waiter) ⊎ Reaches g to.place w.waiter → Reaches g r.place w.waiter
      by (inl e) = subst (λ q. Reaches g r.place q) e (by_call first)
      by (inr h) = by_calls first h

  -- ---- a text whose routine reaches no wait is quiet

  quiet_text : (n : ℕ) (t : Text) (r : Routine Place) → IsText (plain g) t → StandsFor g t r → (ReachesWait g r.place → ⊥) → height t < n → quiet_within n (plain g) t ≡ true
  unfolding quiet_within
  quiet_text zero t r text stands quiet lt = absurd (omega arith)
  quiet_text (suc n) t r text stands quiet lt =
      and_from (not (plain_wait t.routine.body)) (all_quiet (quiet_within n (plain g)) (called_text (plain g) t.owner) (call_of.routine_calls t.routine))
      (not_false (plain_wait t.routine.body) body)
      (all_from (quiet_within n (plain g)) (called_text (plain g) t.owner) (call_of.routine_calls t.routine)
      (λ c u i e. let k = leads c u i e in quiet_text n u k.one (called_is_text (plain g) apart.differ t.owner c u e) k.stands (callee_quiet r k.one listed quiet k.called) (lower c u i e)))
    where
      listed : Contains (routines g.decls) r
      listed = stands_listed g r t.owner stands.at

      body : plain_wait t.routine.body ≡ false
      body =
          subst (λ (q : plain_of.Routine). plain_wait q.body ≡ false) stands.is
          (waits_plain r.body ∙ never (place_of.stmts_wait r.body) (λ w. quiet (record { waiter = r.place; waits = record { waiter = r; listed = listed; is = refl; wait = w }; reached = inl refl })))

      leads : (c : Called) (u : Text) → Contains (call_of.routine_calls t.routine) c → called_text (plain g) t.owner c ≡ Some u → Led g (routine_calls (declared_at (names g)) r) u
      leads c u i e =
          called_one (LeadsTo g t.owner (routine_calls (declared_at (names g)) r)) (call_of.routine_calls (plain_routine r)) c (text_leads g l t.owner r stands.at)
          (subst (λ (q : plain_of.Routine). Contains (call_of.routine_calls q) c) (sym stands.is) i) u e

      lower : (c : Called) (u : Text) → Contains (call_of.routine_calls t.routine) c → called_text (plain g) t.owner c ≡ Some u → level (plain g) form apart u < n
      lower c u i e =
          let f = (are_levels (plain g) form apart).falls t u (text_listed (plain g) apart.differ t text) (record { call = c; listed = i; means = e }) in
          omega arith

  -- ---- handlers

  module _ (handlers : (place : Place) → HandlerWaits g place → ⊥) where
    callee_calm : (k : ℕ) (q : Process Place) → slice_get (processes g.decls) k ≡ Some q → (h : Handler Place) → q.handler ≡ Some h → (c : Called) (u : Text) → Contains (call_of.stmts_calls (plain_stmts h.body)) c → called_text (plain g) (by_process k) c ≡ Some u
        → reaches_no_wait (plain g) u ≡ true
    unfolding reaches_no_wait
    callee_calm k q at h has c u i e =
        let led = called_one (LeadsTo g (by_process k) (stmts_calls (declared_at (names g)) h.body [])) (call_of.stmts_calls (plain_stmts h.body)) c (handler_leads g l k q at h has) i u e in
        let text = called_is_text (plain g) apart.differ (by_process k) c u e in
        quiet_text (routine_count (plain g)) u led.one text led.stands
        (λ w. handlers q.place (record { one = q; listed = in-contains (processes g.decls) q (slice_in (processes g.decls) k q at); is = refl; handler = h; has = has; comes_to = inr (record { callee = led.one.place; call = led.called; waits = w }) }))
        ((are_levels (plain g) form apart).few u (text_listed (plain g) apart.differ u text))

    handler_calm : (k : ℕ) (q : Process Place) → slice_get (processes g.decls) k ≡ Some q → (h : Handler Place) → q.handler ≡ Some h → HandlerQuiet (plain g) k (plain_handler h)
    handler_calm k q at h has = record {
      body = waits_plain h.body ∙ never (place_of.stmts_wait h.body)
          (λ w. handlers q.place (record { one = q; listed = in-contains (processes g.decls) q (slice_in (processes g.decls) k q at); is = refl; handler = h; has = has; comes_to = inl w }));
      calls = λ c u i e. callee_calm k q at h has c u i e;
    }

    handler_of : (k : ℕ) (q : Process Place) → slice_get (processes g.decls) k ≡ Some q → (h : plain_of.Handler) → optional plain_handler q.handler ≡ Some h → HandlerQuiet (plain g) k h
    handler_of k q at h e = by q.handler refl e
      where
        by : (o : Option (Handler Place)) → q.handler ≡ o → optional plain_handler o ≡ Some h → HandlerQuiet (plain g) k h
        by None is e = absurd (none-some h e)
        by (Some j) is e = subst (λ z. HandlerQuiet (plain g) k z) (same_Some (plain_handler j) h e) (handler_calm k q at j is)

    process_of : (k : ℕ) (p : plain_of.Process) → slice_get (plain_processes_of (plain g)) k ≡ Some p → (h : plain_of.Handler) → p.handler ≡ Some h → HandlerQuiet (plain g) k h
    process_of k p at h e = by (slice_get (processes g.decls) k) refl (sym (ap (λ ps. slice_get ps k) (plain_processes g.decls) ∙ slice_map plain_process (processes g.decls) k) ∙ at)
      where
        by : (o : Option (Process Place)) → slice_get (processes g.decls) k ≡ o → option_map plain_process o ≡ Some p → HandlerQuiet (plain g) k h
        by None is f = absurd (none-some p f)
        by (Some q) is f = handler_of k q is h (ap (λ (z : plain_of.Process). z.handler) (same_Some (plain_process q) p f) ∙ e)

    pub handlers_calm : AreQuiet (plain g) (reaches_no_wait (plain g))
    handlers_calm = are_quiet (plain g) form apart (λ k p h at e. process_of k p at h e)

pub checked_is_quiet : RuleLaws → (g : Prog Place) → IsChecked g → AreQuiet (plain g) (reaches_no_wait (plain g))
checked_is_quiet laws g is =
    handlers_calm g (laws_of laws g is) (checked_is_well_formed laws g is) (names_apart laws g is) (λ place h. is.checked 35 place (inr (inr (inr (refl, h)))))
