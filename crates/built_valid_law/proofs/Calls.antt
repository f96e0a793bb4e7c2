-- What a text calls may be called.
use Rattle.std.specs.Prelude.{◌≡◌, ◌<◌, ◌⊎◌, ◌&&◌, ◌||◌, not, ℕ, Bool, true, false, Option, Some, None, nat_eq, nat_lt, slice_get, IsSome, is_some}
use Rattle.std.proofs.Common.{inl, inr, refl, sym, ap, subst, ◌∙◌}
use Rattle.std.proofs.lemmas.Bool.{eq-eqb, eqb-true, lt-ltb, or_right, and_from}
use Rattle.std.proofs.lemmas.Option.{none-some, same_Some}
use Rattle.syntax_tree.specs.Plain.{Name, Routine, Monitor, Process, Program}
use Rattle.source_semantics.specs.Names.{named, routines, monitors, processes, monitor_number}
use Rattle.source_semantics.specs.Run.{or_else}
use Rattle.machine_semantics.specs.Image as image
use Rattle.valid_image.specs.Tables.{reach, bound_at}
use Rattle.valid_image.specs.Operands.{Whose, is_open, is_open_some, may_be_inside}
use Rattle.code_spec.specs.Layout.{Owner, by_program, by_process, by_monitor, home_of}
use Rattle.code_spec.specs.Numbering.{Text, routine_of, process_routines, routine_in, entry_of, entry_in, Called, calls_routine, calls_entry, called_text, stmts_calls, answers_calls, routine_calls, number_of}
use Rattle.code_spec.specs.Compiled.{kind_number, owner_number, IsCodeOf}
use Rattle.static_semantics.specs.Here.{in_routine}
use Rattle.static_semantics.specs.Statements.{may_call as calls_more}
use Rattle.static_semantics.specs.WellFormed.{IsWellFormed}
use Rattle.codegen_law.proofs.NameNumbers.{IsText, of_list, called_is_text}
use Rattle.codegen_law.specs.Ruled.{NamesApart}
use Rattle.codegen_law.specs.Numbered.{CallsText}
use Rattle.codegen_law.proofs.NumberedLemmas.{text_listed}
use Rattle.code_measures.proofs.Rows.{stands}
use Rattle.codegen_law.specs.Called.{FindsRoutine, Finds}
use Rattle.codegen_law.proofs.Finding.{called_both, called_one, text_finds}
use Rattle.codegen_law.proofs.Owners.{Named, Means, text_stands}
use Rattle.codegen_law.proofs.SoundLemmas.{are_numbered}
use Rattle.built_valid_law.specs.Fine.{MayCall}

-- a routine of a process is called from that process alone
abbrev pub OpenTo : Whose → Owner → Type 0
OpenTo w by_program = Unit {0}
OpenTo w (by_process k) = (w.kind ≡ 1) × (w.owner ≡ k)
OpenTo w (by_monitor j) = Unit {0}

-- the code of a process's text is of that process
abbrev pub IsMine : Whose → Owner → Type 0
IsMine w o = (k : ℕ) → o ≡ by_process k → (w.kind ≡ 1) × (w.owner ≡ k)

either_some : (a b : Option Text) (u : Text) → or_else a b ≡ Some u → (a ≡ Some u) ⊎ (b ≡ Some u)
either_some None b u e = inr e
either_some (Some x) b u e = inl e

is_open_to : (w : Whose) (o : Owner) (x : image.Routine) → x.kind ≡ kind_number o → x.owner ≡ owner_number o → OpenTo w o → is_open w x ≡ true
is_open_to w by_program x kind owner open_to = ap (λ n. not (nat_eq n 1) || (nat_eq w.kind 1 && nat_eq x.owner w.owner)) kind
is_open_to w (by_process k) x kind owner open_to =
    or_right (not (nat_eq x.kind 1)) (nat_eq w.kind 1 && nat_eq x.owner w.owner)
    (and_from (nat_eq w.kind 1) (nat_eq x.owner w.owner) (eq-eqb w.kind 1 open_to.0) (eq-eqb x.owner w.owner (owner ∙ sym open_to.1)))
is_open_to w (by_monitor j) x kind owner open_to = ap (λ n. not (nat_eq n 1) || (nat_eq w.kind 1 && nat_eq x.owner w.owner)) kind

inside_ok : (m : image.Image) (w : Whose) (n : ℕ) → (w.kind ≡ 2 → bound_at (reach m) n ≡ false) → may_be_inside m w n ≡ true
inside_ok m w n h = by (nat_eq w.kind 2) refl
  where
    by : (b : Bool) → nat_eq w.kind 2 ≡ b → not (b && bound_at (reach m) n) ≡ true
    by true e = ap (λ c. not c) (h (eqb-true w.kind 2 e))
    by false e = refl

module _ (g : Program) where
  entry_owner : (mon en : Name) (u : Text) → entry_in g mon en ≡ Some u → u.owner ≡ by_monitor (monitor_number g mon)
  entry_owner mon en u e = by (named (λ k. k.name) mon (monitors g)) e
    where
      by : (d : Option Monitor) → entry_of (monitor_number g mon) d en ≡ Some u → u.owner ≡ by_monitor (monitor_number g mon)
      by None h = absurd (none-some u h)
      by (Some d) h = (of_list (by_monitor (monitor_number g mon)) d.entries en u h).0

  program_owner : (f : Name) (u : Text) → routine_of by_program (routines g) f ≡ Some u → u.owner ≡ by_program
  program_owner f u e = (of_list by_program (routines g) f u e).0

  -- whose routines a text calls
  open_called : (w : Whose) (o : Owner) (c : Called) (u : Text) → IsMine w o → called_text g o c ≡ Some u → OpenTo w u.owner
  open_called w by_program (calls_routine f) u mine e = subst (λ y. OpenTo w y) (sym (program_owner f u e)) tt
  open_called w (by_monitor j) (calls_routine f) u mine e = subst (λ y. OpenTo w y) (sym (program_owner f u e)) tt
  open_called w (by_process k) (calls_routine f) u mine e = elim (either_some (routine_of (by_process k) (process_routines (slice_get (processes g) k)) f) (routine_of by_program (routines g) f) u e) [
    | inl h ↦ subst (λ y. OpenTo w y) (sym (of_list (by_process k) (process_routines (slice_get (processes g) k)) f u h).0) (mine k refl)
    | inr h ↦ subst (λ y. OpenTo w y) (sym (program_owner f u h)) tt
  ]
  open_called w by_program (calls_entry mon en) u mine e = subst (λ y. OpenTo w y) (sym (entry_owner mon en u e)) tt
  open_called w (by_process k) (calls_entry mon en) u mine e = subst (λ y. OpenTo w y) (sym (entry_owner mon en u e)) tt
  open_called w (by_monitor j) (calls_entry mon en) u mine e = subst (λ y. OpenTo w y) (sym (entry_owner mon en u e)) tt

module _ (g : Program) (m : image.Image) (form : IsWellFormed g) (names : NamesApart g) (is : IsCodeOf g m) where
  -- where a call's routine has a lower number, and nothing bound is reached from an entry, it may be called
  pub called_ok : (w : Whose) (o : Owner) (c : Called) (u : Text) → called_text g o c ≡ Some u → IsMine w o → number_of g u < w.number → (w.kind ≡ 2 → bound_at (reach m) (number_of g u) ≡ false) → MayCall g m w u
  called_ok w o c u e mine low free =
      let text : IsText g u = called_is_text g names.differ o c u e in
      let s = stands g m is (number_of g u) u ((are_numbered g form names).there u (text_listed g names.differ u text)) in
      let open_to : is_open w s.x ≡ true = is_open_to w u.owner s.x s.is_r.kind s.is_r.owner (open_called g w o c u mine e) in
      record {
        open_to =
            and_from (nat_lt (number_of g u) w.number && is_open_some w (slice_get m.routines (number_of g u))) (may_be_inside m w (number_of g u))
            (and_from (nat_lt (number_of g u) w.number) (is_open_some w (slice_get m.routines (number_of g u))) (lt-ltb (number_of g u) w.number low) (ap (λ y. is_open_some w y) s.there ∙ open_to))
            (inside_ok m w (number_of g u) free);
        params = (text_stands g form names u.owner u.routine text).fits.params;
      }

-- ---- functions

-- a function of the program
pub record IsFunction (u : Text) : Type 0 where
  pub owner : u.owner ≡ by_program
  pub answers : is_some u.routine.answers ≡ true

-- the text of a routine of the program or of an entry
abbrev pub IsShared : Owner → Type 0
IsShared by_program = Unit {0}
IsShared (by_process k) = ⊥
IsShared (by_monitor j) = Unit {0}

shared_owner : (g : Program) (o : Owner) (f : Name) (u : Text) → IsShared o → routine_in g o f ≡ Some u → u.owner ≡ by_program
shared_owner g by_program f u h e = program_owner g f u e
shared_owner g (by_process k) f u h e = absurd h
shared_owner g (by_monitor j) f u h e = program_owner g f u e

not_both : (b : Bool) → b ≡ false → b ≡ true → ⊥
not_both b f t = cc

answers_is : (r : Routine) → IsSome r.answers → is_some r.answers ≡ true
answers_is r h = h

module _ (g : Program) (form : IsWellFormed g) (names : NamesApart g) where
  -- where a text may call nothing else, it calls functions of the program
  pub calls_functions : (o : Owner) (r : Routine) → IsText g (record { owner = o; routine = r }) → IsShared o → ((p : Process) → calls_more (in_routine g p (home_of o) r) ≡ false)
      → (u : Text) → CallsText g (record { owner = o; routine = r }) u → IsFunction u
  calls_functions o r is shared few u called =
      let s = text_stands g form names o r is in
      let t = text_finds (in_routine g s.process (home_of o) r) r.body r.answers s.fits.body s.fits.answers in
      let may = calls_more (in_routine g s.process (home_of o) r) in
      by s.process (few s.process) called.call called.means
      (called_one (Finds g s.process may) (routine_calls r) called.call (called_both (Finds g s.process may) (stmts_calls r.body) (answers_calls r.answers) t.body_finds t.answers_find) called.listed)
      (called_one (Means g s.process o) (routine_calls r) called.call s.means called.listed)
    where
      answered : (p : Process) (f : Name) (may : Bool) (x : FindsRoutine g p may f) → may ≡ false → IsSome x.found.routine.answers
      answered p f may x never = elim (x.allowed) [ inl h ↦ h | inr h ↦ absurd (not_both may never h) ]

      by : (p : Process) → calls_more (in_routine g p (home_of o) r) ≡ false → (c : Called) → called_text g o c ≡ Some u → Finds g p (calls_more (in_routine g p (home_of o) r)) c → Means g p o c → IsFunction u
      by p never (calls_routine f) e x means =
          let n : Named (routine_in g o f) x.found = means x.found x.is in
          let same : n.text ≡ u = same_Some n.text u (sym n.is ∙ e) in
          let routine : x.found.routine ≡ u.routine = ap (λ y. y.routine) (sym n.same) ∙ ap (λ y. y.routine) same in
          record {
            owner = shared_owner g o f u shared e;
            answers = answers_is u.routine (subst (λ y. IsSome y.answers) routine (answered p f (calls_more (in_routine g p (home_of o) r)) x never));
          }
      by p never (calls_entry mon en) e x means = absurd (not_both (calls_more (in_routine g p (home_of o) r)) never x.allowed)
