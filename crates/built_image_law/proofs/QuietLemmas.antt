-- Routines that reach no wait call only such, and do not wait.
use Rattle.std.specs.Prelude.{◌≡◌, ◌⊎◌, ℕ, zero, suc, Bool, true, false, not, ◌||◌, List, [], ◌∷◌, Option, Some, None, slice_get, length, Contains}
use Rattle.std.proofs.Common.{inl, inr, refl, sym, ◌∙◌, ap, subst}
use Rattle.std.proofs.lemmas.Bool.{and_parts, and_from, not-true, false≢true}
use Rattle.base.proofs.Members.{at_front, behind, front_or_behind, none_in}
use Rattle.syntax_tree.specs.Plain.{Stmt, assign, assign_entry, assign_empty, perform, perform_entry, when, when_else, loop, exit_when, get, put, wait, signal, broadcast, except, assert, Stmts, no_stmts, stmts, Handler, Process, Program}
use Rattle.source_semantics.specs.Names.{processes, routine_count}
use Rattle.code_spec.specs.Layout.{by_process}
use Rattle.code_spec.specs.Numbering.{Text, Called, called_text, routine_calls, numbered}
use Rattle.static_semantics.specs.WellFormed.{IsWellFormed, OptionalFits}
use Rattle.codegen_law.specs.Ruled.{NamesApart}
use Rattle.code_measures.specs.Quiet.{NoWait, NoWaits, IsQuietBelow, QuietHandler, AreQuiet}
use Rattle.codegen_law.specs.Numbered.{CallsText}
use Rattle.codegen_law.proofs.NumberedLemmas.{listed_text}
use Rattle.codegen_law.proofs.Owners.{process_fits}
use Rattle.codegen_law.proofs.SoundLemmas.{are_numbered, text_sound, part_sound, below, below_all}
use Rattle.built_image_law.specs.Quiet.{stmt_waits, stmts_wait, quiet_some, all_quiet, quiet_within, reaches_no_wait, HandlersQuiet, QuietProgramsAreQuiet}

neither : (a b : Bool) → (a || b) ≡ false → (a ≡ false) × (b ≡ false)
neither false b e = (refl, e)
neither true b e = absurd (false≢true (sym e))

mutual
  no_wait : (s : Stmt) → stmt_waits s ≡ false → NoWait s
  no_wait (assign r e) h = tt
  no_wait (assign_entry r m e es) h = tt
  no_wait (assign_empty r x) h = tt
  no_wait (perform f es) h = tt
  no_wait (perform_entry m e es) h = tt
  no_wait (when e a) h = no_waits a h
  no_wait (when_else e a b) h = let k = neither (stmts_wait a) (stmts_wait b) h in (no_waits a k.0, no_waits b k.1)
  no_wait (loop i low high ss) h = no_waits ss h
  no_wait (exit_when e) h = tt
  no_wait (get d r) h = tt
  no_wait (put d e) h = tt
  no_wait (wait x limit number) h = absurd (false≢true (sym h))
  no_wait (signal x) h = tt
  no_wait (broadcast x) h = tt
  no_wait (except n) h = tt
  no_wait (assert e) h = tt

  pub no_waits : (ss : Stmts) → stmts_wait ss ≡ false → NoWaits ss
  no_waits no_stmts h = tt
  no_waits (stmts s ss) h = let k = neither (stmt_waits s) (stmts_wait ss) h in (no_wait s k.0, no_waits ss k.1)

-- ---- calls

pub all_from : (quiet : Text → Bool) (means : Called → Option Text) (cs : List Called) → ((c : Called) (u : Text) → Contains cs c → means c ≡ Some u → quiet u ≡ true) → all_quiet quiet means cs ≡ true
all_from quiet means [] h = refl
all_from quiet means (c ∷ cs) h =
    and_from (quiet_some quiet (means c)) (all_quiet quiet means cs) (by (means c) refl) (all_from quiet means cs (λ d u i e. h d u (behind c cs d i) e))
  where
    by : (x : Option Text) → means c ≡ x → quiet_some quiet x ≡ true
    by None e = refl
    by (Some t) e = h c t (at_front c cs) e

all_to : (quiet : Text → Bool) (means : Called → Option Text) (cs : List Called) → all_quiet quiet means cs ≡ true → (c : Called) (u : Text) → Contains cs c → means c ≡ Some u → quiet u ≡ true
all_to quiet means [] h c u i e = absurd (none_in c i)
all_to quiet means (d ∷ cs) h c u i e = by (and_parts (quiet_some quiet (means d)) (all_quiet quiet means cs) h) (front_or_behind d cs c i) (λ k there. all_to quiet means cs k c u there e)
  where
    by : (quiet_some quiet (means d) ≡ true) × (all_quiet quiet means cs ≡ true) → (d ≡ c) ⊎ Contains cs c → (all_quiet quiet means cs ≡ true → Contains cs c → quiet u ≡ true) → quiet u ≡ true
    by k (inl same) rest = subst (λ o. quiet_some quiet o ≡ true) (ap means same ∙ e) k.0
    by k (inr there) rest = rest k.1 there

-- what is quiet is so also where calls may be nested deeper
pub deeper : (n : ℕ) (g : Program) (t : Text) → quiet_within n g t ≡ true → quiet_within (suc n) g t ≡ true
unfolding quiet_within
deeper zero g t h = absurd (false≢true h)
deeper (suc n) g t h =
    let k = and_parts (not (stmts_wait t.routine.body)) (all_quiet (quiet_within n g) (called_text g t.owner) (routine_calls t.routine)) h in
    and_from (not (stmts_wait t.routine.body)) (all_quiet (quiet_within (suc n) g) (called_text g t.owner) (routine_calls t.routine)) k.0
    (all_from (quiet_within (suc n) g) (called_text g t.owner) (routine_calls t.routine) (λ c u i e. deeper n g u (all_to (quiet_within n g) (called_text g t.owner) (routine_calls t.routine) k.1 c u i e)))

-- what a quiet routine is
pub record QuietText (g : Program) (t : Text) : Type 0 where
  pub body : stmts_wait t.routine.body ≡ false
  pub calls : (u : Text) → CallsText g t u → reaches_no_wait g u ≡ true

pub is_quiet : (g : Program) (t : Text) → reaches_no_wait g t ≡ true → QuietText g t
unfolding reaches_no_wait quiet_within
is_quiet g t h = by (routine_count g) refl h
  where
    by : (n : ℕ) → routine_count g ≡ n → quiet_within n g t ≡ true → QuietText g t
    by zero e k = absurd (false≢true k)
    by (suc n) e k =
        let p = and_parts (not (stmts_wait t.routine.body)) (all_quiet (quiet_within n g) (called_text g t.owner) (routine_calls t.routine)) k in
        record {
          body = not-true (stmts_wait t.routine.body) p.0;
          calls = λ u called. subst (λ m. quiet_within m g u ≡ true) (sym e)
              (deeper n g u (all_to (quiet_within n g) (called_text g t.owner) (routine_calls t.routine) p.1 called.call u called.listed called.means));
        }

-- ---- the whole program

module _ (g : Program) (form : IsWellFormed g) (names : NamesApart g) (handlers : HandlersQuiet g) where
  quiet_handler : (k : ℕ) (p : Process) → slice_get (processes g) k ≡ Some p → (o : Option Handler) → p.handler ≡ o → OptionalFits g p o → QuietHandler (reaches_no_wait g) g k p o
  quiet_handler k p at None is fit = tt
  quiet_handler k p at (Some h) is fit =
      let q = handlers k p h at is in (
        part_sound g form names (λ y. IsQuietBelow (reaches_no_wait g) g (length (numbered g)) y) k p at h.body fit.body
            (λ c u i e. record { is_quiet = q.calls c u i e; below = below_all g form names (by_process k) c u e }),
        no_waits h.body q.body,
      )

  pub are_quiet : AreQuiet g (reaches_no_wait g)
  are_quiet = record {
    routines = λ r t at h.
        let q = is_quiet g t h in (
          text_sound g form names (λ y. IsQuietBelow (reaches_no_wait g) g r y) t.owner t.routine (listed_text g names.differ t ((are_numbered g form names).listed r t at))
              (λ u called. record { is_quiet = q.calls u called; below = below g form names r t u at called }),
          no_waits t.routine.body q.body,
        );
    handlers = λ k p at. quiet_handler k p at p.handler refl (process_fits g form names k p at).handler;
  }

pub quiet_programs_are_quiet : QuietProgramsAreQuiet
quiet_programs_are_quiet g form names handlers = are_quiet g form names handlers
