-- What statements name: conditions, devices, routines and entries.
use Rattle.std.proofs.Common.{◌≡◌, Bool, true, false, not, ◌||◌, List, Option, Some, None, option_map, Contains, refl, ap, sym, ◌∙◌, subst}
use Rattle.std.proofs.lemmas.Bool.{not-false}
use Rattle.syntax_tree.specs.Plain.{Name}
use Rattle.syntax_tree.specs.Plain as plain_of
use Rattle.syntax_tree.specs.Placed.{Scalar, Expr, Exprs, RoutineKind, procedure, function, Routine, Process, Prog, plain_exprs, plain_answers, plain_routine}
use Rattle.syntax_tree.specs.declared.place.Place.{Place}
use Rattle.static_names.specs.declared.kind.Kind.{Kind as NameKind}
use Rattle.static_names.specs.declared.kind.Kind.TheVariants as kind_is
use Rattle.static_names.specs.declared.kind.NameUse.TheVariants as want_is
use Rattle.static_names.specs.Reach.{Site, suits, through}
use Rattle.static_names.specs.Occurrences.{Occurrence, used, uses, names, declared_at, exprs_names}
use Rattle.static_declarations.specs.declared.sort.Sort.{Sort}
use Rattle.static_declarations.specs.Things.{Thing, device_thing, routine_thing, thing_at, named_at}
use Rattle.static_declarations.specs.Things as things
use Rattle.static_types.specs.Sorts.{asked, call_agrees}
use Rattle.static_types.specs.Sorts as sorts
use Rattle.static_types.specs.Conduct.{is_function, is_function_kind, is_procedure, exprs_stray}
use Rattle.source_semantics.specs.Run.{Home, Found, of_monitor, routine_named, entry_named}
use Rattle.static_semantics.specs.Here.{Here, is_monitor, scalar_sort}
use Rattle.static_semantics.specs.Typed.{answer_sort, params_of, AreArguments}
use Rattle.static_semantics.specs.Statements.{IsCondition, may_call}
use Rattle.static_semantics.specs.Written.{ExprsWritten, ResultWritten}
use Rattle.static_semantics.specs.Places.{IsFound}
use Rattle.static_semantics.specs.Mirrors.{Mirrors, StandsAs, IsEntryOf}
use Rattle.static_semantics.specs.Judged.{IsKept, AreNames}
use Rattle.wellformed_law.proofs.Expressions.{args_fit}
use Rattle.wellformed_law.proofs.Uses.{sorts_same}

thing_named : (g : Prog Place) (q place : Place) (t : Thing) → declared_at (names g) q ≡ Some place → thing_at g place ≡ t → named_at g q ≡ Some t
thing_named g q place t found is = ap (option_map (thing_at g)) found ∙ ap Some is

-- a routine that is called at a place, by the rules and by the meaning
pub record IsCalled (g : Prog Place) (q : Place) (called : Option Found) : Type 0 where
  pub one : Routine Place
  pub is_entry : Bool
  pub home : Home
  pub thing : named_at g q ≡ Some (routine_thing is_entry one)
  pub result : ResultWritten one.kind one.result one.value
  pub found : called ≡ Some (record { home = home; routine = plain_routine one })

-- a device that is used at a place
pub record IsUsed (g : Prog Place) (c : Here) (x : Name) (q : Place) : Type 0 where
  pub is_out : Bool
  pub thing : named_at g q ≡ Some (device_thing is_out)
  pub listed : Contains c.program.decls (plain_of.device x is_out)

no_monitor : (c : Here) → may_call c ≡ true → is_monitor c.home ≡ true → ⊥
no_monitor c may is = let e : not (true || c.is_function) ≡ true = subst (λ b. not (b || c.is_function) ≡ true) is may in cc

pub entry_kind : (k : NameKind) → suits want_is.Entry k ≡ true → k ≡ kind_is.Entry
entry_kind kind_is.Entry e = refl
entry_kind k e = absurd (cc)

module _ (g : Prog Place) (p : Process Place) (at : Option Place) (site : Site) (c : Here) (kept : IsKept g) (m : Mirrors g p at site c) where
  pub condition_stands : (x : Name) (q : Place) → Contains (names g) (uses site x q want_is.Condition) → IsCondition c x
  condition_stands x q h =
      let f : IsFound g q want_is.Condition (site.means x) = kept.names.uses x q want_is.Condition (site.means x) h in
      by f.declared.place f.declared.kind f.suited (m.names x f.declared f.meant)
    where
      by : (place : Place) (k : NameKind) → suits want_is.Condition k ≡ true → StandsAs g p c at x place k → IsCondition c x
      by place kind_is.Condition suited s = s
      by place k suited s = absurd (cc)

  pub device_stands : (x : Name) (q : Place) → Contains (names g) (uses site x q want_is.Device) → IsUsed g c x q
  device_stands x q h =
      let f : IsFound g q want_is.Device (site.means x) = kept.names.uses x q want_is.Device (site.means x) h in
      by f.declared.place f.declared.kind f.found f.suited (m.names x f.declared f.meant)
    where
      by : (place : Place) (k : NameKind) → declared_at (names g) q ≡ Some place → suits want_is.Device k ≡ true → StandsAs g p c at x place k → IsUsed g c x q
      by place kind_is.Device found suited s = record { is_out = s.is_out; thing = thing_named g q place (device_thing s.is_out) found s.thing; listed = s.listed }
      by place k found suited s = absurd (cc)

  -- a routine by its name, where entries may not be called
  pub routine_stands : (x : Name) (q : Place) → may_call c ≡ true → Contains (names g) (uses site x q want_is.Routine) → IsCalled g q (routine_named c.program c.process x)
  routine_stands x q may h =
      let f : IsFound g q want_is.Routine (site.means x) = kept.names.uses x q want_is.Routine (site.means x) h in
      by f.declared.place f.declared.kind f.found f.suited (m.names x f.declared f.meant)
    where
      by : (place : Place) (k : NameKind) → declared_at (names g) q ≡ Some place → suits want_is.Routine k ≡ true → StandsAs g p c at x place k → IsCalled g q (routine_named c.program c.process x)
      by place kind_is.Routine found suited s =
          record { one = s.one; is_entry = false; home = s.home; thing = thing_named g q place (routine_thing false s.one) found s.thing; result = s.result; found = s.found }
      by place kind_is.Entry found suited s = absurd (no_monitor c may s.inside)
      by place k found suited s = absurd (cc)

  pub entry_stands : (k x : Name) (q : Place) → Contains (names g) (used x q want_is.Entry (through site k x)) → IsCalled g q (entry_named c.program k x)
  entry_stands k x q h =
      let f : IsFound g q want_is.Entry (through site k x) = kept.names.uses x q want_is.Entry (through site k x) h in
      let s : IsEntryOf g c k x f.declared.place = m.entries k x f.declared f.meant (entry_kind f.declared.kind f.suited) in
      record { one = s.one; is_entry = true; home = of_monitor s.number; thing = thing_named g q f.declared.place (routine_thing true s.one) f.found s.thing; result = s.result; found = s.found }

  pub call_fits : (q : Place) (called : Option Found) (es : Exprs Place) (more : List Occurrence) → IsCalled g q called → ExprsWritten es → AreNames g (exprs_names site es more)
      → call_agrees (named_at g) (asked (named_at g q)) es ≡ true → exprs_stray (named_at g) es ≡ false → AreArguments c (params_of called) (plain_exprs es)
  call_fits q called es more is written names agrees strays =
      subst (λ o. AreArguments c (params_of o) (plain_exprs es)) (sym is.found)
      (args_fit g p at site c is.one.params es more kept m written names (subst (λ o. call_agrees (named_at g) (asked o) es ≡ true) is.thing agrees) strays)

-- ---- what a call answers

abbrev answers_of : Option (Scalar Place) → Option (Expr Place) → Option Sort
answers_of result value = option_map (λ (a : plain_of.Answers). scalar_sort a.kind) (plain_answers result value)

function_answers : (k : RoutineKind) (result : Option (Scalar Place)) (value : Option (Expr Place)) → ResultWritten k result value → is_function_kind k ≡ true
    → (s : Sort) × (option_map things.sort_of result ≡ Some s) × (answers_of result value ≡ Some s)
function_answers function (Some s) (Some e) written is = (things.sort_of s, refl, ap Some (sym (sorts_same s)))
function_answers function (Some s) None written is = absurd written
function_answers function None (Some e) written is = absurd written
function_answers function None None written is = absurd written
function_answers procedure result value written is = absurd (cc)

procedure_answers : (k : RoutineKind) (result : Option (Scalar Place)) (value : Option (Expr Place)) → ResultWritten k result value → is_function_kind k ≡ false → answers_of result value ≡ None
procedure_answers procedure None None written is = refl
procedure_answers procedure None (Some e) written is = absurd written
procedure_answers procedure (Some s) None written is = absurd written
procedure_answers procedure (Some s) (Some e) written is = absurd written
procedure_answers function result value written is = absurd (cc)

module _ (g : Prog Place) (q : Place) (called : Option Found) (is : IsCalled g q called) where
  pub gives_one : is_procedure (named_at g q) ≡ false → (s : Sort) × (sorts.answer_sort (named_at g q) ≡ Some s) × (answer_sort called ≡ Some s)
  gives_one e =
      let is_one : not (is_function_kind is.one.kind) ≡ false = subst (λ o. is_procedure o ≡ false) is.thing e in
      let a = function_answers is.one.kind is.one.result is.one.value is.result (not-false (is_function_kind is.one.kind) is_one) in
      (a.0, ap sorts.answer_sort is.thing ∙ a.1, ap answer_sort is.found ∙ a.2)

  pub gives_nothing : is_function (named_at g q) ≡ false → answer_sort called ≡ None
  gives_nothing e = ap answer_sort is.found ∙ procedure_answers is.one.kind is.one.result is.one.value is.result (subst (λ o. is_function o ≡ false) is.thing e)
