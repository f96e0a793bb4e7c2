-- The names of a text: what stands in it for a variable, a constant or a routine by the rules is what its meaning finds there.
use Rattle.std.proofs.Common.{◌≡◌, ◌⊎◌, inl, inr, true, false, List, ◌∷◌, Option, Some, None, refl, ap, sym, ◌∙◌, true≢false}
use Rattle.std.specs.Prelude.{not, option_map}
use Rattle.base.proofs.Members.{at_front, behind}
use Rattle.syntax_tree.specs.Plain.{Name}
use Rattle.syntax_tree.specs.Placed.{Scalar, int, boolean, subrange, Kind, scalar, array, Expr, RoutineKind, procedure, function, Routine, Process, Prog, plain_scalar, plain_kind, plain_answers, plain_routine}
use Rattle.syntax_tree.specs.declared.place.Place.{Place}
use Rattle.static_names.specs.declared.kind.Declared.{Declared}
use Rattle.static_names.specs.declared.kind.Kind.{Kind as NameKind}
use Rattle.static_names.specs.declared.kind.Kind.TheVariants as kind_is
use Rattle.static_names.specs.declared.kind.NameUse.{NameUse}
use Rattle.static_names.specs.declared.kind.NameUse.TheVariants as want_is
use Rattle.static_names.specs.Reach.{Site, suits}
use Rattle.static_names.specs.Occurrences.{Occurrence, used}
use Rattle.static_declarations.specs.declared.sort.Sort.{Sort}
use Rattle.static_declarations.specs.declared.sort.Sort.TheVariants as sort_is
use Rattle.static_declarations.specs.Things as thing
use Rattle.static_declarations.specs.Things.{Thing, constant_thing, routine_thing, variable_thing, loop_thing, shape_of, thing_at, named_at}
use Rattle.static_types.specs.Sorts as by_form
use Rattle.static_types.specs.Sorts.{is_array}
use Rattle.static_types.specs.Conduct.{is_function_kind, is_barred}
use Rattle.source_semantics.specs.Run.{Home, routine_named}
use Rattle.static_semantics.specs.Here.{Here, Meant, turn, own_variable, outer_variable, value, meant, scalar_sort, word_sort, element_sort}
use Rattle.static_semantics.specs.Typed.{answer_sort}
use Rattle.static_semantics.specs.Written.{ResultWritten}
use Rattle.static_semantics.specs.Places.{IsFound}
use Rattle.static_semantics.specs.Mirrors.{Mirrors, StandsAs, IsVariable}
use Rattle.static_semantics.specs.Judged.{IsKept, AreNames}

-- ---- sorts

pub sorts_same : (s : Scalar Place) → thing.sort_of s ≡ scalar_sort (plain_scalar s)
sorts_same int = refl
sorts_same boolean = refl
sorts_same (subrange low high) = refl

-- ---- names

pub more_names : (g : Prog Place) (o : Occurrence) (more : List Occurrence) → AreNames g (o ∷ more) → AreNames g more
more_names g o more are x h = are x (behind o more x h)

pub used_found : (g : Prog Place) (x : Name) (q : Place) (want : NameUse) (means : Option Declared) (more : List Occurrence) → IsKept g → AreNames g (used x q want means ∷ more) → IsFound g q want means
used_found g x q want means more kept are = kept.names.uses x q want means (are (used x q want means) (at_front (used x q want means) more))

pub named_thing : (g : Prog Place) (q : Place) (want : NameUse) (means : Option Declared) (f : IsFound g q want means) → named_at g q ≡ Some (thing_at g f.declared.place)
named_thing g q want means f = ap (option_map (thing_at g)) f.found

-- ---- values

-- what stands for a word or an array by the rules, and in the meaning
pub data IsValue (o : Option Thing) (m : Meant) : Type 0 where
  a_constant : o ≡ Some constant_thing → m ≡ value → IsValue o m
  a_turn : o ≡ Some loop_thing → m ≡ turn → IsValue o m
  a_variable : (k : Kind Place) (owner : Option Place) → o ≡ Some (variable_thing owner (shape_of k)) → (m ≡ own_variable (plain_kind k)) ⊎ (m ≡ outer_variable (plain_kind k)) → IsValue o m

pub word_of : (o : Option Thing) (m : Meant) → IsValue o m → not (is_array o) ≡ true → (s : Sort) × (by_form.word_sort o ≡ Some s) × (word_sort m ≡ Some s)
word_of o m (a_constant e f) h = (sort_is.Number, ap by_form.word_sort e, ap word_sort f)
word_of o m (a_turn e f) h = (sort_is.Number, ap by_form.word_sort e, ap word_sort f)
word_of o m (a_variable (scalar s) owner e (inl f)) h = (thing.sort_of s, ap by_form.word_sort e, ap word_sort f ∙ ap Some (sym (sorts_same s)))
word_of o m (a_variable (scalar s) owner e (inr f)) h = (thing.sort_of s, ap by_form.word_sort e, ap word_sort f ∙ ap Some (sym (sorts_same s)))
word_of o m (a_variable (array low high s) owner e f) h = absurd (true≢false (sym h ∙ ap (λ x. not (is_array x)) e))

pub element_of : (o : Option Thing) (m : Meant) → IsValue o m → is_array o ≡ true → (s : Sort) × (by_form.element_sort o ≡ Some s) × (element_sort m ≡ Some s)
element_of o m (a_constant e f) h = absurd (true≢false (sym h ∙ ap is_array e))
element_of o m (a_turn e f) h = absurd (true≢false (sym h ∙ ap is_array e))
element_of o m (a_variable (scalar s) owner e f) h = absurd (true≢false (sym h ∙ ap is_array e))
element_of o m (a_variable (array low high s) owner e (inl f)) h = (thing.sort_of s, ap by_form.element_sort e, ap element_sort f ∙ ap Some (sym (sorts_same s)))
element_of o m (a_variable (array low high s) owner e (inr f)) h = (thing.sort_of s, ap by_form.element_sort e, ap element_sort f ∙ ap Some (sym (sorts_same s)))

module _ (g : Prog Place) (p : Process Place) (at : Option Place) (c : Here) (x : Name) (place : Place) (o : Option Thing) (is : o ≡ Some (thing_at g place)) where
  pub variable_value : IsVariable g c at x place → IsValue o (meant c x)
  variable_value v = by v.stands
    where
      by : ((thing_at g place ≡ variable_thing at (shape_of v.kind)) × (meant c x ≡ own_variable (plain_kind v.kind)))
          ⊎ ((thing_at g place ≡ variable_thing None (shape_of v.kind)) × (meant c x ≡ outer_variable (plain_kind v.kind)))
          → IsValue o (meant c x)
      by (inl s) = a_variable v.kind at (is ∙ ap Some s.0) (inl s.1)
      by (inr s) = a_variable v.kind None (is ∙ ap Some s.0) (inr s.1)

  stands_value : (k : NameKind) → suits want_is.Value k ≡ true → StandsAs g p c at x place k → IsValue o (meant c x)
  stands_value kind_is.Constant h s = a_constant (is ∙ ap Some s.0) s.1
  stands_value kind_is.LoopVariable h s = a_turn (is ∙ ap Some s.0) s.1
  stands_value kind_is.Variable h s = variable_value s
  stands_value k h s = absurd (true≢false (sym h))

  stands_variable : (k : NameKind) → suits want_is.Target k ≡ true → StandsAs g p c at x place k → IsVariable g c at x place
  stands_variable kind_is.Variable h s = s
  stands_variable k h s = absurd (true≢false (sym h))

  stands_constant : (k : NameKind) → suits want_is.Constant k ≡ true → StandsAs g p c at x place k → meant c x ≡ value
  stands_constant kind_is.Constant h s = s.1
  stands_constant k h s = absurd (true≢false (sym h))

-- ---- routines

-- a routine that is called by its name, and is no entry
pub record IsCalled (g : Prog Place) (c : Here) (o : Option Thing) (x : Name) : Type 0 where
  pub one : Routine Place
  pub home : Home
  pub thing : o ≡ Some (routine_thing false one)
  pub result : ResultWritten one.kind one.result one.value
  pub found : routine_named c.program c.process x ≡ Some (record { home = home; routine = plain_routine one })

module _ (g : Prog Place) (p : Process Place) (at : Option Place) (c : Here) (x : Name) (place : Place) (o : Option Thing) (is : o ≡ Some (thing_at g place)) where
  stands_routine : (k : NameKind) → suits want_is.Routine k ≡ true → is_barred o ≡ false → StandsAs g p c at x place k → IsCalled g c o x
  stands_routine kind_is.Routine h b s = record { one = s.one; home = s.home; thing = is ∙ ap Some s.thing; result = s.result; found = s.found }
  stands_routine kind_is.Entry h b s = absurd (true≢false (sym (ap is_barred (is ∙ ap Some s.thing)) ∙ b))
  stands_routine k h b s = absurd (true≢false (sym h))

-- a function has the type of its result, which its answer has in the meaning
answers_same : (kind : RoutineKind) (result : Option (Scalar Place)) (given : Option (Expr Place)) → ResultWritten kind result given → not (is_function_kind kind) ≡ false
    → (s : Sort) × (option_map thing.sort_of result ≡ Some s) × (option_map (λ a. scalar_sort a.kind) (plain_answers result given) ≡ Some s)
answers_same procedure result given w h = absurd (true≢false h)
answers_same function (Some s) (Some e) w h = (thing.sort_of s, refl, ap Some (sym (sorts_same s)))
answers_same function (Some s) None w h = absurd w
answers_same function None given w h = absurd w

-- the sort of what it answers, where an expression may call it
pub answer_of : (g : Prog Place) (c : Here) (o : Option Thing) (x : Name) → IsCalled g c o x → is_barred o ≡ false
    → (s : Sort) × (by_form.answer_sort o ≡ Some s) × (answer_sort (routine_named c.program c.process x) ≡ Some s)
answer_of g c o x r h =
    let is_function : not (is_function_kind r.one.kind) ≡ false = sym (ap is_barred r.thing) ∙ h in
    let a = answers_same r.one.kind r.one.result r.one.value r.result is_function in
    (a.0, ap by_form.answer_sort r.thing ∙ a.1, ap answer_sort r.found ∙ a.2)

-- ---- uses

module _ (g : Prog Place) (p : Process Place) (at : Option Place) (site : Site) (c : Here) (x : Name) (q : Place) (more : List Occurrence) (kept : IsKept g) (mirrors : Mirrors g p at site c) where
  pub value_use : AreNames g (used x q want_is.Value (site.means x) ∷ more) → IsValue (named_at g q) (meant c x)
  value_use are =
      let f = used_found g x q want_is.Value (site.means x) more kept are in
      stands_value g p at c x f.declared.place (named_at g q) (named_thing g q want_is.Value (site.means x) f) f.declared.kind f.suited (mirrors.names x f.declared f.meant)

  pub target_use : AreNames g (used x q want_is.Target (site.means x) ∷ more) → (place : Place) × (named_at g q ≡ Some (thing_at g place)) × IsVariable g c at x place
  target_use are =
      let f = used_found g x q want_is.Target (site.means x) more kept are in
      let is = named_thing g q want_is.Target (site.means x) f in
      (f.declared.place, is, stands_variable g p at c x f.declared.place (named_at g q) is f.declared.kind f.suited (mirrors.names x f.declared f.meant))

  pub constant_use : AreNames g (used x q want_is.Constant (site.means x) ∷ more) → meant c x ≡ value
  constant_use are =
      let f = used_found g x q want_is.Constant (site.means x) more kept are in
      stands_constant g p at c x f.declared.place (named_at g q) (named_thing g q want_is.Constant (site.means x) f) f.declared.kind f.suited (mirrors.names x f.declared f.meant)

  pub routine_use : AreNames g (used x q want_is.Routine (site.means x) ∷ more) → is_barred (named_at g q) ≡ false → IsCalled g c (named_at g q) x
  routine_use are b =
      let f = used_found g x q want_is.Routine (site.means x) more kept are in
      stands_routine g p at c x f.declared.place (named_at g q) (named_thing g q want_is.Routine (site.means x) f) f.declared.kind f.suited b (mirrors.names x f.declared f.meant)
