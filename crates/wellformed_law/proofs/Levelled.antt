-- The level of a name is that of the routine that it means in a process: so the meaning's routines have levels.
use Rattle.std.proofs.Common.{◌≡◌, ◌<◌, ℕ, ◌⊎◌, inl, inr, true, [], ◌∷◌, Option, Some, refl, ap, sym, subst, true≢false}
use Rattle.std.specs.Prelude.{Contains}
use Rattle.syntax_tree.specs.Plain as plain_of
use Rattle.syntax_tree.specs.Plain.{Name}
use Rattle.syntax_tree.specs.Placed.{Routine, Process, routine, process, Prog, plain, plain_process, plain_routine}
use Rattle.syntax_tree.specs.Parts.{program_routines, routines}
use Rattle.syntax_tree.specs.declared.place.Place.{Place}
use Rattle.static_names.specs.declared.kind.Kind.{Kind}
use Rattle.static_names.specs.declared.kind.Kind.TheVariants as kind_is
use Rattle.static_names.specs.declared.kind.NameUse.TheVariants as want_is
use Rattle.static_names.specs.Reach.{suits, Site, inside}
use Rattle.static_names.specs.Occurrences.{names, declared_at, routine_scope}
use Rattle.source_semantics.specs.Names.{routine_count}
use Rattle.source_semantics.specs.Run.{Found, routine_named}
use Rattle.source_semantics.specs.Nesting.{StmtsBelow, AnswersBelow, Levels}
use Rattle.static_calls.specs.Calls.{routine_calls}
use Rattle.static_semantics.specs.Places.{NamesFound}
use Rattle.static_semantics.specs.Mirrors.{routine_of, IsEntry, StandsAs, Mirrors, program_site, process_site, NamesListed, AreMirrored}
use Rattle.wellformed_law.specs.Levels.{ArePlaceLevels, HasPlaceLevels}
use Rattle.wellformed_law.proofs.WellformedCallsBehind.{at_process_routine}
use Rattle.wellformed_law.proofs.Named.{found_in_text, routine_of-cases, split-listed, split-routine, routine_of-listed, routine_count-plain}
use Rattle.wellformed_law.proofs.Below.{Leads, Known, name_level, level_of, AreNames, names-rest, AllFall, RoutineBelow, routine_below}

module _ (g : Prog Place) (p : Process Place) (own : Contains g.decls (process p)) where
  -- outside monitors each name that may be called means a routine
  known_outside : (at : Option Place) (site : Site) (c : _) → ((place : Place) → ¬ IsEntry g c place) → Mirrors g p at site c → Known g p site
  known_outside at site c outside mirrors x d means suited = by d.kind suited (mirrors.names x d means)
    where
      by : (k : Kind) → suits want_is.Routine k ≡ true → StandsAs g p c at x d.place k → Leads g p x d.place
      by kind_is.Program s stands = absurd (true≢false (sym s))
      by kind_is.Constant s stands = absurd (true≢false (sym s))
      by kind_is.Device s stands = absurd (true≢false (sym s))
      by kind_is.Event s stands = absurd (true≢false (sym s))
      by kind_is.Routine s stands = record { one = stands.one; listed = routine_of-listed g p own x stands.one stands.listed; is = stands.is; found = stands.listed }
      by kind_is.Entry s stands = absurd (outside d.place stands)
      by kind_is.Monitor s stands = absurd (true≢false (sym s))
      by kind_is.Process s stands = absurd (true≢false (sym s))
      by kind_is.Variable s stands = absurd (true≢false (sym s))
      by kind_is.LoopVariable s stands = absurd (true≢false (sym s))
      by kind_is.Condition s stands = absurd (true≢false (sym s))

  module _ (found : NamesFound g) (listed : NamesListed g) (mirrored : AreMirrored g p) (level : Place → ℕ) (levels : ArePlaceLevels g level) where
    -- the routine's calls fall
    falls : (one : Routine Place) → Contains (routines g.decls) one → AllFall g level (level one.place) (routine_calls (declared_at (names g)) one)
    falls one is_listed q call to to_listed is = levels.falls one.place q (record { caller = one; listed = is_listed; is = refl; call = call }) to to_listed is

    inner_below : (one : Routine Place) → Contains (routines g.decls) one → Contains p.routines one → RoutineBelow g p level found (level one.place) one
    inner_below one is_listed inner =
        let s = split-listed g.decls (process p) own in
        let a = at_process_routine (AreNames g) (names-rest g) (program_site g s.before (process p ∷ s.after)) p one [] inner (listed s.before (process p) s.after s.is) in
        routine_below g p level found (level one.place) (process_site g s.before p s.after) one a.more
        (known_outside (Some one.place) (inside (routine_scope one) (process_site g s.before p s.after)) _ (λ place e. true≢false (sym e.inside)) (mirrored.routines_of_process s.before s.after one s.is inner)) a.holds (falls one is_listed)

    outer_below : (one : Routine Place) → Contains (routines g.decls) one → Contains (program_routines g.decls) one → RoutineBelow g p level found (level one.place) one
    outer_below one is_listed outer =
        let s = split-routine g.decls one outer in
        routine_below g p level found (level one.place) (program_site g s.before (routine one ∷ s.after)) one []
        (known_outside (Some one.place) (inside (routine_scope one) (program_site g s.before (routine one ∷ s.after))) _ (λ place e. true≢false (sym e.inside)) (mirrored.routines_of_program s.before s.after one s.is))
        (listed s.before (routine one) s.after s.is) (falls one is_listed)

    one_below : (f : Name) (one : Routine Place) → routine_of g p f ≡ Some one → RoutineBelow g p level found (level one.place) one
    one_below f one is = by (routine_of-cases g p f one is)
      where
        is_listed : Contains (routines g.decls) one
        is_listed = routine_of-listed g p own f one is

        by : Contains p.routines one ⊎ Contains (program_routines g.decls) one → RoutineBelow g p level found (level one.place) one
        by (inl inner) = inner_below one is_listed inner
        by (inr outer) = outer_below one is_listed outer

    pub body_below : (f : Name) (r : Found) → routine_named (plain g) (plain_process p) f ≡ Some r → StmtsBelow (name_level g p level) (name_level g p level f) r.routine.body
    body_below f r e =
        let t = found_in_text g p f r e in
        let b = one_below f t.one t.listed in
        subst (λ (q : plain_of.Routine). StmtsBelow (name_level g p level) (name_level g p level f) q.body) t.is
        (subst (λ n. StmtsBelow (name_level g p level) n (plain_routine t.one).body) (sym (ap (level_of level) t.listed)) b.body)

    pub answers_below : (f : Name) (r : Found) → routine_named (plain g) (plain_process p) f ≡ Some r → AnswersBelow (name_level g p level) (name_level g p level f) r.routine.answers
    answers_below f r e =
        let t = found_in_text g p f r e in
        let b = one_below f t.one t.listed in
        subst (λ (q : plain_of.Routine). AnswersBelow (name_level g p level) (name_level g p level f) q.answers) t.is
        (subst (λ n. AnswersBelow (name_level g p level) n (plain_routine t.one).answers) (sym (ap (level_of level) t.listed)) b.answers)

    pub few_levels : (f : Name) (r : Found) → routine_named (plain g) (plain_process p) f ≡ Some r → name_level g p level f < routine_count (plain g)
    few_levels f r e =
        let t = found_in_text g p f r e in
        let is_listed = routine_of-listed g p own f t.one t.listed in
        subst (λ n. n < routine_count (plain g)) (sym (ap (level_of level) t.listed))
        (subst (λ n. level t.one.place < n) (sym (routine_count-plain g)) (levels.few t.one is_listed))

pub named_levels : (g : Prog Place) → NamesFound g → NamesListed g → HasPlaceLevels g → (p : Process Place) → Contains g.decls (process p) → AreMirrored g p
    → (level : Name → ℕ) × Levels (plain g) (plain_process p) level
named_levels g found listed has p own mirrored = (
  name_level g p has.level,
  record {
    body = body_below g p own found listed mirrored has.level has.are_levels;
    answers = answers_below g p own found listed mirrored has.level has.are_levels;
    few = few_levels g p own found listed mirrored has.level has.are_levels;
  },
)
