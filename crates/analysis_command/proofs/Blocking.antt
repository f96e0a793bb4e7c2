-- What is reached first makes the block.
use Rattle.std.specs.Prelude.{◌≡◌, ◌≤◌, ◌<◌, ◌+◌, ◌-◌, ◌||◌, ℕ, suc, true, List, [], ◌∷◌, Option, Some, None, IsSomeAnd, Contains, drop, length, nat_eq, nat_le, slice_get}
use Rattle.std.proofs.Common.{inl, inr, refl, sym, ap, ◌∙◌, arith}
use Rattle.std.proofs.lemmas.Bool.{false≢true, and_parts, and_from, eqb-true, eq-eqb, leb-true, le-leb}
use Rattle.std.proofs.lemmas.List.{get_or-drop, length-map}
use Rattle.std.proofs.lemmas.Option.{none-some, same_Some, slice_get_within}
use Rattle.base.proofs.Lists.{some_at}
use Rattle.base.proofs.Members.{front_or_behind, none_in}
use Rattle.base.specs.Capped.{cap}
use Rattle.syntax_tree.specs.Plain.{Monitor, Process, Program}
use Rattle.source_semantics.specs.Names.{monitors, processes}
use Rattle.source_semantics.specs.Ranks.{rank, ceiling}
use Rattle.machine_semantics.specs.Image as image
use Rattle.code_spec.specs.Layout.{Owner, by_program, by_process, by_monitor}
use Rattle.code_spec.specs.Numbering.{Text, same_text, is_among, numbered, number_of}
use Rattle.code_cost_spec.specs.Levels.{stay_of_entry}
use Rattle.codegen_law.specs.Kept.{NamesDiffer}
use Rattle.codegen_law.specs.Numbered.{AreNumbered, texts}
use Rattle.codegen_law.proofs.NameNumbers.{IsText, text_is, or_true}
use Rattle.codegen_law.proofs.Rows.{placed, program_texts, text_at, text_same}
use Rattle.codegen_law.proofs.NumberedLemmas.{text_listed, listed_text}
use Rattle.codegen_law.proofs.SoundLemmas.{are_numbered}
use Rattle.sched_program.specs.Tasks.{process_comes_to, IsLowerStay, IsBlock}
use Rattle.sched_program.specs.Blockers.{entry_of, place_in}
use Rattle.built_tasks_law.specs.Calls.{RoutinesCallTheirTexts, ProcessesCallTheirTexts}
use Rattle.built_tasks_law.specs.Ranks.{RanksAreOfTheMeaning, CeilingsAreOfTheMeaning}
use Rattle.built_tasks_law.specs.Touches.{process_comes_to_one}
use Rattle.built_tasks_law.proofs.Whole.{as_many_routines}
use Rattle.built_tasks_law.proofs.Comes.{Goal, process_goal, process_comes}
use Rattle.code_names.specs.declared.nearest.Reached.{Reached}
use Rattle.code_names.specs.Goals.{calls_at, earliest_of, IsFirst, IsFirstReached}
use Rattle.analysis_command.specs.declared.graph.CallGraph.{CallGraph}
use Rattle.analysis_command.specs.Graphs.{IsCallGraph, IsImageOfText}
use Rattle.analysis_command.specs.Found.{IsFoundOf, IsBlockerAt, FoundIsTheBlocker}
use Rattle.analysis_command.proofs.Reached.{ceiling_low, owner_low, text_goal, goal_within, at_most, comes, home_there}
use Rattle.analysis_command.proofs.Pieces.{many, piece_there, Whose, whose}

-- ---- a text at its place

among : (us : List Text) (t : Text) → Contains us t → is_among t us ≡ true
among [] t h = absurd (none_in t h)
among (u ∷ us) t h = elim (front_or_behind u us t h) [
  | inl e ↦ ap (λ b. b || is_among t us) (ap (λ v. same_text v t) e ∙ text_is t)
  | inr later ↦ ap (λ b. same_text u t || b) (among us t later) ∙ or_true (same_text u t)
]

stands_at_place : (g : Program) (of : NamesDiffer g) (t : Text) → IsText g t → slice_get (texts g) (place_in g t) ≡ Some t
stands_at_place g of t text =
    let at = placed t (texts g) (among (texts g) t (text_listed g of t text)) in
    at.1 ∙ ap (λ u. Some u) (text_same g at.0 t (text_at g (texts g) (place_in g t) at.0 (program_texts g of) at.1) text at.2)

-- ---- owners

record Home (g : Program) (held : ℕ) (o : Owner) : Type 0 where
  monitor : ℕ
  is : o ≡ by_monitor monitor
  reaches : IsSomeAnd (ceiling g monitor) (λ c. c ≤ held)

home : (g : Program) (held : ℕ) (o : Owner) → owner_low g held o ≡ true → Home g held o
home g held by_program h = absurd (false≢true h)
home g held (by_process k) h = absurd (false≢true h)
home g held (by_monitor j) h = record { monitor = j; is = refl; reaches = by (ceiling g j) h } where
  by : (o : Option ℕ) → ceiling_low held o ≡ true → IsSomeAnd o (λ c. c ≤ held)
  by None e = absurd (false≢true e)
  by (Some c) e = leb-true c held e

low_home : (held : ℕ) (o : Option ℕ) → IsSomeAnd o (λ c. c ≤ held) → ceiling_low held o ≡ true
low_home held None h = absurd h
low_home held (Some c) h = le-leb c held h

module _ (g : Program) (m : image.Image) (graph : CallGraph) (held block : ℕ) (of : IsImageOfText g m) (is_graph : IsCallGraph g m graph) (few : held < 65535)
    (routines : RoutinesCallTheirTexts) (bodies : ProcessesCallTheirTexts) (ranks : RanksAreOfTheMeaning) (ceilings : CeilingsAreOfTheMeaning) (found : Option Reached) (is_found : IsFoundOf m graph held block found) where
  -- the first place that a process comes to
  abbrev reached : ℕ → Option ℕ
  reached k = earliest_of is_found.row (calls_at (drop (length m.routines) graph.calls.items) k)

  reaches : (s k : ℕ) (p : Process) → slice_get (processes g) k ≡ Some p → at_most s (reached k) ≡ process_comes_to_one g (goal_within g held block s) k p
  reaches s k p at =
      ap (λ rs. at_most s (earliest_of is_found.row rs)) (get_or-drop (length m.routines) graph.calls.items k [])
      ∙ comes g m of ceilings held block few routines bodies graph.places.items is_graph.places is_found.goals is_found.are_goals graph.calls.items is_graph.calls is_found.row is_found.are_first s k p at
      (let low = slice_get_within (processes g) k p at in omega (arith, low, many g m of ranks))

  numbers : AreNumbered g
  numbers = are_numbered g of.form of.names

  text_of : (stay : IsLowerStay g held block) → IsText g (entry_of stay)
  text_of stay = listed_text g of.names.differ (entry_of stay) (numbers.listed stay.at (entry_of stay) stay.declared)

  there : (stay : IsLowerStay g held block) → stay.number < length m.processes
  there stay = (let low = slice_get_within (processes g) stay.number stay.process stay.there in omega (arith, low, many g m of ranks))

  home_of : (stay : IsLowerStay g held block) → (x : Monitor) × (slice_get (monitors g) stay.monitor ≡ Some x)
  home_of stay = some_at (monitors g) stay.monitor (home_there g stay.monitor (entry_of stay) refl (text_of stay))

  -- ---- the process of a stay comes to its entry, or to an earlier place

  record ReachesStay (stay : IsLowerStay g held block) : Type 0 where
    place : ℕ
    is : reached stay.number ≡ Some place
    low : place ≤ place_in g (entry_of stay)

  stay_reached : (stay : IsLowerStay g held block) → ReachesStay stay
  stay_reached stay = by (reached stay.number) refl where
    is_goal : goal_within g held block (place_in g (entry_of stay)) (entry_of stay) ≡ true
    is_goal = and_from (text_goal g held block (entry_of stay)) (nat_le (place_in g (entry_of stay)) (place_in g (entry_of stay)))
        (and_from (ceiling_low held (ceiling g stay.monitor)) (nat_eq (cap (stay_of_entry g (entry_of stay))) block) (low_home held (ceiling g stay.monitor) stay.reaches_up)
        (eq-eqb (cap (stay_of_entry g (entry_of stay))) block (sym stay.stays)))
        (le-leb (place_in g (entry_of stay)) (place_in g (entry_of stay)) (omega arith))

    come : at_most (place_in g (entry_of stay)) (reached stay.number) ≡ true
    come = reaches (place_in g (entry_of stay)) stay.number stay.process stay.there
        ∙ process_comes g of.names (goal_within g held block (place_in g (entry_of stay))) stay.number stay.process (entry_of stay) (text_of stay) is_goal stay.called

    by : (o : Option ℕ) → reached stay.number ≡ o → ReachesStay stay
    by None e = absurd (false≢true (sym (ap (λ o. at_most (place_in g (entry_of stay)) o) e) ∙ come))
    by (Some p) e = record { place = p; is = e; low = leb-true p (place_in g (entry_of stay)) (sym (ap (λ o. at_most (place_in g (entry_of stay)) o) e) ∙ come) }

  -- ---- a place that a process comes to is that of such a stay

  record StayAt (k place : ℕ) : Type 0 where
    stay : IsLowerStay g held block
    number : stay.number ≡ k
    at : place_in g (entry_of stay) ≡ place

  of_goal : (k place : ℕ) (p : Process) → slice_get (processes g) k ≡ Some p → held < rank g k → reached k ≡ Some place
      → Goal g of.names (goal_within g held block place) (λ goal. process_comes_to g goal k p ≡ true) → StayAt k place
  of_goal k place p at lower is e =
      let parts = and_parts (text_goal g held block e.goal) (nat_le (place_in g e.goal) place) e.passes in
      let halves = and_parts (owner_low g held e.goal.owner) (nat_eq (cap (stay_of_entry g e.goal)) block) parts.0 in
      let h = home g held e.goal.owner halves.0 in
      let same : e.goal ≡ record { owner = by_monitor h.monitor; routine = e.goal.routine } = ap (λ w. record { owner = w; routine = e.goal.routine }) h.is in
      let own : IsLowerStay g held block = record {
        number = k;
        process = p;
        there = at;
        lower = lower;
        monitor = h.monitor;
        reaches_up = h.reaches;
        entry = e.goal.routine;
        at = number_of g e.goal;
        declared = numbers.there e.goal (text_listed g of.names.differ e.goal e.text) ∙ ap (λ (t : Text). Some t) same;
        called = ap (λ (t : Text). process_comes_to g t k p) (sym same) ∙ e.comes;
        stays = sym (ap (λ (t : Text). cap (stay_of_entry g t)) (sym same) ∙ eqb-true (cap (stay_of_entry g e.goal)) block halves.1);
      } in
      let first = stay_reached own in
      let low : place_in g (entry_of own) ≤ place = (let l = leb-true (place_in g e.goal) place parts.1 in omega (arith, l, ap (λ (t : Text). place_in g t) same)) in
      let own_place : first.place ≡ place = same_Some first.place place (sym first.is ∙ is) in
      record { stay = own; number = refl; at = omega (arith, low, own_place, first.low) }

  reached_stay : (k place : ℕ) → k < length m.processes → held < rank g k → reached k ≡ Some place → StayAt k place
  reached_stay k place low lower is =
      let p = some_at (processes g) k (omega (arith, low, many g m of ranks)) in
      let come : process_comes_to_one g (goal_within g held block place) k p.0 ≡ true = sym (reaches place k p.0 p.1) ∙ (ap (λ o. at_most place o) is ∙ le-leb place place (omega arith)) in
      of_goal k place p.0 p.1 lower is (process_goal g of.names (goal_within g held block place) k p.0 come)

  -- ---- what is reached first

  abbrev lower_pieces : List ℕ
  lower_pieces = drop held graph.ranked.items

  abbrev place_of : ℕ → Option ℕ
  place_of k = reached k

  among_lower : (stay : IsLowerStay g held block) → slice_get lower_pieces (rank g stay.number - 1 - held) ≡ Some stay.number
  among_lower stay = piece_there g m of ranks graph.ranked.items is_graph.ranked held stay.number (there stay) stay.lower

  nothing : IsBlock g held block → IsFirst place_of lower_pieces None → block ≡ 0
  nothing is_block none = elim is_block.one [
    | inl zero_block ↦ zero_block
    | inr stay ↦ (let r = stay_reached stay in absurd (none-some r.place (sym (none (rank g stay.number - 1 - held) stay.number (among_lower stay)) ∙ r.is)))
  ]

  first_is : (b : Reached) → IsFirstReached place_of lower_pieces b → IsBlockerAt g held block b.place b.piece
  first_is b f = by (whose g m of ranks graph.ranked.items is_graph.ranked held f.at b.piece f.there) where
    of_whose : (w : Whose g m of ranks graph.ranked.items is_graph.ranked held f.at b.piece) → StayAt w.process b.place → IsBlockerAt g held block b.place b.piece
    of_whose w s = record {
      stay = s.stay;
      first = λ other. (let r = stay_reached other in let l = f.first (rank g other.number - 1 - held) other.number r.place (among_lower other) r.is in omega (arith, s.at, l, r.low));
      nearest = λ other same. (
          let r = stay_reached other in
          let l = f.first (rank g other.number - 1 - held) other.number r.place (among_lower other) r.is in
          let e : r.place ≡ b.place = omega (arith, l, r.low, same, s.at) in
          let n = f.nearest (rank g other.number - 1 - held) other.number (among_lower other) (r.is ∙ ap (λ p. Some p) e) in
          let own : rank g s.stay.number ≡ suc (held + f.at) = ap (λ k. rank g k) s.number ∙ w.is_rank in
          omega (arith, own, n, other.lower));
      stands = ap (λ n. slice_get (texts g) n) (sym s.at) ∙ stands_at_place g of.names.differ (entry_of s.stay) (text_of s.stay);
      number = s.number ∙ sym w.is_piece;
      owner = (home_of s.stay).0;
      owns = (home_of s.stay).1;
    }

    by : Whose g m of ranks graph.ranked.items is_graph.ranked held f.at b.piece → IsBlockerAt g held block b.place b.piece
    by w = of_whose w (reached_stay w.process b.place w.low (omega (arith, w.is_rank)) (ap (λ k. place_of k) (sym w.is_piece) ∙ f.is))

few_ranks : (g : Program) (m : image.Image) (graph : CallGraph) (held : ℕ) → IsImageOfText g m → IsCallGraph g m graph → RanksAreOfTheMeaning → held ≤ length graph.ranked.items → held < 65535
few_ranks g m graph held of is_graph ranks low =
    let as_many = many g m of ranks in
    let most : length (processes g) ≤ 64 = of.form.counts_fit.few_processes in
    omega (arith, low, is_graph.ranked.one_each, as_many, most)

pub found_is : RoutinesCallTheirTexts → ProcessesCallTheirTexts → RanksAreOfTheMeaning → CeilingsAreOfTheMeaning → FoundIsTheBlocker
found_is routines bodies ranks ceilings g m graph held block None of is_graph low is_block is_found =
    nothing g m graph held block of is_graph (few_ranks g m graph held of is_graph ranks low) routines bodies ranks ceilings None is_found is_block is_found.is_first
found_is routines bodies ranks ceilings g m graph held block (Some b) of is_graph low is_block is_found =
    first_is g m graph held block of is_graph (few_ranks g m graph held of is_graph ranks low) routines bodies ranks ceilings (Some b) is_found b is_found.is_first

pub places_long : (g : Program) (m : image.Image) (graph : CallGraph) → IsImageOfText g m → IsCallGraph g m graph → length graph.places.items ≡ length m.routines
places_long g m graph of is_graph =
    ap (λ (ps : List ℕ). length ps) is_graph.places
    ∙ (length-map (numbered g) (λ (t : Text). place_in g t) ∙ sym (as_many_routines g m.code 0 of.code.between (numbered g) m.routines of.code.routine_code))
