-- No rule for declarations fails of the load.
use Rattle.std.proofs.Common.{◌≡◌, ◌≤◌, ◌+◌, ℕ, inl, inr, false, List, [], ◌∷◌, ◌++◌, Option, Some, None, map, length, refl, ap, ◌∙◌, subst, arith}
use Rattle.std.proofs.lemmas.List.{length-map}
use Rattle.std.specs.Prelude.{if◌then◌else◌, nat_lt, slice_get}
use Rattle.std.proofs.lemmas.Option.{slice_get_past}
use Rattle.std.proofs.lemmas.Bool.{le-ltb}
use Rattle.syntax_tree.specs.declared.place.Place.{Place}
use Rattle.syntax_tree.specs.Placed.{Member, Monitor, Routine, Kind, Process, Decl, process, Prog}
use Rattle.syntax_tree.specs.Bare.{bare}
use Rattle.syntax_tree.specs.Parts.{processes, monitors, devices, events}
use Rattle.static_rule.specs.Parts.{FailsAmong}
use Rattle.static_declarations.specs.Values.{value}
use Rattle.static_numbers.specs.Types.{decls_bounds, members_bounds, routines_bounds, kind_bounds}
use Rattle.static_numbers.specs.Processes.{all_handled}
use Rattle.static_numbers.specs.Counts.{process_places, monitor_places, conditions, member_conditions, routine_places, one_too_many, at_none, words, members_words, placed_kind_size, too_many_words}
use Rattle.static_numbers.specs.Rules.{LimitFails, bounds_rules, process_rules, event_rules, handler_rules, count_rules}
use Rattle.load.specs.Program.{load_program}
use Rattle.load_text_law.proofs.Shapes.{HasShape, has_shape, AreLoad}
use Rattle.load_text_law.proofs.Parts.{NoneOf, none_fails, TwoMembers, two_members, TwoEntries, two_entries, no_bounds_add, no_bounds_pause}
use Rattle.load_text_law.proofs.Processes as ps

module _ (key count : ℕ) (some : 1 ≤ count) (few : count ≤ 64) (g : Prog Place) (s : HasShape key count g.decls) where
  abbrev own : List (Decl Place)
  own = map (λ p. process p) s.list

  members : TwoMembers s.m.members
  members = two_members s.m s.like

  entries : TwoEntries s.m.entries
  entries = two_entries s.m s.like

  -- ---- bounds

  no_bounds : decls_bounds g.decls [] ≡ []
  no_bounds =
      let more = decls_bounds own [] in
      ap (λ (ds : List (Decl Place)). decls_bounds ds []) s.is
      ∙ ap (λ (ms : List (Member Place)). members_bounds ms (routines_bounds s.m.entries more)) members.is
      ∙ ap (λ (k : Kind Place). kind_bounds k (routines_bounds s.m.entries more)) members.whole
      ∙ ap (λ (rs : List (Routine Place)). routines_bounds rs more) entries.is
      ∙ no_bounds_add entries.add entries.add_like (routines_bounds (entries.pause ∷ []) more) ∙ no_bounds_pause entries.pause entries.pause_like more
      ∙ ps.no_bounds key count s.list s.are

  -- ---- counts

  its_processes : processes g.decls ≡ s.list
  its_processes = ap processes s.is ∙ ps.processes-are s.list

  its_events : events g.decls ≡ []
  its_events = ap events s.is ∙ ps.no_events s.list

  some_process : at_none g.place (processes g.decls) ≡ None
  some_process = ap (at_none g.place) its_processes ∙ by s.list s.are
    where
      by : (list : List (Process Place)) → AreLoad key count 0 count list → at_none g.place list ≡ None
      by [] are = absurd (omega (arith, ps.how_many [] are))
      by (p ∷ ps) are = refl

  few_processes : one_too_many 64 (process_places g.decls) ≡ None
  few_processes =
      let places = map (λ (p : Process Place). p.place) s.list in
      let many : length places ≤ 64 = omega (arith, length-map s.list (λ (p : Process Place). p.place), ps.how_many s.list s.are) in
      ap (λ (qs : List (Process Place)). slice_get (map (λ (p : Process Place). p.place) qs) 64) its_processes ∙ slice_get_past places 64 many

  few_monitors : one_too_many 64 (monitor_places g.decls) ≡ None
  few_monitors =
      ap (λ (ds : List (Decl Place)). slice_get (monitor_places ds) 64) s.is
      ∙ ap (λ (ms : List (Monitor Place)). slice_get (map (λ (m : Monitor Place). m.place) (s.m ∷ ms)) 64) (ps.no_monitors s.list)

  few_devices : one_too_many 64 (devices g.decls) ≡ None
  few_devices =
      ap (λ (ds : List (Decl Place)). slice_get (devices ds) 64) s.is
      ∙ ap (λ (places : List Place). slice_get (s.source ∷ s.sink ∷ places) 64) (ps.no_devices s.list)

  few_events : one_too_many 64 (events g.decls) ≡ None
  few_events = ap (λ (places : List Place). slice_get places 64) its_events

  few_conditions : one_too_many 256 (conditions (monitors g.decls)) ≡ None
  few_conditions =
      ap (λ (ds : List (Decl Place)). slice_get (conditions (monitors ds)) 256) s.is
      ∙ ap (λ (ms : List (Monitor Place)). slice_get (conditions (s.m ∷ ms)) 256) (ps.no_monitors s.list)
      ∙ ap (λ (ms : List (Member Place)). slice_get (member_conditions ms ++ []) 256) members.is

  few_routines : one_too_many 512 (routine_places g.decls) ≡ None
  few_routines =
      ap (λ (ds : List (Decl Place)). slice_get (routine_places ds) 512) s.is
      ∙ ap (λ (rs : List (Routine Place)). slice_get (map (λ (r : Routine Place). r.place) (s.m.entries ++ rs)) 512) (ps.no_routines key count s.list s.are)
      ∙ ap (λ (rs : List (Routine Place)). slice_get (map (λ (r : Routine Place). r.place) (rs ++ [])) 512) entries.is

  its_words : words (value g) g.decls ≡ 1 + 0 + count
  its_words =
      let rest = words (value g) own in
      ap (words (value g)) s.is ∙ ap (λ (ms : List (Member Place)). members_words (value g) ms + rest) members.is
      ∙ ap (λ (k : Kind Place). (placed_kind_size (value g) k + 0) + rest) members.whole ∙ ap (λ n. (1 + 0) + n) (ps.one_word_each key count (value g) s.list s.are)

  few_words : too_many_words (value g) g ≡ None
  few_words =
      let o : Option Place = None in
      let under : nat_lt 1048576 (1 + 0 + count) ≡ false = le-ltb 1048576 (1 + 0 + count) (omega arith) in
      ap (λ n. if nat_lt 1048576 n then Some g.place else o) its_words ∙ ap (λ b. if b then Some g.place else o) under

  counts_kept : NoneOf (count_rules g) g
  counts_kept = (some_process, (few_processes, (few_monitors, (few_devices, (few_events, (few_conditions, (few_routines, (few_words, tt))))))))

  -- ---- all

  pub kept : (number : ℕ) (place : Place) → ¬ LimitFails g number place
  kept number place (inl bounds) = subst (λ bs. FailsAmong (bounds_rules g) bs number place) no_bounds bounds
  kept number place (inr (inl frames)) =
      ps.frames_kept g count some few key 0 count s.list s.are number place (subst (λ qs. FailsAmong (process_rules g) qs number place) its_processes frames)
  kept number place (inr (inr (inl used))) = subst (λ es. FailsAmong (event_rules g) es number place) its_events used
  kept number place (inr (inr (inr (inl numbers)))) =
      ps.handlers_kept g key count 0 count s.list s.are number place (subst (λ qs. FailsAmong (handler_rules g) (all_handled qs) number place) its_processes numbers)
  kept number place (inr (inr (inr (inr (inl here))))) = none_fails (count_rules g) g counts_kept number place here
  kept number place (inr (inr (inr (inr (inr impossible))))) = impossible

pub limits_kept : (key count : ℕ) → 1 ≤ count → count ≤ 64 → (g : Prog Place) → bare g ≡ load_program key count → (number : ℕ) (place : Place) → ¬ LimitFails g number place
limits_kept key count some few g same = kept key count some few g (has_shape key count g same)
