-- Names are few.
use Rattle.std.proofs.Common.{◌≡◌, ◌≤◌, ◌^◌, length, filter_map, arith, ap, subst, sym}
use Rattle.std.proofs.lemmas.List.{length-map}
use Rattle.image.specs.declared.names.ImageNames.{ImageNames}
use Rattle.event_log.specs.Logs.{AreFew}
use Rattle.syntax_tree.specs.declared.place.Place.{Place}
use Rattle.syntax_tree.specs.Placed.{Prog as Placed, plain}
use Rattle.syntax_tree.specs.Plain.{Monitor, Name, Process, Program}
use Rattle.source_semantics.specs.Names.{processes, monitors, event_in}
use Rattle.static_semantics.specs.WellFormed.{CountsFit}
use Rattle.built_image.specs.Named.{names_of, named_event}
use Rattle.replay.specs.Held.{AreNamesFor}
use Rattle.built_valid_law.proofs.Counts.{names_of_conditions, names_of_devices}

module _ (g : Program) (counts : CountsFit g) (names : ImageNames) (same : names ≡ names_of g) where
  few_of : AreFew (names_of g)
  few_of = record {
    processes = let many = length-map (processes g) (λ (p : Process). p.name) in omega (arith, many, counts.few_processes);
    monitors = let many = length-map (monitors g) (λ (m : Monitor). m.name) in omega (arith, many, counts.few_monitors);
    conditions = let many = names_of_conditions 0 (monitors g) in omega (arith, many, counts.few_conditions);
    devices = let many = names_of_devices g.decls in omega (arith, many, counts.few_devices);
  }

  few_events : length names.events ≤ 2 ^ 16
  few_events =
      let many : length (names_of g).events ≡ length (filter_map event_in g.decls) = length-map (filter_map event_in g.decls) (λ (e : Name). named_event g e) in
      let here : length names.events ≡ length (names_of g).events = ap (λ (n : ImageNames). length n.events) same in
      omega (arith, many, here, counts.few_events)

  few_names : AreFew names
  few_names = subst AreFew (sym same) few_of

pub names_for : (g : Placed Place) → CountsFit (plain g) → (names : ImageNames) → names ≡ names_of (plain g) → AreNamesFor g names
names_for g counts names same = record { same = same; few = few_names (plain g) counts names same; events = few_events (plain g) counts names same }
