-- The names of a program are sound.
use Rattle.std.proofs.Common.{◌≡◌, ◌≢◌, true, false, length, map, arith, sym, ap, ◌∙◌}
use Rattle.std.specs.Prelude.{codes}
use Rattle.std.proofs.lemmas.List.{length-map}
use Rattle.std.proofs.lemmas.List.Elements.{All-map, All-weaker}
use Rattle.syntax_tree.specs.Plain as plain_of
use Rattle.syntax_tree.specs.Plain.{Name}
use Rattle.syntax_tree.specs.Placed.{Prog, plain}
use Rattle.syntax_tree.specs.declared.place.Place.{Place}
use Rattle.source_semantics.specs.Names.{processes}
use Rattle.syntax.specs.Spellings.{is_identifier}
use Rattle.static_names.specs.Resolved.{IsRead, IsNamed}
use Rattle.image.specs.declared.names.DeviceName.{DeviceName}
use Rattle.image.specs.declared.names.ImageNames.{ImageNames}
use Rattle.built_image.specs.Named.{names_of}
use Rattle.event_log.specs.Line.{device_name}
use Rattle.event_log.specs.LogReading.{AreDistinct}
use Rattle.static_semantics.specs.Places.{NamesFound}
use Rattle.static_semantics.specs.Mirrors.{NamesListed}
use Rattle.replay_law.specs.Words.{IsIdentifier, NamesAreIdentifiers, NamesOfTextsAreIdentifiers, NamesOfTextsAreWords}
use Rattle.replay_law.specs.SoundNames.{NamesOfProgramsAreSound}
use Rattle.replay_law.proofs.Differing.{Differing, one_place, mapped_at}
use Rattle.replay_law.proofs.Declared.{processes_differ, monitors_differ, devices_differ, conditions_differ}
use Rattle.replay_law.proofs.Qualified.{conditions_apart, conditions_distinct}

no_dash : (name : Name) → IsIdentifier name → name ≢ codes "-"
no_dash name is e = let clash : true ≡ false = sym is.0 ∙ ap is_identifier e in cc

devices_distinct : (names : ImageNames) → Differing (map (λ (d : DeviceName). d.name) names.devices) → AreDistinct (length names.devices) (device_name names)
devices_distinct names differ i j low below e =
    let many = length-map names.devices (λ (d : DeviceName). d.name) in
    one_place (map (λ (d : DeviceName). d.name) names.devices) differ i j (omega (arith, low, many)) (omega (arith, below, many))
    (sym (mapped_at (λ (d : DeviceName). d.name) names.devices i) ∙ (e ∙ mapped_at (λ (d : DeviceName). d.name) names.devices j))

pub names_of_programs_are_sound : ((g : Prog Place) → IsRead g → IsNamed g → NamesFound g) → ((g : Prog Place) → NamesListed g) → NamesOfTextsAreIdentifiers → NamesOfTextsAreWords → NamesOfProgramsAreSound
names_of_programs_are_sound names_found names_listed identifiers texts text g is =
    let found : NamesFound g = names_found g is.checked.read is.checked.named in
    let listed : NamesListed g = names_listed g in
    let named : NamesAreIdentifiers (plain g) = identifiers text g is.tree in
    let words = texts text g is.tree in
    record {
      words = words;
      no_dash = All-map (λ (n : Name). n ≢ codes "-") (λ (p : plain_of.Process). p.name) (processes (plain g))
          (All-weaker (λ (p : plain_of.Process). IsIdentifier p.name) (λ (p : plain_of.Process). p.name ≢ codes "-") (λ p named. no_dash p.name named) (processes (plain g)) named.of_processes);
      processes = one_place (names_of (plain g)).processes (processes_differ g found listed);
      monitors = one_place (names_of (plain g)).monitors (monitors_differ g found listed);
      devices = devices_distinct (names_of (plain g)) (devices_differ g found listed);
      conditions = conditions_distinct (names_of (plain g)) words (one_place (names_of (plain g)).monitors (monitors_differ g found listed)) (conditions_apart 0 g.decls (conditions_differ g found listed));
    }
