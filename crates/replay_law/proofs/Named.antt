-- Identifiers are words, and so are the names of the parts of a program.
use Rattle.std.proofs.Common.{◌≡◌, ◌≢◌, ℕ, suc, Bool, true, false, List, [], ◌∷◌, length, map, filter_map, arith, refl, sym, ap, ◌∙◌}
use Rattle.std.specs.Prelude.{All}
use Rattle.std.specs.List.{list_all}
use Rattle.std.proofs.lemmas.List.{length-map}
use Rattle.std.proofs.lemmas.List.Elements.{All-nil, All-cons, All-head, All-tail, All-map, All-append, All-weaker}
use Rattle.std.proofs.lemmas.Bool.{and_parts}
use Rattle.syntax_tree.specs.Placed.{plain}
use Rattle.syntax_tree.specs.Plain.{Name, Monitor, Process, Declaration, constant, device, event, routine, monitor, process, Program}
use Rattle.source_semantics.specs.Names.{processes, monitors, conditions_of, device_in}
use Rattle.syntax.specs.Spellings.{is_identifier, is_letter, is_word}
use Rattle.text_fields.specs.Fields.{IsWord, Lacks}
use Rattle.image.specs.declared.names.ConditionName.{ConditionName}
use Rattle.image.specs.declared.names.DeviceName.{DeviceName}
use Rattle.built_image.specs.Named.{named_conditions, named_device, names_of}
use Rattle.event_log.specs.Logs.{AreWordNames}
use Rattle.replay_law.specs.Words.{IsIdentifier, MonitorIsNamed, NamesAreIdentifiers, NamesOfTextsAreIdentifiers, NamesOfTextsAreWords}
use Rattle.built_valid_law.proofs.Names.{conditions_placed}
use Rattle.built_valid_law.proofs.Counts.{named_in}

-- ---- bytes

-- a byte that passes a test is none that does not
passes : (test : ℕ → Bool) (b stop : ℕ) → test b ≡ true → test stop ≡ false → b ≢ stop
passes test b stop passed failed e = let clash : true ≡ false = sym passed ∙ ap test e ∙ failed in cc

lacks : (stop : ℕ) (bs : List ℕ) → is_word stop ≡ false → list_all is_word bs ≡ true → Lacks stop bs
lacks stop [] failed all = tt
lacks stop (b ∷ bs) failed all =
    let parts = and_parts (is_word b) (list_all is_word bs) all in
    (passes is_word b stop parts.0 failed, lacks stop bs failed parts.1)

whole_lacks : (stop b : ℕ) (bs : List ℕ) → is_letter stop ≡ false → is_word stop ≡ false → is_identifier (b ∷ bs) ≡ true → Lacks stop (b ∷ bs)
whole_lacks stop b bs letter failed is =
    let parts = and_parts (is_letter b) (list_all is_word bs) is in
    (passes is_letter b stop parts.0 letter, lacks stop bs failed parts.1)

pub identifier_is_word : (name : Name) → IsIdentifier name → IsWord name
identifier_is_word name is = by name is.0 where
  by : (bytes : List ℕ) → is_identifier bytes ≡ true → IsWord bytes
  by [] spelled = absurd cc
  by (b ∷ bs) spelled = record { some = omega arith; no_space = whole_lacks 32 b bs refl refl spelled; no_line_feed = whole_lacks 10 b bs refl refl spelled }

-- ---- the parts of a program

abbrev ConditionIsWord : ConditionName → Type 0
ConditionIsWord c = IsWord c.name

abbrev DeviceIsWord : DeviceName → Type 0
DeviceIsWord d = IsWord d.name

conditions_are_words : (k : ℕ) (ms : List Monitor) → All MonitorIsNamed ms → All ConditionIsWord (named_conditions k ms)
conditions_are_words k [] all = All-nil ConditionIsWord
conditions_are_words k (m ∷ ms) all =
    All-append ConditionIsWord (map (named_in k) (conditions_of m)) (named_conditions (suc k) ms)
    (All-map ConditionIsWord (named_in k) (conditions_of m) (All-weaker IsIdentifier IsWord identifier_is_word (conditions_of m) (All-head MonitorIsNamed m ms all).conditions))
    (conditions_are_words (suc k) ms (All-tail MonitorIsNamed m ms all))

devices_are_words : (ds : List Declaration) → All IsIdentifier (filter_map device_in ds) → All DeviceIsWord (filter_map named_device ds)
devices_are_words [] all = All-nil DeviceIsWord
devices_are_words (constant n c ∷ ds) all = devices_are_words ds all
devices_are_words (device n o ∷ ds) all =
    All-cons DeviceIsWord (record { name = n; out = o }) (filter_map named_device ds) (identifier_is_word n (All-head IsIdentifier n (filter_map device_in ds) all))
    (devices_are_words ds (All-tail IsIdentifier n (filter_map device_in ds) all))
devices_are_words (event n ∷ ds) all = devices_are_words ds all
devices_are_words (routine r ∷ ds) all = devices_are_words ds all
devices_are_words (monitor m ∷ ds) all = devices_are_words ds all
devices_are_words (process p ∷ ds) all = devices_are_words ds all

pub names_are_words : (g : Program) → NamesAreIdentifiers g → AreWordNames (names_of g)
names_are_words g all = record {
  processes = All-map IsWord (λ (p : Process). p.name) (processes g) (All-weaker (λ (p : Process). IsIdentifier p.name) (λ (p : Process). IsWord p.name) (λ p is. identifier_is_word p.name is) (processes g) all.of_processes);
  monitors = All-map IsWord (λ (m : Monitor). m.name) (monitors g) (All-weaker MonitorIsNamed (λ (m : Monitor). IsWord m.name) (λ m is. identifier_is_word m.name is.name) (monitors g) all.of_monitors);
  conditions = conditions_are_words 0 (monitors g) all.of_monitors;
  placed = conditions_placed (length (map (λ (m : Monitor). m.name) (monitors g))) 0 (monitors g) (let many = length-map (monitors g) (λ (m : Monitor). m.name) in omega (arith, many));
  devices = devices_are_words g.decls all.of_devices;
}

pub names_of_texts_are_words : NamesOfTextsAreIdentifiers → NamesOfTextsAreWords
names_of_texts_are_words identifiers text g tree = names_are_words (plain g) (identifiers text g tree)
