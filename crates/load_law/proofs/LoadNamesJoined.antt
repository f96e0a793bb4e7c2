-- No name of the load is refused.
use Rattle.std.proofs.Common.{◌≡◌, ◌≤◌, ◌<◌, ◌+◌, ◌^◌, ℕ, Bool, true, false, ◌||◌, List, [], ◌∷◌, ◌++◌, Some, None, codes, map, refl, ap, sym, ◌∙◌, subst, arith}
use Rattle.std.specs.Prelude.{if◌then◌else◌, is_some}
use Rattle.syntax_tree.specs.Plain.{Name}
use Rattle.syntax_tree.specs.declared.place.Place.{Place}
use Rattle.syntax_tree.specs.Placed.{Monitor, Process, Decl, device, monitor, Prog}
use Rattle.syntax_tree.specs.Bare.{bare_monitor, bare}
use Rattle.static_names.specs.declared.kind.Declared.{Declared}
use Rattle.static_names.specs.declared.kind.Kind.{Kind}
use Rattle.static_names.specs.declared.kind.Kind.TheVariants as kind_is
use Rattle.static_names.specs.Reach.{same, Names, Reach, first, Site}
use Rattle.static_names.specs.Occurrences.{Occurrence, declares, closes, entry_name, others, entries_at, monitor_names, decls_names, program_name}
use Rattle.static_names.specs.Resolved.{IsNamed}
use Rattle.load.specs.Program.{load_monitor, process_name, load_program}
use Rattle.load_text_law.proofs.Shapes.{has_shape, AreLoad}
use Rattle.load_law.proofs.Knowing.{kind_of, is_entry, Agrees, agrees}
use Rattle.load_law.proofs.Fine.{Fine, named}
use Rattle.load_law.proofs.Plain.{same_self}
use Rattle.load_law.proofs.Outside.{outside}
use Rattle.load_law.proofs.Members.{has_entries}
use Rattle.load_law.proofs.Monitor.{monitor_fine}
use Rattle.load_law.proofs.Declared.{not_pause, no_process, AreFresh, processes_fine}
use Rattle.wellformed_law.proofs.Found.{same-itself}
use Rattle.load_text_law.proofs.Processes.{decls}

-- ---- the entries of the monitor

entry_first : (a b : Declared) (more : Names) (entry : Name) → a.kind ≡ kind_is.Entry → b.kind ≡ kind_is.Entry → is_entry entry ≡ true
    → kind_of (first ((codes "add", a) ∷ (codes "pause", b) ∷ more) entry) ≡ Some kind_is.Entry
entry_first a b more entry one two is = by (same entry (codes "add")) (same entry (codes "pause")) is
  where
    by : (x y : Bool) → (x || y) ≡ true → kind_of (if x then Some a else (if y then Some b else first more entry)) ≡ Some kind_is.Entry
    by true y ok = ap (λ k. Some k) one
    by false true ok = ap (λ k. Some k) two
    by false false ok = absurd cc

-- of these declarations
entries_of : (m : Monitor Place) → bare_monitor m ≡ load_monitor → (ds : List (Decl Place)) (entry : Name) → is_entry entry ≡ true → kind_of (first (entries_at (monitor m ∷ ds) m.place) entry) ≡ Some kind_is.Entry
entries_of m same ds entry is =
    let it = has_entries m same in
    let more = entries_at ds m.place in
    let add : it.add.name ≡ codes "add" = ap (λ x. x.name) it.add_like in
    let pause : it.pause.name ≡ codes "pause" = ap (λ x. x.name) it.pause_like in
    let a : Declared = record { place = it.add.place; kind = kind_is.Entry } in
    let b : Declared = record { place = it.pause.place; kind = kind_is.Entry } in
    let entries = it.is in
    ap (λ c. kind_of (first (if c then map entry_name m.entries ++ more else more) entry)) (same-itself m.place)
    ∙ (λ i. kind_of (first (map entry_name (entries i) ++ more) entry))
    ∙ (λ i. kind_of (first ((add i, a) ∷ (pause i, b) ∷ more) entry))
    ∙ entry_first a b more entry refl refl is

-- ---- all

abbrev of_kind : Place → Kind → Declared
of_kind place kind = record { place = place; kind = kind }

-- all names that are declared outside, those of the processes being the rest
abbrev all_names : (top : Declared) (source sink at : Place) → Names → Names
all_names top source sink at rest =
    (codes "load", top) ∷ (codes "src", of_kind source kind_is.Device) ∷ (codes "dst", of_kind sink kind_is.Device) ∷ (codes "m", of_kind at kind_is.Monitor) ∷ rest

-- what stands there, where the monitor has its entries and no process a name that is used inside
outside_known : (members : Place → Reach) (top : Declared) (source sink at : Place) (rest : Names)
    → ((entry : Name) → is_entry entry ≡ true → kind_of (members at entry) ≡ Some kind_is.Entry)
    → ((name : Name) → ((k : ℕ) → k < 2 ^ 64 → same name (process_name k) ≡ false) → first rest name ≡ None)
    → Agrees outside (record { means = first (all_names top source sink at rest); members = members })
outside_known members top source sink at rest entries none =
    agrees outside (record { means = first (all_names top source sink at rest); members = members }) (
      refl,
      (
        refl,
        (
          (refl, entries),
          (
            none (codes "x") (λ k small. refl),
            (
              none (codes "i") (λ k small. refl),
              (
                none (codes "n") (λ k small. refl),
                (
                  none (codes "c") (λ k small. refl),
                  (none (codes "v") (λ k small. refl), (none (codes "add") (λ k small. refl), (none (codes "pause") not_pause, tt))),
                ),
              ),
            ),
          ),
        ),
      ),
    )

-- the first names are those of no process
all_fresh : (top : Declared) (source sink at : Place) → AreFresh 0 (all_names top source sink at [])
all_fresh top source sink at k from up = refl

abbrev load_decls : (source sink : Place) (m : Monitor Place) → List (Process Place) → List (Decl Place)
load_decls source sink m ps = device (codes "src") source false ∷ device (codes "dst") sink true ∷ monitor m ∷ decls ps

decls_fine : (key count : ℕ) → count ≤ 64 → (source sink : Place) (m : Monitor Place) → bare_monitor m ≡ load_monitor → (ps : List (Process Place)) → AreLoad key count 0 count ps → (name : Name) (top : Declared) → name ≡ codes "load"
    → (more : List Occurrence) → Fine more → Fine (decls_names (λ p. first (entries_at (load_decls source sink m ps) p)) ((name, top) ∷ []) (load_decls source sink m ps) more)
decls_fine key count few source sink m like ps are name top is more fine =
    let members : Place → Reach = λ p. first (entries_at (load_decls source sink m ps) p) in
    let rest = others (decls ps) in
    let called : m.name ≡ codes "m" = ap (λ x. x.name) like in
    let all_few : 0 + count ≤ 64 = omega (arith, few) in
    let known = outside_known members top source sink m.place rest (entries_of m like (decls ps)) (no_process key count 0 count ps are all_few) in
    let processes = processes_fine members (all_names top source sink m.place rest) known key count 0 count ps are (all_names top source sink m.place []) refl (all_fresh top source sink m.place) all_few more fine in
    let site : Site = record { means = first (all_names top source sink m.place rest); members = members } in
    let inside_it = monitor_fine site known m like (decls_names members (all_names top source sink m.place []) (decls ps) more) processes in
    let start : Name → Names = λ n. (n, top) ∷ (codes "src", of_kind source kind_is.Device) ∷ (codes "dst", of_kind sink kind_is.Device) ∷ [] in
    let whole : Name → Name → List Occurrence = λ n o.
    declares (codes "src") source (is_some (first ((n, top) ∷ []) (codes "src")))
    ∷ declares (codes "dst") sink (is_some (first ((n, top) ∷ (codes "src", of_kind source kind_is.Device) ∷ []) (codes "dst")))
    ∷ declares o m.place (is_some (first (start n) o))
    ∷ monitor_names (record { means = first (start n ++ (o, of_kind m.place kind_is.Monitor) ∷ rest); members = members }) m
    (decls_names members (start n ++ (o, of_kind m.place kind_is.Monitor) ∷ []) (decls ps) more) in
    subst (λ n. Fine (whole n m.name)) (sym is) (subst (λ o. Fine (whole (codes "load") o)) (sym called) (refl, (refl, (refl, inside_it))))

pub names_kept : (key count : ℕ) → count ≤ 64 → (g : Prog Place) → bare g ≡ load_program key count → IsNamed g
names_kept key count few g same =
    let s = has_shape key count g same in
    let name : g.name ≡ codes "load" = ap (λ x. x.name) same in
    let close : g.close ≡ codes "load" = ap (λ x. x.close) same in
    let last = closes g.close g.close_place g.name ∷ [] in
    let ended : Fine last = (same_self g.close g.name (close ∙ sym name), tt) in
    let told = decls_fine key count few s.source s.sink s.m s.like s.list s.are g.name (program_name g).1 name last ended in
    named g (refl, subst (λ ds. Fine (decls_names (λ p. first (entries_at ds p)) (program_name g ∷ []) ds last)) (sym s.is) told)
