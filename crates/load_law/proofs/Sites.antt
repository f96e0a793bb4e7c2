-- What is in reach outside the processes of a load: two devices, and a monitor with two entries.
use Rattle.std.proofs.Common.{◌≡◌, ℕ, Bool, true, false, if◌then◌else◌, [], ◌∷◌, ◌++◌, Option, Some, codes, ap, ◌∙◌}
use Rattle.syntax_tree.specs.Plain.{Name}
use Rattle.syntax_tree.specs.Placed.{Routine, procedure}
use Rattle.syntax_tree.specs.declared.place.Place.{Place}
use Rattle.static_names.specs.declared.kind.Declared.{Declared}
use Rattle.static_names.specs.declared.kind.Kind.TheVariants as kind_is
use Rattle.static_names.specs.Reach.{Names, Reach, same, first, Site, members_of}
use Rattle.static_declarations.specs.Things.{Thing, routine_thing}
use Rattle.load_law.proofs.Given.{AreInts, IsDevice, IsEntry}

abbrev pub reaching : (Place → Reach) → Names → Site
reaching members names = record { means = first names; members = members }

-- ---- what is in reach stays so where more is declared behind it

first_again : (b : Bool) (x : Declared) (xs ys : Option Declared) (d : Declared) → (xs ≡ Some d → ys ≡ Some d) → (if b then Some x else xs) ≡ Some d → (if b then Some x else ys) ≡ Some d
first_again true x xs ys d more is = is
first_again false x xs ys d more is = more is

first_append : (xs ys : Names) (name : Name) (d : Declared) → first xs name ≡ Some d → first (xs ++ ys) name ≡ Some d
first_append [] ys name d is = cc
first_append (x ∷ xs) ys name d is = first_again (same name x.0) x.1 (first xs name) (first (xs ++ ys) name) d (first_append xs ys name d) is

abbrev pub monitor_at : Place → Declared
monitor_at place = record { place = place; kind = kind_is.Monitor }

module _ (named : Place → Option Thing) (thing : Place → Thing) where
  pub record IsMember (members : Place → Reach) (mon : Place) (entry : Name) (count : ℕ) : Type 0 where
    pub declared : Declared
    pub meant : members mon entry ≡ Some declared
    pub routine : Routine Place
    pub is : thing declared.place ≡ routine_thing true routine
    pub kind : routine.kind ≡ procedure
    pub params : AreInts count routine.params

  pub record Seen (here : Site) : Type 0 where
    pub source : IsDevice named thing here false (codes "src")
    pub sink : IsDevice named thing here true (codes "dst")
    pub mon : Place
    pub mon_meant : here.means (codes "m") ≡ Some (monitor_at mon)
    pub add : IsMember here.members mon (codes "add") 1
    pub pause : IsMember here.members mon (codes "pause") 0

  pub seen_more : (members : Place → Reach) (xs ys : Names) → Seen (reaching members xs) → Seen (reaching members (xs ++ ys))
  seen_more members xs ys s = record {
    source = record { declared = s.source.declared; meant = first_append xs ys (codes "src") s.source.declared s.source.meant; is = s.source.is };
    sink = record { declared = s.sink.declared; meant = first_append xs ys (codes "dst") s.sink.declared s.sink.meant; is = s.sink.is };
    mon = s.mon;
    mon_meant = first_append xs ys (codes "m") (monitor_at s.mon) s.mon_meant;
    add = s.add;
    pause = s.pause;
  }

  -- behind the name of the monitor
  pub is_entry : (here : Site) (mon : Place) (entry : Name) (count : ℕ) → here.means (codes "m") ≡ Some (monitor_at mon) → IsMember here.members mon entry count
      → IsEntry named thing here (codes "m") entry count
  is_entry here mon entry count meant e = record {
    declared = e.declared;
    meant = ap (λ o. members_of here o entry) meant ∙ e.meant;
    routine = e.routine;
    is = e.is;
    kind = e.kind;
    params = e.params;
  }
