-- The declarations of a program: where they stand, what reaches them by its name, and that each name and place is that of one.
use Rattle.std.proofs.Common.{◌≡◌, Bool, true, false, if◌then◌else◌, List, [], ◌∷◌, ◌++◌, map, append_assoc, Option, Some, None, is_some, ◌⊎◌, inl, inr, refl, ap, sym, ◌∙◌, subst, true≢false}
use Rattle.std.specs.Prelude.{Contains}
use Rattle.std.proofs.lemmas.Option.{none-some, same_Some}
use Rattle.std.proofs.lemmas.List.Elements.{Contains-append_left, Contains-append_right, Contains-append_cases}
use Rattle.std.proofs.lemmas.List.{append-nil}
use Rattle.base.proofs.Members.{at_front, behind, none_in, front_or_behind, in_map}
use Rattle.syntax_tree.specs.Plain.{Name}
use Rattle.syntax_tree.specs.Placed.{Constant, Decl, constant, device, event, routine, monitor, process, Prog}
use Rattle.syntax_tree.specs.declared.place.Place.{Place}
use Rattle.static_names.specs.declared.kind.Declared.{Declared}
use Rattle.static_names.specs.declared.kind.Kind.{Kind as NameKind}
use Rattle.static_names.specs.declared.kind.Kind.TheVariants as kind_is
use Rattle.syntax_tree.specs.Parts.{same_place}
use Rattle.static_names.specs.Reach.{Names, Reach, first, same, or_else}
use Rattle.static_names.specs.Occurrences.{Occurrence, declares, closes, used, decl_name, others, entries_at, decls_names, names, program_name}
use Rattle.static_names.specs.Rules.{place_of}
use Rattle.static_semantics.specs.Places.{StandApart, NamesFound}
use Rattle.static_semantics.specs.Mirrors.{program_site}
use Rattle.wellformed_law.proofs.Lists.{Pictured, from_map, rest_part, one_of}
use Rattle.wellformed_law.proofs.Adding.{inner_adds}
use Rattle.wellformed_law.proofs.Named.{Split, split-listed}
use Rattle.wellformed_law.proofs.Found.{same-itself}
use Rattle.static_names.proofs.Scopes.{same-refl}
use Rattle.wellformed_law.proofs.Lookups.{same-is}

-- ---- names

-- what counts of a scope is in it
pub first_in : (ns : Names) (x : Name) (d : Declared) → first ns x ≡ Some d → Contains ns (x, d)
first_in [] x d e = absurd (none-some d e)
first_in (n ∷ ns) x d e = by (first_in ns x d) (same x n.0) refl
  where
    by : (first ns x ≡ Some d → Contains ns (x, d)) → (b : Bool) → same x n.0 ≡ b → Contains (n ∷ ns) (x, d)
    by again true s = subst (λ m. Contains (n ∷ ns) m) (λ i. (sym (same-is x n.0 s) i, same_Some n.1 d (ap (λ b. if b then Some n.1 else first ns x) (sym s) ∙ e) i)) (at_front n ns)
    by again false s = behind n ns (x, d) (again (ap (λ b. if b then Some n.1 else first ns x) (sym s) ∙ e))

-- what is in a scope counts, or something else of its name does
pub first_some : (ns : Names) (x : Name) (d : Declared) → Contains ns (x, d) → is_some (first ns x) ≡ true
first_some [] x d h = absurd (none_in (x, d) h)
first_some (n ∷ ns) x d h = by (first_some ns x d) (same x n.0) refl (front_or_behind n ns (x, d) h)
  where
    by : (Contains ns (x, d) → is_some (first ns x) ≡ true) → (b : Bool) → same x n.0 ≡ b → (n ≡ (x, d)) ⊎ Contains ns (x, d) → is_some (if b then Some n.1 else first ns x) ≡ true
    by again true s c = refl
    by again false s (inl e) = absurd (true≢false (sym (same-refl x) ∙ ap (λ m. same x m.0) (sym e) ∙ s))
    by again false s (inr m) = again m

-- ---- what a scope does not declare

-- no name in it is declared as this
abbrev pub Lacks : NameKind → Names → Type 0
Lacks k ns = (n : Name × Declared) → Contains ns n → n.1.kind ≡ k → ⊥

pub lacks_both : (k : NameKind) (ns ms : Names) → Lacks k ns → Lacks k ms → Lacks k (ns ++ ms)
lacks_both k ns ms l r n h = by (Contains-append_cases ns ms n h)
  where
    by : Contains ns n ⊎ Contains ms n → n.1.kind ≡ k → ⊥
    by (inl m) = l n m
    by (inr m) = r n m

pub lacks_map : {X : Type 0} (k : NameKind) (f : X → Name × Declared) (xs : List X) → ((x : X) → (f x).1.kind ≡ k → ⊥) → Lacks k (map f xs)
lacks_map k f xs none n h e = let p = from_map f xs n h in none p.one (ap (λ m. m.1.kind) p.is ∙ e)

-- then it is declared outside
pub outside_scope : (k : NameKind) (ns : Names) (x : Name) (d : Declared) (o : Option Declared) → Lacks k ns → or_else (first ns x) o ≡ Some d → d.kind ≡ k → o ≡ Some d
outside_scope k ns x d o lacks e is = by (first ns x) refl e
  where
    by : (f : Option Declared) → first ns x ≡ f → or_else f o ≡ Some d → o ≡ Some d
    by None w h = h
    by (Some c) w h = absurd (lacks (x, c) (first_in ns x c w) (ap (λ z. z.kind) (same_Some c d h) ∙ is))

-- ---- declarations

-- a declaration of that name, and not of a constant
record Other (ds : List (Decl Place)) (n : Name × Declared) : Type 0 where
  named : Pictured decl_name ds n
  kind : n.1.kind ≡ kind_is.Constant → ⊥

other_further : (d : Decl Place) (ds : List (Decl Place)) (n : Name × Declared) → Other ds n → Other (d ∷ ds) n
other_further d ds n o = record { named = record { one = o.named.one; listed = behind d ds o.named.one o.named.listed; is = o.named.is }; kind = o.kind }

other_here : (d : Decl Place) (ds : List (Decl Place)) (n : Name × Declared) → ((decl_name d).1.kind ≡ kind_is.Constant → ⊥) → (Contains (others ds) n → Other ds n)
    → (decl_name d ≡ n) ⊎ Contains (others ds) n → Other (d ∷ ds) n
other_here d ds n none again (inl e) = record { named = record { one = d; listed = at_front d ds; is = e }; kind = λ k. none (ap (λ m. m.1.kind) e ∙ k) }
other_here d ds n none again (inr m) = other_further d ds n (again m)

others_in : (ds : List (Decl Place)) (n : Name × Declared) → Contains (others ds) n → Other ds n
others_in [] n h = absurd (none_in n h)
others_in (constant name p c ∷ ds) n h = other_further (constant name p c) ds n (others_in ds n h)
others_in (device name p is_out ∷ ds) n h = other_here (device name p is_out) ds n (λ e. cc) (others_in ds n) (front_or_behind _ (others ds) n h)
others_in (event name p ∷ ds) n h = other_here (event name p) ds n (λ e. cc) (others_in ds n) (front_or_behind _ (others ds) n h)
others_in (routine r ∷ ds) n h = other_here (routine r) ds n (λ e. cc) (others_in ds n) (front_or_behind _ (others ds) n h)
others_in (monitor m ∷ ds) n h = other_here (monitor m) ds n (λ e. cc) (others_in ds n) (front_or_behind _ (others ds) n h)
others_in (process p ∷ ds) n h = other_here (process p) ds n (λ e. cc) (others_in ds n) (front_or_behind _ (others ds) n h)

-- ---- what is in reach among declarations

-- a constant of that name
pub record ConstantNamed (ds : List (Decl Place)) (x : Name) : Type 0 where
  pub place : Place
  pub value : Constant Place
  pub listed : Contains ds (constant x place value)

constant_named : (ds : List (Decl Place)) (x : Name) (d : Declared) (e : Decl Place) → Contains ds e → decl_name e ≡ (x, d) → d.kind ≡ kind_is.Constant → ConstantNamed ds x
constant_named ds x d (constant name p c) h e k = record { place = p; value = c; listed = subst (λ y. Contains ds (constant y p c)) (ap (λ n. n.0) e) h }
constant_named ds x d (device name p is_out) h e k = let w : kind_is.Device ≡ kind_is.Constant = ap (λ n. n.1.kind) e ∙ k in cc
constant_named ds x d (event name p) h e k = let w : kind_is.Event ≡ kind_is.Constant = ap (λ n. n.1.kind) e ∙ k in cc
constant_named ds x d (routine r) h e k = let w : kind_is.Routine ≡ kind_is.Constant = ap (λ n. n.1.kind) e ∙ k in cc
constant_named ds x d (monitor m) h e k = let w : kind_is.Monitor ≡ kind_is.Constant = ap (λ n. n.1.kind) e ∙ k in cc
constant_named ds x d (process p) h e k = let w : kind_is.Process ≡ kind_is.Constant = ap (λ n. n.1.kind) e ∙ k in cc

event_named : (ds : List (Decl Place)) (x : Name) (d : Declared) (e : Decl Place) → Contains ds e → decl_name e ≡ (x, d) → d.kind ≡ kind_is.Event → Contains ds (event x d.place)
event_named ds x d (event name p) h e k = subst (Contains ds) (λ i. event (ap (λ n. n.0) e i) (ap (λ n. n.1.place) e i)) h
event_named ds x d (constant name p c) h e k = let w : kind_is.Constant ≡ kind_is.Event = ap (λ n. n.1.kind) e ∙ k in cc
event_named ds x d (device name p is_out) h e k = let w : kind_is.Device ≡ kind_is.Event = ap (λ n. n.1.kind) e ∙ k in cc
event_named ds x d (routine r) h e k = let w : kind_is.Routine ≡ kind_is.Event = ap (λ n. n.1.kind) e ∙ k in cc
event_named ds x d (monitor m) h e k = let w : kind_is.Monitor ≡ kind_is.Event = ap (λ n. n.1.kind) e ∙ k in cc
event_named ds x d (process p) h e k = let w : kind_is.Process ≡ kind_is.Event = ap (λ n. n.1.kind) e ∙ k in cc

-- a constant that is in reach stands before
pub constant_before : (g : Prog Place) (before rest : List (Decl Place)) (x : Name) (d : Declared) → (program_site g before rest).means x ≡ Some d → d.kind ≡ kind_is.Constant → ConstantNamed before x
constant_before g before rest x d e k = by (Contains-append_cases (program_name g ∷ map decl_name before) (others rest) (x, d) (first_in ((program_name g ∷ map decl_name before) ++ others rest) x d e))
  where
    early : (program_name g ≡ (x, d)) ⊎ Contains (map decl_name before) (x, d) → ConstantNamed before x
    early (inl w) = let v : kind_is.Program ≡ kind_is.Constant = ap (λ n. n.1.kind) w ∙ k in cc
    early (inr m) = let p = from_map decl_name before (x, d) m in constant_named before x d p.one p.listed p.is k

    by : Contains (program_name g ∷ map decl_name before) (x, d) ⊎ Contains (others rest) (x, d) → ConstantNamed before x
    by (inl m) = early (front_or_behind (program_name g) (map decl_name before) (x, d) m)
    by (inr m) = absurd ((others_in rest (x, d) m).kind k)

-- an event that is in reach is declared
pub event_declared : (g : Prog Place) (before rest : List (Decl Place)) (x : Name) (d : Declared) → (program_site g before rest).means x ≡ Some d → d.kind ≡ kind_is.Event → Contains (before ++ rest) (event x d.place)
event_declared g before rest x d e k = by (Contains-append_cases (program_name g ∷ map decl_name before) (others rest) (x, d) (first_in ((program_name g ∷ map decl_name before) ++ others rest) x d e))
  where
    early : (program_name g ≡ (x, d)) ⊎ Contains (map decl_name before) (x, d) → Contains (before ++ rest) (event x d.place)
    early (inl w) = let v : kind_is.Program ≡ kind_is.Event = ap (λ n. n.1.kind) w ∙ k in cc
    early (inr m) = let p = from_map decl_name before (x, d) m in event_named (before ++ rest) x d p.one (Contains-append_left before rest p.one p.listed) p.is k

    by : Contains (program_name g ∷ map decl_name before) (x, d) ⊎ Contains (others rest) (x, d) → Contains (before ++ rest) (event x d.place)
    by (inl m) = early (front_or_behind (program_name g) (map decl_name before) (x, d) m)
    by (inr m) = let p = (others_in rest (x, d) m).named in event_named (before ++ rest) x d p.one (Contains-append_right before rest p.one p.listed) p.is k

-- ---- each name and each place is that of one declaration

-- a declaration is a name of the program, taken where one of its name stands before it
decls_declare : (members : Place → Reach) (earlier : Names) (before : List (Decl Place)) (d : Decl Place) (after : List (Decl Place)) (more : List Occurrence)
    → Contains (decls_names members earlier (before ++ d ∷ after) more) (declares (decl_name d).0 (decl_name d).1.place (is_some (first (earlier ++ map decl_name before) (decl_name d).0)))
decls_declare members earlier [] d after more =
    subst (λ ns. Contains (decls_names members earlier (d ∷ after) more) (declares (decl_name d).0 (decl_name d).1.place (is_some (first ns (decl_name d).0)))) (sym (append-nil earlier)) (at_front _ _)
decls_declare members earlier (b ∷ before) d after more =
    behind _ _ _ (rest_part (inner_adds (record { means = first (earlier ++ others (b ∷ before ++ d ∷ after)); members = members }) b) _ _
    (subst (λ ns. Contains (decls_names members (earlier ++ decl_name b ∷ []) (before ++ d ∷ after) more) (declares (decl_name d).0 (decl_name d).1.place (is_some (first ns (decl_name d).0))))
    (append_assoc earlier (decl_name b ∷ []) (map decl_name before)) (decls_declare members (earlier ++ decl_name b ∷ []) before d after more)))

pub declaration : (g : Prog Place) (before : List (Decl Place)) (d : Decl Place) (after : List (Decl Place)) → g.decls ≡ before ++ d ∷ after
    → Contains (names g) (declares (decl_name d).0 (decl_name d).1.place (is_some (first (program_name g ∷ map decl_name before) (decl_name d).0)))
declaration g before d after is = behind _ _ _ (subst (λ ds. Contains (decls_names members (program_name g ∷ []) ds ends) here) (sym is) (decls_declare members (program_name g ∷ []) before d after ends))
  where
    members : Place → Reach
    members place = first (entries_at g.decls place)

    ends : List Occurrence
    ends = closes g.close g.close_place g.name ∷ []

    here : Occurrence
    here = declares (decl_name d).0 (decl_name d).1.place (is_some (first (program_name g ∷ map decl_name before) (decl_name d).0))

-- no declaration before has its name
name_free : (g : Prog Place) → NamesFound g → (before : List (Decl Place)) (d : Decl Place) (after : List (Decl Place)) → g.decls ≡ before ++ d ∷ after
    → (e : Decl Place) → Contains before e → (decl_name e).0 ≡ (decl_name d).0 → ⊥
name_free g found before d after is e h same_name =
    true≢false (sym (first_some scope (decl_name e).0 (decl_name e).1 (behind (program_name g) (map decl_name before) (decl_name e) (in_map decl_name before e h))) ∙ ap (λ x. is_some (first scope x)) same_name ∙ found.free (decl_name d).0 (decl_name d).1.place _ (declaration g before d after is))
  where
    scope : Names
    scope = program_name g ∷ map decl_name before

-- two declarations of one name are one
pub one_named : (g : Prog Place) → NamesFound g → (d e : Decl Place) → Contains g.decls d → Contains g.decls e → (decl_name d).0 ≡ (decl_name e).0 → d ≡ e
one_named g found d e h k same_name = by (Contains-append_cases s.before (d ∷ s.after) e (subst (λ ds. Contains ds e) s.is k))
  where
    s : Split g.decls d
    s = split-listed g.decls d h

    later : (d ≡ e) ⊎ Contains s.after e → d ≡ e
    later (inl w) = w
    later (inr m) = let t = split-listed s.after e m in
        absurd (name_free g found (s.before ++ d ∷ t.before) e t.after (s.is ∙ ap (λ ds. s.before ++ d ∷ ds) t.is ∙ sym (append_assoc s.before (d ∷ t.before) (e ∷ t.after))) d (Contains-append_right s.before (d ∷ t.before) d (at_front d t.before)) same_name)

    by : Contains s.before e ⊎ Contains (d ∷ s.after) e → d ≡ e
    by (inl m) = absurd (name_free g found s.before d s.after s.is e m (sym same_name))
    by (inr m) = later (front_or_behind d s.after e m)

-- ---- each place is that of one declaration

-- two declarations whose names stand at one place have one name
pub one_placed : (g : Prog Place) → StandApart g → (d e : Decl Place) → Contains g.decls d → Contains g.decls e → (decl_name d).1.place ≡ (decl_name e).1.place → (decl_name d).0 ≡ (decl_name e).0
one_placed g apart d e h k same_one = ap name_of (one_of (λ o. same_place (place_of o) at) (names g) (apart at) _ _ (declared d h) (declared e k) (same-itself at) (ap (λ q. same_place q at) (sym same_one) ∙ same-itself at))
  where
    at : Place
    at = (decl_name d).1.place

    name_of : Occurrence → Name
    name_of (declares name place taken) = name
    name_of (closes name place opening) = name
    name_of (used name place want means) = name

    declared : (f : Decl Place) → (c : Contains g.decls f) → Contains (names g) (declares (decl_name f).0 (decl_name f).1.place (is_some (first (program_name g ∷ map decl_name (split-listed g.decls f c).before) (decl_name f).0)))
    declared f c = let s = split-listed g.decls f c in declaration g s.before f s.after s.is
