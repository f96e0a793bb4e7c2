-- Each event activates one process.
use Rattle.std.proofs.Common.{◌≡◌, ℕ, suc, ◌+◌, Bool, true, false, cond, if◌then◌else◌, List, [], ◌∷◌, ◌++◌, map, Option, ◌⊎◌, inl, inr, refl, ap, sym, ◌∙◌, subst, arith, true≢false}
use Rattle.std.specs.Prelude.{Contains, count_by, bytes_eq, nat_eq}
use Rattle.std.proofs.lemmas.Bool.{eqb-true}
use Rattle.base.proofs.Members.{at_front, behind, none_in, front_or_behind}
use Rattle.syntax_tree.specs.Plain.{Name}
use Rattle.syntax_tree.specs.Plain as plain_of
use Rattle.syntax_tree.specs.Placed.{Activation, periodic, at_event, Process, process, Decl, constant, device, event, routine, monitor, Prog, plain, plain_activation, plain_process, plain_decl}
use Rattle.syntax_tree.specs.declared.place.Place.{Place}
use Rattle.syntax_tree.specs.Parts.{same_place, processes, events}
use Rattle.static_names.specs.Reach.{same}
use Rattle.static_names.specs.Occurrences.{names, declared_at, constant_names, optional_names, activation_names}
use Rattle.static_numbers.specs.Processes.{is_at, is_activated_by, users}
use Rattle.static_semantics.specs.WellFormed.{is_event_of, EventsFit}
use Rattle.static_semantics.specs.Mirrors.{process_site}
use Rattle.wellformed_law.proofs.Lists.{sum_cons, Pictured, from_map, Within}
use Rattle.wellformed_law.proofs.Declared.{one_named, one_placed}
use Rattle.wellformed_law.proofs.WellformedLaw.{Laws}
use Rattle.wellformed_law.proofs.Standing.{plain_processes, process_declared}
use Rattle.wellformed_law.proofs.Activations.{EventAt, event_at}
use Rattle.wellformed_law.proofs.ProcessesFit.{in_process_names}
use Rattle.wellformed_law.proofs.Named.{split-listed}
use Rattle.wellformed_law.proofs.Falling.{place-true}
use Rattle.wellformed_law.proofs.Lookups.{same-is}
use Rattle.static_names.proofs.Scopes.{same-refl}
use Rattle.wellformed_law.proofs.Found.{same-itself}
use Rattle.wellformed_law.proofs.Basics.{held}

event_listed : (ds : List (Decl Place)) (n : Name) (q : Place) → Contains ds (event n q) → Contains (events ds) q
event_listed [] n q h = absurd (none_in (event n q) h)
event_listed (d ∷ ds) n q h = by d (event_listed ds n q) (front_or_behind d ds (event n q) h)
  where
    place_of : Decl Place → Place
    place_of (event m p) = p
    place_of _ = q

    by : (e : Decl Place) → (Contains ds (event n q) → Contains (events ds) q) → (e ≡ event n q) ⊎ Contains ds (event n q) → Contains (events (e ∷ ds)) q
    by (constant m p k) again (inl w) = absurd (cc)
    by (constant m p k) again (inr c) = again c
    by (device m p is_out) again (inl w) = absurd (cc)
    by (device m p is_out) again (inr c) = again c
    by (event m p) again (inl w) = subst (Contains (p ∷ events ds)) (ap place_of w) (at_front p (events ds))
    by (event m p) again (inr c) = behind p (events ds) q (again c)
    by (routine r) again (inl w) = absurd (cc)
    by (routine r) again (inr c) = again c
    by (monitor m) again (inl w) = absurd (cc)
    by (monitor m) again (inr c) = again c
    by (process p) again (inl w) = absurd (cc)
    by (process p) again (inr c) = again c

-- the place of an event of that name
record EventOf (ds : List (Decl Place)) (e : Name) : Type 0 where
  place : Place
  listed : Contains ds (event e place)

event_of : (ds : List (Decl Place)) (e : Name) (d : Decl Place) → Contains ds d → plain_decl d ≡ plain_of.event e → EventOf ds e
event_of ds e (constant m p k) h w = absurd (cc)
event_of ds e (device m p is_out) h w = absurd (cc)
event_of ds e (event m p) h w = record { place = p; listed = subst (λ x. Contains ds (event x p)) (ap name_of w) h }
  where
    name_of : plain_of.Declaration → Name
    name_of (plain_of.event x) = x
    name_of _ = e
event_of ds e (routine r) h w = absurd (cc)
event_of ds e (monitor m) h w = absurd (cc)
event_of ds e (process p) h w = absurd (cc)

counted_once : (declared : Place → Option Place) (q : Place) (e : Name) (ps : List (Process Place)) → ((p : Process Place) → Contains ps p → is_activated_by declared q p.activation ≡ is_event_of e (plain_activation p.activation))
    → users declared q ps ≡ count_by (λ p. is_event_of e p.activation) (map plain_process ps)
counted_once declared q e [] agree = refl
counted_once declared q e (p ∷ ps) agree = by (is_activated_by declared q p.activation) (is_event_of e (plain_activation p.activation)) (agree p (at_front p ps)) (counted_once declared q e ps (λ r h. agree r (behind p ps r h)))
    ∙ sym (sum_cons (λ r. cond (is_event_of e r.activation) 1 0) (plain_process p) (map plain_process ps))
  where
    by : (b c : Bool) → b ≡ c → {m n : ℕ} → m ≡ n → (if b then suc m else m) ≡ cond c 1 0 + n
    by true true w h = omega (arith, h)
    by true false w h = absurd (true≢false w)
    by false true w h = absurd (true≢false (sym w))
    by false false w h = omega (arith, h)

module _ (g : Prog Place) (l : Laws g) where
  -- events are one by their names where they are one by their places
  same_events : (n e : Name) (r q : Place) → Contains g.decls (event n r) → Contains g.decls (event e q) → same_place r q ≡ bytes_eq n e
  same_events n e r q h k = by (bytes_eq n e) refl
    where
      place_of : Decl Place → Place
      place_of (event m p) = p
      place_of _ = q

      apart : (b : Bool) → same_place r q ≡ b → bytes_eq n e ≡ false → same_place r q ≡ false
      apart false s w = s
      apart true s w = absurd (true≢false (sym (ap (λ x. same x e) (one_placed g l.apart (event n r) (event e q) h k (place-true r q s)) ∙ same-refl e) ∙ w))

      by : (b : Bool) → bytes_eq n e ≡ b → same_place r q ≡ b
      by true w = ap (λ p. same_place p q) (ap place_of (one_named g l.found (event n r) (event e q) h k (same-is n e w))) ∙ same-itself q
      by false w = apart (same_place r q) refl w

  activated : (e : Name) (q : Place) → Contains g.decls (event e q) → (before : List (Decl Place)) (p : Process Place) (after : List (Decl Place)) → g.decls ≡ before ++ process p ∷ after
      → (a : Activation Place) → Within (activation_names (process_site g before p after) a []) (names g) → is_activated_by (declared_at (names g)) q a ≡ is_event_of e (plain_activation a)
  activated e q h before p after is (periodic frame deadline start) w = refl
  activated e q h before p after is (at_event n at frame deadline) w = ap (is_at q) found.found ∙ same_events n e found.place q found.listed h
    where
      found : EventAt g n at
      found = event_at g l before p after is n at (w _ (at_front _ (constant_names (process_site g before p after) frame (optional_names (constant_names (process_site g before p after)) deadline []))))

  pub events_fit : EventsFit (plain g)
  events_fit e h = ap (count_by (λ p. is_event_of e p.activation)) (plain_processes g.decls) ∙ sym (counted_once (declared_at (names g)) of.place e (processes g.decls) agree)
      ∙ eqb-true (users (declared_at (names g)) of.place (processes g.decls)) 1 (held (nat_eq (users (declared_at (names g)) of.place (processes g.decls)) 1) of.place (l.limits.used_once of.place (event_listed g.decls e of.place of.listed)))
    where
      pictured : Pictured plain_decl g.decls (plain_of.event e)
      pictured = from_map plain_decl g.decls (plain_of.event e) h

      of : EventOf g.decls e
      of = event_of g.decls e pictured.one pictured.listed pictured.is

      agree : (p : Process Place) → Contains (processes g.decls) p → is_activated_by (declared_at (names g)) of.place p.activation ≡ is_event_of e (plain_activation p.activation)
      agree p m = let s = split-listed g.decls (process p) (process_declared g.decls p m) in
          activated e of.place of.listed s.before p s.after s.is p.activation (in_process_names g l s.before p s.after s.is).activation
