-- Inside a loop its variable is in reach, and all else as before.
use Rattle.std.proofs.Common.{◌≡◌, ◌⊎◌, inl, inr, Bool, true, false, ◌||◌, [], ◌∷◌, Option, Some, None, refl, ap, sym, ◌∙◌, subst, bytes_eq, if◌then◌else◌}
use Rattle.std.proofs.lemmas.Bool.Decides.{same_from_decides, Decides-like}
use Rattle.std.proofs.lemmas.Slice.Eq.{bytes_eq-Decides}
use Rattle.syntax_tree.specs.Plain.{Name}
use Rattle.syntax_tree.specs.Placed.{Process, Prog, plain_kind}
use Rattle.syntax_tree.specs.declared.place.Place.{Place}
use Rattle.static_names.specs.declared.kind.Declared.{Declared}
use Rattle.static_names.specs.declared.kind.Kind.{Kind as NameKind}
use Rattle.static_names.specs.declared.kind.Kind.TheVariants as kind_is
use Rattle.static_names.specs.Reach.{Site, inside, through, or_else, members_of}
use Rattle.static_names.specs.Occurrences.{loop_name}
use Rattle.static_declarations.specs.Things.{loop_thing, variable_thing, shape_of, thing_at}
use Rattle.source_semantics.specs.Names.{named, constants}
use Rattle.static_semantics.specs.Here.{Here, Meant, in_loop, meant, turn, own_variable, outer_variable, is_among, meant_own, meant_outer, meant_constant, var_named, outer_vars}
use Rattle.static_semantics.specs.Mirrors.{Mirrors, StandsAs, IsVariable, IsRoutine, IsEntryOf}

flips : (x y : Name) → bytes_eq x y ≡ bytes_eq y x
flips x y = same_from_decides (bytes_eq x y) (bytes_eq y x) (bytes_eq-Decides x y) (Decides-like (bytes_eq y x) (λ e. sym e) (λ e. sym e) (bytes_eq-Decides y x))

-- what a name stands for that is no loop's variable
abbrev meant_else : Here → Name → Meant
meant_else c x = meant_own (var_named x c.own) (meant_outer (var_named x (outer_vars c.program c.process c.home)) (meant_constant (named (λ k. k.0) x (constants c.program))))

meant_turn : (c : Here) (i x : Name) → bytes_eq i x ≡ true → meant (in_loop i c) x ≡ turn
meant_turn c i x e = ap (λ b. if b || is_among x c.turns then turn else meant_else c x) e

meant_kept : (c : Here) (i x : Name) → bytes_eq i x ≡ false → meant (in_loop i c) x ≡ meant c x
meant_kept c i x e = ap (λ b. if b || is_among x c.turns then turn else meant_else c x) e

module _ (g : Prog Place) (p : Process Place) (at : Option Place) (c : Here) (i : Name) where
  variable_kept : (x : Name) (place : Place) → bytes_eq i x ≡ false → IsVariable g c at x place → IsVariable g (in_loop i c) at x place
  variable_kept x place other v = record { kind = v.kind; stands = by v.stands }
    where
      by : ((thing_at g place ≡ variable_thing at (shape_of v.kind)) × (meant c x ≡ own_variable (plain_kind v.kind))) ⊎ ((thing_at g place ≡ variable_thing None (shape_of v.kind)) × (meant c x ≡ outer_variable (plain_kind v.kind)))
          → ((thing_at g place ≡ variable_thing at (shape_of v.kind)) × (meant (in_loop i c) x ≡ own_variable (plain_kind v.kind))) ⊎ ((thing_at g place ≡ variable_thing None (shape_of v.kind)) × (meant (in_loop i c) x ≡ outer_variable (plain_kind v.kind)))
      by (inl own) = inl (own.0, meant_kept c i x other ∙ own.1)
      by (inr outer) = inr (outer.0, meant_kept c i x other ∙ outer.1)

  routine_kept : (x : Name) (place : Place) → IsRoutine g p c x place → IsRoutine g p (in_loop i c) x place
  routine_kept x place r = record { one = r.one; home = r.home; is = r.is; thing = r.thing; result = r.result; listed = r.listed; found = r.found }

  stands_kept : (x : Name) (place : Place) (k : NameKind) → bytes_eq i x ≡ false → StandsAs g p c at x place k → StandsAs g p (in_loop i c) at x place k
  stands_kept x place kind_is.Program other s = tt
  stands_kept x place kind_is.Constant other s = (s.0, meant_kept c i x other ∙ s.1)
  stands_kept x place kind_is.Device other s = record { is_out = s.is_out; thing = s.thing; listed = s.listed }
  stands_kept x place kind_is.Event other s = s
  stands_kept x place kind_is.Routine other s = routine_kept x place s
  stands_kept x place kind_is.Entry other s = record { one = s.one; inside = s.inside; is = s.is; thing = s.thing }
  stands_kept x place kind_is.Monitor other s = tt
  stands_kept x place kind_is.Process other s = tt
  stands_kept x place kind_is.Variable other s = variable_kept x place other s
  stands_kept x place kind_is.LoopVariable other s = (s.0, meant_kept c i x other ∙ s.1)
  stands_kept x place kind_is.Condition other s = s

  module _ (site : Site) (q : Place) (m : Mirrors g p at site c) (is_loop : thing_at g q ≡ loop_thing) where
    abbrev variable : Declared
    variable = record { place = q; kind = kind_is.LoopVariable }

    name_inside : (x : Name) (d : Declared) → (inside (loop_name i q ∷ []) site).means x ≡ Some d → StandsAs g p (in_loop i c) at x d.place d.kind
    name_inside x d e = by (bytes_eq x i) refl e
      where
        by : (b : Bool) → bytes_eq x i ≡ b → or_else (if b then Some variable else None) (site.means x) ≡ Some d → StandsAs g p (in_loop i c) at x d.place d.kind
        by true is e = let same : variable ≡ d = cc in
            subst (λ (d : Declared). StandsAs g p (in_loop i c) at x d.place d.kind) same (is_loop, meant_turn c i x (flips i x ∙ is))
        by false is e = stands_kept x d.place d.kind (flips i x ∙ is) (m.names x d e)

    entry_inside : (k x : Name) (d : Declared) → through (inside (loop_name i q ∷ []) site) k x ≡ Some d → d.kind ≡ kind_is.Entry → IsEntryOf g (in_loop i c) k x d.place
    entry_inside k x d e is_entry = by (bytes_eq k i) e
      where
        kept : IsEntryOf g c k x d.place → IsEntryOf g (in_loop i c) k x d.place
        kept n = record { one = n.one; number = n.number; is = n.is; thing = n.thing; result = n.result; found = n.found }

        by : (b : Bool) → members_of (inside (loop_name i q ∷ []) site) (or_else (if b then Some variable else None) (site.means k)) x ≡ Some d → IsEntryOf g (in_loop i c) k x d.place
        by true e = absurd (cc)
        by false e = kept (m.entries k x d e is_entry)

    pub in_loop_mirrors : Mirrors g p at (inside (loop_name i q ∷ []) site) (in_loop i c)
    in_loop_mirrors = record { program = m.program; process = m.process; names = name_inside; entries = entry_inside }
