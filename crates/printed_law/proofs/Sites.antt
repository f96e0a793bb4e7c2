-- What is in reach in a tree and in the tree with other places.
use Rattle.std.proofs.Common.{◌≡◌, [], ◌∷◌, Option, Some, None, ap, subst}
use Rattle.syntax_tree.specs.Plain.{Name}
use Rattle.syntax_tree.specs.declared.place.Place.{Place}
use Rattle.syntax_tree.specs.Parts.{same_place}
use Rattle.static_names.specs.declared.kind.Declared.{Declared}
use Rattle.static_names.specs.declared.kind.Kind.{Kind}
use Rattle.static_names.specs.declared.kind.Kind.TheVariants as kind_is
use Rattle.static_names.specs.Reach.{Names, Reach, same, first, or_else, within, Site, inside, inside_monitor, members_of, through}
use Rattle.printed_law.specs.Alike.{AreAlike}
use Rattle.printed_law.proofs.Both.{Both, both-same, Likewise, Pairwise, chosen}

-- declared as the same, at two places of one position
pub record LikeDeclared {X : Type 0} (a b : X → Place) (d e : Declared) : Type 0 where
  pub kind : d.kind ≡ e.kind
  pub place : Both a b d.place e.place

pub record LikeNamed {X : Type 0} (a b : X → Place) (d e : Name × Declared) : Type 0 where
  pub name : d.0 ≡ e.0
  pub declared : LikeDeclared a b d.1 e.1

abbrev pub LikeNames : {X : Type 0} → (a b : X → Place) → Names → Names → Type 0
LikeNames a b ds es = Pairwise (LikeNamed a b) ds es

abbrev pub LikeReach : {X : Type 0} → (a b : X → Place) → Reach → Reach → Type 0
LikeReach a b m n = (name : Name) → Likewise (LikeDeclared a b) (m name) (n name)

pub record LikeSite {X : Type 0} (a b : X → Place) (s t : Site) : Type 0 where
  pub means : LikeReach a b s.means t.means
  pub members : (p q : Place) → Both a b p q → LikeReach a b (s.members p) (t.members q)

pub or-else-like : {A B : Type 0} (R : A → B → Type 0) (x u : Option A) (y v : Option B) → Likewise R x y → Likewise R u v → Likewise R (or_else x u) (or_else y v)
or-else-like R None u None v like other = other
or-else-like R (Some x) u (Some y) v like other = like
or-else-like R None u (Some y) v like other = absurd like
or-else-like R (Some x) u None v like other = absurd like

module _ {X : Type 0} (a b : X → Place) where
  pub first-like : (ds es : Names) → LikeNames a b ds es → LikeReach a b (first ds) (first es)
  first-like [] [] like name = tt
  first-like [] (e ∷ es) like name = absurd like
  first-like (d ∷ ds) [] like name = absurd like
  first-like (d ∷ ds) (e ∷ es) like name =
      chosen (Likewise (LikeDeclared a b)) (same name d.0) (same name e.0) (ap (same name) like.0.name) (Some d.1) (first ds name) (Some e.1) (first es name) like.0.declared (first-like ds es like.1 name)

  within-like : (i o j p : Reach) → LikeReach a b i j → LikeReach a b o p → LikeReach a b (within i o) (within j p)
  within-like i o j p inner outer name = or-else-like (LikeDeclared a b) (i name) (o name) (j name) (p name) (inner name) (outer name)

  pub inside-like : (ds es : Names) (s t : Site) → LikeNames a b ds es → LikeSite a b s t → LikeSite a b (inside ds s) (inside es t)
  inside-like ds es s t names site = record { means = within-like (first ds) s.means (first es) t.means (first-like ds es names) site.means; members = site.members }

  pub inside-monitor-like : AreAlike a b → (p q : Place) → Both a b p q → (ds es : Names) (s t : Site) → LikeNames a b ds es → LikeSite a b s t
      → LikeSite a b (inside_monitor p ds s) (inside_monitor q es t)
  inside-monitor-like alike p q places ds es s t names site = record {
    means = within-like (first ds) s.means (first es) t.means (first-like ds es names) site.means;
    members = λ r u others. chosen (LikeReach a b) (same_place r p) (same_place u q) (both-same a b alike r u p q others places) (first ds) (s.members r) (first es) (t.members u)
        (first-like ds es names) (site.members r u others);
  }

  members-by-kind : (s t : Site) → LikeSite a b s t → (p q : Place) → Both a b p q → (k : Kind)
      → LikeReach a b (members_of s (Some (record { place = p; kind = k }))) (members_of t (Some (record { place = q; kind = k })))
  members-by-kind s t site p q places kind_is.Monitor = site.members p q places
  members-by-kind s t site p q places k = λ name. tt

  members-like : (s t : Site) → LikeSite a b s t → (d e : Option Declared) → Likewise (LikeDeclared a b) d e → LikeReach a b (members_of s d) (members_of t e)
  members-like s t site None None like = λ name. tt
  members-like s t site (Some d) (Some e) like =
      subst (λ k. LikeReach a b (members_of s (Some d)) (members_of t (Some (record { place = e.place; kind = k })))) like.kind (members-by-kind s t site d.place e.place like.place d.kind)
  members-like s t site None (Some e) like = absurd like
  members-like s t site (Some d) None like = absurd like

  pub through-like : (s t : Site) → LikeSite a b s t → (monitor name : Name) → Likewise (LikeDeclared a b) (through s monitor name) (through t monitor name)
  through-like s t site monitor name = members-like s t site (s.means monitor) (t.means monitor) (site.means monitor) name
