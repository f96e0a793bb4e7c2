-- The texts of a program without places are those of the program with places.
use Rattle.std.proofs.Common.{◌≡◌, ◌∙◌, ◌⊎◌, ◌++◌, ℕ, suc, List, [], ◌∷◌, map, refl, ap, sym, subst, inl, inr}
use Rattle.std.proofs.lemmas.List.{map-append}
use Rattle.std.specs.Prelude.{Contains}
use Rattle.base.proofs.Members.{at_front, behind, none_in, front_or_behind}
use Rattle.syntax_tree.specs.Placed.{Routine, Decl, constant, device, event, routine, monitor, process, plain_routine, plain_decl}
use Rattle.syntax_tree.specs.declared.place.Place.{Place}
use Rattle.code_spec.specs.Layout.{Owner, by_program, by_process, by_monitor}
use Rattle.code_spec.specs.Numbering as numbering
use Rattle.code_cost.specs.Rules.{PlacedText, placed_texts_of, placed_texts_from}

abbrev pub plain_text : PlacedText → numbering.Text
plain_text t = record { owner = t.owner; routine = plain_routine t.routine }

plain_texts_of : (o : Owner) (rs : List (Routine Place)) → numbering.texts_of o (map plain_routine rs) ≡ map plain_text (placed_texts_of o rs)
plain_texts_of o [] = refl
plain_texts_of o (r ∷ rs) = ap (λ ts. plain_text (record { owner = o; routine = r }) ∷ ts) (plain_texts_of o rs)

joined : (o : Owner) (rs : List (Routine Place)) (us : List numbering.Text) (ts : List PlacedText) → us ≡ map plain_text ts
    → numbering.texts_of o (map plain_routine rs) ++ us ≡ map plain_text (placed_texts_of o rs ++ ts)
joined o rs us ts e =
    ap (λ l. l ++ us) (plain_texts_of o rs) ∙ ap (λ l. map plain_text (placed_texts_of o rs) ++ l) e
    ∙ sym (map-append plain_text (placed_texts_of o rs) ts)

plain_texts : (k m : ℕ) (ds : List (Decl Place)) → numbering.texts_from k m (map plain_decl ds) ≡ map plain_text (placed_texts_from k m ds)
plain_texts k m [] = refl
plain_texts k m (constant n p c ∷ ds) = plain_texts k m ds
plain_texts k m (device n p o ∷ ds) = plain_texts k m ds
plain_texts k m (event n p ∷ ds) = plain_texts k m ds
plain_texts k m (routine r ∷ ds) = ap (λ ts. plain_text (record { owner = by_program; routine = r }) ∷ ts) (plain_texts k m ds)
plain_texts k m (monitor d ∷ ds) = joined (by_monitor m) d.entries (numbering.texts_from k (suc m) (map plain_decl ds)) (placed_texts_from k (suc m) ds) (plain_texts k (suc m) ds)
plain_texts k m (process p ∷ ds) = joined (by_process k) p.routines (numbering.texts_from (suc k) m (map plain_decl ds)) (placed_texts_from (suc k) m ds) (plain_texts (suc k) m ds)

-- the text is the plain form of one of these
pub record IsPlainOf (ts : List PlacedText) (u : numbering.Text) : Type 0 where
  pub text : PlacedText
  pub listed : Contains ts text
  pub is : plain_text text ≡ u

plain_listed : (ts : List PlacedText) (u : numbering.Text) → Contains (map plain_text ts) u → IsPlainOf ts u
plain_listed [] u c = absurd (none_in u c)
plain_listed (t ∷ ts) u c = by (λ h. plain_listed ts u h) (front_or_behind (plain_text t) (map plain_text ts) u c)
  where
    by : (Contains (map plain_text ts) u → IsPlainOf ts u) → (plain_text t ≡ u) ⊎ Contains (map plain_text ts) u → IsPlainOf (t ∷ ts) u
    by rest (inl e) = record { text = t; listed = at_front t ts; is = e }
    by rest (inr h) = let r = rest h in record { text = r.text; listed = behind t ts r.text r.listed; is = r.is }

-- each text of the plain declarations is the plain form of one where it stands
pub plain_of_placed : (ds : List (Decl Place)) (u : numbering.Text) → Contains (numbering.texts_from 0 0 (map plain_decl ds)) u → IsPlainOf (placed_texts_from 0 0 ds) u
plain_of_placed ds u c = plain_listed (placed_texts_from 0 0 ds) u (subst (λ ts. Contains ts u) (plain_texts 0 0 ds) c)
