-- Which declarations count as declared already where a name is declared.
use Rattle.std.proofs.Common.{◌≡◌, Bool, true, false, cond, not, List, [], ◌∷◌, ◌++◌, Option, Some, None, is_some, inl, inr, refl, ap, sym, ◌∙◌, subst, append_assoc, append-nil}
use Rattle.std.specs.Prelude.{◌&&◌, ◌||◌, filter}
use Rattle.std.specs.Option.{option_map_or}
use Rattle.std.proofs.lemmas.Bool.{or_left, or_right, or_from, not_from_true, not_from_false}
use Rattle.syntax_tree.specs.Parts.{same_place}
use Rattle.syntax_tree.specs.Plain.{Name}
use Rattle.syntax_tree.specs.declared.place.Place.{Place}
use Rattle.static_names.specs.declared.kind.Declared.{Declared}
use Rattle.static_names.specs.Reach as site
use Rattle.static_names.specs.Reach.{Names, first, or_else, within}
use Rattle.static_names.specs.Occurrences as rule
use Rattle.message_names.specs.declared.role.Reach.{Reach}
use Rattle.message_names.specs.declared.role.Role.TheVariants as role_is
use Rattle.message_names.specs.declared.sight.Sight.TheVariants as sight_is
use Rattle.message_names.specs.Mentions.{Mention, before_all}
use Rattle.message_names.specs.Reach.{before, declared, innermost, reaches, sees}
use Rattle.message_names.proofs.Order.{Ahead, Mem, Rising, ahead-apart, not-ahead, not-itself}
use Rattle.message_names.proofs.Parts.{mem-left, mem-right, mem-place}
use Rattle.message_names.proofs.Spots.{places, map-append}
use Rattle.message_names.proofs.Standing.{itself}
use Rattle.message_names.proofs.Uses.{IsTaken, Keeps}
use Rattle.message_names.proofs.Views.{rises-right, rises-apart, view, begins, pick, picked, Under, Begin, placed, stood, Sees, Ties, ties-append, sees-within}

-- where a name stands of the scope that begins at b, of this scope only what stands before counts
abbrev pub counts : (b p : Place) → Mention → Bool
counts b p m = not (same_place (begins m) b) || before m.place p

pub others-view : (b p : Place) (ms : List Mention) → filter (sees (sight_is.Others b) p) ms ≡ filter (counts b p) (view p ms)
others-view b p [] = refl
others-view b p (m ∷ ms) = by (declared m.role) refl (others-view b p ms)
  where
    fits : (r : Reach) (c : Bool) → declared m.role ≡ Some r → filter (sees (sight_is.Others b) p) ms ≡ filter (counts b p) (view p ms)
        → cond (c && (not (same_place r.scope.begin b) || before m.place p)) (m ∷ filter (sees (sight_is.Others b) p) ms) (filter (sees (sight_is.Others b) p) ms) ≡ filter (counts b p) (cond c (m ∷ view p ms) (view p ms))
    fits r false e rest = rest
    fits r true e rest =
        ap (λ l. cond (not (same_place r.scope.begin b) || before m.place p) (m ∷ l) l) rest
        ∙ ap (λ o. cond (not (same_place (option_map_or (λ x. x.scope.begin) o before_all) b) || before m.place p) (m ∷ filter (counts b p) (view p ms)) (filter (counts b p) (view p ms))) (sym e)

    by : (o : Option Reach) → declared m.role ≡ o → filter (sees (sight_is.Others b) p) ms ≡ filter (counts b p) (view p ms)
        → cond (option_map_or (λ r. reaches r p && (not (same_place r.scope.begin b) || before m.place p)) o false) (m ∷ filter (sees (sight_is.Others b) p) ms) (filter (sees (sight_is.Others b) p) ms)
        ≡ filter (counts b p) (cond (option_map_or (λ r. reaches r p) o false) (m ∷ view p ms) (view p ms))
    by None e rest = rest
    by (Some r) e rest = fits r (reaches r p) e rest

pub kept-append : (t : Mention → Bool) (ms ns : List Mention) → filter t (ms ++ ns) ≡ filter t ms ++ filter t ns
kept-append t [] ns = refl
kept-append t (m ∷ ms) ns = by (t m) (kept-append t ms ns)
  where
    by : (c : Bool) → filter t (ms ++ ns) ≡ filter t ms ++ filter t ns → cond c (m ∷ filter t (ms ++ ns)) (filter t (ms ++ ns)) ≡ cond c (m ∷ filter t ms) (filter t ms) ++ filter t ns
    by true e = ap (λ l. m ∷ l) e
    by false e = e

kept-all : (t : Mention → Bool) (ms : List Mention) → ((m : Mention) → Mem m ms → t m ≡ true) → filter t ms ≡ ms
kept-all t [] h = refl
kept-all t (m ∷ ms) h = ap (λ c. cond c (m ∷ filter t ms) (filter t ms)) (h m (inl refl)) ∙ ap (λ l. m ∷ l) (kept-all t ms (λ x is. h x (inr is)))

kept-none : (t : Mention → Bool) (ms : List Mention) → ((m : Mention) → Mem m ms → t m ≡ false) → filter t ms ≡ []
kept-none t [] h = refl
kept-none t (m ∷ ms) h = ap (λ c. cond c (m ∷ filter t ms) (filter t ms)) (h m (inl refl)) ∙ kept-none t ms (λ x is. h x (inr is))

outer-counts : (b p : Place) (ms : List Mention) → Under b ms → (m : Mention) → Mem m ms → counts b p m ≡ true
outer-counts b p ms under m is = or_left (not (same_place (begins m) b)) (before m.place p) (not_from_false (same_place (begins m) b) (ahead-apart (begins m) b (under m is)))

pub counted : (ms outer done todo behind : List Mention) (b p : Place) (n : Name) → view p ms ≡ outer ++ ((done ++ todo) ++ behind) → Under b outer → Under b behind → Begin b todo
    → ((m : Mention) → Mem m done → Ahead m.place p) → ((m : Mention) → Mem m todo → before m.place p ≡ false) → innermost (sight_is.Others b) n p ms ≡ pick n None (outer ++ (done ++ behind))
counted ms outer done todo behind b p n seen low high begin first later =
    picked n (sees (sight_is.Others b) p) None ms
    ∙ ap (pick n None) (others-view b p ms ∙ ap (filter (counts b p)) seen
    ∙ kept-append (counts b p) outer ((done ++ todo) ++ behind)
    ∙ ap (λ l. l ++ filter (counts b p) ((done ++ todo) ++ behind)) (kept-all (counts b p) outer (outer-counts b p outer low))
    ∙ ap (λ l. outer ++ l) (kept-append (counts b p) (done ++ todo) behind
    ∙ ap (λ l. l ++ filter (counts b p) behind) (kept-append (counts b p) done todo
    ∙ ap (λ l. l ++ filter (counts b p) todo) (kept-all (counts b p) done (λ m is. or_right (not (same_place (begins m) b)) (before m.place p) (first m is)))
    ∙ ap (λ l. done ++ l) (kept-none (counts b p) todo (λ m is. or_from (not (same_place (begins m) b)) (before m.place p) (not_from_true (same_place (begins m) b) (ap (λ q. same_place q b) (begin m is) ∙ itself b)) (later m is)))
    ∙ append-nil done)
    ∙ ap (λ l. done ++ l) (kept-all (counts b p) behind (outer-counts b p behind high))))

some-placed : (x : Option Mention) (y : Option Declared) → placed x ≡ stood y → is_some x ≡ is_some y
some-placed x y e = sym (of-placed x) ∙ ap is_some e ∙ of-stood y
  where
    of-placed : (x : Option Mention) → is_some (placed x) ≡ is_some x
    of-placed None = refl
    of-placed (Some m) = refl

    of-stood : (y : Option Declared) → is_some (stood y) ≡ is_some y
    of-stood None = refl
    of-stood (Some d) = refl

pub some-seen : (ms : List Mention) (means : site.Reach) → Sees ms means → (n : Name) → is_some (pick n None ms) ≡ is_some (means n)
some-seen ms means seen n = some-placed (pick n None ms) (means n) (seen n)

some-else : (x y : Option Declared) → is_some (or_else x y) ≡ (is_some x || is_some y)
some-else None y = refl
some-else (Some d) y = refl

-- none of the places from one on stands before it
pub first-not : (p : Place) (ps : List Place) → Rising (p ∷ ps) → (q : Place) → Mem q (p ∷ ps) → before q p ≡ false
first-not p ps rises q (inl e) = ap (λ x. before x p) (sym e) ∙ not-itself p
first-not p ps rises q (inr is) = not-ahead p q (rises.0 q is)

-- ---- the declarations of a scope, one after another

-- the name is told, and where it stands all this reaches
abbrev pub OwnAt : (ms reach : List Mention) → Mention → Type 0
OwnAt ms reach m = Mem m ms × ((r : Reach) × (m.role ≡ role_is.Declares r)) × (view m.place ms ≡ reach)

pub taken-as : (ms : List Mention) (m : Mention) (name : Name) (place : Place) (taken : Bool) → m.name ≡ name → m.place ≡ place → Mem m ms → ((r : Reach) × (m.role ≡ role_is.Declares r))
    → is_some (innermost (sight_is.Others (begins m)) m.name m.place ms) ≡ taken → IsTaken ms name place taken
taken-as ms m name place taken n p is role other = record {
  reach = role.0;
  listed = subst (λ x. Mem x ms) (λ i. record { name = n i; place = p i; role = role.1 i }) is;
  other = subst (λ x. is_some (innermost (sight_is.Others (begins x)) x.name x.place ms) ≡ taken) (λ i. record { name = n i; place = p i; role = role.1 i }) other;
}

module _ (ms outer own behind : List Mention) (b : Place) (outside : site.Reach) (means : Sees (outer ++ behind) outside) (low : Under b outer) (high : Under b behind) (begin : Begin b own)
    (rises : Rising (places own)) (at : (m : Mention) → Mem m own → OwnAt ms (outer ++ (own ++ behind)) m) where
  pub of-declarations : (done todo : List Mention) (earlier ds : Names) → own ≡ done ++ todo → Ties done earlier → Ties todo ds → Keeps ms (rule.declarations outside earlier ds)
  of-declarations done [] earlier [] is did will more rest = rest
  of-declarations done [] earlier (d ∷ ds) is did will more rest = absurd will
  of-declarations done (m ∷ todo) earlier [] is did will more rest = absurd will
  of-declarations done (m ∷ todo) earlier (d ∷ ds) is did will more rest =
      let among : Mem m own = subst (Mem m) (sym is) (mem-right m done (m ∷ todo) (inl refl)) in
      let here = at m among in
      let ordered : Rising (places done ++ places (m ∷ todo)) = subst Rising (ap places is ∙ sym (map-append done (m ∷ todo))) rises in
      let begin_done : Begin b done = λ x in_done. begin x (subst (Mem x) (sym is) (mem-left x done (m ∷ todo) in_done)) in
      let begin_todo : Begin b (m ∷ todo) = λ x in_todo. begin x (subst (Mem x) (sym is) (mem-right x done (m ∷ todo) in_todo)) in
      let found : innermost (sight_is.Others b) m.name m.place ms ≡ pick m.name None (outer ++ (done ++ behind)) =
      counted ms outer done (m ∷ todo) behind b m.place m.name (here.2 ∙ ap (λ l. outer ++ (l ++ behind)) is) low high begin_todo
      (λ x in_done. rises-apart (places done) (places (m ∷ todo)) ordered x.place m.place (mem-place x done in_done) (inl refl))
      (λ x in_todo. first-not m.place (places todo) (rises-right (places done) (places (m ∷ todo)) ordered) x.place (mem-place x (m ∷ todo) in_todo)) in
      let seen : Sees (outer ++ (done ++ behind)) (within (first earlier) outside) = sees-within b outer done behind earlier outside low high begin_done did means in (
        taken-as ms m d.0 d.1.place _ will.0 will.1 here.0 here.1
            (ap (λ q. is_some (innermost (sight_is.Others q) m.name m.place ms)) (begin m among) ∙ ap is_some found ∙ some-seen (outer ++ (done ++ behind)) (within (first earlier) outside) seen m.name
            ∙ ap (λ n. is_some (or_else (first earlier n) (outside n))) will.0 ∙ some-else (first earlier d.0) (outside d.0)),
        of-declarations (done ++ m ∷ []) todo (earlier ++ d ∷ []) ds (is ∙ sym (append_assoc done (m ∷ []) todo)) (ties-append done (m ∷ []) earlier (d ∷ []) did (will.0, will.1, tt)) will.2 more rest,
      )
