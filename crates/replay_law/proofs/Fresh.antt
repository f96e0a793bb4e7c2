-- Names that are identifiers and differ are in the ranges of their fields.
use Rattle.std.proofs.Common.{◌≡◌, ◌≤◌, ◌<◌, ◌==◌, ◌&&◌, ◌++◌, ◌∙◌, ◌⊎◌, inl, inr, not, ℕ, Bool, true, false, List, [], ◌∷◌, length, map, append_assoc, arith, refl, sym, subst, ap}
use Rattle.std.specs.Prelude.{Contains, nat_eq, nat_lt}
use Rattle.std.specs.Cmp.Lexicographic.{pointwise}
use Rattle.std.specs.List.{list_any}
use Rattle.std.proofs.lemmas.Bool.{eq-eqb, eqb-true, lt-ltb, or_cases}
use Rattle.base.proofs.Members.{at_front, behind}
use Rattle.syntax_tree.specs.Plain.{Name}
use Rattle.syntax.specs.Spellings.{is_identifier, keywords}
use Rattle.image.specs.declared.names.ConditionName.{ConditionName}
use Rattle.image_format.specs.Format.{Format, each_is, is_fine, unless}
use Rattle.image_format.specs.TreeFormat.{u16_below, within}
use Rattle.image_format.proofs.Booleans.{together}
use Rattle.image_reader.specs.Grammar as g
use Rattle.image_reader.proofs.Words.{same_words}
use Rattle.image_reader_law.proofs.Ranged.{fine_within}
use Rattle.wellformed_law.proofs.Members.{In, in-left, in-right}
use Rattle.replay_law.specs.Words.{IsIdentifier}
use Rattle.replay_law.proofs.Differing.{Differing}
use Rattle.replay_law.proofs.Qualified.{Apart}
use Rattle.replay_law.proofs.Numbers.{fine, short_below}

-- ---- one name

-- the name is none of these
abbrev pub NoneOf : Name → List Name → Type 0
NoneOf name taken = (t : Name) → In taken t → name ≡ t → ⊥

pub other_word : (x y : Name) → (x ≡ y → ⊥) → pointwise nat_eq x y ≡ false
other_word x y differ = by (pointwise nat_eq x y) refl where
  by : (b : Bool) → pointwise nat_eq x y ≡ b → b ≡ false
  by true is = absurd (differ (same_words x y is))
  by false is = refl

none_there : (name : Name) (taken : List Name) → NoneOf name taken → g.has taken name ≡ false
none_there name [] h = refl
none_there name (t ∷ ts) h = rw (other_word name t (h t (inl refl)), none_there name ts (λ u i. h u (inr i))) refl

listed : (name : Name) (words : List (List ℕ)) → list_any (pointwise nat_eq name) words ≡ true → Contains words name
listed name [] is = absurd cc
listed name (w ∷ ws) is = elim (or_cases (pointwise nat_eq name w) (list_any (pointwise nat_eq name) ws) is) [
  | inl here ↦ subst (λ (x : Name). Contains (w ∷ ws) x) (sym (same_words name w here)) (at_front w ws)
  | inr later ↦ behind w ws name (listed name ws later)
]

no_keyword : (name : Name) → (Contains keywords name → ⊥) → g.has keywords name ≡ false
no_keyword name none = by (g.has keywords name) refl where
  by : (b : Bool) → g.has keywords name ≡ b → b ≡ false
  by true is = absurd (none (listed name keywords is))
  by false is = refl

pub name_is : (taken : List Name) (name : Name) → IsIdentifier name → NoneOf name taken → (g.name_format taken).is name ≡ true
name_is taken name is new =
    let long = length name in
    let sized = nat_lt long 256 && is_fine (within 0 63 long) in
    let spelled : is_identifier name ≡ true = is.0 in
    let short : long ≤ 63 = is.2 in
    together (sized && (long == long)) (is_fine (g.wrong_name taken name))
    (together sized (long == long) (together (nat_lt long 256) (is_fine (within 0 63 long)) (lt-ltb long 256 (omega (arith, short))) (fine_within 0 63 long (omega arith) short)) (eq-eqb long long refl))
    (fine (is_identifier name && not (g.has keywords name) && not (g.has taken name)) 5
    (rw (spelled, no_keyword name is.1, none_there name taken new) refl))

-- ---- lists of names

pub in_either : {X : Type 0} (xs ys : List X) (x : X) → In (xs ++ ys) x → In xs x ⊎ In ys x
in_either [] ys x i = inr i
in_either (z ∷ xs) ys x (inl e) = inl (inl e)
in_either (z ∷ xs) ys x (inr i) = elim (in_either xs ys x i) [ inl left ↦ inl (inr left) | inr right ↦ inr right ]

in_first : {X : Type 0} (xs ys : List X) (x : X) → In xs x → In (xs ++ ys) x
in_first xs ys x i = in-left xs ys x i

in_second : {X : Type 0} (xs ys : List X) (x : X) → In ys x → In (xs ++ ys) x
in_second xs ys x i = in-right xs ys x i

pub none_of_both : (name : Name) (xs ys : List Name) → NoneOf name xs → NoneOf name ys → NoneOf name (xs ++ ys)
none_of_both name xs ys left right t i = elim (in_either xs ys t i) [ inl a ↦ left t a | inr b ↦ right t b ]

in_pushed : {X : Type 0} (label : X → Name) (xs : List X) (x : X) (t : Name) → In (map label (xs ++ x ∷ [])) t → In (map label xs) t ⊎ (label x ≡ t)
in_pushed label [] x t (inl e) = inr e
in_pushed label [] x t (inr i) = absurd i
in_pushed label (z ∷ zs) x t (inl e) = inl (inl e)
in_pushed label (z ∷ zs) x t (inr i) = elim (in_pushed label zs x t i) [ inl left ↦ inl (inr left) | inr last ↦ inr last ]

named_in : {X : Type 0} (label : X → Name) (xs : List X) (x : X) → In xs x → In (map label xs) (label x)
named_in label [] x i = absurd i
named_in label (y ∷ ys) x (inl e) = inl (ap label e)
named_in label (y ∷ ys) x (inr i) = inr (named_in label ys x i)

-- of things one after the other, each in its range where its name is new
module _ {X : Type 0} (one : List X → Format X) (label : X → Name) (taken : List Name) (all : List X)
    (fits : (earlier : List X) (x : X) (later : List X) → all ≡ earlier ++ x ∷ later → NoneOf (label x) (taken ++ map label earlier) → (one earlier).is x ≡ true) where
  pub each_fits : (earlier xs : List X) → all ≡ earlier ++ xs → ((y : X) → In xs y → NoneOf (label y) (taken ++ map label earlier)) → Differing (map label xs) → each_is one earlier (length xs) xs ≡ true
  each_fits earlier [] is new differ = refl
  each_fits earlier (x ∷ xs) is new differ =
      let next : (y : X) → In xs y → NoneOf (label y) (taken ++ map label (earlier ++ x ∷ [])) = λ y i t j same.
      elim (in_either taken (map label (earlier ++ x ∷ [])) t j) [
        | inl before ↦ new y (inr i) t (in_first taken (map label earlier) t before) same
        | inr among ↦ elim (in_pushed label earlier x t among) [
          | inl past ↦ new y (inr i) t (in_second taken (map label earlier) t past) same
          | inr last ↦ differ.0 (label y) (named_in label xs y i) (last ∙ sym same)
        ]
      ] in
      together ((one earlier).is x) (each_is one (earlier ++ x ∷ []) (length xs) xs) (fits earlier x xs is (new x (inl refl)))
      (each_fits (earlier ++ x ∷ []) xs (is ∙ sym (append_assoc earlier (x ∷ []) xs)) next differ.1)

-- ---- conditions

new_condition : (earlier : List ConditionName) (c : ConditionName) → ((e : ConditionName) → In earlier e → e.mon ≡ c.mon → e.name ≡ c.name → ⊥) → g.is_again earlier c ≡ false
new_condition [] c new = refl
new_condition (e ∷ es) c new = rw (here (nat_eq c.mon e.mon) refl, new_condition es c (λ d i. new d (inr i))) refl where
  here : (b : Bool) → nat_eq c.mon e.mon ≡ b → (b && pointwise nat_eq c.name e.name) ≡ false
  here true is = let mon : c.mon ≡ e.mon = eqb-true c.mon e.mon is in other_word c.name e.name (λ name. new e (inl refl) (sym mon) (sym name))
  here false is = refl

the_last : (c e : ConditionName) → In (c ∷ []) e → c ≡ e
the_last c e (inl is) = is
the_last c e (inr i) = absurd i

pub conditions_fit : (taken : List Name) (monitors : ℕ) (earlier cs : List ConditionName) → monitors ≤ 64 → ((c : ConditionName) → In cs c → IsIdentifier c.name × NoneOf c.name taken × (c.mon < monitors))
    → ((c : ConditionName) → In cs c → (e : ConditionName) → In earlier e → e.mon ≡ c.mon → e.name ≡ c.name → ⊥) → Apart cs → each_is (g.condition_format taken monitors) earlier (length cs) cs ≡ true
conditions_fit taken monitors earlier [] few each new apart = refl
conditions_fit taken monitors earlier (c ∷ cs) few each new apart =
    let own = each c (inl refl) in
    let next : (d : ConditionName) → In cs d → (e : ConditionName) → In (earlier ++ c ∷ []) e → e.mon ≡ d.mon → e.name ≡ d.name → ⊥ = λ d i e j mon name.
    elim (in_either earlier (c ∷ []) e j) [
      | inl past ↦ new d (inr i) e past mon name
      | inr last ↦ (let same : c ≡ e = the_last c e last in apart.0 d i (ap (λ (x : ConditionName). x.mon) same ∙ mon) (ap (λ (x : ConditionName). x.name) same ∙ name))
    ] in
    let named = (g.name_format taken).is c.name in
    let one : (g.condition_format taken monitors earlier).is c ≡ true =
    together (named && (u16_below monitors).is c.mon) (is_fine (unless (not (g.is_again earlier c)) 5))
    (together named ((u16_below monitors).is c.mon) (name_is taken c.name own.0 own.1) (short_below monitors c.mon own.2 (omega (arith, few))))
    (fine (not (g.is_again earlier c)) 5 (ap not (new_condition earlier c (new c (inl refl))))) in
    together ((g.condition_format taken monitors earlier).is c) (each_is (g.condition_format taken monitors) (earlier ++ c ∷ []) (length cs) cs) one
    (conditions_fit taken monitors (earlier ++ c ∷ []) cs few (λ d i. each d (inr i)) next apart.1)
