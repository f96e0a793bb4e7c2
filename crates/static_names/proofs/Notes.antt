-- What the walk keeps, once all names are noted: the first rule that fails, and where each used name is declared.
use Rattle.std.proofs.Common.{◌≡◌, ℕ, List, [], ◌∷◌, Option, Some, None, Bool, true, false, cond, nat_eq, if◌then◌else◌, ◌⊎◌, inl, inr, refl, ap, sym, ◌∙◌, subst, true≢false}
use Rattle.std.specs.Cmp.{IsEquivalence}
use Rattle.std.specs.Map.{lookup}
use Rattle.std.proofs.lemmas.Cmp.{nat_eq_equiv, on_equiv, and_equiv}
use Rattle.std.proofs.lemmas.Bool.{and_parts, eqb-true}
use Rattle.std.proofs.lemmas.Option.{same_Some, none-some}
use Rattle.indexmap.specs.IndexMap.{insert_entry}
use Rattle.syntax_tree.specs.declared.place.Place.{Place}
use Rattle.static_rule.specs.declared.violation.Violation.{Violation}
use Rattle.static_rule.specs.First.{comes_before, sooner}
use Rattle.static_rule.proofs.Soonest.{NotBefore, not_before-refl, not_before-trans, before-false, before-true}
use Rattle.syntax_tree.specs.Parts.{same_place}
use Rattle.static_names.specs.Reach.{same, suits, or_else}
use Rattle.static_names.specs.Occurrences.{Occurrence, declares, closes, used, declared_at}
use Rattle.static_names.specs.Rules.{Among, place_of, Means, IsUse}
use Rattle.static_names.specs.Findings.{Key, same_key, key_of, Found, blame, tie, note, noted}

-- ---- the sooner of two faults

record Picks (n : Violation) (x : Option Violation) : Type 0 where
  pick : Violation
  is : sooner (Some n) x ≡ Some pick
  source : (n ≡ pick) ⊎ (x ≡ Some pick)
  new : NotBefore n pick
  old : (c : Violation) → x ≡ Some c → NotBefore c pick

picks : (n : Violation) (x : Option Violation) → Picks n x
picks n None = record { pick = n; is = refl; source = inl refl; new = not_before-refl n; old = λ c e. absurd (none-some c e) }
picks n (Some y) = by (comes_before n y) refl
  where
    by : (b : Bool) → comes_before n y ≡ b → Picks n (Some y)
    by true e = record {
      pick = n;
      is = ap (λ b. if b then Some n else Some y) e;
      source = inl refl;
      new = not_before-refl n;
      old = λ c s. subst (λ z. NotBefore z n) (same_Some y c s) (before-true n y e);
    }
    by false e = record {
      pick = y;
      is = ap (λ b. if b then Some n else Some y) e;
      source = inr refl;
      new = before-false n y e;
      old = λ c s. subst (λ z. NotBefore z y) (same_Some y c s) (not_before-refl y);
    }

-- ---- the rule that a name breaks

abbrev pub fault_of : Occurrence → Option ℕ
fault_of (declares name place taken) = if taken then Some 21 else None
fault_of (closes name place opening) = if same name opening then None else Some 23
fault_of (used name place want None) = Some 20
fault_of (used name place want (Some d)) = if suits want d.kind then None else Some 22

abbrev pub after : Option ℕ → Place → Option Violation → Option Violation
after None place first = first
after (Some m) place first = sooner (Some (record { number = m; place = place })) first

pub note-first : (f : Found) (o : Occurrence) → (note f o).first ≡ after (fault_of o) (place_of o) f.first
note-first f (declares name place true) = refl
note-first f (declares name place false) = refl
note-first f (closes name place opening) = by (same name opening)
  where
    by : (b : Bool) → (if b then f else blame f 23 place).first ≡ after (if b then None else Some 23) place f.first
    by true = refl
    by false = refl
note-first f (used name place want None) = refl
note-first f (used name place want (Some d)) = by (suits want d.kind)
  where
    by : (b : Bool) → (if b then tie f place d.place else blame f 22 place).first ≡ after (if b then None else Some 22) place f.first
    by true = refl
    by false = refl

abbrev pub Breaks : ℕ → Place → Occurrence → Type 0
Breaks m p o = (fault_of o ≡ Some m) × (place_of o ≡ p)

-- no name breaks a rule
pub record Clean (x : Option Violation) (os : List Occurrence) : Type 0 where
  pub start : x ≡ None
  pub clean : (m : ℕ) (p : Place) → Among (Breaks m p) os → ⊥

-- the rule is broken there, and none before it
pub record Least (x : Option Violation) (os : List Occurrence) (b : Violation) : Type 0 where
  pub from : (x ≡ Some b) ⊎ Among (Breaks b.number b.place) os
  pub start : (c : Violation) → x ≡ Some c → NotBefore c b
  pub least : (m : ℕ) (p : Place) → Among (Breaks m p) os → NotBefore (record { number = m; place = p }) b

abbrev pub Outcome : Option Violation → List Occurrence → Option Violation → Type 0
Outcome x os None = Clean x os
Outcome x os (Some b) = Least x os b

extend : (o : Occurrence) (os : List Occurrence) (x : Option Violation) (w : Option ℕ) → fault_of o ≡ w → (r : Option Violation) → Outcome (after w (place_of o) x) os r → Outcome x (o ∷ os) r
extend o os x None e None h = record { start = h.start; clean = none }
  where
    none : (m : ℕ) (p : Place) → Among (Breaks m p) (o ∷ os) → ⊥
    none m p (inl b) = none-some m (sym e ∙ b.0)
    none m p (inr rest) = h.clean m p rest
extend o os x None e (Some b) h = record { from = source h.from; start = h.start; least = least }
  where
    source : (x ≡ Some b) ⊎ Among (Breaks b.number b.place) os → (x ≡ Some b) ⊎ Among (Breaks b.number b.place) (o ∷ os)
    source (inl s) = inl s
    source (inr a) = inr (inr a)

    least : (m : ℕ) (p : Place) → Among (Breaks m p) (o ∷ os) → NotBefore (record { number = m; place = p }) b
    least m p (inl s) = absurd (none-some m (sym e ∙ s.0))
    least m p (inr rest) = h.least m p rest
extend o os x (Some m) e None h = let s = picks (record { number = m; place = place_of o }) x in absurd (none-some s.pick (sym h.start ∙ s.is))
extend o os x (Some m) e (Some b) h = record { from = source h.from; start = start; least = least }
  where
    fault : Violation
    fault = record { number = m; place = place_of o }

    s : Picks fault x
    s = picks fault x

    picked : (n : Violation) → NotBefore n s.pick → NotBefore n b
    picked n l = not_before-trans n s.pick b l (h.start s.pick s.is)

    chosen : (s.pick ≡ b) → (fault ≡ s.pick) ⊎ (x ≡ Some s.pick) → (x ≡ Some b) ⊎ Among (Breaks b.number b.place) (o ∷ os)
    chosen i (inl n) = inr (inl (e ∙ ap (λ y. Some y.number) (n ∙ i), ap (λ y. y.place) (n ∙ i)))
    chosen i (inr n) = inl (n ∙ ap (λ y. Some y) i)

    source : (sooner (Some fault) x ≡ Some b) ⊎ Among (Breaks b.number b.place) os → (x ≡ Some b) ⊎ Among (Breaks b.number b.place) (o ∷ os)
    source (inl i) = chosen (same_Some s.pick b (sym s.is ∙ i)) s.source
    source (inr a) = inr (inr a)

    start : (c : Violation) → x ≡ Some c → NotBefore c b
    start c i = picked c (s.old c i)

    least : (n : ℕ) (p : Place) → Among (Breaks n p) (o ∷ os) → NotBefore (record { number = n; place = p }) b
    least n p (inl i) = subst (λ y. NotBefore y b) (λ j. record { number = same_Some m n (sym e ∙ i.0) j; place = i.1 j }) (picked fault s.new)
    least n p (inr rest) = h.least n p rest

pub first_of_all : (os : List Occurrence) (f : Found) (r : Option Violation) → (noted f os).first ≡ r → Outcome f.first os r
first_of_all [] f None e = record { start = e; clean = λ m p a. a }
first_of_all [] f (Some b) e = record { from = inl e; start = λ c i. subst (λ y. NotBefore y b) (same_Some b c (sym e ∙ i)) (not_before-refl b); least = λ m p a. absurd a }
first_of_all (o ∷ os) f r e = extend o os f.first (fault_of o) refl r (subst (λ x. Outcome x os r) (note-first f o) (first_of_all os (note f o) r e))

-- ---- where used names are declared

pub key_equiv : IsEquivalence same_key
key_equiv = and_equiv (on_equiv (λ (x : Key). x.0) nat_eq_equiv) (on_equiv (λ (x : Key). x.1) nat_eq_equiv)

pub key-true : (p q : Place) → same_key (key_of p) (key_of q) ≡ true → p ≡ q
key-true p q h =
    let parts = and_parts (nat_eq p.line q.line) (nat_eq p.col q.col) h in
    λ i. record { line = eqb-true p.line q.line parts.0 i; col = eqb-true p.col q.col parts.1 i }

both : (x : Bool) (a b c : Option Place) → cond x a c ≡ cond x a (cond x b c)
both true a b c = refl
both false a b c = refl

swap : (x y : Bool) (a b c : Option Place) → (y ≡ true → x ≡ false) → cond x a (cond y b c) ≡ cond y b (cond x a c)
swap true true a b c h = absurd (true≢false (h refl))
swap true false a b c h = refl
swap false true a b c h = refl
swap false false a b c h = refl

-- a value put at a key
pub lookup-insert : (es : List (Key × Place)) (k q : Key) (v : Place) → lookup (same_key q) (insert_entry same_key es k v) ≡ cond (same_key q k) (Some v) (lookup (same_key q) es)
lookup-insert [] k q v = refl
lookup-insert (e ∷ es) k q v = by (same_key k e.0) refl (lookup-insert es k q v)
  where
    by : (b : Bool) → same_key k e.0 ≡ b → lookup (same_key q) (insert_entry same_key es k v) ≡ cond (same_key q k) (Some v) (lookup (same_key q) es)
        → lookup (same_key q) (if b then (e.0, v) ∷ es else e ∷ insert_entry same_key es k v) ≡ cond (same_key q k) (Some v) (cond (same_key q e.0) (Some e.1) (lookup (same_key q) es))
    by true h ih =
        both (same_key q e.0) (Some v) (Some e.1) (lookup (same_key q) es)
        ∙ ap (λ b. cond b (Some v) (cond (same_key q e.0) (Some e.1) (lookup (same_key q) es))) (key_equiv.symm q e.0 ∙ sym (key_equiv.congr k e.0 q h) ∙ key_equiv.symm k q)
    by false h ih =
        ap (λ r. cond (same_key q e.0) (Some e.1) r) ih
        ∙ swap (same_key q e.0) (same_key q k) (Some e.1) (Some v) (lookup (same_key q) es) (λ t. sym (key_equiv.congr k q e.0 (key_equiv.symm k q ∙ t)) ∙ h)

-- what the noted ties say of a place
abbrev pub tied : Found → Place → Option Place
tied f p = lookup (same_key (key_of p)) f.ties

pub record Step (f : Found) (o : Occurrence) (g : Found) (p : Place) : Type 0 where
  pub some : (q : Place) → tied g p ≡ Some q → ((place_of o ≡ p) × Means q o) ⊎ (tied f p ≡ Some q)
  pub none : tied g p ≡ None → (tied f p ≡ None) × (place_of o ≡ p → IsUse o → fault_of o ≡ None → ⊥)

unmoved : (f : Found) (o : Occurrence) (g : Found) (p : Place) → g.ties ≡ f.ties → (IsUse o → fault_of o ≡ None → ⊥) → Step f o g p
unmoved f o g p e no_use = record {
  some = λ q h. inr (sym (ap (lookup (same_key (key_of p))) e) ∙ h);
  none = λ h. (sym (ap (lookup (same_key (key_of p))) e) ∙ h, λ there is_use fine. no_use is_use fine);
}

step : (f : Found) (o : Occurrence) (p : Place) → Step f o (note f o) p
step f (declares name place true) p = unmoved f (declares name place true) (note f (declares name place true)) p refl (λ u e. u)
step f (declares name place false) p = unmoved f (declares name place false) (note f (declares name place false)) p refl (λ u e. u)
step f (closes name place opening) p = unmoved f (closes name place opening) (note f (closes name place opening)) p (by (same name opening)) (λ u e. u)
  where
    by : (b : Bool) → (if b then f else blame f 23 place).ties ≡ f.ties
    by true = refl
    by false = refl
step f (used name place want None) p = unmoved f (used name place want None) (note f (used name place want None)) p refl (λ u e. none-some 20 (sym e))
step f (used name place want (Some d)) p = by (suits want d.kind) refl
  where
    o : Occurrence
    o = used name place want (Some d)

    by : (b : Bool) → suits want d.kind ≡ b → Step f o (if b then tie f place d.place else blame f 22 place) p
    by false e = unmoved f o (blame f 22 place) p refl (λ u h. none-some 22 (sym h ∙ ap (λ b. if b then None else Some 22) e))
    by true e = at (same_key (key_of p) (key_of place)) refl
      where
        is : (b : Bool) → same_key (key_of p) (key_of place) ≡ b → tied (tie f place d.place) p ≡ cond b (Some d.place) (tied f p)
        is b h = lookup-insert f.ties (key_of place) (key_of p) d.place ∙ ap (λ c. cond c (Some d.place) (tied f p)) h

        at : (b : Bool) → same_key (key_of p) (key_of place) ≡ b → Step f o (tie f place d.place) p
        at true h = record {
          some = λ q s. inl (sym (key-true p place h), same_Some d.place q (sym (is true h) ∙ s));
          none = λ s. absurd (none-some d.place (sym s ∙ is true h));
        }
        at false h = record {
          some = λ q s. inr (sym (is false h) ∙ s);
          none = λ s. (sym (is false h) ∙ s, λ there u fine. true≢false (sym (key_equiv.refl (key_of p)) ∙ ap (λ x. same_key (key_of p) (key_of x)) (sym there) ∙ h));
        }

-- what the ties say of a place once all names are noted
pub record Ties (f : Found) (os : List Occurrence) (p : Place) : Type 0 where
  pub some : (q : Place) → tied (noted f os) p ≡ Some q → Among (λ o. (place_of o ≡ p) × Means q o) os ⊎ (tied f p ≡ Some q)
  pub none : tied (noted f os) p ≡ None → (tied f p ≡ None) × (Among (λ o. (place_of o ≡ p) × IsUse o × (fault_of o ≡ None)) os → ⊥)

ties-cons : (o : Occurrence) (os : List Occurrence) (f : Found) (p : Place) → Step f o (note f o) p → Ties (note f o) os p → Ties f (o ∷ os) p
ties-cons o os f p one rest = record { some = λ q h. later q (rest.some q h); none = λ h. ((one.none ((rest.none h).0)).0, gone h) }
  where
    here : (q : Place) → ((place_of o ≡ p) × Means q o) ⊎ (tied f p ≡ Some q) → Among (λ x. (place_of x ≡ p) × Means q x) (o ∷ os) ⊎ (tied f p ≡ Some q)
    here q (inl a) = inl (inl a)
    here q (inr a) = inr a

    later : (q : Place) → Among (λ x. (place_of x ≡ p) × Means q x) os ⊎ (tied (note f o) p ≡ Some q) → Among (λ x. (place_of x ≡ p) × Means q x) (o ∷ os) ⊎ (tied f p ≡ Some q)
    later q (inl a) = inl (inr a)
    later q (inr a) = here q (one.some q a)

    gone : tied (noted (note f o) os) p ≡ None → Among (λ x. (place_of x ≡ p) × IsUse x × (fault_of x ≡ None)) (o ∷ os) → ⊥
    gone h (inl a) = (one.none ((rest.none h).0)).1 a.0 a.1 a.2
    gone h (inr a) = (rest.none h).1 a

pub ties_of_all : (os : List Occurrence) (f : Found) (p : Place) → Ties f os p
ties_of_all [] f p = record { some = λ q h. inr h; none = λ h. (h, λ a. a) }
ties_of_all (o ∷ os) f p = ties-cons o os f p (step f o p) (ties_of_all os (note f o) p)

-- ---- looking up in the ties

later-else : (late : Option Place) (b : Bool) (here : Place) (early : Option Place) → or_else late (cond b (Some here) early) ≡ or_else (or_else late (if b then Some here else None)) early
later-else (Some q) b here early = refl
later-else None true here early = refl
later-else None false here early = refl

-- where no name breaks a rule, the ties tell of a place what the names tell, and else what they told before
pub tied-declared : (os : List Occurrence) (f : Found) (p : Place) → ((m : ℕ) (q : Place) → Among (Breaks m q) os → ⊥) → tied (noted f os) p ≡ or_else (declared_at os p) (tied f p)
tied-declared [] f p clean = refl
tied-declared (declares name q true ∷ os) f p clean = absurd (clean 21 q (inl (refl, refl)))
tied-declared (declares name q false ∷ os) f p clean = tied-declared os f p (λ m r a. clean m r (inr a))
tied-declared (closes name q opening ∷ os) f p clean = tied-declared os (note f (closes name q opening)) p (λ m r a. clean m r (inr a)) ∙ ap (or_else (declared_at os p)) (by (same name opening))
  where
    by : (b : Bool) → tied (if b then f else blame f 23 q) p ≡ tied f p
    by true = refl
    by false = refl
tied-declared (used name q want None ∷ os) f p clean = absurd (clean 20 q (inl (refl, refl)))
tied-declared (used name q want (Some d) ∷ os) f p clean = by (suits want d.kind) refl (λ g. tied-declared os g p (λ m r a. clean m r (inr a)))
  where
    by : (b : Bool) → suits want d.kind ≡ b → ((g : Found) → tied (noted g os) p ≡ or_else (declared_at os p) (tied g p)) → tied (noted (if b then tie f q d.place else blame f 22 q) os) p ≡ or_else (or_else (declared_at os p) (if same_place q p then Some d.place else None)) (tied f p)
    by true e rest =
        rest (tie f q d.place)
        ∙ ap (or_else (declared_at os p)) (lookup-insert f.ties (key_of q) (key_of p) d.place ∙ ap (λ b. cond b (Some d.place) (tied f p)) (key_equiv.symm (key_of p) (key_of q)))
        ∙ later-else (declared_at os p) (same_place q p) d.place (tied f p)
    by false e rest = absurd (clean 22 q (inl (ap (λ b. if b then None else Some 22) e, refl)))
