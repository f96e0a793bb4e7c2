-- What of the names that are told reaches a place, and which of that is meant.
use Rattle.std.proofs.Common.{◌≡◌, Bool, true, false, cond, not, List, [], ◌∷◌, ◌++◌, Option, Some, None, is_some, option_map, ◌⊎◌, inl, inr, refl, ap, sym, ◌∙◌, subst, true≢false}
use Rattle.std.specs.Prelude.{◌&&◌, filter, fold, find, bytes_eq, if◌then◌else◌}
use Rattle.std.specs.Option.{option_map_or}
use Rattle.std.proofs.lemmas.Bool.{and_left, and_right, not_from_true}
use Rattle.std.proofs.lemmas.Cmp.{nat_list_eq_equiv}
use Rattle.syntax_tree.specs.Plain.{Name}
use Rattle.syntax_tree.specs.declared.place.Place.{Place}
use Rattle.static_names.specs.declared.kind.Declared.{Declared}
use Rattle.static_names.specs.Reach as rule
use Rattle.static_names.specs.Reach.{Names, first, or_else}
use Rattle.message_names.specs.declared.role.Reach.{Reach}
use Rattle.message_names.specs.declared.sight.Sight.TheVariants as sight_is
use Rattle.message_names.specs.Mentions.{Mention}
use Rattle.message_names.specs.Reach.{before, declared, inner, innermost, reaches, scope_begin, sees}
use Rattle.message_names.proofs.Order.{Ahead, Mem, Rising, not-ahead, not-itself}
use Rattle.message_names.proofs.Parts.{mem-left, mem-right}

-- ---- members and rising places of joined lists

pub mem-split : {X : Type 0} (x : X) (xs ys : List X) → Mem x (xs ++ ys) → Mem x xs ⊎ Mem x ys
mem-split x [] ys m = inr m
mem-split x (z ∷ xs) ys (inl e) = inl (inl e)
mem-split x (z ∷ xs) ys (inr m) = by (mem-split x xs ys m)
  where
    by : Mem x xs ⊎ Mem x ys → Mem x (z ∷ xs) ⊎ Mem x ys
    by (inl h) = inl (inr h)
    by (inr h) = inr h

pub rises-left : (ps qs : List Place) → Rising (ps ++ qs) → Rising ps
rises-left [] qs r = tt
rises-left (p ∷ ps) qs r = (λ q m. r.0 q (mem-left q ps qs m), rises-left ps qs r.1)

pub rises-right : (ps qs : List Place) → Rising (ps ++ qs) → Rising qs
rises-right [] qs r = r
rises-right (p ∷ ps) qs r = rises-right ps qs r.1

pub rises-apart : (ps qs : List Place) → Rising (ps ++ qs) → (p q : Place) → Mem p ps → Mem q qs → Ahead p q
rises-apart [] qs r p q m n = absurd m
rises-apart (x ∷ ps) qs r p q (inl e) n = subst (λ y. Ahead y q) e (r.0 q (mem-right q ps qs n))
rises-apart (x ∷ ps) qs r p q (inr m) n = rises-apart ps qs r.1 p q m n

-- ---- what reaches a place

abbrev pub view : Place → List Mention → List Mention
view p ms = filter (sees sight_is.Around p) ms

pub view-append : (p : Place) (ms ns : List Mention) → view p (ms ++ ns) ≡ view p ms ++ view p ns
view-append p [] ns = refl
view-append p (m ∷ ms) ns = by (sees sight_is.Around p m) (view-append p ms ns)
  where
    by : (b : Bool) → view p (ms ++ ns) ≡ view p ms ++ view p ns → cond b (m ∷ view p (ms ++ ns)) (view p (ms ++ ns)) ≡ cond b (m ∷ view p ms) (view p ms) ++ view p ns
    by true e = ap (λ l. m ∷ l) e
    by false e = e

pub unseen : (m : Mention) (p : Place) → ((r : Reach) → declared m.role ≡ Some r → reaches r p ≡ false) → sees sight_is.Around p m ≡ false
unseen m p h = by (declared m.role) h
  where
    by : (d : Option Reach) → ((r : Reach) → d ≡ Some r → reaches r p ≡ false) → option_map_or (λ r. reaches r p) d false ≡ false
    by None k = refl
    by (Some r) k = k r refl

pub not-seen : (m : Mention) (p : Place) (ms : List Mention) → sees sight_is.Around p m ≡ false → view p (m ∷ ms) ≡ view p ms
not-seen m p ms e = ap (λ b. cond b (m ∷ view p ms) (view p ms)) e

pub is-seen : (m : Mention) (p : Place) (ms : List Mention) → sees sight_is.Around p m ≡ true → view p (m ∷ ms) ≡ m ∷ view p ms
is-seen m p ms e = ap (λ b. cond b (m ∷ view p ms) (view p ms)) e

-- names that declare nothing
abbrev pub Bare : List Mention → Type 0
Bare [] = Unit {0}
Bare (m ∷ ms) = (declared m.role ≡ None) × Bare ms

pub bare-append : (ms ns : List Mention) → Bare ms → Bare ns → Bare (ms ++ ns)
bare-append [] ns g h = h
bare-append (m ∷ ms) ns g h = (g.0, bare-append ms ns g.1 h)

pub bare-view : (p : Place) (ms : List Mention) → Bare ms → view p ms ≡ []
bare-view p [] g = refl
bare-view p (m ∷ ms) g = not-seen m p ms (ap (λ d. option_map_or (λ r. reaches r p) d false) g.0) ∙ bare-view p ms g.1

-- what is declared reaches from one of these places up to another
abbrev pub Enclosed : List Place → List Mention → Type 0
Enclosed ps [] = Unit {0}
Enclosed ps (m ∷ ms) = ((r : Reach) → declared m.role ≡ Some r → Mem r.from ps × Mem r.scope.end ps) × Enclosed ps ms

pub enclosed-append : (ps : List Place) (ms ns : List Mention) → Enclosed ps ms → Enclosed ps ns → Enclosed ps (ms ++ ns)
enclosed-append ps [] ns g h = h
enclosed-append ps (m ∷ ms) ns g h = (g.0, enclosed-append ps ms ns g.1 h)

pub enclosed-more : (ps qs : List Place) (ms : List Mention) → ((p : Place) → Mem p ps → Mem p qs) → Enclosed ps ms → Enclosed qs ms
enclosed-more ps qs [] more g = tt
enclosed-more ps qs (m ∷ ms) more g = (λ r e. let both = g.0 r e in (more r.from both.0, more r.scope.end both.1), enclosed-more ps qs ms more g.1)

pub bare-enclosed : (ps : List Place) (ms : List Mention) → Bare ms → Enclosed ps ms
bare-enclosed ps [] g = tt
bare-enclosed ps (m ∷ ms) g = (λ r e. absurd (true≢false (ap is_some (sym e ∙ g.0))), bare-enclosed ps ms g.1)

-- nothing of it reaches a place before which none of these stands
pub silent-at : (p : Place) (ps : List Place) (ms : List Mention) → Enclosed ps ms → ((q : Place) → Mem q ps → before q p ≡ false) → view p ms ≡ []
silent-at p ps [] g h = refl
silent-at p ps (m ∷ ms) g h = not-seen m p ms (unseen m p (λ r e. and_left (before r.from p) (not (before r.scope.end p)) (h r.from (g.0 r e).0))) ∙ silent-at p ps ms g.1 h

-- nothing of it reaches a place before all of these, or behind
pub silent-before : (p : Place) (ps : List Place) (ms : List Mention) → Enclosed ps ms → ((q : Place) → Mem q ps → Ahead p q) → view p ms ≡ []
silent-before p ps [] g h = refl
silent-before p ps (m ∷ ms) g h =
    not-seen m p ms (unseen m p (λ r e. and_left (before r.from p) (not (before r.scope.end p)) (not-ahead p r.from (h r.from (g.0 r e).0)))) ∙ silent-before p ps ms g.1 h

pub silent-behind : (p : Place) (ps : List Place) (ms : List Mention) → Enclosed ps ms → ((q : Place) → Mem q ps → Ahead q p) → view p ms ≡ []
silent-behind p ps [] g h = refl
silent-behind p ps (m ∷ ms) g h =
    not-seen m p ms (unseen m p (λ r e. and_right (before r.from p) (not (before r.scope.end p)) (not_from_true (before r.scope.end p) (h r.scope.end (g.0 r e).1)))) ∙ silent-behind p ps ms g.1 h

-- ---- which is meant

abbrev pub begins : Mention → Place
begins m = scope_begin m.role

abbrev pub pick : Name → Option Mention → List Mention → Option Mention
pick n known [] = known
pick n known (m ∷ ms) = pick n (cond (bytes_eq m.name n) (inner known m) known) ms

pub picked : (n : Name) (t : Mention → Bool) (known : Option Mention) (ms : List Mention) → fold inner known (filter (λ m. bytes_eq m.name n && t m) ms) ≡ pick n known (filter t ms)
picked n t known [] = refl
picked n t known (m ∷ ms) = by (bytes_eq m.name n) (t m) refl (λ k. picked n t k ms)
  where
    by : (b c : Bool) → bytes_eq m.name n ≡ b → ((k : Option Mention) → fold inner k (filter (λ x. bytes_eq x.name n && t x) ms) ≡ pick n k (filter t ms))
        → fold inner known (cond (b && c) (m ∷ filter (λ x. bytes_eq x.name n && t x) ms) (filter (λ x. bytes_eq x.name n && t x) ms)) ≡ pick n known (cond c (m ∷ filter t ms) (filter t ms))
    by true true e rest = rest (inner known m) ∙ ap (λ x. pick n (cond x (inner known m) known) (filter t ms)) (sym e)
    by false true e rest = rest known ∙ ap (λ x. pick n (cond x (inner known m) known) (filter t ms)) (sym e)
    by true false e rest = rest known
    by false false e rest = rest known

pub innermost-picked : (n : Name) (p : Place) (ms : List Mention) → innermost sight_is.Around n p ms ≡ pick n None (view p ms)
innermost-picked n p ms = picked n (sees sight_is.Around p) None ms

pick-append : (n : Name) (known : Option Mention) (ms ns : List Mention) → pick n known (ms ++ ns) ≡ pick n (pick n known ms) ns
pick-append n known [] ns = refl
pick-append n known (m ∷ ms) ns = pick-append n (cond (bytes_eq m.name n) (inner known m) known) ms ns

either : (n : Name) (b : Bool) (m : Mention) (ms : List Mention) → pick n (cond b (Some m) (Some m)) ms ≡ pick n (Some m) ms
either n true m ms = refl
either n false m ms = refl

-- what is known stays, where no scope begins later
stays : (n : Name) (s : Mention) (ms : List Mention) → ((m : Mention) → Mem m ms → before (begins s) (begins m) ≡ false) → pick n (Some s) ms ≡ Some s
stays n s [] h = refl
stays n s (m ∷ ms) h =
    ap (λ c. pick n (cond (bytes_eq m.name n) (if c then Some m else Some s) (Some s)) ms) (h m (inl refl))
    ∙ either n (bytes_eq m.name n) s ms ∙ stays n s ms (λ x is. h x (inr is))

abbrev Lower : Place → Option Mention → Type 0
Lower b None = Unit {0}
Lower b (Some m) = Ahead (begins m) b

-- the scopes of these begin before the place
abbrev pub Under : Place → List Mention → Type 0
Under b ms = (m : Mention) → Mem m ms → Ahead (begins m) b

lower : (n : Name) (b : Place) (known : Option Mention) (ms : List Mention) → Lower b known → Under b ms → Lower b (pick n known ms)
lower n b known [] low under = low
lower n b known (m ∷ ms) low under = lower n b (cond (bytes_eq m.name n) (inner known m) known) ms (step (bytes_eq m.name n) known low) (λ x is. under x (inr is))
  where
    chosen : (c : Bool) (s : Mention) → Ahead (begins s) b → Lower b (if c then Some m else Some s)
    chosen true s low = under m (inl refl)
    chosen false s low = low

    step : (c : Bool) (known : Option Mention) → Lower b known → Lower b (cond c (inner known m) known)
    step false known low = low
    step true None low = under m (inl refl)
    step true (Some s) low = chosen (before (begins s) (begins m)) s low

abbrev pub Begin : Place → List Mention → Type 0
Begin b ms = (m : Mention) → Mem m ms → begins m ≡ b

abbrev pub named : Name → List Mention → Option Mention
named n ms = find (λ m. bytes_eq m.name n) ms

taken : (b : Place) (known : Option Mention) (m : Mention) → Lower b known → begins m ≡ b → inner known m ≡ Some m
taken b None m low e = refl
taken b (Some s) m low e = ap (λ c. if c then Some m else Some s) (ap (before (begins s)) e ∙ low)

-- the first in an inner scope counts
pub enters : (n : Name) (b : Place) (known : Option Mention) (ms : List Mention) → Lower b known → Begin b ms → pick n known ms ≡ or_else (named n ms) known
enters n b known [] low own = refl
enters n b known (m ∷ ms) low own = by (bytes_eq m.name n) (enters n b known ms low (λ x is. own x (inr is)))
  where
    by : (c : Bool) → pick n known ms ≡ or_else (named n ms) known → pick n (cond c (inner known m) known) ms ≡ or_else (cond c (Some m) (named n ms)) known
    by false rest = rest
    by true rest =
        ap (λ k. pick n k ms) (taken b known m low (own m (inl refl)))
        ∙ stays n m ms (λ x is. ap (λ q. before q (begins x)) (own m (inl refl)) ∙ ap (before b) (own x (inr is)) ∙ not-itself b)

is-named : (n : Name) (ms : List Mention) (m : Mention) → named n ms ≡ Some m → Mem m ms
is-named n [] m e = absurd (true≢false (ap is_some (sym e)))
is-named n (x ∷ ms) m e = by (bytes_eq x.name n) e (is-named n ms m)
  where
    same_some : (y z : Mention) → Some y ≡ Some z → y ≡ z
    same_some y z h = ap (λ o. option_map_or (λ v. v) o y) h

    by : (c : Bool) → cond c (Some x) (named n ms) ≡ Some m → (named n ms ≡ Some m → Mem m ms) → Mem m (x ∷ ms)
    by true h rest = inl (same_some x m h)
    by false h rest = inr (rest h)

pub scoped : (n : Name) (b : Place) (outer own more : List Mention) → Under b outer → Under b more → Begin b own
    → pick n None (outer ++ (own ++ more)) ≡ or_else (named n own) (pick n None (outer ++ more))
scoped n b outer own more low high begin =
    pick-append n None outer (own ++ more)
    ∙ pick-append n (pick n None outer) own more
    ∙ ap (λ k. pick n k more) (enters n b (pick n None outer) own (lower n b None outer tt low) begin)
    ∙ by (named n own) (is-named n own)
    ∙ ap (or_else (named n own)) (sym (pick-append n None outer more))
  where
    by : (f : Option Mention) → ((m : Mention) → f ≡ Some m → Mem m own) → pick n (or_else f (pick n None outer)) more ≡ or_else f (pick n (pick n None outer) more)
    by None is = refl
    by (Some m) is = stays n m more (λ x at. ap (λ q. before q (begins x)) (begin m (is m refl)) ∙ not-ahead (begins x) b (high x at))

-- ---- beside the scopes of the rules

abbrev pub placed : Option Mention → Option Place
placed m = option_map (λ d. d.place) m

abbrev pub stood : Option Declared → Option Place
stood d = option_map (λ x. x.place) d

-- of these names each means what it means by the rules
abbrev pub Sees : List Mention → rule.Reach → Type 0
Sees ms means = (n : Name) → placed (pick n None ms) ≡ stood (means n)

-- these are the declarations of a scope
abbrev pub Ties : List Mention → Names → Type 0
Ties [] [] = Unit {0}
Ties [] (d ∷ ds) = ⊥
Ties (m ∷ ms) [] = ⊥
Ties (m ∷ ms) (d ∷ ds) = (m.name ≡ d.0) × (m.place ≡ d.1.place) × Ties ms ds

pub ties-append : (ms ns : List Mention) (ds es : Names) → Ties ms ds → Ties ns es → Ties (ms ++ ns) (ds ++ es)
ties-append [] ns [] es g h = h
ties-append [] ns (d ∷ ds) es g h = absurd g
ties-append (m ∷ ms) ns [] es g h = absurd g
ties-append (m ∷ ms) ns (d ∷ ds) es g h = (g.0, g.1, ties-append ms ns ds es g.2 h)

pub ties-first : (n : Name) (ms : List Mention) (ds : Names) → Ties ms ds → placed (named n ms) ≡ stood (first ds n)
ties-first n [] [] g = refl
ties-first n [] (d ∷ ds) g = absurd g
ties-first n (m ∷ ms) [] g = absurd g
ties-first n (m ∷ ms) (d ∷ ds) g =
    ap (λ b. placed (cond b (Some m) (named n ms))) (ap (λ k. bytes_eq k n) g.0 ∙ nat_list_eq_equiv.symm d.0 n)
    ∙ by (rule.same n d.0) (ties-first n ms ds g.2)
  where
    by : (b : Bool) → placed (named n ms) ≡ stood (first ds n) → placed (cond b (Some m) (named n ms)) ≡ stood (if b then Some d.1 else first ds n)
    by true e = ap Some g.1
    by false e = e

placed-else : (x y : Option Mention) → placed (or_else x y) ≡ or_else (placed x) (placed y)
placed-else None y = refl
placed-else (Some m) y = refl

stood-else : (x y : Option Declared) → stood (or_else x y) ≡ or_else (stood x) (stood y)
stood-else None y = refl
stood-else (Some d) y = refl

pub sees-within : (b : Place) (outer own more : List Mention) (scope : Names) (means : rule.Reach) → Under b outer → Under b more → Begin b own → Ties own scope → Sees (outer ++ more) means
    → Sees (outer ++ (own ++ more)) (rule.within (first scope) means)
sees-within b outer own more scope means low high begin ties seen n =
    ap placed (scoped n b outer own more low high begin)
    ∙ placed-else (named n own) (pick n None (outer ++ more))
    ∙ ap (λ x. or_else x (placed (pick n None (outer ++ more)))) (ties-first n own scope ties)
    ∙ ap (or_else (stood (first scope n))) (seen n)
    ∙ sym (stood-else (first scope n) (means n))
