-- Where names stand apart, each declaration is known by its place, and the variable of a loop as such.
use Rattle.std.proofs.Common.{◌≡◌, ◌+◌, ◌≤◌, Bool, true, false, cond, List, [], ◌∷◌, Option, Some, None, if◌then◌else◌, refl, ap, ◌∙◌, arith}
use Rattle.std.specs.Prelude.{All, Contains, unwrap_or}
use Rattle.std.specs.Cmp.{IsEquivalence}
use Rattle.std.proofs.lemmas.Cmp.{nat_eq_equiv, on_equiv, and_equiv}
use Rattle.std.proofs.lemmas.List.Elements.{All-nil, All-cons, All-weaker, All-contains}
use Rattle.std.proofs.lemmas.List.Sums.{sum_by-cons}
use Rattle.syntax_tree.specs.Plain.{Name}
use Rattle.syntax_tree.specs.Placed.{Constant, loop, Stmts, Prog}
use Rattle.syntax_tree.specs.declared.place.Place.{Place}
use Rattle.syntax_tree.specs.Parts.{same_place}
use Rattle.static_names.specs.Occurrences.{Occurrence, declares, closes, used, names}
use Rattle.static_names.specs.Rules.{place_of}
use Rattle.static_declarations.specs.Things.{Thing, loop_thing, learn, thing_at}
use Rattle.static_declarations.specs.declared.home.Where.{Where}
use Rattle.static_declarations.specs.Parts.{Part, statement, parts}
use Rattle.static_semantics.specs.Things.{ThingsKnown, things}
use Rattle.static_semantics.specs.Places.{StandApart, count_at}
use Rattle.wellformed_law.proofs.WellformedScopesCounts.{stands, stands-is, standing, part_loops, loops, declares_at, declared, program_count}

-- ---- places

place_equiv : IsEquivalence same_place
place_equiv = and_equiv (on_equiv (λ p. p.line) nat_eq_equiv) (on_equiv (λ p. p.col) nat_eq_equiv)

stands-true : (q p : Place) → same_place q p ≡ true → stands q p ≡ 1
stands-true q p e = stands-is q p ∙ ap (λ b. cond b 1 0) e

stands-itself : (q : Place) → stands q q ≡ 1
stands-itself q = stands-true q q (place_equiv.refl q)

-- ---- at a place are declared at most as many names as stand there

declares-stands : (q : Place) (o : Occurrence) → declares_at q o ≤ cond (same_place (place_of o) q) 1 0
declares-stands q (declares name place taken) = let e = stands-is q place ∙ ap (λ b. cond b 1 0) (place_equiv.symm q place) in omega arith
declares-stands q (closes name place opening) = omega arith
declares-stands q (used name place want means) = omega arith

declared-count : (q : Place) (os : List Occurrence) → declared q os ≤ count_at q os
declared-count q [] = omega arith
declared-count q (o ∷ os) =
    let e = sum_by-cons (λ o. cond (same_place (place_of o) q) 1 0) o os in
    let h = declares-stands q o in
    let k = declared-count q os in
    omega arith

at_most_one : (g : Prog Place) → StandApart g → (q : Place) → standing q (things g) + loops q (parts g) ≤ 1
at_most_one g apart q =
    let e = program_count g q in
    let h = declared-count q (names g) in
    let k = apart q in
    omega arith

-- ---- what is learnt

learn-none : (known : Place → Option Thing) (ds : List (Place × Thing)) (q : Place) → standing q ds ≡ 0 → learn known ds q ≡ known q
learn-none known [] q none = refl
learn-none known (d ∷ ds) q none = by (same_place q d.0) refl (learn-none (λ p. if same_place p d.0 then Some d.1 else known p) ds q)
  where
    by : (b : Bool) → same_place q d.0 ≡ b → (standing q ds ≡ 0 → learn known (d ∷ ds) q ≡ (if same_place q d.0 then Some d.1 else known q)) → learn known (d ∷ ds) q ≡ known q
    by true is rest = absurd (let e = stands-true q d.0 is in omega arith)
    by false is rest = rest (omega arith) ∙ ap (λ b. if b then Some d.1 else known q) is

-- a thing is learnt where it stands at its place alone
abbrev Learnt : (Place → Option Thing) → List (Place × Thing) → Place × Thing → Type 0
Learnt known ds x = standing x.0 ds ≤ 1 → learn known ds x.0 ≡ Some x.1

learn-one : (known : Place → Option Thing) (ds : List (Place × Thing)) → All (Learnt known ds) ds
learn-one known [] = All-nil (Learnt known [])
learn-one known (d ∷ ds) = All-cons (Learnt known (d ∷ ds)) d ds last (All-weaker (Learnt (λ p. if same_place p d.0 then Some d.1 else known p) ds) (Learnt known (d ∷ ds)) later ds (learn-one (λ p. if same_place p d.0 then Some d.1 else known p) ds))
  where
    last : Learnt known (d ∷ ds) d
    last few = learn-none (λ p. if same_place p d.0 then Some d.1 else known p) ds d.0 (let e = stands-itself d.0 in omega arith) ∙ ap (λ b. if b then Some d.1 else known d.0) (place_equiv.refl d.0)

    later : (x : Place × Thing) → Learnt (λ p. if same_place p d.0 then Some d.1 else known p) ds x → Learnt known (d ∷ ds) x
    later x learnt few = learnt (omega arith)

-- ---- loops

loop-counts : (q : Place) (xs : List Part) → All (λ x. part_loops q x ≤ loops q xs) xs
loop-counts q [] = All-nil (λ x. part_loops q x ≤ loops q [])
loop-counts q (y ∷ ys) =
    All-cons (λ x. part_loops q x ≤ loops q (y ∷ ys)) y ys (omega arith)
    (All-weaker (λ x. part_loops q x ≤ loops q ys) (λ x. part_loops q x ≤ loops q (y ∷ ys)) (λ x few. omega arith) ys (loop-counts q ys))

-- ---- the program

thing_declared : (g : Prog Place) → StandApart g → (place : Place) (thing : Thing) → Contains (things g) (place, thing) → thing_at g place ≡ thing
thing_declared g apart place thing among =
    let few : standing place (things g) ≤ 1 = let h = at_most_one g apart place in omega arith in
    ap (λ t. unwrap_or t loop_thing) (All-contains (Learnt (λ p. None) (things g)) (things g) (place, thing) (learn-one (λ p. None) (things g)) among few)

loop_known : (g : Prog Place) → StandApart g → (where_it_stands : Where) (p : Place) (name : Name) (place : Place) (low high : Constant Place) (body : Stmts Place)
    → Contains (parts g) (statement where_it_stands (loop p name place low high body)) → thing_at g place ≡ loop_thing
loop_known g apart here p name place low high body among =
    let counted : stands place place ≤ loops place (parts g) = All-contains (λ x. part_loops place x ≤ loops place (parts g)) (parts g) (statement here (loop p name place low high body)) (loop-counts place (parts g)) among in
    let none : standing place (things g) ≡ 0 = let h = at_most_one g apart place in let e = stands-itself place in omega arith in
    ap (λ t. unwrap_or t loop_thing) (learn-none (λ p. None) (things g) place none)

pub things_known : (g : Prog Place) → StandApart g → ThingsKnown g
things_known g apart = record { declared = thing_declared g apart; loops = loop_known g apart }
