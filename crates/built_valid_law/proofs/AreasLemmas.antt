-- Variables lie in their areas.
use Rattle.std.specs.Prelude.{◌≡◌, ◌≤◌, ◌<◌, ◌+◌, ◌&&◌, ℕ, suc, Bool, true, false, ℤ, pos, ◌+ℤ◌, ◌-ℤ◌, List, [], ◌∷◌, ◌++◌, Option, Some, None, nat_le, nat_lt, cond, bytes_eq}
use Rattle.std.proofs.Common.{sym, ap, subst, ◌∙◌, arith}
use Rattle.std.proofs.lemmas.Bool.{le-leb, lt-ltb, and_from}
use Rattle.std.proofs.lemmas.List.Elements.{All-head, All-tail}
use Rattle.base.specs.Words.{is_word}
use Rattle.syntax_tree.specs.Plain.{Name, Scalar, int, boolean, subrange, Kind, scalar, array as array_of, Program}
use Rattle.source_semantics.specs.Names.{constant_value}
use Rattle.source_semantics.specs.Store.{range_of, kind_range, up_to}
use Rattle.source_semantics.specs.Run.{or_else as either}
use Rattle.machine_semantics.specs.Image.{Image}
use Rattle.valid_image.specs.Fault.{or_else}
use Rattle.valid_image.specs.Operands.{Area, Whose, in_area as word_in, is_between, ends_in, bad, bad_array}
use Rattle.code_spec.specs.Layout.{size_of, shape_of, Place, in_frame, Area as KindOfArea, Spot, Scope, in_area, place_named, outer_spot, spot_of}
use Rattle.static_semantics.specs.WellFormed.{ScalarFits, KindFits, VarFits, ParamFits}
use Rattle.built_valid_law.specs.Lies.{ShapeLies, InOrder, AllLie, area_of, SpotLies}
use Rattle.built_valid_law.specs.Areas.{VariablesLie, ParametersLie, TurnsAreFew}
use Rattle.built_valid_law.proofs.Spans.{Span, span}
use Rattle.code_measures.proofs.CostPart.{both_none}

pub word_inside : (x : Area) (k : ℕ) → x.base ≤ k → k < x.base + x.words → word_in x (pos k) ≡ true
word_inside x k low high = and_from (nat_le x.base k) (nat_lt k (x.base + x.words)) (le-leb x.base k low) (lt-ltb k (x.base + x.words) high)

ends_inside : (x : Area) (k n : ℕ) → k + n ≤ x.base + x.words → ends_in x (pos k) (pos n) ≡ true
ends_inside x k n high = le-leb (k + n) (x.base + x.words) high

between : (low high k : ℕ) → low ≤ k → k ≤ high → is_between low high (pos k) ≡ true
between low high k l h = and_from (nat_le low k) (nat_le k high) (le-leb low k l) (le-leb k high h)

pub none_bad : (b : Bool) (z : ℤ) → b ≡ true → bad b z ≡ None
none_bad b z e = ap (λ t. bad t z) e

array_lies : (x : Area) (k n : ℕ) (low : ℤ) → x.base ≤ k → 1 ≤ n → n ≤ 65536 → k + n ≤ x.base + x.words → is_word ((low +ℤ pos n) -ℤ pos 1) ≡ true → bad_array x (pos k) low (pos n) ≡ None
array_lies x k n low from some few to last =
    both_none (bad (word_in x (pos k)) (pos k)) (or_else (bad (is_between 1 65536 (pos n)) (pos n)) (bad (ends_in x (pos k) (pos n) && is_word ((low +ℤ pos n) -ℤ pos 1)) (pos k)))
    (none_bad (word_in x (pos k)) (pos k) (word_inside x k from (omega (arith, some, to))))
    (both_none (bad (is_between 1 65536 (pos n)) (pos n)) (bad (ends_in x (pos k) (pos n) && is_word ((low +ℤ pos n) -ℤ pos 1)) (pos k))
    (none_bad (is_between 1 65536 (pos n)) (pos n) (between 1 65536 n some few))
    (none_bad (ends_in x (pos k) (pos n) && is_word ((low +ℤ pos n) -ℤ pos 1)) (pos k) (and_from (ends_in x (pos k) (pos n)) (is_word ((low +ℤ pos n) -ℤ pos 1)) (ends_inside x k n to) last)))

-- ---- variables

pub scalar_order : (g : Program) (s : Scalar) → ScalarFits g s → InOrder (range_of g s)
scalar_order g int h = tt
scalar_order g boolean h = tt
scalar_order g (subrange low high) h = h.order

kind_order : (g : Program) (k : Kind) → KindFits g k → InOrder (kind_range g k)
kind_order g (scalar s) h = scalar_order g s h
kind_order g (array_of low high s) h = scalar_order g s h.2

kind_lies : (g : Program) (x : Area) (b : ℕ) (k : Kind) → KindFits g k → x.base ≤ b → b + size_of (shape_of g k) ≤ x.base + x.words → ShapeLies x b (shape_of g k)
kind_lies g x b (scalar s) h from to = word_inside x b from (omega (arith, to))
kind_lies g x b (array_of low high s) h from to =
    let v : Span (constant_value g low) (constant_value g high) 65536 = span (constant_value g low) (constant_value g high) 65536 h.0.order h.1 in
    let n : up_to (constant_value g high -ℤ constant_value g low) ≡ suc v.steps = ap (λ z. up_to z) v.is in
    let room : b + suc v.steps ≤ x.base + x.words = subst (λ j. b + j ≤ x.base + x.words) n to in
    subst (λ j. bad_array x (pos b) (constant_value g low) (pos j) ≡ None) (sym n)
    (array_lies x b (suc v.steps) (constant_value g low) from (omega arith) (let few = v.few in omega arith) room (ap (λ z. is_word z) v.last ∙ h.0.high_constant.word))

pub variables_lie : VariablesLie
variables_lie g x b [] fit from to = tt
variables_lie g x b (v ∷ vs) fit from to = (
  record { shape = kind_lies g x b v.kind (All-head (VarFits g) v vs fit) from (omega (arith, to)); range = kind_order g v.kind (All-head (VarFits g) v vs fit) },
  variables_lie g x (b + size_of (shape_of g v.kind)) vs (All-tail (VarFits g) v vs fit) (omega (arith, from)) (omega (arith, to)),
)

pub parameters_lie : ParametersLie
parameters_lie g x b [] fit from to = tt
parameters_lie g x b (p ∷ ps) fit from to = (
  record { shape = word_inside x b from (omega (arith, to)); range = scalar_order g p.kind (All-head (ParamFits g) p ps fit) },
  parameters_lie g x (suc b) ps (All-tail (ParamFits g) p ps fit) (omega (arith, from)) (omega (arith, to)),
)

pub both_lie : (x : Area) (ps qs : List Place) → AllLie x ps → AllLie x qs → AllLie x (ps ++ qs)
both_lie x [] qs h k = k
both_lie x (p ∷ ps) qs h k = (h.0, both_lie x ps qs h.1 k)

-- ---- what a name means

pub named_lies : (m : Image) (w : Whose) (a : KindOfArea) (n : Name) (ps : List Place) → AllLie (area_of m w a) ps → SpotLies m w (in_area a (place_named n ps))
named_lies m w a n [] h = tt
named_lies m w a n (p ∷ ps) h = by (bytes_eq p.name n) (named_lies m w a n ps h.1)
  where
    by : (b : Bool) → SpotLies m w (in_area a (place_named n ps)) → SpotLies m w (in_area a (cond b (Some p) (place_named n ps)))
    by true k = h.0
    by false k = k

-- a variable of the frame, else one beside it
pub spot_lies : (g : Program) (m : Image) (w : Whose) (c : Scope) (n : Name) → AllLie (area_of m w in_frame) c.own → SpotLies m w (outer_spot g c.owner n) → SpotLies m w (spot_of g c n)
spot_lies g m w c n own outer = by (in_area in_frame (place_named n c.own)) (named_lies m w in_frame n c.own own)
  where
    by : (o : Option Spot) → SpotLies m w o → SpotLies m w (either o (outer_spot g c.owner n))
    by None h = outer
    by (Some s) h = h

-- ---- loops

pub turns_are_few : TurnsAreFew
turns_are_few g low high t =
    let v : Span (constant_value g low) (constant_value g high) 1000000 = span (constant_value g low) (constant_value g high) 1000000 t.order t.few in
    subst (λ j. is_between 1 1000000 (pos j) ≡ true) (sym (ap (λ z. up_to z) v.is)) (between 1 1000000 (suc v.steps) (omega arith) (let few = v.few in omega arith))
