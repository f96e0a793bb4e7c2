-- Variables lie at words that are operands, as their shapes and ranges are.
use Rattle.std.specs.Prelude.{All}
use Rattle.std.proofs.Common.{◌+◌, ◌≤◌, ℕ, suc, Bool, true, false, cond, List, [], ◌∷◌, ◌++◌, Option, Some, None, pos, bytes_eq, arith}
use Rattle.syntax_tree.specs.Plain.{Name, Scalar, int, boolean, subrange, Kind, scalar, array as array_of, Var, Param, Program}
use Rattle.source_semantics.specs.Names.{constant_value}
use Rattle.source_semantics.specs.Store.{range_of, kind_range}
use Rattle.source_semantics.specs.Run.{or_else}
use Rattle.code_spec.specs.Layout.{Place, size_of, shape_of, words_of, places_from, param_places, count, Area, in_frame, Spot, Scope, place_named, in_area, outer_spot, spot_of}
use Rattle.static_semantics.specs.WellFormed.{ScalarFits, KindFits, VarFits, ParamFits}
use Rattle.codegen_spec.specs.Told.{counter, within}
use Rattle.codegen_law.specs.MadeRightFits.{Fit, ShapeFits, RangeFits, SpotFits}
use Rattle.codegen_law.proofs.Words.{fit_low, word_fits, few_between}

-- ---- types

pub scalar_fits : (g : Program) (k : Scalar) → ScalarFits g k → RangeFits (range_of g k)
scalar_fits g int h = tt
scalar_fits g boolean h = tt
scalar_fits g (subrange low high) h = (word_fits (constant_value g low) h.low_constant.word, word_fits (constant_value g high) h.high_constant.word)

shape_fits : (g : Program) (k : Kind) → KindFits g k → ShapeFits (shape_of g k)
shape_fits g (scalar s) h = tt
shape_fits g (array_of low high s) h =
    let few = few_between (constant_value g low) (constant_value g high) 65536 h.1 in
    (word_fits (constant_value g low) h.0.low_constant.word, fit_low _ (omega (arith, few)))

kind_fits : (g : Program) (k : Kind) → KindFits g k → RangeFits (kind_range g k)
kind_fits g (scalar s) h = scalar_fits g s h
kind_fits g (array_of low high s) h = scalar_fits g s h.2

-- ---- places

pub record PlaceFits (q : Place) : Type 0 where
  pub word : Fit (pos q.word)
  pub shape : ShapeFits q.shape
  pub range : RangeFits q.range

abbrev pub PlacesFit : List Place → Type 0
PlacesFit [] = Unit {0}
PlacesFit (q ∷ qs) = PlaceFits q × PlacesFit qs

pub both_fit : (ps qs : List Place) → PlacesFit ps → PlacesFit qs → PlacesFit (ps ++ qs)
both_fit [] qs h k = k
both_fit (p ∷ ps) qs h k = (h.0, both_fit ps qs h.1 k)

pub first_of_all : {X : Type 0} (P : X → Type 0) (x : X) (xs : List X) → All P (x ∷ xs) → P x
first_of_all P x xs h = h 0 x (omega arith)

pub rest_of_all : {X : Type 0} (P : X → Type 0) (x : X) (xs : List X) → All P (x ∷ xs) → All P xs
rest_of_all P x xs h = λ k d low. h (suc k) d (omega arith)

pub vars_fit : (g : Program) (w : ℕ) (vs : List Var) → All (VarFits g) vs → w + words_of g vs ≤ 2147483647 → PlacesFit (places_from g w vs)
vars_fit g w [] h low = tt
vars_fit g w (v ∷ vs) h low =
    let k : KindFits g v.kind = first_of_all (VarFits g) v vs h in
    let rest : w + size_of (shape_of g v.kind) + words_of g vs ≤ 2147483647 = omega arith in
    (record { word = fit_low w (omega arith); shape = shape_fits g v.kind k; range = kind_fits g v.kind k }, vars_fit g (w + size_of (shape_of g v.kind)) vs (rest_of_all (VarFits g) v vs h) rest)

pub params_fit : (g : Program) (w : ℕ) (ps : List Param) → All (ParamFits g) ps → w + count ps ≤ 2147483647 → PlacesFit (param_places g w ps)
params_fit g w [] h low = tt
params_fit g w (p ∷ ps) h low =
    let rest : suc w + count ps ≤ 2147483647 = omega arith in
    (record { word = fit_low w (omega arith); shape = tt; range = scalar_fits g p.kind (first_of_all (ParamFits g) p ps h) }, params_fit g (suc w) ps (rest_of_all (ParamFits g) p ps h) rest)

-- ---- what names mean

pub named_fits : (a : Area) (x : Name) (ps : List Place) → PlacesFit ps → SpotFits (in_area a (place_named x ps))
named_fits a x [] h = tt
named_fits a x (p ∷ ps) h = by_case (bytes_eq p.name x) (named_fits a x ps h.1)
  where
    by_case : (b : Bool) → SpotFits (in_area a (place_named x ps)) → SpotFits (in_area a (cond b (Some p) (place_named x ps)))
    by_case true k = (h.0.word, h.0.shape, h.0.range)
    by_case false k = k

either_fits : (a b : Option Spot) → SpotFits a → SpotFits b → SpotFits (or_else a b)
either_fits None b h k = k
either_fits (Some s) b h k = h

pub scope_fits : (g : Program) (c : Scope) → PlacesFit c.own → ((x : Name) → SpotFits (outer_spot g c.owner x)) → (x : Name) → SpotFits (spot_of g c x)
scope_fits g c own outer x = either_fits (in_area in_frame (place_named x c.own)) (outer_spot g c.owner x) (named_fits in_frame x c.own own) (outer x)

-- inside a loop
pub within_fits : (g : Program) (c : Scope) (x : Name) (w : ℕ) → w ≤ 2147483647 → ((y : Name) → SpotFits (spot_of g c y)) → (y : Name) → SpotFits (spot_of g (within c x w) y)
within_fits g c x w low h y = by_case (bytes_eq x y)
  where
    by_case : (b : Bool) → SpotFits (or_else (in_area in_frame (cond b (Some (counter x w)) (place_named y c.own))) (outer_spot g c.owner y))
    by_case true = (fit_low w low, tt, tt)
    by_case false = h y
