-- Length and segments of statements that stand alone.
use Rattle.std.proofs.Common.{◌≡◌, ◌+◌, ◌≤◌, false, length, refl, arith}
use Rattle.code_spec.specs.Segments.{stmts_segs}
use Rattle.code_cost_spec.specs.Names.{names_of}
use Rattle.code_cost_spec.specs.Lengths.{stmts_length}
use Rattle.code_measures.proofs.Sizes.{alike}
use Rattle.code_measures.proofs.Seen.{sees}
use Rattle.codegen_spec.specs.Made.{begun, stmts_out}
use Rattle.codegen_law.specs.Right.{MadeHasItsLength, MadeHasItsSegments}
use Rattle.codegen_law.proofs.Bounds.{all_bounds_fit}
use Rattle.codegen_law.proofs.Growth.{Grows, part_tree}
use Rattle.codegen_law.proofs.Segments.{stmts_grows}

-- the length does not ask how large anything is
pub made_has_its_length : MadeHasItsLength
made_has_its_length g c ss o names =
    let grows : Grows ⊥ (stmts_out g c ss) (stmts_segs g c ss) (stmts_length g (names_of g c) ss) =
    stmts_grows g ⊥ (λ z. absurd z) (λ t. Unit {0}) ss c c c.exit (names_of g c) (alike g c) (sees g c) (λ z. absurd z) names in
    grows.longer o

pub made_has_its_segments : MadeHasItsSegments
made_has_its_segments g c ss o names fits few small =
    let grows : Grows (Unit {0}) (stmts_out g c ss) (stmts_segs g c ss) (stmts_length g (names_of g c) ss) =
    stmts_grows g (Unit {0}) (λ z. few) (λ t. Unit {0}) ss c c c.exit (names_of g c) (alike g c) (sees g c) (λ z. all_bounds_fit g c false o.word ss fits) names in
    let longer : length (stmts_out g c ss (begun o)).code ≡ length o.code + stmts_length g (names_of g c) ss = grows.longer (begun o) in
    let low : length (stmts_out g c ss (begun o)).code ≤ 4294967295 = omega arith in
    part_tree (stmts_out g c ss) (stmts_segs g c ss) (stmts_length g (names_of g c) ss) grows tt (begun o) refl refl low
