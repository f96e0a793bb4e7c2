-- The law: what the generator makes of statements is their code, where it stands.
use Rattle.std.specs.Prelude.{◌≡◌, ◌≤◌, ◌+◌, ◌++◌, false, length, List, None}
use Rattle.syntax_tree.specs.Plain.{Stmts, Program}
use Rattle.machine_isa.specs.declared.instr.Instr.{Instr}
use Rattle.code_spec.specs.Layout.{Scope}
use Rattle.machine_semantics.specs.Trees.{Nil}
use Rattle.image_format.specs.View.{views}
use Rattle.code_spec.specs.Numbering.{Text, number_of}
use Rattle.code_spec.specs.Emits.{EmitsAll}
use Rattle.code_spec.specs.Segments.{stmts_segs}
use Rattle.code_cost_spec.specs.Names.{names_of}
use Rattle.code_cost_spec.specs.Lengths.{stmts_length}
use Rattle.code_measures.specs.Sound.{SoundAll}
use Rattle.codegen_spec.specs.Made.{Out, begun, closed, stmts_out}
use Rattle.codegen_law.specs.MadeRightFits.{StmtsFit}

-- Statements with no loop around, behind the code of an Out: whatever is made behind them, the code
-- up to the end of what is made of them is theirs.
abbrev pub MadeIsEmitted : Type 0
MadeIsEmitted = (g : Program) (c : Scope) (ss : Stmts) (o : Out) (behind : List Instr)
    → StmtsFit g c false o.word ss → length (stmts_out g c ss o).code ≤ 2147483647
    → EmitsAll g ((stmts_out g c ss o).code ++ behind) (record c { exit = None }) o.word
    (length o.code) (length (stmts_out g c ss o).code) ss

-- Statements whose names mean variables of their form, whatever their calls mean
abbrev pub NamesFit : Program → Scope → Stmts → Type 0
NamesFit g c ss = SoundAll g (λ t. Unit {0}) c ss

-- What is made of them has as many instructions as the text says.
abbrev pub MadeHasItsLength : Type 0
MadeHasItsLength = (g : Program) (c : Scope) (ss : Stmts) (o : Out) → NamesFit g c ss
    → length (stmts_out g c ss o).code ≡ length o.code + stmts_length g (names_of g c) ss

-- The segments that are made of a part are those of the text: each line as long as it can be.
abbrev pub MadeHasItsSegments : Type 0
MadeHasItsSegments = (g : Program) (c : Scope) (ss : Stmts) (o : Out) → NamesFit g c ss
    → StmtsFit g c false o.word ss → ((t : Text) → number_of g t ≤ 65535)
    → length o.code + stmts_length g (names_of g c) ss ≤ 4294967295
    → views (closed (stmts_out g c ss (begun o))) ≡ stmts_segs g c ss Nil
