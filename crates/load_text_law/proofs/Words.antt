-- The words that stand in every text of the load.
use Rattle.std.proofs.Common.{◌≡◌, ℕ, true, false, not, bytes_eq, List, codes, refl, arith}
use Rattle.std.specs.List.{list_all}
use Rattle.std.specs.Prelude.{Contains}
use Rattle.syntax.specs.Spellings.{keywords}
use Rattle.syntax.proofs.SpellLemmas.{listed}
use Rattle.syntax.specs.Words as w
use Rattle.syntax.specs.Words.{named}
use Rattle.syntax_printer.proofs.Spelled.{IsSpelled}

pub word_program : IsSpelled w.PROGRAM
word_program = refl

pub word_end : IsSpelled w.END
word_end = refl

pub word_device : IsSpelled w.DEVICE
word_device = refl

pub word_in : IsSpelled w.IN
word_in = refl

pub word_out : IsSpelled w.OUT
word_out = refl

pub word_monitor : IsSpelled w.MONITOR
word_monitor = refl

pub word_var : IsSpelled w.VAR
word_var = refl

pub word_int : IsSpelled w.INT
word_int = refl

pub word_condition : IsSpelled w.CONDITION
word_condition = refl

pub word_entry : IsSpelled w.ENTRY
word_entry = refl

pub word_procedure : IsSpelled w.PROCEDURE
word_procedure = refl

pub word_begin : IsSpelled w.BEGIN
word_begin = refl

pub word_signal : IsSpelled w.SIGNAL
word_signal = refl

pub word_wait : IsSpelled w.WAIT
word_wait = refl

pub word_no_longer_than : IsSpelled w.NO_LONGER_THAN
word_no_longer_than = refl

pub word_process : IsSpelled w.PROCESS
word_process = refl

pub word_periodic : IsSpelled w.PERIODIC
word_periodic = refl

pub word_frame : IsSpelled w.FRAME
word_frame = refl

pub word_get : IsSpelled w.GET
word_get = refl

pub word_for : IsSpelled w.FOR
word_for = refl

pub word_do : IsSpelled w.DO
word_do = refl

pub word_mod : IsSpelled w.MOD
word_mod = refl

pub word_put : IsSpelled w.PUT
word_put = refl

pub word_handler : IsSpelled w.HANDLER
word_handler = refl

pub word_colon : IsSpelled w.COLON
word_colon = refl

pub word_left_paren : IsSpelled w.LEFT_PAREN
word_left_paren = refl

pub word_right_paren : IsSpelled w.RIGHT_PAREN
word_right_paren = refl

pub word_assign : IsSpelled w.ASSIGN
word_assign = refl

pub word_range : IsSpelled w.RANGE
word_range = refl

pub word_plus : IsSpelled w.PLUS
word_plus = refl

pub word_dot : IsSpelled w.DOT
word_dot = refl

-- a name that no keyword equals
no_keyword : (name : List ℕ) → list_all (λ k. not (bytes_eq k name)) keywords ≡ true → not (bytes_eq name name) ≡ false → ¬ Contains keywords name
no_keyword name none same has = let other = listed (λ k. not (bytes_eq k name)) keywords name none has in cc

pub name_load : IsSpelled (named (codes "load"))
name_load = (refl, no_keyword (codes "load") refl refl, omega arith)

pub name_src : IsSpelled (named (codes "src"))
name_src = (refl, no_keyword (codes "src") refl refl, omega arith)

pub name_dst : IsSpelled (named (codes "dst"))
name_dst = (refl, no_keyword (codes "dst") refl refl, omega arith)

pub name_m : IsSpelled (named (codes "m"))
name_m = (refl, no_keyword (codes "m") refl refl, omega arith)

pub name_n : IsSpelled (named (codes "n"))
name_n = (refl, no_keyword (codes "n") refl refl, omega arith)

pub name_c : IsSpelled (named (codes "c"))
name_c = (refl, no_keyword (codes "c") refl refl, omega arith)

pub name_add : IsSpelled (named (codes "add"))
name_add = (refl, no_keyword (codes "add") refl refl, omega arith)

pub name_v : IsSpelled (named (codes "v"))
name_v = (refl, no_keyword (codes "v") refl refl, omega arith)

pub name_pause : IsSpelled (named (codes "pause"))
name_pause = (refl, no_keyword (codes "pause") refl refl, omega arith)

pub name_x : IsSpelled (named (codes "x"))
name_x = (refl, no_keyword (codes "x") refl refl, omega arith)

pub name_i : IsSpelled (named (codes "i"))
name_i = (refl, no_keyword (codes "i") refl refl, omega arith)
