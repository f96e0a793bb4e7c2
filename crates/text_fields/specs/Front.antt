-- What is kept while a line is read, and what reading gives.
use Rattle.std.specs.Prelude.{◌≡◌, ◌&&◌, ℕ, Bool, true, false, List, length, take, drop, Result, Ok, Err, codes, nat_lt, nat_eq, if◌then◌else◌}
use Rattle.std.specs.Cmp.Lexicographic.{pointwise}
use Rattle.text_fields.specs.declared.line_cursor.LineCursor.{LineCursor}
use Rattle.text_fields.specs.declared.fault.FieldFault.{FieldFault}
use Rattle.text_fields.specs.declared.fault.FieldError.{FieldError}
use Rattle.text_fields.specs.declared.fault.FieldError.TheVariants as errors

-- a place in a line: whether all before it in the line is in its range, how many bytes of the text
-- were left where the line begins, and the text from the place on
pub record Front : Type 0 where
  pub fine : Bool
  pub start : ℕ
  pub rest : List ℕ

abbrev pub front : LineCursor → Front
front at = record { fine = at.is_fine; start = at.start; rest = at.rest.now }

-- a fault by its number, with how many bytes are left from its line on
abbrev pub fault : (number left : ℕ) → FieldFault
fault number left = record { number = number; left = left }

-- the line is in no form of its place: A1
abbrev pub no_form : Front → FieldFault
no_form s = fault 1 s.start

-- a number or a name of the line is out of its range: A2
abbrev pub out_of_range : Front → FieldFault
out_of_range s = fault 2 s.start

-- what reading gives: the thing and the place after it, or the fault
abbrev pub Read : Type 0 → Type 0
Read A = Result (A × Front) FieldFault

infixl 10 ◌>>=◌
abbrev pub ◌>>=◌ : {A B : Type 0} → Result A FieldFault → (A → Result B FieldFault) → Result B FieldFault
(Ok x) >>= f = f x
(Err e) >>= f = Err e

-- want of memory says nothing; a fault is the one that reading gives
abbrev pub Fails : {Y : Type 0} → FieldError → Result Y FieldFault → Type 0
Fails (errors.Memory _) read = Unit {0}
Fails (errors.Fault f) read = read ≡ Err f

-- the answer is what reading gives, in view
abbrev pub Gives : {X Y : Type 0} → (X → Y) → Result X FieldError → Result Y FieldFault → Type 0
Gives view (Ok x) read = read ≡ Ok (view x)
Gives view (Err e) read = Fails e read

-- ---- the place moves on

abbrev pub moved : Front → List ℕ → Front
moved s rest = record s { rest = rest }

-- it is noted whether something was in its range
abbrev pub noted : Front → Bool → Front
noted s holds = record s { fine = s.fine && holds }

-- whether the bytes begin with the word
abbrev pub begins : (word bytes : List ℕ) → Bool
begins word bytes = if nat_lt (length bytes) (length word) then false else pointwise nat_eq (take (length word) bytes) word

-- the place after the word, which must stand there
unfoldable pub skip : (word : List ℕ) → Front → Result Front FieldFault
skip word s = if begins word s.rest then Ok (moved s (drop (length word) s.rest)) else Err (no_form s)

-- the beginning of a line
abbrev pub line_start : List ℕ → Front
line_start rest = record { fine = true; start = length rest; rest = rest }

-- a line ends here, and all in it is in its range
abbrev pub ended : Front → Result Front FieldFault
ended s = if s.fine then Ok (line_start s.rest) else Err (out_of_range s)

unfoldable pub end_read : Front → Result Front FieldFault
end_read s = skip (codes "\n") s >>= ended
