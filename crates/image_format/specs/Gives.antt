-- What a reading function's answer says of the format that it reads.
use Rattle.std.specs.Prelude.{◌≡◌, Result, Ok, Err}
use Rattle.image_format.specs.declared.fault.ReadError.{ReadError}
use Rattle.image_format.specs.declared.fault.ReadError.TheVariants as errors
use Rattle.image_format.specs.declared.fault.ByteFault.{ByteFault}

-- want of memory says nothing; a fault is the one that reading gives
abbrev pub Fails : {Y : Type 0} → ReadError → Result Y ByteFault → Type 0
Fails (errors.Memory _) read = Unit {0}
Fails (errors.Fault f) read = read ≡ Err f

-- the answer is what reading gives, in view
abbrev pub Gives : {X Y : Type 0} → (X → Y) → Result X ReadError → Result Y ByteFault → Type 0
Gives view (Ok x) read = read ≡ Ok (view x)
Gives view (Err e) read = Fails e read

-- the same of a call that takes no memory
abbrev pub GivesOrFault : {X Y : Type 0} → (X → Y) → Result X ByteFault → Result Y ByteFault → Type 0
GivesOrFault view (Ok x) read = read ≡ Ok (view x)
GivesOrFault view (Err f) read = read ≡ Err f
