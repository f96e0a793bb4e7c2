use Rattle.std.proofs.Common.{◌≡◌, ◌++◌, ◌∷◌, [], List, String, string_bytes, arith, subst, sym}
use Rattle.std.specs.Global.{Global}
use Rattle.outside.proofs.Counted.{count_of-append}
use Rattle.outside.specs.Kept.{count_of}
use Rattle.outside.specs.Outside.{OneMore}
use Rattle.outside.proofs.memory.keep.Goals as goal

pub returns-clause-kept : goal.returns-clause-kept
returns-clause-kept c =
    let before : List (String Global) = c.args.names.now.items in
    let item : String Global = c.in_ok-from_str.field-0 in
    let same : string_bytes item ≡ c.args.name.now = grind (arith) in
    let items : c.push.new.self.items ≡ before ++ item ∷ [] = grind (arith) in
    let P : List (String Global) → Type 0 = λ now. OneMore (count_of before) (count_of now) c.args.name.now in
    subst P (sym items) (count_of-append before item c.args.name.now same)
