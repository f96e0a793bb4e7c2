-- Files that hold more than a task table may have.
use Rattle.std.proofs.Common.{◌≡◌, ◌<◌, ℕ, Bool, true, false, List, length, refl}
use Rattle.std.specs.Prelude.{nat_lt, if◌then◌else◌}
use Rattle.std.proofs.lemmas.Bool.{lt-ltb}
use Rattle.message_table.specs.Message.{long_message, table_message}
use Rattle.table_format.specs.Rules.{longest_text}

-- what stands in the first branch
first_branch : {A : Type 0} (x y : A) (is : Bool) → is ≡ true → x ≡ (if is then x else y)
first_branch x y true is = refl
first_branch x y false is = absurd cc

pub long_table : (file text : List ℕ) (number line : ℕ) → longest_text < length text → long_message file ≡ table_message file text number line
unfolding table_message
long_table file text number line long = first_branch _ _ (nat_lt longest_text (length text)) (lt-ltb longest_text (length text) long)
