-- How the reading of a script ends.
use Rattle.std.proofs.Common.{◌≡◌, ℕ, ◌+◌, ◌<◌, ◌≤◌, List, [], ◌∷◌, ◌++◌, length, Option, Some, None, refl, ap, subst, ◌∙◌, inl, inr, arith, option_map, length-append}
use Rattle.image.specs.declared.names.ImageNames.{ImageNames}
use Rattle.script.specs.declared.script.ScriptLine.{ScriptLine}
use Rattle.script.specs.declared.script.ScriptLine.TheVariants.{Set, Occur}
use Rattle.script.specs.declared.fault.ScriptFault.{ScriptFault}
use Rattle.script.specs.declared.fault.ScriptFault.TheVariants.{Bad}
use Rattle.script.specs.Saying.{Said, set, event, end}
use Rattle.script.specs.Scripts.{meaning, event_number, IsWithin, longest_text, most_lines}
use Rattle.script.specs.Faults.{IsFault, IsFaultHere, IsFaultOfRest, IsRight}
use Rattle.script.specs.Reading.{IsPast, IsReadTo}
use Rattle.script.proofs.Lookups.{event_below}
use Rattle.script.proofs.Steps.{one_more}

pub read_more : (names : ImageNames) (text : List ℕ) (lines : List ScriptLine) (bytes rest : List ℕ) (line : ScriptLine) (last : Option ℕ) (occurred : List (Option ℕ)) → IsPast names lines last occurred → IsReadTo names text lines bytes → ((said : Said) × IsRight names lines bytes said rest × (meaning names said ≡ Some line)) → IsReadTo names text (lines ++ line ∷ []) rest
read_more names text lines bytes rest line last occurred past read (said, right, means) = record {
  said = read.said ++ said ∷ [];
  begun = one_more names text read.said lines bytes said line rest last occurred (λ name n e. event_below names name n e) past read.begun right means;
}

within_set : (names : ImageNames) (number : Option ℕ) (tick : ℕ) (value : _) (line : ScriptLine) → option_map (λ n. Set tick n value) number ≡ Some line → IsWithin names line
within_set names None tick value line e = cc
within_set names (Some n) tick value line e = let same : Set tick n value ≡ line = cc in subst (IsWithin names) same tt

within_event : (names : ImageNames) (number : Option ℕ) (tick : ℕ) (line : ScriptLine) → ((n : ℕ) → number ≡ Some n → n < length names.events) → option_map (λ n. Occur tick n) number ≡ Some line → IsWithin names line
within_event names None tick line below e = cc
within_event names (Some n) tick line below e = let same : Occur tick n ≡ line = cc in subst (IsWithin names) same (below n refl)

pub right_within : (names : ImageNames) (said : Said) (line : ScriptLine) → meaning names said ≡ Some line → IsWithin names line
right_within names (set tick dev value) line means = within_set names _ tick value line means
right_within names (event tick name) line means = within_event names (event_number names name) tick line (event_below names name) means
right_within names (end tick) line means = cc

pub fault_here : (names : ImageNames) (text : List ℕ) (lines : List ScriptLine) (rest : List ℕ) (fault : ScriptFault) → length text ≤ longest_text → length lines ≤ most_lines → IsReadTo names text lines rest → IsFaultHere names lines rest fault → IsFault names text fault
fault_here names text lines rest fault short few read wrong = inr (inl (record {
  short = short;
  said = read.said;
  lines = lines;
  rest = rest;
  begun = read.begun;
  few = few;
  fault_is = wrong;
}))

pub here_no_end : (names : ImageNames) (lines : List ScriptLine) (rest : List ℕ) (fault : ScriptFault) (line : ℕ) → line ≡ length lines + 1 → length rest ≡ 0 → fault ≡ Bad 5 line 0 0 → IsFaultHere names lines rest fault
here_no_end names lines rest fault line is none wrong = inr (inl (nothing rest none, subst (λ n. fault ≡ Bad 5 n 0 0) is wrong))
  where
    nothing : (bs : List ℕ) → length bs ≡ 0 → bs ≡ []
    nothing [] e = refl
    nothing (b ∷ bs) e = absurd (omega arith)

pub fault_rest : (names : ImageNames) (text : List ℕ) (lines : List ScriptLine) (bytes rest : List ℕ) (fault : ScriptFault) (line last : ℕ) → length text ≤ longest_text → length lines + 1 ≤ most_lines → IsReadTo names text lines bytes → IsRight names lines bytes (end last) rest → line ≡ length lines + 2 → IsFaultOfRest names lines rest line fault → IsFault names text fault
fault_rest names text lines bytes rest fault line last short few read right is wrong = inr (inr (record {
  short = short;
  said = read.said;
  lines = lines;
  bytes = bytes;
  begun = read.begun;
  few = few;
  last = last;
  rest = rest;
  ends = right;
  fault_is = subst (λ n. IsFaultOfRest names lines rest n fault) is wrong;
}))

pub few_more : (lines more : List ScriptLine) (line : ScriptLine) (most : ℕ) → more ≡ lines ++ line ∷ [] → length lines + 1 ≤ most → length more ≤ most
few_more lines more line most is few = let e = ap length is ∙ length-append lines (line ∷ []) in omega (arith, e)
