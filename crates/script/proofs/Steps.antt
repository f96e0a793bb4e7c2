-- One more line of a script.
use Rattle.std.proofs.Common.{◌≡◌, ℕ, ◌+◌, ◌<◌, ◌≤◌, List, [], ◌∷◌, ◌++◌, length, get_or, map, Bool, true, false, cond, Option, Some, None, refl, ap, sym, subst, ◌∙◌, arith, append_assoc, option_map, slice_index_or, nat_lt}
use Rattle.std.proofs.lemmas.List.{map-append}
use Rattle.std.proofs.lemmas.List.Elements.{All-push}
use Rattle.std.proofs.lemmas.List.Quantifiers.{all_pairs_push}
use Rattle.std.proofs.lemmas.Bool.Decides.{nat_tests}
use Rattle.image.specs.declared.names.ImageNames.{ImageNames}
use Rattle.script.specs.declared.script.ScriptLine.{ScriptLine}
use Rattle.script.specs.declared.script.ScriptLine.TheVariants.{Set, Occur}
use Rattle.script.specs.declared.fault.Flaw.{Flaw}
use Rattle.script.specs.declared.fault.Flaw.TheVariants.{Soon}
use Rattle.script.specs.Saying.{Said, set, event, end, IsInForm, spelled, text_of}
use Rattle.script.specs.Scripts.{meaning, tick_of, frame_of, in_device, event_number, IsLater, IsApart, IsBegun}
use Rattle.script.specs.Faults.{last_tick, last_of, is_from, too_soon, first_flaw, event_too_soon, flaw, IsRight}
use Rattle.script.specs.Reading.{IsPast, IsUpTo, IsUpToLast}

-- a line with no flaw is known, in order and not too soon
first_flaw_none : (number : Option ℕ) (in_order : Bool) (soon : Option Flaw) → first_flaw number in_order soon ≡ None → (in_order ≡ true) × (soon ≡ None)
first_flaw_none None in_order soon e = cc
first_flaw_none (Some number) false soon e = cc
first_flaw_none (Some number) true soon e = (refl, e)

set_means : (tick : ℕ) (number : Option ℕ) (line : ScriptLine) (f : ℕ → ScriptLine) → ((n : ℕ) → tick_of (f n) ≡ tick) → option_map f number ≡ Some line → tick_of line ≡ tick
set_means tick None line f at e = cc
set_means tick (Some n) line f at e = let same : f n ≡ line = cc in ap tick_of (sym same) ∙ at n

-- what a line means has its tick, which is not below the last one
pub right_order : (names : ImageNames) (lines : List ScriptLine) (said : Said) (line : ScriptLine) → flaw names lines said ≡ None → meaning names said ≡ Some line → is_from (tick_of line) (last_tick lines) ≡ true
right_order names lines (set tick dev value) line right means =
    let r = first_flaw_none (in_device names dev) (is_from tick (last_tick lines)) None right in
    subst (λ t. is_from t (last_tick lines) ≡ true) (sym (set_means tick (in_device names dev) line (λ n. Set tick n value) (λ n. refl) means)) r.0
right_order names lines (event tick name) line right means =
    let r = first_flaw_none (event_number names name) (is_from tick (last_tick lines)) (event_too_soon names lines tick (event_number names name)) right in
    subst (λ t. is_from t (last_tick lines) ≡ true) (sym (set_means tick (event_number names name) line (λ n. Occur tick n) (λ n. refl) means)) r.0
right_order names lines (end tick) line right means = cc

-- an occurrence no later than the last one is a frame before one that is not too soon
soon_free : (last : Option ℕ) (tick frame before : ℕ) → IsUpTo last before → too_soon tick frame last ≡ None → before + frame ≤ tick
soon_free None tick frame before up free = absurd up
soon_free (Some last) tick frame before up free = at (nat_lt tick (last + frame)) refl free
  where
    at : (b : Bool) → nat_lt tick (last + frame) ≡ b → cond b (Some (Soon last tick)) None ≡ None → before + frame ≤ tick
    at true e f = cc
    at false e f = grind (arith, nat_tests)

apart_before : (names : ImageNames) (lines : List ScriptLine) (last : Option ℕ) (occurred : List (Option ℕ)) (tick number : ℕ) (line : ScriptLine) → IsPast names lines last occurred → number < length names.events → IsUpToLast occurred line → too_soon tick (frame_of names number) (last_of number lines) ≡ None → IsApart names line (Occur tick number)
apart_before names lines last occurred tick number (Set t d v) past below up free = tt
apart_before names lines last occurred tick number (Occur t e) past below up free = λ same.
    let up_here : IsUpTo (slice_index_or occurred number None) t = subst (λ k. IsUpTo (slice_index_or occurred k None) t) same up in
    let up_last : IsUpTo (last_of number lines) t = subst (λ o. IsUpTo o t) (past.each number below) up_here in
    let here : t + frame_of names number ≤ tick = soon_free (last_of number lines) tick (frame_of names number) t up_last free in
    subst (λ k. t + frame_of names k ≤ tick) (sym same) here

apart_set : (names : ImageNames) (line : ScriptLine) (tick dev : ℕ) (value : _) → IsApart names line (Set tick dev value)
apart_set names (Set t d v) tick dev value = tt
apart_set names (Occur t e) tick dev value = tt

event_apart : (names : ImageNames) (lines : List ScriptLine) (last : Option ℕ) (occurred : List (Option ℕ)) (tick : ℕ) (number : Option ℕ) (line next : ScriptLine) → IsPast names lines last occurred → ((n : ℕ) → number ≡ Some n → n < length names.events) → IsUpToLast occurred line → event_too_soon names lines tick number ≡ None → option_map (λ n. Occur tick n) number ≡ Some next → IsApart names line next
event_apart names lines last occurred tick None line next past within up free means = cc
event_apart names lines last occurred tick (Some n) line next past within up free means =
    let same : Occur tick n ≡ next = cc in
    subst (IsApart names line) same (apart_before names lines last occurred tick n line past (within n refl) up free)

set_apart : (names : ImageNames) (line next : ScriptLine) (tick : ℕ) (number : Option ℕ) (value : _) → option_map (λ n. Set tick n value) number ≡ Some next → IsApart names line next
set_apart names line next tick None value means = cc
set_apart names line next tick (Some n) value means = let same : Set tick n value ≡ next = cc in subst (IsApart names line) same (apart_set names line tick n value)

-- a line that is right stands apart from each before it
pub right_apart : (names : ImageNames) (lines : List ScriptLine) (last : Option ℕ) (occurred : List (Option ℕ)) (said : Said) (line next : ScriptLine) → IsPast names lines last occurred → ((name : List ℕ) (n : ℕ) → event_number names name ≡ Some n → n < length names.events) → IsUpToLast occurred line → flaw names lines said ≡ None → meaning names said ≡ Some next → IsApart names line next
right_apart names lines last occurred (set tick dev value) line next past within up right means = set_apart names line next tick (in_device names dev) value means
right_apart names lines last occurred (event tick name) line next past within up right means =
    let r = first_flaw_none (event_number names name) (is_from tick (last_tick lines)) (event_too_soon names lines tick (event_number names name)) right in
    event_apart names lines last occurred tick (event_number names name) line next past (within name) up r.1 means
right_apart names lines last occurred (end tick) line next past within up right means = cc

pub up_to_from : (last : Option ℕ) (tick next : ℕ) → IsUpTo last tick → is_from next last ≡ true → tick ≤ next
up_to_from None tick next up from = absurd up
up_to_from (Some last) tick next up from = grind (arith, nat_tests)

pub text_push : (said : List Said) (next : Said) (rest : List ℕ) → text_of said ++ (spelled next ++ 10 ∷ rest) ≡ text_of (said ++ next ∷ []) ++ rest
text_push [] next rest = sym (append_assoc (spelled next) (10 ∷ []) rest)
text_push (s ∷ said) next rest =
    append_assoc (spelled s) (10 ∷ text_of said) (spelled next ++ 10 ∷ rest)
    ∙ ap (λ t. spelled s ++ 10 ∷ t) (text_push said next rest)
    ∙ sym (append_assoc (spelled s) (10 ∷ text_of (said ++ next ∷ [])) rest)

-- one more line
pub one_more : (names : ImageNames) (text : List ℕ) (said : List Said) (lines : List ScriptLine) (bytes : List ℕ) (next : Said) (line : ScriptLine) (rest : List ℕ) (last : Option ℕ) (occurred : List (Option ℕ)) → ((name : List ℕ) (n : ℕ) → event_number names name ≡ Some n → n < length names.events) → IsPast names lines last occurred → IsBegun names text said lines bytes → IsRight names lines bytes next rest → meaning names next ≡ Some line → IsBegun names text (said ++ next ∷ []) (lines ++ line ∷ []) rest
one_more names text said lines bytes next line rest last occurred within past begun right means = record {
  form = All-push IsInForm said next begun.form right.begins.form;
  whole = begun.whole ∙ ap (λ t. text_of said ++ t) right.begins.text ∙ text_push said next rest;
  means = map-append (meaning names) said (next ∷ []) ∙ ap (λ t. t ++ meaning names next ∷ []) begun.means ∙ ap (λ m. map (λ l. Some l) lines ++ m ∷ []) means ∙ sym (map-append (λ l. Some l) lines (line ∷ []));
  respects = record {
    order = all_pairs_push IsLater lines line begun.respects.order (λ k d below. up_to_from last (tick_of (get_or lines k d)) (tick_of line) (past.up_to k d below) from);
    frames = all_pairs_push (IsApart names) lines line begun.respects.frames (λ k d below. right_apart names lines last occurred next (get_or lines k d) line past within (past.up_to_last k d below) right.right means);
  };
}
  where
    from : is_from (tick_of line) last ≡ true
    from = subst (λ o. is_from (tick_of line) o ≡ true) (sym past.last_is) (right_order names lines next line right.right means)
