-- Names that are words.
use Rattle.std.proofs.Common.{◌≡◌, ◌≢◌, ℕ, ◌+◌, ◌<◌, suc, zero, List, [], ◌∷◌, ◌++◌, length, refl, sym, ap, subst, ◌∙◌, arith, append_assoc, ◌⊎◌, inl, inr, All}
use Rattle.std.specs.Prelude.{slice_get, unwrap_or, option_map}
use Rattle.std.proofs.lemmas.Option.{unwrap_or-slice_get}
use Rattle.std.proofs.lemmas.List.Elements.{All-head, All-tail}
use Rattle.text_fields.specs.Fields.{IsWord, Lacks, IsCutAt}
use Rattle.text_fields.proofs.Cuts.{cut_once, cut_lacks}
use Rattle.image.specs.declared.names.ImageNames.{ImageNames}
use Rattle.image.specs.declared.names.ConditionName.{ConditionName}
use Rattle.image.specs.declared.names.DeviceName.{DeviceName}
use Rattle.event_log.specs.Line.{condition_name, device_name, monitor_name, qualified}
use Rattle.event_log.specs.Logs.{AreWordNames}

below_or : (i k : ℕ) → i < k + 1 → (i < k) ⊎ (i ≡ k)
below_or zero zero below = inr refl
below_or zero (suc k) below = inl (omega arith)
below_or (suc i) zero below = absurd (omega arith)
below_or (suc i) (suc k) below = next (below_or i k (omega arith))
  where
    next : (i < k) ⊎ (i ≡ k) → (suc i < suc k) ⊎ (suc i ≡ suc k)
    next (inl less) = inl (omega arith)
    next (inr same) = inr (ap suc same)

-- what holds below a number and of it holds below the next
pub below_more : (P : ℕ → Type 0) (k : ℕ) → ((i : ℕ) → i < k → P i) → P k → (i : ℕ) → i < k + 1 → P i
below_more P k all here i below = at (below_or i k below)
  where
    at : (i < k) ⊎ (i ≡ k) → P i
    at (inl less) = all i less
    at (inr same) = subst P (sym same) here

pub word_at : (xs : List (List ℕ)) (k : ℕ) → k < length xs → All IsWord xs → IsWord (unwrap_or (slice_get xs k) [])
word_at xs k below words = subst IsWord (sym (unwrap_or-slice_get xs k [])) (words k [] below)

pub device_word : (xs : List DeviceName) (k : ℕ) → k < length xs → All (λ device. IsWord device.name) xs → IsWord (unwrap_or (option_map (λ (device : DeviceName). device.name) (slice_get xs k)) [])
device_word [] k below words = absurd (omega arith)
device_word (x ∷ xs) zero below words = All-head (λ (device : DeviceName). IsWord device.name) x xs words
device_word (x ∷ xs) (suc k) below words = device_word xs k (omega arith) (All-tail (λ (device : DeviceName). IsWord device.name) x xs words)

-- a condition's name is two words
pub record IsPair (name : List ℕ) : Type 0 where
  pub monitor : List ℕ
  pub own : List ℕ
  pub first : IsWord monitor
  pub second : IsWord own
  pub text : name ≡ monitor ++ 32 ∷ own

pair_at : (names : ImageNames) (xs : List ConditionName) (k : ℕ) → k < length xs → All IsWord names.monitors → All (λ condition. IsWord condition.name) xs → All (λ condition. condition.mon < length names.monitors) xs → IsPair (qualified names (slice_get xs k))
pair_at names [] k below monitors words placed = absurd (omega arith)
pair_at names (x ∷ xs) zero below monitors words placed = record {
  monitor = monitor_name names x.mon;
  own = x.name;
  first = word_at names.monitors x.mon (All-head (λ (condition : ConditionName). condition.mon < length names.monitors) x xs placed) monitors;
  second = All-head (λ (condition : ConditionName). IsWord condition.name) x xs words;
  text = refl;
}
pair_at names (x ∷ xs) (suc k) below monitors words placed =
    pair_at names xs k (omega arith) monitors (All-tail (λ (condition : ConditionName). IsWord condition.name) x xs words) (All-tail (λ (condition : ConditionName). condition.mon < length names.monitors) x xs placed)

pub condition_pair : (names : ImageNames) (c : ℕ) → AreWordNames names → c < length names.conditions → IsPair (condition_name names c)
condition_pair names c words below = pair_at names names.conditions c below words.monitors words.conditions words.placed

-- two cuts at one byte are one
pub same_cut : (stop : ℕ) (bytes before after a b : List ℕ) → IsCutAt stop bytes before after → Lacks stop a → bytes ≡ a ++ stop ∷ b → (before ≡ a) × (after ≡ b)
same_cut stop bytes before after a b cut l e = cut_once stop before after a b cut.first l (sym cut.whole ∙ e)

-- ---- what stands behind a condition

asked_text : (name last monitor own : List ℕ) → name ≡ monitor ++ 32 ∷ own → name ++ 32 ∷ last ≡ monitor ++ 32 ∷ (own ++ 32 ∷ last)
asked_text name last monitor own e = ap (λ n. n ++ 32 ∷ last) e ∙ append_assoc monitor (32 ∷ own) (32 ∷ last)

pub unasked : (names : ImageNames) (bytes : List ℕ) → AreWordNames names → Lacks 32 bytes → (c : ℕ) (last : List ℕ) → c < length names.conditions → bytes ≢ condition_name names c ++ 32 ∷ last
unasked names bytes words l c last below e = cut_lacks 32 bytes (condition_name names c) last l e

pub unasked_after : (names : ImageNames) (bytes before after : List ℕ) → AreWordNames names → IsCutAt 32 bytes before after → Lacks 32 after → (c : ℕ) (last : List ℕ) → c < length names.conditions → bytes ≢ condition_name names c ++ 32 ∷ last
unasked_after names bytes before after words cut l c last below e =
    let pair = condition_pair names c words below in
    let first = pair.first in
    let same = same_cut 32 bytes before after pair.monitor (pair.own ++ 32 ∷ last) cut first.no_space (e ∙ asked_text (condition_name names c) last pair.monitor pair.own pair.text) in
    cut_lacks 32 after pair.own last l same.1

-- both words of a condition, and what stands behind them
pub asked_parts : (names : ImageNames) (bytes before after own rest : List ℕ) (c : ℕ) (last : List ℕ) → AreWordNames names → IsCutAt 32 bytes before after → IsCutAt 32 after own rest → c < length names.conditions → bytes ≡ condition_name names c ++ 32 ∷ last → (condition_name names c ≡ before ++ 32 ∷ own) × (rest ≡ last)
asked_parts names bytes before after own rest c last words cut more below e =
    let pair = condition_pair names c words below in
    let first = pair.first in
    let second = pair.second in
    let same = same_cut 32 bytes before after pair.monitor (pair.own ++ 32 ∷ last) cut first.no_space (e ∙ asked_text (condition_name names c) last pair.monitor pair.own pair.text) in
    let next = same_cut 32 after own rest pair.own last more second.no_space same.1 in
    (pair.text ∙ ap (λ m. m ++ 32 ∷ pair.own) (sym same.0) ∙ ap (λ n. before ++ 32 ∷ n) (sym next.0), next.1)

pub unasked_name : (names : ImageNames) (bytes before after own rest : List ℕ) → AreWordNames names → IsCutAt 32 bytes before after → IsCutAt 32 after own rest → ((c : ℕ) → c < length names.conditions → condition_name names c ≢ before ++ 32 ∷ own) → (c : ℕ) (last : List ℕ) → c < length names.conditions → bytes ≢ condition_name names c ++ 32 ∷ last
unasked_name names bytes before after own rest words cut more none c last below e =
    let r = asked_parts names bytes before after own rest c last words cut more below e in
    none c below r.0

pub unasked_front : (names : ImageNames) (bytes before after own rest front : List ℕ) → AreWordNames names → IsCutAt 32 bytes before after → IsCutAt 32 after own rest → front ≡ before ++ 32 ∷ own → ((c : ℕ) → c < length names.conditions → condition_name names c ≢ front) → (c : ℕ) (last : List ℕ) → c < length names.conditions → bytes ≢ condition_name names c ++ 32 ∷ last
unasked_front names bytes before after own rest front words cut more is none = unasked_name names bytes before after own rest words cut more (λ c below e. none c below (e ∙ sym is))

-- behind two conditions stands the same
pub same_last : (names : ImageNames) (bytes : List ℕ) (c d : ℕ) (last other : List ℕ) → AreWordNames names → c < length names.conditions → d < length names.conditions → bytes ≡ condition_name names c ++ 32 ∷ last → bytes ≡ condition_name names d ++ 32 ∷ other → (condition_name names c ≡ condition_name names d) × (last ≡ other)
same_last names bytes c d last other words below within e f =
    let p = condition_pair names c words below in
    let q = condition_pair names d words within in
    let p1 = p.first in let p2 = p.second in let q1 = q.first in let q2 = q.second in
    let both = sym (asked_text (condition_name names c) last p.monitor p.own p.text) ∙ sym e ∙ f ∙ asked_text (condition_name names d) other q.monitor q.own q.text in
    let r = cut_once 32 p.monitor (p.own ++ 32 ∷ last) q.monitor (q.own ++ 32 ∷ other) p1.no_space q1.no_space both in
    let s = cut_once 32 p.own last q.own other p2.no_space q2.no_space r.1 in
    (p.text ∙ ap (λ m. m ++ 32 ∷ p.own) r.0 ∙ ap (λ n. q.monitor ++ 32 ∷ n) s.0 ∙ sym q.text, s.1)

-- what stands behind a condition is found
pub unasked_last : (names : ImageNames) (bytes : List ℕ) (c : ℕ) (last : List ℕ) → AreWordNames names → c < length names.conditions → bytes ≡ condition_name names c ++ 32 ∷ last → (d : ℕ) (other : List ℕ) → d < length names.conditions → last ≢ other → bytes ≢ condition_name names d ++ 32 ∷ other
unasked_last names bytes c last words below e d other within differ f =
    let r = same_last names bytes c d last other words below within e f in differ r.1

-- ---- a device and a value

pub no_transfer_device : (names : ImageNames) (bytes before after : List ℕ) → AreWordNames names → IsCutAt 32 bytes before after → ((d : ℕ) → d < length names.devices → device_name names d ≢ before) → (d : ℕ) (value : List ℕ) → d < length names.devices → bytes ≢ device_name names d ++ 32 ∷ value
no_transfer_device names bytes before after words cut none d value below e =
    let word = device_word names.devices d below words.devices in
    let same = same_cut 32 bytes before after (device_name names d) value cut word.no_space e in
    none d below (sym same.0)

pub no_transfer_value : (names : ImageNames) (bytes before after : List ℕ) → AreWordNames names → IsCutAt 32 bytes before after → (d : ℕ) (value : List ℕ) → d < length names.devices → after ≢ value → bytes ≢ device_name names d ++ 32 ∷ value
no_transfer_value names bytes before after words cut d value below none e =
    let word = device_word names.devices d below words.devices in
    let same = same_cut 32 bytes before after (device_name names d) value cut word.no_space e in
    none same.1
